-- Facts and constraints: a fault of syntax, and what is found, is told by the bytes up to the place.
use Rattle.std.proofs.Common.{◌≡◌, ℕ, ◌+◌, ◌==◌, if◌then◌else◌, Bool, true, false, List, [], ◌∷◌, length, drop, Option, Some, None, codes, refl, sym, ◌∙◌}
use Rattle.spec_calculus.specs.Syntax.{Declared, Protocol}
use Rattle.spec_protocol_tokens.specs.Bytes.{begins_word, is_in_word}
use Rattle.spec_terms.specs.Term.{Term}
use Rattle.spec_clauses.specs.Fact.{Fact, Att, Mess, Tab, Ev, Mev, Bad}
use Rattle.spec_certificate_text.specs.Sides.{SidesOf}
use Rattle.spec_certificate_text.specs.Names.{CalledEvent, called_in}
use Rattle.spec_certificate_text.specs.Terms.{Syntax, Symbol, Arity}
use Rattle.spec_certificate_text.specs.Outcomes.{Outcome, Found, Faulty, next, front, ended, read_fixed, read_number, Reader, things}
use Rattle.spec_certificate_text.specs.Facts.{one_tree, one_term, item_before, read_terms, Performed, performed, event_named, read_call, read_event, read_entry, is_later_phase, as_phase, read_later_phase, read_phase, read_att, read_mess, read_tab, read_ev, bad_arguments, read_bad, read_mev_or_mess, read_hypothesis, read_conclusion, read_sides, paired, read_diff}
use Rattle.spec_reading_faults.proofs.Shared.{IsLocal, Moves, next_local, moves_first, moves_second, choice_local, choice_moves, found_local, skip_local, skip_moves, never_local, other_local, ended_local}
use Rattle.spec_reading_faults.proofs.Terms.{tree_local}
use Rattle.spec_reading_faults.proofs.Parts.{same_local, either_local, fixed_local, fixed_moves, run, run_local, number_local, things_local}

-- fixed bytes, and then the thing is there
closed_by : {A : Type 0} → List ℕ → A → Reader A
closed_by ws x bytes at = next (read_fixed ws bytes at) (λ _ p r. Found x p r)

closed_by-local : {A : Type 0} (ws : List ℕ) (x : A) → IsLocal (closed_by ws x)
unfolding closed_by
closed_by-local ws x = next_local (read_fixed ws) (λ at u k p. Found x p k) (fixed_local ws) (λ at u. found_local x)

-- one byte is passed over
skipping : {A : Type 0} → A → Reader A
skipping x bytes at = Found x (at + 1) (drop 1 bytes)

skipping_local : {A : Type 0} (x : A) → IsLocal (skipping x)
unfolding skipping
skipping_local x = skip_local x

skipping_moves : {A : Type 0} (x : A) → Moves (skipping x)
unfolding skipping
skipping_moves x bytes at place y rest e = skip_moves x bytes at place y rest e

no_thing : {A : Type 0} → Reader A
no_thing bytes at = Faulty at Syntax

no_thing-local : {A : Type 0} → IsLocal {A = A} no_thing
unfolding no_thing
no_thing-local = never_local

no_thing-moves : {A : Type 0} → Moves {A = A} no_thing
unfolding no_thing
no_thing-moves {A} bytes at place y rest e = absurd (cc)

-- `,` where another follows, or the byte that closes the row
behind_item : ℕ → Term → Reader (Term × Bool)
behind_item closing t bytes at = if front bytes == 44 then skipping (t, true) bytes at else (if front bytes == closing then skipping (t, false) bytes at else no_thing bytes at)

behind_item-local : (closing : ℕ) (t : Term) → IsLocal (behind_item closing t)
unfolding behind_item
behind_item-local closing t =
    choice_local (λ b. b == 44) (skipping (t, true)) (λ bytes at. if front bytes == closing then skipping (t, false) bytes at else no_thing bytes at) (skipping_local (t, true))
    (choice_local (λ b. b == closing) (skipping (t, false)) no_thing (skipping_local (t, false)) no_thing-local)

behind_item-moves : (closing : ℕ) (t : Term) → Moves (behind_item closing t)
unfolding behind_item
behind_item-moves closing t =
    choice_moves (λ b. b == 44) (skipping (t, true)) (λ bytes at. if front bytes == closing then skipping (t, false) bytes at else no_thing bytes at) (skipping_moves (t, true))
    (choice_moves (λ b. b == closing) (skipping (t, false)) no_thing (skipping_moves (t, false)) no_thing-moves)

item_local : (binds : Bool) (P : Protocol) (closing : ℕ) → IsLocal (item_before closing (one_tree binds P))
unfolding behind_item skipping no_thing
item_local binds P closing = next_local (one_tree binds P) (λ at t. behind_item closing t) (tree_local binds P) (λ at t. behind_item-local closing t)

item_moves : (binds : Bool) (P : Protocol) (closing : ℕ) → Moves (item_before closing (one_tree binds P))
unfolding behind_item skipping no_thing
item_moves binds P closing = moves_second (one_tree binds P) (λ at t. behind_item closing t) (tree_local binds P) (λ at t. behind_item-moves closing t)

pub row_local : (binds : Bool) (P : Protocol) (closing : ℕ) → IsLocal (things (item_before closing (one_tree binds P)))
row_local binds P closing = things_local (item_before closing (one_tree binds P)) (item_local binds P closing) (item_moves binds P closing)

pub terms_local : (P : Protocol) → IsLocal (read_terms P)
terms_local P = row_local false P 41

-- Events and entries.

of_arity : ℕ → CalledEvent → List Term → Reader Performed
of_arity from called ts bytes at = performed from called ts at bytes

of_arity-local : (from : ℕ) (called : CalledEvent) (ts : List Term) → IsLocal (of_arity from called ts)
unfolding of_arity
of_arity-local from called ts =
    let whole : Performed = record { event = called.number; arguments = ts } in
    either_local (length ts == called.arity) (λ bytes at. Found whole at bytes) (λ bytes at. Faulty from Arity) (found_local whole) (other_local from Arity (λ e. cc))

none : Unit {0}
none = tt

with_arguments : Protocol → ℕ → CalledEvent → Reader Performed
with_arguments P from called bytes at = next (skipping none bytes at) (λ u p k. next (read_terms P k p) (λ ts q r. of_arity from called ts r q))

with_arguments-local : (P : Protocol) (from : ℕ) (called : CalledEvent) → IsLocal (with_arguments P from called)
unfolding with_arguments
with_arguments-local P from called =
    next_local (skipping none) (λ at u bytes p. next (read_terms P bytes p) (λ ts q r. of_arity from called ts r q)) (skipping_local none)
    (λ at u. next_local (read_terms P) (λ at ts. of_arity from called ts) (terms_local P) (λ at ts. of_arity-local from called ts))

of_called : Protocol → ℕ → Option CalledEvent → Reader Performed
of_called P from found bytes at = event_named P found from at bytes

of_called-local : (P : Protocol) (from : ℕ) (found : Option CalledEvent) → IsLocal (of_called P from found)
unfolding of_called with_arguments skipping of_arity
of_called-local P from None = other_local from Symbol (λ e. cc)
of_called-local P from (Some called) = choice_local (λ b. b == 40) (with_arguments P from called) (of_arity from called []) (with_arguments-local P from called) (of_arity-local from called [])

of_ended : Protocol → List Declared → ℕ → List ℕ → Reader Performed
of_ended P ds from w bytes at = ended at bytes (of_called P from (called_in ds w) bytes at)

of_ended-local : (P : Protocol) (ds : List Declared) (from : ℕ) (w : List ℕ) → IsLocal (of_ended P ds from w)
unfolding of_ended
of_ended-local P ds from w = ended_local (of_called P from (called_in ds w)) (of_called-local P from (called_in ds w))

of_word : Protocol → List Declared → Reader Performed
of_word P ds bytes at = next (run is_in_word bytes at) (λ w p k. of_ended P ds at w k p)

of_word-local : (P : Protocol) (ds : List Declared) → IsLocal (of_word P ds)
unfolding of_word
of_word-local P ds = next_local (run is_in_word) (λ at w. of_ended P ds at w) (run_local is_in_word) (λ at w. of_ended-local P ds at w)

word_or : Protocol → List Declared → Reader Performed
word_or P ds bytes at = if begins_word (front bytes) then of_word P ds bytes at else no_thing bytes at

call_as : (P : Protocol) (ds : List Declared) (bytes : List ℕ) (at : ℕ) → read_call P ds bytes at ≡ word_or P ds bytes at
unfolding word_or of_word of_ended of_called no_thing run
call_as P ds bytes at = refl

call_local : (P : Protocol) (ds : List Declared) → IsLocal (read_call P ds)
unfolding word_or
call_local P ds = same_local (read_call P ds) (word_or P ds) (call_as P ds) (choice_local begins_word (of_word P ds) no_thing (of_word-local P ds) no_thing-local)

event_local : (P : Protocol) → IsLocal (read_event P)
event_local P = call_local P P.events

entry_local : (P : Protocol) → IsLocal (read_entry P)
entry_local P = call_local P P.tables

-- Phases.

judged_phase : Protocol → ℕ → ℕ → Reader ℕ
judged_phase P from k bytes at = as_phase P from k at bytes

judged_phase-local : (P : Protocol) (from k : ℕ) → IsLocal (judged_phase P from k)
unfolding judged_phase
judged_phase-local P from k = either_local (is_later_phase P k) (λ bytes at. Found k at bytes) (λ bytes at. Faulty from Symbol) (found_local k) (other_local from Symbol (λ e. cc))

pub later_phase-local : (P : Protocol) → IsLocal (read_later_phase P)
unfolding judged_phase
later_phase-local P = next_local read_number (λ at k. judged_phase P at k) number_local (λ at k. judged_phase-local P at k)

marked_phase : Protocol → Reader ℕ
marked_phase P bytes at = next (skipping none bytes at) (λ u p k. read_later_phase P k p)

marked_phase-local : (P : Protocol) → IsLocal (marked_phase P)
unfolding marked_phase
marked_phase-local P = next_local (skipping none) (λ at u. read_later_phase P) (skipping_local none) (λ at u. later_phase-local P)

pub phase_local : (P : Protocol) → IsLocal (read_phase P)
unfolding marked_phase skipping
phase_local P = choice_local (λ b. b == 64) (marked_phase P) (λ bytes at. Found 0 at bytes) (marked_phase-local P) (found_local 0)

-- Facts of each kind.

-- fixed bytes, and then what the other reader reads
pub behind_fixed : {A : Type 0} (ws : List ℕ) (r : Reader A) → IsLocal r → IsLocal (λ bytes at. next (read_fixed ws bytes at) (λ _ p k. r k p))
behind_fixed ws r local = next_local (read_fixed ws) (λ at u. r) (fixed_local ws) (λ at u. local)

pub closing_local : {A : Type 0} (ws : List ℕ) (x : A) → IsLocal (λ bytes at. next (read_fixed ws bytes at) (λ _ p k. Found x p k))
closing_local ws x = behind_fixed ws (λ bytes at. Found x at bytes) (found_local x)

-- the phase and `(`, and then what the other reader reads
in_phase : {A : Type 0} → Protocol → (ℕ → Reader A) → Reader A
in_phase P r bytes at = next (read_phase P bytes at) (λ k p s. next (read_fixed (codes "(") s p) (λ _ q t. r k t q))

in_phase-local : {A : Type 0} (P : Protocol) (r : ℕ → Reader A) → ((k : ℕ) → IsLocal (r k)) → IsLocal (in_phase P r)
unfolding in_phase
in_phase-local P r local = next_local (read_phase P) (λ at k bytes p. next (read_fixed (codes "(") bytes p) (λ _ q t. r k t q)) (phase_local P) (λ at k. behind_fixed (codes "(") (r k) (local k))

att_term : Protocol → ℕ → Reader (Fact Term)
att_term P k bytes at = next (one_term P bytes at) (λ t p r. next (read_fixed (codes ")") r p) (λ _ p r. Found (Att k t) p r))

att_term-local : (P : Protocol) (k : ℕ) → IsLocal (att_term P k)
unfolding att_term
att_term-local P k = next_local (one_term P) (λ at t bytes p. next (read_fixed (codes ")") bytes p) (λ _ p r. Found (Att k t) p r)) (tree_local false P) (λ at t. closing_local (codes ")") (Att k t))

att_local : (P : Protocol) → IsLocal (read_att P)
unfolding in_phase att_term
att_local P = behind_fixed (codes "att") (in_phase P (att_term P)) (in_phase-local P (att_term P) (att_term-local P))

second_term : Protocol → ℕ → Term → Reader (Fact Term)
second_term P k t bytes at = next (one_term P bytes at) (λ u p r. next (read_fixed (codes ")") r p) (λ _ p r. Found (Mess k t u) p r))

second_term-local : (P : Protocol) (k : ℕ) (t : Term) → IsLocal (second_term P k t)
unfolding second_term
second_term-local P k t = next_local (one_term P) (λ at u bytes p. next (read_fixed (codes ")") bytes p) (λ _ p r. Found (Mess k t u) p r)) (tree_local false P) (λ at u. closing_local (codes ")") (Mess k t u))

first_term : Protocol → ℕ → Reader (Fact Term)
first_term P k bytes at = next (one_term P bytes at) (λ t p r. next (read_fixed (codes ",") r p) (λ _ p r. second_term P k t r p))

first_term-local : (P : Protocol) (k : ℕ) → IsLocal (first_term P k)
unfolding first_term
first_term-local P k = next_local (one_term P) (λ at t bytes p. next (read_fixed (codes ",") bytes p) (λ _ p r. second_term P k t r p)) (tree_local false P) (λ at t. behind_fixed (codes ",") (second_term P k t) (second_term-local P k t))

mess_local : (P : Protocol) → IsLocal (read_mess P)
unfolding in_phase first_term second_term
mess_local P = behind_fixed (codes "mess") (in_phase P (first_term P)) (in_phase-local P (first_term P) (first_term-local P))

tab_entry : Protocol → Reader (Fact Term)
tab_entry P bytes at = next (read_entry P bytes at) (λ e p r. next (read_fixed (codes ")") r p) (λ _ p r. Found (Tab e.event e.arguments) p r))

tab_entry-local : (P : Protocol) → IsLocal (tab_entry P)
unfolding tab_entry
tab_entry-local P = next_local (read_entry P) (λ at e bytes p. next (read_fixed (codes ")") bytes p) (λ _ p r. Found (Tab e.event e.arguments) p r)) (entry_local P) (λ at e. closing_local (codes ")") (Tab e.event e.arguments))

tab_local : (P : Protocol) → IsLocal (read_tab P)
unfolding tab_entry
tab_local P = behind_fixed (codes "tab(") (tab_entry P) (tab_entry-local P)

ev_event : Protocol → Reader (Fact Term)
ev_event P bytes at = next (read_event P bytes at) (λ e p r. next (read_fixed (codes ")") r p) (λ _ p r. Found (Ev e.event e.arguments) p r))

ev_event-local : (P : Protocol) → IsLocal (ev_event P)
unfolding ev_event
ev_event-local P = next_local (read_event P) (λ at e bytes p. next (read_fixed (codes ")") bytes p) (λ _ p r. Found (Ev e.event e.arguments) p r)) (event_local P) (λ at e. closing_local (codes ")") (Ev e.event e.arguments))

ev_local : (P : Protocol) → IsLocal (read_ev P)
unfolding ev_event
ev_local P = behind_fixed (codes "ev(") (ev_event P) (ev_event-local P)

mev_event : Protocol → Reader (Fact Term)
mev_event P bytes at = next (read_event P bytes at) (λ e p r. next (read_fixed (codes ")") r p) (λ _ p r. Found (Mev e.event e.arguments) p r))

mev_event-local : (P : Protocol) → IsLocal (mev_event P)
unfolding mev_event
mev_event-local P = next_local (read_event P) (λ at e bytes p. next (read_fixed (codes ")") bytes p) (λ _ p r. Found (Mev e.event e.arguments) p r)) (event_local P) (λ at e. closing_local (codes ")") (Mev e.event e.arguments))

bad_arguments-local : (P : Protocol) → IsLocal (bad_arguments P)
unfolding skipping
bad_arguments-local P = choice_local (λ b. b == 41) (skipping []) (read_terms P) (skipping_local []) (terms_local P)

bad_local : (P : Protocol) → IsLocal (read_bad P)
bad_local P =
    behind_fixed (codes "bad(") (λ bytes at. next (bad_arguments P bytes at) (λ ts p r. Found (Bad ts) p r))
    (next_local (bad_arguments P) (λ at ts bytes p. Found (Bad ts) p bytes) (bad_arguments-local P) (λ at ts. found_local (Bad ts)))

-- `mev` and `mess` begin with the same two bytes, and the third tells them apart.

third : Protocol → Reader (Fact Term)
third P bytes at =
    if front bytes == 118 then next (read_fixed (codes "v(") bytes at) (λ _ p k. mev_event P k p)
    else next (read_fixed (codes "ss") bytes at) (λ _ p k. in_phase P (first_term P) k p)

third_local : (P : Protocol) → IsLocal (third P)
unfolding third
third_local P =
    choice_local (λ b. b == 118) (λ bytes at. next (read_fixed (codes "v(") bytes at) (λ _ p k. mev_event P k p)) (λ bytes at. next (read_fixed (codes "ss") bytes at) (λ _ p k. in_phase P (first_term P) k p))
    (behind_fixed (codes "v(") (mev_event P) (mev_event-local P)) (behind_fixed (codes "ss") (in_phase P (first_term P)) (in_phase-local P (first_term P) (first_term-local P)))

behind_me : Protocol → Reader (Fact Term)
behind_me P bytes at = next (read_fixed (codes "me") bytes at) (λ _ p k. third P k p)

one_way : {A : Type 0} (t : Bool) (o : Outcome A) → (if t then o else o) ≡ o
one_way true o = refl
one_way false o = refl

me_as : (P : Protocol) (bytes : List ℕ) (at : ℕ) → read_mev_or_mess P bytes at ≡ behind_me P bytes at
unfolding behind_me third mev_event in_phase first_term second_term read_fixed
me_as P [] at = refl
me_as P (b ∷ []) at = by (b == 109)
  where
    by : (t : Bool) → next {A = Unit {0}} {B = Fact Term} (if t then Faulty (at + 1) Syntax else Faulty at Syntax) (λ _ p r. in_phase P (first_term P) r p) ≡ next {A = Unit {0}} {B = Fact Term} (if t then Faulty (at + 1) Syntax else Faulty at Syntax) (λ _ p k. third P k p)
    by true = refl
    by false = refl
me_as P (b ∷ c ∷ bytes) at = by (b == 109) (c == 101)
  where
    by : (t u : Bool) → (if front bytes == 118 then next (if t then (if u then read_fixed (codes "v(") bytes (at + 1 + 1) else Faulty (at + 1) Syntax) else Faulty at Syntax) (λ _ p k. mev_event P k p)
        else next (if t then (if u then read_fixed (codes "ss") bytes (at + 1 + 1) else Faulty (at + 1) Syntax) else Faulty at Syntax) (λ _ p k. in_phase P (first_term P) k p))
        ≡ next {A = Unit {0}} {B = Fact Term} (if t then (if u then Found tt (at + 1 + 1) bytes else Faulty (at + 1) Syntax) else Faulty at Syntax) (λ _ p k. third P k p)
    by true true = refl
    by true false = one_way (front bytes == 118) (Faulty (at + 1) Syntax)
    by false true = one_way (front bytes == 118) (Faulty at Syntax)
    by false false = one_way (front bytes == 118) (Faulty at Syntax)

pub mev_or_mess-local : (P : Protocol) → IsLocal (read_mev_or_mess P)
unfolding behind_me
mev_or_mess-local P = same_local (read_mev_or_mess P) (behind_me P) (me_as P) (behind_fixed (codes "me") (third P) (third_local P))

tab_or_att : Protocol → Reader (Fact Term)
tab_or_att P bytes at = if front bytes == 116 then read_tab P bytes at else read_att P bytes at

tab_or_att-local : (P : Protocol) → IsLocal (tab_or_att P)
unfolding tab_or_att
tab_or_att-local P = choice_local (λ b. b == 116) (read_tab P) (read_att P) (tab_local P) (att_local P)

ev_or_att : Protocol → Reader (Fact Term)
ev_or_att P bytes at = if front bytes == 101 then read_ev P bytes at else tab_or_att P bytes at

ev_or_att-local : (P : Protocol) → IsLocal (ev_or_att P)
unfolding ev_or_att
ev_or_att-local P = choice_local (λ b. b == 101) (read_ev P) (tab_or_att P) (ev_local P) (tab_or_att-local P)

pub hypothesis_local : (P : Protocol) → IsLocal (read_hypothesis P)
unfolding ev_or_att tab_or_att
hypothesis_local P = choice_local (λ b. b == 109) (read_mev_or_mess P) (ev_or_att P) (mev_or_mess-local P) (ev_or_att-local P)

bad_or_att : Protocol → Reader (Fact Term)
bad_or_att P bytes at = if front bytes == 98 then read_bad P bytes at else tab_or_att P bytes at

bad_or_att-local : (P : Protocol) → IsLocal (bad_or_att P)
unfolding bad_or_att
bad_or_att-local P = choice_local (λ b. b == 98) (read_bad P) (tab_or_att P) (bad_local P) (tab_or_att-local P)

no_mess : Protocol → Reader (Fact Term)
no_mess P bytes at = if front bytes == 101 then read_ev P bytes at else bad_or_att P bytes at

no_mess-local : (P : Protocol) → IsLocal (no_mess P)
unfolding no_mess
no_mess-local P = choice_local (λ b. b == 101) (read_ev P) (bad_or_att P) (ev_local P) (bad_or_att-local P)

pub conclusion_local : (P : Protocol) → IsLocal (read_conclusion P)
unfolding no_mess bad_or_att tab_or_att
conclusion_local P = choice_local (λ b. b == 109) (read_mess P) (no_mess P) (mess_local P) (no_mess-local P)

-- Constraints.

as_pairs : ℕ → List Term → List Term → Reader (SidesOf Term)
as_pairs from left right bytes at = paired from left right at bytes

as_pairs-local : (from : ℕ) (left right : List Term) → IsLocal (as_pairs from left right)
unfolding as_pairs
as_pairs-local from left right =
    let whole : SidesOf Term = record { left = left; right = right } in
    either_local (length left == length right) (λ bytes at. Found whole at bytes) (λ bytes at. Faulty from Arity) (found_local whole) (other_local from Arity (λ e. cc))

right_sides : Protocol → ℕ → List Term → Reader (SidesOf Term)
right_sides P from left bytes at = next (read_sides P 41 bytes at) (λ right p k. as_pairs from left right k p)

right_sides-local : (P : Protocol) (from : ℕ) (left : List Term) → IsLocal (right_sides P from left)
unfolding right_sides
right_sides-local P from left = next_local (read_sides P 41) (λ at right. as_pairs from left right) (row_local true P 41) (λ at right. as_pairs-local from left right)

both_sides : Protocol → ℕ → Reader (SidesOf Term)
both_sides P from bytes at = next (read_sides P 59 bytes at) (λ left p k. right_sides P from left k p)

both_sides-local : (P : Protocol) (from : ℕ) → IsLocal (both_sides P from)
unfolding both_sides
both_sides-local P from = next_local (read_sides P 59) (λ at left. right_sides P from left) (row_local true P 59) (λ at left. right_sides-local P from left)

pub diff_local : (P : Protocol) → IsLocal (read_diff P)
unfolding both_sides right_sides as_pairs
diff_local P = next_local (read_fixed (codes "diff(")) (λ at u. both_sides P at) (fixed_local (codes "diff(")) (λ at u. both_sides-local P at)

-- Each of them passes over a byte.

moves_fixed : {A : Type 0} (w : ℕ) (ws : List ℕ) (r : Reader A) → IsLocal r → Moves (λ bytes at. next (read_fixed (w ∷ ws) bytes at) (λ _ p k. r k p))
moves_fixed w ws r local = moves_first (read_fixed (w ∷ ws)) (λ at u. r) (fixed_moves w ws) (λ at u. local)

mev_or_mess-moves : (P : Protocol) → Moves (read_mev_or_mess P)
unfolding behind_me
mev_or_mess-moves P bytes at place x rest e = moves_fixed 109 (codes "e") (third P) (third_local P) bytes at place x rest (sym (me_as P bytes at) ∙ e)

ev_moves : (P : Protocol) → Moves (read_ev P)
unfolding ev_event
ev_moves P = moves_fixed 101 (codes "v(") (ev_event P) (ev_event-local P)

tab_moves : (P : Protocol) → Moves (read_tab P)
unfolding tab_entry
tab_moves P = moves_fixed 116 (codes "ab(") (tab_entry P) (tab_entry-local P)

att_moves : (P : Protocol) → Moves (read_att P)
unfolding in_phase att_term
att_moves P = moves_fixed 97 (codes "tt") (in_phase P (att_term P)) (in_phase-local P (att_term P) (att_term-local P))

pub hypothesis_moves : (P : Protocol) → Moves (read_hypothesis P)
unfolding ev_or_att tab_or_att
hypothesis_moves P =
    choice_moves (λ b. b == 109) (read_mev_or_mess P) (ev_or_att P) (mev_or_mess-moves P)
    (choice_moves (λ b. b == 101) (read_ev P) (tab_or_att P) (ev_moves P)
    (choice_moves (λ b. b == 116) (read_tab P) (read_att P) (tab_moves P) (att_moves P)))

pub diff_moves : (P : Protocol) → Moves (read_diff P)
unfolding both_sides right_sides as_pairs
diff_moves P = moves_first (read_fixed (codes "diff(")) (λ at u. both_sides P at) (fixed_moves 100 (codes "iff(")) (λ at u. both_sides-local P at)
