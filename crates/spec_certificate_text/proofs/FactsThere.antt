-- Facts that were read are what the bytes begin with.
use Rattle.std.proofs.Common.{◌≡◌, ◌≢◌, ℕ, zero, suc, ◌+◌, ◌<◌, ◌≤◌, ◌==◌, nat_lt, nat_le, if◌then◌else◌, Bool, true, false, List, [], ◌∷◌, ◌++◌, length, take, drop, Option, Some, None, refl, sym, ◌∙◌, ap, subst, arith, codes}
use Rattle.std.proofs.lemmas.Bool.Decides.{nat_tests}
use Rattle.std.proofs.lemmas.List.{take-append-drop}
use Rattle.std.specs.List.{AllByRecursion, prefix_len}
use Rattle.spec_trees.specs.Tree.{trees, depth}
use Rattle.spec_calculus.specs.Bounds.{most_term_levels}
use Rattle.spec_calculus.specs.Syntax.{Declared, Protocol}
use Rattle.spec_calculus.specs.Points.{greatest_phase}
use Rattle.spec_protocol_tokens.specs.Bytes.{begins_word, is_in_word}
use Rattle.spec_terms.specs.Term.{Term}
use Rattle.spec_clauses.specs.Fact.{Fact, Att, Mess, Tab, Ev, Mev, Bad}
use Rattle.spec_certificate_text.specs.Loose.{onto, row}
use Rattle.spec_certificate_text.specs.OfProtocol.{IsPhase, IsDeclaredOver, IsTermBelow, most_variables}
use Rattle.spec_certificate_text.specs.Written.{written_row, written_call}
use Rattle.spec_certificate_text.specs.Text.{term_text, phase_text, fact_text}
use Rattle.spec_certificate_text.specs.Names.{CalledEvent, called_in}
use Rattle.spec_certificate_text.specs.Terms.{Syntax, Symbol}
use Rattle.spec_certificate_text.specs.Runs.{Read, Done, Refused, read_tree}
use Rattle.spec_certificate_text.specs.Outcomes.{Outcome, Found, Faulty, next, front, read_fixed, read_number, things}
use Rattle.spec_certificate_text.specs.Facts.{term_outcome, one_tree, one_term, item_before, read_terms, Performed, performed, event_named, call_before, read_call, read_event, read_entry, is_later_phase, as_phase, read_phase, read_att, read_mess, read_tab, read_ev, read_mev, bad_arguments, read_bad, read_mev_or_mess, read_hypothesis, read_conclusion}
use Rattle.spec_certificate_text.specs.Readable.{MayStand, IsHypothesisOf, IsConclusionOf}
use Rattle.spec_certificate_text.proofs.ReadRuns.{read_tree-sound}
use Rattle.spec_certificate_text.proofs.Kept.{read_tree-kept}
use Rattle.spec_certificate_text.proofs.Runs.{both_left, both_right}
use Rattle.spec_certificate_text.proofs.Called.{called_in_is}
use Rattle.spec_certificate_text.proofs.Parts.{IsThere, Sound, Parts, parts, chosen, equal_byte, front_is, fixed_there, ended_found, number_text, number_there}
use Rattle.spec_certificate_text.proofs.Things.{things_text, IsOne, things_there}

pub as_done : (o : Read) (t : Term) (p : ℕ) (r : List ℕ) → term_outcome o ≡ Found t p r → o ≡ Done t p r
as_done (Done u q s) t p r e = cc
as_done (Refused q c) t p r e = absurd (cc)

-- a term of a fact, or a side of a constraint, that may stand
abbrev pub Stands : Bool → Protocol → Term → Type 0
Stands binds P t = IsTermBelow (most_variables binds) P t × (depth t ≤ most_term_levels)

-- such a term that was read before a byte
tree_there : (binds : Bool) (P : Protocol) (bytes : List ℕ) (at : ℕ) (t : Term) (p b : ℕ) (k r : List ℕ) → one_tree binds P bytes at ≡ Found t p k → k ≡ b ∷ r → IsThere (term_text P) (Stands binds P) bytes t (b ∷ r)
tree_there binds P bytes at t p b k r e is =
    let read : read_tree binds P bytes at ≡ Done t p (b ∷ r) = as_done (read_tree binds P bytes at) t p (b ∷ r) (e ∙ ap (Found t p) is) in
    record { text = read_tree-sound binds P bytes at t p (b ∷ r) read; is = read_tree-kept binds P bytes at t p (b ∷ r) read }

term_there : (P : Protocol) (bytes : List ℕ) (at : ℕ) (t : Term) (p b : ℕ) (k r : List ℕ) → one_term P bytes at ≡ Found t p k → k ≡ b ∷ r → IsThere (term_text P) (MayStand P) bytes t (b ∷ r)
term_there P bytes at t p b k r e is = tree_there false P bytes at t p b k r e is

-- a term was read, and then these bytes
record TermThen {B : Type 0} (P : Protocol) (ws : List ℕ) (f : Term → ℕ → List ℕ → Outcome B) (bytes : List ℕ) (y : B) (p : ℕ) (r : List ℕ) : Type 0 where
  term : Term
  place : ℕ
  rest : List ℕ
  there : IsThere (term_text P) (MayStand P) bytes term (ws ++ rest)
  later : f term place rest ≡ Found y p r

abbrev fixed_behind : {B : Type 0} → List ℕ → (Term → ℕ → List ℕ → Outcome B) → Term → ℕ → List ℕ → Outcome B
fixed_behind ws f t p r = next (read_fixed ws r p) (λ _ q k. f t q k)

term_then : {B : Type 0} (P : Protocol) (w : ℕ) (ws : List ℕ) (f : Term → ℕ → List ℕ → Outcome B) (bytes : List ℕ) (at : ℕ) (y : B) (p : ℕ) (r : List ℕ) → next (one_term P bytes at) (fixed_behind (w ∷ ws) f) ≡ Found y p r → TermThen P (w ∷ ws) f bytes y p r
term_then P w ws f bytes at y p r e =
    let cut = parts (one_term P bytes at) (fixed_behind (w ∷ ws) f) y p r e in
    let end = parts (read_fixed (w ∷ ws) cut.rest cut.place) (λ _ q k. f cut.value q k) y p r cut.later in
    let closes : cut.rest ≡ w ∷ (ws ++ end.rest) = fixed_there (w ∷ ws) cut.rest cut.place end.value end.place end.rest end.first in
    record { term = cut.value; place = end.place; rest = end.rest; there = term_there P bytes at cut.value cut.place w cut.rest (ws ++ end.rest) cut.first closes; later = end.later }

-- Rows of terms, and of sides.

-- a term, and a comma or the byte that closes the row
abbrev pub item_text : Protocol → ℕ → Term × Bool → List ℕ → List ℕ
item_text P closing (t, true) rest = term_text P t (44 ∷ rest)
item_text P closing (t, false) rest = term_text P t (closing ∷ rest)

abbrev told_behind : ℕ → Term → ℕ → List ℕ → Outcome (Term × Bool)
told_behind closing t place rest =
    if front rest == 44 then Found (t, true) (place + 1) (drop 1 rest) else (if front rest == closing then Found (t, false) (place + 1) (drop 1 rest) else Faulty place Syntax)

pub item_there : (binds : Bool) (P : Protocol) (closing : ℕ) → 0 ≢ closing → Sound (item_text P closing) (IsOne (Stands binds P)) (item_before closing (one_tree binds P))
item_there binds P closing some bytes at x p r e = by x cut.value cut.place cut.rest cut.first cut.later
  where
    cut : Parts (one_tree binds P bytes at) (told_behind closing) x p r
    cut = parts (one_tree binds P bytes at) _ x p r e

    by : (y : Term × Bool) (t : Term) (q : ℕ) (k : List ℕ) → one_tree binds P bytes at ≡ Found t q k → told_behind closing t q k ≡ Found y p r → IsThere (item_text P closing) (IsOne (Stands binds P)) bytes y r
    by y t q k read found =
        chosen (front k == 44) (Found (t, true) (q + 1) (drop 1 k)) (if front k == closing then Found (t, false) (q + 1) (drop 1 k) else Faulty q Syntax) y p r (IsThere (item_text P closing) (IsOne (Stands binds P)) bytes y r) found
        (λ comma more.
        let here = tree_there binds P bytes at t q 44 k (drop 1 k) read (front_is k 44 (equal_byte (front k) 44 comma) (λ never. absurd (cc))) in
        let same : (t, true) ≡ y = cc in
        let rests : drop 1 k ≡ r = cc in
        subst (λ z. IsThere (item_text P closing) (IsOne (Stands binds P)) bytes z r) same record { text = here.text ∙ ap (λ s. term_text P t (44 ∷ s)) rests; is = here.is })
        (λ no_comma other. chosen (front k == closing) (Found (t, false) (q + 1) (drop 1 k)) (Faulty q Syntax) y p r (IsThere (item_text P closing) (IsOne (Stands binds P)) bytes y r) other
        (λ closes end.
        let here = tree_there binds P bytes at t q closing k (drop 1 k) read (front_is k closing (equal_byte (front k) closing closes) some) in
        let same : (t, false) ≡ y = cc in
        let rests : drop 1 k ≡ r = cc in
        subst (λ z. IsThere (item_text P closing) (IsOne (Stands binds P)) bytes z r) same record { text = here.text ∙ ap (λ s. term_text P t (closing ∷ s)) rests; is = here.is })
        (λ stays never. absurd (cc)))

pub row_closed : (P : Protocol) (closing : ℕ) (t : Term) (ts : List Term) (rest : List ℕ) → things_text (item_text P closing) t ts rest ≡ row (written_row P (trees (t ∷ ts))) (closing ∷ rest)
row_closed P closing t [] rest = refl
row_closed P closing t (u ∷ us) rest = ap (λ k. term_text P t (44 ∷ k)) (row_closed P closing u us rest)

-- terms in a row, one at least
pub record RowThere (binds : Bool) (P : Protocol) (closing : ℕ) (bytes : List ℕ) (ts : List Term) (rest : List ℕ) : Type 0 where
  pub first : Term
  pub others : List Term
  pub is : ts ≡ first ∷ others
  pub text : bytes ≡ row (written_row P (trees (first ∷ others))) (closing ∷ rest)
  pub each : AllByRecursion (Stands binds P) (first ∷ others)

pub row_there : (binds : Bool) (P : Protocol) (closing : ℕ) → 0 ≢ closing → (bytes : List ℕ) (at : ℕ) (ts : List Term) (p : ℕ) (r : List ℕ) → things (item_before closing (one_tree binds P)) bytes at ≡ Found ts p r → RowThere binds P closing bytes ts r
row_there binds P closing some bytes at ts p r e =
    let there = things_there (item_text P closing) (Stands binds P) (item_before closing (one_tree binds P)) (item_there binds P closing some) (length bytes) [] bytes at ts p r e in
    record { first = there.first; others = there.others; is = there.is; text = there.text ∙ row_closed P closing there.first there.others r; each = there.each }

-- terms of a fact
abbrev pub TermsThere : Protocol → List ℕ → List Term → List ℕ → Type 0
TermsThere P bytes ts rest = RowThere false P 41 bytes ts rest

pub terms_there : (P : Protocol) (bytes : List ℕ) (at : ℕ) (ts : List Term) (p : ℕ) (r : List ℕ) → read_terms P bytes at ≡ Found ts p r → TermsThere P bytes ts r
terms_there P bytes at ts p r e = row_there false P 41 (λ never. absurd (cc)) bytes at ts p r e

-- Events and entries.

abbrev pub call_text : Protocol → List Declared → Performed → List ℕ → List ℕ
call_text P ds e rest = onto (written_call P ds e.event e.arguments) rest

abbrev pub event_text : Protocol → Performed → List ℕ → List ℕ
event_text P e rest = call_text P P.events e rest

abbrev pub entry_text : Protocol → Performed → List ℕ → List ℕ
entry_text P e rest = call_text P P.tables e rest

pub record IsCallOf (P : Protocol) (ds : List Declared) (e : Performed) : Type 0 where
  pub event : IsDeclaredOver ds e.event (length e.arguments)
  pub each : AllByRecursion (MayStand P) e.arguments

abbrev pub IsPerformed : Protocol → Performed → Type 0
IsPerformed P e = IsCallOf P P.events e

abbrev pub IsEntry : Protocol → Performed → Type 0
IsEntry P e = IsCallOf P P.tables e

performed_there : (P : Protocol) (ds : List Declared) (bytes : List ℕ) (from : ℕ) (called : CalledEvent) (ts : List Term) (q : ℕ) (k : List ℕ) (e : Performed) (p : ℕ) (r : List ℕ) → IsDeclaredOver ds called.number called.arity → AllByRecursion (MayStand P) ts
    → bytes ≡ onto (written_call P ds called.number ts) k → performed from called ts q k ≡ Found e p r → IsThere (call_text P ds) (IsCallOf P ds) bytes e r
performed_there P ds bytes from called ts q k e p r is each text found =
    let made : Performed = record { event = called.number; arguments = ts } in
    chosen (length ts == called.arity) (Found made q k) (Faulty from _) e p r (IsThere (call_text P ds) (IsCallOf P ds) bytes e r) found
    (λ fits end.
    let same : made ≡ e = cc in
    let rests : k ≡ r = cc in
    subst (λ x. IsThere (call_text P ds) (IsCallOf P ds) bytes x r) same record {
      text = text ∙ ap (onto (written_call P ds called.number ts)) rests;
      is = record { event = subst (IsDeclaredOver ds called.number) (sym (equal_byte (length ts) called.arity fits)) is; each = each };
    })
    (λ misfits never. absurd (cc))

named_there : (P : Protocol) (ds : List Declared) (bytes word : List ℕ) (called : Option CalledEvent) (from q : ℕ) (k : List ℕ) (e : Performed) (p : ℕ) (r : List ℕ) → bytes ≡ word ++ k → called_in ds word ≡ called → event_named P called from q k ≡ Found e p r
    → IsThere (call_text P ds) (IsCallOf P ds) bytes e r
named_there P ds bytes word None from q k e p r text is found = absurd (cc)
named_there P ds bytes word (Some called) from q k e p r text is found =
    let named = called_in_is ds word called is in
    let spelled : bytes ≡ onto (written_call P ds called.number []) k = text ∙ ap (λ w. w ++ k) (sym named.has_word) in
    chosen (front k == 40) (next (read_terms P (drop 1 k) (q + 1)) (λ ts p r. performed from called ts p r)) (performed from called [] q k) e p r (IsThere (call_text P ds) (IsCallOf P ds) bytes e r) found
    (λ opens some.
    let cut = parts (read_terms P (drop 1 k) (q + 1)) (λ ts p r. performed from called ts p r) e p r some in
    let there = terms_there P (drop 1 k) (q + 1) cut.value cut.place cut.rest cut.first in
    let opened : k ≡ 40 ∷ drop 1 k = front_is k 40 (equal_byte (front k) 40 opens) (λ never. absurd (cc)) in
    performed_there P ds bytes from called (there.first ∷ there.others) cut.place cut.rest e p r named.is_of there.each
    (spelled ∙ ap (λ s. onto (written_call P ds called.number []) s) (opened ∙ ap (λ s. 40 ∷ s) there.text))
    (ap (λ ts. performed from called ts cut.place cut.rest) (sym there.is) ∙ cut.later))
    (λ alone bare. performed_there P ds bytes from called [] q k e p r named.is_of tt spelled bare)

call_there : (P : Protocol) (ds : List Declared) → Sound (call_text P ds) (IsCallOf P ds) (read_call P ds)
call_there P ds bytes at e p r found =
    let long = prefix_len is_in_word bytes in
    let word = take long bytes in
    chosen (begins_word (front bytes)) (call_before P ds word at (at + long) (drop long bytes)) (Faulty at Syntax) e p r (IsThere (call_text P ds) (IsCallOf P ds) bytes e r) found
    (λ begins named. named_there P ds bytes word (called_in ds word) at (at + long) (drop long bytes) e p r (sym (take-append-drop long bytes)) refl
    (ended_found (at + long) (drop long bytes) (event_named P (called_in ds word) at (at + long) (drop long bytes)) e p r named))
    (λ none never. absurd (cc))

pub event_there : (P : Protocol) → Sound (event_text P) (IsPerformed P) (read_event P)
event_there P bytes at e p r found = call_there P P.events bytes at e p r found

entry_there : (P : Protocol) → Sound (entry_text P) (IsEntry P) (read_entry P)
entry_there P bytes at e p r found = call_there P P.tables bytes at e p r found

-- Phases.

pub later_is_phase : (P : Protocol) (k : ℕ) → is_later_phase P k ≡ true → (0 < k) × (k ≤ greatest_phase P.main)
later_is_phase P k e =
    let after : nat_lt 0 k ≡ true = both_left (nat_lt 0 k) (nat_le k (greatest_phase P.main)) e in
    let within : nat_le k (greatest_phase P.main) ≡ true = both_right (nat_lt 0 k) (nat_le k (greatest_phase P.main)) e in
    (grind (arith, nat_tests, after), grind (arith, nat_tests, within))

later_text : (k : ℕ) (rest : List ℕ) → 0 < k → 64 ∷ number_text k rest ≡ phase_text k rest
later_text zero rest some = absurd (omega (arith, some))
later_text (suc k) rest some = refl

pub phase_there : (P : Protocol) → Sound phase_text (IsPhase P) (read_phase P)
phase_there P bytes at k p r found =
    let least : 0 ≤ greatest_phase P.main = omega arith in
    chosen (front bytes == 64) (next (read_number (drop 1 bytes) (at + 1)) (λ n q s. as_phase P (at + 1) n q s)) (Found 0 at bytes) k p r (IsThere phase_text (IsPhase P) bytes k r) found
    (λ is later.
    let cut = parts (read_number (drop 1 bytes) (at + 1)) (λ n q s. as_phase P (at + 1) n q s) k p r later in
    let there = number_there (drop 1 bytes) (at + 1) cut.value cut.place cut.rest cut.first in
    let opened : bytes ≡ 64 ∷ drop 1 bytes = front_is bytes 64 (equal_byte (front bytes) 64 is) (λ never. absurd (cc)) in
    chosen (is_later_phase P cut.value) (Found cut.value cut.place cut.rest) (Faulty (at + 1) Symbol) k p r (IsThere phase_text (IsPhase P) bytes k r) cut.later
    (λ fits end.
    let same : cut.value ≡ k = cc in
    let rests : cut.rest ≡ r = cc in
    let may = later_is_phase P cut.value fits in
    subst (λ n. IsThere phase_text (IsPhase P) bytes n r) same record {
      text = opened ∙ (ap (λ s. 64 ∷ s) there.text ∙ (later_text cut.value cut.rest may.0 ∙ ap (phase_text cut.value) rests));
      is = (may.1, there.is);
    })
    (λ misfits never. absurd (cc)))
    (λ isnt first.
    let same : 0 ≡ k = cc in
    let rests : bytes ≡ r = cc in
    subst (λ n. IsThere phase_text (IsPhase P) bytes n r) same record { text = rests; is = (least, omega arith) })

-- Facts, each of its kind.
record OfKind {X : Type 0} (P : Protocol) (of : X → Fact Term) (Is : X → Type 0) (bytes : List ℕ) (f : Fact Term) (rest : List ℕ) : Type 0 where
  value : X
  made : of value ≡ f
  is : Is value
  text : bytes ≡ fact_text P (of value) rest

kind_there : {X : Type 0} (P : Protocol) (of : X → Fact Term) (Is : X → Type 0) (May : Fact Term → Type 0) (bytes : List ℕ) (f : Fact Term) (rest : List ℕ) → ((x : X) → Is x → May (of x)) → OfKind P of Is bytes f rest → IsThere (fact_text P) May bytes f rest
kind_there P of Is May bytes f rest may kind = subst (λ g. IsThere (fact_text P) May bytes g rest) kind.made record { text = kind.text; is = may kind.value kind.is }

-- a predicate, its phase and `(` were read, and then something else
pub record PhaseThen {B : Type 0} (P : Protocol) (w : List ℕ) (f : ℕ → ℕ → List ℕ → Outcome B) (bytes : List ℕ) (y : B) (p : ℕ) (r : List ℕ) : Type 0 where
  pub phase : ℕ
  pub place : ℕ
  pub rest : List ℕ
  pub is : IsPhase P phase
  pub text : bytes ≡ w ++ phase_text phase (40 ∷ rest)
  pub later : f phase place rest ≡ Found y p r

pub phase_then : {B : Type 0} (P : Protocol) (w : List ℕ) (f : ℕ → ℕ → List ℕ → Outcome B) (bytes : List ℕ) (at : ℕ) (y : B) (p : ℕ) (r : List ℕ)
    → next (read_fixed w bytes at) (λ _ p r. next (read_phase P r p) (λ k p r. next (read_fixed (codes "(") r p) (λ _ p r. f k p r))) ≡ Found y p r → PhaseThen P w f bytes y p r
phase_then P w f bytes at y p r e =
    let begin = parts (read_fixed w bytes at) (λ _ p r. next (read_phase P r p) (λ k p r. next (read_fixed (codes "(") r p) (λ _ p r. f k p r))) y p r e in
    let word = fixed_there w bytes at begin.value begin.place begin.rest begin.first in
    let phase = parts (read_phase P begin.rest begin.place) (λ k p r. next (read_fixed (codes "(") r p) (λ _ p r. f k p r)) y p r begin.later in
    let there = phase_there P begin.rest begin.place phase.value phase.place phase.rest phase.first in
    let paren = parts (read_fixed (codes "(") phase.rest phase.place) (λ _ p r. f phase.value p r) y p r phase.later in
    let opens = fixed_there (codes "(") phase.rest phase.place paren.value paren.place paren.rest paren.first in
    record {
      phase = phase.value;
      place = paren.place;
      rest = paren.rest;
      is = there.is;
      text = word ∙ ap (λ k. w ++ k) (there.text ∙ ap (phase_text phase.value) opens);
      later = paren.later;
    }

abbrev known : ℕ × Term → Fact Term
known x = Att x.0 x.1

abbrev InPhaseStands : Protocol → ℕ × Term → Type 0
InPhaseStands P x = IsPhase P x.0 × MayStand P x.1

att_there : (P : Protocol) (bytes : List ℕ) (at : ℕ) (f : Fact Term) (p : ℕ) (r : List ℕ) → read_att P bytes at ≡ Found f p r → OfKind P known (InPhaseStands P) bytes f r
att_there P bytes at f p r e =
    let begin = phase_then P (codes "att") (λ k p r. next (one_term P r p) (λ t p r. next (read_fixed (codes ")") r p) (λ _ p r. Found (Att k t) p r))) bytes at f p r e in
    let one = term_then P 41 [] (λ t p r. Found (Att begin.phase t) p r) begin.rest begin.place f p r begin.later in
    let made : Att begin.phase one.term ≡ f = cc in
    let rests : one.rest ≡ r = cc in
    record {
      value = (begin.phase, one.term);
      made = made;
      is = (begin.is, one.there.is);
      text = begin.text ∙ ap (λ k. codes "att" ++ phase_text begin.phase (40 ∷ k)) (one.there.text ∙ ap (λ k. term_text P one.term (41 ∷ k)) rests);
    }

abbrev message : ℕ × Term × Term → Fact Term
message x = Mess x.0 x.1 x.2

abbrev BothStand : Protocol → ℕ × Term × Term → Type 0
BothStand P x = IsPhase P x.0 × MayStand P x.1 × MayStand P x.2

mess_there : (P : Protocol) (bytes : List ℕ) (at : ℕ) (f : Fact Term) (p : ℕ) (r : List ℕ) → read_mess P bytes at ≡ Found f p r → OfKind P message (BothStand P) bytes f r
mess_there P bytes at f p r e =
    let begin = phase_then P (codes "mess")
    (λ k p r. next (one_term P r p) (λ t p r. next (read_fixed (codes ",") r p) (λ _ p r. next (one_term P r p) (λ u p r. next (read_fixed (codes ")") r p) (λ _ p r. Found (Mess k t u) p r))))) bytes at f p r e in
    let one = term_then P 44 [] (λ t p r. next (one_term P r p) (λ u p r. next (read_fixed (codes ")") r p) (λ _ p r. Found (Mess begin.phase t u) p r))) begin.rest begin.place f p r begin.later in
    let two = term_then P 41 [] (λ u p r. Found (Mess begin.phase one.term u) p r) one.rest one.place f p r one.later in
    let made : Mess begin.phase one.term two.term ≡ f = cc in
    let rests : two.rest ≡ r = cc in
    record {
      value = (begin.phase, one.term, two.term);
      made = made;
      is = (begin.is, one.there.is, two.there.is);
      text = begin.text ∙ ap (λ k. codes "mess" ++ phase_text begin.phase (40 ∷ k)) (one.there.text ∙ ap (λ k. term_text P one.term (44 ∷ k)) (two.there.text ∙ ap (λ k. term_text P two.term (41 ∷ k)) rests));
    }

abbrev stored : Performed → Fact Term
stored e = Tab e.event e.arguments

tab_there : (P : Protocol) (bytes : List ℕ) (at : ℕ) (f : Fact Term) (p : ℕ) (r : List ℕ) → read_tab P bytes at ≡ Found f p r → OfKind P stored (IsEntry P) bytes f r
tab_there P bytes at f p r e =
    let begin = parts (read_fixed (codes "tab(") bytes at) _ f p r e in
    let opens = fixed_there (codes "tab(") bytes at begin.value begin.place begin.rest begin.first in
    let one = parts (read_entry P begin.rest begin.place) _ f p r begin.later in
    let there = entry_there P begin.rest begin.place one.value one.place one.rest one.first in
    let end = parts (read_fixed (codes ")") one.rest one.place) _ f p r one.later in
    let closes = fixed_there (codes ")") one.rest one.place end.value end.place end.rest end.first in
    let made : stored one.value ≡ f = cc in
    let rests : end.rest ≡ r = cc in
    record { value = one.value; made = made; is = there.is; text = opens ∙ ap (λ k. codes "tab(" ++ k) (there.text ∙ ap (entry_text P one.value) (closes ∙ ap (λ k. 41 ∷ k) rests)) }

abbrev happened : Performed → Fact Term
happened e = Ev e.event e.arguments

abbrev must_happen : Performed → Fact Term
must_happen e = Mev e.event e.arguments

ev_there : (P : Protocol) (bytes : List ℕ) (at : ℕ) (f : Fact Term) (p : ℕ) (r : List ℕ) → read_ev P bytes at ≡ Found f p r → OfKind P happened (IsPerformed P) bytes f r
ev_there P bytes at f p r e =
    let begin = parts (read_fixed (codes "ev(") bytes at) _ f p r e in
    let opens = fixed_there (codes "ev(") bytes at begin.value begin.place begin.rest begin.first in
    let one = parts (read_event P begin.rest begin.place) _ f p r begin.later in
    let there = event_there P begin.rest begin.place one.value one.place one.rest one.first in
    let end = parts (read_fixed (codes ")") one.rest one.place) _ f p r one.later in
    let closes = fixed_there (codes ")") one.rest one.place end.value end.place end.rest end.first in
    let made : happened one.value ≡ f = cc in
    let rests : end.rest ≡ r = cc in
    record { value = one.value; made = made; is = there.is; text = opens ∙ ap (λ k. codes "ev(" ++ k) (there.text ∙ ap (event_text P one.value) (closes ∙ ap (λ k. 41 ∷ k) rests)) }

mev_there : (P : Protocol) (bytes : List ℕ) (at : ℕ) (f : Fact Term) (p : ℕ) (r : List ℕ) → read_mev P bytes at ≡ Found f p r → OfKind P must_happen (IsPerformed P) bytes f r
mev_there P bytes at f p r e =
    let begin = parts (read_fixed (codes "mev(") bytes at) _ f p r e in
    let opens = fixed_there (codes "mev(") bytes at begin.value begin.place begin.rest begin.first in
    let one = parts (read_event P begin.rest begin.place) _ f p r begin.later in
    let there = event_there P begin.rest begin.place one.value one.place one.rest one.first in
    let end = parts (read_fixed (codes ")") one.rest one.place) _ f p r one.later in
    let closes = fixed_there (codes ")") one.rest one.place end.value end.place end.rest end.first in
    let made : must_happen one.value ≡ f = cc in
    let rests : end.rest ≡ r = cc in
    record { value = one.value; made = made; is = there.is; text = opens ∙ ap (λ k. codes "mev(" ++ k) (there.text ∙ ap (event_text P one.value) (closes ∙ ap (λ k. 41 ∷ k) rests)) }

abbrev row_text : Protocol → List Term → List ℕ → List ℕ
row_text P ts rest = row (written_row P (trees ts)) (41 ∷ rest)

bad_arguments_there : (P : Protocol) → Sound (row_text P) (AllByRecursion (MayStand P)) (bad_arguments P)
bad_arguments_there P bytes at ts p r e =
    chosen (front bytes == 41) (Found [] (at + 1) (drop 1 bytes)) (read_terms P bytes at) ts p r (IsThere (row_text P) (AllByRecursion (MayStand P)) bytes ts r) e
    (λ closes none.
    let same : [] ≡ ts = cc in
    let rests : drop 1 bytes ≡ r = cc in
    let there : IsThere (row_text P) (AllByRecursion (MayStand P)) bytes [] r = record { text = front_is bytes 41 (equal_byte (front bytes) 41 closes) (λ never. absurd (cc)) ∙ ap (λ k. 41 ∷ k) rests; is = tt } in
    subst (λ us. IsThere (row_text P) (AllByRecursion (MayStand P)) bytes us r) same there)
    (λ other some.
    let there = terms_there P bytes at ts p r some in
    let told : IsThere (row_text P) (AllByRecursion (MayStand P)) bytes (there.first ∷ there.others) r = record { text = there.text; is = there.each } in
    subst (λ us. IsThere (row_text P) (AllByRecursion (MayStand P)) bytes us r) (sym there.is) told)

bad_there : (P : Protocol) (bytes : List ℕ) (at : ℕ) (f : Fact Term) (p : ℕ) (r : List ℕ) → read_bad P bytes at ≡ Found f p r → OfKind P Bad (AllByRecursion (MayStand P)) bytes f r
bad_there P bytes at f p r e =
    let begin = parts (read_fixed (codes "bad(") bytes at) _ f p r e in
    let opens = fixed_there (codes "bad(") bytes at begin.value begin.place begin.rest begin.first in
    let all = parts (bad_arguments P begin.rest begin.place) _ f p r begin.later in
    let there = bad_arguments_there P begin.rest begin.place all.value all.place all.rest all.first in
    let made : Bad all.value ≡ f = cc in
    let rests : all.rest ≡ r = cc in
    record { value = all.value; made = made; is = there.is; text = opens ∙ ap (λ k. codes "bad(" ++ k) (there.text ∙ ap (row_text P all.value) rests) }

pub hypothesis_there : (P : Protocol) → Sound (fact_text P) (IsHypothesisOf P) (read_hypothesis P)
hypothesis_there P bytes at f p r e =
    chosen (front bytes == 109) (read_mev_or_mess P bytes at) (if front bytes == 101 then read_ev P bytes at else (if front bytes == 116 then read_tab P bytes at else read_att P bytes at)) f p r (IsThere (fact_text P) (IsHypothesisOf P) bytes f r) e
    (λ m found. chosen (front (drop 2 bytes) == 118) (read_mev P bytes at) (read_mess P bytes at) f p r (IsThere (fact_text P) (IsHypothesisOf P) bytes f r) found
    (λ v mev. kind_there P must_happen (IsPerformed P) (IsHypothesisOf P) bytes f r (λ x is. (is.event, is.each)) (mev_there P bytes at f p r mev))
    (λ no_v mess. kind_there P message (BothStand P) (IsHypothesisOf P) bytes f r (λ x is. is) (mess_there P bytes at f p r mess)))
    (λ no_m other. chosen (front bytes == 101) (read_ev P bytes at) (if front bytes == 116 then read_tab P bytes at else read_att P bytes at) f p r (IsThere (fact_text P) (IsHypothesisOf P) bytes f r) other
    (λ v ev. kind_there P happened (IsPerformed P) (IsHypothesisOf P) bytes f r (λ x is. (is.event, is.each)) (ev_there P bytes at f p r ev))
    (λ no_v rest. chosen (front bytes == 116) (read_tab P bytes at) (read_att P bytes at) f p r (IsThere (fact_text P) (IsHypothesisOf P) bytes f r) rest
    (λ t tab. kind_there P stored (IsEntry P) (IsHypothesisOf P) bytes f r (λ x is. (is.event, is.each)) (tab_there P bytes at f p r tab))
    (λ no_t att. kind_there P known (InPhaseStands P) (IsHypothesisOf P) bytes f r (λ x is. is) (att_there P bytes at f p r att))))

pub conclusion_there : (P : Protocol) → Sound (fact_text P) (IsConclusionOf P) (read_conclusion P)
conclusion_there P bytes at f p r e =
    chosen (front bytes == 109) (read_mess P bytes at) (if front bytes == 101 then read_ev P bytes at else (if front bytes == 98 then read_bad P bytes at else (if front bytes == 116 then read_tab P bytes at else read_att P bytes at))) f p r (IsThere (fact_text P) (IsConclusionOf P) bytes f r) e
    (λ m mess. kind_there P message (BothStand P) (IsConclusionOf P) bytes f r (λ x is. is) (mess_there P bytes at f p r mess))
    (λ no_m other. chosen (front bytes == 101) (read_ev P bytes at) (if front bytes == 98 then read_bad P bytes at else (if front bytes == 116 then read_tab P bytes at else read_att P bytes at)) f p r (IsThere (fact_text P) (IsConclusionOf P) bytes f r) other
    (λ v ev. kind_there P happened (IsPerformed P) (IsConclusionOf P) bytes f r (λ x is. (is.event, is.each)) (ev_there P bytes at f p r ev))
    (λ no_v rest. chosen (front bytes == 98) (read_bad P bytes at) (if front bytes == 116 then read_tab P bytes at else read_att P bytes at) f p r (IsThere (fact_text P) (IsConclusionOf P) bytes f r) rest
    (λ b bad. kind_there P Bad (AllByRecursion (MayStand P)) (IsConclusionOf P) bytes f r (λ x is. is) (bad_there P bytes at f p r bad))
    (λ no_b last. chosen (front bytes == 116) (read_tab P bytes at) (read_att P bytes at) f p r (IsThere (fact_text P) (IsConclusionOf P) bytes f r) last
    (λ t tab. kind_there P stored (IsEntry P) (IsConclusionOf P) bytes f r (λ x is. (is.event, is.each)) (tab_there P bytes at f p r tab))
    (λ no_t att. kind_there P known (InPhaseStands P) (IsConclusionOf P) bytes f r (λ x is. is) (att_there P bytes at f p r att)))))
