-- Trees of the grammar are read up to their ends, or a fault is told before these.
use Rattle.std.proofs.Common.{◌≡◌, ◌≢◌, ℕ, suc, ◌+◌, ◌-◌, ◌≤◌, ◌⊎◌, inl, inr, Bool, true, false, ◌==◌, ◌&&◌, ◌||◌, List, [], ◌∷◌, ◌++◌, length, drop, Option, Some, None, refl, ◌∙◌, ap, subst, arith, length-append}
use Rattle.spec_trees.specs.Tree.{Leaf, Node, node, none, more, items_of}
use Rattle.spec_trees.proofs.Occurrence.{or_false}
use Rattle.spec_calculus.specs.Syntax.{Protocol}
use Rattle.spec_protocol_tokens.specs.Bytes.{is_in_word}
use Rattle.spec_protocol_scope.specs.Names.{is_variable}
use Rattle.spec_terms.specs.Term.{Term}
use Rattle.spec_run_text.specs.Reading.{numeral}
use Rattle.spec_certificate_text.specs.Loose.{Head, Applied, Tupled, Made, Attackers, Loose, LooseRow, opening, closing, onto, behind}
use Rattle.spec_certificate_text.specs.Spelled.{IsWord, IsBoundWord, goes_on}
use Rattle.spec_certificate_text.specs.Names.{Named, symbol_called}
use Rattle.spec_certificate_text.specs.Terms.{Code, Syntax, Number, Symbol, Arity, Count, Open, Begins, InWord, InDigits, Ended, Reading, Fault}
use Rattle.spec_certificate_text.specs.Steps.{goes, unless_deep, with_parts, has_arity, closed, closing_byte, may_close, may_go_on, may_be_empty, apply, after_term, after_variable, after_name, after_word, step}
use Rattle.spec_certificate_text.proofs.Complete.{reading, taken, passed, same_step, head_over}
use Rattle.spec_certificate_text.proofs.Read.{itself}
use Rattle.spec_certificate_text.proofs.Long.{onto_long, behind_long}
use Rattle.spec_certificate_faults.specs.Grammar.{IsWritten, MayHave, IsInGrammar, AreInGrammar, EndsAt, EndsBefore}
use Rattle.spec_certificate_faults.proofs.Comes.{either, Through, Comes, stopped_sooner, comes_behind, one_byte, halts, StandsBefore, stands_before, deep_or, word_through}
use Rattle.spec_certificate_faults.proofs.Bound.{bound_leaf}
use Rattle.spec_certificate_faults.proofs.Heads.{IsLike, head_read}

-- A word alone.

pub alone_step : (binds : Bool) (P : Protocol) (w : List ℕ) (b place : ℕ) (heads : List Open) (at : ℕ) → goes_on b ≡ false → step binds P place (reading heads (InWord w) at) b ≡ after_word P place heads at w b
alone_step binds P w b place heads at ends =
    let first = (or_false (is_in_word b || (b == 40)) (b == 64) ends).0 in
    passed (is_in_word b) _ _ _ (or_false (is_in_word b) (b == 40) first).0
    (passed (b == 40) (apply heads at (symbol_called P w)) _ _ (or_false (is_in_word b) (b == 40) first).1
    (passed (b == 64) (goes heads (InDigits w []) at) _ _ (or_false (is_in_word b || (b == 40)) (b == 64) ends).1 refl))

variable_long : (w : List ℕ) → is_variable w ≡ true → length w ≡ suc (length (drop 1 w))
variable_long [] e = absurd (cc)
variable_long (b ∷ []) e = absurd (cc)
variable_long (b ∷ d ∷ ds) e = refl

some_digits : (w : List ℕ) → is_variable w ≡ true → 1 ≤ length (drop 1 w)
some_digits [] e = absurd (cc)
some_digits (b ∷ []) e = absurd (cc)
some_digits (b ∷ d ∷ ds) e = omega arith

-- behind the word, what comes of its last step
abbrev Alone : Bool → Protocol → List ℕ → ℕ → List ℕ → ℕ → List Open → ℕ → Type 0
Alone binds P w b k place heads at = Comes binds P (b ∷ k) place (reading heads (InWord w) at) (b ∷ k) heads

ended_alone : (binds : Bool) (P : Protocol) (w : List ℕ) (b : ℕ) (k : List ℕ) (place : ℕ) (heads : List Open) (at : ℕ) (t : Term) → step binds P place (reading heads (InWord w) at) b ≡ after_term place t heads at b → Alone binds P w b k place heads at
ended_alone binds P w b k place heads at t e = inr record {
  term = t;
  since = at;
  through = record { place = place; is = same_step binds P b k place (reading heads (InWord w) at) (reading heads (Ended t) at) e; counted = refl };
}

fault_alone : (binds : Bool) (P : Protocol) (w : List ℕ) (b : ℕ) (k : List ℕ) (place : ℕ) (heads : List Open) (at p : ℕ) (c : Code) → step binds P place (reading heads (InWord w) at) b ≡ Fault p c → p + 1 ≤ place → c ≢ Syntax → Alone binds P w b k place heads at
fault_alone binds P w b k place heads at p c e early other = inl (halts binds P b k place (reading heads (InWord w) at) (b ∷ k) p c e (omega (arith, early)) other)

word_ends : (binds : Bool) (P : Protocol) (w : List ℕ) (b : ℕ) (k : List ℕ) (place : ℕ) (heads : List Open) (at : ℕ) → goes_on b ≡ false → at + length w ≡ place → 1 ≤ length w → Alone binds P w b k place heads at
word_ends binds P w b k place heads at ends long some = by_kind (is_variable w) refl
  where
    by_number : is_variable w ≡ true → step binds P place (reading heads (InWord w) at) b ≡ after_variable place heads at (drop 1 w) (numeral (drop 1 w)) b → (number : Option ℕ) → numeral (drop 1 w) ≡ number → Alone binds P w b k place heads at
    by_number variable is None missing =
        fault_alone binds P w b k place heads at (place - length (drop 1 w)) Number (is ∙ ap (λ o. after_variable place heads at (drop 1 w) o b) missing)
        (omega (arith, long, variable_long w variable, some_digits w variable)) (λ c. cc)
    by_number variable is (Some x) number = ended_alone binds P w b k place heads at (Leaf x) (is ∙ ap (λ o. after_variable place heads at (drop 1 w) o b) number)

    by_arity : step binds P place (reading heads (InWord w) at) b ≡ after_name place heads at (symbol_called P w) b → (named : Named) → symbol_called P w ≡ Some named → (constant : Bool) → (named.arity == 0) ≡ constant → Alone binds P w b k place heads at
    by_arity is named found false takes =
        fault_alone binds P w b k place heads at at Arity (is ∙ (ap (λ o. after_name place heads at o b) found ∙ passed (named.arity == 0) (unless_deep heads at (after_term place (node named.symbol []) heads at b)) (Fault at Arity) _ takes refl))
        (omega (arith, long, some)) (λ c. cc)
    by_arity is named found true constant =
        let ended = after_term place (node named.symbol []) heads at b in
        let here : step binds P place (reading heads (InWord w) at) b ≡ unless_deep heads at ended =
        is ∙ (ap (λ o. after_name place heads at o b) found ∙ taken (named.arity == 0) (unless_deep heads at ended) (Fault at Arity) _ constant refl) in
        either (deep_or heads at ended)
        (λ room. ended_alone binds P w b k place heads at (node named.symbol []) (here ∙ room))
        (λ deep. fault_alone binds P w b k place heads at at Count (here ∙ deep) (omega (arith, long, some)) (λ c. cc))

    by_name : step binds P place (reading heads (InWord w) at) b ≡ after_name place heads at (symbol_called P w) b → (found : Option Named) → symbol_called P w ≡ found → Alone binds P w b k place heads at
    by_name is None missing = fault_alone binds P w b k place heads at at Symbol (is ∙ ap (λ o. after_name place heads at o b) missing) (omega (arith, long, some)) (λ c. cc)
    by_name is (Some named) found = by_arity is named found (named.arity == 0) refl

    by_kind : (variable : Bool) → is_variable w ≡ variable → Alone binds P w b k place heads at
    by_kind true variable =
        let number = after_variable place heads at (drop 1 w) (numeral (drop 1 w)) b in
        let here : step binds P place (reading heads (InWord w) at) b ≡ unless_deep heads at number =
        alone_step binds P w b place heads at ends ∙ taken (is_variable w) (unless_deep heads at number) (after_name place heads at (symbol_called P w) b) _ variable refl in
        either (deep_or heads at number)
        (λ room. by_number variable (here ∙ room) (numeral (drop 1 w)) refl)
        (λ deep. fault_alone binds P w b k place heads at at Count (here ∙ deep) (omega (arith, long, some)) (λ c. cc))
    by_kind false name =
        let number = after_variable place heads at (drop 1 w) (numeral (drop 1 w)) b in
        by_name (alone_step binds P w b place heads at ends ∙ passed (is_variable w) (unless_deep heads at number) (after_name place heads at (symbol_called P w) b) _ name refl) (symbol_called P w) refl

word_some : (w : List ℕ) → IsWord w → 1 ≤ length w
word_some [] is = absurd (let never : false ≡ true = is.begins in cc)
word_some (b ∷ w) is = omega arith

-- A tree is read where a term may begin, up to the rest.
abbrev pub TreeRead : Bool → Protocol → List ℕ → ℕ → List Open → ℕ → List ℕ → Type 0
TreeRead binds P bytes at heads from rest = Comes binds P bytes at (reading heads Begins from) rest heads

word_leaf : (binds : Bool) (P : Protocol) (w : List ℕ) (rest : List ℕ) (at : ℕ) (heads : List Open) (from : ℕ) → IsWord w → EndsAt goes_on rest → StandsBefore heads at → TreeRead binds P (w ++ rest) at heads from rest
word_leaf binds P w [] at heads from word ends before = absurd ends
word_leaf binds P w (b ∷ k) at heads from word ends before =
    let start = reading heads Begins from in
    either (word_through binds P w (b ∷ k) at heads from word before)
    (λ stopped. inl (stopped_sooner binds P (w ++ b ∷ k) at start (w ++ b ∷ k) (b ∷ k) (omega (arith, length-append w (b ∷ k))) stopped))
    (λ one. comes_behind binds P (w ++ b ∷ k) at start (b ∷ k) (reading heads (InWord w) at) (b ∷ k) heads one
    (word_ends binds P w b k one.place heads at ends (omega (arith, one.counted, length-append w (b ∷ k))) (word_some w word)))

leaf_read : (binds : Bool) (P : Protocol) (w : List ℕ) (rest : List ℕ) (at : ℕ) (heads : List Open) (from : ℕ) → IsWord w ⊎ IsBoundWord w → EndsAt goes_on rest → StandsBefore heads at → TreeRead binds P (w ++ rest) at heads from rest
leaf_read binds P w rest at heads from (inl word) ends before = word_leaf binds P w rest at heads from word ends before
leaf_read binds P w rest at heads from (inr bound) ends before = bound_leaf binds P w rest at heads from bound ends before

-- Arguments end.

no_comma : (h : Head) → (closing h == 44) ≡ false
no_comma (Applied w) = refl
no_comma Tupled = refl
no_comma (Made w ds) = refl
no_comma Attackers = refl

closes_or : (binds : Bool) (P : Protocol) (b : ℕ) (rest : List ℕ) (at : ℕ) (r : Reading) (o : Open) (heads : List Open) (ts : List Term) → o.place + 1 ≤ at → step binds P at r b ≡ closed o heads ts → Comes binds P (b ∷ rest) at r rest heads
closes_or binds P b rest at r o heads ts before e = by (has_arity o.symbol o.arity (length ts)) refl
  where
    end : Term
    end = node (with_parts o.symbol (length ts)) ts

    by : (fits : Bool) → has_arity o.symbol o.arity (length ts) ≡ fits → Comes binds P (b ∷ rest) at r rest heads
    by false misfits = inl (halts binds P b rest at r rest o.place Arity (e ∙ passed (has_arity o.symbol o.arity (length ts)) (unless_deep heads o.place (goes heads (Ended (node (with_parts o.symbol (length ts)) ts)) o.place)) (Fault o.place Arity) _ misfits refl) (omega (arith, before)) (λ c. cc))
    by true fits =
        let ended = goes heads (Ended (node (with_parts o.symbol (length ts)) ts)) o.place in
        let here : step binds P at r b ≡ unless_deep heads o.place ended = e ∙ taken (has_arity o.symbol o.arity (length ts)) (unless_deep heads o.place ended) (Fault o.place Arity) _ fits refl in
        either (deep_or heads o.place ended)
        (λ room. inr record { term = node (with_parts o.symbol (length ts)) ts; since = o.place; through = one_byte binds P b rest at r (reading heads (Ended (node (with_parts o.symbol (length ts)) ts)) o.place) (here ∙ room) })
        (λ deep. inl (halts binds P b rest at r rest o.place Count (here ∙ deep) (omega (arith, before)) (λ c. cc)))

-- the last argument ended
last_read : (binds : Bool) (P : Protocol) (h : Head) (o : Open) (heads : List Open) (u : Term) (from at : ℕ) (rest : List ℕ) → IsLike h o.symbol → MayHave h (suc (length o.arguments)) → o.place + 1 ≤ at → Comes binds P (closing h ∷ rest) at (reading (o ∷ heads) (Ended u) from) rest heads
last_read binds P h o heads u from at rest like may before =
    let b = closing h in
    let all = o.arguments ++ u ∷ [] in
    let count : length o.arguments + 1 ≡ suc (length o.arguments) = omega arith in
    let byte : (b == closing_byte o.symbol) ≡ true = ap (λ c. b == c) like.closing_is ∙ itself b in
    let ends : ((b == closing_byte o.symbol) && may_close o.symbol (length o.arguments + 1)) ≡ true =
    ap (λ c. c && may_close o.symbol (length o.arguments + 1)) byte ∙ (ap (may_close o.symbol) count ∙ like.closes (length o.arguments) may) in
    closes_or binds P b rest at (reading (o ∷ heads) (Ended u) from) o heads all before
    (passed ((b == 44) && may_go_on o.symbol) _ _ _ (ap (λ c. c && may_go_on o.symbol) (no_comma h))
    (taken ((b == closing_byte o.symbol) && may_close o.symbol (length o.arguments + 1)) (closed o heads all) (Fault at Syntax) _ ends refl))

-- an argument ended, and a comma follows
abbrev pub further : Open → Term → Open
further o u = record o { arguments = o.arguments ++ u ∷ [] }

pub comma_read : (binds : Bool) (P : Protocol) (o : Open) (heads : List Open) (u : Term) (from at : ℕ) (rest : List ℕ) → may_go_on o.symbol ≡ true → Through binds P (44 ∷ rest) at (reading (o ∷ heads) (Ended u) from) rest (reading (further o u ∷ heads) Begins from)
comma_read binds P o heads u from at rest may = one_byte binds P 44 rest at (reading (o ∷ heads) (Ended u) from) (reading (further o u ∷ heads) Begins from) (taken (may_go_on o.symbol) (goes (further o u ∷ heads) Begins from) _ _ may refl)

-- what follows an argument ends it
pub ends_behind : (t : Loose) (ts : LooseRow) (h : Head) (rest : List ℕ) → EndsBefore t (behind ts (closing h ∷ rest))
ends_behind (Node g us) ts h rest = tt
ends_behind (Leaf w) (more u us) h rest = refl
ends_behind (Leaf w) none (Applied v) rest = refl
ends_behind (Leaf w) none Tupled rest = refl
ends_behind (Leaf w) none (Made v ds) rest = refl
ends_behind (Leaf w) none Attackers rest = refl

-- arguments behind one that ended, and the end of all
abbrev RowRead : Bool → Protocol → LooseRow → Type 0
RowRead binds P ts = (h : Head) (o : Open) (heads : List Open) (u : Term) (from at : ℕ) (rest : List ℕ) → IsLike h o.symbol → MayHave h (suc (length o.arguments + length (items_of ts))) → o.place + 1 ≤ at
    → Comes binds P (behind ts (closing h ∷ rest)) at (reading (o ∷ heads) (Ended u) from) rest heads

abbrev IsRead : Bool → Protocol → Loose → Type 0
IsRead binds P t = (rest : List ℕ) (at : ℕ) (heads : List Open) (from : ℕ) → EndsBefore t rest → StandsBefore heads at → TreeRead binds P (onto t rest) at heads from rest

row_end : (binds : Bool) (P : Protocol) → RowRead binds P none
row_end binds P h o heads u from at rest like may before = last_read binds P h o heads u from at rest like (subst (MayHave h) (omega arith) may) before

-- one more argument, and those behind it
one_more : (binds : Bool) (P : Protocol) (t : Loose) (ts : LooseRow) → IsRead binds P t → RowRead binds P ts → (h : Head) (o : Open) (heads : List Open) (from at : ℕ) (rest : List ℕ) → IsLike h o.symbol → MayHave h (suc (length o.arguments + length (items_of ts))) → o.place + 1 ≤ at
    → Comes binds P (onto t (behind ts (closing h ∷ rest))) at (reading (o ∷ heads) Begins from) rest heads
one_more binds P t ts first later h o heads from at rest like may before =
    let others = behind ts (closing h ∷ rest) in
    let bytes = onto t others in
    let start = reading (o ∷ heads) Begins from in
    either (first others at (o ∷ heads) from (ends_behind t ts h rest) (stands_before o heads at before))
    (λ stopped. inl (stopped_sooner binds P bytes at start others rest (omega (arith, behind_long ts (closing h ∷ rest))) stopped))
    (λ one. comes_behind binds P bytes at start others (reading (o ∷ heads) (Ended one.term) one.since) rest heads one.through
    (later h o heads one.term one.since one.through.place rest like may (omega (arith, before, one.through.counted, onto_long t others))))

row_more : (binds : Bool) (P : Protocol) (t : Loose) (ts : LooseRow) → IsRead binds P t → RowRead binds P ts → RowRead binds P (more t ts)
row_more binds P t ts first later h o heads u from at rest like may before =
    let bytes = onto t (behind ts (closing h ∷ rest)) in
    let comma = comma_read binds P o heads u from at bytes (like.comma (length o.arguments + length (items_of ts)) (subst (MayHave h) (omega arith) may)) in
    let count : suc (length o.arguments + suc (length (items_of ts))) ≡ suc (length (o.arguments ++ u ∷ []) + length (items_of ts)) = omega (arith, length-append o.arguments (u ∷ [])) in
    comes_behind binds P (44 ∷ bytes) at (reading (o ∷ heads) (Ended u) from) bytes (reading (further o u ∷ heads) Begins from) rest heads comma
    (one_more binds P t ts first later h (further o u) heads from comma.place rest like (subst (MayHave h) count may) (omega (arith, before, comma.counted)))

-- a head is longer than what follows it
pub opening_longer : (h : Head) (k : List ℕ) → IsWritten h → length k + 1 ≤ length (opening h k)
opening_longer (Applied w) k is = omega (arith, length-append w (40 ∷ k))
opening_longer Tupled k is = omega arith
opening_longer (Made w ds) k is = omega (arith, length-append w (64 ∷ (ds ++ (91 ∷ k))), length-append ds (91 ∷ k))
opening_longer Attackers k is = omega arith

-- a head that has no arguments: `]` follows
empty_read : (binds : Bool) (P : Protocol) (h : Head) (o : Open) (heads : List Open) (from at : ℕ) (rest : List ℕ) → IsLike h o.symbol → MayHave h 0 → o.arguments ≡ [] → o.place + 1 ≤ at → Comes binds P (closing h ∷ rest) at (reading (o ∷ heads) Begins from) rest heads
empty_read binds P (Applied w) o heads from at rest like may bare before = absurd (omega (arith, may))
empty_read binds P Tupled o heads from at rest like may bare before = absurd (omega (arith, may))
empty_read binds P (Made w ds) o heads from at rest like may bare before =
    closes_or binds P 93 rest at (reading (o ∷ heads) Begins from) o heads [] before
    (taken (may_be_empty o.symbol o.arguments) (closed o heads []) _ _ (ap (may_be_empty o.symbol) bare ∙ like.empty may) refl)
empty_read binds P Attackers o heads from at rest like may bare before = absurd (omega (arith, may))

node_empty : (binds : Bool) (P : Protocol) (h : Head) → IsWritten h → MayHave h 0 → IsRead binds P (Node h none)
node_empty binds P h written may rest at heads from ends before =
    let inner = closing h ∷ rest in
    let start = reading heads Begins from in
    either (head_read binds P h inner at heads from written before)
    (λ stopped. inl (stopped_sooner binds P (opening h inner) at start inner rest (omega arith) stopped))
    (λ one. comes_behind binds P (opening h inner) at start inner (reading (head_over one.named at [] ∷ heads) Begins at) rest heads one.through
    (empty_read binds P h (head_over one.named at []) heads at one.through.place rest one.like may refl (omega (arith, one.through.counted, opening_longer h inner written))))

node_some : (binds : Bool) (P : Protocol) (h : Head) (t : Loose) (ts : LooseRow) → IsWritten h → MayHave h (suc (length (items_of ts))) → IsRead binds P t → RowRead binds P ts → IsRead binds P (Node h (more t ts))
node_some binds P h t ts written may first later rest at heads from ends before =
    let inner = onto t (behind ts (closing h ∷ rest)) in
    let start = reading heads Begins from in
    either (head_read binds P h inner at heads from written before)
    (λ stopped. inl (stopped_sooner binds P (opening h inner) at start inner rest (omega (arith, onto_long t (behind ts (closing h ∷ rest)), behind_long ts (closing h ∷ rest))) stopped))
    (λ one. comes_behind binds P (opening h inner) at start inner (reading (head_over one.named at [] ∷ heads) Begins at) rest heads one.through
    (one_more binds P t ts first later h (head_over one.named at []) heads at one.through.place rest one.like (subst (MayHave h) (omega arith) may) (omega (arith, one.through.counted, opening_longer h inner written))))

mutual
  pub tree_read : (binds : Bool) (P : Protocol) (t : Loose) → IsInGrammar t → IsRead binds P t
  tree_read binds P (Leaf w) is rest at heads from ends before = leaf_read binds P w rest at heads from is ends before
  tree_read binds P (Node h none) is rest at heads from ends before = node_empty binds P h is.0 is.1 rest at heads from ends before
  tree_read binds P (Node h (more t ts)) is rest at heads from ends before = node_some binds P h t ts is.0 is.1 (tree_read binds P t is.2.0) (row_read binds P ts is.2.1) rest at heads from ends before

  row_read : (binds : Bool) (P : Protocol) (ts : LooseRow) → AreInGrammar ts → RowRead binds P ts
  row_read binds P none are h o heads u from at rest like may before = row_end binds P h o heads u from at rest like may before
  row_read binds P (more t ts) are h o heads u from at rest like may before = row_more binds P t ts (tree_read binds P t are.0) (row_read binds P ts are.1) h o heads u from at rest like may before
