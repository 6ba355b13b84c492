-- The texts of facts are read as these facts.
use Rattle.std.proofs.Common.{◌≡◌, ℕ, zero, suc, ◌+◌, ◌≤◌, ◌==◌, ◌&&◌, nat_lt, nat_le, if◌then◌else◌, Bool, true, false, List, [], ◌∷◌, ◌++◌, length, take, drop, Some, refl, sym, ◌∙◌, ap, subst, arith, codes}
use Rattle.std.proofs.lemmas.Bool.Decides.{nat_tests}
use Rattle.std.proofs.Math.Seq.{drop-append_seam, take-append_seam}
use Rattle.std.specs.Fmt.{decimal}
use Rattle.std.specs.List.{AllByRecursion, prefix_len}
use Rattle.spec_trees.specs.Tree.{trees}
use Rattle.spec_calculus.specs.Syntax.{Declared, Protocol}
use Rattle.spec_calculus.specs.Points.{greatest_phase}
use Rattle.spec_protocol_tokens.specs.Bytes.{begins_word, is_in_word}
use Rattle.spec_terms.specs.Term.{Term}
use Rattle.spec_clauses.specs.Fact.{Att, Mess, Tab, Ev, Mev, Bad}
use Rattle.spec_certificate_text.specs.Spelled.{IsWord, Stops, goes_on}
use Rattle.spec_certificate_text.specs.Loose.{onto, row}
use Rattle.spec_certificate_text.specs.OfProtocol.{IsPhase, HasNames}
use Rattle.spec_certificate_text.specs.Words.{declared_word}
use Rattle.spec_certificate_text.specs.Written.{written, written_row, written_call}
use Rattle.spec_certificate_text.specs.Text.{term_text, phase_text, fact_text}
use Rattle.spec_certificate_text.proofs.Names.{event_word_is_word, table_word_is_word}
use Rattle.spec_certificate_text.specs.Names.{CalledEvent, called_in}
use Rattle.spec_certificate_text.specs.Terms.{Syntax, Symbol, Arity}
use Rattle.spec_certificate_text.specs.Outcomes.{Outcome, Found, Faulty, next, front, read_fixed, read_number, things}
use Rattle.spec_certificate_text.specs.Facts.{term_outcome, one_tree, one_term, item_before, read_terms, Performed, performed, event_named, call_before, read_call, read_event, read_entry, is_later_phase, as_phase, read_phase, read_att, read_mess, read_tab, read_ev, read_mev, bad_arguments, read_bad, read_hypothesis, read_conclusion}
use Rattle.spec_certificate_text.specs.Readable.{MayStand, IsHypothesisOf, IsConclusionOf}
use Rattle.spec_certificate_text.proofs.Read.{tree_text-read}
use Rattle.spec_certificate_text.proofs.Called.{event_word_called, table_word_called}
use Rattle.spec_certificate_text.proofs.Parts.{Finds, joined, when_true, when_false, same_byte, other_byte, fixed_found, run_stops, number_found}
use Rattle.spec_certificate_text.proofs.Things.{things_text, IsOne, Complete, things_found}
use Rattle.spec_certificate_text.proofs.Long.{onto_long, things_long}
use Rattle.spec_certificate_text.proofs.FactsThere.{Stands, item_text, row_closed, call_text, event_text, entry_text, IsPerformed, IsEntry}

-- a term or a side before a byte with which no word alone could go on
tree_found : (binds : Bool) (P : Protocol) → HasNames P → (t : Term) → Stands binds P t → (at b : ℕ) (k : List ℕ) → goes_on b ≡ false → Finds (one_tree binds P (term_text P t (b ∷ k)) at) t (b ∷ k)
tree_found binds P names t may at b k stops =
    let read = tree_text-read binds P names t may.0 may.1 at b k stops in
    record { place = read.0; is = ap term_outcome read.1 }

term_found : (P : Protocol) → HasNames P → (t : Term) → MayStand P t → (at b : ℕ) (k : List ℕ) → goes_on b ≡ false → Finds (one_term P (term_text P t (b ∷ k)) at) t (b ∷ k)
term_found P names t may at b k stops = tree_found false P names t may at b k stops

-- Rows, which a byte closes with which no word alone could go on, and which is no comma.

pub record Closes (closing : ℕ) : Type 0 where
  pub ends : goes_on closing ≡ false
  pub no_comma : (closing == 44) ≡ false

abbrev behind_term : ℕ → Term → ℕ → List ℕ → Outcome (Term × Bool)
behind_term closing t place rest =
    if front rest == 44 then Found (t, true) (place + 1) (drop 1 rest) else (if front rest == closing then Found (t, false) (place + 1) (drop 1 rest) else Faulty place Syntax)

item_found : (binds : Bool) (P : Protocol) (closing : ℕ) → Closes closing → HasNames P → Complete (item_text P closing) (IsOne (Stands binds P)) (item_before closing (one_tree binds P))
item_found binds P closing closes names (t, true) rest at may =
    joined (one_tree binds P (term_text P t (44 ∷ rest)) at) (behind_term closing) t (44 ∷ rest) (t, true) rest (tree_found binds P names t may at 44 rest refl) (λ p. record { place = p + 1; is = refl })
item_found binds P closing closes names (t, false) rest at may =
    joined (one_tree binds P (term_text P t (closing ∷ rest)) at) (behind_term closing) t (closing ∷ rest) (t, false) rest (tree_found binds P names t may at closing rest closes.ends)
    (λ p. when_false (closing == 44) (Found (t, true) (p + 1) rest) (if closing == closing then Found (t, false) (p + 1) rest else Faulty p Syntax) (t, false) rest closes.no_comma
    (when_true (closing == closing) (Found (t, false) (p + 1) rest) (Faulty p Syntax) (t, false) rest (same_byte closing) record { place = p + 1; is = refl }))

pub item_long : (P : Protocol) (closing : ℕ) (x : Term × Bool) (k : List ℕ) → length k + 1 ≤ length (item_text P closing x k)
item_long P closing (t, true) k = omega (arith, onto_long (written P t) (44 ∷ k))
item_long P closing (t, false) k = omega (arith, onto_long (written P t) (closing ∷ k))

pub row_found : (binds : Bool) (P : Protocol) (closing : ℕ) → Closes closing → HasNames P → (t : Term) (ts : List Term) (rest : List ℕ) (at : ℕ) → AllByRecursion (Stands binds P) (t ∷ ts)
    → Finds (things (item_before closing (one_tree binds P)) (row (written_row P (trees (t ∷ ts))) (closing ∷ rest)) at) (t ∷ ts) rest
row_found binds P closing closes names t ts rest at each =
    let one = item_text P closing in
    let r = item_before closing (one_tree binds P) in
    subst (λ bytes. Finds (things r bytes at) (t ∷ ts) rest) (row_closed P closing t ts rest)
    (things_found one (Stands binds P) r (item_found binds P closing closes names) (length (things_text one t ts rest)) [] t ts rest at (things_long one (item_long P closing) t ts rest) each)

pub terms_found : (P : Protocol) → HasNames P → (t : Term) (ts : List Term) (rest : List ℕ) (at : ℕ) → AllByRecursion (MayStand P) (t ∷ ts) → Finds (read_terms P (row (written_row P (trees (t ∷ ts))) (41 ∷ rest)) at) (t ∷ ts) rest
terms_found P names t ts rest at each = row_found false P 41 record { ends = refl; no_comma = refl } names t ts rest at each

-- Events and entries.

performed_found : (from : ℕ) (e : Performed) (called : CalledEvent) (q : ℕ) (k : List ℕ) → called.number ≡ e.event → called.arity ≡ length e.arguments → Finds (performed from called e.arguments q k) e k
performed_found from e called q k number arity =
    let made : Performed = record { event = called.number; arguments = e.arguments } in
    let same : made ≡ e = ap (λ n. record { event = n; arguments = e.arguments }) number in
    subst (λ x. Finds (performed from called e.arguments q k) x k) same
    (when_true (length e.arguments == called.arity) (Found made q k) (Faulty from Arity) made k (ap (λ n. length e.arguments == n) arity ∙ same_byte (length e.arguments)) record { place = q; is = refl })

abbrev called_as : Performed → CalledEvent
called_as e = record { number = e.event; arity = length e.arguments }

-- what stands behind the word of an event or a table
abbrev behind_word : Protocol → List Term → List ℕ → List ℕ
behind_word P [] k = k
behind_word P (t ∷ ts) k = 40 ∷ row (written_row P (trees (t ∷ ts))) (41 ∷ k)

call_is : (P : Protocol) (ds : List Declared) (e : Performed) (k : List ℕ) → call_text P ds e k ≡ declared_word ds e.event ++ behind_word P e.arguments k
call_is P ds e k = by e.event e.arguments
  where
    by : (n : ℕ) (ts : List Term) → onto (written_call P ds n ts) k ≡ declared_word ds n ++ behind_word P ts k
    by n [] = refl
    by n (t ∷ ts) = refl

named_found : (P : Protocol) → HasNames P → (n : ℕ) (ts : List Term) (from q : ℕ) (k : List ℕ) → AllByRecursion (MayStand P) ts
    → Finds (event_named P (Some record { number = n; arity = length ts }) from q (behind_word P ts (41 ∷ k))) (record { event = n; arguments = ts }) (41 ∷ k)
named_found P names n [] from q k each = performed_found from record { event = n; arguments = [] } record { number = n; arity = 0 } q (41 ∷ k) refl refl
named_found P names n (t ∷ ts) from q k each =
    let called : CalledEvent = record { number = n; arity = length (t ∷ ts) } in
    joined (read_terms P (row (written_row P (trees (t ∷ ts))) (41 ∷ 41 ∷ k)) (q + 1)) (λ us p r. performed from called us p r) (t ∷ ts) (41 ∷ k) (record { event = n; arguments = t ∷ ts }) (41 ∷ k)
    (terms_found P names t ts (41 ∷ k) (q + 1) each)
    (λ p. performed_found from record { event = n; arguments = t ∷ ts } called p (41 ∷ k) refl refl)

stops_there : (P : Protocol) (ts : List Term) (k : List ℕ) → Stops is_in_word (behind_word P ts (41 ∷ k))
stops_there P [] k = refl
stops_there P (t ∷ ts) k = refl

begins_there : (w k : List ℕ) → IsWord w → begins_word (front (w ++ k)) ≡ true
begins_there [] k is = absurd (let never : false ≡ true = is.begins in cc)
begins_there (b ∷ w) k is = is.begins

-- behind its word more bytes stand
before_found : (P : Protocol) (ds : List Declared) (w : List ℕ) (called : CalledEvent) (ts : List Term) (from q : ℕ) (k : List ℕ) (e : Performed) (r : List ℕ) → called_in ds w ≡ Some called → Finds (event_named P (Some called) from q (behind_word P ts (41 ∷ k))) e r → Finds (call_before P ds w from q (behind_word P ts (41 ∷ k))) e r
before_found P ds w called [] from q k e r names found = record { place = found.place; is = ap (λ o. event_named P o from q (41 ∷ k)) names ∙ found.is }
before_found P ds w called (t ∷ ts) from q k e r names found = record { place = found.place; is = ap (λ o. event_named P o from q (behind_word P (t ∷ ts) (41 ∷ k))) names ∙ found.is }

word_found : (P : Protocol) (ds : List Declared) (w k : List ℕ) (at : ℕ) (e : Performed) (r : List ℕ) → IsWord w → Stops is_in_word k → ((q : ℕ) → Finds (call_before P ds w at q k) e r) → Finds (read_call P ds (w ++ k) at) e r
word_found P ds w k at e r is stops named =
    let long = prefix_len is_in_word (w ++ k) in
    let so : long ≡ length w = run_stops is_in_word w k is.goes_on stops in
    let whole : take long (w ++ k) ≡ w = ap (λ n. take n (w ++ k)) so ∙ take-append_seam w k in
    let behind : drop long (w ++ k) ≡ k = ap (λ n. drop n (w ++ k)) so ∙ drop-append_seam w k in
    let found = named (at + long) in
    when_true (begins_word (front (w ++ k))) (call_before P ds (take long (w ++ k)) at (at + long) (drop long (w ++ k))) (Faulty at Syntax) e r (begins_there w k is)
    record { place = found.place; is = ap (λ v. call_before P ds v at (at + long) (drop long (w ++ k))) whole ∙ (ap (call_before P ds w at (at + long)) behind ∙ found.is) }

call_found : (P : Protocol) → HasNames P → (ds : List Declared) (e : Performed) (k : List ℕ) (at : ℕ) → AllByRecursion (MayStand P) e.arguments → IsWord (declared_word ds e.event) → called_in ds (declared_word ds e.event) ≡ Some (called_as e)
    → Finds (read_call P ds (call_text P ds e (41 ∷ k)) at) e (41 ∷ k)
call_found P names ds e k at each word called =
    subst (λ bytes. Finds (read_call P ds bytes at) e (41 ∷ k)) (sym (call_is P ds e (41 ∷ k)))
    (word_found P ds (declared_word ds e.event) (behind_word P e.arguments (41 ∷ k)) at e (41 ∷ k) word (stops_there P e.arguments k)
    (λ q. before_found P ds (declared_word ds e.event) (called_as e) e.arguments at q k e (41 ∷ k) called (named_found P names e.event e.arguments at q k each)))

pub event_found : (P : Protocol) → HasNames P → (e : Performed) (k : List ℕ) (at : ℕ) → IsPerformed P e → Finds (read_event P (event_text P e (41 ∷ k)) at) e (41 ∷ k)
event_found P names e k at is =
    call_found P names P.events e k at is.each (event_word_is_word P e.event (length e.arguments) names is.event) (event_word_called P names e.event (length e.arguments) is.event)

entry_found : (P : Protocol) → HasNames P → (e : Performed) (k : List ℕ) (at : ℕ) → IsEntry P e → Finds (read_entry P (entry_text P e (41 ∷ k)) at) e (41 ∷ k)
entry_found P names e k at is =
    call_found P names P.tables e k at is.each (table_word_is_word P e.event (length e.arguments) names is.event) (table_word_called P names e.event (length e.arguments) is.event)

-- Phases.

pub phase_is_later : (P : Protocol) (k : ℕ) → suc k ≤ greatest_phase P.main → is_later_phase P (suc k) ≡ true
phase_is_later P k within =
    let first : nat_lt 0 (suc k) ≡ true = grind (arith, nat_tests) in
    let second : nat_le (suc k) (greatest_phase P.main) ≡ true = grind (arith, nat_tests, within) in
    ap (λ b. b && nat_le (suc k) (greatest_phase P.main)) first ∙ second

-- a phase before a parenthesis
pub phase_found : (P : Protocol) (n : ℕ) (k : List ℕ) (at : ℕ) → IsPhase P n → Finds (read_phase P (phase_text n (40 ∷ k)) at) n (40 ∷ k)
phase_found P zero k at is = record { place = at; is = refl }
phase_found P (suc n) k at is =
    let number = number_found (suc n) 40 k (at + 1) is.1 refl in
    joined (read_number (decimal (suc n) ++ (40 ∷ k)) (at + 1)) (λ m q s. as_phase P (at + 1) m q s) (suc n) (40 ∷ k) (suc n) (40 ∷ k) number
    (λ q. when_true (is_later_phase P (suc n)) (Found (suc n) q (40 ∷ k)) (Faulty (at + 1) Symbol) (suc n) (40 ∷ k) (phase_is_later P n is.0) record { place = q; is = refl })

-- a predicate, its phase and `(`, and then something else
pub phase_first : {A : Type 0} (P : Protocol) (w : List ℕ) (f : ℕ → ℕ → List ℕ → Outcome A) (n : ℕ) (k : List ℕ) (at : ℕ) (y : A) (r : List ℕ) → IsPhase P n → ((p : ℕ) → Finds (f n p k) y r)
    → Finds (next (read_fixed w (w ++ phase_text n (40 ∷ k)) at) (λ _ p r. next (read_phase P r p) (λ m p r. next (read_fixed (codes "(") r p) (λ _ p r. f m p r)))) y r
phase_first P w f n k at y r is later =
    joined (read_fixed w (w ++ phase_text n (40 ∷ k)) at) (λ _ p r. next (read_phase P r p) (λ m p r. next (read_fixed (codes "(") r p) (λ _ p r. f m p r))) tt (phase_text n (40 ∷ k)) y r (fixed_found w (phase_text n (40 ∷ k)) at) (λ p.
    joined (read_phase P (phase_text n (40 ∷ k)) p) (λ m p r. next (read_fixed (codes "(") r p) (λ _ p r. f m p r)) n (40 ∷ k) y r (phase_found P n k p is) (λ q.
    joined (read_fixed (codes "(") (40 ∷ k) q) (λ _ p r. f n p r) tt k y r (fixed_found (codes "(") k q) (λ z. later z)))

-- Facts of each kind.

att_found : (P : Protocol) → HasNames P → (n : ℕ) (t : Term) (k : List ℕ) (at : ℕ) → IsPhase P n → MayStand P t → Finds (read_att P (fact_text P (Att n t) k) at) (Att n t) k
att_found P names n t k at in_phase may =
    phase_first P (codes "att") (λ m p r. next (one_term P r p) (λ t p r. next (read_fixed (codes ")") r p) (λ _ p r. Found (Att m t) p r))) n (term_text P t (41 ∷ k)) at (Att n t) k in_phase (λ p.
    joined (one_term P (term_text P t (41 ∷ k)) p) _ t (41 ∷ k) (Att n t) k (term_found P names t may p 41 k refl) (λ q.
    joined (read_fixed (codes ")") (41 ∷ k) q) _ tt k (Att n t) k (fixed_found (codes ")") k q) (λ z. record { place = z; is = refl })))

mess_found : (P : Protocol) → HasNames P → (n : ℕ) (t u : Term) (k : List ℕ) (at : ℕ) → IsPhase P n → MayStand P t → MayStand P u → Finds (read_mess P (fact_text P (Mess n t u) k) at) (Mess n t u) k
mess_found P names n t u k at in_phase may also =
    phase_first P (codes "mess")
    (λ m p r. next (one_term P r p) (λ t p r. next (read_fixed (codes ",") r p) (λ _ p r. next (one_term P r p) (λ u p r. next (read_fixed (codes ")") r p) (λ _ p r. Found (Mess m t u) p r)))))
    n (term_text P t (44 ∷ term_text P u (41 ∷ k))) at (Mess n t u) k in_phase (λ p.
    joined (one_term P (term_text P t (44 ∷ term_text P u (41 ∷ k))) p) _ t (44 ∷ term_text P u (41 ∷ k)) (Mess n t u) k (term_found P names t may p 44 (term_text P u (41 ∷ k)) refl) (λ q.
    joined (read_fixed (codes ",") (44 ∷ term_text P u (41 ∷ k)) q) _ tt (term_text P u (41 ∷ k)) (Mess n t u) k (fixed_found (codes ",") (term_text P u (41 ∷ k)) q) (λ y.
    joined (one_term P (term_text P u (41 ∷ k)) y) _ u (41 ∷ k) (Mess n t u) k (term_found P names u also y 41 k refl) (λ x.
    joined (read_fixed (codes ")") (41 ∷ k) x) _ tt k (Mess n t u) k (fixed_found (codes ")") k x) (λ z. record { place = z; is = refl })))))

tab_found : (P : Protocol) → HasNames P → (e : Performed) (k : List ℕ) (at : ℕ) → IsEntry P e → Finds (read_tab P (fact_text P (Tab e.event e.arguments) k) at) (Tab e.event e.arguments) k
tab_found P names e k at is =
    joined (read_fixed (codes "tab(") (fact_text P (Tab e.event e.arguments) k) at) _ tt (entry_text P e (41 ∷ k)) (Tab e.event e.arguments) k (fixed_found (codes "tab(") (entry_text P e (41 ∷ k)) at) (λ p.
    joined (read_entry P (entry_text P e (41 ∷ k)) p) _ e (41 ∷ k) (Tab e.event e.arguments) k (entry_found P names e k p is) (λ q.
    joined (read_fixed (codes ")") (41 ∷ k) q) _ tt k (Tab e.event e.arguments) k (fixed_found (codes ")") k q) (λ z. record { place = z; is = refl })))

ev_found : (P : Protocol) → HasNames P → (e : Performed) (k : List ℕ) (at : ℕ) → IsPerformed P e → Finds (read_ev P (fact_text P (Ev e.event e.arguments) k) at) (Ev e.event e.arguments) k
ev_found P names e k at is =
    joined (read_fixed (codes "ev(") (fact_text P (Ev e.event e.arguments) k) at) _ tt (event_text P e (41 ∷ k)) (Ev e.event e.arguments) k (fixed_found (codes "ev(") (event_text P e (41 ∷ k)) at) (λ p.
    joined (read_event P (event_text P e (41 ∷ k)) p) _ e (41 ∷ k) (Ev e.event e.arguments) k (event_found P names e k p is) (λ q.
    joined (read_fixed (codes ")") (41 ∷ k) q) _ tt k (Ev e.event e.arguments) k (fixed_found (codes ")") k q) (λ z. record { place = z; is = refl })))

mev_found : (P : Protocol) → HasNames P → (e : Performed) (k : List ℕ) (at : ℕ) → IsPerformed P e → Finds (read_mev P (fact_text P (Mev e.event e.arguments) k) at) (Mev e.event e.arguments) k
mev_found P names e k at is =
    joined (read_fixed (codes "mev(") (fact_text P (Mev e.event e.arguments) k) at) _ tt (event_text P e (41 ∷ k)) (Mev e.event e.arguments) k (fixed_found (codes "mev(") (event_text P e (41 ∷ k)) at) (λ p.
    joined (read_event P (event_text P e (41 ∷ k)) p) _ e (41 ∷ k) (Mev e.event e.arguments) k (event_found P names e k p is) (λ q.
    joined (read_fixed (codes ")") (41 ∷ k) q) _ tt k (Mev e.event e.arguments) k (fixed_found (codes ")") k q) (λ z. record { place = z; is = refl })))

-- no term begins with `)`
no_close : (P : Protocol) → HasNames P → (t : Term) → MayStand P t → (b : ℕ) (k : List ℕ) → goes_on b ≡ false → (front (term_text P t (b ∷ k)) == 41) ≡ false
no_close P names t may b k stops = by (term_text P t (b ∷ k)) (term_found P names t may 0 b k stops)
  where
    by : (bytes : List ℕ) → Finds (one_term P bytes 0) t (b ∷ k) → (front bytes == 41) ≡ false
    by [] found = refl
    by (c ∷ bytes) found = other_byte c 41 (λ is.
        let refused : one_term P (41 ∷ bytes) 0 ≡ Faulty 0 Syntax = refl in
        let never : Faulty 0 Syntax ≡ Found t found.place (b ∷ k) = sym refused ∙ (ap (λ d. one_term P (d ∷ bytes) 0) (sym is) ∙ found.is) in
        absurd (cc))

row_front : (P : Protocol) → HasNames P → (t : Term) (ts : List Term) (k : List ℕ) → MayStand P t → (front (row (written_row P (trees (t ∷ ts))) (41 ∷ k)) == 41) ≡ false
row_front P names t [] k may = no_close P names t may 41 k refl
row_front P names t (u ∷ us) k may = no_close P names t may 44 (row (written_row P (trees (u ∷ us))) (41 ∷ k)) refl

bad_arguments_found : (P : Protocol) → HasNames P → (ts : List Term) (k : List ℕ) (at : ℕ) → AllByRecursion (MayStand P) ts → Finds (bad_arguments P (row (written_row P (trees ts)) (41 ∷ k)) at) ts k
bad_arguments_found P names [] k at each = record { place = at + 1; is = refl }
bad_arguments_found P names (t ∷ ts) k at each =
    let bytes = row (written_row P (trees (t ∷ ts))) (41 ∷ k) in
    when_false (front bytes == 41) (Found [] (at + 1) (drop 1 bytes)) (read_terms P bytes at) (t ∷ ts) k (row_front P names t ts k each.0) (terms_found P names t ts k at each)

bad_found : (P : Protocol) → HasNames P → (ts : List Term) (k : List ℕ) (at : ℕ) → AllByRecursion (MayStand P) ts → Finds (read_bad P (fact_text P (Bad ts) k) at) (Bad ts) k
bad_found P names ts k at each =
    let behind = row (written_row P (trees ts)) (41 ∷ k) in
    joined (read_fixed (codes "bad(") (fact_text P (Bad ts) k) at) (λ _ p r. next (bad_arguments P r p) (λ us q s. Found (Bad us) q s)) tt behind (Bad ts) k (fixed_found (codes "bad(") behind at) (λ p.
    joined (bad_arguments P behind p) (λ us q s. Found (Bad us) q s) ts k (Bad ts) k (bad_arguments_found P names ts k p each) (λ q. record { place = q; is = refl }))

pub hypothesis_found : (P : Protocol) → HasNames P → Complete (fact_text P) (IsHypothesisOf P) (read_hypothesis P)
hypothesis_found P names (Att n t) k at may = att_found P names n t k at may.0 may.1
hypothesis_found P names (Mess n t u) k at may = mess_found P names n t u k at may.0 may.1 may.2
hypothesis_found P names (Tab n ts) k at may = tab_found P names record { event = n; arguments = ts } k at record { event = may.0; each = may.1 }
hypothesis_found P names (Ev e ts) k at may = ev_found P names record { event = e; arguments = ts } k at record { event = may.0; each = may.1 }
hypothesis_found P names (Mev e ts) k at may = mev_found P names record { event = e; arguments = ts } k at record { event = may.0; each = may.1 }
hypothesis_found P names (Bad ts) k at may = absurd may

pub conclusion_found : (P : Protocol) → HasNames P → Complete (fact_text P) (IsConclusionOf P) (read_conclusion P)
conclusion_found P names (Att n t) k at may = att_found P names n t k at may.0 may.1
conclusion_found P names (Mess n t u) k at may = mess_found P names n t u k at may.0 may.1 may.2
conclusion_found P names (Tab n ts) k at may = tab_found P names record { event = n; arguments = ts } k at record { event = may.0; each = may.1 }
conclusion_found P names (Ev e ts) k at may = ev_found P names record { event = e; arguments = ts } k at record { event = may.0; each = may.1 }
conclusion_found P names (Mev e ts) k at may = absurd may
conclusion_found P names (Bad ts) k at may = bad_found P names ts k at may
