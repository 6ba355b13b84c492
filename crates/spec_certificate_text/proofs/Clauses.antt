-- Facts, clauses and certificates of a protocol are told apart by their texts, whatever follows.
use Rattle.std.proofs.Common.{◌≡◌, ℕ, ◌≤◌, zero, suc, Bool, true, false, ◌==◌, List, [], ◌∷◌, ◌++◌, length, refl, sym, ◌∙◌, ap, subst, arith}
use Rattle.std.specs.Prelude.{codes}
use Rattle.std.specs.Char.{is_ascii_digit}
use Rattle.std.specs.Fmt.{decimal}
use Rattle.std.specs.List.{AllByRecursion}
use Rattle.std.specs.Str.{bytes_eq}
use Rattle.spec_trees.specs.Tree.{Leaf, Node, none, more, trees}
use Rattle.std.proofs.lemmas.Bool.Decides.{nat_tests}
use Rattle.spec_trees.proofs.Rows.{trees-injective}
use Rattle.spec_calculus.specs.Syntax.{Declared, Protocol}
use Rattle.spec_terms.specs.Term.{Term}
use Rattle.spec_clauses.specs.Diff.{Diff}
use Rattle.spec_clauses.specs.Fact.{Fact, Att, Mess, Tab, Ev, Mev, Bad, Clause}
use Rattle.spec_certificates.specs.Certificate.{Certificate}
use Rattle.spec_protocol_tokens.specs.Bytes.{is_in_word}
use Rattle.spec_certificate_text.specs.Loose.{Loose, LooseRow, row}
use Rattle.spec_certificate_text.specs.Sides.{spelled_diff, meant_diff}
use Rattle.spec_certificate_text.specs.Words.{declared_word, event_word, table_word}
use Rattle.spec_certificate_text.specs.Written.{written, written_row, written_call, written_event, written_entry, LooseFact, written_fact}
use Rattle.spec_certificate_text.specs.Text.{term_text, phase_text, fact_onto, fact_text, diff_text, later_diffs, diffs_text, later_hypotheses, hypotheses_text, clause_text, clause_lines, numbers_text, row_lines, certificate_text}
use Rattle.spec_certificate_text.specs.Spelled.{IsWord, AreLoose, Stops, goes_on, EndsBehind}
use Rattle.spec_certificate_text.specs.OfProtocol.{IsDeclaredOver, IsShort, IsTermOf, AreTermsOf, most_side_variables, IsFactOf, IsDiffOf, IsClauseOf, IsCertificateOf, HasNames}
use Rattle.spec_certificate_text.proofs.Runs.{first_same, later_same, run_apart}
use Rattle.spec_certificate_text.proofs.Apart.{word_begins, whole_apart, closed_rows_apart, left_rows_apart}
use Rattle.spec_certificate_text.proofs.Sides.{diff_meant}
use Rattle.spec_certificate_text.proofs.Names.{event_word_is_word, table_word_is_word, decimal_digits, one_decimal}
use Rattle.spec_certificate_text.proofs.Called.{HasOwnWords, events_own_words, tables_own_words}
use Rattle.spec_certificate_text.proofs.Terms.{applied_is_loose, written_is_loose, written_are_loose, side_rows_are_loose, applied_apart, written_apart, rows_apart, side_rows_apart}

-- a text is that of one thing, and one rest
pub record Same {X : Type 0} (x y : X) (k l : List ℕ) : Type 0 where
  pub thing : x ≡ y
  pub rest : k ≡ l

differ : (a b : ℕ) (x y : List ℕ) → (a == b) ≡ false → a ∷ x ≡ b ∷ y → ⊥
differ a b x y tests e = let same : a ≡ b = first_same a b x y e in absurd (grind (arith, nat_tests))

-- Facts.

-- a predicate is a word, its phase is within the limit of digits, and so are its arguments loose trees
record IsLooseFact (f : LooseFact) : Type 0 where
  word : IsWord f.predicate
  phase : IsShort f.phase
  arguments : AreLoose f.arguments

fact_is_loose : (P : Protocol) → HasNames P → (f : Fact Term) → IsFactOf P f → IsLooseFact (written_fact P f)
fact_is_loose P names (Att k t) is = record { word = record { begins = refl; goes_on = refl }; phase = is.0.1; arguments = (written_is_loose P names t is.1, tt) }
fact_is_loose P names (Mess k t u) is =
    record { word = record { begins = refl; goes_on = refl }; phase = is.0.1; arguments = (written_is_loose P names t is.1, (written_is_loose P names u is.2, tt)) }
fact_is_loose P names (Tab n ts) is = record {
  word = record { begins = refl; goes_on = refl };
  phase = omega arith;
  arguments = (applied_is_loose (table_word P n) (written_row P (trees ts)) (table_word_is_word P n (length ts) names is.0) (written_are_loose P names (trees ts) is.1), tt);
}
fact_is_loose P names (Ev e ts) is = record {
  word = record { begins = refl; goes_on = refl };
  phase = omega arith;
  arguments = (applied_is_loose (event_word P e) (written_row P (trees ts)) (event_word_is_word P e (length ts) names is.0) (written_are_loose P names (trees ts) is.1), tt);
}
fact_is_loose P names (Mev e ts) is = record {
  word = record { begins = refl; goes_on = refl };
  phase = omega arith;
  arguments = (applied_is_loose (event_word P e) (written_row P (trees ts)) (event_word_is_word P e (length ts) names is.0) (written_are_loose P names (trees ts) is.1), tt);
}
fact_is_loose P names (Bad ts) is = record { word = record { begins = refl; goes_on = refl }; phase = omega arith; arguments = written_are_loose P names (trees ts) is }

-- a word ends before a phase and its parenthesis
phase_stops : (k : ℕ) (x : List ℕ) → Stops is_in_word (phase_text k (40 ∷ x))
phase_stops zero x = refl
phase_stops (suc k) x = refl

pub phases_apart : (j k : ℕ) (x y : List ℕ) → IsShort j → IsShort k → phase_text j (40 ∷ x) ≡ phase_text k (40 ∷ y) → Same j k x y
phases_apart zero zero x y short_j short_k e = record { thing = refl; rest = later_same 40 40 x y e }
phases_apart zero (suc k) x y short_j short_k e = absurd (differ 40 64 x (decimal (suc k) ++ (40 ∷ y)) refl e)
phases_apart (suc j) zero x y short_j short_k e = absurd (differ 64 40 (decimal (suc j) ++ (40 ∷ x)) y refl e)
phases_apart (suc j) (suc k) x y short_j short_k e =
    let digits = run_apart is_ascii_digit (decimal (suc j)) (decimal (suc k)) (40 ∷ x) (40 ∷ y) (decimal_digits (suc j) short_j) (decimal_digits (suc k) short_k) refl refl
    (later_same 64 64 (decimal (suc j) ++ (40 ∷ x)) (decimal (suc k) ++ (40 ∷ y)) e) in
    record { thing = one_decimal (suc j) (suc k) short_j short_k digits.run; rest = later_same 40 40 x y digits.rest }

loose_apart : (f g : LooseFact) (k l : List ℕ) → IsLooseFact f → IsLooseFact g → fact_onto f k ≡ fact_onto g l → Same f g k l
loose_apart f g k l is_f is_g e =
    let x = row f.arguments (41 ∷ k) in
    let y = row g.arguments (41 ∷ l) in
    let words = run_apart is_in_word f.predicate g.predicate (phase_text f.phase (40 ∷ x)) (phase_text g.phase (40 ∷ y)) is_f.word.goes_on is_g.word.goes_on (phase_stops f.phase x) (phase_stops g.phase y) e in
    let phases = phases_apart f.phase g.phase x y is_f.phase is_g.phase words.rest in
    let rows = closed_rows_apart f.arguments g.arguments k l is_f.arguments is_g.arguments phases.rest in
    record { thing = λ i. record { predicate = words.run i; phase = phases.thing i; arguments = rows.rows i }; rest = rows.rest }

record CallsApart (e g : ℕ) (ts us : List Term) : Type 0 where
  number : e ≡ g
  arguments : ts ≡ us

calls_apart : (P : Protocol) → HasNames P → (ds : List Declared) → HasOwnWords ds → (e g : ℕ) (ts us : List Term) → IsDeclaredOver ds e (length ts) → IsDeclaredOver ds g (length us) → AreTermsOf P (trees ts) → AreTermsOf P (trees us)
    → written_call P ds e ts ≡ written_call P ds g us → CallsApart e g ts us
calls_apart P names ds own e g ts us is_e is_g are_t are_u same =
    let parts = applied_apart (declared_word ds e) (declared_word ds g) (written_row P (trees ts)) (written_row P (trees us)) same in
    record { number = own e g (length ts) (length us) is_e is_g parts.word; arguments = trees-injective ts us (rows_apart P names (trees ts) (trees us) are_t are_u parts.arguments) }

-- whether it has this predicate
is_called : List ℕ → LooseFact → Bool
is_called word f = bytes_eq f.predicate word

phase_of : LooseFact → ℕ
phase_of f = f.phase

arguments_of : LooseFact → LooseRow
arguments_of f = f.arguments

written_facts_apart : (P : Protocol) → HasNames P → (f g : Fact Term) → IsFactOf P f → IsFactOf P g → written_fact P f ≡ written_fact P g → f ≡ g
unfolding is_called phase_of arguments_of
written_facts_apart P names (Att j t) (Att k u) is_f is_g e =
    let phases : j ≡ k = ap phase_of e in
    let rows : more (written P t) none ≡ more (written P u) none = ap arguments_of e in
    let same : written P t ≡ written P u = cc in
    ap (λ n. Att n t) phases ∙ ap (Att k) (written_apart P names t u is_f.1 is_g.1 same)
written_facts_apart P names (Mess j t u) (Mess k v w) is_f is_g e =
    let phases : j ≡ k = ap phase_of e in
    let rows : more (written P t) (more (written P u) none) ≡ more (written P v) (more (written P w) none) = ap arguments_of e in
    let channels : written P t ≡ written P v = cc in
    let messages : written P u ≡ written P w = cc in
    ap (λ n. Mess n t u) phases ∙ (ap (λ x. Mess k x u) (written_apart P names t v is_f.1 is_g.1 channels) ∙ ap (Mess k v) (written_apart P names u w is_f.2 is_g.2 messages))
written_facts_apart P names (Tab n ts) (Tab m us) is_f is_g e =
    let rows : more (written_entry P n ts) none ≡ more (written_entry P m us) none = ap arguments_of e in
    let same : written_entry P n ts ≡ written_entry P m us = cc in
    let parts = calls_apart P names P.tables (tables_own_words P names) n m ts us is_f.0 is_g.0 is_f.1 is_g.1 same in
    ap (λ k. Tab k ts) parts.number ∙ ap (Tab m) parts.arguments
written_facts_apart P names (Ev n ts) (Ev m us) is_f is_g e =
    let rows : more (written_event P n ts) none ≡ more (written_event P m us) none = ap arguments_of e in
    let same : written_event P n ts ≡ written_event P m us = cc in
    let parts = calls_apart P names P.events (events_own_words P names) n m ts us is_f.0 is_g.0 is_f.1 is_g.1 same in
    ap (λ k. Ev k ts) parts.number ∙ ap (Ev m) parts.arguments
written_facts_apart P names (Mev n ts) (Mev m us) is_f is_g e =
    let rows : more (written_event P n ts) none ≡ more (written_event P m us) none = ap arguments_of e in
    let same : written_event P n ts ≡ written_event P m us = cc in
    let parts = calls_apart P names P.events (events_own_words P names) n m ts us is_f.0 is_g.0 is_f.1 is_g.1 same in
    ap (λ k. Mev k ts) parts.number ∙ ap (Mev m) parts.arguments
written_facts_apart P names (Bad ts) (Bad us) is_f is_g e =
    ap Bad (trees-injective ts us (rows_apart P names (trees ts) (trees us) is_f is_g (ap arguments_of e)))
written_facts_apart P names (Att k t) g is_f is_g e = let differ : true ≡ false = ap (is_called (codes "att")) e in absurd (cc)
written_facts_apart P names (Mess k t u) g is_f is_g e = let differ : true ≡ false = ap (is_called (codes "mess")) e in absurd (cc)
written_facts_apart P names (Tab n ts) g is_f is_g e = let differ : true ≡ false = ap (is_called (codes "tab")) e in absurd (cc)
written_facts_apart P names (Ev n ts) g is_f is_g e = let differ : true ≡ false = ap (is_called (codes "ev")) e in absurd (cc)
written_facts_apart P names (Mev n ts) g is_f is_g e = let differ : true ≡ false = ap (is_called (codes "mev")) e in absurd (cc)
written_facts_apart P names (Bad ts) g is_f is_g e = let differ : true ≡ false = ap (is_called (codes "bad")) e in absurd (cc)

-- two terms with rests behind which they end are one term and one rest, where the texts are one
pub term_apart : (P : Protocol) → HasNames P → (t u : Term) (k l : List ℕ) → IsTermOf P t → IsTermOf P u → Stops goes_on k → Stops goes_on l → term_text P t k ≡ term_text P u l → Same t u k l
term_apart P names t u k l is_t is_u stops_k stops_l e =
    let whole = whole_apart (written P t) (written P u) k l (written_is_loose P names t is_t) (written_is_loose P names u is_u) (ends (written P t) k stops_k) (ends (written P u) l stops_l) e in
    record { thing = written_apart P names t u is_t is_u whole.tree; rest = whole.rest }
  where
    ends : (v : Loose) (m : List ℕ) → Stops goes_on m → EndsBehind v m
    ends (Leaf w) m stops = stops
    ends (Node h vs) m stops = tt

-- and two facts, whatever the rests are
pub fact_apart : (P : Protocol) → HasNames P → (f g : Fact Term) (k l : List ℕ) → IsFactOf P f → IsFactOf P g → fact_text P f k ≡ fact_text P g l → Same f g k l
fact_apart P names f g k l is_f is_g e =
    let whole = loose_apart (written_fact P f) (written_fact P g) k l (fact_is_loose P names f is_f) (fact_is_loose P names g is_g) e in
    record { thing = written_facts_apart P names f g is_f is_g whole.thing; rest = whole.rest }

same_front : (front k l : List ℕ) → front ++ k ≡ front ++ l → k ≡ l
same_front [] k l e = e
same_front (b ∷ front) k l e = same_front front k l (later_same b b (front ++ k) (front ++ l) e)

-- Constraints.

pub diff_apart : (P : Protocol) → HasNames P → (d e : Diff) (k l : List ℕ) → IsDiffOf P d → IsDiffOf P e → diff_text P d k ≡ diff_text P e l → Same d e k l
diff_apart P names d e k l is_d is_e same =
    let s = spelled_diff d in
    let t = spelled_diff e in
    let low : most_side_variables ≤ most_side_variables = omega arith in
    let x = row (written_row P (trees s.right)) (41 ∷ k) in
    let y = row (written_row P (trees t.right)) (41 ∷ l) in
    let lefts = left_rows_apart (written_row P (trees s.left)) (written_row P (trees t.left)) x y (side_rows_are_loose most_side_variables low P names (trees s.left) is_d.left) (side_rows_are_loose most_side_variables low P names (trees t.left) is_e.left)
    (same_front (codes "diff(") (row (written_row P (trees s.left)) (59 ∷ x)) (row (written_row P (trees t.left)) (59 ∷ y)) same) in
    let rights = closed_rows_apart (written_row P (trees s.right)) (written_row P (trees t.right)) k l (side_rows_are_loose most_side_variables low P names (trees s.right) is_d.right) (side_rows_are_loose most_side_variables low P names (trees t.right) is_e.right) lefts.rest in
    let left : s.left ≡ t.left = trees-injective s.left t.left (side_rows_apart most_side_variables low P names (trees s.left) (trees t.left) is_d.left is_e.left lefts.rows) in
    let right : s.right ≡ t.right = trees-injective s.right t.right (side_rows_apart most_side_variables low P names (trees s.right) (trees t.right) is_d.right is_e.right rights.rows) in
    let spelled : s ≡ t = λ i. record { left = left i; right = right i } in
    record { thing = sym (diff_meant d is_d.own) ∙ (ap meant_diff spelled ∙ diff_meant e is_e.own); rest = rights.rest }

later_diffs_apart : (P : Protocol) → HasNames P → (ds es : List Diff) (k l : List ℕ) → AllByRecursion (IsDiffOf P) ds → AllByRecursion (IsDiffOf P) es → later_diffs P ds k ≡ later_diffs P es l → Same ds es k l
later_diffs_apart P names [] [] k l are_d are_e e = record { thing = refl; rest = later_same 32 32 k l e }
later_diffs_apart P names [] (d ∷ ds) k l are_d are_e e = absurd (differ 32 44 k (32 ∷ diff_text P d (later_diffs P ds l)) refl e)
later_diffs_apart P names (d ∷ ds) [] k l are_d are_e e = absurd (differ 44 32 (32 ∷ diff_text P d (later_diffs P ds k)) l refl e)
later_diffs_apart P names (d ∷ ds) (b ∷ bs) k l are_d are_e e =
    let x = diff_text P d (later_diffs P ds k) in
    let y = diff_text P b (later_diffs P bs l) in
    let first = diff_apart P names d b (later_diffs P ds k) (later_diffs P bs l) are_d.0 are_e.0 (later_same 32 32 x y (later_same 44 44 (32 ∷ x) (32 ∷ y) e)) in
    let later = later_diffs_apart P names ds bs k l are_d.1 are_e.1 first.rest in
    record { thing = ap (λ f. f ∷ ds) first.thing ∙ ap (λ fs. b ∷ fs) later.thing; rest = later.rest }

-- with no hypotheses before them, and `=>` behind them
diffs_apart : (P : Protocol) → HasNames P → (ds es : List Diff) (k l : List ℕ) → AllByRecursion (IsDiffOf P) ds → AllByRecursion (IsDiffOf P) es → diffs_text P ds (61 ∷ k) ≡ diffs_text P es (61 ∷ l) → Same ds es k l
diffs_apart P names [] [] k l are_d are_e e = record { thing = refl; rest = later_same 61 61 k l e }
diffs_apart P names [] (d ∷ ds) k l are_d are_e e = absurd (differ 61 100 k _ refl e)
diffs_apart P names (d ∷ ds) [] k l are_d are_e e = absurd (differ 100 61 _ l refl e)
diffs_apart P names (d ∷ ds) (b ∷ bs) k l are_d are_e e =
    let first = diff_apart P names d b (later_diffs P ds (61 ∷ k)) (later_diffs P bs (61 ∷ l)) are_d.0 are_e.0 e in
    let later = later_diffs_apart P names ds bs (61 ∷ k) (61 ∷ l) are_d.1 are_e.1 first.rest in
    record { thing = ap (λ f. f ∷ ds) first.thing ∙ ap (λ fs. b ∷ fs) later.thing; rest = later_same 61 61 k l later.rest }

-- Clauses.

-- no fact begins as a constraint does, or as what stands behind both
no_fact_begins_so : (P : Protocol) (f : Fact Term) (x y : List ℕ) → fact_text P f x ≡ 100 ∷ y → ⊥
no_fact_begins_so P (Att k t) x y e = differ 97 100 _ y refl e
no_fact_begins_so P (Mess k t u) x y e = differ 109 100 _ y refl e
no_fact_begins_so P (Tab n ts) x y e = differ 116 100 _ y refl e
no_fact_begins_so P (Ev n ts) x y e = differ 101 100 _ y refl e
no_fact_begins_so P (Mev n ts) x y e = differ 109 100 _ y refl e
no_fact_begins_so P (Bad ts) x y e = differ 98 100 _ y refl e

record PremisesSame (hs gs : List (Fact Term)) (ds es : List Diff) (k l : List ℕ) : Type 0 where
  hypotheses : hs ≡ gs
  diffs : ds ≡ es
  rest : k ≡ l

-- constraints are no further hypothesis
no_later : (P : Protocol) (g : Fact Term) (ds : List Diff) (k x : List ℕ) → later_diffs P ds k ≡ 44 ∷ 32 ∷ fact_text P g x → ⊥
no_later P g [] k x e = differ 32 44 k (32 ∷ fact_text P g x) refl e
no_later P g (d ∷ ds) k x e =
    let y = diff_text P d (later_diffs P ds k) in
    no_fact_begins_so P g x _ (sym (later_same 32 32 y (fact_text P g x) (later_same 44 44 (32 ∷ y) (32 ∷ fact_text P g x) e)))

later_apart : (P : Protocol) → HasNames P → (hs gs : List (Fact Term)) (ds es : List Diff) (k l : List ℕ) → AllByRecursion (IsFactOf P) hs → AllByRecursion (IsFactOf P) gs → AllByRecursion (IsDiffOf P) ds → AllByRecursion (IsDiffOf P) es
    → later_hypotheses P hs ds k ≡ later_hypotheses P gs es l → PremisesSame hs gs ds es k l
later_apart P names [] [] ds es k l are_h are_g are_d are_e e = let both = later_diffs_apart P names ds es k l are_d are_e e in record { hypotheses = refl; diffs = both.thing; rest = both.rest }
later_apart P names [] (g ∷ gs) ds es k l are_h are_g are_d are_e e = absurd (no_later P g ds k (later_hypotheses P gs es l) e)
later_apart P names (h ∷ hs) [] ds es k l are_h are_g are_d are_e e = absurd (no_later P h es l (later_hypotheses P hs ds k) (sym e))
later_apart P names (h ∷ hs) (g ∷ gs) ds es k l are_h are_g are_d are_e e =
    let x = fact_text P h (later_hypotheses P hs ds k) in
    let y = fact_text P g (later_hypotheses P gs es l) in
    let first = fact_apart P names h g (later_hypotheses P hs ds k) (later_hypotheses P gs es l) are_h.0 are_g.0 (later_same 32 32 x y (later_same 44 44 (32 ∷ x) (32 ∷ y) e)) in
    let later = later_apart P names hs gs ds es k l are_h.1 are_g.1 are_d are_e first.rest in
    record { hypotheses = ap (λ f. f ∷ hs) first.thing ∙ ap (λ fs. g ∷ fs) later.hypotheses; diffs = later.diffs; rest = later.rest }

no_fact_begins : (P : Protocol) → HasNames P → (f : Fact Term) (x y : List ℕ) → IsFactOf P f → fact_text P f x ≡ 61 ∷ y → ⊥
no_fact_begins P names f x y is e =
    let loose = written_fact P f in
    word_begins loose.predicate (phase_text loose.phase (40 ∷ row loose.arguments (41 ∷ x))) 61 y (fact_is_loose P names f is).word refl e

-- a fact is no constraint, and not what stands behind them
no_first : (P : Protocol) → HasNames P → (g : Fact Term) (ds : List Diff) (k x : List ℕ) → IsFactOf P g → diffs_text P ds (61 ∷ k) ≡ fact_text P g x → ⊥
no_first P names g [] k x is e = no_fact_begins P names g x k is (sym e)
no_first P names g (d ∷ ds) k x is e = no_fact_begins_so P g x _ (sym e)

hypotheses_apart : (P : Protocol) → HasNames P → (hs gs : List (Fact Term)) (ds es : List Diff) (k l : List ℕ) → AllByRecursion (IsFactOf P) hs → AllByRecursion (IsFactOf P) gs → AllByRecursion (IsDiffOf P) ds → AllByRecursion (IsDiffOf P) es
    → hypotheses_text P hs ds (61 ∷ k) ≡ hypotheses_text P gs es (61 ∷ l) → PremisesSame hs gs ds es k l
hypotheses_apart P names [] [] ds es k l are_h are_g are_d are_e e = let both = diffs_apart P names ds es k l are_d are_e e in record { hypotheses = refl; diffs = both.thing; rest = both.rest }
hypotheses_apart P names [] (g ∷ gs) ds es k l are_h are_g are_d are_e e = absurd (no_first P names g ds k (later_hypotheses P gs es (61 ∷ l)) are_g.0 e)
hypotheses_apart P names (h ∷ hs) [] ds es k l are_h are_g are_d are_e e = absurd (no_first P names h es l (later_hypotheses P hs ds (61 ∷ k)) are_h.0 (sym e))
hypotheses_apart P names (h ∷ hs) (g ∷ gs) ds es k l are_h are_g are_d are_e e =
    let first = fact_apart P names h g (later_hypotheses P hs ds (61 ∷ k)) (later_hypotheses P gs es (61 ∷ l)) are_h.0 are_g.0 e in
    let later = later_apart P names hs gs ds es (61 ∷ k) (61 ∷ l) are_h.1 are_g.1 are_d are_e first.rest in
    record { hypotheses = ap (λ f. f ∷ hs) first.thing ∙ ap (λ fs. g ∷ fs) later.hypotheses; diffs = later.diffs; rest = later_same 61 61 k l later.rest }

clause_same : (c d : Clause Term) → c.hypotheses ≡ d.hypotheses → c.diffs ≡ d.diffs → c.conclusion ≡ d.conclusion → c ≡ d
clause_same c d hypotheses diffs conclusions = λ i. record { hypotheses = hypotheses i; diffs = diffs i; conclusion = conclusions i }

-- two clauses with rests are one clause and one rest, where the texts are one
pub clause_apart : (P : Protocol) → HasNames P → (c d : Clause Term) (k l : List ℕ) → IsClauseOf P c → IsClauseOf P d → clause_text P c k ≡ clause_text P d l → Same c d k l
clause_apart P names c d k l is_c is_d e =
    let x = fact_text P c.conclusion k in
    let y = fact_text P d.conclusion l in
    let premises = hypotheses_apart P names c.hypotheses d.hypotheses c.diffs d.diffs (62 ∷ 32 ∷ x) (62 ∷ 32 ∷ y) is_c.hypotheses is_d.hypotheses is_c.diffs is_d.diffs e in
    let conclusions = fact_apart P names c.conclusion d.conclusion k l is_c.conclusion is_d.conclusion (later_same 32 32 x y (later_same 62 62 (32 ∷ x) (32 ∷ y) premises.rest)) in
    record { thing = clause_same c d premises.hypotheses premises.diffs conclusions.thing; rest = conclusions.rest }

-- Certificates.

-- whether the byte is that letter
is_letter : ℕ → ℕ → Bool
is_letter letter b = b == letter

begins_with : (letter : ℕ) (k x : List ℕ) → (letter == letter) ≡ true → Stops (is_letter letter) k → k ≡ letter ∷ x → ⊥
unfolding is_letter
begins_with letter k x itself stops e = let fails : (letter == letter) ≡ false = subst (Stops (is_letter letter)) e stops in cc

clause_lines_apart : (P : Protocol) → HasNames P → (cs ds : List (Clause Term)) (k l : List ℕ) → AllByRecursion (IsClauseOf P) cs → AllByRecursion (IsClauseOf P) ds → Stops (is_letter 99) k → Stops (is_letter 99) l → clause_lines P cs k ≡ clause_lines P ds l → Same cs ds k l
clause_lines_apart P names [] [] k l are_c are_d stops_k stops_l e = record { thing = refl; rest = e }
clause_lines_apart P names [] (d ∷ ds) k l are_c are_d stops_k stops_l e = absurd (begins_with 99 k (32 ∷ clause_text P d (10 ∷ clause_lines P ds l)) refl stops_k e)
clause_lines_apart P names (c ∷ cs) [] k l are_c are_d stops_k stops_l e = absurd (begins_with 99 l (32 ∷ clause_text P c (10 ∷ clause_lines P cs k)) refl stops_l (sym e))
clause_lines_apart P names (c ∷ cs) (d ∷ ds) k l are_c are_d stops_k stops_l e =
    let x = clause_text P c (10 ∷ clause_lines P cs k) in
    let y = clause_text P d (10 ∷ clause_lines P ds l) in
    let first = clause_apart P names c d (10 ∷ clause_lines P cs k) (10 ∷ clause_lines P ds l) are_c.0 are_d.0 (later_same 32 32 x y (later_same 99 99 (32 ∷ x) (32 ∷ y) e)) in
    let later = clause_lines_apart P names cs ds k l are_c.1 are_d.1 stops_k stops_l (later_same 10 10 (clause_lines P cs k) (clause_lines P ds l) first.rest) in
    record { thing = ap (λ b. b ∷ cs) first.thing ∙ ap (λ bs. d ∷ bs) later.thing; rest = later.rest }

number_stops : (ns : List ℕ) (k : List ℕ) → Stops is_ascii_digit (numbers_text ns (10 ∷ k))
number_stops [] k = refl
number_stops (n ∷ ns) k = refl

numbers_apart : (ms ns : List ℕ) (k l : List ℕ) → AllByRecursion IsShort ms → AllByRecursion IsShort ns → numbers_text ms (10 ∷ k) ≡ numbers_text ns (10 ∷ l) → Same ms ns k l
numbers_apart [] [] k l are_m are_n e = record { thing = refl; rest = later_same 10 10 k l e }
numbers_apart [] (n ∷ ns) k l are_m are_n e = absurd (differ 10 32 k (decimal n ++ numbers_text ns (10 ∷ l)) refl e)
numbers_apart (m ∷ ms) [] k l are_m are_n e = absurd (differ 32 10 (decimal m ++ numbers_text ms (10 ∷ k)) l refl e)
numbers_apart (m ∷ ms) (n ∷ ns) k l are_m are_n e =
    let x = numbers_text ms (10 ∷ k) in
    let y = numbers_text ns (10 ∷ l) in
    let first = run_apart is_ascii_digit (decimal m) (decimal n) x y (decimal_digits m are_m.0) (decimal_digits n are_n.0) (number_stops ms k) (number_stops ns l) (later_same 32 32 (decimal m ++ x) (decimal n ++ y) e) in
    let later = numbers_apart ms ns k l are_m.1 are_n.1 first.rest in
    record { thing = ap (λ b. b ∷ ms) (one_decimal m n are_m.0 are_n.0 first.run) ∙ ap (λ bs. n ∷ bs) later.thing; rest = later.rest }

row_lines_apart : (letter : ℕ) (rows others : List (List ℕ)) (k l : List ℕ) → (letter == letter) ≡ true → AllByRecursion (AllByRecursion IsShort) rows → AllByRecursion (AllByRecursion IsShort) others → Stops (is_letter letter) k → Stops (is_letter letter) l → row_lines letter rows k ≡ row_lines letter others l → Same rows others k l
row_lines_apart letter [] [] k l itself are_r are_o stops_k stops_l e = record { thing = refl; rest = e }
row_lines_apart letter [] (o ∷ others) k l itself are_r are_o stops_k stops_l e = absurd (begins_with letter k (numbers_text o (10 ∷ row_lines letter others l)) itself stops_k e)
row_lines_apart letter (r ∷ rows) [] k l itself are_r are_o stops_k stops_l e = absurd (begins_with letter l (numbers_text r (10 ∷ row_lines letter rows k)) itself stops_l (sym e))
row_lines_apart letter (r ∷ rows) (o ∷ others) k l itself are_r are_o stops_k stops_l e =
    let first = numbers_apart r o (row_lines letter rows k) (row_lines letter others l) are_r.0 are_o.0 (later_same letter letter (numbers_text r (10 ∷ row_lines letter rows k)) (numbers_text o (10 ∷ row_lines letter others l)) e) in
    let later = row_lines_apart letter rows others k l itself are_r.1 are_o.1 stops_k stops_l first.rest in
    record { thing = ap (λ b. b ∷ rows) first.thing ∙ ap (λ bs. o ∷ bs) later.thing; rest = later.rest }

goal_lines : List (List ℕ) → List ℕ → List ℕ
goal_lines goals k = row_lines 103 goals (codes "end\n" ++ k)

goals_stop : (goals : List (List ℕ)) (k : List ℕ) → Stops (is_letter 114) (goal_lines goals k)
unfolding is_letter goal_lines
goals_stop [] k = refl
goals_stop (g ∷ goals) k = refl

goals_stop_clauses : (goals : List (List ℕ)) (k : List ℕ) → Stops (is_letter 99) (goal_lines goals k)
unfolding is_letter goal_lines
goals_stop_clauses [] k = refl
goals_stop_clauses (g ∷ goals) k = refl

rows_stop : (rows goals : List (List ℕ)) (k : List ℕ) → Stops (is_letter 99) (row_lines 114 rows (goal_lines goals k))
unfolding is_letter
rows_stop [] goals k = goals_stop_clauses goals k
rows_stop (r ∷ rows) goals k = refl

end_stops : (k : List ℕ) → Stops (is_letter 103) (codes "end\n" ++ k)
unfolding is_letter
end_stops k = refl

certificate_same : (c d : Certificate) → c.clauses ≡ d.clauses → c.rows ≡ d.rows → c.goals ≡ d.goals → c ≡ d
certificate_same c d clauses rows goals =
    let of_parts : List (Clause Term) → List (List ℕ) → List (List ℕ) → Certificate = λ cs rs gs. record { clauses = cs; rows = rs; goals = gs } in
    ap (λ cs. of_parts cs c.rows c.goals) clauses ∙ (ap (λ rs. of_parts d.clauses rs c.goals) rows ∙ ap (λ gs. of_parts d.clauses d.rows gs) goals)

-- two certificates with rests are one certificate and one rest, where the texts are one
pub certificate_apart : (P : Protocol) → HasNames P → (c d : Certificate) (k l : List ℕ) → IsCertificateOf P c → IsCertificateOf P d → certificate_text P c k ≡ certificate_text P d l → Same c d k l
unfolding goal_lines
certificate_apart P names c d k l is_c is_d e =
    let x = row_lines 114 c.rows (goal_lines c.goals k) in
    let y = row_lines 114 d.rows (goal_lines d.goals l) in
    let clauses = clause_lines_apart P names c.clauses d.clauses x y is_c.clauses is_d.clauses (rows_stop c.rows c.goals k) (rows_stop d.rows d.goals l) (same_front (codes "cert 1\n") (clause_lines P c.clauses x) (clause_lines P d.clauses y) e) in
    let rows = row_lines_apart 114 c.rows d.rows (goal_lines c.goals k) (goal_lines d.goals l) refl is_c.rows is_d.rows (goals_stop c.goals k) (goals_stop d.goals l) clauses.rest in
    let goals = row_lines_apart 103 c.goals d.goals (codes "end\n" ++ k) (codes "end\n" ++ l) refl is_c.goals is_d.goals (end_stops k) (end_stops l) rows.rest in
    record { thing = certificate_same c d clauses.thing rows.thing goals.thing; rest = same_front (codes "end\n") k l goals.rest }
