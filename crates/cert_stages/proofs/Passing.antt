-- Pairs of a certificate's clauses by their places: what comes of each, and of all that were passed.
use Rattle.std.proofs.Common.{◌≡◌, ◌∙◌, ℕ, zero, suc, ◌+◌, ◌<◌, ◌≤◌, false, Option, Some, None, List, [], ◌∷◌, ◌++◌, length, map, get_or, drop, refl, ap, sym, subst, arith, add-one}
use Rattle.std.specs.Prelude.{slice_get, option_map}
use Rattle.std.specs.List.{AllByRecursion}
use Rattle.std.proofs.lemmas.List.{length-map, drop_all}
use Rattle.std.proofs.lemmas.Option.{slice_get-map, slice_get-get_or}
use Rattle.spec_terms.specs.Term.{Term}
use Rattle.spec_terms.proofs.Replace.{some_same, some_none}
use Rattle.spec_clauses.specs.Fact.{Clause}
use Rattle.spec_clauses.specs.Selection.{Selection}
use Rattle.spec_clauses.specs.Resolvents.{Resolvents}
use Rattle.spec_derivations.specs.Choice.{at_place, choice_of, IsRight}
use Rattle.spec_derivations.proofs.Choosing.{at_place-within}
use Rattle.spec_certificates.specs.Certificate.{CoverRowHolds, Numbered, numbered_from, number_beside, Pair, pairs_with, pairs_of_resting, pairs_by}
use Rattle.clause_form.specs.Seen.{clause_at, IdClause}
use Rattle.spec_fingerprints.specs.Fingerprints as print
use Rattle.spec_fingerprints.specs.Fingerprints.{fingerprint_of, may_meet}
use Rattle.spec_fingerprints.proofs.Meeting.{facts_apart}
use Rattle.clause_resolve.specs.Apart.{IsHypothesisAt}
use Rattle.clause_resolve.specs.Answers.{GivesOf, IsAnswerAt, AreFoundLow}
use Rattle.clause_resolve.specs.declared.resolving.Resolved.{Resolved}
use Rattle.clause_resolve.specs.declared.resolving.Resolved.TheVariants as resolved_so
use Rattle.cert_stages.specs.Stages.{AreShown, FirstUnshown, AreClosed, FirstOpen}
use Rattle.clause_form.specs.Fit.{AreFit, clauses_at}
use Rattle.cert_stages.specs.Answers.{numbered_at, closure_of, where_shown, IsShownSo, IsClosedSo, chosen_by, AreRight, pairs_of_two, pairs_with_all, pairs_if_resting, pair_at, pairs_at, pairs_at_resting}
use Rattle.cert_stages.specs.Unsolved.{unsolved_from, places_of}
use Rattle.cert_stages.specs.declared.unsolved.Unsolved.{Unsolved}
use Rattle.cert_stages.specs.declared.shown.OpenPair.{OpenPair}
use Rattle.cert_stages.specs.declared.shown.Shown as shown
use Rattle.cert_stages.specs.declared.shown.Shown.TheVariants as shown_so
use Rattle.cert_stages.specs.declared.shown.Closed as closed
use Rattle.cert_stages.specs.declared.shown.Closed.TheVariants as closed_so
use Rattle.clause_form.proofs.Fit.{resolvents_fit}
use Rattle.cert_stages.proofs.Pairing.{no_unifier, too_large, all_covered, one_uncovered}
use Rattle.cert_stages.proofs.UnsolvedOnes.{number_there, pairs_at_places, all_pairs, place_next, none_left}
use Rattle.cert_stages.proofs.Walking.{with_number, clause_at_place, none_ahead, IsPassed, pass_begins, pass_goes_on, pass_fails, pass_ends}

-- the clause at a place, with its number
pub numbered_place : (all : List Term) (cs : List IdClause) (i : ℕ) (d : IdClause) → i < length cs → slice_get (numbered_at all cs) i ≡ Some (with_number (i + 1) (clause_at all (get_or cs i d)))
numbered_place all cs i d within =
    let number : 1 + i ≡ i + 1 = omega arith in
    let there : slice_get (clauses_at all cs) i ≡ Some (clause_at all (get_or cs i d)) = slice_get-map (clause_at all) cs i ∙ ap (option_map (clause_at all)) (slice_get-get_or cs i d within) in
    clause_at_place 1 (clauses_at all cs) i (clause_at all (get_or cs i d)) there ∙ ap (λ n. Some (with_number n (clause_at all (get_or cs i d)))) number

-- what holds of all holds at a place
at_index : {X : Type 0} (A : X → Type 0) (xs : List X) (k : ℕ) (x : X) → AllByRecursion A xs → slice_get xs k ≡ Some x → A x
at_index A [] k x a e = cc
at_index A (y ∷ xs) zero x a e = subst A (some_same e) a.0
at_index A (y ∷ xs) (suc k) x a e = at_index A xs k x a.1 e

-- what a right number chooses of the clause at a place is there
pub chosen_at : (all : List Term) (cs : List IdClause) (numbers : List ℕ) (j at : ℕ) (e : IdClause) → j < length cs → AreRight numbers (numbered_at all cs) → slice_get numbers j ≡ Some (suc at) → (s : Selection) × (at_place (clause_at all (get_or cs j e)).hypotheses at ≡ Some s)
chosen_at all cs numbers j at e within right chosen =
    let c = clause_at all (get_or cs j e) in
    let one : IsRight c (number_beside numbers (with_number (j + 1) c)) = at_index (λ d. IsRight d.clause (number_beside numbers d)) (numbered_at all cs) j (with_number (j + 1) c) right (numbered_place all cs j e within) in
    let there = subst (IsRight c) (number_there numbers j (suc at) c chosen) one in
    (there.0, there.1)

pub hypothesis_at : (all : List Term) (cs : List IdClause) (numbers : List ℕ) (j at : ℕ) (e : IdClause) → j < length cs → AreRight numbers (numbered_at all cs) → slice_get numbers j ≡ Some (suc at) → IsHypothesisAt (clause_at all (get_or cs j e)) at
hypothesis_at all cs numbers j at e within right chosen =
    let there = chosen_at all cs numbers j at e within right chosen in
    at_place-within (clause_at all (get_or cs j e)).hypotheses at there.0 there.1

-- resolvents are fit
pub made_fit : (new : List Term) (solved unsolved : Clause Term) (at : ℕ) (found : Resolved) (made : List IdClause) → found ≡ resolved_so.Clauses made → IsAnswerAt at new solved unsolved found → AreFoundLow new found → AreFit new made
made_fit new solved unsolved at found made e answer low =
    let told = subst (λ (r : Resolved). IsAnswerAt at new solved unsolved r) e answer in
    resolvents_fit new made told.2.gives.0 told.0 told.2.gives.2 told.1 (subst (λ (r : Resolved). AreFoundLow new r) e low)

-- The pair of the clauses at two places, of the second of which a number chooses a hypothesis.
module _ (all : List Term) (cs : List IdClause) (numbers : List ℕ) (rows : List (List ℕ)) (from i j at : ℕ) (d e : IdClause) (solved_within : i < length cs) (unsolved_within : j < length cs) (number : slice_get numbers j ≡ Some (suc at)) where
  abbrev first : Clause Term
  first = clause_at all (get_or cs i d)

  abbrev second : Clause Term
  second = clause_at all (get_or cs j e)

  abbrev A : Numbered
  A = with_number (i + 1) first

  abbrev B : Numbered
  B = with_number (j + 1) second

  abbrev there : Option Selection
  there = at_place second.hypotheses at

  abbrev this_pair : List Pair
  this_pair = pair_at (chosen_by numbers) (numbered_at all cs) i j

  two : this_pair ≡ pairs_with A there B
  two =
      ap (λ o. pairs_of_two (chosen_by numbers) o (slice_get (numbered_at all cs) j)) (numbered_place all cs i d solved_within)
      ∙ (ap (λ o. pairs_of_two (chosen_by numbers) (Some A) o) (numbered_place all cs j e unsolved_within)
      ∙ ap (λ (n : ℕ). pairs_with A (choice_of second n) B) (number_there numbers j (suc at) second number))

  closed_by : (left : ℕ) → AreClosed (clauses_at all cs) (pairs_with A there B) (drop from rows) (drop left rows) → IsClosedSo (clauses_at all cs) this_pair rows from (closed_so.All left)
  closed_by left x = subst (λ ps. AreClosed (clauses_at all cs) ps (drop from rows) (drop left rows)) (sym two) x

  open_by : (pair : OpenPair) → FirstOpen (clauses_at all cs) (pairs_with A there B) (drop from rows) (closure_of pair) → IsClosedSo (clauses_at all cs) this_pair rows from (closed_so.Except pair)
  open_by pair x = subst (λ ps. FirstOpen (clauses_at all cs) ps (drop from rows) (closure_of pair)) (sym two) x

  pub pair_apart : (new : List Term) (found : Resolved) → found ≡ resolved_so.NoUnifier → IsAnswerAt at new first second found → IsClosedSo (clauses_at all cs) this_pair rows from (closed_so.All from)
  pair_apart new found same answer = closed_by from (no_unifier (clauses_at all cs) A B there (drop from rows) (subst (λ (r : Resolved). IsAnswerAt at new first second r) same answer))

  -- where fingerprints tell
  pub pair_told_apart : (s : Selection) (conclusion hypothesis : print.Fingerprint) → there ≡ Some s → conclusion ≡ fingerprint_of first.conclusion → hypothesis ≡ fingerprint_of s.fact → may_meet conclusion hypothesis ≡ false → IsClosedSo (clauses_at all cs) this_pair rows from (closed_so.All from)
  pair_told_apart s conclusion hypothesis chosen is also apart =
      let told : may_meet (fingerprint_of first.conclusion) (fingerprint_of s.fact) ≡ false = sym (λ k. may_meet (is k) (also k)) ∙ apart in
      closed_by from (no_unifier (clauses_at all cs) A B there (drop from rows) (record { at = s; is_selected = chosen; gives = facts_apart first second s told }))

  pub pair_large : (new : List Term) (found : Resolved) → found ≡ resolved_so.Large → IsAnswerAt at new first second found → IsClosedSo (clauses_at all cs) this_pair rows from (where_shown i j (shown_so.Except 0))
  pair_large new found same answer = open_by (record { solved = i + 1; unsolved = j + 1; resolvent = 0 }) (too_large (clauses_at all cs) A B there (drop from rows) (subst (λ (r : Resolved). IsAnswerAt at new first second r) same answer))

  -- what is shown of the resolvents
  by_rows : (made : List (Clause Term)) (given : List (Clause Term)) (o : shown.Shown) → made ≡ given → GivesOf there first second (Resolvents given) → IsShownSo (CoverRowHolds (clauses_at all cs)) (numbered_from 1 made) rows from o → IsClosedSo (clauses_at all cs) this_pair rows from (where_shown i j o)
  by_rows made given (shown_so.All next) same gives x =
      closed_by next (all_covered (clauses_at all cs) A B there (drop from rows) (drop next rows) given gives (subst (λ (l : List (Clause Term)). AreShown (CoverRowHolds (clauses_at all cs)) (numbered_from 1 l) (drop from rows) (drop next rows)) same x))
  by_rows made given (shown_so.Except number) same gives x =
      open_by (record { solved = i + 1; unsolved = j + 1; resolvent = number }) (one_uncovered (clauses_at all cs) A B there (drop from rows) given number gives (subst (λ (l : List (Clause Term)). FirstUnshown (CoverRowHolds (clauses_at all cs)) (numbered_from 1 l) (drop from rows) number) same x))

  pub pair_shown : (new : List Term) (made : List IdClause) (o : shown.Shown) → clauses_at new cs ≡ clauses_at all cs → IsAnswerAt at new first second (resolved_so.Clauses made) → IsShownSo (CoverRowHolds (clauses_at new cs)) (numbered_from 1 (clauses_at new made)) rows from o
      → IsClosedSo (clauses_at all cs) this_pair rows from (where_shown i j o)
  pair_shown new made o same answer x =
      by_rows (clauses_at new made) answer.0 o answer.1.are answer.2 (subst (λ (l : List (Clause Term)). IsShownSo (CoverRowHolds l) (numbered_from 1 (clauses_at new made)) rows from o) same x)

-- what is at a place is the first of what is ahead there
ahead : (xs : List Numbered) (k : ℕ) → k < length xs → (x : Numbered) × (slice_get xs k ≡ Some x) × (drop k xs ≡ x ∷ drop (suc k) xs)
ahead [] k within = absurd (omega (arith, within))
ahead (x ∷ xs) zero within = (x, refl, refl)
ahead (x ∷ xs) (suc k) within = ahead xs k (omega (arith, within))

numbered_length : (n : ℕ) (cs : List (Clause Term)) → length (numbered_from n cs) ≡ length cs
numbered_length n [] = refl
numbered_length n (c ∷ cs) = ap suc (numbered_length (n + 1) cs)

at_length : (all : List Term) (cs : List IdClause) → length (numbered_at all cs) ≡ length cs
at_length all cs = numbered_length 1 (clauses_at all cs) ∙ length-map cs (clause_at all)

module _ (chosen : Numbered → Option Selection) where
  resting_next : (xs : List Numbered) (k : ℕ) → k < length xs → pairs_by chosen (drop k xs) xs ≡ pairs_at_resting chosen xs k ++ pairs_by chosen (drop (k + 1) xs) xs
  resting_next xs k within =
      let next = ahead xs k within in
      ap (λ l. pairs_by chosen l xs) next.2 ∙ λ t. pairs_if_resting chosen (sym next.1 t) xs ++ pairs_by chosen (drop (sym (add-one k) t) xs) xs

  no_pairs : (o : Option Selection) (i : Numbered) (each : List Numbered) → (o ≡ None → ⊥) → pairs_of_resting chosen o i each ≡ []
  no_pairs None i each never = absurd (never refl)
  no_pairs (Some at) i each never = refl

-- the clause at a place rests: its pairs are those with all; and where it doesn't, it has none
pub resting_pairs : (all : List Term) (cs : List IdClause) (numbers : List ℕ) (i : ℕ) (d : IdClause) → i < length cs → slice_get numbers i ≡ Some 0 → pairs_at (chosen_by numbers) (numbered_at all cs) i ≡ pairs_at_resting (chosen_by numbers) (numbered_at all cs) i
resting_pairs all cs numbers i d within rests =
    let each = numbered_at all cs in
    let c = clause_at all (get_or cs i d) in
    let here = with_number (i + 1) c in
    let place = numbered_place all cs i d within in
    let none : chosen_by numbers here ≡ None = ap (choice_of c) (number_there numbers i 0 c rests) in
    ap (λ o. pairs_with_all (chosen_by numbers) o each) place ∙ (ap (λ s. pairs_of_resting (chosen_by numbers) s here each) (sym none) ∙ ap (λ o. pairs_if_resting (chosen_by numbers) o each) (sym place))

-- there is a clause at a place within
pub clause_within : (cs : List IdClause) (i : ℕ) → i < length cs → IdClause
clause_within [] i within = absurd (omega (arith, within))
clause_within (c ∷ cs) i within = c

pub passed_none : (all : List Term) (cs : List IdClause) (numbers : List ℕ) (rows : List (List ℕ)) (from i at : ℕ) (d : IdClause) → i < length cs → AreRight numbers (numbered_at all cs) → slice_get numbers i ≡ Some (suc at) → IsClosedSo (clauses_at all cs) (pairs_at_resting (chosen_by numbers) (numbered_at all cs) i) rows from (closed_so.All from)
passed_none all cs numbers rows from i at d within right chooses =
    let each = numbered_at all cs in
    let c = clause_at all (get_or cs i d) in
    let there = chosen_at all cs numbers i at d within right chooses in
    let some : chosen_by numbers (with_number (i + 1) c) ≡ Some there.0 = ap (choice_of c) (number_there numbers i (suc at) c chooses) ∙ there.1 in
    let none : pairs_at_resting (chosen_by numbers) each i ≡ [] =
    ap (λ o. pairs_if_resting (chosen_by numbers) o each) (numbered_place all cs i d within)
    ∙ no_pairs (chosen_by numbers) (chosen_by numbers (with_number (i + 1) c)) (with_number (i + 1) c) each (λ e. some_none (sym some ∙ e)) in
    subst (λ ps. AreClosed (clauses_at all cs) ps (drop from rows) (drop from rows)) (sym none) refl

-- Pairs that are passed one after the other, over a bank that comes back each time.
module _ (all : List Term) (cs : List IdClause) (numbers : List ℕ) (rows : List (List ℕ)) (from : ℕ) where
  -- of a solved clause, those with the unsolved ones before the place among these
  pub record PassedWith (i : ℕ) (us : List Unsolved) (now : List Term) (k next : ℕ) : Type 0 where
    pub passed : IsPassed (clauses_at all cs) (pairs_at (chosen_by numbers) (numbered_at all cs) i) rows from (pairs_at_places numbers (slice_get (numbered_at all cs) i) (numbered_at all cs) (map places_of (drop k us))) next
    pub same : now ≡ all

  pub with_begins : (i : ℕ) (us : List Unsolved) → map places_of us ≡ unsolved_from 0 numbers → length numbers ≡ length cs → PassedWith i us all 0 from
  with_begins i us found as_many = record {
    passed = subst (λ (ps : List Pair). IsPassed (clauses_at all cs) (pairs_at (chosen_by numbers) (numbered_at all cs) i) rows from ps from) (sym (all_pairs numbers all cs i us found (as_many ∙ sym (length-map cs (clause_at all))))) (pass_begins (clauses_at all cs) (pairs_at (chosen_by numbers) (numbered_at all cs) i) rows from);
    same = refl;
  }

  back_in : (now : List Term) (ps : List IdClause → List Term → List Pair) (next : ℕ) (o : closed.Closed) → now ≡ all → IsClosedSo (clauses_at now cs) (ps cs now) rows next o → IsClosedSo (clauses_at all cs) (ps cs all) rows next o
  back_in now ps next o same x = subst (λ (t : List Term). IsClosedSo (clauses_at t cs) (ps cs t) rows next o) same x

  -- the unsolved clause at the place among them is next
  module _ (i : ℕ) (us : List Unsolved) (k next : ℕ) (now : List Term) (was : PassedWith i us now k next) where
    abbrev those : ℕ → List Pair
    those n = pairs_at_places numbers (slice_get (numbered_at all cs) i) (numbered_at all cs) (map places_of (drop n us))

    module _ (d : Unsolved) (within : k < length us) (o : closed.Closed) (x : IsClosedSo (clauses_at now cs) (pair_at (chosen_by numbers) (numbered_at now cs) i (get_or us k d).place) rows next o) where
      comes : (r : closed.Closed) → o ≡ r → IsClosedSo (clauses_at all cs) (pair_at (chosen_by numbers) (numbered_at all cs) i (get_or us k d).place) rows next r
      comes r e = subst (λ (r : closed.Closed). IsClosedSo (clauses_at all cs) (pair_at (chosen_by numbers) (numbered_at all cs) i (get_or us k d).place) rows next r) e (back_in now (λ c t. pair_at (chosen_by numbers) (numbered_at t c) i (get_or us k d).place) next o was.same x)

      pub with_goes_on : (left : ℕ) (later : List Term) → later ≡ now → o ≡ closed_so.All left → PassedWith i us later (k + 1) left
      with_goes_on left later kept e = record {
        passed = pass_goes_on (clauses_at all cs) (pairs_at (chosen_by numbers) (numbered_at all cs) i) rows from (those k) (pair_at (chosen_by numbers) (numbered_at all cs) i (get_or us k d).place) (those (k + 1)) next left
            (place_next numbers (slice_get (numbered_at all cs) i) (numbered_at all cs) us k d within) (comes (closed_so.All left) e) was.passed;
        same = kept ∙ was.same;
      }

      pub with_fails : (pair : OpenPair) → o ≡ closed_so.Except pair → IsClosedSo (clauses_at all cs) (pairs_at (chosen_by numbers) (numbered_at all cs) i) rows from (closed_so.Except pair)
      with_fails pair e =
          pass_fails (clauses_at all cs) (pairs_at (chosen_by numbers) (numbered_at all cs) i) rows from (those k) (pair_at (chosen_by numbers) (numbered_at all cs) i (get_or us k d).place) (those (k + 1)) next (closure_of pair)
          (place_next numbers (slice_get (numbered_at all cs) i) (numbered_at all cs) us k d within) (comes (closed_so.Except pair) e) was.passed

    pub with_ends : length us ≤ k → IsClosedSo (clauses_at all cs) (pairs_at (chosen_by numbers) (numbered_at all cs) i) rows from (closed_so.All next)
    with_ends past =
        pass_ends (clauses_at all cs) (pairs_at (chosen_by numbers) (numbered_at all cs) i) rows from (those k) next (none_left numbers (slice_get (numbered_at all cs) i) (numbered_at all cs) (drop k us) (drop_all k us past)) was.passed

  -- of all clauses, those before the place
  pub record PassedAll (now : List Term) (k next : ℕ) : Type 0 where
    pub passed : IsPassed (clauses_at all cs) (pairs_by (chosen_by numbers) (numbered_at all cs) (numbered_at all cs)) rows from (pairs_by (chosen_by numbers) (drop k (numbered_at all cs)) (numbered_at all cs)) next
    pub same : now ≡ all

  pub all_begin : PassedAll all 0 from
  all_begin = record { passed = pass_begins (clauses_at all cs) (pairs_by (chosen_by numbers) (numbered_at all cs) (numbered_at all cs)) rows from; same = refl }

  all_next : (k : ℕ) → k < length cs → pairs_by (chosen_by numbers) (drop k (numbered_at all cs)) (numbered_at all cs) ≡ pairs_at_resting (chosen_by numbers) (numbered_at all cs) k ++ pairs_by (chosen_by numbers) (drop (k + 1) (numbered_at all cs)) (numbered_at all cs)
  all_next k within = resting_next (chosen_by numbers) (numbered_at all cs) k (omega (arith, within, at_length all cs))

  pub all_go_on : (k next left : ℕ) (now later : List Term) (o : closed.Closed) → PassedAll now k next → k < length cs → later ≡ now → o ≡ closed_so.All left → IsClosedSo (clauses_at now cs) (pairs_at_resting (chosen_by numbers) (numbered_at now cs) k) rows next o → PassedAll later (k + 1) left
  all_go_on k next left now later o was within kept e x = record {
    passed = pass_goes_on (clauses_at all cs) (pairs_by (chosen_by numbers) (numbered_at all cs) (numbered_at all cs)) rows from (pairs_by (chosen_by numbers) (drop k (numbered_at all cs)) (numbered_at all cs)) (pairs_at_resting (chosen_by numbers) (numbered_at all cs) k)
        (pairs_by (chosen_by numbers) (drop (k + 1) (numbered_at all cs)) (numbered_at all cs)) next left (all_next k within)
        (subst (λ (r : closed.Closed). IsClosedSo (clauses_at all cs) (pairs_at_resting (chosen_by numbers) (numbered_at all cs) k) rows next r) e (back_in now (λ c t. pairs_at_resting (chosen_by numbers) (numbered_at t c) k) next o was.same x)) was.passed;
    same = kept ∙ was.same;
  }

  pub all_fail : (k next : ℕ) (pair : OpenPair) (now : List Term) (o : closed.Closed) → PassedAll now k next → k < length cs → o ≡ closed_so.Except pair → IsClosedSo (clauses_at now cs) (pairs_at_resting (chosen_by numbers) (numbered_at now cs) k) rows next o → IsClosedSo (clauses_at all cs) (pairs_by (chosen_by numbers) (numbered_at all cs) (numbered_at all cs)) rows from (closed_so.Except pair)
  all_fail k next pair now o was within e x =
      pass_fails (clauses_at all cs) (pairs_by (chosen_by numbers) (numbered_at all cs) (numbered_at all cs)) rows from (pairs_by (chosen_by numbers) (drop k (numbered_at all cs)) (numbered_at all cs)) (pairs_at_resting (chosen_by numbers) (numbered_at all cs) k)
      (pairs_by (chosen_by numbers) (drop (k + 1) (numbered_at all cs)) (numbered_at all cs)) next (closure_of pair) (all_next k within)
      (subst (λ (r : closed.Closed). IsClosedSo (clauses_at all cs) (pairs_at_resting (chosen_by numbers) (numbered_at all cs) k) rows next r) e (back_in now (λ c t. pairs_at_resting (chosen_by numbers) (numbered_at t c) k) next o was.same x)) was.passed

  pub all_end : (k next : ℕ) (now : List Term) → PassedAll now k next → length cs ≤ k → IsClosedSo (clauses_at all cs) (pairs_by (chosen_by numbers) (numbered_at all cs) (numbered_at all cs)) rows from (closed_so.All next)
  all_end k next now was past =
      pass_ends (clauses_at all cs) (pairs_by (chosen_by numbers) (numbered_at all cs) (numbered_at all cs)) rows from (pairs_by (chosen_by numbers) (drop k (numbered_at all cs)) (numbered_at all cs)) next
      (ap (λ l. pairs_by (chosen_by numbers) l (numbered_at all cs)) (none_ahead 1 (clauses_at all cs) k (omega (arith, past, length-map cs (clause_at all))))) was.passed
