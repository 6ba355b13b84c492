-- The clauses of a certificate of which a hypothesis is chosen: that their places are found, and the pairs of a clause that rests with them.
use Rattle.std.proofs.Common.{◌≡◌, ◌∙◌, ℕ, zero, suc, ◌+◌, ◌<◌, ◌≤◌, Option, Some, None, List, [], ◌∷◌, ◌++◌, length, map, drop, get_or, refl, ap, sym, subst, arith, add-one, append_assoc}
use Rattle.std.specs.Prelude.{slice_get, flat_map}
use Rattle.std.specs.List.{AllByRecursion, cons_option}
use Rattle.std.proofs.lemmas.List.{drop_more, drop_all, map-append, append-nil}
use Rattle.std.proofs.lemmas.Option.{slice_get-get_or}
use Rattle.spec_calculus.specs.Points.{numbered}
use Rattle.spec_calculus.proofs.Items.{each-get_or}
use Rattle.spec_terms.specs.Term.{Term}
use Rattle.spec_terms.proofs.Replace.{some_same}
use Rattle.spec_clauses.specs.Fact.{Clause}
use Rattle.spec_clauses.specs.Selection.{Selection}
use Rattle.spec_clauses.proofs.Lists.{all_append}
use Rattle.spec_derivations.specs.Choice.{at_place, choice_of}
use Rattle.spec_certificates.specs.Certificate.{Numbered, numbered_from, or_zero, number_beside, Pair, pairs_with}
use Rattle.spec_fingerprints.specs.Fingerprints.{fingerprint_of}
use Rattle.clause_form.specs.Seen.{clause_at, IdClause}
use Rattle.clause_form.specs.Fit.{clauses_at}
use Rattle.fact_fingerprint.specs.Seen.{fingerprint_seen}
use Rattle.cert_stages.specs.Answers.{numbered_at, chosen_by, pairs_of_two, pairs_with_all, pairs_at}
use Rattle.cert_stages.specs.Unsolved.{unsolved_at, unsolved_from, places_of, IsUnsolvedOne}
use Rattle.cert_stages.specs.declared.unsolved.Unsolved.{Unsolved}
use Rattle.cert_stages.proofs.Walking.{with_number}

-- what is left of a list from a place on begins with the item there
module _ {X : Type 0} (xs : List X) (n : ℕ) (x : X) (rest : List X) (e : drop n xs ≡ x ∷ rest) where
  pub starts_within : n < length xs
  starts_within = go xs n e
    where
      go : (ys : List X) (k : ℕ) → drop k ys ≡ x ∷ rest → k < length ys
      go [] zero e = cc
      go [] (suc k) e = cc
      go (y ∷ ys) zero e = omega arith
      go (y ∷ ys) (suc k) e = let h = go ys k e in omega (arith, h)

  parts : get_or xs n x ∷ drop (n + 1) xs ≡ x ∷ rest
  parts = sym (drop_more xs n x starts_within) ∙ e

  pub starts_there : slice_get xs n ≡ Some x
  starts_there = let both = parts in let here : get_or xs n x ≡ x = cc in slice_get-get_or xs n x starts_within ∙ ap Some here

  pub goes_on : drop (n + 1) xs ≡ rest
  goes_on = let both = parts in cc

-- of numbers from a place on, the first comes first, if it chooses
pub found_next : (numbers : List ℕ) (k number : ℕ) → number ≡ get_or numbers k number → k < length numbers
    → unsolved_from k (drop k numbers) ≡ cons_option (unsolved_at (k, number)) (unsolved_from (k + 1) (drop (k + 1) numbers))
found_next numbers k number is within =
    ap (unsolved_from k) (drop_more numbers k number within)
    ∙ ap (λ n. cons_option (unsolved_at (k, n)) (unsolved_from (k + 1) (drop (k + 1) numbers))) (sym is)

-- the number beside the clause at a place
pub number_there : (numbers : List ℕ) (k number : ℕ) (c : Clause Term) → slice_get numbers k ≡ Some number → number_beside numbers (with_number (k + 1) c) ≡ number
number_there numbers k number c e =
    let next : numbered numbers (k + 1) ≡ slice_get numbers k = ap (numbered numbers) (add-one k) in
    ap or_zero (next ∙ e)

-- of no clause
abbrev pub no_unsolved_one : Unsolved
no_unsolved_one = record { place = 0; at = 0; print = record { head = 0; least = []; most = [] } }

pub is_unsolved_one : (all : List Term) (cs : List IdClause) (numbers : List ℕ) (us : List Unsolved) (k : ℕ) (d : Unsolved) → AllByRecursion (IsUnsolvedOne all cs numbers) us → k < length us → IsUnsolvedOne all cs numbers (get_or us k d)
is_unsolved_one all cs numbers us k d each within = each-get_or (IsUnsolvedOne all cs numbers) us k d within each

module _ (numbers : List ℕ) where
  -- the pairs of a clause with those at these places
  abbrev pub pairs_at_places : Option Numbered → List Numbered → List (ℕ × ℕ) → List Pair
  pairs_at_places None each us = []
  pairs_at_places (Some i) each us = flat_map (λ u. pairs_of_two (chosen_by numbers) (Some i) (slice_get each u.0)) us

  -- with one clause more: its pair, if a hypothesis of it is chosen
  one_pair : (i j : Numbered) (each : List Numbered) (n number : ℕ) (us : List (ℕ × ℕ)) → slice_get each n ≡ Some j → number_beside numbers j ≡ number → pairs_at_places (Some i) each (cons_option (unsolved_at (n, number)) us) ≡ pairs_with i (chosen_by numbers j) j ++ pairs_at_places (Some i) each us
  one_pair i j each n zero us there beside =
      let none : chosen_by numbers j ≡ None = ap (choice_of j.clause) beside in
      ap (λ (o : Option Selection). pairs_with i o j ++ pairs_at_places (Some i) each us) (sym none)
  one_pair i j each n (suc at) us there beside = ap (λ (o : Option Numbered). pairs_of_two (chosen_by numbers) (Some i) o ++ pairs_at_places (Some i) each us) there

  -- the pairs with those that are found are the pairs with all
  pairs_found : (i : Numbered) (each : List Numbered) (n : ℕ) (cs : List (Clause Term)) (ns : List ℕ) → drop n each ≡ numbered_from (n + 1) cs → drop n numbers ≡ ns → length ns ≡ length cs → pairs_at_places (Some i) each (unsolved_from n ns) ≡ pairs_with_all (chosen_by numbers) (Some i) (numbered_from (n + 1) cs)
  pairs_found i each n [] [] e f as_many = refl
  pairs_found i each n [] (m ∷ ns) e f as_many = absurd (omega (arith, as_many))
  pairs_found i each n (c ∷ cs) [] e f as_many = absurd (omega (arith, as_many))
  pairs_found i each n (c ∷ cs) (m ∷ ns) e f as_many =
      let here = with_number (n + 1) c in
      let behind = numbered_from (n + 1 + 1) cs in
      one_pair i here each n m (unsolved_from (n + 1) ns) (starts_there each n here behind e) (number_there numbers n m c (starts_there numbers n m ns f))
      ∙ ap (λ (ps : List Pair). pairs_with i (chosen_by numbers here) here ++ ps) (pairs_found i each (n + 1) cs ns (goes_on each n here behind e) (goes_on numbers n m ns f) (omega (arith, as_many)))

  pub all_pairs : (all : List Term) (cs : List IdClause) (i : ℕ) (us : List Unsolved) → map places_of us ≡ unsolved_from 0 numbers → length numbers ≡ length (clauses_at all cs) → pairs_at_places (slice_get (numbered_at all cs) i) (numbered_at all cs) (map places_of us) ≡ pairs_at (chosen_by numbers) (numbered_at all cs) i
  all_pairs all cs i us found as_many = ap (pairs_at_places (slice_get (numbered_at all cs) i) (numbered_at all cs)) found ∙ go (slice_get (numbered_at all cs) i)
    where
      go : (o : Option Numbered) → pairs_at_places o (numbered_at all cs) (unsolved_from 0 numbers) ≡ pairs_with_all (chosen_by numbers) o (numbered_at all cs)
      go None = refl
      go (Some x) = pairs_found x (numbered_at all cs) 0 (clauses_at all cs) numbers refl refl as_many

  no_pair : (o : Option Numbered) → [] ≡ pairs_of_two (chosen_by numbers) None o ++ []
  no_pair None = refl
  no_pair (Some x) = refl

  -- one after the other, until none is left
  pub place_next : (o : Option Numbered) (each : List Numbered) (us : List Unsolved) (k : ℕ) (d : Unsolved) → k < length us
      → pairs_at_places o each (map places_of (drop k us)) ≡ pairs_of_two (chosen_by numbers) o (slice_get each (get_or us k d).place) ++ pairs_at_places o each (map places_of (drop (k + 1) us))
  place_next None each us k d within = no_pair (slice_get each (get_or us k d).place)
  place_next (Some i) each us k d within = ap (λ l. pairs_at_places (Some i) each (map places_of l)) (drop_more us k d within)

  pub none_left : (o : Option Numbered) (each : List Numbered) (us : List Unsolved) → us ≡ [] → pairs_at_places o each (map places_of us) ≡ []
  none_left None each us e = refl
  none_left (Some i) each us e = ap (λ l. pairs_at_places (Some i) each (map places_of l)) e

-- What is found so far, and then.
pub record AreFoundTo (all : List Term) (cs : List IdClause) (numbers : List ℕ) (found : List Unsolved) (k : ℕ) : Type 0 where
  pub places : map places_of found ++ unsolved_from k (drop k numbers) ≡ unsolved_from 0 numbers
  pub each : AllByRecursion (IsUnsolvedOne all cs numbers) found

module _ (all : List Term) (cs : List IdClause) (numbers : List ℕ) where
  pub finding_begins : (found : List Unsolved) → found ≡ [] → AreFoundTo all cs numbers found 0
  finding_begins found none = record {
    places = ap (λ l. map places_of l ++ unsolved_from 0 numbers) none;
    each = subst (AllByRecursion (IsUnsolvedOne all cs numbers)) (sym none) tt;
  }

  module _ (found : List Unsolved) (k number : ℕ) (was : AreFoundTo all cs numbers found k) (is : number ≡ get_or numbers k number) (within : k < length numbers) where
    -- a clause that rests is passed over
    pub finding_passes : number ≡ 0 → AreFoundTo all cs numbers found (k + 1)
    finding_passes rests = record {
      places =
          ap (λ l. map places_of found ++ l) (sym (found_next numbers k number is within ∙ ap (λ n. cons_option (unsolved_at (k, n)) (unsolved_from (k + 1) (drop (k + 1) numbers))) rests)) ∙ was.places;
      each = was.each;
    }

    -- another is found
    pub finding_adds : (u : Unsolved) (new : List Unsolved) → number ≡ suc u.at → u.place ≡ k → IsUnsolvedOne all cs numbers u → new ≡ found ++ u ∷ [] → AreFoundTo all cs numbers new (k + 1)
    finding_adds u new chooses place one more = record {
      places =
          ap (λ l. map places_of l ++ unsolved_from (k + 1) (drop (k + 1) numbers)) more
          ∙ (ap (λ l. l ++ unsolved_from (k + 1) (drop (k + 1) numbers)) (map-append places_of found (u ∷ []))
          ∙ (append_assoc (map places_of found) (places_of u ∷ []) (unsolved_from (k + 1) (drop (k + 1) numbers))
          ∙ (ap (λ n. map places_of found ++ (n, u.at) ∷ unsolved_from (k + 1) (drop (k + 1) numbers)) place
          ∙ (ap (λ l. map places_of found ++ l) (sym (found_next numbers k number is within ∙ ap (λ n. cons_option (unsolved_at (k, n)) (unsolved_from (k + 1) (drop (k + 1) numbers))) chooses)) ∙ was.places))));
      each = subst (AllByRecursion (IsUnsolvedOne all cs numbers)) (sym more) (all_append (IsUnsolvedOne all cs numbers) found (u ∷ []) was.each (one, tt));
    }

  -- what is made of the clause at a place is one
  pub unsolved_here : (k number at : ℕ) (c : IdClause) (u : Unsolved) → k < length cs → c ≡ get_or cs k c → slice_get numbers k ≡ Some number → number ≡ suc at → places_of u ≡ (k, at)
      → ((s : Selection) → at_place (clause_at all c).hypotheses at ≡ Some s → fingerprint_seen u.print ≡ fingerprint_of s.fact) → IsUnsolvedOne all cs numbers u
  unsolved_here k number at c u within is there next places print =
      let place : u.place ≡ k = ap (λ (p : ℕ × ℕ). p.0) places in
      let chosen : u.at ≡ at = ap (λ (p : ℕ × ℕ). p.1) places in
      record {
        within = subst (λ n. n < length cs) (sym place) within;
        chosen = ap (slice_get numbers) place ∙ (there ∙ ap Some (next ∙ ap suc (sym chosen)));
        print = λ d s here e.
            let same : c ≡ d = is ∙ some_same (sym (slice_get-get_or cs k c within) ∙ (ap (slice_get cs) (sym place) ∙ here)) in
            print s ((λ t. at_place (clause_at all (same t)).hypotheses (sym chosen t)) ∙ e);
      }

  pub finding_ends : (found : List Unsolved) (k : ℕ) → length numbers ≤ k → AreFoundTo all cs numbers found k → map places_of found ≡ unsolved_from 0 numbers
  finding_ends found k past was = sym (append-nil (map places_of found)) ∙ (ap (λ l. map places_of found ++ unsolved_from k l) (sym (drop_all k numbers past)) ∙ was.places)
