-- The places of the unsolved clauses, and the pairs of a solved clause with those that stand between two places.
use Rattle.std.proofs.Common.{◌≡◌, ◌∙◌, ℕ, zero, suc, ◌+◌, ◌-◌, ◌<◌, ◌≤◌, Option, Some, None, List, [], ◌∷◌, ◌++◌, length, map, take, get_or, slice_get, option_map, refl, ap, sym, subst, inl, inr, arith}
use Rattle.std.proofs.lemmas.Bool.{cases_lt}
use Rattle.std.proofs.lemmas.List.{length-take, take_more, take_all}
use Rattle.std.proofs.lemmas.Option.{slice_get-map, slice_get-get_or}
use Rattle.spec_terms.specs.Term.{Term}
use Rattle.spec_clauses.specs.Fact.{Clause, Bad}
use Rattle.spec_clauses.specs.Selection.{Selection, select}
use Rattle.spec_certificates.specs.Certificate.{numbered_from}
use Rattle.spec_fingerprints.specs.Fingerprints.{fingerprint_of, hypothesis_print}
use Rattle.clause_form.specs.Fit.{clauses_at}
use Rattle.clause_form.specs.Seen.{IdClause}
use Rattle.fact_fingerprint.specs.Seen.{fingerprint_seen}
use Rattle.fact_fingerprint.proofs.Telling.{prints_count}
use Rattle.log_entries.specs.Numbers.{IsAmong, IsAscending}
use Rattle.log_entries.proofs.Numbers.{among_left, among_last, push_among, place_among}
use Rattle.cert_writer.specs.declared.closing.Unsolved.{Unsolved}
use Rattle.cert_writer.specs.Unsolved.{some_places, AreUnsolved}
use Rattle.cert_writer.specs.Adding.{AddsPairs, pairs_of_two, pairs_of_one}
use Rattle.cert_writer.proofs.Adding.{pair_unselected, one_next}

-- the places of one more
some_append : {X : Type 0} (n : ℕ) (xs : List (Option X)) (x : Option X) → some_places n (xs ++ x ∷ []) ≡ some_places n xs ++ some_places (n + length xs) (x ∷ [])
some_append n [] x = let same : n ≡ n + 0 = omega arith in ap (λ (k : ℕ). some_places k (x ∷ [])) same
some_append n (None ∷ xs) x = let same : suc n + length xs ≡ n + suc (length xs) = omega arith in some_append (suc n) xs x ∙ ap (λ (k : ℕ). some_places (suc n) xs ++ some_places k (x ∷ [])) same
some_append n (Some y ∷ xs) x = let same : suc n + length xs ≡ n + suc (length xs) = omega arith in ap (λ (ks : List ℕ). n ∷ ks) (some_append (suc n) xs x ∙ ap (λ (k : ℕ). some_places (suc n) xs ++ some_places k (x ∷ [])) same)

pub place_more : {X : Type 0} (xs : List (Option X)) (i : ℕ) (d : Option X) (places new : List ℕ) → i < length xs → new ≡ places ++ some_places i (get_or xs i d ∷ []) → places ≡ some_places 0 (take i xs) → new ≡ some_places 0 (take (i + 1) xs)
place_more xs i d places new within is was =
    let count : 0 + length (take i xs) ≡ i = omega (arith, within, length-take i xs) in
    is ∙ (ap (λ (ks : List ℕ). ks ++ some_places i (get_or xs i d ∷ [])) was
    ∙ sym (ap (some_places 0) (take_more xs i d within) ∙ (some_append 0 (take i xs) (get_or xs i d) ∙ ap (λ (k : ℕ). some_places 0 (take i xs) ++ some_places k (get_or xs i d ∷ [])) count)))

-- they ascend
ascend_less : (m n : ℕ) (ns : List ℕ) → m ≤ n → IsAscending n ns → IsAscending m ns
ascend_less m n [] less up = tt
ascend_less m n (k ∷ ns) less up = (let first = up.0 in omega (arith, less, first), up.1)

some_ascend : {X : Type 0} (n : ℕ) (xs : List (Option X)) → IsAscending n (some_places n xs)
some_ascend n [] = tt
some_ascend n (None ∷ xs) = ascend_less n (suc n) (some_places (suc n) xs) (omega arith) (some_ascend (suc n) xs)
some_ascend n (Some x ∷ xs) = (omega arith, some_ascend (suc n) xs)

-- there is something at each
some_within : {X : Type 0} (n : ℕ) (xs : List (Option X)) (m : ℕ) → IsAmong (some_places n xs) m → m < n + length xs
some_within n [] m among = absurd among
some_within n (None ∷ xs) m among = let less = some_within (suc n) xs m among in omega (arith, less)
some_within n (Some x ∷ xs) m (inl same) = omega (arith, same)
some_within n (Some x ∷ xs) m (inr among) = let less = some_within (suc n) xs m among in omega (arith, less)

-- and there is nothing elsewhere
some_every : {X : Type 0} (n k : ℕ) (xs : List (Option X)) (x : X) → slice_get xs k ≡ Some (Some x) → IsAmong (some_places n xs) (n + k)
some_every n k [] x at = cc
some_every n zero (None ∷ xs) x at = cc
some_every n (suc k) (None ∷ xs) x at = let same : suc n + k ≡ n + suc k = omega arith in subst (λ (m : ℕ). IsAmong (some_places (suc n) xs) m) same (some_every (suc n) k xs x at)
some_every n zero (Some y ∷ xs) x at = inl (omega arith)
some_every n (suc k) (Some y ∷ xs) x at = let same : suc n + k ≡ n + suc k = omega arith in inr (subst (λ (m : ℕ). IsAmong (some_places (suc n) xs) m) same (some_every (suc n) k xs x at))

-- whatever stands there
some_mapped : {X Y : Type 0} (f : X → Y) (n : ℕ) (xs : List (Option X)) → some_places n (map (option_map f) xs) ≡ some_places n xs
some_mapped f n [] = refl
some_mapped f n (None ∷ xs) = some_mapped f (suc n) xs
some_mapped f n (Some x ∷ xs) = ap (λ (ks : List ℕ). n ∷ ks) (some_mapped f (suc n) xs)

-- what stands before a place in numbers that ascend is less than what stands there
ascend_above : (least : ℕ) (ns : List ℕ) (n : ℕ) → IsAscending least ns → IsAmong ns n → least ≤ n
ascend_above least [] n up among = absurd among
ascend_above least (m ∷ ns) n up (inl same) = let first = up.0 in omega (arith, first, same)
ascend_above least (m ∷ ns) n up (inr rest) = let first = up.0 in let later = ascend_above (suc m) ns n up.1 rest in omega (arith, first, later)

among_before : (least : ℕ) (ns : List ℕ) (k n : ℕ) → IsAscending least ns → k < length ns → IsAmong (take k ns) n → n < get_or ns k 0
among_before least [] k n up within among = absurd (omega (arith, within))
among_before least (m ∷ ns) zero n up within among = absurd among
among_before least (m ∷ ns) (suc k) n up within (inl same) = let later = ascend_above (suc m) ns (get_or ns k 0) up.1 (place_among ns k 0 (omega (arith, within))) in omega (arith, later, same)
among_before least (m ∷ ns) (suc k) n up within (inr rest) = among_before (suc m) ns k n up.1 (omega (arith, within)) rest

take_among : (ns : List ℕ) (k n : ℕ) → IsAmong (take k ns) n → IsAmong ns n
take_among [] zero n among = among
take_among [] (suc k) n among = among
take_among (m ∷ ns) zero n among = absurd among
take_among (m ∷ ns) (suc k) n (inl same) = inl same
take_among (m ∷ ns) (suc k) n (inr rest) = inr (take_among ns k n rest)

abbrev no_clause : Clause Term
no_clause = record { hypotheses = []; diffs = []; conclusion = Bad [] }

-- Of the first of some places, those from one on and before another are before a third, and the unsolved clauses from one on and
-- before the third are at these places.
pub record IsPassed (clauses : List (Clause Term)) (places : List ℕ) (from to k m : ℕ) : Type 0 where
  pub before : (n : ℕ) → IsAmong (take k places) n → from ≤ n → n < to → n < m
  pub every : (n : ℕ) (c : Clause Term) (at : Selection) → from ≤ n → n < m → slice_get clauses n ≡ Some c → select c.hypotheses ≡ Some at → IsAmong (take k places) n

module _ (clauses : List (Clause Term)) (i : ℕ) (solved : Clause Term) (first : List (List ℕ)) where
  abbrev AddsFirst : ℕ → List (List ℕ) → Type 0
  AddsFirst m rows = AddsPairs clauses (pairs_of_one i solved (take m (numbered_from 1 clauses))) first rows

  -- solved clauses give nothing
  none_between : (from count : ℕ) (rows : List (List ℕ)) → from + count ≤ length clauses → ((n : ℕ) (c : Clause Term) (at : Selection) → from ≤ n → n < from + count → slice_get clauses n ≡ Some c → select c.hypotheses ≡ Some at → ⊥) → AddsFirst from rows → AddsFirst (from + count) rows
  none_between from zero rows within none start = let same : from ≡ from + 0 = omega arith in subst (λ (m : ℕ). AddsFirst m rows) same start
  none_between from (suc count) rows within none start =
      let c = get_or clauses (from + count) no_clause in
      let at = slice_get-get_or clauses (from + count) no_clause (omega (arith, within)) in
      let so_far = none_between from count rows (omega (arith, within)) (λ n d s least less there selected. none n d s least (omega (arith, less)) there selected) start in
      let same : from + count + 1 ≡ from + suc count = omega arith in
      subst (λ (m : ℕ). AddsFirst m rows) same (one_next clauses i solved clauses (from + count) c first rows rows at so_far (λ j. pair_unselected clauses i j solved c rows (unselected c at (select c.hypotheses) refl)))
    where
      unselected : (c : Clause Term) → slice_get clauses (from + count) ≡ Some c → (o : Option Selection) → select c.hypotheses ≡ o → select c.hypotheses ≡ None
      unselected c at None e = e
      unselected c at (Some s) e = absurd (none (from + count) c s (omega arith) (omega arith) at e)

  between : (from m : ℕ) (rows : List (List ℕ)) → from ≤ m → m ≤ length clauses → ((n : ℕ) (c : Clause Term) (at : Selection) → from ≤ n → n < m → slice_get clauses n ≡ Some c → select c.hypotheses ≡ Some at → ⊥) → AddsFirst from rows → AddsFirst m rows
  between from m rows least within none start =
      let same : from + (m - from) ≡ m = omega (arith, least) in
      subst (λ (n : ℕ). AddsFirst n rows) same
      (none_between from (m - from) rows (omega (arith, same, within)) (λ n c at above below there selected. none n c at above (omega (arith, same, below)) there selected) start)

  -- once the clauses before one are passed, the rows are those of the pairs with them
  abbrev pub AreReached : List ℕ → ℕ → ℕ → ℕ → List (List ℕ) → Type 0
  AreReached places from to k rows = (m : ℕ) → from ≤ m → m ≤ to → IsPassed clauses places from to k m → AddsFirst m rows

  module _ (places : List ℕ) (from to : ℕ) (short : to ≤ length clauses) where
    pub none_reached : (rows : List (List ℕ)) → AddsFirst from rows → AreReached places from to 0 rows
    none_reached rows start = λ m least most passed. between from m rows least (omega (arith, most, short)) (λ n c at above below there selected. nothing places n (passed.every n c at above below there selected)) start
      where
        nothing : (ns : List ℕ) (n : ℕ) → IsAmong (take 0 ns) n → ⊥
        nothing [] n among = among
        nothing (m ∷ ns) n among = among

    module _ (k : ℕ) (up : IsAscending 0 places) (more : k < length places) (c : Clause Term) (there : slice_get clauses (get_or places k 0) ≡ Some c) (old new : List (List ℕ)) (reached : AreReached places from to k old) where
      abbrev place : ℕ
      place = get_or places k 0

      next : take (k + 1) places ≡ take k places ++ place ∷ []
      next = take_more places k 0 more

      sooner : (n : ℕ) → IsAmong (take k places) n → IsAmong (take (k + 1) places) n
      sooner n among = subst (λ (ns : List ℕ). IsAmong ns n) (sym next) (among_left (take k places) (place ∷ []) n among)

      -- the place is none of those
      outside : new ≡ old → (from ≤ place → place < to → ⊥) → AreReached places from to (k + 1) new
      outside same not_there = λ m least most passed. subst (λ (rows : List (List ℕ)). AddsFirst m rows) (sym same) (reached m least most (record {
        before = λ n among above below. passed.before n (sooner n among) above below;
        every = λ n d at above below here selected. elim (push_among (take k places) place n (subst (λ (ns : List ℕ). IsAmong ns n) next (passed.every n d at above below here selected))) as (λ _. IsAmong (take k places) n) [
          | inl among ↦ among
          | inr same ↦ absurd (not_there (omega (arith, same, above)) (omega (arith, same, below, most)))
        ];
      }))

      -- it is one of those
      inside : from ≤ place → place < to → ((j : ℕ) → AddsPairs clauses (pairs_of_two i solved j c) old new) → AreReached places from to (k + 1) new
      inside least_place most_place adds = λ m least most passed.
          (let here : place < m = passed.before place (subst (λ (ns : List ℕ). IsAmong ns place) (sym next) (among_last (take k places) place)) least_place most_place in
          let so_far = reached place least_place (omega (arith, most_place)) (record {
            before = λ n among above below. among_before 0 places k n up more among;
            every = λ n d at above below at_n selected. elim (push_among (take k places) place n (subst (λ (ns : List ℕ). IsAmong ns n) next (passed.every n d at above (omega (arith, below, here)) at_n selected))) as (λ _. IsAmong (take k places) n) [
              | inl among ↦ among
              | inr same ↦ absurd (omega (arith, same, below))
            ];
          }) in
          between (place + 1) m new (omega (arith, here)) (omega (arith, most, short)) (λ n d at above below at_n selected. elim (push_among (take k places) place n (subst (λ (ns : List ℕ). IsAmong ns n) next (passed.every n d at (omega (arith, above, least_place)) below at_n selected))) as (λ _. ⊥) [
            | inl among ↦ (let less = among_before 0 places k n up more among in absurd (omega (arith, less, above)))
            | inr same ↦ absurd (omega (arith, same, above))
          ]) (one_next clauses i solved clauses place c first old new there so_far adds))

      pub more_reached : (from ≤ place → place < to → (j : ℕ) → AddsPairs clauses (pairs_of_two i solved j c) old new) → ((from ≤ place → place < to → ⊥) → new ≡ old) → AreReached places from to (k + 1) new
      more_reached met passed = elim (cases_lt place from) as (λ _. AreReached places from to (k + 1) new) [
        | inl below ↦ (let not_there : from ≤ place → place < to → ⊥ = λ least most. omega (arith, least, below) in outside (passed not_there) not_there)
        | inr least ↦ elim (cases_lt place to) as (λ _. AreReached places from to (k + 1) new) [
          | inl most ↦ inside least most (met least most)
          | inr above ↦ (let not_there : from ≤ place → place < to → ⊥ = λ least most. omega (arith, most, above) in outside (passed not_there) not_there)
        ]
      ]

    -- all are passed, where the places are those of all unsolved clauses
    pub all_reached : (k : ℕ) (rows : List (List ℕ)) → from ≤ to → length places ≤ k → places ≡ some_places 0 (map hypothesis_print clauses) → AreReached places from to k rows → AddsFirst to rows
    all_reached k rows least past are reached = reached to least (omega arith) (record {
      before = λ n among above below. below;
      every = λ n c at above below there selected. subst (λ (ns : List ℕ). IsAmong ns n) (sym are ∙ sym (take_all k places past)) (at_unsolved n c at there selected);
    })
      where
        at_unsolved : (n : ℕ) (c : Clause Term) (at : Selection) → slice_get clauses n ≡ Some c → select c.hypotheses ≡ Some at → IsAmong (some_places 0 (map hypothesis_print clauses)) n
        at_unsolved n c at there selected =
            let same : 0 + n ≡ n = omega arith in
            subst (λ (k : ℕ). IsAmong (some_places 0 (map hypothesis_print clauses)) k) same (some_every 0 n (map hypothesis_print clauses) (fingerprint_of at.fact)
            (slice_get-map hypothesis_print clauses n ∙ (ap (option_map hypothesis_print) there ∙ ap (λ (o : Option Selection). Some (option_map (λ (s : Selection). fingerprint_of s.fact) o)) selected)))

-- of the unsolved live clauses
module _ (all : List Term) (live : List IdClause) (unsolved : Unsolved) (are : AreUnsolved all live unsolved) where
  pub places_are : unsolved.places.now ≡ some_places 0 (map hypothesis_print (clauses_at all live))
  places_are = are.places ∙ (sym (some_mapped fingerprint_seen 0 unsolved.prints.now) ∙ ap (some_places 0) are.prints)

  pub places_ascend : IsAscending 0 unsolved.places.now
  places_ascend = subst (λ (ns : List ℕ). IsAscending 0 ns) (sym are.places) (some_ascend 0 unsolved.prints.now)

  pub place_within : (n : ℕ) → IsAmong unsolved.places.now n → n < length live
  place_within n among =
      let less = some_within 0 unsolved.prints.now n (subst (λ (ns : List ℕ). IsAmong ns n) are.places among) in
      let count = prints_count all live unsolved.prints.now are.prints in
      omega (arith, less, count)
