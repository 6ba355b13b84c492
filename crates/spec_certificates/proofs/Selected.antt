-- What is shown and ruled by selection is so by the numbers that selection chooses by.
use Rattle.std.proofs.Common.{◌≡◌, ◌∙◌, ◌↔◌, ◌⊎◌, ℕ, suc, ◌+◌, Bool, true, false, ◌&&◌, cond, Some, None, List, [], ◌∷◌, ◌++◌, refl, ap, sym, subst, inl, inr, eqb-true, arith}
use Rattle.std.specs.Prelude.{Option, nat_eq, slice_get, flat_map}
use Rattle.std.specs.List.{AllByRecursion}
use Rattle.spec_calculus.specs.Syntax.{Query, Protocol}
use Rattle.spec_terms.specs.Term.{Term}
use Rattle.spec_terms.proofs.Decision.{true_false}
use Rattle.spec_terms.proofs.Replace.{some_none}
use Rattle.spec_clauses.specs.Fact.{Clause}
use Rattle.spec_clauses.specs.Selection.{Selection, select, is_solved}
use Rattle.spec_clauses.proofs.Inclusion.{Has-filter_source}
use Rattle.spec_clauses.proofs.Selection.{select-none}
use Rattle.spec_derivations.specs.Choice.{choice_of, IsRight, number_of}
use Rattle.spec_derivations.specs.Closed.{Closes}
use Rattle.spec_derivations.proofs.Choosing.{selection_chosen, selection_right, resting_solved}
use Rattle.spec_translation.specs.Translation.{Clauses, LargeAt, IsTranslation}
use Rattle.spec_translation.specs.Satisfied.{is_bad, AreSatisfied}
use Rattle.spec_certificates.specs.Shown.{IsShown}
use Rattle.spec_certificates.specs.Certificate.{Certificate, IsInShape, Numbered, numbered_from, by_selection, or_zero, number_beside, by_numbers, selected_numbers, Pair, pairs_with, pairs_of_resting, pairs_by}
use Rattle.spec_certificates.specs.Ruling.{Ruling, Translation, Cover, Each, Rights, Covers, Closures, Goals, NoneLeft, resting_bad, ObligedBy, Obliged, IsRuled, IsRuledBy}

pub shown_by_selection : (P : Protocol) (q : Query) (given clauses : List (Clause Term)) → IsTranslation P q (Clauses given) → Closes given clauses → AreSatisfied P q clauses → IsShown P q given clauses
shown_by_selection P q given clauses translated closes satisfied = record {
  translation = translated;
  closes = closes;
  satisfied = λ c h bad.
      let (listed, solved) = Has-filter_source (λ d. is_solved d.hypotheses) clauses c (resting_solved clauses c h) in
      satisfied c listed solved bad;
}

-- A number stands beside each clause in its order: so those of what is selected.
abbrev selected_number : Clause Term → ℕ
selected_number c = number_of (select c.hypotheses)

abbrev StandsSo : List ℕ → Numbered → Type 0
StandsSo numbers c = number_beside numbers c ≡ selected_number c.clause

add_zero : (n : ℕ) → n + 0 ≡ n
add_zero n = omega arith

add_next : (n k : ℕ) → n + suc k ≡ suc n + k
add_next n k = omega arith

add_one : (n : ℕ) → suc n + 1 ≡ suc (suc n)
add_one n = omega arith

stand_from : (numbers : List ℕ) (n : ℕ) (cs : List (Clause Term)) → ((k : ℕ) → slice_get numbers (n + k) ≡ slice_get (selected_numbers cs) k) → AllByRecursion (StandsSo numbers) (numbered_from (suc n) cs)
stand_from numbers n [] are = tt
stand_from numbers n (c ∷ cs) are =
    let first : slice_get numbers n ≡ Some (selected_number c) = ap (slice_get numbers) (sym (add_zero n)) ∙ are 0 in
    let later = stand_from numbers (suc n) cs (λ k. ap (slice_get numbers) (sym (add_next n k)) ∙ are (suc k)) in
    (ap or_zero first, subst (λ m. AllByRecursion (StandsSo numbers) (numbered_from m cs)) (sym (add_one n)) later)

selected_stand : (cs : List (Clause Term)) → AllByRecursion (StandsSo (selected_numbers cs)) (numbered_from 1 cs)
selected_stand cs = stand_from (selected_numbers cs) 0 cs (λ k. ap (slice_get (selected_numbers cs)) (zero_add k)) where
  zero_add : (k : ℕ) → 0 + k ≡ k
  zero_add k = omega arith

successor_apart : (n : ℕ) → nat_eq (suc n) 0 ≡ false
successor_apart n = go (nat_eq (suc n) 0) refl
  where
    go : (b : Bool) → nat_eq (suc n) 0 ≡ b → b ≡ false
    go true e = let no : suc n ≡ 0 = eqb-true (suc n) 0 e in absurd (omega (arith, no))
    go false e = refl

-- 0 stands beside solved clauses
zero_solved : (c : Clause Term) → nat_eq (selected_number c) 0 ≡ is_solved c.hypotheses
zero_solved c = go (select c.hypotheses) refl (is_solved c.hypotheses) refl
  where
    go : (o : Option Selection) → select c.hypotheses ≡ o → (b : Bool) → is_solved c.hypotheses ≡ b → nat_eq (number_of o) 0 ≡ b
    go None e true is = refl
    go None e false is = absurd (true_false (sym ((select-none c.hypotheses).0 e) ∙ is))
    go (Some at) e true is = absurd (some_none (sym e ∙ (select-none c.hypotheses).1 is))
    go (Some at) e false is = successor_apart at.index

-- what holds of each clause for one reason holds for another
all_for : (A B : Numbered → Type 0) → ((c : Numbered) → A c → B c) → (cs : List Numbered) → AllByRecursion A cs → AllByRecursion B cs
all_for A B for [] a = tt
all_for A B for (c ∷ cs) a = (for c a.0, all_for A B for cs a.1)

-- so the same is chosen
module _ (numbers : List ℕ) (c : Numbered) (stands : StandsSo numbers c) where
  chosen_alike : (by_numbers numbers).chosen c ≡ by_selection.chosen c
  chosen_alike = ap (choice_of c.clause) stands ∙ selection_chosen c.clause

  rests_alike : (by_numbers numbers).rests c ≡ by_selection.rests c
  rests_alike = ap (λ n. nat_eq n 0) stands ∙ zero_solved c.clause

  stands_right : IsRight c.clause (number_beside numbers c)
  stands_right = subst (IsRight c.clause) (sym stands) (selection_right c.clause)

pub selected_right : (cs : List (Clause Term)) → AllByRecursion (λ c. IsRight c.clause (number_beside (selected_numbers cs) c)) (numbered_from 1 cs)
selected_right cs = all_for (StandsSo (selected_numbers cs)) (λ c. IsRight c.clause (number_beside (selected_numbers cs) c)) (stands_right (selected_numbers cs)) (numbered_from 1 cs) (selected_stand cs)

-- Where the same is chosen of each clause, the pairs are the same, and the clauses that rest and conclude `bad`.
module _ (f g : Numbered → Option Selection) where
  with_alike : (i : Numbered) (js : List Numbered) → AllByRecursion (λ c. f c ≡ g c) js → flat_map (λ j. pairs_with i (f j) j) js ≡ flat_map (λ j. pairs_with i (g j) j) js
  with_alike i [] a = refl
  with_alike i (j ∷ js) a = let first = a.0 in let later = with_alike i js a.1 in λ t. pairs_with i (first t) j ++ later t

  resting_alike : (o : Option Selection) (i : Numbered) (all : List Numbered) → AllByRecursion (λ c. f c ≡ g c) all → pairs_of_resting f o i all ≡ pairs_of_resting g o i all
  resting_alike None i all a = with_alike i all a
  resting_alike (Some at) i all a = refl

  pairs_alike : (is all : List Numbered) → AllByRecursion (λ c. f c ≡ g c) is → AllByRecursion (λ c. f c ≡ g c) all → pairs_by f is all ≡ pairs_by g is all
  pairs_alike [] all a b = refl
  pairs_alike (i ∷ is) all a b =
      let first = ap (λ o. pairs_of_resting f o i all) a.0 ∙ resting_alike (g i) i all b in
      let later = pairs_alike is all a.1 b in λ t. first t ++ later t

bad_alike : (r s : Numbered → Bool) (cs : List Numbered) → AllByRecursion (λ c. r c ≡ s c) cs → resting_bad r cs ≡ resting_bad s cs
bad_alike r s [] a = refl
bad_alike r s (c ∷ cs) a = let first = a.0 in let later = bad_alike r s cs a.1 in λ t. cond (first t && is_bad c.clause.conclusion) (c ∷ later t) (later t)

-- Obligations behind others, and those that are met.
module _ (IsSo : Numbered → Type 0) (R S : Ruling → Type 0) (ruling : Ruling) where
  each_under : (cs : List Numbered) → (R ruling → S ruling) → Each IsSo cs R ruling → Each IsSo cs S ruling
  each_under [] under x = under x
  each_under (c ∷ cs) under (inl x) = inl (x.0, each_under cs under x.1)
  each_under (c ∷ cs) under (inr x) = inr x

module _ (IsSo : Numbered → Type 0) (R : Ruling → Type 0) (ruling : Ruling) where
  each_met : (cs : List Numbered) → AllByRecursion IsSo cs → R ruling → Each IsSo cs R ruling
  each_met [] a x = x
  each_met (c ∷ cs) a x = inl (a.0, each_met cs a.1 x)

  behind_met : (cs : List Numbered) → AllByRecursion IsSo cs → Each IsSo cs R ruling → R ruling
  behind_met [] a x = x
  behind_met (c ∷ cs) a (inl x) = behind_met cs a.1 x.1
  behind_met (c ∷ cs) a (inr x) = absurd (x.0 a.0)

module _ (P : Protocol) (q : Query) (cert : Certificate) (ruling : Ruling) where
  abbrev all : List Numbered
  all = numbered_from 1 cert.clauses

  abbrev numbers : List ℕ
  numbers = selected_numbers cert.clauses

  abbrev ObligedOf : List Pair → List Numbered → Type 0
  ObligedOf pairs bads =
      ((point : ℕ) × IsTranslation P q (LargeAt point) × (ruling ≡ Translation point))
      ⊎ ((given : List (Clause Term)) × IsTranslation P q (Clauses given)
      × Covers cert.clauses Cover (numbered_from 1 given) (Closures cert.clauses pairs (λ rows. Goals P q bads (λ goals. NoneLeft cert rows goals) cert.goals)) cert.rows ruling)

  obliged_for : (ps qs : List Pair) (bs ds : List Numbered) → ps ≡ qs → bs ≡ ds → ObligedOf ps bs → ObligedOf qs ds
  obliged_for ps qs bs ds e k x = subst (λ b. ObligedOf qs b) k (subst (λ p. ObligedOf p bs) e x)

  same_pairs : pairs_by (by_numbers numbers).chosen all all ≡ pairs_by by_selection.chosen all all
  same_pairs =
      let alike = all_for (StandsSo numbers) (λ c. (by_numbers numbers).chosen c ≡ by_selection.chosen c) (chosen_alike numbers) all (selected_stand cert.clauses) in
      pairs_alike (by_numbers numbers).chosen by_selection.chosen all all alike alike

  same_bad : resting_bad (by_numbers numbers).rests all ≡ resting_bad by_selection.rests all
  same_bad = bad_alike (by_numbers numbers).rests by_selection.rests all (all_for (StandsSo numbers) (λ c. (by_numbers numbers).rests c ≡ by_selection.rests c) (rests_alike numbers) all (selected_stand cert.clauses))

  all_right : AllByRecursion (λ c. IsRight c.clause (number_beside numbers c)) all
  all_right = selected_right cert.clauses

  -- By the numbers of what is selected the same is ruled.
  pub selected_rule : IsRuledBy numbers P q cert ruling ↔ IsRuled P q cert ruling
  selected_rule = (
    each_under (λ c. IsInShape q c.clause) (Rights numbers all (ObligedBy (by_numbers numbers) P q cert)) (Obliged P q cert) ruling all
        (λ x. obliged_for (pairs_by (by_numbers numbers).chosen all all) (pairs_by by_selection.chosen all all) (resting_bad (by_numbers numbers).rests all) (resting_bad by_selection.rests all) same_pairs same_bad
        (behind_met (λ c. IsRight c.clause (number_beside numbers c)) (ObligedBy (by_numbers numbers) P q cert) ruling all all_right x)),
    each_under (λ c. IsInShape q c.clause) (Obliged P q cert) (Rights numbers all (ObligedBy (by_numbers numbers) P q cert)) ruling all
        (λ x. each_met (λ c. IsRight c.clause (number_beside numbers c)) (ObligedBy (by_numbers numbers) P q cert) ruling all all_right
        (obliged_for (pairs_by by_selection.chosen all all) (pairs_by (by_numbers numbers).chosen all all) (resting_bad by_selection.rests all) (resting_bad (by_numbers numbers).rests all) (sym same_pairs) (sym same_bad) x)),
  )
