-- First rows are one each.
use Rattle.std.proofs.Common.{◌≡◌, ◌⊎◌, ◌∙◌, ℕ, ◌<◌, Some, List, [], ◌∷◌, length, refl, ap, sym, subst, inl, inr, arith}
use Rattle.std.proofs.lemmas.List.{length-map}
use Rattle.std.proofs.lemmas.Bool.{cases_order}
use Rattle.spec_calculus.specs.Syntax.{EventTerm, Query, Secret, SecretNew, Correspondence, Protocol}
use Rattle.spec_calculus.specs.Points.{numbered}
use Rattle.spec_terms.specs.Term.{Term}
use Rattle.spec_clauses.specs.Fact.{Clause, fact_under}
use Rattle.spec_clauses.specs.Subsumption.{hypothesis_at, RowHolds}
use Rattle.spec_clauses.proofs.Subsumption.{row_length, Order, order}
use Rattle.spec_translation.specs.Goal.{required}
use Rattle.spec_translation.specs.Satisfied.{GoalRowHolds}
use Rattle.spec_certificates.specs.Certificate.{CoverRowHolds, GoalHolds}
use Rattle.spec_verdicts.specs.FirstRows.{IsFirstCover, AreFirstCovers, IsFirstGoal, AreFirstGoals}

-- rows with a number in front, which have one length where the number is the same
order_numbered : (n m : ℕ) (ps qs : List ℕ) → (n ≡ m → length ps ≡ length qs) → Order (n ∷ ps) (m ∷ qs)
order_numbered n m ps qs lengths = go (cases_order n m)
  where
    go : (n ≡ m) ⊎ ((n < m) ⊎ (m < n)) → Order (n ∷ ps) (m ∷ qs)
    go (inl same) = order (n ∷ ps) (m ∷ qs) (let l = lengths same in omega (arith, l))
    go (inr (inl less)) = inr (inl (inl less))
    go (inr (inr more)) = inr (inr (inl more))

one_item : {X : Type 0} (xs : List X) (n m : ℕ) (x y : X) → n ≡ m → numbered xs n ≡ Some x → numbered xs m ≡ Some y → x ≡ y
one_item xs n m x y same a b = let e : Some x ≡ Some y = sym a ∙ (ap (numbered xs) same ∙ b) in cc

cover_order : (clauses : List (Clause Term)) (c : Clause Term) (row other : List ℕ) → CoverRowHolds clauses row c → CoverRowHolds clauses other c → Order row other
cover_order clauses c [] other a b = absurd a
cover_order clauses c (n ∷ ps) [] a b = absurd b
cover_order clauses c (n ∷ ps) (m ∷ qs) a b = order_numbered n m ps qs (λ same.
    let general : a.0 ≡ b.0 = one_item clauses n m a.0 b.0 same a.1 b.1 in
    row_length b.0 c ps (subst (λ g. RowHolds g c ps) general a.2) ∙ sym (row_length b.0 c qs b.2))

pub one_cover : (clauses : List (Clause Term)) (c : Clause Term) (row other : List ℕ) → IsFirstCover clauses c row → IsFirstCover clauses c other → row ≡ other
one_cover clauses c row other a b = elim (cover_order clauses c row other a.holds b.holds) as (λ _. row ≡ other) [
  | inl same ↦ same
  | inr (inl before) ↦ absurd (b.first row a.holds before)
  | inr (inr after) ↦ absurd (a.first other b.holds after)
]

events_length : (P : Protocol) (left : EventTerm) (alternatives : List (List EventTerm)) (c : Clause Term) (n : ℕ) (row : List ℕ) (h : GoalRowHolds P left alternatives c n row) → length row ≡ length h.alternative
events_length P left alternatives c n row h =
    sym (length-map row (hypothesis_at c.hypotheses)) ∙ (sym (ap length h.events) ∙ length-map h.alternative (λ e. Some (fact_under h.by (required P e))))

goal_order : (P : Protocol) (q : Query) (c : Clause Term) (row other : List ℕ) → GoalHolds P q row c → GoalHolds P q other c → Order row other
goal_order P (Secret message phase) c row other a b = absurd a
goal_order P (SecretNew point phase) c row other a b = absurd a
goal_order P (Correspondence left alternatives) c [] other a b = absurd a
goal_order P (Correspondence left alternatives) c (n ∷ ps) [] a b = absurd b
goal_order P (Correspondence left alternatives) c (n ∷ ps) (m ∷ qs) a b = order_numbered n m ps qs (λ same.
    let one : a.alternative ≡ b.alternative = one_item alternatives n m a.alternative b.alternative same a.numbered_so b.numbered_so in
    events_length P left alternatives c n ps a ∙ (ap length one ∙ sym (events_length P left alternatives c m qs b)))

pub one_goal : (P : Protocol) (q : Query) (c : Clause Term) (row other : List ℕ) → IsFirstGoal P q c row → IsFirstGoal P q c other → row ≡ other
one_goal P q c row other a b = elim (goal_order P q c row other a.holds b.holds) as (λ _. row ≡ other) [
  | inl same ↦ same
  | inr (inl before) ↦ absurd (b.first row a.holds before)
  | inr (inr after) ↦ absurd (a.first other b.holds after)
]

pub one_covers : (clauses cs : List (Clause Term)) (rows others : List (List ℕ)) → AreFirstCovers clauses cs rows → AreFirstCovers clauses cs others → rows ≡ others
one_covers clauses [] [] [] a b = refl
one_covers clauses [] [] (other ∷ others) a b = absurd b
one_covers clauses [] (row ∷ rows) others a b = absurd a
one_covers clauses (c ∷ cs) [] others a b = absurd a
one_covers clauses (c ∷ cs) (row ∷ rows) [] a b = absurd b
one_covers clauses (c ∷ cs) (row ∷ rows) (other ∷ others) a b =
    let first = one_cover clauses c row other a.0 b.0 in
    let rest = one_covers clauses cs rows others a.1 b.1 in λ i. first i ∷ rest i

pub one_goals : (P : Protocol) (q : Query) (cs : List (Clause Term)) (rows others : List (List ℕ)) → AreFirstGoals P q cs rows → AreFirstGoals P q cs others → rows ≡ others
one_goals P q [] [] [] a b = refl
one_goals P q [] [] (other ∷ others) a b = absurd b
one_goals P q [] (row ∷ rows) others a b = absurd a
one_goals P q (c ∷ cs) [] others a b = absurd a
one_goals P q (c ∷ cs) (row ∷ rows) [] a b = absurd b
one_goals P q (c ∷ cs) (row ∷ rows) (other ∷ others) a b =
    let first = one_goal P q c row other a.0 b.0 in
    let rest = one_goals P q cs rows others a.1 b.1 in λ i. first i ∷ rest i
