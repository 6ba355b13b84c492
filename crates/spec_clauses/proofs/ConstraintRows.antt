-- Worked examples of rows that constraints decide.
use Rattle.std.proofs.Common.{◌≡◌, ◌⊎◌, true, false, List, [], ◌∷◌, refl, sym, ◌∙◌, subst, inl, inr}
use Rattle.spec_trees.specs.Tree.{Leaf, node}
use Rattle.spec_terms.specs.Term.{Ctor, Free, Term}
use Rattle.spec_terms.proofs.Decision.{true_false}
use Rattle.spec_clauses.specs.Fact.{Fact, Mess, Bad, Clause}
use Rattle.spec_clauses.specs.Diff.{Side, Diff, own, numbered_diff}
use Rattle.spec_clauses.specs.DiffDecision.{can_be_equal}
use Rattle.spec_clauses.specs.Inclusion.{here, Has}
use Rattle.spec_clauses.specs.Subsumption.{RowHolds}
use Rattle.spec_clauses.proofs.ConstraintExamples.{constrained, diff, x0, b0, side_c, side_d, side_f, can, cannot}

abbrev c : Term
c = node (Free 0) []

abbrev d : Term
d = node (Free 1) []

abbrev f : Term → Term
f t = node (Ctor 0) (t ∷ [])

-- `mess(d,v0), diff(v0;r) => bad()`, for a side r
abbrev sent_but : Side → Clause Term
sent_but r = constrained (Mess 0 d (Leaf 0) ∷ []) (diff x0 r ∷ []) (Bad [])

-- and a clause of messages alone
abbrev sent : List (Fact Term) → Clause Term
sent hs = constrained hs [] (Bad [])

-- `mess(d,d) => bad()`: under d for v0 the sides d and c can't be equal.
sides_differ : RowHolds (sent_but side_c) (sent (Mess 0 d d ∷ [])) (1 ∷ [])
sides_differ = record { by = λ x. d; distinct = refl; conclusion = refl; firmly = refl; loosely = tt; diffs = (inl (cannot (diff side_d side_c) (λ h. let e = h.1 in cc)), tt) }

-- A constraint that can fail is kept in no clause without any: `mess(d,c) => bad()`, where it fails, and `mess(d,v0) => bad()`,
-- where it may.
abbrev pub IsKept : Side → List Diff → Term → Type 0
IsKept r ds t = (can_be_equal (diff (own t) r) ≡ false) ⊎ Has ds (numbered_diff (diff (own t) r))

pub unkept : (r : Side) (t : Term) → can_be_equal (diff (own t) r) ≡ true → IsKept r [] t → ⊥
unkept r t e (inl k) = true_false (sym e ∙ k)
unkept r t e (inr k) = elim k.1 [ ]

constraint_fails : RowHolds (sent_but side_c) (sent (Mess 0 d c ∷ [])) (1 ∷ []) → ⊥
constraint_fails r = unkept side_c c (can (diff side_c side_c) (λ k. c, refl)) (subst (IsKept side_c []) stands r.diffs.0) where
  stands : r.by 0 ≡ c
  stands = let e = r.firmly in cc

constraint_may_fail : RowHolds (sent_but side_c) (sent (Mess 0 d (Leaf 0) ∷ [])) (1 ∷ []) → ⊥
constraint_may_fail r = unkept side_c (Leaf 0) (can (diff x0 side_c) (λ k. c, refl)) (subst (IsKept side_c []) stands r.diffs.0) where
  stands : r.by 0 ≡ Leaf 0
  stands = let e = r.firmly in cc

-- It is kept where it stands: `mess(d,v0), diff(v0;c) => bad()`; and so is one with bound variables, `diff(v0;f(?0))`.
constraint_stands : RowHolds (sent_but side_c) (sent_but side_c) (1 ∷ [])
constraint_stands = record { by = Leaf; distinct = refl; conclusion = refl; firmly = refl; loosely = tt; diffs = (inr ([], here), tt) }

bound_stands : RowHolds (sent_but (side_f b0)) (sent_but (side_f b0)) (1 ∷ [])
bound_stands = record { by = Leaf; distinct = refl; conclusion = refl; firmly = refl; loosely = tt; diffs = (inr ([], here), tt) }

-- `mess(d,f(c)) => bad()` fails it, with c for ?0.
bound_fails : RowHolds (sent_but (side_f b0)) (sent (Mess 0 d (f c) ∷ [])) (1 ∷ []) → ⊥
bound_fails r = unkept (side_f b0) (f c) (can (diff (side_f side_c) (side_f b0)) (λ k. c, refl)) (subst (IsKept (side_f b0) []) stands r.diffs.0) where
  stands : r.by 0 ≡ f c
  stands = let e = r.firmly in cc

-- Where the constraint fails at the first position that suits the hypothesis, a later one may do: `mess(d,c), mess(d,d) => bad()`.
not_first : RowHolds (sent_but side_c) (sent (Mess 0 d c ∷ Mess 0 d d ∷ [])) (1 ∷ []) → ⊥
not_first r = unkept side_c c (can (diff side_c side_c) (λ k. c, refl)) (subst (IsKept side_c []) stands r.diffs.0) where
  stands : r.by 0 ≡ c
  stands = let e = r.firmly in cc

later : RowHolds (sent_but side_c) (sent (Mess 0 d c ∷ Mess 0 d d ∷ [])) (2 ∷ [])
later = record { by = λ x. d; distinct = refl; conclusion = refl; firmly = refl; loosely = tt; diffs = (inl (cannot (diff side_d side_c) (λ h. let e = h.1 in cc)), tt) }
