-- Worked examples of rows of positions.
use Rattle.std.proofs.Common.{◌≡◌, ℕ, zero, suc, true, false, List, [], ◌∷◌, refl, sym, ◌∙◌, subst, inl, inr, arith, eq-eqb}
use Rattle.spec_trees.specs.Tree.{Leaf, node}
use Rattle.spec_terms.specs.Term.{Ctor, Free, Term, Subst}
use Rattle.spec_terms.proofs.Decision.{true_false}
use Rattle.spec_clauses.specs.Fact.{Att, Mess, Bad, Clause}
use Rattle.spec_clauses.specs.Flat.{flat_under}
use Rattle.spec_clauses.specs.Inclusion.{here, IsWithin}
use Rattle.spec_clauses.specs.Subsumption.{RowHolds, ComesBefore, IsFirstRow, are_distinct}
use Rattle.spec_clauses.proofs.Examples.{clause}

abbrev c : Term
c = node (Free 0) []

abbrev d : Term
d = node (Free 1) []

abbrev f : Term → Term
f t = node (Ctor 0) (t ∷ [])

abbrev h : Term → Term → Term
h t u = node (Ctor 1) (t ∷ u ∷ [])

-- `att(f(v0)), att(f(v1)) => att(h(v0,v1))` subsumes `att(f(v0)) => att(h(v0,v0))` by no row: its one position can't be used twice.
used_twice : RowHolds (clause (Att 0 (f (Leaf 0)) ∷ Att 0 (f (Leaf 1)) ∷ []) (Att 0 (h (Leaf 0) (Leaf 1)))) (clause (Att 0 (f (Leaf 0)) ∷ []) (Att 0 (h (Leaf 0) (Leaf 0)))) (1 ∷ 1 ∷ []) → ⊥
used_twice r = let clash : false ≡ true = r.distinct in cc

-- The flat parts of `att(v0)` stand at further positions: `mess(v0,v1), att(v0) => bad()` and `att(c), mess(c,d) => bad()`.
abbrev sends_known : Clause Term
sends_known = clause (Mess 0 (Leaf 0) (Leaf 1) ∷ Att 0 (Leaf 0) ∷ []) (Bad [])

abbrev named : Subst
named zero = c
named (suc x) = d

stands_elsewhere : RowHolds sends_known (clause (Att 0 c ∷ Mess 0 c d ∷ []) (Bad [])) (2 ∷ [])
stands_elsewhere = record { by = named; distinct = refl; conclusion = refl; firmly = refl; loosely = ([], here, tt); diffs = tt }

-- Where no position is left for them no row holds: `mess(c,d) => bad()`.
no_room : RowHolds sends_known (clause (Mess 0 c d ∷ []) (Bad [])) (1 ∷ []) → ⊥
no_room r = never (subst (λ (t : Term). IsWithin (flat_under (λ x. t) (Att 0 (Leaf 0) ∷ [])) []) first r.loosely) where
  first : r.by 0 ≡ c
  first = let e = r.firmly in cc

  never : IsWithin (Att 0 c ∷ []) [] → ⊥
  never w = elim w.1 [ ]

-- Of two rows that hold the first in dictionary order: `mess(v0,v1), mess(v2,v3) => bad()` and `mess(c,d), mess(d,c) => bad()`.
abbrev two_sent : Clause Term
two_sent = clause (Mess 0 (Leaf 0) (Leaf 1) ∷ Mess 0 (Leaf 2) (Leaf 3) ∷ []) (Bad [])

abbrev both_ways : Clause Term
both_ways = clause (Mess 0 c d ∷ Mess 0 d c ∷ []) (Bad [])

abbrev in_order : Subst
in_order zero = c
in_order (suc zero) = d
in_order (suc (suc zero)) = d
in_order (suc (suc (suc x))) = c

abbrev in_turn : Subst
in_turn zero = d
in_turn (suc zero) = c
in_turn (suc (suc zero)) = c
in_turn (suc (suc (suc x))) = d

later_row : RowHolds two_sent both_ways (2 ∷ 1 ∷ [])
later_row = record { by = in_turn; distinct = refl; conclusion = refl; firmly = refl; loosely = tt; diffs = tt }

before_none : (row : List ℕ) → ComesBefore row [] → ⊥
before_none [] b = b
before_none (p ∷ row) b = b

none_before : (row : List ℕ) → RowHolds two_sent both_ways row → ComesBefore row (1 ∷ 2 ∷ []) → ⊥
none_before [] r b = b
none_before (zero ∷ row) r b = let e = r.firmly in cc
none_before (suc p ∷ row) r (inl b) = omega arith
none_before (suc p ∷ []) r (inr b) = b.1
none_before (suc p ∷ zero ∷ row) r (inr b) = let e = r.firmly in cc
none_before (suc p ∷ suc zero ∷ row) r (inr b) = let twice : are_distinct (suc p ∷ 1 ∷ row) ≡ false = rw (eq-eqb (suc p) 1 b.0) refl in true_false (sym r.distinct ∙ twice)
none_before (suc p ∷ suc (suc q) ∷ row) r (inr b) = elim b.1 [ inl less ↦ omega arith | inr same ↦ before_none row same.1 ]

first_row : IsFirstRow two_sent both_ways (1 ∷ 2 ∷ [])
first_row = record {
  holds = record { by = in_order; distinct = refl; conclusion = refl; firmly = refl; loosely = tt; diffs = tt };
  first = none_before;
}
