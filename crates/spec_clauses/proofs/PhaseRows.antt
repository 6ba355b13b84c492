-- Worked examples of rows of positions with phases and entries.
use Rattle.std.proofs.Common.{◌≡◌, [], ◌∷◌, refl, subst}
use Rattle.spec_trees.specs.Tree.{Leaf, node}
use Rattle.spec_terms.specs.Term.{Ctor, Tuple, Free, Term}
use Rattle.spec_clauses.specs.Fact.{Att, Mess, Tab, Bad}
use Rattle.spec_clauses.specs.Flat.{flat_under}
use Rattle.spec_clauses.specs.Inclusion.{here, IsWithin}
use Rattle.spec_clauses.specs.Subsumption.{RowHolds}
use Rattle.spec_clauses.proofs.Inclusion.{Has-one}
use Rattle.spec_clauses.proofs.Examples.{clause}

abbrev c : Term
c = node (Free 0) []

abbrev d : Term
d = node (Free 1) []

abbrev f : Term → Term
f t = node (Ctor 0) (t ∷ [])

abbrev pair : Term
pair = node (Tuple 2) (c ∷ d ∷ [])

-- `tab(t(v0)), att@1(v0) => bad()` and `tab(t((c,d))), att@1(c), att@1(d) => bad()`: the entry stands first, and leaves room for both
-- parts in phase 1.
entry_placed : RowHolds (clause (Tab 0 (Leaf 0 ∷ []) ∷ Att 1 (Leaf 0) ∷ []) (Bad [])) (clause (Tab 0 (pair ∷ []) ∷ Att 1 c ∷ Att 1 d ∷ []) (Bad [])) (1 ∷ [])
entry_placed = record { by = λ x. pair; distinct = refl; conclusion = refl; firmly = refl; loosely = (Att 1 d ∷ [], here, ([], here, tt)); diffs = tt }

-- `att@1(f(v0)) => bad()` stands at no `att(f(c))`, and an entry of one table at none of another.
other_phase : RowHolds (clause (Att 1 (f (Leaf 0)) ∷ []) (Bad [])) (clause (Att 0 (f c) ∷ []) (Bad [])) (1 ∷ []) → ⊥
other_phase r = let e = r.firmly in cc

other_table : RowHolds (clause (Tab 1 (Leaf 0 ∷ []) ∷ []) (Bad [])) (clause (Tab 0 (c ∷ []) ∷ []) (Bad [])) (1 ∷ []) → ⊥
other_table r = let e = r.firmly in cc

-- `mess@1(v0,v1), att@1(v0) => bad()` and `mess@1(c,d), att(c) => bad()`: what is known in phase 0 is no room for what is in phase 1.
no_room_in_phase : RowHolds (clause (Mess 1 (Leaf 0) (Leaf 1) ∷ Att 1 (Leaf 0) ∷ []) (Bad [])) (clause (Mess 1 c d ∷ Att 0 c ∷ []) (Bad [])) (1 ∷ []) → ⊥
no_room_in_phase r = never (subst (λ (t : Term). IsWithin (flat_under (λ x. t) (Att 1 (Leaf 0) ∷ [])) (Att 0 c ∷ [])) first r.loosely) where
  first : r.by 0 ≡ c
  first = let e = r.firmly in cc

  never : IsWithin (Att 1 c ∷ []) (Att 0 c ∷ []) → ⊥
  never w = let e : Att 1 c ≡ Att 0 c = Has-one (w.0, w.1) in cc
