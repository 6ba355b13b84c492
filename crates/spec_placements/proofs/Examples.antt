-- Worked examples of placing hypotheses.
use Rattle.std.proofs.Common.{◌≡◌, ℕ, zero, suc, ◌≤◌, true, false, List, [], ◌∷◌, length, refl, sym, ap, subst, inl, arith}
use Rattle.spec_trees.specs.Tree.{Leaf, node}
use Rattle.spec_terms.specs.Term.{Tuple, Free, Term}
use Rattle.spec_terms.specs.Binding.{Binding}
use Rattle.spec_terms.proofs.Replace.{some_none}
use Rattle.spec_terms.proofs.Decision.{true_false}
use Rattle.spec_clauses.specs.Fact.{Fact, Att, Mess, Bad}
use Rattle.spec_clauses.specs.Inclusion.{Picks, here, there, IsWithin}
use Rattle.spec_clauses.specs.Diff.{Diff}
use Rattle.spec_clauses.proofs.Examples.{clause}
use Rattle.spec_clauses.proofs.ConstraintExamples.{constrained, diff, x0, b0, side_c, side_d, can, cannot}
use Rattle.spec_clauses.proofs.ConstraintRows.{IsKept, unkept}
use Rattle.spec_placements.specs.Placing.{Loose, Ending, CanPlace, HoldsFrom, IsLinked}
use Rattle.spec_placements.specs.Crowds.{IsConfined}
use Rattle.spec_placements.proofs.Crowding.{crowded}
use Rattle.spec_placements.proofs.Removing.{loose_unplaced}

-- `att(v0) => att(g(v0))` and `att(v0), att(v1) => att(g((v0,v1)))`: the empty row leaves both positions for the parts of v0.
abbrev pair : Term
pair = node (Tuple 2) (Leaf 0 ∷ Leaf 1 ∷ [])

-- `att` of a variable in the first phase
abbrev loose_at : ℕ → Loose
loose_at x = record { phase = 0; variable = x }

-- with no constraints
abbrev unconstrained : List Loose → Ending
unconstrained loose = record { loose = loose; diffs = []; kept_in = [] }

abbrev to_pair : List Binding
to_pair = record { var = 0; to = pair } ∷ []

empty_row : HoldsFrom to_pair (false ∷ false ∷ []) (Att 0 (Leaf 0) ∷ Att 0 (Leaf 1) ∷ []) [] (unconstrained (loose_at 0 ∷ [])) []
empty_row = record { by = λ x. pair; agrees = (refl, tt); kept = tt; takes = (Att 0 (Leaf 1) ∷ [], here, ([], here, tt)) }

-- what is included is no longer
pick_length : {xs rest : List (Fact Term)} {x : Fact Term} → Picks xs x rest → length xs ≡ suc (length rest)
pick_length here = refl
pick_length (there p) = ap suc (pick_length p)

within_length : (xs ys : List (Fact Term)) → IsWithin xs ys → length xs ≤ length ys
within_length [] ys w = omega arith
within_length (x ∷ xs) ys w = let one = pick_length w.1 in let others = within_length xs w.0 w.2 in omega arith

-- `att(v0), att(v1) => mess(v0,v1)` and `att(v0) => mess(v0,v0)`: the one position has no room for both.
abbrev to_one : List Binding
to_one = record { var = 0; to = Leaf 0 } ∷ record { var = 1; to = Leaf 0 } ∷ []

no_room : CanPlace to_one (false ∷ []) (Att 0 (Leaf 0) ∷ []) [] (unconstrained (loose_at 0 ∷ loose_at 1 ∷ [])) → ⊥
no_room c = loose_unplaced to_one (false ∷ []) (Att 0 (Leaf 0) ∷ []) [] (unconstrained (loose_at 0 ∷ loose_at 1 ∷ [])) (λ w. let fits = within_length (Att 0 (Leaf 0) ∷ Att 0 (Leaf 0) ∷ []) (Att 0 (Leaf 0) ∷ []) w in omega arith) c

-- Two messages and one position that either fits: neither has another.
crowd : (m : Fact Term) (bs : List Binding) → CanPlace bs (false ∷ []) (m ∷ []) (Mess 0 (Leaf 0) (Leaf 1) ∷ Mess 0 (Leaf 2) (Leaf 3) ∷ []) (unconstrained []) → ⊥
crowd m bs c = crowded bs (false ∷ []) (m ∷ []) (Mess 0 (Leaf 0) (Leaf 1) ∷ Mess 0 (Leaf 2) (Leaf 3) ∷ []) (unconstrained []) (true ∷ []) 2 refl (record {
  these = Mess 0 (Leaf 0) (Leaf 1) ∷ Mess 0 (Leaf 2) (Leaf 3) ∷ [];
  among = (Mess 0 (Leaf 2) (Leaf 3) ∷ [], here, ([], here, tt));
  confined = (nowhere (Mess 0 (Leaf 0) (Leaf 1)), (nowhere (Mess 0 (Leaf 2) (Leaf 3)), tt));
  number = refl;
}) (omega arith) c where
  nowhere : (g : Fact Term) → IsConfined bs (false ∷ []) (m ∷ []) (true ∷ []) g
  nowhere g zero free outside h found s agrees e = true_false outside
  nowhere g (suc p) free outside h found s agrees e = some_none (sym found)

-- `att(v0) => bad()` isn't linked: nothing fixes v0.
unlinked : IsLinked (clause (Att 0 (Leaf 0) ∷ []) (Bad [])) → ⊥
unlinked l = true_false (sym l.0)

-- Nor would `att(v0), att@1(v0) => bad()` be, if only hypotheses of one phase were dropped together.
unlinked_in_phases : IsLinked (clause (Att 0 (Leaf 0) ∷ Att 1 (Leaf 0) ∷ []) (Bad [])) → ⊥
unlinked_in_phases l = true_false (sym l.0)

-- Nor would `diff(v0;?0) => bad()`, whose constraint speaks of a variable that stands nowhere else.
unlinked_constraint : IsLinked (constrained [] (diff x0 b0 ∷ []) (Bad [])) → ⊥
unlinked_constraint l = true_false (sym l.0)

-- A constraint decides where there is room: `mess(d,v0), diff(v0;c) => bad()`, with v0 bound to c or to d, and nothing left to place.
abbrev asks_of : List Diff → Ending
asks_of kept_in = record { loose = []; diffs = diff x0 side_c ∷ []; kept_in = kept_in }

abbrev bound_to_term : Term → List Binding
bound_to_term t = record { var = 0; to = t } ∷ []

constraint_kept : CanPlace (bound_to_term (node (Free 1) [])) [] [] [] (asks_of [])
constraint_kept = record { by = λ x. node (Free 1) []; agrees = (refl, tt); kept = (inl (cannot (diff side_d side_c) (λ h. let e = h.1 in cc)), tt); within = tt }

constraint_unkept : CanPlace (bound_to_term (node (Free 0) [])) [] [] [] (asks_of []) → ⊥
constraint_unkept c = unkept side_c (node (Free 0) []) (can (diff side_c side_c) (λ k. node (Free 0) [], refl)) (subst (IsKept side_c []) c.agrees.0 c.kept.0)
