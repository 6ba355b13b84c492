-- Worked examples of constraints.
use Rattle.std.proofs.Common.{◌≡◌, true, List, [], ◌∷◌, refl}
use Rattle.spec_trees.specs.Tree.{Leaf, node}
use Rattle.spec_terms.specs.Term.{Ctor, Free, Term}
use Rattle.spec_clauses.specs.Diff.{Own, Bound, Side, Diff, diff_under, IsMetBy, CanBeEqual, IsNeverMet, numbered_diff, diff_size}
use Rattle.spec_clauses.specs.DiffDecision.{can_be_equal, is_never_met}
use Rattle.spec_clauses.proofs.Diffs.{can_be_equal-decides, is_never_met-decides}

-- `diff(l;r)`, of one term on each side
abbrev diff : Side → Side → Diff
diff l r = record { left = l ∷ []; right = r ∷ [] }

abbrev v0 : Side
v0 = Leaf (Own 0)

abbrev b0 : Side
b0 = Leaf (Bound 0)

abbrev f : Side → Side
f t = node (Ctor 0) (t ∷ [])

abbrev c : Side
c = node (Free 0) []

abbrev d : Side
d = node (Free 1) []

-- `diff(v0;?0)` is never met: v0 itself stands for ?0. Nor is `diff(f(v0);f(?0))`.
variable_for_itself : is_never_met (diff v0 b0) ≡ true
variable_for_itself = (is_never_met-decides (diff v0 b0)).1 (λ i. Leaf 0, refl)

variable_below : is_never_met (diff (f v0) (f b0)) ≡ true
variable_below = (is_never_met-decides (diff (f v0) (f b0))).1 (λ i. Leaf 0, refl)

-- `diff(v0,v1;?0,?0)` is met where v0 and v1 are not the same.
abbrev not_the_same : Diff
not_the_same = record { left = v0 ∷ Leaf (Own 1) ∷ []; right = b0 ∷ b0 ∷ [] }

one_and_another : (t : Term) → ◌≡◌ {A = List Term} (Leaf 0 ∷ Leaf 1 ∷ []) (t ∷ t ∷ []) → ⊥
one_and_another t e = cc

may_differ : IsNeverMet not_the_same → ⊥
may_differ n = one_and_another (n.0 0) n.1

-- `diff(v0;c)` is met by d for v0, and not by c.
met_by_another : IsMetBy (λ x. node (Free 1) []) (diff v0 c)
met_by_another b e = cc

unmet_by_itself : IsMetBy (λ x. node (Free 0) []) (diff v0 c) → ⊥
unmet_by_itself met = met Leaf refl

-- `diff(f(v0);f(c))` can be equal, and may be met; `diff(c;d)` can't, and each substitution meets it.
can_be : can_be_equal (diff (f v0) (f c)) ≡ true
can_be = (can_be_equal-decides (diff (f v0) (f c))).1 (λ k. node (Free 0) [], refl)

may_be_met : IsNeverMet (diff (f v0) (f c)) → ⊥
may_be_met n = let e = n.1 in cc

never_equal : CanBeEqual (diff c d) → ⊥
never_equal h = let e = h.1 in cc

-- The bound variables of `diff(v0,k,?0;enc(?0,?1),?1,?2)` stay under a substitution, here of f(v1) for v0.
abbrev decrypted : Side → Diff
decrypted message = record { left = message ∷ c ∷ Leaf (Bound 0) ∷ []; right = node (Ctor 1) (Leaf (Bound 0) ∷ Leaf (Bound 1) ∷ []) ∷ Leaf (Bound 1) ∷ Leaf (Bound 2) ∷ [] }

bound_stay : diff_under (λ x. node (Ctor 0) (Leaf 1 ∷ [])) (decrypted v0) ≡ decrypted (f (Leaf (Own 1)))
bound_stay = refl

-- Bound variables are numbered by first occurrence, left sides first: `diff(?7,v3;f(?2),?7)`.
numbered_first : numbered_diff (record { left = Leaf (Bound 7) ∷ Leaf (Own 3) ∷ []; right = f (Leaf (Bound 2)) ∷ Leaf (Bound 7) ∷ [] }) ≡ record { left = b0 ∷ Leaf (Own 3) ∷ []; right = f (Leaf (Bound 1)) ∷ b0 ∷ [] }
numbered_first = refl

-- One for the constraint, and one for each symbol and occurrence: `diff(v0,k,?0;enc(?0,?1),?1,?2)`.
size_of_constraint : diff_size (decrypted v0) ≡ 9
size_of_constraint = refl
