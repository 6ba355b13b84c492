-- Worked examples of norms with constraints.
use Rattle.std.proofs.Common.{◌≡◌, Bool, true, false, ◌&&◌, ◌||◌, cond, nat_eq, Option, Some, None, List, [], ◌∷◌, refl, ap}
use Rattle.spec_trees.specs.Tree.{Leaf, node}
use Rattle.spec_terms.specs.Term.{Ctor, Free, Term}
use Rattle.spec_clauses.specs.Fact.{Fact, Att, Mess, Bad, Clause}
use Rattle.spec_clauses.specs.Diff.{Slot, Own, Bound, Side, Diff, CanBeEqual, IsNeverMet}
use Rattle.spec_clauses.specs.DiffDecision.{can_be_equal, is_never_met}
use Rattle.spec_clauses.specs.Norm.{without_repeats, is_tautology, without_lonely, is_needed, without_needless, is_void, generalized, numbered_anew, norm}
use Rattle.spec_clauses.proofs.Diffs.{can_be_equal-decides, is_never_met-decides}

abbrev pub constrained : List (Fact Term) → List Diff → Fact Term → Clause Term
constrained hs ds f = record { hypotheses = hs; diffs = ds; conclusion = f }

-- `diff(l;r)`, of one term on each side
abbrev pub diff : Side → Side → Diff
diff l r = record { left = l ∷ []; right = r ∷ [] }

abbrev c : Term
c = node (Free 0) []

abbrev d : Term
d = node (Free 1) []

abbrev f : Term → Term
f t = node (Ctor 0) (t ∷ [])

abbrev pub x0 : Side
x0 = Leaf (Own 0)

abbrev pub b0 : Side
b0 = Leaf (Bound 0)

abbrev pub side_c : Side
side_c = node (Free 0) []

abbrev pub side_d : Side
side_d = node (Free 1) []

abbrev pub side_f : Side → Side
side_f t = node (Ctor 0) (t ∷ [])

-- What the tests answer, by what decides them.
pub can : (e : Diff) → CanBeEqual e → can_be_equal e ≡ true
can e h = (can_be_equal-decides e).1 h

pub cannot : (e : Diff) → (CanBeEqual e → ⊥) → can_be_equal e ≡ false
cannot e never = go (can_be_equal e) refl where
  go : (b : Bool) → can_be_equal e ≡ b → b ≡ false
  go true k = absurd (never ((can_be_equal-decides e).0 k))
  go false k = refl

pub may_be_met : (e : Diff) → (IsNeverMet e → ⊥) → is_never_met e ≡ false
may_be_met e never = go (is_never_met e) refl where
  go : (b : Bool) → is_never_met e ≡ b → b ≡ false
  go true k = absurd (never ((is_never_met-decides e).0 k))
  go false k = refl

-- The norm of a clause, by which constraints are never met and which are needed,
pub by_needed : (g e : Clause Term) → is_void g ≡ false → without_needless g ≡ e → norm g ≡ cond (is_tautology (without_repeats e)) None (Some (numbered_anew (generalized (without_lonely (without_repeats e)))))
by_needed g e void needed = λ i. cond (void i || is_tautology (without_repeats (needed i))) None (Some (numbered_anew (generalized (without_lonely (without_repeats (needed i))))))

-- and of a clause with one constraint, by the tests of that.
abbrev pub made : List (Fact Term) → Diff → Fact Term → Bool → Bool → Option (Clause Term)
made hs e g never needed =
    let kept = without_repeats (constrained hs (cond needed (e ∷ []) []) g) in
    cond ((never || false) || is_tautology kept) None (Some (numbered_anew (generalized (without_lonely kept))))

pub by_tests : (hs : List (Fact Term)) (e : Diff) (g : Fact Term) (never needed : Bool) → is_never_met e ≡ never → is_needed (constrained hs (e ∷ []) g) e ≡ needed → norm (constrained hs (e ∷ []) g) ≡ made hs e g never needed
by_tests hs e g never needed n k = λ i. made hs e g (n i) (k i)

-- a constraint with its variables where they may be is needed where its sides can be equal
pub and_true_end : (b : Bool) → b ≡ true → (b && true) ≡ true
and_true_end b e = ap (λ a. a && true) e

and_false : (b : Bool) → (b && false) ≡ false
and_false true = refl
and_false false = refl

-- `diff(v0;c)`, `diff(v0;?0)`, `diff(v0,v1;?0,?0)`, `diff(f(v0);f(?0))`
abbrev no_c : Diff
no_c = diff x0 side_c

no_c_can : can_be_equal no_c ≡ true
no_c_can = can no_c (λ k. c, refl)

leaf_or_c : Leaf 0 ≡ c → ⊥
leaf_or_c e = cc

no_c_met : is_never_met no_c ≡ false
no_c_met = may_be_met no_c (λ h. let e = h.1 in cc)

-- A constraint stays: `att(v0), diff(v0;c) => mess(d,v0)`.
stays : norm (constrained (Att 0 (Leaf 0) ∷ []) (no_c ∷ []) (Mess 0 d (Leaf 0))) ≡ Some (constrained (Att 0 (Leaf 0) ∷ []) (no_c ∷ []) (Mess 0 d (Leaf 0)))
stays = by_tests (Att 0 (Leaf 0) ∷ []) no_c (Mess 0 d (Leaf 0)) false true no_c_met (and_true_end (can_be_equal no_c) no_c_can)

-- (a) One whose sides can't be equal is dropped: `diff(c;d) => bad()`.
never_equal : norm (constrained [] (diff side_c side_d ∷ []) (Bad [])) ≡ Some (constrained [] [] (Bad []))
never_equal = by_tests [] (diff side_c side_d) (Bad []) false false (may_be_met (diff side_c side_d) (λ h. let e = h.1 in cc)) (ap (λ b. b && true) (cannot (diff side_c side_d) (λ h. let e = h.1 in cc)))

-- (b) One that is never met makes the clause say nothing: `diff(c;c) => bad()`, `att(v0), diff(v0;?0) => mess(c,v0)` and, below a
-- constructor, `att(v0), diff(f(v0);f(?0)) => mess(c,v0)`, where v0 itself stands for ?0.
pub void : (hs : List (Fact Term)) (e : Diff) (g : Fact Term) → IsNeverMet e → norm (constrained hs (e ∷ []) g) ≡ None
void hs e g h = by_tests hs e g true (is_needed (constrained hs (e ∷ []) g) e) ((is_never_met-decides e).1 h) refl

equal_sides : norm (constrained [] (diff side_c side_c ∷ []) (Bad [])) ≡ None
equal_sides = void [] (diff side_c side_c) (Bad []) (Leaf, refl)

matches_all : norm (constrained (Att 0 (Leaf 0) ∷ []) (diff x0 b0 ∷ []) (Mess 0 c (Leaf 0))) ≡ None
matches_all = void (Att 0 (Leaf 0) ∷ []) (diff x0 b0) (Mess 0 c (Leaf 0)) (λ i. Leaf 0, refl)

matches_below : norm (constrained (Att 0 (Leaf 0) ∷ []) (diff (side_f x0) (side_f b0) ∷ []) (Mess 0 c (Leaf 0))) ≡ None
matches_below = void (Att 0 (Leaf 0) ∷ []) (diff (side_f x0) (side_f b0)) (Mess 0 c (Leaf 0)) (λ i. Leaf 0, refl)

-- It is looked at first: `att(v0), diff(v0;?0) => att(c)` says nothing, though (c) would drop the constraint.
void_first : norm (constrained (Att 0 (Leaf 0) ∷ []) (diff x0 b0 ∷ []) (Att 0 c)) ≡ None
void_first = void (Att 0 (Leaf 0) ∷ []) (diff x0 b0) (Att 0 c) (λ i. Leaf 0, refl)

-- `diff(v0,v1;?0,?0)` asks that v0 and v1 differ, and stays: `mess(v0,v1), diff(v0,v1;?0,?0) => bad()`.
abbrev not_same : Diff
not_same = record { left = x0 ∷ Leaf (Own 1) ∷ []; right = b0 ∷ b0 ∷ [] }

one_for_both : (t : Term) → ◌≡◌ {A = List Term} (Leaf 0 ∷ Leaf 1 ∷ []) (t ∷ t ∷ []) → ⊥
one_for_both t e = cc

apart : norm (constrained (Mess 0 (Leaf 0) (Leaf 1) ∷ []) (not_same ∷ []) (Bad [])) ≡ Some (constrained (Mess 0 (Leaf 0) (Leaf 1) ∷ []) (not_same ∷ []) (Bad []))
apart = by_tests (Mess 0 (Leaf 0) (Leaf 1) ∷ []) not_same (Bad []) false true (may_be_met not_same (λ h. one_for_both (h.0 0) h.1)) (and_true_end (can_be_equal not_same) (can not_same (λ k. c, refl)))

-- (c) One whose variable stands in `att` of it alone is dropped, and then the hypothesis is lonely: `att(v0), diff(v0;c) => bad()`.
-- If the constraint stayed, no firm hypothesis would fix v0, and a row wouldn't say whether it is met.
unanchored : norm (constrained (Att 0 (Leaf 0) ∷ []) (no_c ∷ []) (Bad [])) ≡ Some (constrained [] [] (Bad []))
unanchored = by_tests (Att 0 (Leaf 0) ∷ []) no_c (Bad []) false false no_c_met (and_false (can_be_equal no_c))

-- (4) A clause that says that the attacker has everything loses all: `diff(v0;c) => att(v0)`. If the constraint stayed, from (c,d) for v0
-- would follow the part c, which `diff(c;c)` doesn't let a resolvent have.
strengthened : norm (constrained [] (no_c ∷ []) (Att 0 (Leaf 0))) ≡ Some (constrained [] [] (Att 0 (Leaf 0)))
strengthened = by_tests [] no_c (Att 0 (Leaf 0)) false true no_c_met (and_true_end (can_be_equal no_c) no_c_can)

-- And one that passes on what he has loses those that hold the variable, for the same reason: `att(v0), diff(v0;c) => att@1(v0)`.
passed_on : norm (constrained (Att 0 (Leaf 0) ∷ []) (no_c ∷ []) (Att 1 (Leaf 0))) ≡ Some (constrained (Att 0 (Leaf 0) ∷ []) [] (Att 1 (Leaf 0)))
passed_on = by_tests (Att 0 (Leaf 0) ∷ []) no_c (Att 1 (Leaf 0)) false false no_c_met (and_false (can_be_equal no_c))

-- (5) Variables are numbered as the facts have them, bound ones by themselves, left sides first:
-- `mess(v3,v1), diff(v3,v1;?4,f(?2)) => att(v1)`.
abbrev raw_pair : Diff
raw_pair = record { left = Leaf (Own 3) ∷ Leaf (Own 1) ∷ []; right = Leaf (Bound 4) ∷ side_f (Leaf (Bound 2)) ∷ [] }

abbrev numbered_pair : Diff
numbered_pair = record { left = Leaf (Own 1) ∷ Leaf (Own 0) ∷ []; right = b0 ∷ side_f (Leaf (Bound 1)) ∷ [] }

abbrev values : Slot → Term
values (Own x) = f c
values (Bound i) = cond (nat_eq i 2) c (f c)

numbered : norm (constrained (Mess 0 (Leaf 3) (Leaf 1) ∷ []) (raw_pair ∷ []) (Att 0 (Leaf 1))) ≡ Some (constrained (Mess 0 (Leaf 1) (Leaf 0) ∷ []) (numbered_pair ∷ []) (Att 0 (Leaf 0)))
numbered = by_tests (Mess 0 (Leaf 3) (Leaf 1) ∷ []) raw_pair (Att 0 (Leaf 1)) false true (may_be_met raw_pair (λ h. let e = h.1 in cc)) (and_true_end (can_be_equal raw_pair) (can raw_pair (values, refl)))
