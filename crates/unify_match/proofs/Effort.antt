-- Why unification ends: each binding leaves a variable less to bind, and between bindings the height falls.
use Rattle.std.proofs.Common.{◌≡◌, ℕ, zero, suc, ◌+◌, ◌*◌, ◌≤◌, ◌<◌, Bool, true, false, cond, nat_eq, is_some, Some, None, List, [], ◌∷◌, ◌++◌, length, slice_get, unwrap_or, refl, sym, ap, ◌∙◌, subst, arith, length-append, zero-add, suc-add, ◌-◌, mul-le-mul_right}
use Rattle.std.proofs.Math.Nat.{mul-le-mul_left}
use Rattle.spec_trees.specs.Tree.{Trees, Leaf, Node, none, more, depth, depths}
use Rattle.spec_terms.specs.Term.{Sym, Term}
use Rattle.spec_terms.specs.Rank.{height, heights, ranks}
use Rattle.spec_terms.proofs.Ranks.{ranks-at_most}
use Rattle.spec_terms.proofs.Replace.{eqb_self}
use Rattle.term_tree.specs.Bank.{tree_at}
use Rattle.term_tree.specs.declared.bank.Id.{Id}
use Rattle.unify_match.specs.declared.bound.Bound.{Bound}
use Rattle.unify_match.specs.Trail.{id_of}
use Rattle.unify_match.specs.Seen.{seen, AreInBank}
use Rattle.unify_match.specs.Progress.{open_in, opens_in, open_leaves, deepest, ceiling, effort, Grown}
use Rattle.unify_match.proofs.Trails.{Extends-refl, Extends-trans}

-- one more binding leaves no more open
open_leaf : (b : Bound) (bs : List Bound) (x : ℕ) → open_in (b ∷ bs) (Leaf x) ≤ open_in bs (Leaf x)
open_leaf b bs x = go (nat_eq x b.var) refl where
  go : (c : Bool) → nat_eq x b.var ≡ c → open_in (b ∷ bs) (Leaf x) ≤ open_in bs (Leaf x)
  go true same = rw same (omega arith)
  go false other = rw other (omega arith)

mutual
  pub open_in-bind : (b : Bound) (bs : List Bound) (t : Term) → open_in (b ∷ bs) t ≤ open_in bs t
  open_in-bind b bs (Leaf x) = open_leaf b bs x
  open_in-bind b bs (Node f args) = opens_in-bind b bs args

  pub opens_in-bind : (b : Bound) (bs : List Bound) (ts : Trees ℕ Sym) → opens_in (b ∷ bs) ts ≤ opens_in bs ts
  opens_in-bind b bs none = omega arith
  opens_in-bind b bs (more t ts) = omega (arith, open_in-bind b bs t, opens_in-bind b bs ts)

pub open_leaves-bind : (all : List Term) (b : Bound) (bs : List Bound) → open_leaves all (b ∷ bs) ≤ open_leaves all bs
open_leaves-bind [] b bs = omega arith
open_leaves-bind (t ∷ ts) b bs = omega (arith, open_in-bind b bs t, open_leaves-bind ts b bs)

-- and one less, where the variable stood open in the bank
pub open_leaves-less : (all : List Term) (b : Bound) (bs : List Bound) (k : ℕ) → id_of bs b.var ≡ None → slice_get all k ≡ Some (Leaf b.var) → open_leaves all (b ∷ bs) + 1 ≤ open_leaves all bs
open_leaves-less [] b bs k unbound e = cc
open_leaves-less (t ∷ ts) b bs zero unbound e =
    let is : t ≡ Leaf b.var = cc in
    let before : open_in bs t ≡ 1 = ap (open_in bs) is ∙ ap (λ o. cond (is_some o) 0 1) unbound in
    let after : open_in (b ∷ bs) t ≡ 0 = ap (open_in (b ∷ bs)) is ∙ ap (λ c. cond (is_some (cond c (Some b.id) (id_of bs b.var))) 0 1) (eqb_self b.var) in
    omega (arith, open_leaves-bind ts b bs)
open_leaves-less (t ∷ ts) b bs (suc k) unbound e = omega (arith, open_in-bind b bs t, open_leaves-less ts b bs k unbound e)

-- a known id's tree stands at its place
pub tree_at-get : (all : List Term) (k : ℕ) (t : Term) → k < length all → unwrap_or (slice_get all k) (Leaf 0) ≡ t → slice_get all k ≡ Some t
tree_at-get [] k t h e = absurd (omega arith)
tree_at-get (x ∷ xs) zero t h e = ap Some e
tree_at-get (x ∷ xs) (suc k) t h e = tree_at-get xs k t (omega arith) e

-- a variable of the bank bound: the bindings have grown
pub Grown-bind : (all : List Term) (bs : List Bound) (b : Bound) (var : Id) → var.index < length all → tree_at all var ≡ Leaf b.var → id_of bs b.var ≡ None → Grown all bs (b ∷ bs)
Grown-bind all bs b var known is unbound = record {
  extends = (b ∷ [], refl);
  counted = let less = open_leaves-less all b bs var.index unbound (tree_at-get all var.index (Leaf b.var) known is) in omega arith;
}

pub Grown-refl : (all : List Term) (bs : List Bound) → Grown all bs bs
Grown-refl all bs = record { extends = Extends-refl bs; counted = omega arith }

pub Grown-trans : (all : List Term) (a b c : List Bound) → Grown all a b → Grown all b c → Grown all a c
Grown-trans all a b c p q = record {
  extends = Extends-trans a b c p.extends q.extends;
  counted = omega (arith, p.counted, q.counted);
}

-- heights over low variables
mutual
  pub height-depth : (h : ℕ → ℕ) (c : ℕ) → ((x : ℕ) → h x ≤ c) → (t : Term) → height h t ≤ c + depth t
  height-depth h c low (Leaf x) = let at = low x in omega arith
  height-depth h c low (Node f args) = omega (arith, heights-depths h c low args)

  pub heights-depths : (h : ℕ → ℕ) (c : ℕ) → ((x : ℕ) → h x ≤ c) → (ts : Trees ℕ Sym) → heights h ts ≤ c + depths ts
  heights-depths h c low none = omega arith
  heights-depths h c low (more t ts) = omega (arith, height-depth h c low t, heights-depths h c low ts)

-- no tree of the bank is deeper than the deepest
pub depth-deepest : (all : List Term) (k : ℕ) (t : Term) → slice_get all k ≡ Some t → depth t ≤ deepest all
depth-deepest [] k t e = cc
depth-deepest (x ∷ xs) zero t e = let is : x ≡ t = cc in omega (arith, ap depth is)
depth-deepest (x ∷ xs) (suc k) t e = omega (arith, depth-deepest xs k t e)

pub depth-known : (all : List Term) (id : Id) → id.index < length all → depth (tree_at all id) ≤ deepest all
depth-known all id known = depth-deepest all id.index (tree_at all id) (tree_at-get all id.index (tree_at all id) known refl)

-- ranks stay below the ceiling
pub ranks-ceiling : (all : List Term) (pairs : List Bound) → AreInBank all pairs → (x : ℕ) → ranks (seen all pairs) x ≤ ceiling (deepest all) (length pairs)
ranks-ceiling all [] known x = omega arith
ranks-ceiling all (b ∷ bs) known x =
    let older = ranks-ceiling all bs known.1 x in
    let raised = ranks-at_most record { var = b.var; to = tree_at all b.id } (seen all bs) x in
    let high = height-depth (ranks (seen all bs)) (ceiling (deepest all) (length bs)) (ranks-ceiling all bs known.1) (tree_at all b.id) in
    let deep = depth-known all b.id known.0 in
    omega arith

ceiling-step : (m n : ℕ) → ceiling m n ≤ ceiling m (suc n)
ceiling-step m n = omega arith

pub ceiling-mono : (m n k : ℕ) → ceiling m n ≤ ceiling m (k + n)
ceiling-mono m n zero = rw zero-add (omega arith)
ceiling-mono m n (suc k) = rw suc-add (omega (arith, ceiling-mono m n k, ceiling-step m (k + n)))

pub ceiling-le : (m n k : ℕ) → n ≤ k → ceiling m n ≤ ceiling m k
ceiling-le m n k h = let e : (k - n) + n ≡ k = omega arith in subst (λ j. ceiling m n ≤ ceiling m j) e (ceiling-mono m n (k - n))

-- one open variable less weighs more than any height
weighed : (n o c d m h k : ℕ) → n + 1 ≤ o → c ≤ d → h ≤ d + m → n * (c + m + 1) + h < o * (d + m + 1) + k
weighed n o c d m h k fewer low high =
    let first : n * (c + m + 1) ≤ n * (d + m + 1) = mul-le-mul_left n (omega arith) in
    let second : (n + 1) * (d + m + 1) ≤ o * (d + m + 1) = mul-le-mul_right (d + m + 1) fewer in
    omega arith

-- what is known to be lower stays lower as the bindings grow
falls_with : (all : List Term) (old new more : List Bound) (id : Id) (t : Term) → new ≡ more ++ old → AreInBank all new → length new + open_leaves all new ≤ length old + open_leaves all old → id.index < length all
    → height (ranks (seen all old)) (tree_at all id) < height (ranks (seen all old)) t → effort all new (tree_at all id) < effort all old t
falls_with all old new [] id t e known n there lower =
    subst (λ (bs : List Bound). effort all bs (tree_at all id) < effort all old t) (sym e) (omega arith)
falls_with all old new (b ∷ bs) id t e known n there lower =
    let longer : length old + 1 ≤ length new = omega (arith, ap length e, length-append bs old) in
    let fewer : open_leaves all new + 1 ≤ open_leaves all old = omega arith in
    let low : ceiling (deepest all) (length new + open_leaves all new) ≤ ceiling (deepest all) (length old + open_leaves all old) = ceiling-le (deepest all) (length new + open_leaves all new) (length old + open_leaves all old) n in
    let high : height (ranks (seen all new)) (tree_at all id) ≤ ceiling (deepest all) (length new) + depth (tree_at all id) = height-depth (ranks (seen all new)) (ceiling (deepest all) (length new)) (ranks-ceiling all new known) (tree_at all id) in
    let deep = depth-known all id there in
    let short : ceiling (deepest all) (length new) ≤ ceiling (deepest all) (length old + open_leaves all old) = ceiling-le (deepest all) (length new) (length old + open_leaves all old) (omega arith) in
    weighed (open_leaves all new) (open_leaves all old) (ceiling (deepest all) (length new + open_leaves all new)) (ceiling (deepest all) (length old + open_leaves all old)) (deepest all)
    (height (ranks (seen all new)) (tree_at all id)) (height (ranks (seen all old)) t) fewer low (omega arith)

pub effort-falls : (all : List Term) (old new : List Bound) (id : Id) (t : Term) → AreInBank all new → Grown all old new → id.index < length all
    → height (ranks (seen all old)) (tree_at all id) < height (ranks (seen all old)) t → effort all new (tree_at all id) < effort all old t
effort-falls all old new id t known grown there lower = falls_with all old new grown.extends.0 id t grown.extends.1 known grown.counted there lower
