-- Where no two shapes are equal, no two trees are.
use Rattle.std.proofs.Common.{◌≡◌, ℕ, zero, suc, ◌<◌, min, Bool, true, false, true≢false, ◌||◌, Some, List, [], ◌∷◌, length, take, map, slice_get, refl, sym, ap, ◌∙◌, subst, arith, get_or, zero-add}
use Rattle.std.proofs.lemmas.Option.{slice_get-get_or}
use Rattle.std.specs.List.{IsDistinct, AllByRecursion, list_any}
use Rattle.std.proofs.lemmas.Map.Keys.{IsDistinct-head, IsDistinct-tail}
use Rattle.std.proofs.lemmas.List.{length-take}
use Rattle.spec_trees.proofs.Rows.{node-injective}
use Rattle.spec_terms.specs.Term.{Term}
use Rattle.term_tree.specs.Bank.{symbol_of, tree_at, AreKnown, Names, AreShared}
use Rattle.term_tree.specs.declared.bank.Id.{Id}
use Rattle.term_tree.specs.Roots.{Root, Variable, Applied, tree_of, built, HasArgs, HaveArgs}
use Rattle.term_tree.proofs.BankLaws.{symbol_of-injective}
use Rattle.term_tree.proofs.Roots.{IsPlace, IsPlace-built, IsPlace-tree, built-length, items-length, place_at}
use Rattle.term_store.specs.Shapes.{root_of, IsPlain, same_shape}
use Rattle.term_store.specs.SharedBank.{trees_of, IsWell}
use Rattle.term_store.specs.declared.shape.Shape.{Shape}
use Rattle.term_store.specs.declared.measure.Measure.{Measure}
use Rattle.term_store.proofs.Shapes.{same_shape-root}

-- no root stands at two places of a list
pub record AreApart (rs : List Root) : Type 0 where
  pub apart : (j k : ℕ) (r : Root) → slice_get rs j ≡ Some r → slice_get rs k ≡ Some r → j ≡ k

module _ {E : Type 0} (same : E → E → Bool) (root : E → Root) (good : E → Type 0) (decides : (x y : E) → good x → good y → root x ≡ root y → same x y ≡ true) where
  never_later : (x : E) (ys : List E) (k : ℕ) → good x → AllByRecursion good ys → AllByRecursion (λ y. same x y ≡ false) ys → slice_get (map root ys) k ≡ Some (root x) → ⊥
  never_later x [] k one goods all found = cc
  never_later x (y ∷ ys) zero one goods all found = let e : root x ≡ root y = cc in true≢false (sym (decides x y one goods.0 e) ∙ all.0)
  never_later x (y ∷ ys) (suc k) one goods all found = never_later x ys k one goods.1 all.1 found

  once : (es : List E) → AllByRecursion good es → IsDistinct same es → (j k : ℕ) (r : Root) → slice_get (map root es) j ≡ Some r → slice_get (map root es) k ≡ Some r → j ≡ k
  once [] goods distinct j k r here there = cc
  once (x ∷ xs) goods distinct zero zero r here there = refl
  once (x ∷ xs) goods distinct zero (suc k) r here there = let e : root x ≡ r = cc in absurd (never_later x xs k goods.0 goods.1 (IsDistinct-head same x xs distinct) (there ∙ ap Some (sym e)))
  once (x ∷ xs) goods distinct (suc j) zero r here there = let e : root x ≡ r = cc in absurd (never_later x xs j goods.0 goods.1 (IsDistinct-head same x xs distinct) (here ∙ ap Some (sym e)))
  once (x ∷ xs) goods distinct (suc j) (suc k) r here there = ap suc (once xs goods.1 (IsDistinct-tail same x xs distinct) j k r here there)

  pub AreApart-distinct : (es : List E) → AllByRecursion good es → IsDistinct same es → AreApart (map root es)
  AreApart-distinct es goods distinct = record { apart = once es goods distinct }

-- equal trees below n have equal ids
abbrev SharedBelow : List Term → ℕ → Type 0
SharedBelow all n = (a b : Id) → a.index < n → a.index < length all → b.index < length all → tree_at all a ≡ tree_at all b → a ≡ b

args_are_same : (all : List Term) (n : ℕ) → SharedBelow all n → (xs ys : List Id) → AreKnown (take n all) xs → AreKnown all ys → map (tree_at all) xs ≡ map (tree_at all) ys → xs ≡ ys
args_are_same all n same [] [] below known e = refl
args_are_same all n same [] (y ∷ ys) below known e = cc
args_are_same all n same (x ∷ xs) [] below known e = cc
args_are_same all n same (x ∷ xs) (y ∷ ys) below known e =
    let first : tree_at all x ≡ tree_at all y = cc in
    let others : map (tree_at all) xs ≡ map (tree_at all) ys = cc in
    let under : x.index < min n (length all) = subst (λ (m : ℕ). x.index < m) (length-take n all) below.0 in
    let one : x ≡ y = same x y (omega arith) (omega arith) known.0 first in
    let rest : xs ≡ ys = args_are_same all n same xs ys below.1 known.1 others in
    cc

roots_are_same : (all : List Term) (n : ℕ) → SharedBelow all n → (r s : Root) → HasArgs (take n all) r → HasArgs all s → tree_of all r ≡ tree_of all s → r ≡ s
roots_are_same all n same (Variable x) (Variable y) below known e = let numbers : x ≡ y = cc in ap Variable numbers
roots_are_same all n same (Variable x) (Applied g ys) below known e = cc
roots_are_same all n same (Applied f xs) (Variable y) below known e = cc
roots_are_same all n same (Applied f xs) (Applied g ys) below known e =
    let (symbols, rows) = node-injective (symbol_of f) (symbol_of g) (map (tree_at all) xs) (map (tree_at all) ys) e in
    let one : f ≡ g = symbol_of-injective f g symbols in
    let rest : xs ≡ ys = args_are_same all n same xs ys below known rows in
    cc

shared_below : (rs : List Root) → HaveArgs [] rs → AreApart rs → (n : ℕ) → SharedBelow (built [] rs) n
shared_below rs have apart zero a b under here there e = absurd (omega arith)
shared_below rs have apart (suc n) a b under here there e =
    let all = built [] rs in
    let long : length all ≡ length rs = omega (arith, built-length [] rs) in
    let r = get_or rs a.index (Variable 0) in
    let s = get_or rs b.index (Variable 0) in
    let at_a : slice_get rs a.index ≡ Some r = slice_get-get_or rs a.index (Variable 0) (omega (arith, long, here)) in
    let at_b : slice_get rs b.index ≡ Some s = slice_get-get_or rs b.index (Variable 0) (omega (arith, long, there)) in
    let place_a = place rs a.index r have at_a in
    let place_b = place rs b.index s have at_b in
    let trees : tree_of all r ≡ tree_of all s = sym (IsPlace-tree all a r place_a) ∙ (e ∙ IsPlace-tree all b s place_b) in
    let lower : SharedBelow all a.index = λ x y h. shared_below rs have apart n x y (omega (arith, h, under)) in
    let same : r ≡ s = roots_are_same all a.index lower r s place_a.below place_b.args trees in
    ids_are_same a b (apart.apart a.index b.index r at_a (at_b ∙ ap Some (sym same)))
  where
    place : (rs : List Root) (k : ℕ) (r : Root) → HaveArgs [] rs → slice_get rs k ≡ Some r → IsPlace (built [] rs) k r
    place rs k r have found = subst (λ (m : ℕ). IsPlace (built [] rs) m r) (zero-add k) (IsPlace-built [] rs k r have found)

    id_at : ℕ → Id
    id_at k = record { index = k }

    ids_are_same : (a b : Id) → a.index ≡ b.index → a ≡ b
    ids_are_same a b e = ap id_at e

pub AreShared-built : (rs : List Root) → HaveArgs [] rs → AreApart rs → AreShared (built [] rs)
AreShared-built rs have apart a b here there e = shared_below rs have apart (length (built [] rs)) a b here here there e

-- so it is in every bank
pub AreShared-well : (shapes : List Shape) (measures : List Measure) (all : List Term) → trees_of shapes ≡ all → IsWell shapes measures → AreShared all
AreShared-well shapes measures all view well = subst AreShared view (AreShared-built (map root_of shapes) well.args (AreApart-distinct same_shape root_of IsPlain same_shape-root shapes well.plain well.distinct))

-- the root of a known tree is among the roots
pub known_root : (shapes : List Shape) (measures : List Measure) (all : List Term) (shape : Shape) (known : Id) → trees_of shapes ≡ all → IsWell shapes measures → IsPlain shape → HasArgs all (root_of shape) → Names all known (tree_of all (root_of shape)) → list_any (same_shape shape) shapes ≡ true
known_root shapes measures all shape known view well plain args names =
    let inside : known.index < length shapes = omega (arith, items-length root_of shapes all view, names.known) in
    let k = get_or shapes known.index shape in
    let found : slice_get shapes known.index ≡ Some k = slice_get-get_or shapes known.index shape inside in
    let place = place_at root_of shapes all known.index k view well.args found in
    let lower : SharedBelow all known.index = λ a b under here there e. AreShared-well shapes measures all view well a b here there e in
    let trees : tree_of all (root_of k) ≡ tree_of all (root_of shape) = sym (IsPlace-tree all known (root_of k) place) ∙ names.is in
    let roots : root_of k ≡ root_of shape = roots_are_same all known.index lower (root_of k) (root_of shape) place.below args trees in
    some_same (same_shape shape) shapes known.index k found (same_shape-root shape k plain (at_place shapes known.index k well.plain found) (sym roots))
  where
    at_place : (xs : List Shape) (n : ℕ) (x : Shape) → AllByRecursion IsPlain xs → slice_get xs n ≡ Some x → IsPlain x
    at_place [] n x all found = cc
    at_place (y ∷ ys) zero x all found = let e : y ≡ x = cc in subst IsPlain e all.0
    at_place (y ∷ ys) (suc n) x all found = at_place ys n x all.1 found

    or-true : (b : Bool) → (b || true) ≡ true
    or-true true = refl
    or-true false = refl

    some_same : {X : Type 0} (p : X → Bool) (xs : List X) (n : ℕ) (x : X) → slice_get xs n ≡ Some x → p x ≡ true → list_any p xs ≡ true
    some_same p [] n x found so = cc
    some_same p (y ∷ ys) zero x found so = let e : y ≡ x = cc in ap (λ b. b || list_any p ys) (ap p e ∙ so)
    some_same p (y ∷ ys) (suc n) x found so = ap (λ b. p y || b) (some_same p ys n x found so) ∙ or-true (p y)
