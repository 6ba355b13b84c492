-- Counting the symbols of what a term stands for.
use Rattle.std.proofs.Common.{◌≡◌, ℕ, ◌+◌, ◌^◌, ◌≤◌, ◌<◌, true, List, [], ◌∷◌, length, map, drop, get_or, refl, sym, ap, ◌∙◌, arith}
use Rattle.spec_trees.specs.Tree.{Leaf, node, trees, bind, size, sizes}
use Rattle.spec_terms.specs.Term.{Sym, Term, Subst, is_ground}
use Rattle.spec_terms.specs.Binding.{resolved}
use Rattle.spec_terms.specs.Rank.{height, ranks}
use Rattle.term_tree.specs.Bank.{tree_at, AreKnown, capped}
use Rattle.term_tree.specs.declared.bank.Id.{Id}
use Rattle.term_tree.proofs.BankLaws.{known-at, ids_at, ids_past}
use Rattle.spec_trees.proofs.Measures.{size-positive}
use Rattle.spec_terms.proofs.Ground.{ground-bind}
use Rattle.unify_match.specs.declared.bound.Bound.{Bound}
use Rattle.unify_match.specs.Seen.{seen, IsReady, IsWalked}
use Rattle.unify_match.proofs.Walking.{heights_of, height-at, args-lower, walked-resolved, walked-variable}
use Rattle.unify_match.proofs.Pairs.{under, bind-application}

-- the symbols of what the ids stand for
abbrev pub sizes_under : Subst → List Term → List Id → ℕ
sizes_under s all [] = 0
sizes_under s all (id ∷ ids) = size (under s all id) + sizes_under s all ids

sizes-row : (s : Subst) (all : List Term) (ids : List Id) → sizes (trees (map (under s all) ids)) ≡ sizes_under s all ids
sizes-row s all [] = refl
sizes-row s all (id ∷ ids) = ap (λ n. size (under s all id) + n) (sizes-row s all ids)

-- how far the arguments are counted: so many of `most` symbols are left
pub record IsCounting (all : List Term) (pairs : List Bound) (id : Id) (most : ℕ) (args : List Id) (i left : ℕ) : Type 0 where
  pub known : AreKnown all (drop i args)
  pub lower : heights_of (ranks (seen all pairs)) all (drop i args) < height (ranks (seen all pairs)) (tree_at all id)
  pub counted : left + size (bind (resolved (seen all pairs)) (tree_at all id)) ≡ most + sizes_under (resolved (seen all pairs)) all (drop i args)

pub counting_begins : (all : List Term) (pairs : List Bound) (id end : Id) (most : ℕ) (f : Sym) (args : List Id) (left : ℕ) → IsReady all pairs → IsWalked all pairs id end → tree_at all end ≡ node f (map (tree_at all) args) → AreKnown all args
    → left + 1 ≡ most → IsCounting all pairs id most args 0 left
counting_begins all pairs id end most f args left ready walked is known first =
    let s = resolved (seen all pairs) in
    let whole : size (bind s (tree_at all id)) ≡ 1 + sizes_under s all args = sym (ap size (walked-resolved all pairs id end ready walked)) ∙ (ap size (bind-application s all end f args is) ∙ ap (λ n. 1 + n) (sizes-row s all args)) in
    record {
      known = known;
      lower = let below = args-lower (ranks (seen all pairs)) all end f args is in let lower = walked.lower in omega arith;
      counted = omega arith;
    }

pub counting_on : (all : List Term) (pairs : List Bound) (id : Id) (most : ℕ) (args : List Id) (i left next : ℕ) (d : Id) → IsCounting all pairs id most args i left → i < length args
    → next + size (bind (resolved (seen all pairs)) (tree_at all (get_or args i d))) ≡ left → IsCounting all pairs id most args (i + 1) next
counting_on all pairs id most args i left next d was less step =
    let s = resolved (seen all pairs) in
    let here = ap (sizes_under s all) (ids_at args i d less) in
    let before = was.counted in
    record {
      known = (known-at all args i d less was.known).1;
      lower = let at = height-at (ranks (seen all pairs)) all args i d less in let fewer = at.1 in let lower = was.lower in omega arith;
      counted = omega arith;
    }

pub counting_fails : (all : List Term) (pairs : List Bound) (id : Id) (most : ℕ) (args : List Id) (i left : ℕ) (d : Id) → IsCounting all pairs id most args i left → i < length args
    → left < size (bind (resolved (seen all pairs)) (tree_at all (get_or args i d))) → most < size (bind (resolved (seen all pairs)) (tree_at all id))
counting_fails all pairs id most args i left d was less short =
    let s = resolved (seen all pairs) in
    let here = ap (sizes_under s all) (ids_at args i d less) in
    let before = was.counted in omega arith

pub counting_ends : (all : List Term) (pairs : List Bound) (id : Id) (most : ℕ) (args : List Id) (i left : ℕ) → IsCounting all pairs id most args i left → length args ≤ i → left + size (bind (resolved (seen all pairs)) (tree_at all id)) ≡ most
counting_ends all pairs id most args i left was past =
    let s = resolved (seen all pairs) in
    let rest : sizes_under s all (drop i args) ≡ 0 = ap (sizes_under s all) (ids_past args i past) in
    let before = was.counted in omega arith

-- a term without variables has its own symbols, whatever the bindings
pub symbols_of_ground : (s : Subst) (t : Term) (told : ℕ) → told ≡ capped (size t) → told < 2 ^ 63 → is_ground t ≡ true → size (bind s t) ≡ told
symbols_of_ground s t told is less ground = let same = ap size (ground-bind s t ground) in omega (arith, is, less, same)

-- an unbound variable is one symbol
pub counted_variable : (all : List Term) (pairs : List Bound) (id end : Id) (most left x : ℕ) → IsReady all pairs → IsWalked all pairs id end → tree_at all end ≡ Leaf x → left + 1 ≡ most → left + size (bind (resolved (seen all pairs)) (tree_at all id)) ≡ most
counted_variable all pairs id end most left x ready walked is first =
    let one : size (bind (resolved (seen all pairs)) (tree_at all id)) ≡ 1 = sym (ap size (walked-resolved all pairs id end ready walked)) ∙ ap size (walked-variable all pairs id end x walked is) in omega arith

pub some_symbol : (t : Term) → 1 ≤ size t
some_symbol t = size-positive t
