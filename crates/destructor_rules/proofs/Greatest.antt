-- The greatest number of a variable in lists of leaves, and in terms one by one.
use Rattle.std.proofs.Common.{◌≡◌, ◌∙◌, ℕ, zero, suc, ◌+◌, ◌<◌, max, List, [], ◌∷◌, ◌++◌, length, map, drop, get_or, ap, sym, arith}
use Rattle.spec_trees.specs.Tree.{trees}
use Rattle.spec_well_formed.specs.Leaves.{leaves, row_leaves}
use Rattle.spec_calculus.specs.Syntax.{Name, Free, Made, Variable}
use Rattle.spec_translation.specs.Applied.{greatest}
use Rattle.pi_tree.specs.declared.syntax.Term.{Term}
use Rattle.pi_tree.specs.Terms.{term_of}

pub greatest_append : (xs ys : List Name) → greatest (xs ++ ys) ≡ max (greatest xs) (greatest ys)
greatest_append [] ys = omega arith
greatest_append (Free n ∷ xs) ys = greatest_append xs ys
greatest_append (Made p ∷ xs) ys = greatest_append xs ys
greatest_append (Variable i ∷ xs) ys = let h = greatest_append xs ys in omega (arith, h)

-- the terms from a place on
abbrev greatest_from : ℕ → List Term → ℕ
greatest_from i terms = greatest (row_leaves (trees (map term_of (drop i terms))))

pub greatest_next : (terms : List Term) (i : ℕ) (term : Term) → i < length terms → term ≡ get_or terms i term → greatest_from i terms ≡ max (greatest (leaves (term_of term))) (greatest_from (i + 1) terms)
greatest_next [] i term within is = absurd (omega arith)
greatest_next (t ∷ ts) zero term within is = greatest_append (leaves (term_of t)) (row_leaves (trees (map term_of ts))) ∙ ap (λ u. max (greatest (leaves (term_of u))) (greatest_from 0 ts)) (sym is)
greatest_next (t ∷ ts) (suc i) term within is =
    let same : suc (i + 1) ≡ suc i + 1 = omega arith in
    greatest_next ts i term (omega arith) is ∙ ap (λ n. max (greatest (leaves (term_of term))) (greatest_from n (t ∷ ts))) same
