-- A rank for each variable, above those of all variables in its binding: what falls as bindings are followed.
use Rattle.std.specs.Prelude.{ℕ, ◌+◌, max, cond, List, [], ◌∷◌}
use Rattle.spec_trees.specs.Tree.{Trees, Leaf, Node, none, more}
use Rattle.spec_terms.specs.Term.{Sym, Term, has_var}
use Rattle.spec_terms.specs.Binding.{Binding, resolved}

-- the height of a term over variables of these heights
abbrev mutual
  pub height : (ℕ → ℕ) → Term → ℕ
  height h (Leaf x) = h x
  height h (Node f args) = 1 + heights h args

  pub heights : (ℕ → ℕ) → Trees ℕ Sym → ℕ
  heights h none = 0
  heights h (more t ts) = max (height h t) (heights h ts)

-- a new binding raises each variable that leads to its own above the height of its term
abbrev pub ranks : List Binding → ℕ → ℕ
ranks [] y = 0
ranks (b ∷ bs) y = cond (has_var b.var (resolved bs y)) (ranks bs y + (height (ranks bs) b.to + 1)) (ranks bs y)
