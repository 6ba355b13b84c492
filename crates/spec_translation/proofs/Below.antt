-- The terms of a process where it is visited: their variables are below a number where those of the scope are.
use Rattle.std.proofs.Common.{ℕ, ◌<◌, Bool, true, false, cond, Some, List, [], ◌∷◌, map}
use Rattle.std.specs.Prelude.{unwrap_or}
use Rattle.std.specs.List.{AllByRecursion}
use Rattle.spec_trees.specs.Tree.{Tree, Trees, Leaf, Node, none, more}
use Rattle.spec_trees.specs.Leaves.{leaves, row_leaves}
use Rattle.spec_calculus.specs.Syntax.{Name, Made, Variable, Symbol, Protocol}
use Rattle.spec_calculus.specs.Syntax as calculus
use Rattle.spec_calculus.specs.Values.{same_name}
use Rattle.spec_terms.specs.Term.{Term}
use Rattle.spec_clauses.specs.Variables.{IsBelow, AreBelow}
use Rattle.spec_clauses.proofs.Lists.{all_append, all_first, all_second}
use Rattle.spec_translation.specs.Conversion.{Scope, free_term, converted, converted_row, found_in, leaf_term, term_in}

-- what is converted, where what each leaf stands for is
module _ (P : Protocol) (n : ℕ) {L : Type 0} (leaf : L → Term) where
  mutual
    pub converted_below : (t : Tree L Symbol) → AllByRecursion (λ x. IsBelow n (leaf x)) (leaves t) → IsBelow n (converted P leaf t)
    converted_below (Leaf x) b = b.0
    converted_below (Node f ts) b = converted_row_below ts b

    converted_row_below : (ts : Trees L Symbol) → AllByRecursion (λ x. IsBelow n (leaf x)) (row_leaves ts) → AllByRecursion (λ x. x < n) (row_leaves (converted_row P leaf ts))
    converted_row_below none b = tt
    converted_row_below (more t ts) b =
        all_append (λ x. x < n) (leaves (converted P leaf t)) (row_leaves (converted_row P leaf ts))
        (converted_below t (all_first (λ x. IsBelow n (leaf x)) (leaves t) (row_leaves ts) b)) (converted_row_below ts (all_second (λ x. IsBelow n (leaf x)) (leaves t) (row_leaves ts) b))

all_of : {X : Type 0} (Q : X → Type 0) → ((x : X) → Q x) → (xs : List X) → AllByRecursion Q xs
all_of Q every [] = tt
all_of Q every (x ∷ xs) = (every x, all_of Q every xs)

module _ (P : Protocol) (n : ℕ) where
  found_below : (scope : Scope) (x : Name) → AreBelow n (map (λ b. b.term) scope) → IsBelow n (unwrap_or (found_in scope x) (free_term 0))
  found_below [] x b = tt
  found_below (h ∷ later) x b = go (same_name h.name x) (found_below later x b.1) where
    go : (t : Bool) → IsBelow n (unwrap_or (found_in later x) (free_term 0)) → IsBelow n (unwrap_or (cond t (Some h.term) (found_in later x)) (free_term 0))
    go true k = b.0
    go false k = k

  leaf_below : (scope : Scope) → AreBelow n (map (λ b. b.term) scope) → (x : Name) → IsBelow n (leaf_term scope x)
  leaf_below scope b (calculus.Free k) = tt
  leaf_below scope b (Made p) = found_below scope (Made p) b
  leaf_below scope b (Variable i) = found_below scope (Variable i) b

  pub term_in_below : (scope : Scope) → AreBelow n (map (λ b. b.term) scope) → (t : calculus.Term) → IsBelow n (term_in P scope t)
  term_in_below scope b t = converted_below P n (leaf_term scope) t (all_of (λ x. IsBelow n (leaf_term scope x)) (leaf_below scope b) (leaves t))
