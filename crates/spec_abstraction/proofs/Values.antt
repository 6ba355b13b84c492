-- Values as terms: the abstraction of the value of a term is the term in the abstracted scope.
use Rattle.std.proofs.Common.{◌≡◌, ◌∙◌, ◌+◌, Bool, true, false, cond, Option, Some, None, List, [], ◌∷◌, map, length, refl, ap, sym, arith}
use Rattle.std.specs.Prelude.{unwrap_or, option_map}
use Rattle.spec_trees.specs.Tree.{Tree, Trees, Leaf, Node, none, more, bind, binds, trees, node}
use Rattle.spec_calculus.specs.Syntax.{Name, Made, Variable, Symbol, Constructor, Protocol}
use Rattle.spec_calculus.specs.Syntax as calculus
use Rattle.spec_calculus.specs.Values.{FreeName, Value, Environment, same_name, bound_to, value_of_name, value_of, values_of}
use Rattle.spec_terms.specs.Term.{Term}
use Rattle.spec_translation.specs.Conversion.{free_term, row_length, symbol_over, converted, converted_row, found_in, leaf_term, term_in}
use Rattle.spec_translation.proofs.Conversions.{converted_row-trees}
use Rattle.spec_abstraction.specs.Naming.{Naming, atom_term, abstracted, abstracted_binding}

-- a row keeps its length under a substitution
pub row_length-binds : {L M S : Type 0} (f : L → Tree M S) (ts : Trees L S) → row_length (binds f ts) ≡ row_length ts
row_length-binds f none = refl
row_length-binds f (more t ts) = ap (λ n. 1 + n) (row_length-binds f ts)

pub row_length-trees : {L S : Type 0} (ts : List (Tree L S)) → row_length (trees ts) ≡ length ts
row_length-trees [] = refl
row_length-trees (t ∷ ts) = let h = row_length-trees ts in omega (arith, h)

-- what is converted of a substituted tree is converted with each leaf's tree
module _ (P : Protocol) {L M : Type 0} (leaf : M → Term) (f : L → Tree M Symbol) where
  mutual
    pub converted-of_bind : (t : Tree L Symbol) → converted P leaf (bind f t) ≡ converted P (λ x. converted P leaf (f x)) t
    converted-of_bind (Leaf x) = refl
    converted-of_bind (Node g ts) =
        let count = row_length-binds f ts in
        let row = converted_row-of_binds ts in λ i. Node (symbol_over P (count i) g) (row i)

    pub converted_row-of_binds : (ts : Trees L Symbol) → converted_row P leaf (binds f ts) ≡ converted_row P (λ x. converted P leaf (f x)) ts
    converted_row-of_binds none = refl
    converted_row-of_binds (more t ts) =
        let first = converted-of_bind t in
        let others = converted_row-of_binds ts in λ i. more (first i) (others i)

-- a node is converted over its trees
pub converted-node : (P : Protocol) {L : Type 0} (leaf : L → Term) (f : Symbol) (ts : List (Tree L Symbol)) → converted P leaf (node f ts) ≡ node (symbol_over P (length ts) f) (map (converted P leaf) ts)
converted-node P leaf f ts =
    let count = row_length-trees ts in
    let row = converted_row-trees P leaf ts in λ i. Node (symbol_over P (count i) f) (row i)

module _ (P : Protocol) (names : Naming) where
  -- what is bound to a leaf
  found_abstracted : (environment : Environment) (x : Name) → found_in (map (abstracted_binding P names) environment) x ≡ option_map (abstracted P names) (bound_to environment x)
  found_abstracted [] x = refl
  found_abstracted (b ∷ later) x = go (same_name b.name x) (found_abstracted later x) where
    go : (t : Bool) → found_in (map (abstracted_binding P names) later) x ≡ option_map (abstracted P names) (bound_to later x) → cond t (Some (abstracted P names b.value)) (found_in (map (abstracted_binding P names) later) x) ≡ option_map (abstracted P names) (cond t (Some b.value) (bound_to later x))
    go true h = refl
    go false h = h

  unwrapped : (o : Option Value) → unwrap_or (option_map (abstracted P names) o) (free_term 0) ≡ abstracted P names (unwrap_or o (Leaf (FreeName 0)))
  unwrapped None = refl
  unwrapped (Some v) = refl

  pub abstracted-leaf : (environment : Environment) (x : Name) → leaf_term (map (abstracted_binding P names) environment) x ≡ abstracted P names (value_of_name environment x)
  abstracted-leaf environment (calculus.Free n) = refl
  abstracted-leaf environment (Made p) = ap (λ o. unwrap_or o (free_term 0)) (found_abstracted environment (Made p)) ∙ unwrapped (bound_to environment (Made p))
  abstracted-leaf environment (Variable n) = ap (λ o. unwrap_or o (free_term 0)) (found_abstracted environment (Variable n)) ∙ unwrapped (bound_to environment (Variable n))

  -- the value of a term, as a term
  pub abstracted-value : (environment : Environment) (t : calculus.Term) → abstracted P names (value_of environment t) ≡ term_in P (map (abstracted_binding P names) environment) t
  abstracted-value environment t =
      converted-of_bind P (atom_term names) (value_of_name environment) t
      ∙ sym (λ i. converted P (λ x. abstracted-leaf environment x i) t)

  pub abstracted-values : (environment : Environment) (ts : List calculus.Term) → map (abstracted P names) (values_of environment ts) ≡ map (term_in P (map (abstracted_binding P names) environment)) ts
  abstracted-values environment [] = refl
  abstracted-values environment (t ∷ ts) =
      let first = abstracted-value environment t in
      let others = abstracted-values environment ts in λ i. first i ∷ others i
