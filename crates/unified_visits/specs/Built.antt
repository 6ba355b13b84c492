-- Terms under bindings, and those of them that were built.
use Rattle.std.specs.Prelude.{◌≡◌, ◌<◌, true, Option, Some, List, nat_eq, length, MatchOption}
use Rattle.std.specs.HashMap.{get}
use Rattle.spec_trees.specs.Tree.{bind}
use Rattle.spec_calculus.specs.Bounds.{most_symbols}
use Rattle.spec_terms.specs.Term.{Term}
use Rattle.spec_terms.specs.Binding.{resolved}
use Rattle.term_tree.specs.Bank.{tree_at, Names}
use Rattle.term_tree.specs.declared.bank.Id.{Id}
use Rattle.unify_match.specs.declared.bound.Bound.{Bound}
use Rattle.unify_match.specs.Seen.{seen}
use Rattle.unified_visits.specs.declared.built.Built.{Built}
use Rattle.unified_visits.specs.Sizes.{is_over}

-- what a term of the bank is under the bindings
abbrev pub tree_under : List Term → List Bound → Id → Term
tree_under all pairs id = bind (resolved (seen all pairs)) (tree_at all id)

-- it was made, or has more symbols than the limit
abbrev pub IsUnder : List Term → List Term → List Bound → Id → Option Id → Type 0
IsUnder old new pairs id found = MatchOption found (is_over most_symbols (tree_under old pairs id) ≡ true) (λ made. Names new made (tree_under old pairs id))

-- what a term is, if it was built
abbrev pub built_of : Built → Id → Option Id
built_of built id = get nat_eq built.table id.index

pub record IsBuilt (all : List Term) (pairs : List Bound) (id made : Id) : Type 0 where
  pub known : id.index < length all
  pub names : Names all made (tree_under all pairs id)

-- and so is each that was built
abbrev pub AreBuilt : List Term → List Bound → Built → Type 0
AreBuilt all pairs built = (id made : Id) → built_of built id ≡ Some made → IsBuilt all pairs id made
