-- The table that finds a variable's binding.
use Rattle.std.specs.Prelude.{◌≡◌, ℕ, nat_eq, List}
use Rattle.std.specs.HashMap.{HashMap, get}
use Rattle.std.specs.declared.hash.BuildHasherDefault.{BuildHasherDefault}
use Rattle.std.specs.declared.hash.FoldHasher.{FoldHasher}
use Rattle.term_tree.specs.declared.bank.Id.{Id}
use Rattle.unify_match.specs.declared.bound.Bound.{Bound}
use Rattle.unify_match.specs.Trail.{id_of, BindsOnce}

-- no variable is bound twice, and the table finds what the pairs have
pub record IsTableOf (pairs : List Bound) (table : HashMap ℕ Id (BuildHasherDefault FoldHasher)) : Type 0 where
  pub once : BindsOnce pairs
  pub found : (x : ℕ) → get nat_eq table x ≡ id_of pairs x
