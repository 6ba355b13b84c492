-- Rules of destructors (Blanchet 2016, section 2.1: rewrite rules whose terms hold variables and constructors alone).
use Rattle.std.specs.Prelude.{ℕ, List, ◌++◌}
use Rattle.std.specs.List.{AllByRecursion}
use Rattle.spec_calculus.specs.Syntax.{Name, Free, Made, Variable, Rule, Protocol}
use Rattle.spec_calculus.specs.Matching.{IsClosedRule, rules_of}
use Rattle.spec_calculus.specs.Refusals.{IsUniform}
use Rattle.spec_well_formed.specs.Leaves.{leaves, leaves_of, AreNumbered}

abbrev pub IsVariable : Name → Type 0
IsVariable (Free n) = ⊥
IsVariable (Made p) = ⊥
IsVariable (Variable i) = Unit {0}

-- the leaves of a rule: of its left side, and then of its right
abbrev pub rule_leaves : Rule → List Name
rule_leaves rule = leaves_of rule.left ++ leaves rule.right

-- a rule holds variables and no names; they are numbered from 1 by first occurrence; each on the right stands on the left
pub record IsProperRule (rule : Rule) : Type 0 where
  pub variables : AllByRecursion IsVariable (rule_leaves rule)
  pub numbered : AreNumbered (rule_leaves rule)
  pub closed : IsClosedRule rule

-- each rule of each destructor is so, and all of one destructor have one number of arguments
pub record HasProperRules (P : Protocol) : Type 0 where
  pub proper : (d : ℕ) → AllByRecursion IsProperRule (rules_of P d)
  pub uniform : IsUniform P
