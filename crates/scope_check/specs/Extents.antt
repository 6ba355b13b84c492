-- How much there is of an expression, as contracts see it.
use Rattle.std.specs.Prelude.{◌≡◌, ℕ, ◌+◌, min, List}
use Rattle.spec_trees.specs.Tree.{trees}
use Rattle.spec_calculus.specs.Bounds.{most_applications, most_choices}
use Rattle.spec_calculus.specs.Syntax as calculus
use Rattle.spec_calculus.specs.Choices.{applications, row_applications, choice_count, row_choice_count}
use Rattle.spec_well_formed.specs.Terms.{rule_count, expression_size, row_expression_size}
use Rattle.spec_protocol_scope.specs.Names.{signature_with}
use Rattle.spec_protocol_scope.specs.Names as own
use Rattle.scope_declarations.specs.Terms.{capped}
use Rattle.scope_check.specs.declared.expressions.Extent.{Extent}
use Rattle.scope_check.specs.declared.expressions.Root.{Root}
use Rattle.scope_check.specs.declared.expressions.Root.TheVariants.{Constructor, Tuple, Destructor}

-- the root of an expression
abbrev pub root_of : Root → calculus.Head ℕ
root_of (Constructor number) = calculus.Builds (calculus.Constructor number)
root_of Tuple = calculus.Builds calculus.Tuple
root_of (Destructor number) = calculus.Calls number

-- a number of applications, as far as it matters
abbrev pub capped_applications : ℕ → ℕ
capped_applications applications = min applications (most_applications + 1)

-- a number of choices, as far as it matters
abbrev pub capped_choices : ℕ → ℕ
capped_choices choices = min choices (most_choices + 1)

-- these are the numbers of symbols, of applications and of choices, as far as they matter
pub record Counts (size calls choices : ℕ) (x : Extent) : Type 0 where
  pub symbols : x.symbols ≡ capped size
  pub applications : x.applications ≡ capped_applications calls
  pub chosen : x.choices ≡ capped_choices choices

-- how many rules the destructor of each number has
abbrev pub rules_at : own.Scope → ℕ → ℕ
rules_at s = rule_count (signature_with s.names)

-- those of an expression, where destructors have so many rules
abbrev pub CountsExpression : (ℕ → ℕ) → calculus.Expression → Extent → Type 0
CountsExpression rules e x = Counts (expression_size e) (applications e) (choice_count rules e) x

-- those of expressions in a row
abbrev pub CountsRow : (ℕ → ℕ) → List calculus.Expression → Extent → Type 0
CountsRow rules es x = Counts (row_expression_size (trees es)) (row_applications (trees es)) (row_choice_count rules (trees es)) x

-- what a root adds to those of its parts
abbrev pub root_applications : calculus.Head ℕ → ℕ
root_applications (calculus.Builds f) = 0
root_applications (calculus.Calls d) = 1

abbrev pub root_choices : (ℕ → ℕ) → calculus.Head ℕ → ℕ
root_choices rules (calculus.Builds f) = 1
root_choices rules (calculus.Calls d) = rules d

abbrev pub CountsRoot : (ℕ → ℕ) → calculus.Head ℕ → Extent → Type 0
CountsRoot rules root x = Counts 1 (root_applications root) (root_choices rules root) x
