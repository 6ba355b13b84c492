-- A value by a rule, as a name that proofs do not look into.
use Rattle.std.specs.Prelude.{ℕ, List, Option, option_and_then}
use Rattle.spec_calculus.specs.Syntax.{Rule}
use Rattle.spec_calculus.specs.Points.{numbered}
use Rattle.spec_calculus.specs.Values.{Value}
use Rattle.spec_calculus.specs.Matching.{rule_value}

-- the value that the rule of that number gives of the values
unfoldable pub by_rule : List Rule → List Value → ℕ → Option Value
by_rule rules vs number = option_and_then (λ rule. rule_value rule vs) (numbered rules number)
