-- What its parts give, the rule gives.
use Rattle.std.proofs.Common.{arith}
use Rattle.std.proofs.lemmas.Grind.{common_steps}
use Rattle.spec_protocol_grammar.specs.Reading.{rule_at}
use Rattle.pi_parser.proofs.declarations.rule.Goals as goal

pub returns-in_err-arrow-clause-read : goal.returns-in_err-arrow-clause-read
unfolding rule_at
returns-in_err-arrow-clause-read c = grind (arith, common_steps)

pub returns-in_err-right-clause-read : goal.returns-in_err-right-clause-read
unfolding rule_at
returns-in_err-right-clause-read c = grind (arith, common_steps)

pub returns-in_err-value-clause-read : goal.returns-in_err-value-clause-read
unfolding rule_at
returns-in_err-value-clause-read c = grind (arith, common_steps)

pub returns-clause-read : goal.returns-clause-read
unfolding rule_at
returns-clause-read c = grind (arith, common_steps)

pub returns-clause-within : goal.returns-clause-within
returns-clause-within c = grind (arith, common_steps)
