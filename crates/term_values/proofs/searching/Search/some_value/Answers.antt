use Rattle.std.proofs.Common.{◌≡◌, map, arith}
use Rattle.std.proofs.lemmas.Grind.{common_steps}
use Rattle.spec_choice_walks.specs.Instructions.{instructions}
use Rattle.pi_tree.specs.Expressions.{expression_of}
use Rattle.term_values.specs.Instructions.{instruction_of}
use Rattle.term_values.specs.Searching.{passes, protocol_in}
use Rattle.term_values.proofs.Searched.{value_searched}
use Rattle.term_values.proofs.searching.Search.some_value.Goals as goal

pub returns : goal.returns
returns c =
    let listed : map instruction_of c.deref.result.now ≡ instructions (expression_of c.args.expression.now) = grind (arith, common_steps) in
    value_searched c.some_end.result (passes c.args.self.now) (protocol_in c.args.self.now) c.args.self.now.context.environment.now (expression_of c.args.expression.now) (map instruction_of c.deref.result.now) _ c.some_end.ensures.passes listed (grind (arith, common_steps))
