use Rattle.std.proofs.Common.{ap}
use Rattle.spec_calculus.specs.Syntax as calculus
use Rattle.protocol_text.specs.Questions.{asking}
use Rattle.protocol_text.proofs.questions.asking.Goals as goal

pub returns : goal.returns
returns c = ap (λ (P : calculus.Protocol). asking P c.args.queries) c.in_ok-asked.ensures
