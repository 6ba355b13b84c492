use Rattle.spec_protocol_tokens.proofs.Answers.{Stops-one}
use Rattle.spec_protocol_tokens.proofs.one_refusal.Goals as goal

pub returns : goal.returns
returns c = Stops-one
