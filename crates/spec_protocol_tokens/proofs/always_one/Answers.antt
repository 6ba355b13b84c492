use Rattle.spec_protocol_tokens.proofs.Answers.{has_answer}
use Rattle.spec_protocol_tokens.proofs.always_one.Goals as goal

pub returns : goal.returns
returns c = has_answer
