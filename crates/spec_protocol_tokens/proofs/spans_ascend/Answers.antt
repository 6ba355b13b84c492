use Rattle.spec_protocol_tokens.proofs.Answers.{Lexed-Ascend}
use Rattle.spec_protocol_tokens.proofs.spans_ascend.Goals as goal

pub returns : goal.returns
returns c = Lexed-Ascend
