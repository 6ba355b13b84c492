use Rattle.spec_protocol_tokens.proofs.Answers.{Lexed-AllStand}
use Rattle.spec_protocol_tokens.proofs.tokens_stand.Goals as goal

pub returns : goal.returns
returns c = Lexed-AllStand
