use Rattle.spec_protocol_tokens.proofs.Answers.{Lexed-one}
use Rattle.spec_protocol_tokens.proofs.one_list.Goals as goal

pub returns : goal.returns
returns c = Lexed-one
