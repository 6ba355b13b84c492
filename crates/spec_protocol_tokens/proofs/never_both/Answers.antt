use Rattle.spec_protocol_tokens.proofs.Answers.{Lexed-not_Stops}
use Rattle.spec_protocol_tokens.proofs.never_both.Goals as goal

pub returns : goal.returns
returns c = Lexed-not_Stops
