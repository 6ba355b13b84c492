-- The tokens of some bytes stand one behind another.
use Rattle.std.proofs.Common.{ℕ, List, length}
use Rattle.spec_protocol_tokens.specs.Token.{Token}
use Rattle.spec_protocol_tokens.specs.Lexed.{Lexed}
use Rattle.spec_protocol_tokens.specs.Laws.{Ascend}
use Rattle.spec_protocol_tokens.proofs.Answers.{Lexed-Ascend}

pub lexed_ascend : (bytes : List ℕ) (tokens : List Token) → Lexed bytes tokens → Ascend 0 tokens (length bytes)
lexed_ascend = Lexed-Ascend
