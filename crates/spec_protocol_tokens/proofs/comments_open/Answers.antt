use Rattle.spec_protocol_tokens.proofs.Comments.{holds_comment-LexedTo}
use Rattle.spec_protocol_tokens.proofs.comments_open.Goals as goal

pub returns : goal.returns
returns c = holds_comment-LexedTo
