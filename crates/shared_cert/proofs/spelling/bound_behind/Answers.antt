use Rattle.shared_cert.proofs.Behind.{diff_back}
use Rattle.shared_cert.proofs.spelling.bound_behind.Goals as goal

pub returns : goal.returns
returns c = diff_back c.args.next c.args.diff.now _ _ c.requires c.in_ok-sides.ensures.left c.in_ok-sides.ensures.right
