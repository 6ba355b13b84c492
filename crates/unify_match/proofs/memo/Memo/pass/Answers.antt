use Rattle.unify_match.proofs.Memos.{remembered_more}
use Rattle.unify_match.proofs.memo.Memo.pass.Goals as goal

pub returns : goal.returns
returns c q remembered = remembered_more c.args.self.now record { pairs = c.insert.new.self; passed = c.args.self.now.passed } (c.args.first, c.args.second) q (c.in_ok-insert.ensures.updates.0 q) remembered
