use Rattle.choice_text.proofs.Passing.{none_passed}
use Rattle.choice_text.proofs.splitting.line_before.Goals as goal

pub loop-rest-init : goal.loop-rest-init
loop-rest-init c = none_passed c.args.bytes.now c.args.line
