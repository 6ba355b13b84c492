use Rattle.choice_text.proofs.Written.{none_written}
use Rattle.choice_text.proofs.writing.put_choices.Goals as goal

pub loop-rest-init : goal.loop-rest-init
loop-rest-init c = none_written c.args.plain.now c.args.said.now c.args.out.now.items
