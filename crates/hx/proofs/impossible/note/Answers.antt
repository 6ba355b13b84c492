use Rattle.std.proofs.Common.{◌∙◌, sym}
use Rattle.std.proofs.lemmas.Result.{on_ok_weaker}
use Rattle.hx.proofs.Noting.{noted, not_noted}
use Rattle.hx.proofs.impossible.note.Goals as goal

pub returns-then-is_proved : goal.returns-then-is_proved
returns-then-is_proved c = on_ok_weaker c.list.result (λ one. noted c.args.subject c.args.answer.now c.args.found.now c.list.new.found (sym c.is_proved.ensures ∙ c.if-is_proved.true) one) c.list.ensures

pub returns-else-is_proved : goal.returns-else-is_proved
returns-else-is_proved c = not_noted c.args.subject c.args.answer.now c.args.found.now (sym c.is_proved.ensures ∙ c.if-is_proved.false)
