use Rattle.std.proofs.Common.{sym, ◌∙◌, arith}
use Rattle.choice_text.proofs.Choosing.{no_number}
use Rattle.choice_text.proofs.reading.front_number.Goals as goal

pub returns-in-None : goal.returns-in-None
returns-in-None c =
    sym (no_number c.args.bytes.now c.digits_len-size.result c.digits_len-size.ensures.is (omega arith) (omega arith) (sym c.number.ensures ∙ c.in-None.is))
