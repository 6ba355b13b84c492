use Rattle.std.proofs.Common.{append_assoc}
use Rattle.std.proofs.lemmas.Result.{on_ok_weaker}
use Rattle.hx.proofs.attack_text.put_effort.Goals as goal

pub returns : goal.returns
returns c = on_ok_weaker c.put_words.result (λ is. simp append_assoc is) c.put_words.ensures
