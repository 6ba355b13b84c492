use Rattle.std.proofs.Common.{append_assoc}
use Rattle.std.proofs.lemmas.Result.{on_ok_weaker}
use Rattle.call_outcomes.proofs.Puts.{two_put}
use Rattle.call_outcomes.specs.Text.{first_lines}
use Rattle.call_outcomes.proofs.text.put_done.Goals as goal

pub returns : goal.returns
returns c = on_ok_weaker c.put_firsts.result (λ last. simp append_assoc (simp append_assoc at (two_put c.args.out.now.items c.put_words.new.text.items c.put_firsts.new.out.items _ (first_lines 1 c.args.firsts.now) c.in_ok-put_words.ensures last))) c.put_firsts.ensures
