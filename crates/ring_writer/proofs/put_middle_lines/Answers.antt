use Rattle.std.proofs.Common.{codes}
use Rattle.std.proofs.lemmas.Result.{on_ok_weaker}
use Rattle.spec_ring_text.specs.Text.{key}
use Rattle.ring_writer.proofs.Lines.{three_put}
use Rattle.ring_writer.proofs.put_middle_lines.Goals as goal

pub returns : goal.returns
returns c = on_ok_weaker c.put-2.result (λ last.
    three_put c.args.out.now.items c.put.new.out.items c.put_key.new.out.items c.put-2.new.out.items (codes "query attacker(s).\nprocess\nout(c,enc(s,") (key 1) (codes "))\n")
    c.in_ok-put.ensures c.in_ok-put_key.ensures last)
    c.put-2.ensures
