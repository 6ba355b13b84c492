use Rattle.std.proofs.Common.{codes, ◌++◌}
use Rattle.std.proofs.lemmas.Result.{on_ok_weaker}
use Rattle.spec_ring_text.specs.Text.{key}
use Rattle.ring_writer.proofs.Lines.{three_put}
use Rattle.ring_writer.proofs.put_pass_line.Goals as goal

pub returns : goal.returns
returns c = on_ok_weaker c.put-3.result (λ last.
    three_put c.args.out.now.items c.put.new.out.items c.put_key.new.out.items c.put-3.new.out.items (codes "| !in(c,x); let y = dec(x,") (key c.args.number) (codes ") in out(c,enc(y," ++ (key c.args.next ++ codes "))\n"))
    c.in_ok-put.ensures c.in_ok-put_key.ensures
    (three_put c.put_key.new.out.items c.put-2.new.out.items c.put_key-2.new.out.items c.put-3.new.out.items (codes ") in out(c,enc(y,") (key c.args.next) (codes "))\n")
    c.in_ok-put-2.ensures c.in_ok-put_key-2.ensures last))
    c.put-3.ensures
