use Rattle.ring_writer.proofs.Lines.{key_put}
use Rattle.ring_writer.proofs.put_key_lines.Goals as goal

pub each-preserved : goal.each-preserved
each-preserved c =
    key_put c.each.number c.args.out.now.items c.each.out.items c.put_key_line.new.out.items c.each.auto.number c.each.invariant c.in_ok-put_key_line.ensures
