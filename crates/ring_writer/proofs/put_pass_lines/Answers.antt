use Rattle.std.proofs.Common.{ap, ◌∙◌, ◌++◌, []}
use Rattle.spec_ring_text.specs.Text.{pass_line}
use Rattle.ring_writer.proofs.Lines.{pass_put}
use Rattle.ring_writer.proofs.put_pass_lines.Goals as goal

pub each-preserved : goal.each-preserved
each-preserved c =
    pass_put c.args.keys c.each.number c.args.out.now.items c.each.out.items c.put_pass_line.new.out.items c.each.auto.number c.each.invariant
    (c.in_ok-put_pass_line.ensures ∙ ap (λ j. c.each.out.items ++ pass_line c.each.number j []) c.successor.ensures)
