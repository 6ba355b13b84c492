use Rattle.log_text.proofs.Derives.{derives_first}
use Rattle.log_text.proofs.tree.entry_derivation.Goals as goal

pub each-init : goal.each-init
each-init c = λ entries tell. derives_first entries c.args.number c.in_ok-made.made.lines.items c.in_ok-made.made.rest.items c.in_ok-made.ensures.lines c.in_ok-made.ensures.rest
