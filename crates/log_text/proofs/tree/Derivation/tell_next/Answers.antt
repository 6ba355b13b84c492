use Rattle.std.proofs.Common.{arith}
use Rattle.std.proofs.lemmas.Grind.{common_steps}
use Rattle.log_text.proofs.Derives.{derives_on}
use Rattle.log_text.proofs.tree.Derivation.tell_next.Goals as goal

pub returns : goal.returns
returns c = λ entries number tell so_far.
    derives_on entries number c.args.self.now.lines.items c.args.self.now.rest.items c.pop.new.self.items c.in-Some.entry c.in-Some-part_of.part c.add.new.self.lines.items c.add.new.self.rest.items so_far c.in-Some.ensures.items (c.in-Some-part_of.ensures entries tell) c.in_ok-add.ensures.lines c.in_ok-add.ensures.rest

pub returns-in_default-part_of : goal.returns-in_default-part_of
returns-in_default-part_of c = grind (arith, common_steps)
