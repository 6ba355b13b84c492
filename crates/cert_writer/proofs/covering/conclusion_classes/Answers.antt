use Rattle.std.proofs.Common.{refl, subst}
use Rattle.fact_classes.specs.Classes.{IsClassListed}
use Rattle.cert_writer.proofs.Classed.{none_classed, print_classed, prints_classed}
use Rattle.cert_writer.proofs.covering.conclusion_classes.Goals as goal

pub each-init : goal.each-init
each-init c = none_classed _ c.none-classes.result refl c.none-classes.ensures

pub each-preserved : goal.each-preserved
each-preserved c =
    print_classed c.args.prints.now c.each.place _ c.each.classes c.push.new.self c.each-test.true (subst (λ k. IsClassListed k c.each.place c.each.classes c.push.new.self) c.class_of.ensures c.in_ok-push.ensures) c.each.invariant

pub returns : goal.returns
returns c = prints_classed c.args.prints.now c.each.place c.each.classes c.each-test.false c.each.invariant
