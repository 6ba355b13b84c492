use Rattle.std.proofs.Common.{sym, subst, refl}
use Rattle.fact_classes.specs.declared.classes.Classes.{Classes}
use Rattle.fact_classes.specs.Classes.{IsClassListed}
use Rattle.fact_classes.proofs.Classing.{class_put}
use Rattle.fact_classes.proofs.classes.Classes.push.Goals as goal

pub returns-in_ok-push-in-Some : goal.returns-in_ok-push-in-Some
returns-in_ok-push-in-Some c =
    let old = c.args.self.now in
    let reached = c.reach.new.self in
    let class = c.in-Some.class in
    let put : Classes = record { lists = Rattle.std.specs.Vec.with_item reached.lists class c.push-in-Some.new.self; rest = reached.rest } in
    subst (λ k. IsClassListed k c.args.number old put) (sym c.in-Some.is)
    (class_put old reached put class c.args.number c.index_mut.result.now c.push-in-Some.new.self c.in_ok-reach-in-Some.ensures.room c.in_ok-reach-in-Some.ensures.lists c.in_ok-reach-in-Some.ensures.rest c.index_mut.ensures.value c.in_ok-push-in-Some.ensures.items refl refl)
