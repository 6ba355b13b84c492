use Rattle.std.proofs.Common.{Bool, ◌-◌, arith, subst}
use Rattle.std.proofs.lemmas.Grind.{common_steps}
use Rattle.spec_calculus.specs.Runs.{Next}
use Rattle.spec_attack_runs.specs.Compiling.{take_step}
use Rattle.attack_state.specs.Outcomes.{GoesOn}
use Rattle.attack_compiling.specs.Walks.{protocol_at}
use Rattle.attack_compiling.proofs.Acted.{done_where, stuck_where}
use Rattle.attack_compiling.proofs.Acts.{begun_more, begun_stop}
use Rattle.attack_compiling.proofs.acting.begin.Goals as goal

pub returns-then-not-branch-clause-does : goal.returns-then-not-branch-clause-does
returns-then-not-branch-clause-does c = λ all st is.
    let P = protocol_at c.args.route.now in
    let so_far = c.each.invariant.so_far all st is in
    begun_stop P all (c.args.number - st.configuration.phase) st c.each.left (c.each.left - 1) c.each.state (omega arith) so_far
    (stuck_where (take_step P Next) so_far.next all c.take_step.new.self c.in_ok-take_step.field-0 c.if-not-branch.true (c.in_ok-take_step.ensures.does all so_far.next so_far.is))

pub each-preserved : goal.each-preserved
each-preserved c =
    let P = protocol_at c.args.route.now in
    record {
      run = subst (λ (b : Bool). GoesOn P c.take_step.new.self b) c.if-not-branch.false c.in_ok-take_step.ensures.run;
      so_far = λ all st is.
          let so_far = c.each.invariant.so_far all st is in
          begun_more P all (c.args.number - st.configuration.phase) st c.each.left (c.each.left - 1) c.each.state c.take_step.new.self (omega arith) so_far
          (done_where (take_step P Next) so_far.next all c.take_step.new.self c.in_ok-take_step.field-0 c.if-not-branch.false (c.in_ok-take_step.ensures.does all so_far.next so_far.is));
    }

pub each-init : goal.each-init
each-init c = grind (arith, common_steps)

pub returns-clause-does : goal.returns-clause-does
returns-clause-does c = grind (arith, common_steps)
