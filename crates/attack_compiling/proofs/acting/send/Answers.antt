use Rattle.std.proofs.Common.{◌∷◌, [], ◌++◌, List, ℕ, false, refl, ap, ◌∙◌}
use Rattle.std.specs.Option.{option_map_or}
use Rattle.spec_calculus.specs.Refusals.{at_output}
use Rattle.spec_calculus.specs.Runs.{Hear, acting, knows}
use Rattle.spec_attack_runs.specs.Compiling.{take_step}
use Rattle.spec_attack_runs.specs.Walking.{sends}
use Rattle.pi_configurations.specs.Configurations.{configuration_of}
use Rattle.attack_state.proofs.Changing.{state_waits}
use Rattle.attack_compiling.specs.Walks.{protocol_at, walk_of}
use Rattle.attack_compiling.proofs.Acted.{result_as}
use Rattle.attack_compiling.proofs.Acts.{sends_not, sends_heard, sends_waits}
use Rattle.attack_compiling.proofs.acting.send.Goals as goal

pub returns-then-not-stands_at-clause-does : goal.returns-then-not-stands_at-clause-does
returns-then-not-stands_at-clause-does c = λ all st is.
    let P = protocol_at c.args.route.now in
    let walk = c.args.walk.now in
    let conf = configuration_of c.args.state.now.conf in
    sends_not P walk.point (walk_of all c.args.route.now walk) st conf c.stands_at.result (option_map_or (knows conf) (acting P conf walk.thread at_output) false) is.configuration c.stands_at.ensures refl c.if-not-stands_at.true

pub returns-then-is_heard-clause-does : goal.returns-then-is_heard-clause-does
returns-then-is_heard-clause-does c = λ all st is.
    let P = protocol_at c.args.route.now in
    let walk = c.args.walk.now in
    let conf = configuration_of c.args.state.now.conf in
    let w = walk_of all c.args.route.now walk in
    let same = sends_heard P walk.point w st conf c.stands_at.result c.is_heard.result is.configuration c.stands_at.ensures c.is_heard.ensures c.if-not-stands_at.false c.if-is_heard.true in
    result_as (take_step P (Hear walk.thread)) (sends P walk.point w) st st same all c.take_step.new.self c.take_step.result (c.take_step.ensures.does all st is)

pub returns-clause-does : goal.returns-clause-does
returns-clause-does c = λ all st is.
    let P = protocol_at c.args.route.now in
    let walk = c.args.walk.now in
    let conf = configuration_of c.args.state.now.conf in
    let w = walk_of all c.args.route.now walk in
    record {
      next = record st { waiting = st.waiting ++ walk.thread ∷ [] };
      gives = sends_waits P walk.point w st conf c.stands_at.result c.is_heard.result is.configuration c.stands_at.ensures c.is_heard.ensures c.if-not-stands_at.false c.if-is_heard.false;
      is = state_waits all c.args.state.now c.push.new.self st (st.waiting ++ walk.thread ∷ []) is (c.in_ok-push.ensures.items ∙ ap (λ (l : List ℕ). l ++ walk.thread ∷ []) is.waiting);
    }
