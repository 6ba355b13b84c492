use Rattle.std.proofs.Common.{sym, ◌∙◌, arith}
use Rattle.std.proofs.lemmas.Grind.{common_steps}
use Rattle.spec_attack_runs.specs.Walking.{receives}
use Rattle.pi_configurations.specs.Configurations.{configuration_of}
use Rattle.term_tree.specs.Bank.{tree_at}
use Rattle.attack_compiling.specs.Walks.{protocol_at, walk_of, said}
use Rattle.attack_compiling.proofs.Acted.{result_as}
use Rattle.attack_compiling.proofs.Acts.{receives_said}
use Rattle.attack_compiling.proofs.acting.receive.Goals as goal

pub returns-then-is_said-clause-does : goal.returns-then-is_said-clause-does
returns-then-is_said-clause-does c = λ st is.
    let P = protocol_at c.args.route.now in
    let walk = c.args.walk.now in
    let all = c.args.bank.now in
    let w = walk_of all c.args.route.now walk in
    let t = tree_at all c.args.message in
    let known = sym c.if-is_said.true ∙ c.is_said.ensures in
    result_as (said P walk.point w t) (receives P walk.point w t) st st (receives_said P walk.point w t st (configuration_of c.args.state.now.conf) is.configuration known) all c.say.new.state c.say.result (c.say.ensures.does st is)

pub returns-in-None-clause-does : goal.returns-in-None-clause-does
returns-in-None-clause-does c = grind (arith, common_steps)

pub returns-clause-does : goal.returns-clause-does
returns-clause-does c = grind (arith, common_steps)

pub returns-in_default-clause-does : goal.returns-in_default-clause-does
returns-in_default-clause-does c = grind (arith, common_steps)
