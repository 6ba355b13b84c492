use Rattle.std.proofs.Common.{ℕ, Option, subst, arith}
use Rattle.std.proofs.lemmas.Grind.{common_steps}
use Rattle.spec_calculus.specs.Runs.{Say}
use Rattle.spec_attack_runs.specs.Compiling.{placed}
use Rattle.spec_attack_runs.specs.Walking.{acts_at}
use Rattle.term_tree.specs.Bank.{tree_at}
use Rattle.attack_state.specs.Outcomes.{Places}
use Rattle.attack_compiling.specs.Walks.{protocol_at, walk_of, said}
use Rattle.attack_compiling.proofs.Acted.{result_as}
use Rattle.attack_compiling.proofs.Acts.{said_stuck, said_behind}
use Rattle.attack_compiling.proofs.acting.say.Goals as goal

pub returns-in-None-clause-does : goal.returns-in-None-clause-does
returns-in-None-clause-does c = λ st is.
    let P = protocol_at c.args.route.now in
    let all = c.args.bank.now in
    let t = tree_at all c.args.message in
    let none = subst (λ (o : Option ℕ). Places (placed P t) st all c.place.new.self o) c.in-None.is (c.in_ok-place.ensures.places st is) in
    said_stuck P c.args.walk.now.point (walk_of all c.args.route.now c.args.walk.now) t st none

pub returns-in-Some-clause-does : goal.returns-in-Some-clause-does
returns-in-Some-clause-does c = λ st is.
    let P = protocol_at c.args.route.now in
    let walk = c.args.walk.now in
    let all = c.args.bank.now in
    let w = walk_of all c.args.route.now walk in
    let t = tree_at all c.args.message in
    let found = subst (λ (o : Option ℕ). Places (placed P t) st all c.place.new.self o) c.in-Some.is (c.in_ok-place.ensures.places st is) in
    result_as (acts_at P walk.point w (Say walk.thread c.in-Some.place)) (said P walk.point w t) found.next st (said_behind P walk.point w t st found.next c.in-Some.place found.gives)
    all c.acts_at.new.state c.acts_at.result (c.acts_at.ensures.does all found.next found.is)

pub acts_at-requires : goal.acts_at-requires
acts_at-requires c = grind (arith, common_steps)
