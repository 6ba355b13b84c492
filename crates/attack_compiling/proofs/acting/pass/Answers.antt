use Rattle.std.proofs.Common.{◌≡◌, ℕ, not, nat_eq, List, Some, filter, rules, ap, ◌∙◌, arith}
use Rattle.std.proofs.lemmas.Grind.{common_steps}
use Rattle.std.proofs.lemmas.Fn.{filter_same}
use Rattle.std.specs.List.{find}
use Rattle.spec_calculus.specs.Runs.{Pass}
use Rattle.spec_attack_runs.specs.Walking.{acts_at, offers, passed}
use Rattle.pi_tree.specs.Values.{value_of}
use Rattle.pi_configurations.specs.Configurations.{configuration_of}
use Rattle.attack_state.proofs.Changing.{state_waits}
use Rattle.attack_compiling.specs.Walks.{protocol_at, walk_of}
use Rattle.attack_compiling.proofs.Acted.{result_as}
use Rattle.attack_compiling.proofs.Acts.{passed_by}
use Rattle.attack_compiling.proofs.acting.pass.Goals as goal

pub returns-in-Some-clause-does : goal.returns-in-Some-clause-does
returns-in-Some-clause-does c = λ all st is.
    let P = protocol_at c.args.route.now in
    let walk = c.args.walk.now in
    let w = walk_of all c.args.route.now walk in
    let conf = configuration_of c.args.state.now.conf in
    let channel = value_of c.args.channel.now in
    let message = value_of c.args.message.now in
    let sender : ℕ = c.in-Some.sender in
    let stays : c.retain.new.self.items ≡ filter (λ j. not (nat_eq sender j)) c.args.state.now.waiting.items = filter_same _ (λ (j : ℕ). not (nat_eq sender j)) _ (λ x b f' k. search rules) _ _ c.retain.ensures.filtered in
    let waits : List ℕ = filter (λ j. not (nat_eq sender j)) st.waiting in
    let are : c.retain.new.self.items ≡ waits = stays ∙ ap (filter (λ (j : ℕ). not (nat_eq sender j))) is.waiting in
    let found : Some sender ≡ find (offers P conf channel message) st.waiting = c.in-Some.ensures ∙ ap (find (offers P conf channel message)) is.waiting in
    result_as (acts_at P walk.point w (Pass sender walk.thread)) (passed P walk.point w channel message) (record st { waiting = waits }) st (passed_by P walk.point w channel message st conf sender is.configuration found)
    all c.acts_at.new.state c.acts_at.result (c.acts_at.ensures.does all (record st { waiting = waits }) (state_waits all c.args.state.now c.retain.new.self st waits is are))

pub returns-in-None-clause-does : goal.returns-in-None-clause-does
returns-in-None-clause-does c = grind (arith, common_steps)
