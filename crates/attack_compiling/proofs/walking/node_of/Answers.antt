use Rattle.std.proofs.Common.{◌≡◌, length, sym, ap, arith}
use Rattle.std.proofs.lemmas.Grind.{common_steps}
use Rattle.std.proofs.lemmas.List.{length-map}
use borrow.Author.Tests.{ltb-true}
use Rattle.clause_sources.specs.Seen.{choice_of}
use Rattle.pi_tree.specs.Patterns.{pattern_of}
use Rattle.pi_tree.specs.Processes.{process_of}
use Rattle.attack_compiling.proofs.Nodes.{input_named, copy_named, let_named, get_named, let_nowhere, get_nowhere}
use Rattle.attack_compiling.proofs.walking.node_of.Goals as goal

pub returns-in_ok-push-in-Some : goal.returns-in_ok-push-in-Some
returns-in_ok-push-in-Some c = λ all known.
    let found = c.in-Some.ensures.lookup in
    let walk = c.args.walk.now in
    input_named all c.args.route.now walk c.args.other known c.in_ok-node-in-Some.node c.push.new.self (process_of walk.process.now) _ _ _ c.in-Some.message.now (ap process_of c.in-Input.is) found.1
    (ltb-true walk.messages (length c.args.route.now.messages.now) (sym found.0)) (c.in_ok-node-in-Some.ensures all known) c.in_ok-push-in-Some.ensures.items

pub returns-in_ok-push-in-Some-get : goal.returns-in_ok-push-in-Some-get
returns-in_ok-push-in-Some-get c = λ all known.
    let found = c.in-Some-get.ensures.lookup in
    let walk = c.args.walk.now in
    copy_named all c.args.route.now walk c.args.other known c.in_ok-node-in-Some-get.node c.push-in-Some-get.new.self (process_of walk.process.now) _ c.in-Some-get.session.now (ap process_of c.in-Copies.is) found.1
    (ltb-true walk.sessions (length c.args.route.now.sessions.now) (sym found.0)) (c.in_ok-node-in-Some-get.ensures all known) c.in_ok-push-in-Some-get.ensures.items

pub returns-in-None-next_choice : goal.returns-in-None-next_choice
returns-in-None-next_choice c = λ all known.
    let walk = c.args.walk.now in
    let_nowhere all c.args.route.now walk c.args.other known (process_of walk.process.now) _ _ _ _ (ap process_of c.in-Let.is) c.in-None-next_choice.ensures.choice

pub returns-in_ok-chosen_node-in-Some-next_choice : goal.returns-in_ok-chosen_node-in-Some-next_choice
returns-in_ok-chosen_node-in-Some-next_choice c = λ all known.
    let walk = c.args.walk.now in
    let_named all c.args.route.now walk c.args.other known c.in_ok-chosen_node-in-Some-next_choice.field-0 (process_of walk.process.now) _ _ _ _ (choice_of c.in-Some-next_choice.choice.now)
    (ap process_of c.in-Let.is) c.in-Some-next_choice.ensures.choice (c.in_ok-chosen_node-in-Some-next_choice.ensures all known)

pub returns-in-None-next_choice-2 : goal.returns-in-None-next_choice-2
returns-in-None-next_choice-2 c = λ all known.
    let walk = c.args.walk.now in
    get_nowhere all c.args.route.now walk c.args.other known (process_of walk.process.now) _ _ _ _ _ (ap process_of c.in-Get.is) c.in-None-next_choice-2.ensures.choice

pub returns-in_ok-entry_node-in-Some-next_choice-2 : goal.returns-in_ok-entry_node-in-Some-next_choice-2
returns-in_ok-entry_node-in-Some-next_choice-2 c = λ all known.
    let walk = c.args.walk.now in
    let counted : c.len-taken.result ≡ length c.in-Get.patterns = omega (arith, c.patterns.inside.items.ok.0, length-map c.patterns.inside.items.items pattern_of, ap length c.patterns.view_is) in
    get_named all c.args.route.now walk c.args.other known c.in_ok-entry_node-in-Some-next_choice-2.field-0 (process_of walk.process.now) _ _ _ _ _ (choice_of c.in-Some-next_choice-2.choice.now) c.len-taken.result
    (ap process_of c.in-Get.is) counted c.in-Some-next_choice-2.ensures.choice (c.in_ok-entry_node-in-Some-next_choice-2.ensures all known)

pub returns-in_ok-plain_node-in-Output : goal.returns-in_ok-plain_node-in-Output
returns-in_ok-plain_node-in-Output c = grind (arith, common_steps)

pub returns-in_ok-node-in-Par : goal.returns-in_ok-node-in-Par
returns-in_ok-node-in-Par c = grind (arith, common_steps)

pub returns-in-None-get : goal.returns-in-None-get
returns-in-None-get c = grind (arith, common_steps)

pub returns-in-None : goal.returns-in-None
returns-in-None c = grind (arith, common_steps)

pub returns-in-Nil : goal.returns-in-Nil
returns-in-Nil c = grind (arith, common_steps)
