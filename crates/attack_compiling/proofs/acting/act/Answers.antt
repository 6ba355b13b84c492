use Rattle.std.proofs.Common.{◌≡◌, ℕ, ◌<◌, List, length, slice_get, take, map, Some, sym, ap, ◌∙◌, subst, refl, arith}
use Rattle.std.proofs.lemmas.Grind.{common_steps}
use Rattle.std.proofs.lemmas.List.{length-map}
use borrow.Author.Tests.{ltb-true, ltb-false}
use Rattle.spec_calculus.specs.Runs.{Split, Miss}
use Rattle.spec_terms.specs.Term.{Term}
use Rattle.spec_attack_runs.specs.Source.{Choice, Taken, Else}
use Rattle.spec_attack_runs.specs.Walking.{acts_at, sends, receives, makes, chooses, fetches}
use Rattle.pi_tree.specs.declared.syntax.Process.{Process as MadeProcess}
use Rattle.pi_tree.specs.Patterns.{pattern_of}
use Rattle.pi_tree.specs.Processes.{process_of}
use Rattle.term_tree.specs.Bank.{tree_at, AreKnown}
use Rattle.term_tree.specs.declared.bank.Id.{Id}
use Rattle.clause_form.proofs.Walks.{known_at}
use Rattle.clause_sources.specs.declared.source.Choice.{Choice as MadeChoice}
use Rattle.clause_sources.specs.Seen.{choice_of}
use Rattle.attack_compiling.specs.Walks.{protocol_at, walk_of, fetches_at}
use Rattle.attack_compiling.proofs.AtNode.{node_as, node_stuck, next_mapped, next_past, next_there, next_lacking, next_terms}
use Rattle.attack_compiling.proofs.Ids.{known_taken, known_dropped}
use Rattle.attack_compiling.proofs.acting.act.Goals as goal

pub receive-requires-clause-message : goal.receive-requires-clause-message
receive-requires-clause-message c =
    let ids = c.args.route.now.messages.now in
    let found = c.in-Some.ensures.lookup in
    subst (λ (id : Id). id.index < length c.args.bank.now) (sym found.1) (known_at c.args.bank.now ids c.args.walk.now.messages c.in-Some.message.now c.requires.known.messages (ltb-true c.args.walk.now.messages (length ids) (sym found.0)))

pub returns-in-Output-clause-does : goal.returns-in-Output-clause-does
returns-in-Output-clause-does c = λ st is.
    let route = c.args.route.now in
    let walk = c.args.walk.now in
    let all = c.args.bank.now in
    node_as route walk all st _ c.in-Output.is all (sends (protocol_at route) walk.point (walk_of all route walk)) st refl c.send.new.state c.send.result (c.send.ensures.does all st is)

pub returns-in-None-clause-does : goal.returns-in-None-clause-does
returns-in-None-clause-does c = λ st is.
    let route = c.args.route.now in
    let walk = c.args.walk.now in
    let all = c.args.bank.now in
    let ids = route.messages.now in
    let w = walk_of all route walk in
    let past = ltb-false walk.messages (length ids) (sym c.in-None.ensures.lookup.0) in
    node_stuck route walk all st _ c.in-Input.is (next_past (tree_at all) ids walk.messages (λ t ts. receives (protocol_at route) walk.point w t st) past)

pub returns-in-Some-clause-does : goal.returns-in-Some-clause-does
returns-in-Some-clause-does c = λ st is.
    let route = c.args.route.now in
    let walk = c.args.walk.now in
    let all = c.args.bank.now in
    let ids = route.messages.now in
    let w = walk_of all route walk in
    let message = c.in-Some.message.now in
    let found = c.in-Some.ensures.lookup in
    node_as route walk all st _ c.in-Input.is all (receives (protocol_at route) walk.point w (tree_at all message)) st
    (next_mapped (tree_at all) ids walk.messages (λ t ts. receives (protocol_at route) walk.point w t st) message found.1 (ltb-true walk.messages (length ids) (sym found.0)))
    c.receive.new.state c.receive.result (c.receive.ensures.does st is)

pub returns-in-Par-clause-does : goal.returns-in-Par-clause-does
returns-in-Par-clause-does c = λ st is.
    let route = c.args.route.now in
    let walk = c.args.walk.now in
    let all = c.args.bank.now in
    node_as route walk all st _ c.in-Par.is all (acts_at (protocol_at route) walk.point (walk_of all route walk) (Split walk.thread)) st refl c.acts_at.new.state c.acts_at.result (c.acts_at.ensures.does all st is)

pub returns-in-New-clause-does : goal.returns-in-New-clause-does
returns-in-New-clause-does c = λ st is.
    let route = c.args.route.now in
    let walk = c.args.walk.now in
    let all = c.args.bank.now in
    node_as route walk all st _ c.in-New.is c.make.new.bank (makes (protocol_at route) walk.point (walk_of all route walk)) st refl c.make.new.state c.make.result (c.make.ensures.does st is)

pub returns-in-None-next_choice-clause-does : goal.returns-in-None-next_choice-clause-does
returns-in-None-next_choice-clause-does c = λ st is.
    let route = c.args.route.now in
    let walk = c.args.walk.now in
    let all = c.args.bank.now in
    let w = walk_of all route walk in
    node_stuck route walk all st _ c.in-Let.is (next_lacking route.way.now.choices walk.choices (λ choice rest. chooses (protocol_at route) walk.point w choice st) c.in-None-next_choice.ensures.choice)

pub returns-in-Some-next_choice-clause-does : goal.returns-in-Some-next_choice-clause-does
returns-in-Some-next_choice-clause-does c = λ st is.
    let route = c.args.route.now in
    let walk = c.args.walk.now in
    let all = c.args.bank.now in
    let w = walk_of all route walk in
    let choice = choice_of c.in-Some-next_choice.choice.now in
    node_as route walk all st _ c.in-Let.is all (chooses (protocol_at route) walk.point w choice) st
    (next_there route.way.now.choices walk.choices (λ choice rest. chooses (protocol_at route) walk.point w choice st) choice c.in-Some-next_choice.ensures.choice)
    c.choose.new.state c.choose.result (c.choose.ensures.does all st is)

pub fetch-requires-clause-terms : goal.fetch-requires-clause-terms
fetch-requires-clause-terms c =
    let ids = c.args.route.now.messages.now in
    subst (λ (l : List Id). AreKnown c.args.bank.now l) (sym c.next_messages-terms.ensures) (known_taken c.args.bank.now _ _ (known_dropped c.args.bank.now c.args.walk.now.messages ids c.requires.known.messages))

pub returns-in-None-next_choice-2-clause-does : goal.returns-in-None-next_choice-2-clause-does
returns-in-None-next_choice-2-clause-does c = λ st is.
    let route = c.args.route.now in
    let walk = c.args.walk.now in
    node_stuck route walk c.args.bank.now st _ c.in-Get.is (next_lacking route.way.now.choices walk.choices _ c.in-None-next_choice-2.ensures.choice)

pub returns-in-Some-Else-clause-does : goal.returns-in-Some-Else-clause-does
returns-in-Some-Else-clause-does c = λ st is.
    let route = c.args.route.now in
    let P = protocol_at route in
    let walk = c.args.walk.now in
    let all = c.args.bank.now in
    let w = walk_of all route walk in
    let go = λ (choice : Choice) (rest : List Choice). fetches P walk.point w c.in-Get.field-0 choice (take (length c.in-Get.patterns) w.ahead.messages) st in
    let chosen : Some Else ≡ slice_get route.way.now.choices walk.choices = ap (λ (x : MadeChoice). Some (choice_of x)) (sym c.in-Some-Else.field-0-is) ∙ c.in-Some-Else.ensures.choice in
    node_as route walk all st _ c.in-Get.is all (acts_at P walk.point w (Miss walk.thread)) st (next_there route.way.now.choices walk.choices go Else chosen)
    c.acts_at-in-Some-Else.new.state c.acts_at-in-Some-Else.result (c.acts_at-in-Some-Else.ensures.does all st is)

pub returns-in-Some-Taken-clause-does : goal.returns-in-Some-Taken-clause-does
returns-in-Some-Taken-clause-does c = λ st is.
    let route = c.args.route.now in
    let P = protocol_at route in
    let walk = c.args.walk.now in
    let all = c.args.bank.now in
    let w = walk_of all route walk in
    let table = c.in-Get.field-0 in
    let label = c.in-Some-Taken.field-0-0 in
    let terms : List Term = take (length c.in-Get.patterns) w.ahead.messages in
    let ids : List Id = c.next_messages-terms.result.now in
    let go = λ (choice : Choice) (rest : List Choice). fetches P walk.point w table choice terms st in
    let chosen : Some (Taken label) ≡ slice_get route.way.now.choices walk.choices = ap (λ (x : MadeChoice). Some (choice_of x)) (sym c.in-Some-Taken.field-0-is) ∙ c.in-Some-Taken.ensures.choice in
    let counted : c.len.result ≡ length c.in-Get.patterns = omega (arith, c.patterns.inside.items.ok.0, length-map c.patterns.inside.items.items pattern_of, ap length c.patterns.view_is) in
    let are : terms ≡ map (tree_at all) ids =
    ap (λ (n : ℕ). take n w.ahead.messages) (sym counted) ∙ (next_terms all route.messages.now walk.messages c.len.result ∙ ap (map (tree_at all)) (sym c.next_messages-terms.ensures)) in
    let same = next_there route.way.now.choices walk.choices go (Taken label) chosen
    ∙ (ap (λ (ts : List Term). fetches P walk.point w table (Taken label) ts st) are
    ∙ ap (λ (p : MadeProcess). fetches_at P (process_of p) walk.point w (map (tree_at all) ids) st) (sym c.in-Get.is)) in
    node_as route walk all st _ c.in-Get.is all (fetches_at P (process_of walk.process.now) walk.point w (map (tree_at all) ids)) st same c.fetch.new.state c.fetch.result (c.fetch.ensures.does st is)

pub returns-in-Insert-clause-does : goal.returns-in-Insert-clause-does
returns-in-Insert-clause-does c = grind (arith, common_steps)

pub returns-in-Event-clause-does : goal.returns-in-Event-clause-does
returns-in-Event-clause-does c = grind (arith, common_steps)

pub returns-in-Copies-clause-does : goal.returns-in-Copies-clause-does
returns-in-Copies-clause-does c = grind (arith, common_steps)

pub returns-in-Phase-clause-does : goal.returns-in-Phase-clause-does
returns-in-Phase-clause-does c = grind (arith, common_steps)

pub returns-in-Nil-clause-does : goal.returns-in-Nil-clause-does
returns-in-Nil-clause-does c = grind (arith, common_steps)

pub returns-in-Some-Else-clause-grows : goal.returns-in-Some-Else-clause-grows
returns-in-Some-Else-clause-grows c = grind (arith, common_steps)

pub returns-in-Some-Taken-clause-grows : goal.returns-in-Some-Taken-clause-grows
returns-in-Some-Taken-clause-grows c = grind (arith, common_steps)

pub returns-in-Some-clause-grows : goal.returns-in-Some-clause-grows
returns-in-Some-clause-grows c = grind (arith, common_steps)
