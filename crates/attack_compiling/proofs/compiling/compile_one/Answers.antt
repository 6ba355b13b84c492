use Rattle.std.proofs.Common.{◌≡◌, List, map, sym, ap, ◌∙◌, rules, arith}
use Rattle.std.proofs.lemmas.Grind.{common_steps}
use Rattle.spec_trees.specs.Tree.{trees}
use Rattle.spec_calculus.specs.Runs.{Build, Reduce}
use Rattle.spec_terms.specs.Term.{Term}
use Rattle.term_tree.specs.Bank.{tree_at}
use Rattle.pi_tree.specs.Protocols.{protocol_of}
use Rattle.clause_sources.specs.Seen.{action_of}
use Rattle.spec_attack_runs.specs.Source.{Builds, Reduces, Source}
use Rattle.spec_attack_runs.specs.Compiling.{row_placed}
use Rattle.attack_compiling.proofs.InPhases.{builds_named, builds_as, reduces_named, reduces_as, placed_nothing, applies_stuck}
use Rattle.attack_compiling.proofs.compiling.compile_one.Goals as goal

pub returns-in-None-clause-does : goal.returns-in-None-clause-does
returns-in-None-clause-does c = λ st one is named at.
    let P = protocol_of c.args.compilation.now.protocol.now in
    let all = c.args.bank.now in
    let ids = c.args.instance.now in
    let sources : List Source = c.args.compilation.now.sources.now in
    let source : Source = c.args.source.now in
    let f = c.in-Builds.constructor in
    let terms : List Term = map (tree_at all) c.deref.result.now in
    let builds : source.action ≡ Builds f = sym c.action.ensures ∙ ap action_of c.in-Builds.is in
    let held : c.deref.result.now ≡ ids.supposed = search rules in
    applies_stuck P one st (λ ks. Build f ks) terms (builds_as P one st f terms (builds_named all sources ids one source named at f builds) (ap (map (tree_at all)) held ∙ named.supposed_named.are))
    (placed_nothing (row_placed P (trees terms)) st all c.places.new.self c.in_ok-places-in-Builds.field-0 c.in-None.is (c.in_ok-places-in-Builds.ensures.places st is))

pub returns-in-None-2-clause-does : goal.returns-in-None-2-clause-does
returns-in-None-2-clause-does c = λ st one is named at.
    let P = protocol_of c.args.compilation.now.protocol.now in
    let all = c.args.bank.now in
    let ids = c.args.instance.now in
    let sources : List Source = c.args.compilation.now.sources.now in
    let source : Source = c.args.source.now in
    let d = c.in-Reduces.destructor in
    let r = c.in-Reduces.rule in
    let terms : List Term = map (tree_at all) c.deref-in-Reduces.result.now in
    let reduces : source.action ≡ Reduces d r = sym c.action.ensures ∙ ap action_of c.in-Reduces.is in
    let held : c.deref-in-Reduces.result.now ≡ ids.supposed = search rules in
    applies_stuck P one st (λ ks. Reduce d r ks) terms (reduces_as P one st d r terms (reduces_named all sources ids one source named at d r reduces) (ap (map (tree_at all)) held ∙ named.supposed_named.are))
    (placed_nothing (row_placed P (trees terms)) st all c.places-in-Reduces.new.self c.in_ok-places-in-Reduces.field-0 c.in-None-2.is (c.in_ok-places-in-Reduces.ensures.places st is))

pub take_step-requires-in-Some-2 : goal.take_step-requires-in-Some-2
take_step-requires-in-Some-2 c = grind (arith, common_steps)

pub returns-in-Some-2-clause-does : goal.returns-in-Some-2-clause-does
returns-in-Some-2-clause-does c = grind (arith, common_steps)

pub take_step-requires : goal.take_step-requires
take_step-requires c = grind (arith, common_steps)

pub returns-in-Some-clause-does : goal.returns-in-Some-clause-does
returns-in-Some-clause-does c = grind (arith, common_steps)

pub returns-in-Idle-clause-does : goal.returns-in-Idle-clause-does
returns-in-Idle-clause-does c = grind (arith, common_steps)

pub returns-in-Reaches-clause-does : goal.returns-in-Reaches-clause-does
returns-in-Reaches-clause-does c = grind (arith, common_steps)

pub walk_to-requires-clause-run : goal.walk_to-requires-clause-run
walk_to-requires-clause-run c = grind (arith, common_steps)

pub returns-in-Some-2-clause-grows : goal.returns-in-Some-2-clause-grows
returns-in-Some-2-clause-grows c = grind (arith, common_steps)

pub returns-in-Some-clause-grows : goal.returns-in-Some-clause-grows
returns-in-Some-clause-grows c = grind (arith, common_steps)

pub returns-in_err-places-in-Reduces-clause-grows : goal.returns-in_err-places-in-Reduces-clause-grows
returns-in_err-places-in-Reduces-clause-grows c = grind (arith, common_steps)

pub returns-in_err-places-in-Builds-clause-grows : goal.returns-in_err-places-in-Builds-clause-grows
returns-in_err-places-in-Builds-clause-grows c = grind (arith, common_steps)

pub returns-in-None-2-clause-grows : goal.returns-in-None-2-clause-grows
returns-in-None-2-clause-grows c = grind (arith, common_steps)

pub returns-in-Reaches-clause-run : goal.returns-in-Reaches-clause-run
returns-in-Reaches-clause-run c = grind (arith, common_steps)

pub returns-in-None-clause-grows : goal.returns-in-None-clause-grows
returns-in-None-clause-grows c = grind (arith, common_steps)
