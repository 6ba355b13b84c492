use Rattle.std.proofs.Common.{◌≡◌, ◌∙◌, [], ◌∷◌, ◌++◌, OnOk, map, ap, subst, arith}
use Rattle.std.proofs.lemmas.Grind.{common_steps}
use Rattle.std.proofs.lemmas.List.{take_all}
use Rattle.spec_trees.specs.Tree.{bind}
use Rattle.spec_terms.specs.Term.{Term}
use Rattle.clause_sources.specs.Places.{by_numbers}
use Rattle.clause_diffs.specs.Plain.{term_of}
use Rattle.clause_sources.proofs.Numbering.{bind_app, numbered_next}
use Rattle.clause_sources.proofs.trees.+add_numbered.Goals as goal

pub each-preserved : goal.each-preserved
each-preserved t c =
    numbered_next (by_numbers c.args.numbers.now) c.deref-argument-items.result.now c.each.argument-index c.argument-item.result (map term_of c.each.items.items) (map term_of c.add_numbered.new.made.items) c.each.invariant c.each-test.true c.argument-item.is c.in_ok-add_numbered-in-App.ensures

pub returns-after-each : goal.returns-after-each
returns-after-each t c =
    let items = c.deref-argument-items.result.now in
    let s = by_numbers c.args.numbers.now in
    let whole = bind_app s c.args.tree.now c.in-App.symbol c.in-App.arguments items c.each.items.items c.in-App.is (ap (map term_of) c.deref-argument-items.ensures.value ∙ c.arguments.view_is)
    (c.each.invariant ∙ ap (map (λ u. bind s (term_of u))) (take_all c.each.argument-index items c.each-test.false)) in
    subst (λ (u : Term). OnOk c.add_applied.result (map term_of c.add_applied.new.made.items ≡ map term_of c.args.made.now.items ++ u ∷ [])) whole c.add_applied.ensures

pub each-init : goal.each-init
each-init t c = grind (arith, common_steps)
