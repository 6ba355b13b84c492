use Rattle.std.proofs.Common.{◌∙◌, Some, sym, ap}
use Rattle.std.specs.List.{find}
use Rattle.fact_classes.specs.Classes.{listed}
use Rattle.attack_state.specs.Listing.{passes_at}
use Rattle.attack_state.specs.States.{is_of}
use Rattle.attack_state.proofs.Listing.{number_here, number_later, found_past}
use Rattle.attack_state.proofs.done.DoneNodes.first.Goals as goal

pub returns-then-is_at : goal.returns-then-is_at
returns-then-is_at c =
    let test = passes_at (is_of c.args.point c.args.sessions.now) c.args.self.now.items.items in
    let here = number_here test c.of-index-items.result.now c.each.index-index c.each-test.true (sym c.is_at.ensures ∙ c.if-is_at.true) in
    sym here ∙ (c.each.invariant ∙ ap (find test) (c.of-index-items.ensures ∙ ap (λ k. listed c.args.self.now.classes (Some k)) c.class_of.ensures))

pub each-preserved : goal.each-preserved
each-preserved c =
    let test = passes_at (is_of c.args.point c.args.sessions.now) c.args.self.now.items.items in
    sym (number_later test c.of-index-items.result.now c.each.index-index c.each-test.true (sym c.is_at.ensures ∙ c.if-is_at.false)) ∙ c.each.invariant

pub returns : goal.returns
returns c =
    let test = passes_at (is_of c.args.point c.args.sessions.now) c.args.self.now.items.items in
    sym (found_past test c.of-index-items.result.now c.each.index-index c.each-test.false) ∙ (c.each.invariant ∙ ap (find test) (c.of-index-items.ensures ∙ ap (λ k. listed c.args.self.now.classes (Some k)) c.class_of.ensures))
