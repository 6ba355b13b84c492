use Rattle.std.proofs.Common.{◌∙◌, None, Some, get_or, sym, ap}
use Rattle.spec_calculus.specs.Values.{same_value}
use Rattle.fact_classes.specs.Classes.{listed}
use Rattle.pi_tree.specs.Values.{value_of}
use Rattle.attack_state.specs.Listing.{passes_at}
use Rattle.attack_state.proofs.Knowing.{first_known}
use Rattle.attack_state.proofs.Listing.{number_here, number_later, found_past}
use Rattle.attack_state.proofs.values.Known.first_place.Goals as goal

pub returns-then-is_at : goal.returns-then-is_at
returns-then-is_at c =
    let v = value_of c.args.value.now in
    let test = passes_at (same_value v) c.args.known.now in
    let ns = c.of-index-items.result.now in
    let i = c.each.index-index in
    let here = number_here test ns i c.each-test.true (sym c.is_at.ensures ∙ c.if-is_at.true) in
    let key = c.of-index-items.ensures ∙ ap (λ k. listed c.args.self.now.classes (Some k)) c.value_key.ensures.key in
    sym (first_known c.args.known.now c.args.self.now v c.requires.knows ns key (Some (get_or ns i 0)) (sym c.each.invariant ∙ here))

pub each-preserved : goal.each-preserved
each-preserved c =
    let test = passes_at (same_value (value_of c.args.value.now)) c.args.known.now in
    sym (number_later test c.of-index-items.result.now c.each.index-index c.each-test.true (sym c.is_at.ensures ∙ c.if-is_at.false)) ∙ c.each.invariant

pub returns : goal.returns
returns c =
    let v = value_of c.args.value.now in
    let test = passes_at (same_value v) c.args.known.now in
    let ns = c.of-index-items.result.now in
    let key = c.of-index-items.ensures ∙ ap (λ k. listed c.args.self.now.classes (Some k)) c.value_key.ensures.key in
    sym (first_known c.args.known.now c.args.self.now v c.requires.knows ns key None (sym c.each.invariant ∙ found_past test ns c.each.index-index c.each-test.false))
