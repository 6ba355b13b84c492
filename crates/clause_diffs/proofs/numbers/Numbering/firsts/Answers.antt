use Rattle.std.proofs.Common.{◌∙◌, nat_eq, get_or, refl, ap, sym, arith}
use Rattle.std.proofs.lemmas.List.{take_all}
use Rattle.spec_clauses.specs.Norm.{distinct, place_of}
use Rattle.clause_diffs.proofs.Tables.{added_or_left}
use Rattle.clause_diffs.proofs.numbers.Numbering.firsts.Goals as goal

pub each-preserved : goal.each-preserved
each-preserved c =
    let xs = c.deref-number-items.result.now in
    let y = get_or xs c.each.i 0 in
    added_or_left xs c.each.i y c.place.result c.each.found.items c.add_if.new.numbers.items c.each-test.true refl c.each.invariant (ap (place_of y) (c.deref-number-items.ensures.value ∙ c.self.view_is) ∙ sym c.place.ensures) c.in_ok-add_if.ensures

pub returns : goal.returns
returns c = c.each.invariant ∙ ap (distinct nat_eq) (take_all c.each.i c.deref-number-items.result.now (omega arith) ∙ (c.deref-number-items.ensures.value ∙ c.self.view_is))
