use Rattle.std.proofs.Common.{◌≡◌, ◌∙◌, is_some, map, ap, sym, subst, arith}
use Rattle.std.proofs.lemmas.Grind.{common_steps}
use Rattle.spec_calculus.specs.Points.{numbered}
use Rattle.spec_clauses.specs.Norm.{norm}
use Rattle.clause_form.specs.Seen.{clause_at, AreClausesIn}
use Rattle.clause_instances.proofs.Owning.{left_begins, left_more, left_at, left_none, part_later, found_here, telling}
use Rattle.clause_instances.proofs.resolved.telling_part.Goals as goal

pub each-init : goal.each-init
each-init c = left_begins c.args.bank.now c.deref-part-items.result.now c.args.number

pub tells-requires : goal.tells-requires
tells-requires c =
    let seen = c.deref-part-items.ensures.value ∙ c.parts.view_is in
    (part_later c.args.bank.now c.each.bank c.deref-part-items.result.now c.each.part-index c.part-item.result c.each.invariant.grows (subst (AreClausesIn c.args.bank.now) (sym seen) c.in_ok-parts.ensures.known) c.each-test.true c.part-item.is).known

pub each-preserved : goal.each-preserved
each-preserved c =
    let old = c.args.bank.now in
    let now = c.each.bank in
    let parts = c.deref-part-items.result.now in
    let part = c.part-item.result in
    let seen = c.deref-part-items.ensures.value ∙ c.parts.view_is in
    let later = part_later old now parts c.each.part-index part c.each.invariant.grows (subst (AreClausesIn old) (sym seen) c.in_ok-parts.ensures.known) c.each-test.true c.part-item.is in
    let says : c.in_ok-says.says ≡ is_some (norm (clause_at old part)) = c.in_ok-says.ensures.tells ∙ ap (λ k. is_some (norm k)) later.is in
    left_more old now c.tells.new.bank parts c.args.number c.each.part-index c.each.left c.left_after-left.result part c.in_ok-says.says c.each.invariant c.each-test.true c.part-item.is says c.tells.ensures.grows c.if-says-left.false c.left_after-left.ensures

pub returns-then-says-left-clause-part : goal.returns-then-says-left-clause-part
returns-then-says-left-clause-part c =
    let old = c.args.bank.now in
    let now = c.each.bank in
    let parts = c.deref-part-items.result.now in
    let part = c.part-item.result in
    let seen = c.deref-part-items.ensures.value ∙ c.parts.view_is in
    let later = part_later old now parts c.each.part-index part c.each.invariant.grows (subst (AreClausesIn old) (sym seen) c.in_ok-parts.ensures.known) c.each-test.true c.part-item.is in
    let says : c.in_ok-says.says ≡ is_some (norm (clause_at old part)) = c.in_ok-says.ensures.tells ∙ ap (λ k. is_some (norm k)) later.is in
    let are = ap (map (clause_at old)) seen ∙ c.in_ok-parts.ensures.are in
    let at = sym (ap (λ cs. numbered (telling cs) c.args.number) are) ∙ left_at old now parts c.args.number c.each.part-index c.each.left part c.in_ok-says.says c.each.invariant c.each-test.true c.part-item.is says c.if-says-left.true in
    found_here old now c.tells.new.bank _ c.in_ok-found.found part at c.in_ok-found.ensures later c.tells.ensures.grows

pub returns-clause-part : goal.returns-clause-part
returns-clause-part c =
    let old = c.args.bank.now in
    let are = ap (map (clause_at old)) (c.deref-part-items.ensures.value ∙ c.parts.view_is) ∙ c.in_ok-parts.ensures.are in
    sym (ap (λ cs. numbered (telling cs) c.args.number) are) ∙ left_none old c.each.bank c.deref-part-items.result.now c.args.number c.each.part-index c.each.left c.each.invariant c.each-test.false

pub returns-in_err-found-clause-grows : goal.returns-in_err-found-clause-grows
returns-in_err-found-clause-grows c = grind (arith, common_steps)

pub returns-then-says-left-clause-grows : goal.returns-then-says-left-clause-grows
returns-then-says-left-clause-grows c = grind (arith, common_steps)

pub returns-in_err-says-clause-grows : goal.returns-in_err-says-clause-grows
returns-in_err-says-clause-grows c = grind (arith, common_steps)
