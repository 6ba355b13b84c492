use Rattle.std.proofs.Common.{◌≡◌, ◌∙◌, ◌+◌, [], ◌∷◌, ◌++◌, map, filter_map, ap, sym, subst, arith}
use Rattle.std.proofs.lemmas.Grind.{common_steps}
use Rattle.term_tree.proofs.BankLaws.{Grows_trans}
use Rattle.clause_form.specs.Seen.{clause_at, IsClauseIn, AreClausesIn}
use Rattle.clause_sources.specs.Listed.{told_number}
use Rattle.clause_sources.proofs.Counting.{clause_in, clause_later, numbered_more, numbered_all}
use Rattle.clause_sources.proofs.parts.told_of.Goals as goal

pub add_told-requires : goal.add_told-requires
add_told-requires g c =
    let old = g.B.Bank.trees c.args.bank.now in
    let now = g.B.Bank.trees c.each.bank in
    let items = c.deref-part-items.result.now in
    let seen = c.deref-part-items.ensures.value ∙ c.parts.view_is in
    let known : IsClauseIn old c.part-item.result = clause_in old items c.each.index c.part-item.result c.part-item.is (subst (λ cs. AreClausesIn old cs) (sym seen) c.requires) c.each-test.true in
    subst (λ d. IsClauseIn now d) (sym c.in_ok-copied.ensures) (clause_later old now c.part-item.result c.each.invariant.grows known).known

pub each-preserved : goal.each-preserved
each-preserved g c =
    let old = g.B.Bank.trees c.args.bank.now in
    let now = g.B.Bank.trees c.each.bank in
    let next = g.B.Bank.trees c.add_told.new.bank in
    let items = c.deref-part-items.result.now in
    let seen = c.deref-part-items.ensures.value ∙ c.parts.view_is in
    let known : IsClauseIn old c.part-item.result = clause_in old items c.each.index c.part-item.result c.part-item.is (subst (λ cs. AreClausesIn old cs) (sym seen) c.requires) c.each-test.true in
    let same : clause_at now c.in_ok-copied.copied ≡ clause_at old c.part-item.result = ap (clause_at now) c.in_ok-copied.ensures ∙ (clause_later old now c.part-item.result c.each.invariant.grows known).is in
    record {
      grows = Grows_trans old now next c.each.invariant.grows c.add_told.ensures.grows;
      told = c.in_ok-add_told.ensures.told ∙ ((λ i. c.each.invariant.told i ++ filter_map told_number ((c.each.index + 1, same i) ∷ []))
          ∙ numbered_more (clause_at old) told_number items c.each.index c.part-item.result c.each-test.true c.part-item.is);
    }

pub returns-clause-told : goal.returns-clause-told
returns-clause-told g c =
    let old = g.B.Bank.trees c.args.bank.now in
    c.each.invariant.told ∙ numbered_all (clause_at old) told_number c.deref-part-items.result.now (map (clause_at old) c.args.parts.now) c.each.index c.each-test.false (ap (map (clause_at old)) (c.deref-part-items.ensures.value ∙ c.parts.view_is))

pub returns-in_err-add_told-clause-grows : goal.returns-in_err-add_told-clause-grows
returns-in_err-add_told-clause-grows g c = grind (arith, common_steps)
