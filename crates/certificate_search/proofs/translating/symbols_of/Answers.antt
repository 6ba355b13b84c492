use Rattle.std.proofs.Common.{◌≡◌, ◌∙◌, List, sym, subst}
use Rattle.clause_form.specs.Seen.{AreClausesIn, IdClause}
use Rattle.clause_form.proofs.Walks.{clause_known_at}
use Rattle.certificate_search.proofs.translating.symbols_of.Goals as goal

pub size_of-requires : goal.size_of-requires
size_of-requires c =
    let all = c.args.bank.now in
    let items = c.deref-clause-items.result.now in
    let same : items ≡ c.args.clauses.now = c.deref-clause-items.ensures.value ∙ c.clauses.view_is in
    clause_known_at all items c.each.clause-index c.clause-item.result c.clause-item.is (subst (λ (cs : List IdClause). AreClausesIn all cs) (sym same) c.requires) c.each-test.true
