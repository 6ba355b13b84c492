use Rattle.std.proofs.Common.{◌≡◌, ◌∙◌, List, length, sym, subst}
use borrow.Author.Tests.{ltb-true}
use Rattle.clause_form.specs.Seen.{IdClause}
use Rattle.clause_form.specs.Fit.{AreFit}
use Rattle.clause_form.proofs.Fit.{clause_fit_at}
use Rattle.certificate_search.proofs.fits.clause_at.Goals as goal

pub returns-in-Some : goal.returns-in-Some
returns-in-Some c = λ all fit.
    let items = c.deref.result.now in
    let found = c.in-Some.ensures.lookup in
    let same : items ≡ c.args.clauses.now = c.deref.ensures.value ∙ c.clauses.view_is in
    clause_fit_at all items c.args.place c.in-Some.clause.now found.1 (subst (λ (cs : List IdClause). AreFit all cs) (sym same) fit) (ltb-true c.args.place (length items) (sym found.0))
