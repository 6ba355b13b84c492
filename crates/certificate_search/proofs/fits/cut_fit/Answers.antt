use Rattle.std.proofs.Common.{◌≡◌, ◌∙◌, List, take, ap, sym, subst}
use Rattle.clause_form.specs.Seen.{IdClause}
use Rattle.clause_form.specs.Fit.{AreFit}
use Rattle.certificate_search.proofs.Fitting.{fit_take}
use Rattle.certificate_search.proofs.fits.cut_fit.Goals as goal

pub returns : goal.returns
returns c = λ all fit.
    let same : c.truncate.new.self.items ≡ take c.args.place c.args.clauses.now = c.truncate.ensures.items ∙ ap (take c.args.place) c.clauses.view_is in
    subst (λ (cs : List IdClause). AreFit all cs) (sym same) (fit_take all c.args.place c.args.clauses.now fit)
