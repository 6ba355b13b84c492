use Rattle.std.proofs.Common.{◌≡◌, ◌∙◌, List, ◌++◌, sym, subst}
use Rattle.clause_form.specs.Seen.{IdClause}
use Rattle.clause_form.specs.Fit.{AreFit}
use Rattle.certificate_search.proofs.Fitting.{fit_append}
use Rattle.certificate_search.proofs.fits.append_fit.Goals as goal

pub returns : goal.returns
returns c = λ all fit more.
    let same : c.append.new.self.items ≡ c.args.clauses.now ++ c.args.made = c.in_ok-append.ensures.items ∙ (λ i. c.clauses.view_is i ++ c.made.view_is i) in
    subst (λ (cs : List IdClause). AreFit all cs) (sym same) (fit_append all c.args.clauses.now c.args.made fit more)
