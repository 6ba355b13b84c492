use Rattle.std.proofs.Common.{◌≡◌, ◌∙◌, List, [], ◌∷◌, ◌++◌, ap, sym, subst}
use Rattle.clause_form.specs.Seen.{IdClause}
use Rattle.clause_form.specs.Fit.{AreFit}
use Rattle.certificate_search.proofs.Fitting.{fit_append}
use Rattle.certificate_search.proofs.fits.push_fit.Goals as goal

pub returns : goal.returns
returns c = λ all fit one.
    let same : c.push.new.self.items ≡ c.args.clauses.now ++ c.args.clause ∷ [] = c.in_ok-push.ensures.items ∙ ap (λ (cs : List IdClause). cs ++ c.args.clause ∷ []) c.clauses.view_is in
    subst (λ (cs : List IdClause). AreFit all cs) (sym same) (fit_append all c.args.clauses.now (c.args.clause ∷ []) fit (one, tt))
