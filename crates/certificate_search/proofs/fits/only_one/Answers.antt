use Rattle.std.proofs.Common.{◌≡◌, ◌∙◌, List, [], ◌∷◌, ◌++◌, sym, subst, arith}
use Rattle.spec_clauses.specs.Limits.{IsWithinLimit}
use Rattle.spec_clauses.specs.Inclusion.{Has}
use Rattle.clause_form.specs.Seen.{clause_at, AreClausesIn, IdClause}
use Rattle.clause_form.specs.Fit.{AreLowWithinLimit, clauses_at}
use Rattle.certificate_search.proofs.Fitting.{last_fit}
use Rattle.certificate_search.proofs.fits.only_one.Goals as goal

pub returns : goal.returns
returns c =
    let all = c.args.bank.now in
    let rest = c.pop.new.self.items in
    let clause = c.in_ok-clause.clause in
    let same : c.args.made ≡ rest ++ clause ∷ [] = sym c.made.view_is ∙ c.in_ok-clause.ensures.items in
    let small : IsWithinLimit (clause_at all clause) = omega (arith, c.size_of.ensures, c.if-size_of-gt-MOST_SYMBOLS.false) in
    last_fit all rest clause (subst (λ (cs : List IdClause). AreClausesIn all cs) same c.requires.known)
    (λ k has. c.requires.normal k (subst (λ (cs : List IdClause). Has (clauses_at all cs) k) (sym same) has))
    (subst (λ (cs : List IdClause). AreLowWithinLimit all cs) same c.requires.low) small
