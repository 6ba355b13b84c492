use Rattle.std.proofs.Common.{sym, subst}
use Rattle.clause_form.specs.Seen.{IdClause}
use Rattle.clause_form.specs.Fit.{IsFit}
use Rattle.certificate_search.proofs.fits.add_copy.Goals as goal

pub returns : goal.returns
returns c = λ all fit made. c.push_fit.ensures all made (subst (λ (d : IdClause). IsFit all d) (sym c.in_ok-copied.ensures) (c.in-Some.ensures all fit))
