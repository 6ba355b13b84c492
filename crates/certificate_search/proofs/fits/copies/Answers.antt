use Rattle.std.proofs.Common.{List, sym, subst}
use Rattle.clause_form.specs.Seen.{IdClause}
use Rattle.clause_form.specs.Fit.{AreFit}
use Rattle.certificate_search.proofs.fits.copies.Goals as goal

pub each-init : goal.each-init
each-init c = λ all fit. subst (λ (cs : List IdClause). AreFit all cs) (sym c.new.ensures.items) tt

pub each-preserved : goal.each-preserved
each-preserved c = λ all fit. c.add_copy.ensures all fit (c.each.invariant all fit)
