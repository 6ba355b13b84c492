-- The copies are fit wherever the clauses are.
use Rattle.std.proofs.Common.{List}
use Rattle.spec_terms.specs.Term.{Term}
use Rattle.clause_form.specs.Fit.{AreFit}
use Rattle.certificate_search.proofs.fits.copies.Given as goal

abbrev pub invariant-each : goal.invariant-each
invariant-each l = (all : List Term) → AreFit all l.clauses → AreFit all l.made
