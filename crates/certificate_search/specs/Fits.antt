-- What a pair of clauses gives is fit for resolution.
use Rattle.std.specs.Prelude.{List}
use Rattle.spec_terms.specs.Term.{Term}
use Rattle.clause_form.specs.Fit.{AreFit}
use Rattle.clause_resolve.specs.declared.resolving.Resolved.{Resolved}
use Rattle.clause_resolve.specs.declared.resolving.Resolved.TheVariants.{NoUnifier, Large, Clauses}

-- the clauses that were found, if any, are fit
abbrev pub AreFoundFit : List Term → Resolved → Type 0
AreFoundFit all NoUnifier = Unit {0}
AreFoundFit all Large = Unit {0}
AreFoundFit all (Clauses cs) = AreFit all cs
