use Rattle.std.proofs.Common.{List, subst}
use Rattle.spec_terms.specs.Term.{Term}
use Rattle.spec_clauses.specs.Fact.{Clause}
use Rattle.spec_clauses.specs.Inclusion.{Has}
use Rattle.clause_form.specs.Seen.{clause_at}
use Rattle.certificate_search.proofs.fits.fit_norm.Goals as goal

pub only_one-requires-clause-normal : goal.only_one-requires-clause-normal
only_one-requires-clause-normal c = λ k has.
    c.norms_are_normal.ensures.norms (clause_at c.copy_into.new.bank c.in_ok-raw.raw) k (subst (λ (cs : List (Clause Term)). Has cs k) c.in_ok-made.ensures.names.are has)
