-- What the numbers of a constraint's variables become by their places.
use Rattle.spec_terms.specs.Term.{Subst}
use Rattle.clause_diffs.specs.declared.tidying.Places.{Places}
use Rattle.clause_diffs.specs.Numbers.{numbered_by}

abbrev pub by_places : Places → Subst
by_places p = numbered_by p.own.now p.bound.now p.first p.next
