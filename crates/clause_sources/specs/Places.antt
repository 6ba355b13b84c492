-- What the numbers of variables become.
use Rattle.std.specs.Prelude.{Option, None, Some, List, ℕ}
use Rattle.spec_terms.specs.Term.{Subst}
use Rattle.clause_diffs.specs.Numbers.{placed, numbered_by}
use Rattle.clause_sources.specs.declared.numbers.Numbers.{Numbers}

abbrev pub by_first : List ℕ → List ℕ → Option ℕ → ℕ → Subst
by_first own bound None next = placed own
by_first own bound (Some first) next = numbered_by own bound first next

abbrev pub by_numbers : Numbers → Subst
by_numbers n = by_first n.own.now n.bound.now n.first n.next
