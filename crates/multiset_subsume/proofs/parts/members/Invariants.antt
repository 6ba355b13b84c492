use Rattle.std.proofs.Common.{map, take}
use Rattle.spec_clauses.specs.Inclusion.{IsWithin}
use Rattle.clause_form.specs.Facts.{fact_of}
use Rattle.multiset_subsume.proofs.parts.members.Given as goal

abbrev pub invariant-each : goal.invariant-each
invariant-each l = IsWithin (map (λ f. fact_of f.now) l.found.items) (map (λ f. fact_of f.now) (take l.i l.facts))
