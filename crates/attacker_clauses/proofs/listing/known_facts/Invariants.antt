use Rattle.std.proofs.Common.{◌≡◌, map, take}
use Rattle.spec_clauses.specs.Fact.{Att}
use Rattle.attacker_clauses.proofs.listing.known_facts.Given as goal

abbrev pub invariant-loop-term : goal.invariant-loop-term
invariant-loop-term l = l.facts ≡ map (Att l.at.phase) (take l.term-index l.terms)
