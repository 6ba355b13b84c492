use Rattle.std.proofs.Common.{◌≡◌, map}
use Rattle.spec_clauses.specs.Fact.{Att}
use Rattle.clause_diffs.specs.Plain.{term_of}
use Rattle.clause_form.specs.PlainFacts.{plain_fact_of}
use Rattle.attacker_sources.proofs.raws.known.Given as goal

abbrev pub invariant-each : goal.invariant-each
invariant-each l = record {
  items : map plain_fact_of l.items.items ≡ map (λ t. Att l.before (term_of t)) l.yielded;
  whole : l.whole ≡ l.fn.whole;
}
