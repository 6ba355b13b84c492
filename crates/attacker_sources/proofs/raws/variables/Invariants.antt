use Rattle.std.proofs.Common.{◌≡◌, map}
use Rattle.spec_translation.specs.Attacker.{variables_from}
use Rattle.clause_diffs.specs.Plain.{term_of}
use Rattle.attacker_sources.proofs.raws.variables.Given as goal

abbrev pub invariant-each : goal.invariant-each
invariant-each l = map term_of l.items.items ≡ variables_from 0 l.number
