use Rattle.attack_candidates.specs.Sound.{IsSound}
use Rattle.attack_candidates.proofs.beginning.add_goals.Given as goal

abbrev pub invariant-each : goal.invariant-each
invariant-each l = IsSound l.bank l.found
