use Rattle.unify_match.specs.Seen.{IsReady}
use Rattle.instance_merging.proofs.unifying.unify_group.Given as goal

abbrev pub invariant-each : goal.invariant-each
invariant-each l = IsReady l.bank l.binds.pairs
