use Rattle.clause_resolve.proofs.clash.some_roots_differ.Given as goal

abbrev pub invariant-each : goal.invariant-each
invariant-each g l = Unit {0}
