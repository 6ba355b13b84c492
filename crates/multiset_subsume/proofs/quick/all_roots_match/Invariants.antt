use Rattle.multiset_subsume.proofs.quick.all_roots_match.Given as goal

abbrev pub invariant-each : goal.invariant-each
invariant-each g l = Unit {0}
