-- Nothing is said of so many clauses behind those before.
use Rattle.std.proofs.Common.{◌≡◌, ◌++◌, replicate, None}
use Rattle.choice_text.proofs.splitting.put_choice.Given as goal

abbrev pub invariant-each : goal.invariant-each
invariant-each l = l.said.items ≡ l.initial.said.items ++ replicate l.index None
