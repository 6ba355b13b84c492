use Rattle.std.proofs.Common.{◌≡◌}
use Rattle.table_calls.proofs.clause_rows.term_lists.instances_text.Given as goal

-- the bank is as it was
abbrev pub invariant-each : goal.invariant-each
invariant-each l = l.bank ≡ l.fn.bank
