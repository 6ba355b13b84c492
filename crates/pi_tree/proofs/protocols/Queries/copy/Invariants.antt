use Rattle.std.proofs.Common.{◌≡◌, take}
use Rattle.pi_tree.proofs.protocols.Queries.copy.Given as goal

abbrev pub invariant-loop-query : goal.invariant-loop-query
invariant-loop-query l = l.items.items ≡ take l.query-index l.query-items
