use Rattle.std.proofs.Common.{◌≡◌, take}
use Rattle.shared_cert.proofs.spelling.all_bound_behind.Given as goal

abbrev pub invariant-each : goal.invariant-each
invariant-each l = l.items.items ≡ take l.diff-index l.diff-items
