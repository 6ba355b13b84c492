use Rattle.std.proofs.Common.{◌≡◌, drop}
use Rattle.hv_io.specs.InMemory.{added}
use Rattle.hv_io.proofs.entries.find.Given as goal

-- the entries that were passed do not have the name
abbrev pub invariant-loop-entry : goal.invariant-loop-entry
invariant-loop-entry l = added l.entries l.name ≡ added (drop l.entry-index l.entries) l.name
