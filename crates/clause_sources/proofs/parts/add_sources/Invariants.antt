use Rattle.std.proofs.Common.{◌≡◌, ◌++◌, map, take}
use Rattle.clause_sources.specs.Bound.{numbered_in_bound}
use Rattle.clause_sources.specs.Seen.{action_of}
use Rattle.clause_sources.proofs.Telling.{source_at}
use Rattle.clause_sources.proofs.parts.add_sources.Given as goal

abbrev pub invariant-each : goal.invariant-each
invariant-each g l = l.sources ≡ l.fn.sources ++ map (source_at (action_of l.action) (numbered_in_bound l.raw)) (take l.part-index l.part-items)
