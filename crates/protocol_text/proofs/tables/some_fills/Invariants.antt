use Rattle.std.proofs.Common.{◌≡◌, drop, map}
use Rattle.std.specs.List.{list_any}
use Rattle.protocol_text.specs.Spots.{node_of}
use Rattle.protocol_text.specs.TableUses.{fills}
use Rattle.protocol_text.proofs.tables.some_fills.Given as goal

abbrev pub invariant-each : goal.invariant-each
invariant-each l = list_any (fills l.table) (map node_of (drop l.spot-index l.spots)) ≡ list_any (fills l.table) (map node_of l.spots)
