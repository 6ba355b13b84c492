use Rattle.std.proofs.Common.{◌≡◌, map, drop}
use Rattle.clause_form.specs.PlainFacts.{plain_fact_of}
use Rattle.spec_node_tables.specs.Large.{fact_piece}
use Rattle.node_table.specs.Room.{room_behind_pieces}
use Rattle.node_table.proofs.sizes.room_behind_facts.Given as goal

-- what is left behind the facts that are left is what is left behind all
abbrev pub invariant-each : goal.invariant-each
invariant-each l = room_behind_pieces l.left (map fact_piece (map plain_fact_of (drop l.fact-index l.fact-items))) ≡ room_behind_pieces l.room (map fact_piece (map plain_fact_of l.fact-items))
