use Rattle.std.proofs.Common.{◌≤◌, ◌-◌, length, take}
use Rattle.pi_tree.specs.Protocols.{protocol_of}
use Rattle.hx.specs.Noted.{AreFound}
use Rattle.hx.proofs.impossible.never_among.Given as goal

-- what is found of the subjects so far
abbrev pub invariant-each : goal.invariant-each
invariant-each l = record {
  within : l.from ≤ length l.subjects;
  found : AreFound (protocol_of l.protocol) l.budget (take l.from l.subjects) l.found;
}

abbrev pub decreases-each : goal.decreases-each
decreases-each l = length l.subjects - l.from
