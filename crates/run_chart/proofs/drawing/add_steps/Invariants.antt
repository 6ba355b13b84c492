-- The configuration is one of the protocol, and counts no more than the steps so far; the rows so far, and those of the steps that are left, are the rows of all.
use Rattle.std.proofs.Common.{◌≡◌, ◌≤◌, ◌+◌, ◌-◌, ◌++◌, length, map}
use Rattle.pi_tree.specs.Protocols.{protocol_of}
use Rattle.pi_configurations.specs.Configurations.{IsConfigurationOf}
use Rattle.run_chart.specs.Rows.{told_of, told_from}
use Rattle.run_chart.proofs.drawing.add_steps.Given as goal

abbrev pub invariant-loop-index : goal.invariant-loop-index
invariant-loop-index l = record {
  of_protocol : IsConfigurationOf (protocol_of l.setting.protocol.now) l.conf;
  counted : l.conf.steps ≤ l.index;
  rows : map told_of l.chart.rows.items ++ told_from l.setting.firsts.now (l.index + 1) (length l.steps - l.index) ≡ map told_of l.initial.chart.rows.items ++ told_from l.setting.firsts.now 1 (length l.steps);
}
