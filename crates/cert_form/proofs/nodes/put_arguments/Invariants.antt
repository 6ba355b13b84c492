use Rattle.std.proofs.Common.{map}
use Rattle.cert_form.specs.Remaining.{HasPut, numbers_from}
use Rattle.cert_form.proofs.NodeLines.{numbered}
use Rattle.cert_form.proofs.nodes.put_arguments.Given as goal

abbrev pub invariant-each : goal.invariant-each
invariant-each l = HasPut numbers_from l.id-index (map (numbered l.table) l.ids) l.initial.out.items l.out.items
