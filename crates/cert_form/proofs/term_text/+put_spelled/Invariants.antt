use Rattle.std.proofs.Common.{map}
use Rattle.spec_trees.specs.Tree.{depth}
use Rattle.clause_form.specs.Plain.{term_of}
use Rattle.pi_tree.specs.Protocols.{protocol_of}
use Rattle.cert_form.specs.Remaining.{HasPut, arguments_from}
use Rattle.cert_form.proofs.term_text.+put_spelled.Given as goal

abbrev pub invariant-each : goal.invariant-each
invariant-each l = HasPut (arguments_from (protocol_of l.protocol)) l.place (map term_of l.argument-items) l.initial.out.items l.out.items

abbrev pub decreases-put_spelled : goal.decreases-put_spelled
decreases-put_spelled l = depth (term_of l.term.now)
