use Rattle.std.proofs.Common.{◌≤◌, length, refl, sym, ◌∙◌, arith}
use Rattle.spec_calculus.specs.Points.{nodes}
use Rattle.pi_tree.specs.Processes.{process_of}
use Rattle.pi_tree.specs.Protocols.{protocol_of}
use Rattle.term_reader.proofs.Points.{named_at, told_exactly}
use Rattle.term_reader.proofs.words.Names.name_called.Goals as goal

pub returns-then-is_restriction_of : goal.returns-then-is_restriction_of
returns-then-is_restriction_of c =
    let P = protocol_of c.args.self.now.protocol.now in
    let counted = c.count.ensures in
    let below = c.if-point-count.false in
    let within : c.args.point ≤ length (nodes P.main) = omega (arith, counted, below) in
    named_at P c.args.word.now c.args.point (process_of c.node.result.now) c.name_args.result _ c.node.ensures
    (told_exactly P.main c.args.point c.name_args.result c.args.self.now.few.arguments within c.name_args.ensures)
    (sym c.is_restriction_of.ensures ∙ c.if-is_restriction_of.true) refl
