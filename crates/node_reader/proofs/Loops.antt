-- Loops over lines, for the readers above.
pub use Rattle.node_lines.proofs.Loops.{AreThrough, lines_on, lines_fault, lines_end, lines_over}
