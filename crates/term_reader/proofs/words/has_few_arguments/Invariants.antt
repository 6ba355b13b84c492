-- up to the point each name has few arguments
use Rattle.pi_tree.specs.Processes.{process_of}
use Rattle.term_reader.proofs.Points.{AreFewTo}
use Rattle.term_reader.proofs.words.has_few_arguments.Given as goal

abbrev pub invariant-loop-before : goal.invariant-loop-before
invariant-loop-before l = AreFewTo (process_of l.protocol.main) l.before
