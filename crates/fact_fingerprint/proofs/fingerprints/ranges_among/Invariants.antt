use Rattle.std.proofs.Common.{map}
use Rattle.spec_fingerprints.specs.Fingerprints.{least_of, most_of}
use Rattle.term_tree.specs.Bank.{tree_at}
use Rattle.fact_fingerprint.proofs.Ranging.{AreSoFar}
use Rattle.fact_fingerprint.proofs.fingerprints.ranges_among.Given as goal

abbrev pub invariant-each : goal.invariant-each
invariant-each g l = record {
  least : AreSoFar least_of (map (tree_at (g.B.Bank.trees l.bank)) l.terms) l.positions l.i l.least;
  most : AreSoFar most_of (map (tree_at (g.B.Bank.trees l.bank)) l.terms) l.positions l.i l.most;
}
