use Rattle.std.proofs.Common.{map, arith}
use Rattle.spec_fingerprints.specs.Fingerprints.{least_of, most_of}
use Rattle.term_tree.specs.Bank.{tree_at}
use Rattle.fact_fingerprint.proofs.Ranging.{at_all}
use Rattle.fact_fingerprint.proofs.fingerprints.ranges_among.Goals as goal

pub returns-clause-least : goal.returns-clause-least
returns-clause-least g c = at_all least_of (map (tree_at (g.B.Bank.trees c.args.bank.now)) c.args.terms.now) c.args.positions.now c.each.i c.each.least c.each.invariant.least c.requires.many (omega arith)

pub returns-clause-most : goal.returns-clause-most
returns-clause-most g c = at_all most_of (map (tree_at (g.B.Bank.trees c.args.bank.now)) c.args.terms.now) c.args.positions.now c.each.i c.each.most c.each.invariant.most c.requires.many (omega arith)
