use Rattle.std.proofs.Common.{ap, length, arith}
use Rattle.clause_norms.proofs.Norms.{part_known, normed_on}
use Rattle.term_tree.proofs.BankLaws.{Grows_trans}
use Rattle.clause_norms.proofs.norms_of_all.Goals as goal

pub add_norm-requires : goal.add_norm-requires
add_norm-requires g c =
    part_known (g.B.Bank.trees c.args.bank.now) (g.B.Bank.trees c.loop-part.bank) c.loop-part.made c.loop-part.part-iterator.rest.items c.next.new.self.rest.items c.args.parts c.in-Some.part c.loop-part.invariant.normed c.in-Some.ensures.steps.0

pub loop-part-preserved : goal.loop-part-preserved
loop-part-preserved g c =
    let first = c.in-Some.ensures.steps.0 in
    record {
      normed = normed_on (g.B.Bank.trees c.args.bank.now) (g.B.Bank.trees c.loop-part.bank) (g.B.Bank.trees c.add_norm.new.bank) c.loop-part.made c.add_norm.new.made c.loop-part.part-iterator.rest.items c.next.new.self.rest.items c.args.parts c.in-Some.part
          c.loop-part.invariant.normed first c.add_norm.ensures.grows c.in_ok-add_norm.ensures.names c.in_ok-add_norm.ensures.low;
      counted = omega (arith, c.in-Some.ensures.steps.1, c.loop-part.invariant.counted, ap length first);
    }

pub returns-in_err-add_norm-clause-grows : goal.returns-in_err-add_norm-clause-grows
returns-in_err-add_norm-clause-grows g c = Grows_trans (g.B.Bank.trees c.args.bank.now) (g.B.Bank.trees c.loop-part.bank) (g.B.Bank.trees c.add_norm.new.bank) c.loop-part.invariant.normed.grows c.add_norm.ensures.grows
