use Rattle.std.proofs.Common.{arith}
use Rattle.term_tree.proofs.BankLaws.{Grows-length}
use Rattle.clause_resolve.proofs.Answering.{as_before}
use Rattle.clause_instances.proofs.resolved.how_descends.Goals as goal

pub back-requires : goal.back-requires
back-requires c = omega (arith, c.mark-mark.ensures, Grows-length c.args.scratch.now c.descent_grown-found.new.bank c.descent_grown-found.ensures.grows)

pub returns-clause-scratch : goal.returns-clause-scratch
returns-clause-scratch c = as_before c.args.scratch.now c.descent_grown-found.new.bank c.back.new.self _ c.descent_grown-found.ensures.grows c.mark-mark.ensures c.back.ensures
