use Rattle.std.proofs.Common.{arith}
use Rattle.term_tree.proofs.BankLaws.{Grows-length}
use Rattle.clause_resolve.proofs.Answering.{taken_back}
use Rattle.certificate_search.proofs.fits.meets.Goals as goal

pub back-requires : goal.back-requires
back-requires c = omega (arith, c.mark-mark.ensures, Grows-length c.args.bank.now c.resolved.new.bank c.resolved.ensures.grows)

pub returns : goal.returns
returns c = record { grows = taken_back c.args.bank.now c.resolved.new.bank c.back.new.self _ c.resolved.ensures.grows c.mark-mark.ensures c.back.ensures }
