use Rattle.std.proofs.Common.{refl}
use Rattle.clause_saturate.specs.declared.common.Common.{Common}
use Rattle.clause_saturate.proofs.Commons.{common_cut}
use Rattle.clause_saturate.proofs.sharing.rewind.Goals as goal

pub returns-clause-common : goal.returns-clause-common
returns-clause-common g c =
    let common = c.args.common.now in
    let left : Common = record { alloc = common.alloc; begun = common.begun; live = common.live; budget = common.budget; number = common.number; mark = common.mark; finished = c.take.new.self } in
    λ shared h. common_cut (g.B.Bank.trees c.args.bank.now) (g.B.Bank.trees c.back.new.self) shared common left h c.back.ensures refl refl refl refl refl
