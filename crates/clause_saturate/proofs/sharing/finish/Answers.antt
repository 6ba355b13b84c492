use Rattle.std.proofs.Common.{Some, None, refl, sym, subst, arith}
use Rattle.clause_form.specs.Seen.{clause_at}
use Rattle.clause_resolve.proofs.Answering.{as_before, taken_back}
use Rattle.term_tree.proofs.BankLaws.{Grows-length}
use Rattle.clause_saturate.specs.declared.common.Common.{Common}
use Rattle.clause_saturate.specs.Common.{IsCommonOf}
use Rattle.clause_saturate.proofs.Commons.{walk_goes_on, goal_number, common_grows, common_set}
use Rattle.clause_saturate.proofs.sharing.finish.Goals as goal

pub walk_from_goal-requires : goal.walk_from_goal-requires
walk_from_goal-requires g c = λ κs h. (
    let all = g.B.Bank.trees c.args.bank.now in
    let goal_clause = clause_at all c.args.goal in
    let number = goal_number all g.shared c.args.common.now goal_clause c.requires.1.0 in
    let walk = c.in_ok-walk.walk in
    let as_begun = c.in_ok-walk.ensures in
    (h, (number.0, (number.1, (c.requires.1.1, (refl, walk_goes_on all g.shared goal_clause c.args.common.now walk c.requires.1.0 c.requires.1.1.normal c.requires.1.1.small as_begun.items as_begun.live as_begun.budget))))))

pub returns-in-Ok-clause-common : goal.returns-in-Ok-clause-common
returns-in-Ok-clause-common g c =
    common_set (g.B.Bank.trees c.walk_from_goal.new.bank) g.shared c.args.common.now (Some c.walk_from_goal.new.walk.items.items)
    (common_grows (g.B.Bank.trees c.args.bank.now) (g.B.Bank.trees c.walk_from_goal.new.bank) g.shared c.args.common.now c.in-Ok.ensures.grows c.requires.1.0)

pub back-requires : goal.back-requires
back-requires g c = omega (arith, c.mark-mark.ensures, Grows-length (g.B.Bank.trees c.args.bank.now) (g.B.Bank.trees c.walk_from_goal.new.bank) c.walk_from_goal.ensures.grows)

pub returns-clause-grows : goal.returns-clause-grows
returns-clause-grows g c = taken_back (g.B.Bank.trees c.args.bank.now) (g.B.Bank.trees c.walk_from_goal.new.bank) (g.B.Bank.trees c.back.new.self) _ c.walk_from_goal.ensures.grows c.mark-mark.ensures c.back.ensures

pub returns-clause-err : goal.returns-clause-err
returns-clause-err g c = as_before (g.B.Bank.trees c.args.bank.now) (g.B.Bank.trees c.walk_from_goal.new.bank) (g.B.Bank.trees c.back.new.self) _ c.walk_from_goal.ensures.grows c.mark-mark.ensures c.back.ensures

pub returns-clause-common : goal.returns-clause-common
returns-clause-common g c =
    let back = as_before (g.B.Bank.trees c.args.bank.now) (g.B.Bank.trees c.walk_from_goal.new.bank) (g.B.Bank.trees c.back.new.self) _ c.walk_from_goal.ensures.grows c.mark-mark.ensures c.back.ensures in
    let common = c.args.common.now in
    let fresh : Common = record { alloc = common.alloc; begun = common.begun; live = common.live; budget = common.budget; number = common.number; mark = common.mark; finished = None } in
    subst (λ trees. IsCommonOf trees g.shared fresh) (sym back) (common_set (g.B.Bank.trees c.args.bank.now) g.shared c.args.common.now None c.requires.1.0)
