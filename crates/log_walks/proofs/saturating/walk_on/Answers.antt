use Rattle.std.proofs.Common.{◌≡◌, ◌+◌, length, subst, arith}
use Rattle.spec_saturation.specs.Log.{goal_key}
use Rattle.term_tree.proofs.BankLaws.{Grows_refl, Grows_trans}
use Rattle.log_walks.specs.Walked.{IsWalked, turn_end}
use Rattle.log_walks.proofs.Fitting.{turn_within, turn_reached}
use Rattle.log_walks.proofs.Stepping.{next_turn_step, turn_end_step, gone_by}
use Rattle.log_walks.proofs.saturating.walk_on.Goals as goal

pub each-init : goal.each-init
each-init g c =
    let all = g.B.Bank.trees c.args.bank.now in
    record {
      within = turn_reached all g.task c.args.walk.now c.args.from c.requires.1;
      few = turn_within all g.task c.args.walk.now (turn_end g.task c.args.from) c.requires.1;
      grows = Grows_refl all;
      walked = c.requires.1;
    }

pub pass-requires : goal.pass-requires
pass-requires g c = λ κs h. (
    let all = g.B.Bank.trees c.each.bank in
    (h, (next_turn_step all g.task c.each.walk c.each.turn (omega arith) c.each.invariant.walked, omega arith)))

pub each-preserved : goal.each-preserved
each-preserved g c =
    let all = g.B.Bank.trees c.each.bank in
    let now = g.B.Bank.trees c.pass.new.bank in
    let turn = c.each.turn + 1 in
    let walked : IsWalked now g.task c.pass.new.walk (turn_end g.task turn) = turn_end_step now g.task c.pass.new.walk turn (gone_by now g.task c.pass.new.walk (goal_key g.task.given turn) c.in_ok-stop.field-0 c.in-None.is c.in_ok-stop.ensures.passed) in
    record {
      within = turn_reached now g.task c.pass.new.walk turn walked;
      few = turn_within now g.task c.pass.new.walk (turn_end g.task turn) walked;
      grows = Grows_trans (g.B.Bank.trees c.args.bank.now) all now c.each.invariant.grows c.in_ok-stop.ensures.grows;
      walked = walked;
    }

pub returns-clause-grows : goal.returns-clause-grows
returns-clause-grows g c = c.each.invariant.grows

pub returns-clause-arrived : goal.returns-clause-arrived
returns-clause-arrived g c =
    let last : c.each.turn ≡ length c.each.walk.items.items = omega (arith, c.each.invariant.within, c.each-test.false) in
    subst (λ turn. IsWalked (g.B.Bank.trees c.each.bank) g.task c.each.walk (turn_end g.task turn)) last c.each.invariant.walked

pub returns-in_err-stop-clause-grows : goal.returns-in_err-stop-clause-grows
returns-in_err-stop-clause-grows g c = Grows_trans (g.B.Bank.trees c.args.bank.now) (g.B.Bank.trees c.each.bank) (g.B.Bank.trees c.pass.new.bank) c.each.invariant.grows c.pass.ensures.grows

pub returns-in-Some-clause-grows : goal.returns-in-Some-clause-grows
returns-in-Some-clause-grows g c = Grows_trans (g.B.Bank.trees c.args.bank.now) (g.B.Bank.trees c.each.bank) (g.B.Bank.trees c.pass.new.bank) c.each.invariant.grows c.pass.ensures.grows
