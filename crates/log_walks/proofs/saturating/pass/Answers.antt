use Rattle.std.proofs.Common.{◌≡◌, ◌+◌, refl, rules, arith}
use Rattle.spec_saturation.specs.Key.{key}
use Rattle.term_tree.proofs.BankLaws.{Grows_trans}
use Rattle.log_walks.specs.Pairs.{major, minor}
use Rattle.log_walks.proofs.Fitting.{walked_fit, walked_listed, walked_reached}
use Rattle.log_walks.proofs.Pairing.{passed_by, next_walked, next_due, next_passed}
use Rattle.log_walks.proofs.Stepping.{turn_ends_step, gone_by}
use Rattle.log_walks.proofs.saturating.pass.Goals as goal

pub next_pair-requires-clause-entries : goal.next_pair-requires-clause-entries
next_pair-requires-clause-entries g c = walked_fit (g.B.Bank.trees c.each.bank) g.task c.each.walk (key c.args.turn c.each.earlier 1) c.each.invariant.walked

pub next_pair-requires-clause-listed : goal.next_pair-requires-clause-listed
next_pair-requires-clause-listed g c = walked_listed (g.B.Bank.trees c.each.bank) g.task c.each.walk (key c.args.turn c.each.earlier 1) c.each.invariant.walked

pub next_pair-requires-clause-within : goal.next_pair-requires-clause-within
next_pair-requires-clause-within g c = walked_reached (g.B.Bank.trees c.each.bank) g.task c.each.walk (key c.args.turn c.each.earlier 1) c.each.invariant.walked

pub resolve-requires : goal.resolve-requires
resolve-requires g c = λ κs h. (
    let all = g.B.Bank.trees c.each.bank in
    let first = c.in-Some.ensures in
    (h, (next_walked all g.task c.each.walk c.args.turn c.each.earlier c.in-Some.pair first c.each.invariant.walked, next_due all c.each.walk.items.items c.args.turn c.each.earlier c.in-Some.pair first)))

pub overflow_add-earlier : goal.overflow_add-earlier
overflow_add-earlier g c = let order = c.in-Some.ensures.due.order in omega (arith, order)

pub each-preserved : goal.each-preserved
each-preserved g c =
    let all = g.B.Bank.trees c.each.bank in
    let now = g.B.Bank.trees c.resolve.new.bank in
    let pair = c.in-Some.pair in
    let first = c.in-Some.ensures in
    let order = first.due.order in
    let is : c.min-earlier.result + 1 ≡ minor pair + 1 = search rules in
    record {
      within = omega (arith, order, is);
      grows = Grows_trans (g.B.Bank.trees c.args.bank.now) all now c.each.invariant.grows c.in_ok-stop.ensures.grows;
      walked = next_passed all now g.task c.each.walk c.resolve.new.walk c.args.turn c.each.earlier (c.min-earlier.result + 1) pair first is
          (gone_by now g.task c.resolve.new.walk (key (major pair) (minor pair + 1) 1) c.in_ok-stop.field-0 c.in-None.is c.in_ok-stop.ensures.passed);
    }

pub each-smaller : goal.each-smaller
each-smaller g c =
    let first = c.in-Some.ensures in
    let order = first.due.order in
    let from = first.from_there in
    omega (arith, order, from)

pub returns-clause-passed : goal.returns-clause-passed
returns-clause-passed g c =
    let all = g.B.Bank.trees c.each.bank in
    turn_ends_step all g.task c.each.walk c.args.turn c.args.turn c.requires.1.1 refl
    (passed_by all g.task c.each.walk c.args.turn c.each.earlier c.args.turn c.each.invariant.within (omega arith) c.in_default.ensures c.each.invariant.walked)

pub returns-in_err-stop-clause-grows : goal.returns-in_err-stop-clause-grows
returns-in_err-stop-clause-grows g c = Grows_trans (g.B.Bank.trees c.args.bank.now) (g.B.Bank.trees c.each.bank) (g.B.Bank.trees c.resolve.new.bank) c.each.invariant.grows c.resolve.ensures.grows

pub returns-in-Some-2-clause-grows : goal.returns-in-Some-2-clause-grows
returns-in-Some-2-clause-grows g c = Grows_trans (g.B.Bank.trees c.args.bank.now) (g.B.Bank.trees c.each.bank) (g.B.Bank.trees c.resolve.new.bank) c.each.invariant.grows c.resolve.ensures.grows
