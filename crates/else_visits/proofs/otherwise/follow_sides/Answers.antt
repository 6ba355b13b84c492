use Rattle.std.proofs.Common.{◌+◌, map, drop}
use Rattle.term_tree.proofs.BankLaws.{Grows_refl, Grows_trans}
use Rattle.term_values.specs.Instructions.{instruction_of}
use Rattle.unified_visits.specs.Places.{protocol_at}
use Rattle.else_visits.proofs.SideWalking.{sides_at, sides_end}
use Rattle.else_visits.proofs.otherwise.follow_sides.Goals as goal

pub each-init : goal.each-init
each-init g c = record { grows = Grows_refl (g.B.Bank.trees c.args.bank.now); along = λ v ruled was. was }

pub step_side-requires : goal.step_side-requires
step_side-requires g c =
    let P = protocol_at c.args.choosing.now.place.now in
    let w = c.args.choosing.now.visit.now in
    let all = c.args.choosing.now.instructions.now in
    let i = c.each.instruction-index in
    let has = c.requires.stands in
    record {
      stands = (has.0, map instruction_of (drop (i + 1) all), has.1, sides_at P w has.0 (g.B.Bank.trees c.each.bank) all i c.instruction-item.result has.1 c.each.walk c.each-test.true c.instruction-item.is (c.each.invariant.along has.0 has.1 has.2));
    }

pub each-preserved : goal.each-preserved
each-preserved g c =
    let now = g.B.Bank.trees c.each.bank in
    let new = g.B.Bank.trees c.step_side.new.bank in
    let P = protocol_at c.args.choosing.now.place.now in
    let w = c.args.choosing.now.visit.now in
    let all = c.args.choosing.now.instructions.now in
    let i = c.each.instruction-index in
    record {
      grows = Grows_trans (g.B.Bank.trees c.args.bank.now) now new c.each.invariant.grows c.step_side.ensures.grows;
      along = λ v ruled was. c.in_ok-step_side.ensures.along v (map instruction_of (drop (i + 1) all)) ruled (sides_at P w v now all i c.instruction-item.result ruled c.each.walk c.each-test.true c.instruction-item.is (c.each.invariant.along v ruled was));
    }

pub returns-clause-along : goal.returns-clause-along
returns-clause-along g c =
    let P = protocol_at c.args.choosing.now.place.now in
    let w = c.args.choosing.now.visit.now in
    λ v ruled was. sides_end P w v (g.B.Bank.trees c.each.bank) c.args.choosing.now.instructions.now c.each.instruction-index ruled c.each.walk c.each-test.false (c.each.invariant.along v ruled was)

pub returns-in_err-step_side-clause-grows : goal.returns-in_err-step_side-clause-grows
returns-in_err-step_side-clause-grows g c = Grows_trans (g.B.Bank.trees c.args.bank.now) (g.B.Bank.trees c.each.bank) (g.B.Bank.trees c.step_side.new.bank) c.each.invariant.grows c.step_side.ensures.grows

pub returns-clause-grows : goal.returns-clause-grows
returns-clause-grows g c = c.each.invariant.grows
