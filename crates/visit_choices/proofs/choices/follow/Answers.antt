use Rattle.std.proofs.Common.{◌≡◌, ◌+◌, ◌-◌, map, drop, arith}
use Rattle.pi_tree.specs.Patterns.{pattern_of}
use Rattle.term_tree.proofs.BankLaws.{Grows_refl, Grows_trans}
use Rattle.term_values.specs.Instructions.{instruction_of}
use Rattle.unified_visits.specs.Places.{protocol_at}
use Rattle.visit_choices.specs.Walks.{IsAlong}
use Rattle.visit_choices.specs.Ways.{AreCut}
use Rattle.unified_visits.specs.Visits.{NamesVisit}
use Rattle.visit_choices.proofs.ButForDiffs.{like_later}
use Rattle.visit_choices.proofs.Branches.{if_true, if_false}
use Rattle.visit_choices.proofs.Passing.{cut_passes}
use Rattle.visit_choices.proofs.Walking.{along_at, along_end}
use Rattle.visit_choices.proofs.choices.follow.Goals as goal

pub each-init : goal.each-init
each-init g c = record { grows = Grows_refl (g.B.Bank.trees c.args.bank.now); along = λ v rs was. was }

pub step-requires : goal.step-requires
step-requires g c =
    let P = protocol_at c.args.choosing.now.place.now in
    let w = c.args.choosing.now.visit.now in
    let all = c.args.choosing.now.instructions.now in
    let i = c.each.instruction-index in
    let has = c.requires.stands in
    record {
      stands = (has.0, map instruction_of (drop (i + 1) all), has.1, along_at P w has.0 (g.B.Bank.trees c.each.bank) all i c.instruction-item.result has.1 c.each.walk c.each-test.true c.instruction-item.is (c.each.invariant.along has.0 has.1 has.2));
    }

pub overflow_sub-result : goal.overflow_sub-result
overflow_sub-result g c =
    let now = g.B.Bank.trees c.each.bank in
    let new = g.B.Bank.trees c.step.new.bank in
    let P = protocol_at c.args.choosing.now.place.now in
    let w = c.args.choosing.now.visit.now in
    let all = c.args.choosing.now.instructions.now in
    let i = c.each.instruction-index in
    let later = map instruction_of (drop (i + 1) all) in
    let walk = c.step.new.walk in
    let has = c.requires.stands in
    let here = along_at P w has.0 now all i c.instruction-item.result has.1 c.each.walk c.each-test.true c.instruction-item.is (c.each.invariant.along has.0 has.1 has.2) in
    let cut = if_false c.in_ok-step.field-0 (IsAlong P w has.0 later has.1 new walk) (AreCut P has.0 (pattern_of c.args.choosing.now.pattern.now) has.1 (walk.left - walk.number)) c.if-not-branch.true (c.in_ok-step.ensures.along has.0 later has.1 here) in
    omega (arith, cut.some)

pub returns-then-not-branch-clause-passes : goal.returns-then-not-branch-clause-passes
returns-then-not-branch-clause-passes g c =
    let now = g.B.Bank.trees c.each.bank in
    let new = g.B.Bank.trees c.step.new.bank in
    let P = protocol_at c.args.choosing.now.place.now in
    let w = c.args.choosing.now.visit.now in
    let pattern = pattern_of c.args.choosing.now.pattern.now in
    let all = c.args.choosing.now.instructions.now in
    let i = c.each.instruction-index in
    let later = map instruction_of (drop (i + 1) all) in
    let walk = c.step.new.walk in
    λ v rs was.
    let here = along_at P w v now all i c.instruction-item.result rs c.each.walk c.each-test.true c.instruction-item.is (c.each.invariant.along v rs was) in
    cut_passes P v pattern rs (λ m o. c.args.visit.now ≡ w → NamesVisit new m o) (walk.left - walk.number) (if_false c.in_ok-step.field-0 (IsAlong P w v later rs new walk) (AreCut P v pattern rs (walk.left - walk.number)) c.if-not-branch.true (c.in_ok-step.ensures.along v later rs here))

pub each-preserved : goal.each-preserved
each-preserved g c =
    let now = g.B.Bank.trees c.each.bank in
    let new = g.B.Bank.trees c.step.new.bank in
    let P = protocol_at c.args.choosing.now.place.now in
    let w = c.args.choosing.now.visit.now in
    let pattern = pattern_of c.args.choosing.now.pattern.now in
    let all = c.args.choosing.now.instructions.now in
    let i = c.each.instruction-index in
    let later = map instruction_of (drop (i + 1) all) in
    let walk = c.step.new.walk in
    record {
      grows = Grows_trans (g.B.Bank.trees c.args.bank.now) now new c.each.invariant.grows c.step.ensures.grows;
      along = λ v rs was.
          let here = along_at P w v now all i c.instruction-item.result rs c.each.walk c.each-test.true c.instruction-item.is (c.each.invariant.along v rs was) in
          if_true c.in_ok-step.field-0 (IsAlong P w v later rs new walk) (AreCut P v pattern rs (walk.left - walk.number)) c.if-not-branch.false (c.in_ok-step.ensures.along v later rs here);
    }

pub finish-requires : goal.finish-requires
finish-requires g c =
    let P = protocol_at c.args.choosing.now.place.now in
    let w = c.args.choosing.now.visit.now in
    let has = c.requires.stands in
    record {
      stands = (has.0, has.1, along_end P w has.0 (g.B.Bank.trees c.each.bank) c.args.choosing.now.instructions.now c.each.instruction-index has.1 c.each.walk c.each-test.false (c.each.invariant.along has.0 has.1 has.2));
      like = like_later (g.B.Bank.trees c.args.bank.now) (g.B.Bank.trees c.each.bank) w c.args.visit.now c.each.invariant.grows c.requires.like;
    }

pub returns-clause-passes : goal.returns-clause-passes
returns-clause-passes g c =
    let P = protocol_at c.args.choosing.now.place.now in
    let w = c.args.choosing.now.visit.now in
    λ v rs was. c.in_ok-way.ensures.passes v rs (along_end P w v (g.B.Bank.trees c.each.bank) c.args.choosing.now.instructions.now c.each.instruction-index rs c.each.walk c.each-test.false (c.each.invariant.along v rs was))

pub returns-in_err-step-clause-grows : goal.returns-in_err-step-clause-grows
returns-in_err-step-clause-grows g c = Grows_trans (g.B.Bank.trees c.args.bank.now) (g.B.Bank.trees c.each.bank) (g.B.Bank.trees c.step.new.bank) c.each.invariant.grows c.step.ensures.grows

pub returns-then-not-branch-clause-grows : goal.returns-then-not-branch-clause-grows
returns-then-not-branch-clause-grows g c = Grows_trans (g.B.Bank.trees c.args.bank.now) (g.B.Bank.trees c.each.bank) (g.B.Bank.trees c.step.new.bank) c.each.invariant.grows c.step.ensures.grows

pub returns-in_err-way-clause-grows : goal.returns-in_err-way-clause-grows
returns-in_err-way-clause-grows g c = Grows_trans (g.B.Bank.trees c.args.bank.now) (g.B.Bank.trees c.each.bank) (g.B.Bank.trees c.finish.new.bank) c.each.invariant.grows c.finish.ensures.grows

pub returns-clause-grows : goal.returns-clause-grows
returns-clause-grows g c = Grows_trans (g.B.Bank.trees c.args.bank.now) (g.B.Bank.trees c.each.bank) (g.B.Bank.trees c.finish.new.bank) c.each.invariant.grows c.finish.ensures.grows
