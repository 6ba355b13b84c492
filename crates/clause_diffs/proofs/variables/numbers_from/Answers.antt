use Rattle.std.proofs.Common.{◌∙◌, ◌-◌, not, nat_lt, map, filter, ap}
use Rattle.std.proofs.lemmas.List.{take_all}
use Rattle.clause_diffs.proofs.Shown.{from_more}
use Rattle.clause_diffs.proofs.variables.numbers_from.Goals as goal

pub loop-number-preserved : goal.loop-number-preserved
loop-number-preserved c = from_more c.args.first c.args.numbers.now c.loop-number.number-index 0 c.loop-number.kept.items c.add_from.new.numbers.items c.loop-number-test.true c.loop-number.invariant c.in_ok-add_from.ensures

pub returns : goal.returns
returns c = c.loop-number.invariant ∙ ap (λ xs. map (λ x. x - c.args.first) (filter (λ x. not (nat_lt x c.args.first)) xs)) (take_all c.loop-number.number-index c.args.numbers.now c.loop-number-test.false)
