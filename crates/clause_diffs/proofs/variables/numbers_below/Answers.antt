use Rattle.std.proofs.Common.{◌∙◌, nat_lt, filter, ap}
use Rattle.std.proofs.lemmas.List.{take_all}
use Rattle.clause_diffs.proofs.Shown.{kept_more}
use Rattle.clause_diffs.proofs.variables.numbers_below.Goals as goal

pub loop-number-preserved : goal.loop-number-preserved
loop-number-preserved c = kept_more (λ x. nat_lt x c.args.first) c.args.numbers.now c.loop-number.number-index 0 c.loop-number.kept.items c.add_if.new.numbers.items c.loop-number-test.true c.loop-number.invariant c.in_ok-add_if.ensures

pub returns : goal.returns
returns c = c.loop-number.invariant ∙ ap (filter (λ x. nat_lt x c.args.first)) (take_all c.loop-number.number-index c.args.numbers.now c.loop-number-test.false)
