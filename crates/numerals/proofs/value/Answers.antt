use Rattle.std.proofs.Common.{arith}
use Rattle.numerals.proofs.Digits.{digit_at, front_is_small, value_more}
use Rattle.std.proofs.lemmas.Grind.{common_steps}
use Rattle.numerals.proofs.value.Goals as goal

pub overflow_mul-value : goal.overflow_mul-value
overflow_mul-value c =
    let small = front_is_small c.args.digits.now c.loop-digit.digit-index c.requires.all (omega arith) in
    omega (arith, small)

pub overflow_sub-digit : goal.overflow_sub-digit
overflow_sub-digit c = (digit_at c.args.digits.now c.loop-digit.digit-index c.requires.all (omega arith)).0

pub overflow_add-value : goal.overflow_add-value
overflow_add-value c =
    let small = front_is_small c.args.digits.now c.loop-digit.digit-index c.requires.all (omega arith) in
    let digit = digit_at c.args.digits.now c.loop-digit.digit-index c.requires.all (omega arith) in
    omega (arith, small, digit)

pub loop-digit-preserved : goal.loop-digit-preserved
loop-digit-preserved c =
    let next = value_more c.args.digits.now c.loop-digit.digit-index c.requires.all (omega arith) in
    grind (arith, next)

pub returns : goal.returns
returns c = grind (arith, common_steps)
