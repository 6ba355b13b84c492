use Rattle.spec_run_text.proofs.Numbers.{numerals_are_decimal}
use Rattle.spec_run_text.proofs.numerals_are_decimal.Goals as goal

pub returns : goal.returns
returns c = numerals_are_decimal
