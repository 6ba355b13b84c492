use Rattle.std.proofs.Common.{◌≡◌, subst, sym, rules, arith}
use Rattle.std.specs.Fmt.{decimal}
use Rattle.hv_io.specs.Decimal.{IsDecimal}
use Rattle.hv_io.proofs.Spelling.{IsDecimal-decimal}
use Rattle.hv_io.proofs.text.decimal.Goals as goal

pub returns-clause-spelled : goal.returns-clause-spelled
returns-clause-spelled c =
    let printed : c.into_bytes.result.items ≡ decimal c.args.number = search rules in
    subst (IsDecimal c.args.number) (sym printed) (IsDecimal-decimal c.args.number (omega arith))
