use Rattle.std.proofs.Common.{◌<◌, length, ◌∙◌, sym, arith}
use Rattle.node_table.proofs.Known.{named_again}
use Rattle.node_table.proofs.recent.is_applied.Goals as goal

pub returns-then-is_same : goal.returns-then-is_same
returns-then-is_same c = λ so.
    let known : c.args.id.index < length c.args.bank.now = omega (arith, c.if-id-mark.false, c.mark.ensures) in
    named_again c.args.bank.now c.args.id c.in-App.found c.args.symbol c.in-App.ids.now c.args.args.now known (c.in-App.ensures.0) (c.is_same.ensures.0 (c.if-is_same.true)) (sym c.eq.ensures ∙ so)
