use Rattle.std.proofs.Common.{◌≡◌, ◌-◌, length, map, ap, ◌∙◌, arith}
use Rattle.pi_tree.specs.Values.{value_of}
use Rattle.term_values.proofs.Stacks.{top_taken, rest_left}
use Rattle.term_values.proofs.searching.taken.Goals as goal

pub returns-clause-top : goal.returns-clause-top
returns-clause-top c =
    let below : c.saturating_sub-at.result ≡ length c.stack.inside.items.items - c.args.count = omega arith in
    ap (map value_of) c.in_ok-items.ensures.tail ∙ top_taken c.stack.inside.items.items c.args.stack.now c.args.count c.saturating_sub-at.result c.stack.view_is below

pub returns-clause-rest : goal.returns-clause-rest
returns-clause-rest c =
    let below : c.saturating_sub-at.result ≡ length c.stack.inside.items.items - c.args.count = omega arith in
    ap (map value_of) c.in_ok-items.ensures.items ∙ rest_left c.stack.inside.items.items c.args.stack.now c.args.count c.saturating_sub-at.result c.stack.view_is below
