use Rattle.std.proofs.Common.{◌∙◌, ◌+◌, nat_eq, flat_map, drop, ap, sym, arith}
use Rattle.std.specs.List.{list_any}
use Rattle.term_tree.specs.Bank.{symbol_of}
use Rattle.clause_form.proofs.Walks.{argument_at}
use Rattle.clause_diffs.proofs.Counting.{leaves_at, node_leaves}
use Rattle.clause_form.proofs.Noted.{any_on, any_past, any_here, any_later}
use Rattle.clause_form.proofs.standing.+stands_in_term.Goals as goal

pub stands_in_term-requires : goal.stands_in_term-requires
stands_in_term-requires g t c κs within =
    let at = argument_at (g.B.Bank.trees c.args.bank.now) c.args.id (symbol_of c.in-App.field-0) c.in-App.arguments.now c.each.argument-index record { index = 0 } c.in-App.ensures.0 c.in-App.ensures.1 c.each-test.true in
    (omega (arith, c.decreases, at.1), (within, at.0))

-- the leaves of the term are those of its arguments
pub each-init : goal.each-init
each-init g t c = ap (list_any (nat_eq c.args.number)) (node_leaves (g.B.Bank.trees c.args.bank.now) c.args.id (symbol_of c.in-App.field-0) c.in-App.arguments.now c.in-App.ensures.0)

pub returns-then-stands_in_term : goal.returns-then-stands_in_term
returns-then-stands_in_term g t c =
    let all = g.B.Bank.trees c.args.bank.now in
    let test = nat_eq c.args.number in
    let step = any_on test (leaves_at all) c.in-App.arguments.now c.each.argument-index record { index = 0 } c.each-test.true in
    any_here _ _ (list_any test (flat_map (leaves_at all) (drop (c.each.argument-index + 1) c.in-App.arguments.now))) (c.each.invariant ∙ step) (sym c.stands_in_term.ensures ∙ c.if-stands_in_term.true)

pub each-preserved : goal.each-preserved
each-preserved g t c =
    let all = g.B.Bank.trees c.args.bank.now in
    let test = nat_eq c.args.number in
    let step = any_on test (leaves_at all) c.in-App.arguments.now c.each.argument-index record { index = 0 } c.each-test.true in
    c.each.invariant ∙ any_later _ _ (list_any test (flat_map (leaves_at all) (drop (c.each.argument-index + 1) c.in-App.arguments.now))) step (sym c.stands_in_term.ensures ∙ c.if-stands_in_term.false)

pub returns-after-each : goal.returns-after-each
returns-after-each g t c = sym (c.each.invariant ∙ any_past (nat_eq c.args.number) (leaves_at (g.B.Bank.trees c.args.bank.now)) c.in-App.arguments.now c.each.argument-index c.each-test.false)
