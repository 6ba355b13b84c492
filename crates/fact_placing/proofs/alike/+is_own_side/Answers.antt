use Rattle.std.proofs.Common.{◌∙◌, ap, sym, arith}
use Rattle.std.proofs.lemmas.Bool.{false≢true}
use Rattle.spec_clauses.specs.Diff.{same_sides}
use Rattle.term_tree.specs.Bank.{symbol_of}
use Rattle.term_tree.proofs.BankLaws.{symbol_of-injective}
use Rattle.clause_diffs.specs.Diffs.{sides_at}
use Rattle.clause_diffs.proofs.Walks.{known_at, argument_at}
use Rattle.fact_placing.specs.Matched.{own_sides}
use Rattle.clause_diffs.proofs.Alike.{as_own, as_shown, alike_fail, alike_on, alike_end, other_symbols_apart, other_lengths_apart, same_symbols_alike}
use Rattle.fact_placing.proofs.alike.+is_own_side.Goals as goal

pub returns-then-not-is_same : goal.returns-then-not-is_same
returns-then-not-is_same g t c =
    other_symbols_apart (g.B.Bank.trees c.args.bank.now) as_own (as_shown c.args.other) c.args.left c.args.right (symbol_of c.in-App-App.f) (symbol_of c.in-App-App.g) c.in-App-App.xs.now c.in-App-App.ys.now c.in-App-App.ensures.0 c.in-App-App.ensures'.0
    (λ e. false≢true (c.if-not-is_same.ensures.1 (symbol_of-injective c.in-App-App.f c.in-App-App.g e)))

pub returns-then-xs-ys : goal.returns-then-xs-ys
returns-then-xs-ys g t c =
    other_lengths_apart (g.B.Bank.trees c.args.bank.now) as_own (as_shown c.args.other) c.args.left c.args.right (symbol_of c.in-App-App.f) (symbol_of c.in-App-App.g) c.in-App-App.xs.now c.in-App-App.ys.now c.in-App-App.ensures.0 c.in-App-App.ensures'.0
    (λ e. absurd (omega (arith, e, c.if-xs-ys.true)))

pub is_own_side-requires : goal.is_own_side-requires
is_own_side-requires g t c κs within =
    let all = g.B.Bank.trees c.args.bank.now in
    let at = argument_at all c.args.left (symbol_of c.in-App-App.f) c.in-App-App.xs.now c.each.i record { index = 0 } c.in-App-App.ensures.0 c.in-App-App.ensures.1 c.each-test.true in
    (omega (arith, c.decreases, at.1), (within, (at.0, known_at all c.in-App-App.ys.now c.each.i record { index = 0 } c.in-App-App.ensures'.1 (omega (arith, c.each-test.true, c.if-xs-ys.false)))))

pub returns-then-not-is_own_side : goal.returns-then-not-is_own_side
returns-then-not-is_own_side g t c =
    let all = g.B.Bank.trees c.args.bank.now in
    let xs = c.in-App-App.xs.now in
    let ys = c.in-App-App.ys.now in
    let whole = same_sides (own_sides all xs) (sides_at all c.args.other ys) in
    same_symbols_alike all as_own (as_shown c.args.other) c.args.left c.args.right (symbol_of c.in-App-App.f) (symbol_of c.in-App-App.g) xs ys c.in-App-App.ensures.0 c.in-App-App.ensures'.0 _ (ap symbol_of (c.is_same.ensures.0 c.if-not-is_same.false))
    (alike_fail all as_own (as_shown c.args.other) xs ys c.each.i record { index = 0 } whole c.each.invariant c.each-test.true (omega (arith, c.each-test.true, c.if-xs-ys.false)) (sym c.is_own_side.ensures ∙ c.if-not-is_own_side.true))

pub each-preserved : goal.each-preserved
each-preserved g t c =
    let all = g.B.Bank.trees c.args.bank.now in
    let xs = c.in-App-App.xs.now in
    let ys = c.in-App-App.ys.now in
    let whole = same_sides (own_sides all xs) (sides_at all c.args.other ys) in
    alike_on all as_own (as_shown c.args.other) xs ys c.each.i record { index = 0 } whole c.each.invariant c.each-test.true (omega (arith, c.each-test.true, c.if-xs-ys.false)) (sym c.is_own_side.ensures ∙ c.if-not-is_own_side.false)

pub returns-after-each : goal.returns-after-each
returns-after-each g t c =
    let all = g.B.Bank.trees c.args.bank.now in
    let xs = c.in-App-App.xs.now in
    let ys = c.in-App-App.ys.now in
    let whole = same_sides (own_sides all xs) (sides_at all c.args.other ys) in
    same_symbols_alike all as_own (as_shown c.args.other) c.args.left c.args.right (symbol_of c.in-App-App.f) (symbol_of c.in-App-App.g) xs ys c.in-App-App.ensures.0 c.in-App-App.ensures'.0 _ (ap symbol_of (c.is_same.ensures.0 c.if-not-is_same.false))
    (alike_end all as_own (as_shown c.args.other) xs ys c.each.i whole c.each.invariant c.each-test.false (omega (arith, c.each-test.false, c.if-xs-ys.false)))
