use Rattle.std.proofs.Common.{◌∙◌, ap, sym, arith}
use Rattle.std.proofs.lemmas.Grind.{common_steps}
use Rattle.spec_clauses.specs.Diff.{same_sides}
use Rattle.term_tree.specs.Bank.{symbol_of}
use Rattle.clause_diffs.specs.Diffs.{sides_at}
use Rattle.clause_diffs.proofs.Walks.{known_at, argument_at}
use Rattle.clause_diffs.proofs.Comparing.{other_lengths, same_symbols, sides_fail, sides_end}
use Rattle.clause_diffs.proofs.same.+is_same_side.Goals as goal

pub returns-then-xs-ys : goal.returns-then-xs-ys
returns-then-xs-ys g t c =
    other_lengths (g.B.Bank.trees c.args.bank.now) c.args.first c.args.other c.args.left c.args.right (symbol_of c.in-App-App.f) (symbol_of c.in-App-App.g) c.in-App-App.xs.now c.in-App-App.ys.now c.in-App-App.ensures.0 c.in-App-App.ensures'.0
    (λ e. absurd (omega (arith, e, c.if-xs-ys.true)))

pub is_same_side-requires : goal.is_same_side-requires
is_same_side-requires g t c κs within =
    let all = g.B.Bank.trees c.args.bank.now in
    let at = argument_at all c.args.left (symbol_of c.in-App-App.f) c.in-App-App.xs.now c.each.i record { index = 0 } c.in-App-App.ensures.0 c.in-App-App.ensures.1 c.each-test.true in
    (omega (arith, c.decreases, at.1), (within, (at.0, known_at all c.in-App-App.ys.now c.each.i record { index = 0 } c.in-App-App.ensures'.1 (omega (arith, c.each-test.true, c.if-xs-ys.false)))))

pub returns-then-not-is_same_side : goal.returns-then-not-is_same_side
returns-then-not-is_same_side g t c =
    let all = g.B.Bank.trees c.args.bank.now in
    let xs = c.in-App-App.xs.now in
    let ys = c.in-App-App.ys.now in
    let whole = same_sides (sides_at all c.args.first xs) (sides_at all c.args.other ys) in
    same_symbols all c.args.first c.args.other c.args.left c.args.right (symbol_of c.in-App-App.f) (symbol_of c.in-App-App.g) xs ys _ c.in-App-App.ensures.0 c.in-App-App.ensures'.0 (ap symbol_of (c.is_same.ensures.0 c.if-not-is_same.false))
    (sides_fail all c.args.first c.args.other xs ys c.each.i record { index = 0 } whole c.each.invariant c.each-test.true (omega (arith, c.each-test.true, c.if-xs-ys.false)) (sym c.is_same_side.ensures ∙ c.if-not-is_same_side.true))

pub returns-after-each : goal.returns-after-each
returns-after-each g t c =
    let all = g.B.Bank.trees c.args.bank.now in
    let xs = c.in-App-App.xs.now in
    let ys = c.in-App-App.ys.now in
    let whole = same_sides (sides_at all c.args.first xs) (sides_at all c.args.other ys) in
    same_symbols all c.args.first c.args.other c.args.left c.args.right (symbol_of c.in-App-App.f) (symbol_of c.in-App-App.g) xs ys _ c.in-App-App.ensures.0 c.in-App-App.ensures'.0 (ap symbol_of (c.is_same.ensures.0 c.if-not-is_same.false))
    (sides_end all c.args.first c.args.other xs ys c.each.i whole c.each.invariant c.each-test.false (omega (arith, c.each-test.false, c.if-xs-ys.false)))

pub each-preserved : goal.each-preserved
each-preserved g t c = grind (arith, common_steps)

pub offset_bounds-ys-i : goal.offset_bounds-ys-i
offset_bounds-ys-i g t c = grind (arith, common_steps)
