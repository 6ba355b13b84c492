use Rattle.std.proofs.Common.{◌∙◌, ap, sym, arith}
use Rattle.std.proofs.lemmas.Bool.{false≢true}
use Rattle.spec_clauses.specs.Diff.{same_sides}
use Rattle.term_tree.specs.Bank.{symbol_of}
use Rattle.term_tree.proofs.BankLaws.{symbol_of-injective}
use Rattle.clause_diffs.specs.Diffs.{sides_at}
use Rattle.clause_diffs.proofs.Walks.{known_at, argument_at}
use Rattle.fact_placing.specs.Matched.{slot_matched, sides_matched}
use Rattle.clause_diffs.proofs.Alike.{as_shown, alike_fail, alike_on, alike_end, other_symbols_apart, other_lengths_apart, same_symbols_alike}
use Rattle.fact_placing.proofs.alike.+is_side_under.Goals as goal

pub returns-then-not-is_same : goal.returns-then-not-is_same
returns-then-not-is_same g t c =
    let all = g.B.Bank.trees c.args.from.now.bank.now in
    let pairs = c.args.from.now.binds.now.pairs in
    let first = c.args.from.now.first in
    other_symbols_apart all (slot_matched all pairs first) (as_shown c.args.other) c.args.left c.args.right (symbol_of c.in-App-App.f) (symbol_of c.in-App-App.g) c.in-App-App.xs.now c.in-App-App.ys.now c.in-App-App.ensures.0 c.in-App-App.ensures'.0
    (λ e. false≢true (c.if-not-is_same.ensures.1 (symbol_of-injective c.in-App-App.f c.in-App-App.g e)))

pub returns-then-xs-ys : goal.returns-then-xs-ys
returns-then-xs-ys g t c =
    let all = g.B.Bank.trees c.args.from.now.bank.now in
    let pairs = c.args.from.now.binds.now.pairs in
    let first = c.args.from.now.first in
    other_lengths_apart all (slot_matched all pairs first) (as_shown c.args.other) c.args.left c.args.right (symbol_of c.in-App-App.f) (symbol_of c.in-App-App.g) c.in-App-App.xs.now c.in-App-App.ys.now c.in-App-App.ensures.0 c.in-App-App.ensures'.0
    (λ e. absurd (omega (arith, e, c.if-xs-ys.true)))

pub is_side_under-requires : goal.is_side_under-requires
is_side_under-requires g t c κs within =
    let all = g.B.Bank.trees c.args.from.now.bank.now in
    let at = argument_at all c.args.left (symbol_of c.in-App-App.f) c.in-App-App.xs.now c.each.i record { index = 0 } c.in-App-App.ensures.0 c.in-App-App.ensures.1 c.each-test.true in
    (omega (arith, c.decreases, at.1), (within, (at.0, (known_at all c.in-App-App.ys.now c.each.i record { index = 0 } c.in-App-App.ensures'.1 (omega (arith, c.each-test.true, c.if-xs-ys.false)), c.requires.bindings))))

pub returns-then-not-is_side_under : goal.returns-then-not-is_side_under
returns-then-not-is_side_under g t c =
    let all = g.B.Bank.trees c.args.from.now.bank.now in
    let pairs = c.args.from.now.binds.now.pairs in
    let first = c.args.from.now.first in
    let xs = c.in-App-App.xs.now in
    let ys = c.in-App-App.ys.now in
    let whole = same_sides (sides_matched all pairs first xs) (sides_at all c.args.other ys) in
    same_symbols_alike all (slot_matched all pairs first) (as_shown c.args.other) c.args.left c.args.right (symbol_of c.in-App-App.f) (symbol_of c.in-App-App.g) xs ys c.in-App-App.ensures.0 c.in-App-App.ensures'.0 _ (ap symbol_of (c.is_same.ensures.0 c.if-not-is_same.false))
    (alike_fail all (slot_matched all pairs first) (as_shown c.args.other) xs ys c.each.i record { index = 0 } whole c.each.invariant c.each-test.true (omega (arith, c.each-test.true, c.if-xs-ys.false)) (sym c.is_side_under.ensures ∙ c.if-not-is_side_under.true))

pub each-preserved : goal.each-preserved
each-preserved g t c =
    let all = g.B.Bank.trees c.args.from.now.bank.now in
    let pairs = c.args.from.now.binds.now.pairs in
    let first = c.args.from.now.first in
    let xs = c.in-App-App.xs.now in
    let ys = c.in-App-App.ys.now in
    let whole = same_sides (sides_matched all pairs first xs) (sides_at all c.args.other ys) in
    alike_on all (slot_matched all pairs first) (as_shown c.args.other) xs ys c.each.i record { index = 0 } whole c.each.invariant c.each-test.true (omega (arith, c.each-test.true, c.if-xs-ys.false)) (sym c.is_side_under.ensures ∙ c.if-not-is_side_under.false)

pub returns-after-each : goal.returns-after-each
returns-after-each g t c =
    let all = g.B.Bank.trees c.args.from.now.bank.now in
    let pairs = c.args.from.now.binds.now.pairs in
    let first = c.args.from.now.first in
    let xs = c.in-App-App.xs.now in
    let ys = c.in-App-App.ys.now in
    let whole = same_sides (sides_matched all pairs first xs) (sides_at all c.args.other ys) in
    same_symbols_alike all (slot_matched all pairs first) (as_shown c.args.other) c.args.left c.args.right (symbol_of c.in-App-App.f) (symbol_of c.in-App-App.g) xs ys c.in-App-App.ensures.0 c.in-App-App.ensures'.0 _ (ap symbol_of (c.is_same.ensures.0 c.if-not-is_same.false))
    (alike_end all (slot_matched all pairs first) (as_shown c.args.other) xs ys c.each.i whole c.each.invariant c.each-test.false (omega (arith, c.each-test.false, c.if-xs-ys.false)))
