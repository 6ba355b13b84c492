use Rattle.std.proofs.Common.{◌≡◌, true, ◌-◌, arith}
use Rattle.std.proofs.lemmas.Grind.{common_steps}
use Rattle.spec_terms.specs.Term.{is_ground}
use Rattle.spec_terms.specs.Binding.{resolved}
use Rattle.spec_terms.specs.Rank.{ranks}
use Rattle.term_tree.specs.Bank.{symbol_of, tree_at}
use Rattle.term_tree.proofs.BankLaws.{known-at}
use Rattle.unify_match.specs.Seen.{seen}
use Rattle.unify_match.proofs.Walking.{height-at}
use Rattle.unify_match.proofs.Applying.{counting_begins, counted_variable, symbols_of_ground}
use Rattle.unify_match.proofs.apply.+spare.Goals as goal

pub returns-then-most-symbols : goal.returns-then-most-symbols
returns-then-most-symbols g t c =
    let all = g.B.Bank.trees c.args.bank.now in
    let term = tree_at all c.args.id in
    let ground : is_ground term ≡ true = cc in
    let counted = symbols_of_ground (resolved (seen all c.args.binds.now.pairs)) term c.size-symbols.result c.size-symbols.ensures c.if-symbols-lt-SIZE_LIMIT.true ground in
    omega (arith, counted, c.if-most-symbols.true)

pub returns-then-is_ground : goal.returns-then-is_ground
returns-then-is_ground g t c =
    let all = g.B.Bank.trees c.args.bank.now in
    let term = tree_at all c.args.id in
    let ground : is_ground term ≡ true = cc in
    let counted = symbols_of_ground (resolved (seen all c.args.binds.now.pairs)) term c.size-symbols.result c.size-symbols.ensures c.if-symbols-lt-SIZE_LIMIT.true ground in
    omega (arith, counted, c.if-most-symbols.false)

pub each-init : goal.each-init
each-init g t c =
    counting_begins (g.B.Bank.trees c.args.bank.now) c.args.binds.now.pairs c.args.id c.walk-end.result c.args.most (symbol_of c.in-App.field-0) c.in-App.args.now (c.args.most - 1)
    c.requires.ready c.walk-end.ensures c.in-App.ensures.0 c.in-App.ensures.1 (omega arith)

pub spare-requires : goal.spare-requires
spare-requires g t c κs within =
    let all = g.B.Bank.trees c.args.bank.now in
    let at = height-at (ranks (seen all c.args.binds.now.pairs)) all c.in-App.args.now c.each.arg-index record { index = 0 } c.each-test.true in
    let known = known-at all c.in-App.args.now c.each.arg-index record { index = 0 } c.each-test.true c.each.invariant.known in
    (omega (arith, c.decreases, at.0, c.each.invariant.lower), (within, (known.0, c.requires.ready)))

pub returns-in-Var : goal.returns-in-Var
returns-in-Var g t c =
    counted_variable (g.B.Bank.trees c.args.bank.now) c.args.binds.now.pairs c.args.id c.walk-end.result c.args.most (c.args.most - 1) _ c.requires.ready c.walk-end.ensures c.in-Var.ensures (omega arith)

pub returns-in_err-left-in-App : goal.returns-in_err-left-in-App
returns-in_err-left-in-App g t c = grind (arith, common_steps)

pub each-preserved : goal.each-preserved
each-preserved g t c = grind (arith, common_steps)

pub returns-after-each : goal.returns-after-each
returns-after-each g t c = grind (arith, common_steps)
