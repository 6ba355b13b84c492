use Rattle.std.proofs.Common.{◌<◌, ap, refl, arith, length}
use Rattle.std.proofs.lemmas.Grind.{common_steps}
use Rattle.std.proofs.lemmas.Bool.{false≢true}
use Rattle.term_tree.specs.Bank.{symbol_of}
use Rattle.term_tree.proofs.BankLaws.{symbol_of-injective, known-at}
use Rattle.term_tree.proofs.Comparing.{argument_smaller, comparing_begins, comparing_on, comparing_fails, comparing_ends, roots_differ}
use Rattle.term_tree.proofs.tree_bank.TreeBank.+is_same_tree.Goals as goal

pub returns-then-not-is_same : goal.returns-then-not-is_same
returns-then-not-is_same t c =
    let all = c.args.self.now in (
      λ h. absurd (false≢true h),
      λ e. c.if-not-is_same.ensures.1 (symbol_of-injective c.in-App.f c.in-App-node-2.g
          (roots_differ all c.args.left c.args.right (symbol_of c.in-App.f) (symbol_of c.in-App-node-2.g) c.in-App.xs.now c.in-App-node-2.ys.now c.in-App.ensures.0 c.in-App-node-2.ensures.0 e).0),
    )

pub returns-then-xs-ys : goal.returns-then-xs-ys
returns-then-xs-ys t c =
    let all = c.args.self.now in (
      λ h. absurd (false≢true h),
      λ e. let even = (roots_differ all c.args.left c.args.right (symbol_of c.in-App.f) (symbol_of c.in-App-node-2.g) c.in-App.xs.now c.in-App-node-2.ys.now c.in-App.ensures.0 c.in-App-node-2.ensures.0 e).1 in
          absurd (omega (arith, even, c.if-xs-ys.true)),
    )

pub each-init : goal.each-init
each-init t c = comparing_begins c.args.self.now c.args.left (symbol_of c.in-App.f) c.in-App.xs.now c.in-App-node-2.ys.now c.in-App.ensures.0 c.in-App.ensures.1 c.in-App-node-2.ensures.1

pub is_same_tree-requires : goal.is_same_tree-requires
is_same_tree-requires t c =
    let all = c.args.self.now in
    let was = c.each.invariant in
    let even : c.each.i < length c.in-App-node-2.ys.now = omega (arith, c.each-test.true, c.if-xs-ys.false) in
    let left = known-at all c.in-App.xs.now c.each.i record { index = 0 } c.each-test.true was.lefts in
    let right = known-at all c.in-App-node-2.ys.now c.each.i record { index = 0 } even was.rights in
    let smaller = argument_smaller all c.args.left c.in-App.xs.now c.in-App-node-2.ys.now c.each.i record { index = 0 } was c.each-test.true in
    (omega (arith, smaller), (left.0, right.0))

pub returns-then-not-is_same_tree : goal.returns-then-not-is_same_tree
returns-then-not-is_same_tree t c =
    let all = c.args.self.now in
    let even : c.each.i < length c.in-App-node-2.ys.now = omega (arith, c.each-test.true, c.if-xs-ys.false) in (
      λ h. absurd (false≢true h),
      λ e. absurd (comparing_fails all c.args.left c.args.left c.args.right (symbol_of c.in-App.f) (symbol_of c.in-App-node-2.g) c.in-App.xs.now c.in-App-node-2.ys.now c.each.i record { index = 0 }
          c.in-App.ensures.0 c.in-App-node-2.ensures.0 c.each.invariant c.each-test.true even (λ same. false≢true (c.if-not-is_same_tree.ensures.1 same)) e),
    )

pub each-preserved : goal.each-preserved
each-preserved t c =
    let all = c.args.self.now in
    let even : c.each.i < length c.in-App-node-2.ys.now = omega (arith, c.each-test.true, c.if-xs-ys.false) in
    comparing_on all c.args.left c.in-App.xs.now c.in-App-node-2.ys.now c.each.i record { index = 0 } c.each.invariant c.each-test.true even (c.if-not-is_same_tree.ensures.0 refl)

pub returns-after-each : goal.returns-after-each
returns-after-each t c =
    let all = c.args.self.now in (
      λ h. comparing_ends all c.args.left c.args.left c.args.right (symbol_of c.in-App.f) (symbol_of c.in-App-node-2.g) c.in-App.xs.now c.in-App-node-2.ys.now c.each.i
          c.in-App.ensures.0 c.in-App-node-2.ensures.0 (ap symbol_of (c.if-not-is_same.ensures.0 refl)) (omega (arith, c.if-xs-ys.false)) c.each.invariant c.each-test.false,
      λ e. refl,
    )

pub returns-in-App-node : goal.returns-in-App-node
returns-in-App-node t c = grind (arith, common_steps)

pub returns-in-Var-node-2 : goal.returns-in-Var-node-2
returns-in-Var-node-2 t c = grind (arith, common_steps)

pub returns-in-Var-node : goal.returns-in-Var-node
returns-in-Var-node t c = grind (arith, common_steps)

pub returns-then-left-right : goal.returns-then-left-right
returns-then-left-right t c = grind (arith, common_steps)
