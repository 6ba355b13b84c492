use Rattle.std.proofs.Common.{◌≡◌, true, ◌<◌, ap, subst, arith, length, get_or}
use Rattle.std.proofs.lemmas.Grind.{common_steps}
use Rattle.std.proofs.lemmas.Bool.{MatchBool-at_true, MatchBool-at_false, false≢true}
use Rattle.spec_terms.specs.Term.{is_ground}
use Rattle.spec_terms.specs.Rank.{height, ranks}
use Rattle.term_tree.specs.Bank.{tree_at, symbol_of, IsNodeOf}
use Rattle.term_tree.specs.declared.bank.Node.{Node}
use Rattle.term_tree.proofs.BankLaws.{symbol_of-injective, known-at}
use Rattle.unify_match.specs.Seen.{seen}
use Rattle.unify_match.proofs.Walking.{args-lower, height-at}
use Rattle.unify_match.proofs.Effort.{effort-falls, Grown-trans}
use Rattle.unify_match.proofs.Unifying.{solutions_walked, failure_walked, ground_unified, solutions_same, going_begins, going_on, going_fails, going_ends, applications_fail, AreMade-extends, AreMade-pass, variable_left, variable_right}
use Rattle.unify_match.proofs.unification.+unify_from.Goals as goal

pub returns-then-is_ground-2-clause-outcome : goal.returns-then-is_ground-2-clause-outcome
returns-then-is_ground-2-clause-outcome g t c =
    let all = g.B.Bank.trees c.args.bank.now in
    let ground_a : is_ground (tree_at all c.walk-a.result) ≡ true = cc in
    let ground_b : is_ground (tree_at all c.walk-b.result) ≡ true = cc in
    ground_unified all c.args.binds.now.pairs c.args.left c.args.right c.walk-a.result c.walk-b.result c.same.result c.walk-a.ensures c.walk-b.ensures ground_a ground_b c.same.ensures

pub returns-then-has-clause-outcome : goal.returns-then-has-clause-outcome
returns-then-has-clause-outcome g t c =
    let all = g.B.Bank.trees c.args.bank.now in
    let old = c.args.binds.now.pairs in
    solutions_walked all old old c.args.left c.args.right c.walk-a.result c.walk-b.result c.walk-a.ensures c.walk-b.ensures
    (solutions_same all old (tree_at all c.walk-a.result) (tree_at all c.walk-b.result) (λ s solves. c.requires.made (c.walk-a.result.index, c.walk-b.result.index) (c.has.ensures c.if-has.true) s solves))

pub returns-then-not-is_same-clause-outcome : goal.returns-then-not-is_same-clause-outcome
returns-then-not-is_same-clause-outcome g t c =
    let all = g.B.Bank.trees c.args.bank.now in
    let old = c.args.binds.now.pairs in
    failure_walked all old c.args.left c.args.right c.walk-a.result c.walk-b.result c.walk-a.ensures c.walk-b.ensures
    (applications_fail all old c.walk-a.result c.walk-b.result (symbol_of c.in-App-App.f) (symbol_of c.in-App-App.g) c.in-App-App.xs.now c.in-App-App.ys.now c.in-App-App.ensures.0 c.in-App-App.ensures'.0
    (λ s solves parts. false≢true (c.if-not-is_same.ensures.1 (symbol_of-injective c.in-App-App.f c.in-App-App.g parts.0))))

pub returns-then-xs-ys-clause-outcome : goal.returns-then-xs-ys-clause-outcome
returns-then-xs-ys-clause-outcome g t c =
    let all = g.B.Bank.trees c.args.bank.now in
    let old = c.args.binds.now.pairs in
    failure_walked all old c.args.left c.args.right c.walk-a.result c.walk-b.result c.walk-a.ensures c.walk-b.ensures
    (applications_fail all old c.walk-a.result c.walk-b.result (symbol_of c.in-App-App.f) (symbol_of c.in-App-App.g) c.in-App-App.xs.now c.in-App-App.ys.now c.in-App-App.ensures.0 c.in-App-App.ensures'.0
    (λ s solves parts. absurd (omega (arith, parts.2, c.if-xs-ys.true))))

pub each-init : goal.each-init
each-init g t c =
    let all = g.B.Bank.trees c.args.bank.now in
    let old = c.args.binds.now.pairs in
    let below = args-lower (ranks (seen all old)) all c.walk-a.result (symbol_of c.in-App-App.f) c.in-App-App.xs.now c.in-App-App.ensures.0 in
    going_begins all old c.args.made.now (height (ranks (seen all old)) (tree_at all c.args.left)) c.in-App-App.xs.now c.in-App-App.ys.now c.requires.ready c.requires.made c.in-App-App.ensures.1 c.in-App-App.ensures'.1
    (omega (arith, below, c.walk-a.ensures.lower))

pub unify_from-requires : goal.unify_from-requires
unify_from-requires g t c κs within =
    let all = g.B.Bank.trees c.args.bank.now in
    let old = c.args.binds.now.pairs in
    let now = c.each.binds.pairs in
    let was = c.each.invariant in
    let even : c.each.i < length c.in-App-App.ys.now = omega (arith, c.each-test.true, c.if-xs-ys.false) in
    let left = known-at all c.in-App-App.xs.now c.each.i record { index = 0 } c.each-test.true was.lefts in
    let right = known-at all c.in-App-App.ys.now c.each.i record { index = 0 } even was.rights in
    let at = height-at (ranks (seen all old)) all c.in-App-App.xs.now c.each.i record { index = 0 } c.each-test.true in
    let falls = effort-falls all old now (get_or c.in-App-App.xs.now c.each.i record { index = 0 }) (tree_at all c.args.left) was.ready.known was.grown left.0 (omega (arith, at.0, was.lower)) in
    (omega (arith, c.decreases, falls), (within, (left.0, (right.0, (was.ready, was.made)))))

pub returns-in_err-unify_from-in-App-App-clause-grown : goal.returns-in_err-unify_from-in-App-App-clause-grown
returns-in_err-unify_from-in-App-App-clause-grown g t c = Grown-trans (g.B.Bank.trees c.args.bank.now) c.args.binds.now.pairs c.each.binds.pairs c.unify_from.new.binds.pairs c.each.invariant.grown c.unify_from.ensures.grown

pub returns-then-not-branch-clause-grown : goal.returns-then-not-branch-clause-grown
returns-then-not-branch-clause-grown g t c = Grown-trans (g.B.Bank.trees c.args.bank.now) c.args.binds.now.pairs c.each.binds.pairs c.unify_from.new.binds.pairs c.each.invariant.grown c.unify_from.ensures.grown

pub returns-then-not-branch-clause-outcome : goal.returns-then-not-branch-clause-outcome
returns-then-not-branch-clause-outcome g t c =
    let all = g.B.Bank.trees c.args.bank.now in
    let old = c.args.binds.now.pairs in
    let xs = c.in-App-App.xs.now in
    let ys = c.in-App-App.ys.now in
    let even : c.each.i < length ys = omega (arith, c.each-test.true, c.if-xs-ys.false) in
    let never = MatchBool-at_false _ _ c.if-not-branch.true c.in_ok-unify_from-in-App-App.ensures.outcome in
    failure_walked all old c.args.left c.args.right c.walk-a.result c.walk-b.result c.walk-a.ensures c.walk-b.ensures
    (going_fails all old c.each.binds.pairs c.each.made (height (ranks (seen all old)) (tree_at all c.args.left)) c.walk-a.result c.walk-b.result (symbol_of c.in-App-App.f) (symbol_of c.in-App-App.g) xs ys c.each.i record { index = 0 }
    c.in-App-App.ensures.0 c.in-App-App.ensures'.0 c.each.invariant c.each-test.true even never)

pub each-preserved : goal.each-preserved
each-preserved g t c =
    let all = g.B.Bank.trees c.args.bank.now in
    let old = c.args.binds.now.pairs in
    let xs = c.in-App-App.xs.now in
    let ys = c.in-App-App.ys.now in
    let even : c.each.i < length ys = omega (arith, c.each-test.true, c.if-xs-ys.false) in
    let made_one = MatchBool-at_true _ _ c.if-not-branch.false c.in_ok-unify_from-in-App-App.ensures.outcome in
    going_on all old c.each.binds.pairs c.unify_from.new.binds.pairs c.each.made c.unify_from.new.made (height (ranks (seen all old)) (tree_at all c.args.left)) xs ys c.each.i record { index = 0 } c.each.invariant c.each-test.true even
    c.unify_from.ensures.ready c.unify_from.ensures.made c.unify_from.ensures.grown made_one

pub returns-in-Var-default-clause-made : goal.returns-in-Var-default-clause-made
returns-in-Var-default-clause-made g t c = AreMade-extends (g.B.Bank.trees c.args.bank.now) c.args.binds.now.pairs c.bind_apart.new.binds.pairs c.args.made.now c.bind_apart.ensures.grown.extends c.requires.made

pub returns-in-Var-default-clause-outcome : goal.returns-in-Var-default-clause-outcome
returns-in-Var-default-clause-outcome g t c =
    let all = g.B.Bank.trees c.args.bank.now in
    let is = subst (λ (n : Node). IsNodeOf all n (tree_at all c.walk-a.result)) c.in-Var-default.is-0 c.node.ensures in
    variable_left all c.args.binds.now.pairs c.bind_apart.new.binds.pairs c.args.left c.args.right c.walk-a.result c.walk-b.result c.in-Var-default.x _ c.bind_apart.result c.walk-a.ensures c.walk-b.ensures is c.bind_apart.ensures.outcome (cc c.in-Var-default.x-is)

pub returns-in_default-Var-clause-made : goal.returns-in_default-Var-clause-made
returns-in_default-Var-clause-made g t c = AreMade-extends (g.B.Bank.trees c.args.bank.now) c.args.binds.now.pairs c.bind_apart-in_default-Var.new.binds.pairs c.args.made.now c.bind_apart-in_default-Var.ensures.grown.extends c.requires.made

pub returns-in_default-Var-clause-outcome : goal.returns-in_default-Var-clause-outcome
returns-in_default-Var-clause-outcome g t c =
    let all = g.B.Bank.trees c.args.bank.now in
    variable_right all c.args.binds.now.pairs c.bind_apart-in_default-Var.new.binds.pairs c.args.left c.args.right c.walk-a.result c.walk-b.result c.in_default-Var.y c.bind_apart-in_default-Var.result c.walk-a.ensures c.walk-b.ensures c.in_default-Var.ensures c.bind_apart-in_default-Var.ensures.outcome

pub returns-in_ok-pass-in-App-App-clause-made : goal.returns-in_ok-pass-in-App-App-clause-made
returns-in_ok-pass-in-App-App-clause-made g t c =
    let all = g.B.Bank.trees c.args.bank.now in
    let ends = going_ends all c.args.binds.now.pairs c.each.binds.pairs c.each.made (height (ranks (seen all c.args.binds.now.pairs)) (tree_at all c.args.left)) c.walk-a.result c.walk-b.result (symbol_of c.in-App-App.f) (symbol_of c.in-App-App.g) c.in-App-App.xs.now c.in-App-App.ys.now c.each.i
    c.in-App-App.ensures.0 c.in-App-App.ensures'.0 (ap symbol_of (c.is_same.ensures.0 c.if-not-is_same.false)) (omega (arith, c.if-xs-ys.false)) c.each.invariant c.each-test.false in
    AreMade-pass all c.each.binds.pairs c.each.made c.pass.new.self c.walk-a.result c.walk-b.result c.each.invariant.made (λ s solves. ((ends s).0 solves).1) c.pass.ensures

pub returns-in_err-pass-in-App-App-clause-made : goal.returns-in_err-pass-in-App-App-clause-made
returns-in_err-pass-in-App-App-clause-made g t c =
    let all = g.B.Bank.trees c.args.bank.now in
    let ends = going_ends all c.args.binds.now.pairs c.each.binds.pairs c.each.made (height (ranks (seen all c.args.binds.now.pairs)) (tree_at all c.args.left)) c.walk-a.result c.walk-b.result (symbol_of c.in-App-App.f) (symbol_of c.in-App-App.g) c.in-App-App.xs.now c.in-App-App.ys.now c.each.i
    c.in-App-App.ensures.0 c.in-App-App.ensures'.0 (ap symbol_of (c.is_same.ensures.0 c.if-not-is_same.false)) (omega (arith, c.if-xs-ys.false)) c.each.invariant c.each-test.false in
    AreMade-pass all c.each.binds.pairs c.each.made c.pass.new.self c.walk-a.result c.walk-b.result c.each.invariant.made (λ s solves. ((ends s).0 solves).1) c.pass.ensures

pub returns-in_ok-pass-in-App-App-clause-outcome : goal.returns-in_ok-pass-in-App-App-clause-outcome
returns-in_ok-pass-in-App-App-clause-outcome g t c =
    let all = g.B.Bank.trees c.args.bank.now in
    solutions_walked all c.args.binds.now.pairs c.each.binds.pairs c.args.left c.args.right c.walk-a.result c.walk-b.result c.walk-a.ensures c.walk-b.ensures
    (going_ends all c.args.binds.now.pairs c.each.binds.pairs c.each.made (height (ranks (seen all c.args.binds.now.pairs)) (tree_at all c.args.left)) c.walk-a.result c.walk-b.result (symbol_of c.in-App-App.f) (symbol_of c.in-App-App.g) c.in-App-App.xs.now c.in-App-App.ys.now c.each.i
    c.in-App-App.ensures.0 c.in-App-App.ensures'.0 (ap symbol_of (c.is_same.ensures.0 c.if-not-is_same.false)) (omega (arith, c.if-xs-ys.false)) c.each.invariant c.each-test.false)

pub returns-then-is_empty-clause-outcome : goal.returns-then-is_empty-clause-outcome
returns-then-is_empty-clause-outcome g t c = grind (arith, common_steps)

pub returns-in-Var-Var-clause-outcome : goal.returns-in-Var-Var-clause-outcome
returns-in-Var-Var-clause-outcome g t c = grind (arith, common_steps)

pub returns-then-a-b-clause-outcome : goal.returns-then-a-b-clause-outcome
returns-then-a-b-clause-outcome g t c = grind (arith, common_steps)

pub returns-then-has-clause-grown : goal.returns-then-has-clause-grown
returns-then-has-clause-grown g t c = grind (arith, common_steps)

pub bind_apart-requires-in_default-Var-clause-unbound : goal.bind_apart-requires-in_default-Var-clause-unbound
bind_apart-requires-in_default-Var-clause-unbound g t c = grind (arith, common_steps)

pub offset_bounds-ys-i : goal.offset_bounds-ys-i
offset_bounds-ys-i g t c = grind (arith, common_steps)

pub bind_apart-requires-clause-apart : goal.bind_apart-requires-clause-apart
bind_apart-requires-clause-apart g t c = grind (arith, common_steps)

pub offset_bounds-xs-i : goal.offset_bounds-xs-i
offset_bounds-xs-i g t c = grind (arith, common_steps)

pub bind_apart-requires-clause-unbound : goal.bind_apart-requires-clause-unbound
bind_apart-requires-clause-unbound g t c = grind (arith, common_steps)

pub returns-then-is_empty-clause-grown : goal.returns-then-is_empty-clause-grown
returns-then-is_empty-clause-grown g t c = grind (arith, common_steps)

pub returns-then-xs-ys-clause-grown : goal.returns-then-xs-ys-clause-grown
returns-then-xs-ys-clause-grown g t c = grind (arith, common_steps)

pub returns-then-not-is_same-clause-grown : goal.returns-then-not-is_same-clause-grown
returns-then-not-is_same-clause-grown g t c = grind (arith, common_steps)

pub bounds-ys-i : goal.bounds-ys-i
bounds-ys-i g t c = grind (arith, common_steps)

pub returns-in-Var-Var-clause-grown : goal.returns-in-Var-Var-clause-grown
returns-in-Var-Var-clause-grown g t c = grind (arith, common_steps)

pub returns-then-is_ground-2-clause-grown : goal.returns-then-is_ground-2-clause-grown
returns-then-is_ground-2-clause-grown g t c = grind (arith, common_steps)

pub bounds-xs-i : goal.bounds-xs-i
bounds-xs-i g t c = grind (arith, common_steps)

pub returns-then-left-right-clause-outcome : goal.returns-then-left-right-clause-outcome
returns-then-left-right-clause-outcome g t c = grind (arith, common_steps)

pub returns-then-a-b-clause-grown : goal.returns-then-a-b-clause-grown
returns-then-a-b-clause-grown g t c = grind (arith, common_steps)
