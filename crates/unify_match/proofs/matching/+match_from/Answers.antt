use Rattle.std.proofs.Common.{◌≡◌, ◌<◌, true, ◌∙◌, List, [], ◌∷◌, sym, ap, refl, subst, arith, length}
use Rattle.std.proofs.lemmas.Grind.{common_steps}
use Rattle.std.proofs.lemmas.Bool.{MatchBool-at_true, MatchBool-at_false, false≢true}
use Rattle.spec_terms.specs.Term.{Term, is_ground}
use Rattle.term_tree.specs.Bank.{tree_at, symbol_of}
use Rattle.term_tree.proofs.BankLaws.{known-at}
use Rattle.unify_match.specs.declared.bound.Bound.{Bound}
use Rattle.unify_match.specs.Seen.{AreBindings}
use Rattle.unify_match.specs.Outcome.{NoMatch}
use Rattle.unify_match.specs.Progress.{HasMatches}
use Rattle.unify_match.proofs.SeenLemmas.{AreInBank-at, AreBindings-bind}
use Rattle.unify_match.proofs.Walking.{args-lower, height-at}
use Rattle.unify_match.proofs.Matchings.{levels, matches_ground, matches_bound, matches_other, matching_begins, matching_on, matching_fails, matching_ends, match_applications_fail}
use Rattle.unify_match.proofs.Trails.{Extends-trans}
use Rattle.unify_match.proofs.matching.+match_from.Goals as goal

pub returns-then-is_ground-clause-outcome : goal.returns-then-is_ground-clause-outcome
returns-then-is_ground-clause-outcome g t c =
    let all = g.B.Bank.trees c.args.bank.now in
    let ground : is_ground (tree_at all c.args.general) ≡ true = cc in
    matches_ground all c.args.binds.now.pairs c.args.general c.args.special c.same.result ground c.same.ensures

pub same-requires-in-Some-clause-left_known : goal.same-requires-in-Some-clause-left_known
same-requires-in-Some-clause-left_known g t c = AreInBank-at (g.B.Bank.trees c.args.bank.now) c.args.binds.now.pairs c.in-Var.x c.in-Some.bound c.requires.bindings.known (sym c.in-Some.ensures)

pub returns-then-not-same-clause-outcome : goal.returns-then-not-same-clause-outcome
returns-then-not-same-clause-outcome g t c =
    let all = g.B.Bank.trees c.args.bank.now in
    subst (λ (u : Term). NoMatch all c.args.binds.now.pairs u (tree_at all c.args.special)) (sym c.in-Var.ensures)
    (matches_other all c.args.binds.now.pairs c.in-Var.x c.in-Some.bound c.args.special (sym c.in-Some.ensures) (λ same. false≢true (c.if-not-same.ensures.1 same)))

pub returns-else-not-same-clause-outcome : goal.returns-else-not-same-clause-outcome
returns-else-not-same-clause-outcome g t c =
    let all = g.B.Bank.trees c.args.bank.now in
    subst (λ (u : Term). HasMatches all c.args.binds.now.pairs c.args.binds.now.pairs u (tree_at all c.args.special)) (sym c.in-Var.ensures)
    (matches_bound all c.args.binds.now.pairs c.in-Var.x c.in-Some.bound c.args.special (sym c.in-Some.ensures) (c.if-not-same.ensures.0 refl))

pub returns-in_ok-reserve-in-None-clause-bindings : goal.returns-in_ok-reserve-in-None-clause-bindings
returns-in_ok-reserve-in-None-clause-bindings g t c =
    let all = g.B.Bank.trees c.args.bank.now in
    let pairs = c.bind.ensures.pairs ∙ ap (λ (bs : List Bound). record { var = c.in-Var.x; id = c.args.special } ∷ bs) c.in_ok-reserve-in-None.ensures.pairs in
    subst (λ (bs : List Bound). AreBindings all bs) (sym pairs)
    (AreBindings-bind all c.args.binds.now.pairs record { var = c.in-Var.x; id = c.args.special } c.requires.bindings c.requires.special_known (sym c.in-None.ensures))

pub returns-in_ok-reserve-in-None-clause-extends : goal.returns-in_ok-reserve-in-None-clause-extends
returns-in_ok-reserve-in-None-clause-extends g t c =
    (record { var = c.in-Var.x; id = c.args.special } ∷ [], c.bind.ensures.pairs ∙ ap (λ (bs : List Bound). record { var = c.in-Var.x; id = c.args.special } ∷ bs) c.in_ok-reserve-in-None.ensures.pairs)

pub returns-then-xs-ys-clause-outcome : goal.returns-then-xs-ys-clause-outcome
returns-then-xs-ys-clause-outcome g t c =
    match_applications_fail (g.B.Bank.trees c.args.bank.now) c.args.binds.now.pairs c.args.general c.args.special (symbol_of c.in-App.f) (symbol_of c.in-App-node.g) c.in-App.xs.now c.in-App-node.ys.now c.in-App.ensures.0 c.in-App-node.ensures.0
    (λ s agrees parts. absurd (omega (arith, parts.2, c.if-xs-ys.true)))

pub each-init : goal.each-init
each-init g t c =
    matching_begins (g.B.Bank.trees c.args.bank.now) c.args.binds.now.pairs (levels (tree_at (g.B.Bank.trees c.args.bank.now) c.args.general)) c.in-App.xs.now c.in-App-node.ys.now c.requires.bindings c.in-App.ensures.1 c.in-App-node.ensures.1
    (args-lower (λ x. 1) (g.B.Bank.trees c.args.bank.now) c.args.general (symbol_of c.in-App.f) c.in-App.xs.now c.in-App.ensures.0)

pub match_from-requires : goal.match_from-requires
match_from-requires g t c κs within =
    let all = g.B.Bank.trees c.args.bank.now in
    let was = c.each.invariant in
    let even : c.each.i < length c.in-App-node.ys.now = omega (arith, c.each-test.true, c.if-xs-ys.false) in
    let left = known-at all c.in-App.xs.now c.each.i record { index = 0 } c.each-test.true was.lefts in
    let right = known-at all c.in-App-node.ys.now c.each.i record { index = 0 } even was.rights in
    let at = height-at (λ x. 1) all c.in-App.xs.now c.each.i record { index = 0 } c.each-test.true in
    (omega (arith, c.decreases, at.0, was.lower), (within, (left.0, (right.0, was.bindings))))

pub returns-in_err-match_from-in-App-node-clause-extends : goal.returns-in_err-match_from-in-App-node-clause-extends
returns-in_err-match_from-in-App-node-clause-extends g t c = Extends-trans c.args.binds.now.pairs c.each.binds.pairs c.match_from.new.binds.pairs c.each.invariant.extends c.match_from.ensures.extends

pub returns-then-not-branch-clause-extends : goal.returns-then-not-branch-clause-extends
returns-then-not-branch-clause-extends g t c = Extends-trans c.args.binds.now.pairs c.each.binds.pairs c.match_from.new.binds.pairs c.each.invariant.extends c.match_from.ensures.extends

pub returns-then-not-branch-clause-outcome : goal.returns-then-not-branch-clause-outcome
returns-then-not-branch-clause-outcome g t c =
    let all = g.B.Bank.trees c.args.bank.now in
    let even : c.each.i < length c.in-App-node.ys.now = omega (arith, c.each-test.true, c.if-xs-ys.false) in
    let never = MatchBool-at_false _ _ c.if-not-branch.true c.in_ok-match_from-in-App-node.ensures.outcome in
    matching_fails all c.args.binds.now.pairs c.each.binds.pairs (levels (tree_at all c.args.general)) c.args.general c.args.special (symbol_of c.in-App.f) (symbol_of c.in-App-node.g) c.in-App.xs.now c.in-App-node.ys.now c.each.i record { index = 0 }
    c.in-App.ensures.0 c.in-App-node.ensures.0 c.each.invariant c.each-test.true even never

pub each-preserved : goal.each-preserved
each-preserved g t c =
    let all = g.B.Bank.trees c.args.bank.now in
    let even : c.each.i < length c.in-App-node.ys.now = omega (arith, c.each-test.true, c.if-xs-ys.false) in
    let made_one = MatchBool-at_true _ _ c.if-not-branch.false c.in_ok-match_from-in-App-node.ensures.outcome in
    matching_on all c.args.binds.now.pairs c.each.binds.pairs c.match_from.new.binds.pairs (levels (tree_at all c.args.general)) c.in-App.xs.now c.in-App-node.ys.now c.each.i record { index = 0 } c.each.invariant c.each-test.true even
    c.match_from.ensures.bindings c.match_from.ensures.extends made_one

pub returns-after-each-clause-outcome : goal.returns-after-each-clause-outcome
returns-after-each-clause-outcome g t c =
    let all = g.B.Bank.trees c.args.bank.now in
    matching_ends all c.args.binds.now.pairs c.each.binds.pairs (levels (tree_at all c.args.general)) c.args.general c.args.special (symbol_of c.in-App.f) (symbol_of c.in-App-node.g) c.in-App.xs.now c.in-App-node.ys.now c.each.i
    c.in-App.ensures.0 c.in-App-node.ensures.0 (ap symbol_of (c.if-not-is_same.ensures.0 refl)) (omega (arith, c.if-xs-ys.false)) c.each.invariant c.each-test.false

pub returns-in_ok-reserve-in-None-clause-outcome : goal.returns-in_ok-reserve-in-None-clause-outcome
returns-in_ok-reserve-in-None-clause-outcome g t c = grind (arith, common_steps)

pub offset_bounds-ys-i : goal.offset_bounds-ys-i
offset_bounds-ys-i g t c = grind (arith, common_steps)

pub offset_bounds-xs-i : goal.offset_bounds-xs-i
offset_bounds-xs-i g t c = grind (arith, common_steps)

pub returns-then-xs-ys-clause-extends : goal.returns-then-xs-ys-clause-extends
returns-then-xs-ys-clause-extends g t c = grind (arith, common_steps)

pub returns-then-not-is_same-clause-extends : goal.returns-then-not-is_same-clause-extends
returns-then-not-is_same-clause-extends g t c = grind (arith, common_steps)

pub returns-then-not-is_same-clause-outcome : goal.returns-then-not-is_same-clause-outcome
returns-then-not-is_same-clause-outcome g t c = grind (arith, common_steps)

pub returns-then-not-same-clause-extends : goal.returns-then-not-same-clause-extends
returns-then-not-same-clause-extends g t c = grind (arith, common_steps)

pub returns-else-not-same-clause-extends : goal.returns-else-not-same-clause-extends
returns-else-not-same-clause-extends g t c = grind (arith, common_steps)

pub returns-in-Var-node-clause-extends : goal.returns-in-Var-node-clause-extends
returns-in-Var-node-clause-extends g t c = grind (arith, common_steps)

pub returns-in-Var-node-clause-outcome : goal.returns-in-Var-node-clause-outcome
returns-in-Var-node-clause-outcome g t c = grind (arith, common_steps)
