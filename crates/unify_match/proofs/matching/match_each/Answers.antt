use Rattle.std.proofs.Common.{◌<◌, ◌+◌, arith, length}
use Rattle.std.proofs.lemmas.Grind.{common_steps}
use Rattle.std.proofs.lemmas.Bool.{MatchBool-at_true, MatchBool-at_false}
use Rattle.unify_match.proofs.Trails.{Extends-trans}
use Rattle.unify_match.proofs.Walking.{heights_of}
use Rattle.unify_match.proofs.Matchings.{matching_on, all_matched, all_fail}
use Rattle.unify_match.proofs.matching.match_each.Goals as goal

pub returns-in_err-match_from-clause-extends : goal.returns-in_err-match_from-clause-extends
returns-in_err-match_from-clause-extends g c = Extends-trans c.args.binds.now.pairs c.each.binds.pairs c.match_from.new.binds.pairs c.each.invariant.extends c.match_from.ensures.extends

pub returns-then-not-branch-clause-extends : goal.returns-then-not-branch-clause-extends
returns-then-not-branch-clause-extends g c = Extends-trans c.args.binds.now.pairs c.each.binds.pairs c.match_from.new.binds.pairs c.each.invariant.extends c.match_from.ensures.extends

pub returns-then-not-branch-clause-outcome : goal.returns-then-not-branch-clause-outcome
returns-then-not-branch-clause-outcome g c =
    let all = g.B.Bank.trees c.args.bank.now in
    let xs = c.args.generals.now in
    let ys = c.args.specials.now in
    let even : c.each.i < length ys = omega (arith, c.each-test.true, c.requires.paired) in
    let never = MatchBool-at_false _ _ c.if-not-branch.true c.in_ok-match_from.ensures.outcome in
    all_fail all c.args.binds.now.pairs c.each.binds.pairs (heights_of (λ x. 1) all xs + 1) xs ys c.each.i record { index = 0 } c.each.invariant c.each-test.true even never

pub each-preserved : goal.each-preserved
each-preserved g c =
    let all = g.B.Bank.trees c.args.bank.now in
    let xs = c.args.generals.now in
    let ys = c.args.specials.now in
    let even : c.each.i < length ys = omega (arith, c.each-test.true, c.requires.paired) in
    let made_one = MatchBool-at_true _ _ c.if-not-branch.false c.in_ok-match_from.ensures.outcome in
    matching_on all c.args.binds.now.pairs c.each.binds.pairs c.match_from.new.binds.pairs (heights_of (λ x. 1) all xs + 1) xs ys c.each.i record { index = 0 } c.each.invariant c.each-test.true even
    c.match_from.ensures.bindings c.match_from.ensures.extends made_one

pub returns-clause-outcome : goal.returns-clause-outcome
returns-clause-outcome g c =
    let all = g.B.Bank.trees c.args.bank.now in
    let xs = c.args.generals.now in
    let ys = c.args.specials.now in
    all_matched all c.args.binds.now.pairs c.each.binds.pairs (heights_of (λ x. 1) all xs + 1) xs ys c.each.i c.requires.paired c.each.invariant c.each-test.false

pub match_from-requires-clause-general_known : goal.match_from-requires-clause-general_known
match_from-requires-clause-general_known g c = grind (arith, common_steps)

pub match_from-requires-clause-special_known : goal.match_from-requires-clause-special_known
match_from-requires-clause-special_known g c = grind (arith, common_steps)
