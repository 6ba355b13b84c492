use Rattle.std.proofs.Common.{◌<◌, ◌+◌, arith, length}
use Rattle.std.proofs.lemmas.Grind.{common_steps}
use Rattle.std.proofs.lemmas.Bool.{MatchBool-at_true, MatchBool-at_false}
use Rattle.spec_terms.specs.Rank.{ranks}
use Rattle.unify_match.specs.Seen.{seen}
use Rattle.unify_match.proofs.Walking.{heights_of}
use Rattle.unify_match.proofs.Effort.{Grown-trans}
use Rattle.unify_match.proofs.Unifying.{going_on, all_gone, all_fail}
use Rattle.unify_match.proofs.unification.unify_each.Goals as goal

pub returns-in_err-unify_from-clause-grown : goal.returns-in_err-unify_from-clause-grown
returns-in_err-unify_from-clause-grown g c = Grown-trans (g.B.Bank.trees c.args.bank.now) c.args.binds.now.pairs c.each.binds.pairs c.unify_from.new.binds.pairs c.each.invariant.grown c.unify_from.ensures.grown

pub returns-then-not-branch-clause-grown : goal.returns-then-not-branch-clause-grown
returns-then-not-branch-clause-grown g c = Grown-trans (g.B.Bank.trees c.args.bank.now) c.args.binds.now.pairs c.each.binds.pairs c.unify_from.new.binds.pairs c.each.invariant.grown c.unify_from.ensures.grown

pub returns-then-not-branch-clause-outcome : goal.returns-then-not-branch-clause-outcome
returns-then-not-branch-clause-outcome g c =
    let all = g.B.Bank.trees c.args.bank.now in
    let old = c.args.binds.now.pairs in
    let xs = c.args.lefts.now in
    let ys = c.args.rights.now in
    let even : c.each.i < length ys = omega (arith, c.each-test.true, c.requires.paired) in
    let never = MatchBool-at_false _ _ c.if-not-branch.true c.in_ok-unify_from.ensures.outcome in
    all_fail all old c.each.binds.pairs c.each.made (heights_of (ranks (seen all old)) all xs + 1) xs ys c.each.i record { index = 0 } c.each.invariant c.each-test.true even never

pub each-preserved : goal.each-preserved
each-preserved g c =
    let all = g.B.Bank.trees c.args.bank.now in
    let old = c.args.binds.now.pairs in
    let xs = c.args.lefts.now in
    let ys = c.args.rights.now in
    let even : c.each.i < length ys = omega (arith, c.each-test.true, c.requires.paired) in
    let made_one = MatchBool-at_true _ _ c.if-not-branch.false c.in_ok-unify_from.ensures.outcome in
    going_on all old c.each.binds.pairs c.unify_from.new.binds.pairs c.each.made c.unify_from.new.made (heights_of (ranks (seen all old)) all xs + 1) xs ys c.each.i record { index = 0 } c.each.invariant c.each-test.true even
    c.unify_from.ensures.ready c.unify_from.ensures.made c.unify_from.ensures.grown made_one

pub returns-clause-outcome : goal.returns-clause-outcome
returns-clause-outcome g c =
    let all = g.B.Bank.trees c.args.bank.now in
    let old = c.args.binds.now.pairs in
    let xs = c.args.lefts.now in
    let ys = c.args.rights.now in
    all_gone all old c.each.binds.pairs c.each.made (heights_of (ranks (seen all old)) all xs + 1) xs ys c.each.i c.requires.paired c.each.invariant c.each-test.false

pub unify_from-requires-clause-left_known : goal.unify_from-requires-clause-left_known
unify_from-requires-clause-left_known g c = grind (arith, common_steps)

pub unify_from-requires-clause-right_known : goal.unify_from-requires-clause-right_known
unify_from-requires-clause-right_known g c = grind (arith, common_steps)
