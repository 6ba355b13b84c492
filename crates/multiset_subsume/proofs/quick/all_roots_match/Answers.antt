use Rattle.std.proofs.Common.{◌≡◌, false, arith, rules}
use Rattle.std.proofs.lemmas.Grind.{common_steps}
use Rattle.clause_form.proofs.Walks.{known_at}
use Rattle.multiset_subsume.proofs.Refuting.{lists_apart_at}
use Rattle.multiset_subsume.proofs.quick.all_roots_match.Goals as goal

pub roots_match-requires-clause-general : goal.roots_match-requires-clause-general
roots_match-requires-clause-general g c = known_at (g.B.Bank.trees c.args.bank.now) c.args.generals.now c.each.i record { index = 0 } c.requires.generals c.each-test.true

pub roots_match-requires-clause-special : goal.roots_match-requires-clause-special
roots_match-requires-clause-special g c = known_at (g.B.Bank.trees c.args.bank.now) c.args.specials.now c.each.i record { index = 0 } c.requires.specials (omega (arith, c.each-test.true, c.if-generals-specials.false))

pub returns-then-not-roots_match : goal.returns-then-not-roots_match
returns-then-not-roots_match g c _ =
    let none : c.roots_match.result ≡ false = search rules in
    lists_apart_at (g.B.Bank.trees c.args.bank.now) c.args.generals.now c.args.specials.now c.each.i record { index = 0 } c.each-test.true (omega (arith, c.each-test.true, c.if-generals-specials.false)) (c.roots_match.ensures none)

pub returns-then-generals-specials : goal.returns-then-generals-specials
returns-then-generals-specials g c = grind (arith, common_steps)
