use Rattle.std.proofs.Common.{◌≡◌, arith}
use Rattle.std.proofs.lemmas.Grind.{common_steps}
use Rattle.term_tree.proofs.BankLaws.{Grows_refl, Grows_trans}
use Rattle.clause_diffs.specs.Places.{by_places}
use Rattle.clause_diffs.proofs.Walks.{known_later}
use Rattle.clause_diffs.proofs.Naming.{renumbered_none, renumbered_on, renumbered_all}
use Rattle.clause_diffs.proofs.tidying.numbered_terms.Goals as goal

pub each-init : goal.each-init
each-init g c =
    renumbered_none (g.B.Bank.trees c.args.bank.now) (by_places c.args.places) c.args.terms.now c.in_ok-items.items.items c.in_ok-items.ensures.items

pub numbered_term-requires : goal.numbered_term-requires
numbered_term-requires g c = (known_later (g.B.Bank.trees c.args.bank.now) (g.B.Bank.trees c.each.bank) c.args.terms.now c.each.term-index record { index = 0 } c.each.invariant.grows c.requires c.each-test.true).0

pub each-preserved : goal.each-preserved
each-preserved g c =
    let old = g.B.Bank.trees c.args.bank.now in
    let now = g.B.Bank.trees c.each.bank in
    let at = known_later old now c.args.terms.now c.each.term-index record { index = 0 } c.each.invariant.grows c.requires c.each-test.true in
    renumbered_on old now (g.B.Bank.trees c.numbered_term.new.bank) (by_places c.args.places) c.args.terms.now c.each.term-index record { index = 0 } c.each.items.items c.push.new.self.items c.in_ok-next.next
    c.each.invariant c.each-test.true c.numbered_term.ensures.grows at.1 c.in_ok-next.ensures.names c.in_ok-push.ensures.items

pub returns-clause-names : goal.returns-clause-names
returns-clause-names g c =
    renumbered_all (g.B.Bank.trees c.args.bank.now) (g.B.Bank.trees c.each.bank) (by_places c.args.places) c.args.terms.now c.each.term-index c.each.items.items c.each.invariant c.each-test.false

pub returns-in_err-next-clause-grows : goal.returns-in_err-next-clause-grows
returns-in_err-next-clause-grows g c = Grows_trans (g.B.Bank.trees c.args.bank.now) (g.B.Bank.trees c.each.bank) (g.B.Bank.trees c.numbered_term.new.bank) c.each.invariant.grows c.numbered_term.ensures.grows

pub returns-in_err-push-clause-grows : goal.returns-in_err-push-clause-grows
returns-in_err-push-clause-grows g c = Grows_trans (g.B.Bank.trees c.args.bank.now) (g.B.Bank.trees c.each.bank) (g.B.Bank.trees c.numbered_term.new.bank) c.each.invariant.grows c.numbered_term.ensures.grows

pub returns-in_err-items-clause-grows : goal.returns-in_err-items-clause-grows
returns-in_err-items-clause-grows g c = grind (arith, common_steps)
