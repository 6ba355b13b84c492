use Rattle.std.proofs.Common.{get_or, arith}
use Rattle.std.proofs.lemmas.Grind.{common_steps}
use Rattle.spec_terms.specs.Unifier.{moved}
use Rattle.spec_calculus.specs.Bounds.{most_symbols}
use Rattle.term_tree.proofs.BankLaws.{tree_at-grows, Grows_trans}
use Rattle.clause_form.proofs.Renumber.{renumbered_on, renumbered_all}
use Rattle.clause_resolve.proofs.Shifting.{low_at, low_fits, IsLow-grows}
use Rattle.clause_resolve.proofs.apart.shifted_terms.Goals as goal

pub shifted-requires-clause-known : goal.shifted-requires-clause-known
shifted-requires-clause-known g c =
    let old = g.B.Bank.trees c.args.bank.now in
    let low = IsLow-grows old (g.B.Bank.trees c.each.bank) (get_or c.args.terms.now c.each.term-index record { index = 0 }) c.each.invariant.grows (low_at old c.args.terms.now c.each.term-index record { index = 0 } c.requires c.each-test.true) in
    low.known

pub shifted-requires-clause-fits : goal.shifted-requires-clause-fits
shifted-requires-clause-fits g c =
    let old = g.B.Bank.trees c.args.bank.now in
    low_fits (g.B.Bank.trees c.each.bank) (get_or c.args.terms.now c.each.term-index record { index = 0 }) (IsLow-grows old (g.B.Bank.trees c.each.bank) (get_or c.args.terms.now c.each.term-index record { index = 0 }) c.each.invariant.grows (low_at old c.args.terms.now c.each.term-index record { index = 0 } c.requires c.each-test.true))

pub each-preserved : goal.each-preserved
each-preserved g c =
    let old = g.B.Bank.trees c.args.bank.now in
    let now = g.B.Bank.trees c.each.bank in
    let low = low_at old c.args.terms.now c.each.term-index record { index = 0 } c.requires c.each-test.true in
    renumbered_on old now (g.B.Bank.trees c.shifted.new.bank) (moved most_symbols) c.args.terms.now c.each.term-index record { index = 0 } c.each.items.items c.push.new.self.items c.in_ok-next.next
    c.each.invariant c.each-test.true c.shifted.ensures.grows (tree_at-grows old now (get_or c.args.terms.now c.each.term-index record { index = 0 }) c.each.invariant.grows low.known) c.in_ok-next.ensures.names c.in_ok-push.ensures.items

pub returns-clause-names : goal.returns-clause-names
returns-clause-names g c = renumbered_all (g.B.Bank.trees c.args.bank.now) (g.B.Bank.trees c.each.bank) (moved most_symbols) c.args.terms.now c.each.term-index c.each.items.items c.each.invariant c.each-test.false

pub returns-in_err-next-clause-grows : goal.returns-in_err-next-clause-grows
returns-in_err-next-clause-grows g c = Grows_trans (g.B.Bank.trees c.args.bank.now) (g.B.Bank.trees c.each.bank) (g.B.Bank.trees c.shifted.new.bank) c.each.invariant.grows c.shifted.ensures.grows

pub returns-in_err-push-clause-grows : goal.returns-in_err-push-clause-grows
returns-in_err-push-clause-grows g c = Grows_trans (g.B.Bank.trees c.args.bank.now) (g.B.Bank.trees c.each.bank) (g.B.Bank.trees c.shifted.new.bank) c.each.invariant.grows c.shifted.ensures.grows

pub returns-in_err-items-clause-grows : goal.returns-in_err-items-clause-grows
returns-in_err-items-clause-grows g c = grind (arith, common_steps)

pub each-init : goal.each-init
each-init g c = grind (arith, common_steps)
