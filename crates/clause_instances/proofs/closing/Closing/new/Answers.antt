use Rattle.std.proofs.Common.{◌≡◌, ◌≤◌, ◌∙◌, nat_eq, length, ap, arith, rules}
use Rattle.spec_clauses.specs.Norm.{distinct}
use Rattle.term_tree.proofs.BankLaws.{AreKnown-grows, Grows_refl, Grows_trans}
use Rattle.clause_instances.proofs.Closes.{none_first, one_first, all_first, next_number}
use Rattle.clause_instances.proofs.closing.Closing.new.Goals as goal

pub each-init : goal.each-init
each-init g c = none_first (g.B.Bank.trees c.args.bank.now) c.args.given.now c.args.number.now c.in_ok-items.items.items (search rules)

pub term_at-requires : goal.term_at-requires
term_at-requires g c = AreKnown-grows (g.B.Bank.trees c.args.bank.now) (g.B.Bank.trees c.each.bank) c.args.given.now c.each.invariant.grows c.requires

pub each-preserved : goal.each-preserved
each-preserved g c =
    one_first (g.B.Bank.trees c.args.bank.now) (g.B.Bank.trees c.each.bank) (g.B.Bank.trees c.term_at.new.bank) c.args.given.now c.args.number.now c.each.place c.each.number c.term_at.new.number c.each.items.items c.push.new.self.items c.in_ok-id.id
    c.each.invariant c.term_at.ensures.grows c.requires (c.in_ok-id.ensures.names c.args.number.now c.each.invariant.number_is) (c.in_ok-id.ensures.next c.args.number.now c.each.invariant.number_is) c.in_ok-push.ensures.items

pub returns-in_err-id-clause-grows : goal.returns-in_err-id-clause-grows
returns-in_err-id-clause-grows g c = Grows_trans (g.B.Bank.trees c.args.bank.now) (g.B.Bank.trees c.each.bank) (g.B.Bank.trees c.term_at.new.bank) c.each.invariant.grows c.term_at.ensures.grows

pub returns-in_err-push-clause-grows : goal.returns-in_err-push-clause-grows
returns-in_err-push-clause-grows g c = Grows_trans (g.B.Bank.trees c.args.bank.now) (g.B.Bank.trees c.each.bank) (g.B.Bank.trees c.term_at.new.bank) c.each.invariant.grows c.term_at.ensures.grows

pub returns-in_err-order-clause-grows : goal.returns-in_err-order-clause-grows
returns-in_err-order-clause-grows g c = Grows_refl (g.B.Bank.trees c.args.bank.now)

pub returns-in_err-items-clause-grows : goal.returns-in_err-items-clause-grows
returns-in_err-items-clause-grows g c = Grows_refl (g.B.Bank.trees c.args.bank.now)

pub returns-clause-closing : goal.returns-clause-closing
returns-clause-closing g c =
    let variables = c.args.variables.items in
    let long : c.count-place-end.result ≡ length (distinct nat_eq variables) = c.count-place-end.ensures ∙ ap length c.in_ok-order.ensures in
    let past : length (distinct nat_eq variables) ≤ c.each.place = omega (arith, long, c.each-test.false) in
    let within : c.each.place ≤ length (distinct nat_eq variables) = omega (arith, long, c.each.auto.place-end) in
    all_first (g.B.Bank.trees c.args.bank.now) (g.B.Bank.trees c.each.bank) c.args.given.now c.args.number.now c.each.place c.each.number c.each.items.items variables record { order = c.in_ok-order.order; terms = c.each.items.items } c.each.invariant past within c.in_ok-order.ensures (search rules)

pub returns-clause-next : goal.returns-clause-next
returns-clause-next g c =
    let variables = c.args.variables.items in
    let long : c.count-place-end.result ≡ length (distinct nat_eq variables) = c.count-place-end.ensures ∙ ap length c.in_ok-order.ensures in
    let past : length (distinct nat_eq variables) ≤ c.each.place = omega (arith, long, c.each-test.false) in
    let within : c.each.place ≤ length (distinct nat_eq variables) = omega (arith, long, c.each.auto.place-end) in
    next_number (g.B.Bank.trees c.args.bank.now) (g.B.Bank.trees c.each.bank) c.args.given.now c.args.number.now c.each.place c.each.number c.each.items.items variables c.each.invariant past within
