use Rattle.std.proofs.Common.{◌≡◌, ◌<◌, length, refl, inl, inr, rules}
use Rattle.clause_form.specs.Seen.{clause_at}
use Rattle.clause_offers.proofs.Offers.{covered_offer, due_offer, new_offer}
use Rattle.clause_offers.proofs.offering.offer.Goals as goal

pub returns-then-branch-clause-made : goal.returns-then-branch-clause-made
returns-then-branch-clause-made g c =
    let all = g.B.Bank.trees c.args.bank.now in
    let items = c.args.walk.now.items.items in
    λ log at tell origin. inl (covered_offer all items (clause_at all c.args.clause.now) c.in_ok-is_covered.field-0 c.if-branch.true c.in_ok-is_covered.ensures log tell, refl)

pub returns-then-len-walk-clause-made : goal.returns-then-len-walk-clause-made
returns-then-len-walk-clause-made g c =
    let all = g.B.Bank.trees c.args.bank.now in
    let items = c.args.walk.now.items.items in
    let full : length items ≡ c.args.walk.now.budget = search rules in
    due_offer all items c.args.clause.now c.in_ok-clause.clause c.args.origin c.args.walk.now.budget c.in_ok-is_covered.field-0 c.requires.clause c.in_ok-clause.ensures c.if-branch.false c.in_ok-is_covered.ensures full

pub returns-clause-made : goal.returns-clause-made
returns-clause-made g c =
    let all = g.B.Bank.trees c.args.bank.now in
    let items = c.args.walk.now.items.items in
    let room : length items < c.args.walk.now.budget = search rules in
    λ log at tell origin. inr (new_offer all items c.add.new.walk.items.items c.args.clause.now c.args.origin c.args.walk.now.budget c.in_ok-is_covered.field-0 c.requires.clause c.if-branch.false c.in_ok-is_covered.ensures room c.in_ok-add.ensures.pushed log at tell origin)
