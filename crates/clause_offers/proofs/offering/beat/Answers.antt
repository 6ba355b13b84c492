use Rattle.std.proofs.Common.{◌≡◌, List, sym, subst, rules}
use Rattle.clause_form.specs.Seen.{clause_at}
use Rattle.log_entries.specs.declared.log.Entry.{Entry}
use Rattle.log_entries.specs.Live.{AreListed, AreAlive}
use Rattle.log_entries.proofs.Listing.{marked_listed}
use Rattle.clause_offers.proofs.Covering.{beatable_seen}
use Rattle.clause_offers.proofs.offering.beat.Goals as goal

pub mark_items-requires-clause-numbers : goal.mark_items-requires-clause-numbers
mark_items-requires-clause-numbers g c =
    let all = g.B.Bank.trees c.args.bank.now in
    let numbers : c.deref.result.now ≡ c.in_ok-numbers.numbers.items = search rules in
    beatable_seen all c.args.walk.now.items.items (clause_at all c.args.offer.now.clause.now) c.in_ok-numbers.numbers.items c.deref.result.now numbers c.in_ok-numbers.ensures

pub returns-then-not-branch-clause-listed : goal.returns-then-not-branch-clause-listed
returns-then-not-branch-clause-listed g c =
    subst (λ (es : List Entry). AreListed (g.B.Bank.trees c.args.bank.now) es c.args.walk.now.live) (sym (c.in_ok-mark_items.ensures.same c.if-not-branch.true)) c.requires.listed

pub returns-clause-listed : goal.returns-clause-listed
returns-clause-listed g c =
    let all = g.B.Bank.trees c.args.bank.now in
    let marks : List Entry = c.mark_items.new.items.items in
    let same : c.deref-2.result.now ≡ marks = c.deref-2.ensures.value in
    marked_listed all (clause_at all c.args.offer.now.clause.now) c.args.offer.now.number c.args.walk.now.items.items marks c.args.walk.now.live c.drop_all.new.live c.requires.listed c.in_ok-mark_items.ensures.marked
    (subst (λ (es : List Entry). AreAlive es c.args.walk.now.live c.drop_all.new.live) same c.drop_all.ensures)
