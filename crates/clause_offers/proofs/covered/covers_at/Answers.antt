use Rattle.std.proofs.Common.{◌-◌, arith}
use Rattle.clause_form.specs.Seen.{clause_at}
use Rattle.log_entries.proofs.Marking.{fit_at}
use Rattle.log_entries.proofs.Lanes.{number_apart, conclusion_apart}
use Rattle.clause_offers.proofs.Covers.{number_covers}
use Rattle.clause_offers.proofs.covered.covers_at.Goals as goal

pub returns-then-not-may_cover : goal.returns-then-not-may_cover
returns-then-not-may_cover g c =
    let walk = c.args.walk.now in
    let offer = c.args.offer.now in
    number_apart (g.B.Bank.trees c.args.bank.now) walk.items.items walk.live.features.items c.args.number offer.clause.now c.index-kept.result.now offer.looks.features c.may_cover.result c.requires.entries c.requires.listed.features c.index-kept.ensures c.requires.looks.features c.may_cover.ensures.subsuming c.if-not-may_cover.true

pub returns-then-not-may_meet : goal.returns-then-not-may_meet
returns-then-not-may_meet g c =
    let walk = c.args.walk.now in
    let offer = c.args.offer.now in
    conclusion_apart (g.B.Bank.trees c.args.bank.now) walk.items.items walk.live.conclusions.items c.args.number offer.clause.now c.index-conclusion.result.now offer.looks.conclusion c.may_meet.result c.requires.listed.conclusions c.index-conclusion.ensures c.requires.looks.conclusion c.may_meet.ensures.meeting c.if-not-may_meet.true

pub covers-requires-clause-entry : goal.covers-requires-clause-entry
covers-requires-clause-entry g c =
    fit_at (g.B.Bank.trees c.args.bank.now) c.args.walk.now.items.items (c.args.number - 1) c.index.result.now c.index.ensures c.requires.entries (omega (arith, c.requires.some, c.requires.within))

pub returns : goal.returns
returns g c =
    let all = g.B.Bank.trees c.args.bank.now in
    number_covers all c.args.walk.now.items.items (clause_at all c.args.offer.now.clause.now) c.args.number c.index.result.now c.in_ok-yes.yes c.index.ensures c.requires.some c.requires.within c.in_ok-yes.ensures
