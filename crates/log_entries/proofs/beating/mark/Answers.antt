use Rattle.std.proofs.Common.{refl, inr}
use Rattle.log_entries.proofs.Lanes.{told_apart, conclusions_apart}
use Rattle.log_entries.proofs.beating.mark.Goals as goal

pub returns-then-not-may_cover-clause-marked : goal.returns-then-not-may_cover-clause-marked
returns-then-not-may_cover-clause-marked g c =
    let offer = c.args.offer.now in
    record {
      clause = refl;
      origin = refl;
      by = inr (λ h. told_apart (g.B.Bank.trees c.args.bank.now) offer.clause.now c.args.entry.now.clause offer.looks.features c.args.kept c.may_cover.result c.requires.clause c.requires.looks.features c.requires.kept c.may_cover.ensures.subsuming c.if-not-may_cover.true h.1, refl);
    }

pub returns-then-not-may_meet-clause-marked : goal.returns-then-not-may_meet-clause-marked
returns-then-not-may_meet-clause-marked g c =
    let offer = c.args.offer.now in
    record {
      clause = refl;
      origin = refl;
      by = inr (λ h. conclusions_apart (g.B.Bank.trees c.args.bank.now) offer.clause.now c.args.entry.now.clause offer.looks.conclusion c.args.conclusion.now c.may_meet.result c.requires.looks.conclusion c.requires.conclusion c.may_meet.ensures.meeting c.if-not-may_meet.true h.1, refl);
    }
