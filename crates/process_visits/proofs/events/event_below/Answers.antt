use Rattle.std.proofs.Common.{ap, sym, ◌∙◌}
use Rattle.spec_translation.specs.Visit.{is_large_visit}
use Rattle.process_visits.proofs.Happening.{evented}
use Rattle.process_visits.proofs.events.event_below.Goals as goal

pub is_large_visit-requires : goal.is_large_visit-requires
is_large_visit-requires g c = (evented (g.B.Bank.trees c.args.bank.now) c.args.visit.now c.args.event c.args.arguments c.in_ok-made.made c.requires.visit c.requires.arguments c.requires.below c.in_ok-made.ensures).known

pub returns-then-is_large_visit : goal.returns-then-is_large_visit
returns-then-is_large_visit g c =
    let names = evented (g.B.Bank.trees c.args.bank.now) c.args.visit.now c.args.event c.args.arguments c.in_ok-made.made c.requires.visit c.requires.arguments c.requires.below c.in_ok-made.ensures in
    sym (ap is_large_visit names.is) ∙ (sym c.is_large_visit.ensures ∙ c.if-is_large_visit.true)

pub returns : goal.returns
returns g c =
    let names = evented (g.B.Bank.trees c.args.bank.now) c.args.visit.now c.args.event c.args.arguments c.in_ok-made.made c.requires.visit c.requires.arguments c.requires.below c.in_ok-made.ensures in
    (sym (ap is_large_visit names.is) ∙ (sym c.is_large_visit.ensures ∙ c.if-is_large_visit.false), names)
