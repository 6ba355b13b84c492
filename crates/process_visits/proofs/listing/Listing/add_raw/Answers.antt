use Rattle.std.proofs.Common.{arith}
use Rattle.std.proofs.lemmas.Grind.{common_steps}
use Rattle.unified_visits.proofs.Named.{visit_later}
use Rattle.process_visits.proofs.Telling.{raw_later, told_before}
use Rattle.process_visits.proofs.listing.Listing.add_raw.Goals as goal

pub tell-requires-clause-visit : goal.tell-requires-clause-visit
tell-requires-clause-visit g c =
    (visit_later (g.B.Bank.trees c.args.bank.now) (g.B.Bank.trees c.add_norms.new.bank) c.args.visit.now c.add_norms.ensures.grows c.requires.visit).known

pub tell-requires-clause-raw : goal.tell-requires-clause-raw
tell-requires-clause-raw g c = (raw_later (g.B.Bank.trees c.args.bank.now) (g.B.Bank.trees c.add_norms.new.bank) c.args.raw.now c.add_norms.ensures.grows c.requires.raw).known

pub returns-clause-tells : goal.returns-clause-tells
returns-clause-tells g c = λ yes.
    told_before (g.B.Bank.trees c.args.bank.now) (g.B.Bank.trees c.add_norms.new.bank) c.args.place.now.point c.args.visit.now c.args.raw.now c.args.self.now c.add_norms.new.self c.tell.new.self
    c.add_norms.ensures.grows c.requires.visit c.requires.raw c.add_norms.ensures.sources c.add_norms.ensures.choices c.in_ok-tell.ensures.tells

pub returns-clause-adds : goal.returns-clause-adds
returns-clause-adds g c = grind (arith, common_steps)

pub returns-clause-grows : goal.returns-clause-grows
returns-clause-grows g c = grind (arith, common_steps)

pub returns-then-not-branch-clause-tells : goal.returns-then-not-branch-clause-tells
returns-then-not-branch-clause-tells g c = grind (arith, common_steps)
