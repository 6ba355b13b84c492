use Rattle.std.proofs.Common.{◌≡◌, false, drop}
use Rattle.clause_form.specs.Seen.{clause_at}
use Rattle.log_entries.proofs.Marking.{AreMarkedBut}
use Rattle.log_entries.proofs.beating.mark_among.Given as goal

abbrev pub invariant-each : goal.invariant-each
invariant-each g l = record {
  marked : AreMarkedBut (g.B.Bank.trees l.bank) (clause_at (g.B.Bank.trees l.bank) l.offer.clause.now) l.offer.number (drop l.number-index l.numbers) 1 l.fn.entries l.entries;
  same : l.some ≡ false → l.entries ≡ l.fn.entries;
}
