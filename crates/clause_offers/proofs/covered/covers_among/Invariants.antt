use Rattle.std.proofs.Common.{drop}
use Rattle.clause_form.specs.Seen.{clause_at}
use Rattle.log_entries.specs.Live.{CoversAmong}
use Rattle.clause_offers.proofs.covered.covers_among.Given as goal

abbrev pub invariant-each : goal.invariant-each
invariant-each g l =
    let all = g.B.Bank.trees l.bank in
    let clause = clause_at all l.offer.clause.now in
    CoversAmong all l.walk.items.items l.numbers clause → CoversAmong all l.walk.items.items (drop l.number-index l.numbers) clause
