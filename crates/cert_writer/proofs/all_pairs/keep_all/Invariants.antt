use Rattle.std.proofs.Common.{◌≡◌}
use Rattle.cert_writer.specs.Known.{IsKnown}
use Rattle.cert_writer.proofs.all_pairs.keep_all.Given as goal

abbrev pub invariant-each : goal.invariant-each
invariant-each g l = record {
  bank : g.B.Bank.trees l.bank ≡ g.B.Bank.trees l.fn.bank;
  known : IsKnown (g.B.Bank.trees l.fn.bank) l.known;
  live : l.known.live ≡ l.fn.known.live;
  given : l.known.given ≡ l.fn.known.given;
}
