use Rattle.cert_stages.proofs.Looking.{AreCopied}
use Rattle.cert_stages.proofs.shaping.copied.Given as goal

abbrev pub invariant-each : goal.invariant-each
invariant-each g l = AreCopied (g.B.Bank.trees l.fn.bank) (g.B.Bank.trees l.bank) l.items.items l.clauses l.k
