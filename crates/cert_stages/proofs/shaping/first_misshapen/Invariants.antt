use Rattle.std.proofs.Common.{drop}
use Rattle.cert_stages.specs.Answers.{numbered_at}
use Rattle.cert_stages.proofs.Walking.{IsLooked}
use Rattle.cert_stages.proofs.shaping.first_misshapen.Given as goal

abbrev pub invariant-each : goal.invariant-each
invariant-each g l = IsLooked l.arguments (numbered_at (g.B.Bank.trees l.bank) l.clauses) (drop l.k (numbered_at (g.B.Bank.trees l.bank) l.clauses))
