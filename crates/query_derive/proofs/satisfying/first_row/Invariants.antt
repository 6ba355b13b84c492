use Rattle.std.proofs.Common.{map}
use Rattle.clause_form.specs.Seen.{clause_at}
use Rattle.query_derive.specs.Wanted.{sought_of}
use Rattle.query_derive.proofs.Deciding.{NoneUpTo}
use Rattle.query_derive.proofs.satisfying.first_row.Given as goal

abbrev pub invariant-each : goal.invariant-each
invariant-each g l = NoneUpTo (map sought_of l.«all») (clause_at (g.B.Bank.trees l.bank) l.clause) l.i
