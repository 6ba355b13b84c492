use Rattle.std.proofs.Common.{drop}
use Rattle.clause_diffs.specs.Diffs.{diffs_at}
use Rattle.fact_placing.specs.Boards.{AreKeptOn}
use Rattle.fact_placing.proofs.Kept.{AreKeptFrom}
use Rattle.fact_placing.proofs.keeping.are_kept.Given as goal

abbrev pub invariant-each : goal.invariant-each
invariant-each g l =
    AreKeptFrom (g.B.Bank.trees l.board.bank.now) l.placing.binds.pairs (diffs_at (g.B.Bank.trees l.board.bank.now) l.board.ending.kept_in.now) l.board.ending.diffs.now (drop l.diff-index l.board.ending.diffs.now)
    → AreKeptOn (g.B.Bank.trees l.board.bank.now) l.board.ending l.placing.binds.pairs
