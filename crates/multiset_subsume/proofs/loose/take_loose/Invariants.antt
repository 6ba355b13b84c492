use Rattle.std.proofs.Common.{◌≡◌, map, take, length}
use Rattle.unify_match.specs.Seen.{seen}
use Rattle.clause_form.specs.Facts.{fact_of}
use Rattle.spec_placements.specs.LooseParts.{Removes}
use Rattle.fact_placing.specs.Boards.{facts_at, loose_parts}
use Rattle.multiset_subsume.proofs.loose.take_loose.Given as goal

abbrev pub invariant-each : goal.invariant-each
invariant-each g l = record {
  flags : length l.taken ≡ length (facts_at (g.B.Bank.trees l.board.bank.now) (map fact_of l.board.hyps.now));
  removes : Removes (facts_at (g.B.Bank.trees l.board.bank.now) (map fact_of l.board.hyps.now)) l.fn.taken l.taken (loose_parts (seen (g.B.Bank.trees l.board.bank.now) l.binds.pairs) (take l.loose-index l.board.ending.loose.now));
}
