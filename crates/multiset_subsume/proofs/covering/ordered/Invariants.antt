use Rattle.std.proofs.Common.{map, drop}
use Rattle.clause_form.specs.Facts.{fact_of}
use Rattle.fact_placing.specs.Boards.{AreLinkedOn}
use Rattle.multiset_subsume.proofs.FirstRows.{IsOnTheWay}
use Rattle.multiset_subsume.proofs.covering.ordered.Given as goal

abbrev pub invariant-each : goal.invariant-each
invariant-each g l = record {
  way : IsOnTheWay (g.B.Bank.trees l.board.bank.now) (map fact_of l.board.hyps.now) l.board.ending l.fn.placing.binds.pairs l.placing.binds.pairs l.fn.placing.taken.items l.placing.taken.items (map (λ f. fact_of f.now) l.facts) (map (λ f. fact_of f.now) (drop l.k l.facts)) l.items.items l.row.items;
  linked : AreLinkedOn (g.B.Bank.trees l.board.bank.now) l.board.ending l.placing.binds.pairs (map (λ f. fact_of f.now) (drop l.k l.facts));
}
