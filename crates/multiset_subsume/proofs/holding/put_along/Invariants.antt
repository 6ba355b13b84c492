use Rattle.std.proofs.Common.{◌≡◌, ◌↔◌, suc, pred, map, take, drop}
use Rattle.clause_form.specs.Facts.{fact_of}
use Rattle.fact_placing.specs.Boards.{IsPlacing, HoldsOn, AreLinkedOn}
use Rattle.multiset_subsume.proofs.holding.put_along.Given as goal

abbrev pub invariant-each : goal.invariant-each
invariant-each g l = record {
  placing : IsPlacing (g.B.Bank.trees l.board.bank.now) (map fact_of l.board.hyps.now) l.placing.binds.pairs l.placing.taken.items;
  positions : map suc (map pred (take l.k l.row)) ≡ take l.k l.row;
  holds : HoldsOn (g.B.Bank.trees l.board.bank.now) (map fact_of l.board.hyps.now) l.board.ending l.fn.placing.binds.pairs l.fn.placing.taken.items (map (λ f. fact_of f.now) l.facts) (map pred l.row)
      ↔ HoldsOn (g.B.Bank.trees l.board.bank.now) (map fact_of l.board.hyps.now) l.board.ending l.placing.binds.pairs l.placing.taken.items (map (λ f. fact_of f.now) (drop l.k l.facts)) (map pred (drop l.k l.row));
  linked : AreLinkedOn (g.B.Bank.trees l.board.bank.now) l.board.ending l.fn.placing.binds.pairs (map (λ f. fact_of f.now) l.facts) → AreLinkedOn (g.B.Bank.trees l.board.bank.now) l.board.ending l.placing.binds.pairs (map (λ f. fact_of f.now) (drop l.k l.facts));
}
