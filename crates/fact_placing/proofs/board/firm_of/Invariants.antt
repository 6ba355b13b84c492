use Rattle.std.proofs.Common.{map}
use Rattle.clause_form.specs.Facts.{fact_of}
use Rattle.fact_placing.proofs.Listing.{AreFirmUpTo}
use Rattle.fact_placing.proofs.board.firm_of.Given as goal

abbrev pub invariant-loop-hyp : goal.invariant-loop-hyp
invariant-loop-hyp g l = AreFirmUpTo (g.B.Bank.trees l.bank) l.hyps l.hyp-index (map (λ f. fact_of f.now) l.found.items)
