use Rattle.std.proofs.Common.{◌≡◌, length}
use Rattle.clause_norms.proofs.Norms.{AreNormed}
use Rattle.clause_norms.proofs.norms_of_all.Given as goal

abbrev pub invariant-loop-part : goal.invariant-loop-part
invariant-loop-part g l = record {
  normed : AreNormed (g.B.Bank.trees l.fn.bank) (g.B.Bank.trees l.bank) l.made l.part-iterator.rest.items l.fn.parts;
  counted : l.part-iterator.rest.len ≡ length l.part-iterator.rest.items;
}
