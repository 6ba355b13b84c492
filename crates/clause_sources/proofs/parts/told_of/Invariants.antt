use Rattle.std.proofs.Common.{◌≡◌, map, take}
use Rattle.term_tree.specs.Bank.{Grows}
use Rattle.clause_form.specs.Seen.{clause_at}
use Rattle.clause_sources.specs.Listed.{told_numbers}
use Rattle.clause_sources.proofs.parts.told_of.Given as goal

abbrev pub invariant-each : goal.invariant-each
invariant-each g l = record {
  grows : Grows (g.B.Bank.trees l.fn.bank) (g.B.Bank.trees l.bank);
  told : l.numbers.items ≡ told_numbers (map (clause_at (g.B.Bank.trees l.fn.bank)) (take l.index l.part-items));
}
