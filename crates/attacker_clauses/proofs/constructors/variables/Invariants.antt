use Rattle.spec_translation.specs.Attacker.{variables_from}
use Rattle.term_tree.specs.Bank.{Grows}
use Rattle.clause_form.specs.Seen.{NameTerms}
use Rattle.attacker_clauses.proofs.constructors.variables.Given as goal

abbrev pub invariant-loop-number : goal.invariant-loop-number
invariant-loop-number g l = record {
  grows : Grows (g.B.Bank.trees l.fn.bank) (g.B.Bank.trees l.bank);
  names : NameTerms (g.B.Bank.trees l.bank) l.items.items (variables_from 0 l.number);
}
