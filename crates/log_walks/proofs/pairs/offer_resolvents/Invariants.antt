use Rattle.std.proofs.Common.{◌-◌, ◌≤◌, length}
use Rattle.clause_form.specs.Fit.{AreFit}
use Rattle.log_walks.specs.Pairs.{AreSameOrMore}
use Rattle.log_walks.proofs.Pairing.{IsOffering}
use Rattle.log_walks.proofs.pairs.offer_resolvents.Given as goal

abbrev pub invariant-each : goal.invariant-each
invariant-each g l = record {
  within : l.k ≤ length l.clauses;
  fit : AreFit (g.B.Bank.trees l.bank) l.clauses;
  offering : IsOffering (g.B.Bank.trees l.bank) g.task l.walk l.pair l.clauses l.k;
  kept : AreSameOrMore l.fn.walk.items.items l.walk.items.items;
}

abbrev pub decreases-each : goal.decreases-each
decreases-each g l = length l.clauses - l.k
