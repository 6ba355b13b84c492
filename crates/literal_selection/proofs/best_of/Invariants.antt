use Rattle.std.proofs.Common.{◌≡◌, ◌≤◌, length, map, drop}
use Rattle.spec_clauses.specs.Selection.{select}
use Rattle.clause_form.proofs.Norming.{seen_at}
use Rattle.literal_selection.specs.Best.{remembered}
use Rattle.literal_selection.proofs.best_of.Given as goal

abbrev pub decreases-each : goal.decreases-each
decreases-each g l = l.i

abbrev pub invariant-each : goal.invariant-each
invariant-each g l = record {
  within : l.i ≤ length l.facts;
  best : l.best ≡ remembered l.i (select (map (seen_at (g.B.Bank.trees l.bank)) (drop l.i l.facts)));
}
