use Rattle.std.proofs.Common.{◌-◌, arith}
use Rattle.clause_form.proofs.Walks.{fact_known_at}
use Rattle.literal_selection.proofs.Choosing.{fact_small, chosen_on, chosen_all}
use Rattle.literal_selection.proofs.best_of.Goals as goal

pub better-best-requires-clause-known : goal.better-best-requires-clause-known
better-best-requires-clause-known g c = fact_known_at (g.B.Bank.trees c.args.bank.now) c.args.facts.now (c.each.i - 1) c.index-facts-i.result c.index-facts-i.is c.requires.known (omega arith)

pub better-best-requires-clause-small : goal.better-best-requires-clause-small
better-best-requires-clause-small g c = fact_small (g.B.Bank.trees c.args.bank.now) c.args.facts.now (c.each.i - 1) c.index-facts-i.result c.index-facts-i.is (omega arith) c.requires.small

pub each-preserved : goal.each-preserved
each-preserved g c = record {
  within = omega arith;
  best = chosen_on (g.B.Bank.trees c.args.bank.now) c.args.facts.now c.each.i c.index-facts-i.result c.each.best c.better-best.result c.each-test.true c.each.invariant.within c.index-facts-i.is c.each.invariant.best c.better-best.ensures;
}

pub returns : goal.returns
returns g c = chosen_all (g.B.Bank.trees c.args.bank.now) c.args.facts.now c.each.i c.each.best c.each-test.false c.each.invariant.best
