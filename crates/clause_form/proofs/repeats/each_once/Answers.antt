use Rattle.std.proofs.Common.{map}
use Rattle.spec_clauses.specs.Fact.{is_among}
use Rattle.clause_form.specs.Facts.{fact_of}
use Rattle.clause_form.specs.Seen.{fact_at}
use Rattle.clause_form.proofs.Walks.{fact_known_at}
use Rattle.clause_form.proofs.Norming.{repeats_known, repeats_on, repeats_done}
use Rattle.clause_form.proofs.repeats.each_once.Goals as goal

pub add_new-requires-clause-fact : goal.add_new-requires-clause-fact
add_new-requires-clause-fact g c = fact_known_at (g.B.Bank.trees c.args.bank.now) c.args.facts.now c.loop-fact.fact-index c.fact-item.result c.fact-item.is c.requires c.loop-fact-test.true

pub loop-fact-preserved : goal.loop-fact-preserved
loop-fact-preserved g c =
    let all = g.B.Bank.trees c.args.bank.now in
    let known = fact_known_at all c.args.facts.now c.loop-fact.fact-index c.fact-item.result c.fact-item.is c.requires c.loop-fact-test.true in
    record {
      known = repeats_known all c.loop-fact.kept c.add_new.new.facts (fact_of c.fact-item.result) (is_among (map (fact_at all) c.loop-fact.kept) (fact_at all (fact_of c.fact-item.result))) c.loop-fact.invariant.known known c.in_ok-add_new.ensures;
      are = repeats_on all c.args.facts.now c.loop-fact.fact-index c.fact-item.result c.loop-fact.kept c.add_new.new.facts c.loop-fact.invariant.are c.loop-fact-test.true c.fact-item.is c.in_ok-add_new.ensures;
    }

pub returns : goal.returns
returns g c = repeats_done (g.B.Bank.trees c.args.bank.now) c.args.facts.now c.loop-fact.fact-index c.loop-fact.kept c.loop-fact.invariant.known c.loop-fact.invariant.are c.loop-fact-test.false
