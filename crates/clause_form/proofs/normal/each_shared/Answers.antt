use Rattle.spec_clauses.specs.Norm.{is_lonely}
use Rattle.clause_form.specs.Facts.{fact_of}
use Rattle.clause_form.specs.Seen.{fact_at}
use Rattle.clause_form.proofs.Walks.{fact_known_at}
use Rattle.clause_form.proofs.Norming.{lonely_known, lonely_on, lonely_done}
use Rattle.clause_form.proofs.normal.each_shared.Goals as goal

pub add_unless_lonely-requires : goal.add_unless_lonely-requires
add_unless_lonely-requires g c = fact_known_at (g.B.Bank.trees c.args.bank.now) c.args.facts.now c.loop-fact.fact-index c.fact-item.result c.fact-item.is c.requires c.loop-fact-test.true

pub loop-fact-preserved : goal.loop-fact-preserved
loop-fact-preserved g c =
    let all = g.B.Bank.trees c.args.bank.now in
    let known = fact_known_at all c.args.facts.now c.loop-fact.fact-index c.fact-item.result c.fact-item.is c.requires c.loop-fact-test.true in
    record {
      known = lonely_known all c.loop-fact.kept c.add_unless_lonely.new.facts (fact_of c.fact-item.result) (is_lonely c.args.numbers.now (fact_at all (fact_of c.fact-item.result))) c.loop-fact.invariant.known known c.in_ok-add_unless_lonely.ensures;
      are = lonely_on all c.args.numbers.now c.args.facts.now c.loop-fact.fact-index c.fact-item.result c.loop-fact.kept c.add_unless_lonely.new.facts c.loop-fact.invariant.are c.loop-fact-test.true c.fact-item.is c.in_ok-add_unless_lonely.ensures;
    }

pub returns : goal.returns
returns g c = lonely_done (g.B.Bank.trees c.args.bank.now) c.args.numbers.now c.args.facts.now c.loop-fact.fact-index c.loop-fact.kept c.loop-fact.invariant.known c.loop-fact.invariant.are c.loop-fact-test.false
