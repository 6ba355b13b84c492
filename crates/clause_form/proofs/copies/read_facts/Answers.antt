use Rattle.std.proofs.Common.{◌∙◌, ap, map, sym, arith}
use Rattle.std.proofs.lemmas.List.{take_all}
use Rattle.std.proofs.lemmas.Simd.{map-map}
use Rattle.std.proofs.lemmas.Grind.{common_steps}
use Rattle.clause_form.specs.Facts.{fact_of}
use Rattle.clause_form.specs.Seen.{fact_at}
use Rattle.clause_form.proofs.Walks.{fact_known_at}
use Rattle.clause_form.proofs.copies.read_facts.Goals as goal

pub read_fact-requires : goal.read_fact-requires
read_fact-requires g c = fact_known_at (g.B.Bank.trees c.args.bank.now) c.args.facts.now c.loop-fact.fact-index c.fact-item.result c.fact-item.is c.requires c.loop-fact-test.true

pub returns : goal.returns
returns g c =
    let all = g.B.Bank.trees c.args.bank.now in
    c.loop-fact.invariant ∙ (ap (map (λ f. fact_at all (fact_of f))) (take_all c.loop-fact.fact-index c.args.facts.now c.loop-fact-test.false) ∙ sym (map-map (fact_at all) fact_of c.args.facts.now))

pub loop-fact-preserved : goal.loop-fact-preserved
loop-fact-preserved g c = grind (arith, common_steps)

pub loop-fact-init : goal.loop-fact-init
loop-fact-init g c = grind (arith, common_steps)
