use Rattle.std.proofs.Common.{◌∙◌, map, ap, sym}
use Rattle.std.proofs.lemmas.List.Folds.{flat_map-map}
use Rattle.clause_form.specs.Facts.{fact_of}
use Rattle.clause_form.specs.Seen.{fact_at}
use Rattle.clause_form.specs.Standing.{noted, firm_numbers}
use Rattle.clause_form.proofs.Walks.{fact_known_at}
use Rattle.clause_form.proofs.Noted.{noted_more, noted_all, firms_each}
use Rattle.clause_form.proofs.standing.note_in_hypotheses.Goals as goal

pub note_in_firm-requires : goal.note_in_firm-requires
note_in_firm-requires g c = fact_known_at (g.B.Bank.trees c.args.bank.now) c.args.facts.now c.loop-fact.fact-index c.fact-item.result c.fact-item.is c.requires c.loop-fact-test.true

pub loop-fact-preserved : goal.loop-fact-preserved
loop-fact-preserved g c =
    let all = g.B.Bank.trees c.args.bank.now in
    noted_more (λ f. firm_numbers (fact_at all (fact_of f))) c.args.facts.now c.loop-fact.fact-index c.fact-item.result c.args.table.now c.loop-fact.table _ c.loop-fact-test.true c.loop-fact.invariant
    (c.note_in_firm.ensures ∙ ap (λ f. noted c.loop-fact.table (firm_numbers (fact_at all (fact_of f)))) c.fact-item.is)

pub returns : goal.returns
returns g c =
    let all = g.B.Bank.trees c.args.bank.now in
    noted_all (λ f. firm_numbers (fact_at all (fact_of f))) c.args.facts.now c.loop-fact.fact-index c.args.table.now c.loop-fact.table c.loop-fact-test.false c.loop-fact.invariant
    ∙ ap (λ l. noted c.args.table.now l) (sym (flat_map-map (λ f. firm_numbers (fact_at all f)) fact_of c.args.facts.now) ∙ (sym (flat_map-map firm_numbers (fact_at all) (map fact_of c.args.facts.now)) ∙ sym (firms_each (map (fact_at all) (map fact_of c.args.facts.now)))))
