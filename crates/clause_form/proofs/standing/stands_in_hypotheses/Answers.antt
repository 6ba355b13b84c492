use Rattle.std.proofs.Common.{◌∙◌, ◌+◌, nat_eq, flat_map, map, drop, ap, sym}
use Rattle.std.specs.List.{list_any}
use Rattle.std.proofs.lemmas.List.Folds.{flat_map-map}
use Rattle.clause_form.specs.Facts.{fact_of}
use Rattle.clause_form.specs.Seen.{fact_at}
use Rattle.clause_form.specs.Standing.{firm_numbers}
use Rattle.clause_form.proofs.Walks.{fact_known_at}
use Rattle.clause_form.proofs.Noted.{firms_each, any_on, any_past, any_here, any_later}
use Rattle.clause_form.proofs.standing.stands_in_hypotheses.Goals as goal

pub stands_in_firm-requires : goal.stands_in_firm-requires
stands_in_firm-requires g c = fact_known_at (g.B.Bank.trees c.args.bank.now) c.args.facts.now c.loop-fact.fact-index c.fact-item.result c.fact-item.is c.requires c.loop-fact-test.true

pub loop-fact-init : goal.loop-fact-init
loop-fact-init g c =
    let all = g.B.Bank.trees c.args.bank.now in
    ap (list_any (nat_eq c.args.number)) (firms_each (map (fact_at all) (map fact_of c.args.facts.now)) ∙ (flat_map-map firm_numbers (fact_at all) (map fact_of c.args.facts.now) ∙ flat_map-map (λ f. firm_numbers (fact_at all f)) fact_of c.args.facts.now))

pub returns-then-stands_in_firm : goal.returns-then-stands_in_firm
returns-then-stands_in_firm g c =
    let all = g.B.Bank.trees c.args.bank.now in
    let test = nat_eq c.args.number in
    let step = any_on test (λ f. firm_numbers (fact_at all (fact_of f))) c.args.facts.now c.loop-fact.fact-index c.fact-item.result c.loop-fact-test.true in
    any_here _ _ (list_any test (flat_map (λ f. firm_numbers (fact_at all (fact_of f))) (drop (c.loop-fact.fact-index + 1) c.args.facts.now))) (c.loop-fact.invariant ∙ step)
    (ap (λ f. list_any test (firm_numbers (fact_at all (fact_of f)))) (sym c.fact-item.is) ∙ (sym c.stands_in_firm.ensures ∙ c.if-stands_in_firm.true))

pub loop-fact-preserved : goal.loop-fact-preserved
loop-fact-preserved g c =
    let all = g.B.Bank.trees c.args.bank.now in
    let test = nat_eq c.args.number in
    let step = any_on test (λ f. firm_numbers (fact_at all (fact_of f))) c.args.facts.now c.loop-fact.fact-index c.fact-item.result c.loop-fact-test.true in
    c.loop-fact.invariant
    ∙ any_later _ _ (list_any test (flat_map (λ f. firm_numbers (fact_at all (fact_of f))) (drop (c.loop-fact.fact-index + 1) c.args.facts.now))) step
    (ap (λ f. list_any test (firm_numbers (fact_at all (fact_of f)))) (sym c.fact-item.is) ∙ (sym c.stands_in_firm.ensures ∙ c.if-stands_in_firm.false))

pub returns : goal.returns
returns g c =
    let all = g.B.Bank.trees c.args.bank.now in
    sym (c.loop-fact.invariant ∙ any_past (nat_eq c.args.number) (λ f. firm_numbers (fact_at all (fact_of f))) c.args.facts.now c.loop-fact.fact-index c.loop-fact-test.false)
