use Rattle.std.proofs.Common.{◌+◌, ◌∙◌, ap, sym, map, take}
use Rattle.spec_clauses.specs.Fact.{total, fact_size}
use Rattle.term_tree.specs.Bank.{capped}
use Rattle.clause_form.specs.Seen.{fact_at}
use Rattle.clause_form.specs.Facts.{fact_of}
use Rattle.clause_diffs.proofs.Lists.{total_more, total_all, total-map}
use Rattle.clause_form.proofs.Walks.{fact_known_at}
use Rattle.clause_form.proofs.size.size_of_facts.Goals as goal

pub size_of_fact-requires : goal.size_of_fact-requires
size_of_fact-requires g c = fact_known_at (g.B.Bank.trees c.args.bank.now) c.args.facts.now c.loop-fact.fact-index c.fact-item.result c.fact-item.is c.requires c.loop-fact-test.true

pub loop-fact-preserved : goal.loop-fact-preserved
loop-fact-preserved g c =
    let all = g.B.Bank.trees c.args.bank.now in
    let done = total (λ f. fact_size (fact_at all (fact_of f))) (take c.loop-fact.fact-index c.args.facts.now) in
    c.add_symbols-symbols.ensures _ _ c.loop-fact.invariant c.size_of_fact.ensures
    ∙ ap capped (ap (λ f. done + fact_size (fact_at all (fact_of f))) c.fact-item.is ∙ sym (total_more (λ f. fact_size (fact_at all (fact_of f))) c.args.facts.now c.loop-fact.fact-index c.fact-item.result c.loop-fact-test.true))

pub returns : goal.returns
returns g c =
    let all = g.B.Bank.trees c.args.bank.now in
    c.loop-fact.invariant
    ∙ ap capped (total_all (λ f. fact_size (fact_at all (fact_of f))) c.args.facts.now c.loop-fact.fact-index c.loop-fact-test.false
    ∙ (sym (total-map (λ f. fact_size (fact_at all f)) fact_of c.args.facts.now) ∙ sym (total-map fact_size (fact_at all) (map fact_of c.args.facts.now))))
