use Rattle.std.proofs.Common.{◌≡◌, ◌∙◌, List, map, ap, sym, subst, arith}
use Rattle.std.proofs.lemmas.Grind.{common_steps}
use Rattle.spec_clauses.specs.Fact.{Fact}
use Rattle.term_tree.specs.declared.bank.Id.{Id}
use Rattle.clause_form.specs.Facts.{fact_of}
use Rattle.clause_form.specs.Seen.{AreFactsIn}
use Rattle.clause_form.proofs.Walks.{fact_known_at}
use Rattle.clause_form.proofs.Flattening.{all_flat}
use Rattle.clause_form.proofs.flat.flat_of_all.Goals as goal

pub add_flat-requires-clause-fact : goal.add_flat-requires-clause-fact
add_flat-requires-clause-fact g c =
    let all = g.B.Bank.trees c.args.bank.now in
    let seen : map fact_of c.deref-fact-items.result.now ≡ c.args.facts.now = ap (map fact_of) c.deref-fact-items.ensures.value ∙ c.facts.view_is in
    fact_known_at all c.deref-fact-items.result.now c.loop-fact.fact-index c.fact-item.result c.fact-item.is (subst (λ (l : List (Fact Id)). AreFactsIn all l) (sym seen) c.requires) c.loop-fact-test.true

pub returns : goal.returns
returns g c =
    let seen : map fact_of c.deref-fact-items.result.now ≡ c.args.facts.now = ap (map fact_of) c.deref-fact-items.ensures.value ∙ c.facts.view_is in
    all_flat (g.B.Bank.trees c.args.bank.now) c.deref-fact-items.result.now c.args.facts.now c.loop-fact.made c.loop-fact.fact-index seen c.loop-fact.invariant.known c.loop-fact.invariant.are c.loop-fact-test.false

pub loop-fact-preserved : goal.loop-fact-preserved
loop-fact-preserved g c = grind (arith, common_steps)
