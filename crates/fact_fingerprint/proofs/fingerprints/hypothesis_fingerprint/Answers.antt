use Rattle.std.proofs.Common.{◌≡◌, List, map, Some, ap, sym, ◌∙◌, subst, rules, arith}
use Rattle.spec_clauses.specs.Fact.{Fact}
use Rattle.term_tree.specs.declared.bank.Id.{Id}
use Rattle.clause_form.specs.Facts.{fact_of}
use Rattle.clause_form.specs.Seen.{fact_at, clause_at, AreFactsIn}
use Rattle.clause_form.proofs.Walks.{fact_known_at}
use Rattle.fact_fingerprint.proofs.Telling.{at_place, at_none, place_within, facts_within, fact_there}
use Rattle.fact_fingerprint.proofs.fingerprints.hypothesis_fingerprint.Goals as goal

pub bounds-facts-at : goal.bounds-facts-at
bounds-facts-at g c =
    let all = g.B.Bank.trees c.args.bank.now in
    let are : map fact_of c.as_slice-facts.result.now ≡ c.args.clause.now.hypotheses = search rules in
    facts_within all c.args.clause.now c.as_slice-facts.result.now are c.in-Some.at (place_within (clause_at all c.args.clause.now) c.selected.result c.in-Some.at c.selected.ensures.place c.in-Some.is)

pub offset_bounds-facts-at : goal.offset_bounds-facts-at
offset_bounds-facts-at g c =
    let all = g.B.Bank.trees c.args.bank.now in
    let are : map fact_of c.as_slice-facts.result.now ≡ c.args.clause.now.hypotheses = search rules in
    let within = facts_within all c.args.clause.now c.as_slice-facts.result.now are c.in-Some.at (place_within (clause_at all c.args.clause.now) c.selected.result c.in-Some.at c.selected.ensures.place c.in-Some.is) in
    omega (arith, c.as_slice-facts.type_inv)

pub fingerprint_of_fact-requires : goal.fingerprint_of_fact-requires
fingerprint_of_fact-requires g c =
    let all = g.B.Bank.trees c.args.bank.now in
    let are : map fact_of c.as_slice-facts.result.now ≡ c.args.clause.now.hypotheses = search rules in
    let within = facts_within all c.args.clause.now c.as_slice-facts.result.now are c.in-Some.at (place_within (clause_at all c.args.clause.now) c.selected.result c.in-Some.at c.selected.ensures.place c.in-Some.is) in
    fact_known_at all c.as_slice-facts.result.now c.in-Some.at c.index-facts-at.result c.index-facts-at.is (subst (λ (l : List (Fact Id)). AreFactsIn all l) (sym are) c.requires.known.hypotheses) within

pub returns-in-Some : goal.returns-in-Some
returns-in-Some g c =
    let all = g.B.Bank.trees c.args.bank.now in
    let are : map fact_of c.as_slice-facts.result.now ≡ c.args.clause.now.hypotheses = search rules in
    let within = facts_within all c.args.clause.now c.as_slice-facts.result.now are c.in-Some.at (place_within (clause_at all c.args.clause.now) c.selected.result c.in-Some.at c.selected.ensures.place c.in-Some.is) in
    ap Some c.fingerprint_of_fact.ensures
    ∙ sym (at_place (clause_at all c.args.clause.now) c.selected.result c.in-Some.at (fact_at all (fact_of c.index-facts-at.result)) c.selected.ensures.place c.in-Some.is
    (fact_there all c.args.clause.now c.as_slice-facts.result.now are c.in-Some.at c.index-facts-at.result within c.index-facts-at.is))

pub returns-in-None : goal.returns-in-None
returns-in-None g c = sym (at_none (clause_at (g.B.Bank.trees c.args.bank.now) c.args.clause.now) c.selected.result c.selected.ensures.place c.in-None.is)
