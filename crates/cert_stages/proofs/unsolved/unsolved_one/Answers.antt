use Rattle.std.proofs.Common.{◌≡◌, ◌∙◌, List, map, ap, sym, subst, rules, arith}
use Rattle.spec_terms.proofs.Replace.{some_same}
use Rattle.spec_clauses.specs.Fact.{Fact}
use Rattle.spec_fingerprints.specs.Fingerprints.{fingerprint_of}
use Rattle.term_tree.specs.declared.bank.Id.{Id}
use Rattle.clause_form.specs.Facts.{fact_of}
use Rattle.clause_form.specs.Seen.{clause_at, AreFactsIn}
use Rattle.clause_form.proofs.Walks.{fact_known_at}
use Rattle.fact_fingerprint.proofs.Telling.{facts_within, fact_there}
use Rattle.cert_stages.proofs.Numbers.{chosen_there}
use Rattle.cert_stages.proofs.unsolved.unsolved_one.Goals as goal

pub bounds-facts-at : goal.bounds-facts-at
bounds-facts-at g c =
    let are : map fact_of c.as_slice-facts.result.now ≡ c.args.clause.now.hypotheses = search rules in
    facts_within (g.B.Bank.trees c.args.bank.now) c.args.clause.now c.as_slice-facts.result.now are c.args.at c.requires.there

pub offset_bounds-facts-at : goal.offset_bounds-facts-at
offset_bounds-facts-at g c =
    let are : map fact_of c.as_slice-facts.result.now ≡ c.args.clause.now.hypotheses = search rules in
    let within = facts_within (g.B.Bank.trees c.args.bank.now) c.args.clause.now c.as_slice-facts.result.now are c.args.at c.requires.there in
    omega (arith, c.as_slice-facts.type_inv)

pub fingerprint_of_fact-print-requires : goal.fingerprint_of_fact-print-requires
fingerprint_of_fact-print-requires g c =
    let all = g.B.Bank.trees c.args.bank.now in
    let are : map fact_of c.as_slice-facts.result.now ≡ c.args.clause.now.hypotheses = search rules in
    let within = facts_within all c.args.clause.now c.as_slice-facts.result.now are c.args.at c.requires.there in
    fact_known_at all c.as_slice-facts.result.now c.args.at c.index-facts-at.result c.index-facts-at.is (subst (λ (l : List (Fact Id)). AreFactsIn all l) (sym are) c.requires.known.hypotheses) within

pub returns-clause-print : goal.returns-clause-print
returns-clause-print g c = λ chosen e.
    let all = g.B.Bank.trees c.args.bank.now in
    let are : map fact_of c.as_slice-facts.result.now ≡ c.args.clause.now.hypotheses = search rules in
    let within = facts_within all c.args.clause.now c.as_slice-facts.result.now are c.args.at c.requires.there in
    let there = fact_there all c.args.clause.now c.as_slice-facts.result.now are c.args.at c.index-facts-at.result within c.index-facts-at.is in
    c.fingerprint_of_fact-print.ensures ∙ ap fingerprint_of (some_same (sym there ∙ chosen_there (clause_at all c.args.clause.now).hypotheses c.args.at chosen e))
