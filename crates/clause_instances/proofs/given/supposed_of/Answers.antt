use Rattle.std.proofs.Common.{◌≡◌, flat_map, ap, arith}
use Rattle.std.proofs.lemmas.Grind.{common_steps}
use Rattle.spec_terms.specs.Term.{Term}
use Rattle.spec_clauses.specs.Fact.{Clause, terms_of}
use Rattle.spec_attack_runs.specs.Attack.{supposed}
use Rattle.term_tree.proofs.BankLaws.{AreKnown-grows}
use Rattle.clause_instances.proofs.Closes.{Closes-grows, fact_terms, adds_alone}
use Rattle.clause_instances.proofs.Instancing.{supposed_small, supposed_large}
use Rattle.clause_instances.proofs.given.supposed_of.Goals as goal

pub add_fact-requires-clause-terms : goal.add_fact-requires-clause-terms
add_fact-requires-clause-terms c = AreKnown-grows c.args.bank.now c.add_facts.new.bank c.args.closing.now.terms c.add_facts.ensures.grows c.requires

pub returns-then-concl-hyps-clause-supposed : goal.returns-then-concl-hyps-clause-supposed
returns-then-concl-hyps-clause-supposed c = λ s closes.
    let old = c.args.bank.now in
    let now = c.add_facts.new.bank in
    let next = c.add_fact.new.bank in
    let later = Closes-grows old now c.args.closing.now s c.add_facts.ensures.grows c.requires closes in
    let raw : Clause Term = c.args.raw.now in
    let hyps_are : flat_map terms_of c.raw.inside.hyps ≡ supposed raw = ap supposed c.raw.view_is in
    let concl_is : fact_terms c.raw.inside.concl ≡ terms_of raw.conclusion = ap (λ (k : Clause Term). terms_of k.conclusion) c.raw.view_is in
    let hyps = adds_alone old now s (flat_map terms_of c.raw.inside.hyps) (supposed raw) c.no_ids-made.result c.add_facts.new.made c.in_ok-hyps.hyps c.no_ids-made.ensures hyps_are (c.in_ok-hyps.ensures.adds s closes) in
    let concl = adds_alone now next s (fact_terms c.raw.inside.concl) (terms_of raw.conclusion) c.no_ids-concluded.result c.add_fact.new.made c.in_ok-concl.concl c.no_ids-concluded.ensures concl_is (c.in_ok-concl.ensures.adds s later) in
    supposed_small old now next s raw c.add_facts.new.made c.add_fact.new.made c.in_ok-hyps.hyps c.in_ok-concl.concl hyps concl c.add_fact.ensures.grows c.in_ok-hyps.ensures.known c.if-concl-hyps.true

pub returns-clause-supposed : goal.returns-clause-supposed
returns-clause-supposed c = λ s closes.
    let old = c.args.bank.now in
    let now = c.add_facts.new.bank in
    let next = c.add_fact.new.bank in
    let later = Closes-grows old now c.args.closing.now s c.add_facts.ensures.grows c.requires closes in
    let raw : Clause Term = c.args.raw.now in
    let hyps_are : flat_map terms_of c.raw.inside.hyps ≡ supposed raw = ap supposed c.raw.view_is in
    let concl_is : fact_terms c.raw.inside.concl ≡ terms_of raw.conclusion = ap (λ (k : Clause Term). terms_of k.conclusion) c.raw.view_is in
    let hyps = adds_alone old now s (flat_map terms_of c.raw.inside.hyps) (supposed raw) c.no_ids-made.result c.add_facts.new.made c.in_ok-hyps.hyps c.no_ids-made.ensures hyps_are (c.in_ok-hyps.ensures.adds s closes) in
    let concl = adds_alone now next s (fact_terms c.raw.inside.concl) (terms_of raw.conclusion) c.no_ids-concluded.result c.add_fact.new.made c.in_ok-concl.concl c.no_ids-concluded.ensures concl_is (c.in_ok-concl.ensures.adds s later) in
    supposed_large old now next s raw c.add_facts.new.made c.add_fact.new.made c.in_ok-hyps.hyps c.in_ok-concl.concl hyps concl c.if-concl-hyps.false

pub returns-in_err-concl-clause-grows : goal.returns-in_err-concl-clause-grows
returns-in_err-concl-clause-grows c = grind (arith, common_steps)

pub returns-then-concl-hyps-clause-grows : goal.returns-then-concl-hyps-clause-grows
returns-then-concl-hyps-clause-grows c = grind (arith, common_steps)

pub returns-clause-grows : goal.returns-clause-grows
returns-clause-grows c = grind (arith, common_steps)
