use Rattle.std.proofs.Common.{◌≡◌, ap, sym, subst, List, map, arith, rules}
use Rattle.std.proofs.lemmas.Grind.{common_steps}
use Rattle.spec_clauses.specs.Fact.{Fact}
use Rattle.term_tree.specs.declared.bank.Id.{Id}
use Rattle.clause_form.specs.Facts.{fact_of}
use Rattle.clause_form.specs.Seen.{fact_at, clause_at, AreFactsIn, IdClause}
use Rattle.clause_form.proofs.Walks.{fact_known_at}
use Rattle.clause_resolve.proofs.Low.{low_terms}
use Rattle.clause_resolve.proofs.Shifting.{selected_within, selected_fact}
use Rattle.clause_resolve.proofs.Answering.{clashing, taken_back, as_before}
use Rattle.term_tree.proofs.BankLaws.{Grows-length, Grows_refl}
use Rattle.clause_resolve.proofs.resolving.resolvents_at.Goals as goal

pub bounds-facts-at : goal.bounds-facts-at
bounds-facts-at g c =
    let hyps_are : map fact_of c.as_slice-facts.result.now ≡ c.args.unsolved.now.hypotheses = search rules in
    selected_within (g.B.Bank.trees c.args.bank.now) c.args.unsolved.now c.as_slice-facts.result.now c.args.at hyps_are c.requires.there

pub offset_bounds-facts-at : goal.offset_bounds-facts-at
offset_bounds-facts-at g c =
    let hyps_are : map fact_of c.as_slice-facts.result.now ≡ c.args.unsolved.now.hypotheses = search rules in
    let within = selected_within (g.B.Bank.trees c.args.bank.now) c.args.unsolved.now c.as_slice-facts.result.now c.args.at hyps_are c.requires.there in
    omega (arith, c.as_slice-facts.type_inv)

pub clash-requires-clause-right : goal.clash-requires-clause-right
clash-requires-clause-right g c =
    let all = g.B.Bank.trees c.args.bank.now in
    let hyps_are : map fact_of c.as_slice-facts.result.now ≡ c.args.unsolved.now.hypotheses = search rules in
    fact_known_at all c.as_slice-facts.result.now c.args.at c.index-facts-at.result c.index-facts-at.is (subst (λ (l : List (Fact Id)). AreFactsIn all l) (sym hyps_are) c.requires.unsolved.hypotheses)
    (selected_within all c.args.unsolved.now c.as_slice-facts.result.now c.args.at hyps_are c.requires.there)

pub returns-then-clash-clause-answer : goal.returns-then-clash-clause-answer
returns-then-clash-clause-answer g c =
    let all = g.B.Bank.trees c.args.bank.now in
    let hyps_are : map fact_of c.as_slice-facts.result.now ≡ c.args.unsolved.now.hypotheses = search rules in
    let within = selected_within all c.args.unsolved.now c.as_slice-facts.result.now c.args.at hyps_are c.requires.there in
    let f = fact_at all (fact_of c.index-facts-at.result) in
    clashing (clause_at all c.args.solved.now) (clause_at all c.args.unsolved.now) c.args.at _ f (ap (λ (k : IdClause). fact_at all k.conclusion) c.solved.view_is) c.requires.there (low_terms all c.args.solved.now c.requires.solved_low)
    (selected_fact all c.args.unsolved.now c.as_slice-facts.result.now c.args.at c.index-facts-at.result f hyps_are within c.index-facts-at.is) (c.clash.ensures c.if-clash.true)

pub returns-in-Ok-NoUnifier-clause-grows : goal.returns-in-Ok-NoUnifier-clause-grows
returns-in-Ok-NoUnifier-clause-grows g c = taken_back (g.B.Bank.trees c.args.bank.now) (g.B.Bank.trees c.resolvents_grown.new.bank) (g.B.Bank.trees c.back.new.self) _ c.resolvents_grown.ensures.grows c.mark-mark.ensures c.back.ensures

pub returns-in-Ok-Large-clause-grows : goal.returns-in-Ok-Large-clause-grows
returns-in-Ok-Large-clause-grows g c = taken_back (g.B.Bank.trees c.args.bank.now) (g.B.Bank.trees c.resolvents_grown.new.bank) (g.B.Bank.trees c.back-in-Ok-Large.new.self) _ c.resolvents_grown.ensures.grows c.mark-mark.ensures c.back-in-Ok-Large.ensures

pub returns-in-Err-clause-grows : goal.returns-in-Err-clause-grows
returns-in-Err-clause-grows g c = taken_back (g.B.Bank.trees c.args.bank.now) (g.B.Bank.trees c.resolvents_grown.new.bank) (g.B.Bank.trees c.back-in-Err.new.self) _ c.resolvents_grown.ensures.grows c.mark-mark.ensures c.back-in-Err.ensures

pub returns-in-Ok-NoUnifier-clause-as_before : goal.returns-in-Ok-NoUnifier-clause-as_before
returns-in-Ok-NoUnifier-clause-as_before g c = as_before (g.B.Bank.trees c.args.bank.now) (g.B.Bank.trees c.resolvents_grown.new.bank) (g.B.Bank.trees c.back.new.self) _ c.resolvents_grown.ensures.grows c.mark-mark.ensures c.back.ensures

pub returns-in-Ok-Large-clause-as_before : goal.returns-in-Ok-Large-clause-as_before
returns-in-Ok-Large-clause-as_before g c = as_before (g.B.Bank.trees c.args.bank.now) (g.B.Bank.trees c.resolvents_grown.new.bank) (g.B.Bank.trees c.back-in-Ok-Large.new.self) _ c.resolvents_grown.ensures.grows c.mark-mark.ensures c.back-in-Ok-Large.ensures

pub returns-in-Err-clause-err : goal.returns-in-Err-clause-err
returns-in-Err-clause-err g c = as_before (g.B.Bank.trees c.args.bank.now) (g.B.Bank.trees c.resolvents_grown.new.bank) (g.B.Bank.trees c.back-in-Err.new.self) _ c.resolvents_grown.ensures.grows c.mark-mark.ensures c.back-in-Err.ensures

pub back-requires : goal.back-requires
back-requires g c = omega (arith, c.mark-mark.ensures, Grows-length (g.B.Bank.trees c.args.bank.now) (g.B.Bank.trees c.resolvents_grown.new.bank) c.resolvents_grown.ensures.grows)

pub back-requires-in-Ok-Large : goal.back-requires-in-Ok-Large
back-requires-in-Ok-Large g c = omega (arith, c.mark-mark.ensures, Grows-length (g.B.Bank.trees c.args.bank.now) (g.B.Bank.trees c.resolvents_grown.new.bank) c.resolvents_grown.ensures.grows)

pub back-requires-in-Err : goal.back-requires-in-Err
back-requires-in-Err g c = omega (arith, c.mark-mark.ensures, Grows-length (g.B.Bank.trees c.args.bank.now) (g.B.Bank.trees c.resolvents_grown.new.bank) c.resolvents_grown.ensures.grows)

pub returns-then-clash-clause-grows : goal.returns-then-clash-clause-grows
returns-then-clash-clause-grows g c = Grows_refl (g.B.Bank.trees c.args.bank.now)

pub returns-in-Ok-Clauses-clause-answer : goal.returns-in-Ok-Clauses-clause-answer
returns-in-Ok-Clauses-clause-answer g c = grind (arith, common_steps)

pub returns-in-Ok-Large-clause-answer : goal.returns-in-Ok-Large-clause-answer
returns-in-Ok-Large-clause-answer g c = grind (arith, common_steps)

pub returns-in-Ok-NoUnifier-clause-answer : goal.returns-in-Ok-NoUnifier-clause-answer
returns-in-Ok-NoUnifier-clause-answer g c = grind (arith, common_steps)

pub returns-in-Ok-Clauses-clause-low : goal.returns-in-Ok-Clauses-clause-low
returns-in-Ok-Clauses-clause-low g c = grind (arith, common_steps)
