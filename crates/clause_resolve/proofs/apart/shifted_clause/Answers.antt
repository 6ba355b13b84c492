use Rattle.std.proofs.Common.{◌≡◌, sym, subst, List, map, arith, rules}
use Rattle.spec_calculus.specs.Bounds.{most_symbols}
use Rattle.spec_clauses.specs.Fact.{Fact}
use Rattle.term_tree.specs.declared.bank.Id.{Id}
use Rattle.term_tree.proofs.BankLaws.{Grows_trans}
use Rattle.clause_diffs.specs.Diffs.{DiffOf, AreDiffsIn}
use Rattle.clause_diffs.proofs.Naming.{AreDiffsIn-grows}
use Rattle.clause_form.specs.Facts.{fact_of}
use Rattle.clause_resolve.specs.Low.{IsLowFact, AreLowFacts, AreDiffsBelow}
use Rattle.clause_form.proofs.Flattening.{clause_with}
use Rattle.clause_diffs.proofs.Below.{diffs_below-grow}
use Rattle.clause_resolve.proofs.Shifting.{selected_within, hypotheses_low, conclusion_low, fact_low_at, IsLowFact-grows, AreLowFacts-grow, clause_set_apart_as}
use Rattle.clause_resolve.proofs.apart.shifted_clause.Goals as goal

pub bounds-facts-at : goal.bounds-facts-at
bounds-facts-at g c =
    let hyps_are : map fact_of c.as_slice-facts.result.now ≡ c.args.unsolved.now.hypotheses = search rules in
    selected_within (g.B.Bank.trees c.args.bank.now) c.args.unsolved.now c.as_slice-facts.result.now c.args.at hyps_are c.requires.there

pub offset_bounds-facts-at : goal.offset_bounds-facts-at
offset_bounds-facts-at g c =
    let hyps_are : map fact_of c.as_slice-facts.result.now ≡ c.args.unsolved.now.hypotheses = search rules in
    let within = selected_within (g.B.Bank.trees c.args.bank.now) c.args.unsolved.now c.as_slice-facts.result.now c.args.at hyps_are c.requires.there in
    omega (arith, c.as_slice-facts.type_inv)

pub shifted_fact-requires : goal.shifted_fact-requires
shifted_fact-requires g c =
    let old = g.B.Bank.trees c.args.bank.now in
    let hyps_are : map fact_of c.as_slice-facts.result.now ≡ c.args.unsolved.now.hypotheses = search rules in
    fact_low_at old c.as_slice-facts.result.now c.args.at c.index-facts-at.result c.index-facts-at.is (subst (λ (l : List (Fact Id)). AreLowFacts old l) (sym hyps_are) (hypotheses_low old c.args.unsolved.now c.requires.known c.requires.low))
    (selected_within old c.args.unsolved.now c.as_slice-facts.result.now c.args.at hyps_are c.requires.there)

pub shifted_others-requires-clause-facts : goal.shifted_others-requires-clause-facts
shifted_others-requires-clause-facts g c =
    let old = g.B.Bank.trees c.args.bank.now in
    let hyps_are : map fact_of c.as_slice-facts.result.now ≡ c.args.unsolved.now.hypotheses = search rules in
    AreLowFacts-grow old (g.B.Bank.trees c.shifted_fact.new.bank) (map fact_of c.as_slice-facts.result.now) c.shifted_fact.ensures.grows (subst (λ (l : List (Fact Id)). AreLowFacts old l) (sym hyps_are) (hypotheses_low old c.args.unsolved.now c.requires.known c.requires.low))

pub shifted_others-requires-clause-at : goal.shifted_others-requires-clause-at
shifted_others-requires-clause-at g c =
    let hyps_are : map fact_of c.as_slice-facts.result.now ≡ c.args.unsolved.now.hypotheses = search rules in
    selected_within (g.B.Bank.trees c.args.bank.now) c.args.unsolved.now c.as_slice-facts.result.now c.args.at hyps_are c.requires.there

pub shifted_diffs-requires-clause-known : goal.shifted_diffs-requires-clause-known
shifted_diffs-requires-clause-known g c =
    let old = g.B.Bank.trees c.args.bank.now in
    let now = g.B.Bank.trees c.shifted_others.new.bank in
    let grows = Grows_trans old (g.B.Bank.trees c.shifted_fact.new.bank) now c.shifted_fact.ensures.grows c.shifted_others.ensures.grows in
    let diffs_are : c.deref.result.now ≡ c.args.unsolved.now.diffs = search rules in
    subst (λ (l : List (DiffOf Id)). AreDiffsIn now l) (sym diffs_are) (AreDiffsIn-grows old now c.args.unsolved.now.diffs grows c.requires.known.diffs)

pub shifted_diffs-requires-clause-low : goal.shifted_diffs-requires-clause-low
shifted_diffs-requires-clause-low g c =
    let old = g.B.Bank.trees c.args.bank.now in
    let now = g.B.Bank.trees c.shifted_others.new.bank in
    let grows = Grows_trans old (g.B.Bank.trees c.shifted_fact.new.bank) now c.shifted_fact.ensures.grows c.shifted_others.ensures.grows in
    let diffs_are : c.deref.result.now ≡ c.args.unsolved.now.diffs = search rules in
    subst (λ (l : List (DiffOf Id)). AreDiffsBelow most_symbols now l) (sym diffs_are) (diffs_below-grow most_symbols old now c.args.unsolved.now.diffs grows c.requires.known.diffs c.requires.low.diffs)

pub shifted_fact-requires-2 : goal.shifted_fact-requires-2
shifted_fact-requires-2 g c =
    let old = g.B.Bank.trees c.args.bank.now in
    let two = g.B.Bank.trees c.shifted_others.new.bank in
    let new = g.B.Bank.trees c.shifted_diffs.new.bank in
    let grows = Grows_trans old two new (Grows_trans old (g.B.Bank.trees c.shifted_fact.new.bank) two c.shifted_fact.ensures.grows c.shifted_others.ensures.grows) c.shifted_diffs.ensures.grows in
    let concl_is : fact_of c.unsolved-inside.inside.0.1.1.0 ≡ c.args.unsolved.now.conclusion = search rules in
    subst (λ (f : Fact Id). IsLowFact new f) (sym concl_is) (IsLowFact-grows old new c.args.unsolved.now.conclusion grows (conclusion_low old c.args.unsolved.now c.requires.known c.requires.low))

pub returns-clause-apart : goal.returns-clause-apart
returns-clause-apart g c =
    let old = g.B.Bank.trees c.args.bank.now in
    let concl = fact_of c.unsolved-inside.inside.0.1.1.0 in
    let hyps_are : map fact_of c.as_slice-facts.result.now ≡ c.args.unsolved.now.hypotheses = search rules in
    let diffs_are : c.deref.result.now ≡ c.args.unsolved.now.diffs = search rules in
    let concl_is : concl ≡ c.args.unsolved.now.conclusion = search rules in
    let is : clause_with (map fact_of c.as_slice-facts.result.now) c.deref.result.now concl ≡ c.args.unsolved.now = λ i. clause_with (hyps_are i) (diffs_are i) (concl_is i) in
    let low = fact_low_at old c.as_slice-facts.result.now c.args.at c.index-facts-at.result c.index-facts-at.is (subst (λ (l : List (Fact Id)). AreLowFacts old l) (sym hyps_are) (hypotheses_low old c.args.unsolved.now c.requires.known c.requires.low))
    (selected_within old c.args.unsolved.now c.as_slice-facts.result.now c.args.at hyps_are c.requires.there) in
    clause_set_apart_as old (g.B.Bank.trees c.shifted_fact.new.bank) (g.B.Bank.trees c.shifted_others.new.bank) (g.B.Bank.trees c.shifted_diffs.new.bank) (g.B.Bank.trees c.shifted_fact-2.new.bank) c.args.unsolved.now c.args.at c.as_slice-facts.result.now c.deref.result.now concl c.index-facts-at.result
    c.in_ok-selected.selected c.in_ok-hyps.hyps c.in_ok-diffs.diffs c.in_ok-concl.concl is c.requires.known c.requires.there c.index-facts-at.is low c.shifted_fact.ensures.grows c.shifted_others.ensures.grows c.shifted_diffs.ensures.grows c.shifted_fact-2.ensures.grows
    c.in_ok-selected.ensures.names c.in_ok-hyps.ensures.names c.in_ok-diffs.ensures.names c.in_ok-diffs.ensures.low c.in_ok-concl.ensures.names

pub returns-in_err-hyps-clause-grows : goal.returns-in_err-hyps-clause-grows
returns-in_err-hyps-clause-grows g c = Grows_trans (g.B.Bank.trees c.args.bank.now) (g.B.Bank.trees c.shifted_fact.new.bank) (g.B.Bank.trees c.shifted_others.new.bank) c.shifted_fact.ensures.grows c.shifted_others.ensures.grows

pub returns-in_err-diffs-clause-grows : goal.returns-in_err-diffs-clause-grows
returns-in_err-diffs-clause-grows g c =
    let old = g.B.Bank.trees c.args.bank.now in
    let two = g.B.Bank.trees c.shifted_others.new.bank in
    Grows_trans old two (g.B.Bank.trees c.shifted_diffs.new.bank) (Grows_trans old (g.B.Bank.trees c.shifted_fact.new.bank) two c.shifted_fact.ensures.grows c.shifted_others.ensures.grows) c.shifted_diffs.ensures.grows

pub returns-in_err-concl-clause-grows : goal.returns-in_err-concl-clause-grows
returns-in_err-concl-clause-grows g c =
    let old = g.B.Bank.trees c.args.bank.now in
    let two = g.B.Bank.trees c.shifted_others.new.bank in
    let three = g.B.Bank.trees c.shifted_diffs.new.bank in
    Grows_trans old three (g.B.Bank.trees c.shifted_fact-2.new.bank) (Grows_trans old two three (Grows_trans old (g.B.Bank.trees c.shifted_fact.new.bank) two c.shifted_fact.ensures.grows c.shifted_others.ensures.grows) c.shifted_diffs.ensures.grows) c.shifted_fact-2.ensures.grows

pub returns-clause-grows : goal.returns-clause-grows
returns-clause-grows g c =
    let old = g.B.Bank.trees c.args.bank.now in
    let two = g.B.Bank.trees c.shifted_others.new.bank in
    let three = g.B.Bank.trees c.shifted_diffs.new.bank in
    Grows_trans old three (g.B.Bank.trees c.shifted_fact-2.new.bank) (Grows_trans old two three (Grows_trans old (g.B.Bank.trees c.shifted_fact.new.bank) two c.shifted_fact.ensures.grows c.shifted_others.ensures.grows) c.shifted_diffs.ensures.grows) c.shifted_fact-2.ensures.grows
