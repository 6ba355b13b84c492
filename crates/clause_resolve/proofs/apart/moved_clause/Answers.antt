use Rattle.std.proofs.Common.{◌≡◌, sym, subst, List, map, rules}
use Rattle.spec_calculus.specs.Bounds.{most_symbols}
use Rattle.spec_clauses.specs.Fact.{Fact}
use Rattle.term_tree.specs.declared.bank.Id.{Id}
use Rattle.term_tree.proofs.BankLaws.{Grows_trans}
use Rattle.clause_diffs.specs.Diffs.{DiffOf, AreDiffsIn}
use Rattle.clause_diffs.proofs.Naming.{AreDiffsIn-grows}
use Rattle.clause_form.specs.Facts.{fact_of}
use Rattle.clause_resolve.specs.Low.{IsLowFact, AreLowFacts, AreDiffsBelow}
use Rattle.clause_form.proofs.Flattening.{clause_with}
use Rattle.clause_diffs.proofs.Below.{diffs_below-grow}
use Rattle.clause_resolve.proofs.Shifting.{hypotheses_low, conclusion_low, IsLowFact-grows, clause_moved_as}
use Rattle.clause_resolve.proofs.apart.moved_clause.Goals as goal

pub shifted_facts-requires : goal.shifted_facts-requires
shifted_facts-requires g c =
    let old = g.B.Bank.trees c.args.bank.now in
    let hyps_are : map fact_of c.deref.result.now ≡ c.args.clause.now.hypotheses = search rules in
    subst (λ (l : List (Fact Id)). AreLowFacts old l) (sym hyps_are) (hypotheses_low old c.args.clause.now c.requires.known c.requires.low)

pub shifted_diffs-requires-clause-known : goal.shifted_diffs-requires-clause-known
shifted_diffs-requires-clause-known g c =
    let now = g.B.Bank.trees c.shifted_facts.new.bank in
    let diffs_are : c.deref-2.result.now ≡ c.args.clause.now.diffs = search rules in
    subst (λ (l : List (DiffOf Id)). AreDiffsIn now l) (sym diffs_are) (AreDiffsIn-grows (g.B.Bank.trees c.args.bank.now) now c.args.clause.now.diffs c.shifted_facts.ensures.grows c.requires.known.diffs)

pub shifted_diffs-requires-clause-low : goal.shifted_diffs-requires-clause-low
shifted_diffs-requires-clause-low g c =
    let now = g.B.Bank.trees c.shifted_facts.new.bank in
    let diffs_are : c.deref-2.result.now ≡ c.args.clause.now.diffs = search rules in
    subst (λ (l : List (DiffOf Id)). AreDiffsBelow most_symbols now l) (sym diffs_are) (diffs_below-grow most_symbols (g.B.Bank.trees c.args.bank.now) now c.args.clause.now.diffs c.shifted_facts.ensures.grows c.requires.known.diffs c.requires.low.diffs)

pub shifted_fact-requires : goal.shifted_fact-requires
shifted_fact-requires g c =
    let old = g.B.Bank.trees c.args.bank.now in
    let new = g.B.Bank.trees c.shifted_diffs.new.bank in
    let grows = Grows_trans old (g.B.Bank.trees c.shifted_facts.new.bank) new c.shifted_facts.ensures.grows c.shifted_diffs.ensures.grows in
    let concl_is : fact_of c.clause-inside.inside.0.1.1.0 ≡ c.args.clause.now.conclusion = search rules in
    subst (λ (f : Fact Id). IsLowFact new f) (sym concl_is) (IsLowFact-grows old new c.args.clause.now.conclusion grows (conclusion_low old c.args.clause.now c.requires.known c.requires.low))

pub returns-clause-names : goal.returns-clause-names
returns-clause-names g c =
    let old = g.B.Bank.trees c.args.bank.now in
    let concl = fact_of c.clause-inside.inside.0.1.1.0 in
    let hyps_are : map fact_of c.deref.result.now ≡ c.args.clause.now.hypotheses = search rules in
    let diffs_are : c.deref-2.result.now ≡ c.args.clause.now.diffs = search rules in
    let concl_is : concl ≡ c.args.clause.now.conclusion = search rules in
    let is : clause_with (map fact_of c.deref.result.now) c.deref-2.result.now concl ≡ c.args.clause.now = λ i. clause_with (hyps_are i) (diffs_are i) (concl_is i) in
    let made = clause_moved_as old (g.B.Bank.trees c.shifted_facts.new.bank) (g.B.Bank.trees c.shifted_diffs.new.bank) (g.B.Bank.trees c.shifted_fact.new.bank) c.args.clause.now (map fact_of c.deref.result.now) c.deref-2.result.now concl c.in_ok-hyps.hyps c.in_ok-diffs.diffs (fact_of c.in_ok-concl.concl)
    is c.requires.known c.requires.low c.shifted_facts.ensures.grows c.shifted_diffs.ensures.grows c.shifted_fact.ensures.grows c.in_ok-hyps.ensures.names c.in_ok-diffs.ensures.names c.in_ok-diffs.ensures.low c.in_ok-concl.ensures.names in
    made.names

pub returns-clause-low : goal.returns-clause-low
returns-clause-low g c =
    let old = g.B.Bank.trees c.args.bank.now in
    let concl = fact_of c.clause-inside.inside.0.1.1.0 in
    let hyps_are : map fact_of c.deref.result.now ≡ c.args.clause.now.hypotheses = search rules in
    let diffs_are : c.deref-2.result.now ≡ c.args.clause.now.diffs = search rules in
    let concl_is : concl ≡ c.args.clause.now.conclusion = search rules in
    let is : clause_with (map fact_of c.deref.result.now) c.deref-2.result.now concl ≡ c.args.clause.now = λ i. clause_with (hyps_are i) (diffs_are i) (concl_is i) in
    let made = clause_moved_as old (g.B.Bank.trees c.shifted_facts.new.bank) (g.B.Bank.trees c.shifted_diffs.new.bank) (g.B.Bank.trees c.shifted_fact.new.bank) c.args.clause.now (map fact_of c.deref.result.now) c.deref-2.result.now concl c.in_ok-hyps.hyps c.in_ok-diffs.diffs (fact_of c.in_ok-concl.concl)
    is c.requires.known c.requires.low c.shifted_facts.ensures.grows c.shifted_diffs.ensures.grows c.shifted_fact.ensures.grows c.in_ok-hyps.ensures.names c.in_ok-diffs.ensures.names c.in_ok-diffs.ensures.low c.in_ok-concl.ensures.names in
    made.below

pub returns-in_err-diffs-clause-grows : goal.returns-in_err-diffs-clause-grows
returns-in_err-diffs-clause-grows g c = Grows_trans (g.B.Bank.trees c.args.bank.now) (g.B.Bank.trees c.shifted_facts.new.bank) (g.B.Bank.trees c.shifted_diffs.new.bank) c.shifted_facts.ensures.grows c.shifted_diffs.ensures.grows

pub returns-in_err-concl-clause-grows : goal.returns-in_err-concl-clause-grows
returns-in_err-concl-clause-grows g c =
    let old = g.B.Bank.trees c.args.bank.now in
    let two = g.B.Bank.trees c.shifted_diffs.new.bank in
    Grows_trans old two (g.B.Bank.trees c.shifted_fact.new.bank) (Grows_trans old (g.B.Bank.trees c.shifted_facts.new.bank) two c.shifted_facts.ensures.grows c.shifted_diffs.ensures.grows) c.shifted_fact.ensures.grows

pub returns-clause-grows : goal.returns-clause-grows
returns-clause-grows g c =
    let old = g.B.Bank.trees c.args.bank.now in
    let two = g.B.Bank.trees c.shifted_diffs.new.bank in
    Grows_trans old two (g.B.Bank.trees c.shifted_fact.new.bank) (Grows_trans old (g.B.Bank.trees c.shifted_facts.new.bank) two c.shifted_facts.ensures.grows c.shifted_diffs.ensures.grows) c.shifted_fact.ensures.grows
