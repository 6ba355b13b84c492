use Rattle.std.proofs.Common.{◌≡◌, List, map, sym, subst, rules, arith}
use Rattle.std.proofs.lemmas.Result.{err_from_is_err_and}
use Rattle.spec_clauses.specs.Fact.{Fact}
use Rattle.term_tree.specs.declared.bank.Id.{Id}
use Rattle.unify_match.proofs.SeenLemmas.{IsReady-grows}
use Rattle.clause_diffs.specs.Diffs.{DiffOf, AreDiffsIn}
use Rattle.clause_diffs.proofs.Naming.{AreDiffsIn-grows}
use Rattle.clause_form.specs.Facts.{fact_of}
use Rattle.clause_form.specs.Seen.{AreFactsIn}
use Rattle.clause_form.proofs.Copying.{AreFactsIn-grows}
use Rattle.clause_resolve.specs.Low.{bound_from, AreDiffsBelow, KeepsBelow}
use Rattle.clause_resolve.proofs.Stopping.{stops_as}
use Rattle.clause_form.proofs.Flattening.{clause_with}
use Rattle.clause_diffs.proofs.Below.{diffs_below-grow}
use Rattle.clause_resolve.proofs.SpendingLaws.{stands, clause_applied_as, hypotheses_short_as, diffs_short_as}
use Rattle.term_tree.proofs.BankLaws.{Grows_trans}
use Rattle.clause_resolve.proofs.applying.applied_clause.Goals as goal

pub applied_facts-requires-clause-known : goal.applied_facts-requires-clause-known
applied_facts-requires-clause-known g c =
    let now = g.B.Bank.trees c.applied_fact.new.bank in
    let hyps_are : map fact_of c.deref.result.now ≡ c.args.clause.now.hypotheses = search rules in
    subst (λ (l : List (Fact Id)). AreFactsIn now l) (sym hyps_are) (AreFactsIn-grows (g.B.Bank.trees c.args.bank.now) now c.args.clause.now.hypotheses c.applied_fact.ensures.grows c.requires.known.hypotheses)

pub applied_facts-requires-clause-ready : goal.applied_facts-requires-clause-ready
applied_facts-requires-clause-ready g c = IsReady-grows (g.B.Bank.trees c.args.bank.now) (g.B.Bank.trees c.applied_fact.new.bank) c.args.binds.now.pairs c.applied_fact.ensures.grows c.requires.ready

pub applied_diffs-requires-clause-known : goal.applied_diffs-requires-clause-known
applied_diffs-requires-clause-known g c =
    let old = g.B.Bank.trees c.args.bank.now in
    let now = g.B.Bank.trees c.applied_facts.new.bank in
    let grows = Grows_trans old (g.B.Bank.trees c.applied_fact.new.bank) now c.applied_fact.ensures.grows c.applied_facts.ensures.grows in
    let diffs_are : c.deref-2.result.now ≡ c.args.clause.now.diffs = search rules in
    subst (λ (l : List (DiffOf Id)). AreDiffsIn now l) (sym diffs_are) (AreDiffsIn-grows old now c.args.clause.now.diffs grows c.requires.known.diffs)

pub applied_diffs-requires-clause-ready : goal.applied_diffs-requires-clause-ready
applied_diffs-requires-clause-ready g c =
    let old = g.B.Bank.trees c.args.bank.now in
    let now = g.B.Bank.trees c.applied_facts.new.bank in
    IsReady-grows old now c.args.binds.now.pairs (Grows_trans old (g.B.Bank.trees c.applied_fact.new.bank) now c.applied_fact.ensures.grows c.applied_facts.ensures.grows) c.requires.ready

pub applied_diffs-requires-clause-low : goal.applied_diffs-requires-clause-low
applied_diffs-requires-clause-low g c =
    let old = g.B.Bank.trees c.args.bank.now in
    let now = g.B.Bank.trees c.applied_facts.new.bank in
    let grows = Grows_trans old (g.B.Bank.trees c.applied_fact.new.bank) now c.applied_fact.ensures.grows c.applied_facts.ensures.grows in
    let diffs_are : c.deref-2.result.now ≡ c.args.clause.now.diffs = search rules in
    subst (λ (l : List (DiffOf Id)). AreDiffsBelow bound_from now l) (sym diffs_are) (diffs_below-grow bound_from old now c.args.clause.now.diffs grows c.requires.known.diffs c.requires.low)

pub applied_diffs-requires-clause-kept : goal.applied_diffs-requires-clause-kept
applied_diffs-requires-clause-kept g c =
    let old = g.B.Bank.trees c.args.bank.now in
    let now = g.B.Bank.trees c.applied_facts.new.bank in
    let grows = Grows_trans old (g.B.Bank.trees c.applied_fact.new.bank) now c.applied_fact.ensures.grows c.applied_facts.ensures.grows in
    subst (KeepsBelow bound_from) (sym (stands old now c.args.binds.now.pairs grows c.requires.ready)) c.requires.kept

pub applied_diffs-requires-clause-small : goal.applied_diffs-requires-clause-small
applied_diffs-requires-clause-small g c =
    let spent = c.in_ok-hyps.ensures.outcome.1 in
    let before = c.applied_fact.ensures.at_most in
    omega (arith, spent, before)

pub returns-in_err-hyps-clause-outcome : goal.returns-in_err-hyps-clause-outcome
returns-in_err-hyps-clause-outcome g c =
    let old = g.B.Bank.trees c.args.bank.now in
    let one = g.B.Bank.trees c.applied_fact.new.bank in
    let concl = fact_of c.clause-inside.inside.0.1.1.0 in
    let hyps_are : map fact_of c.deref.result.now ≡ c.args.clause.now.hypotheses = search rules in
    let concl_is : concl ≡ c.args.clause.now.conclusion = search rules in
    let is : clause_with (map fact_of c.deref.result.now) c.args.clause.now.diffs concl ≡ c.args.clause.now = λ i. clause_with (hyps_are i) c.args.clause.now.diffs (concl_is i) in
    let p = err_from_is_err_and c.from_residual-in_err-hyps.result c.from_residual-in_err-hyps.ensures.1 in
    rw (p.1, p.2) (stops_as c.in_err-hyps.field-0.0 _ _ (hypotheses_short_as old one one c.args.binds.now.pairs (map fact_of c.deref.result.now) c.args.clause.now.diffs concl c.args.clause.now is c.requires.ready c.applied_fact.ensures.grows c.requires.known c.applied_fact.new.left
    c.in_ok-concl.ensures.outcome.1) c.in_err-hyps.ensures.outcome)

pub returns-in_err-diffs-clause-outcome : goal.returns-in_err-diffs-clause-outcome
returns-in_err-diffs-clause-outcome g c =
    let old = g.B.Bank.trees c.args.bank.now in
    let one = g.B.Bank.trees c.applied_fact.new.bank in
    let two = g.B.Bank.trees c.applied_facts.new.bank in
    let concl = fact_of c.clause-inside.inside.0.1.1.0 in
    let hyps_are : map fact_of c.deref.result.now ≡ c.args.clause.now.hypotheses = search rules in
    let diffs_are : c.deref-2.result.now ≡ c.args.clause.now.diffs = search rules in
    let concl_is : concl ≡ c.args.clause.now.conclusion = search rules in
    let is : clause_with (map fact_of c.deref.result.now) c.deref-2.result.now concl ≡ c.args.clause.now = λ i. clause_with (hyps_are i) (diffs_are i) (concl_is i) in
    let p = err_from_is_err_and c.from_residual-in_err-diffs.result c.from_residual-in_err-diffs.ensures.1 in
    rw (p.1, p.2) (stops_as c.in_err-diffs.field-0.0 _ _ (diffs_short_as old one two c.args.binds.now.pairs (map fact_of c.deref.result.now) c.deref-2.result.now concl c.args.clause.now is c.requires.ready c.applied_fact.ensures.grows c.requires.known c.applied_fact.new.left c.applied_facts.new.left
    c.applied_facts.ensures.grows c.in_ok-concl.ensures.outcome.1 c.in_ok-hyps.ensures.outcome.1) c.in_err-diffs.ensures.outcome)

pub returns-clause-outcome : goal.returns-clause-outcome
returns-clause-outcome g c =
    let old = g.B.Bank.trees c.args.bank.now in
    let one = g.B.Bank.trees c.applied_fact.new.bank in
    let two = g.B.Bank.trees c.applied_facts.new.bank in
    let three = g.B.Bank.trees c.applied_diffs.new.bank in
    let concl = fact_of c.clause-inside.inside.0.1.1.0 in
    let hyps_are : map fact_of c.deref.result.now ≡ c.args.clause.now.hypotheses = search rules in
    let diffs_are : c.deref-2.result.now ≡ c.args.clause.now.diffs = search rules in
    let concl_is : concl ≡ c.args.clause.now.conclusion = search rules in
    let is : clause_with (map fact_of c.deref.result.now) c.deref-2.result.now concl ≡ c.args.clause.now = λ i. clause_with (hyps_are i) (diffs_are i) (concl_is i) in
    clause_applied_as old one two c.args.binds.now.pairs (map fact_of c.deref.result.now) c.deref-2.result.now concl c.args.clause.now is c.requires.ready c.applied_fact.ensures.grows c.requires.known three c.in_ok-hyps.hyps c.in_ok-diffs.diffs (fact_of c.in_ok-concl.concl)
    c.applied_fact.new.left c.applied_facts.new.left c.applied_diffs.new.left c.applied_facts.ensures.grows c.applied_diffs.ensures.grows c.in_ok-concl.ensures.outcome c.in_ok-hyps.ensures.outcome c.in_ok-diffs.ensures.outcome

pub returns-in_err-hyps-clause-grows : goal.returns-in_err-hyps-clause-grows
returns-in_err-hyps-clause-grows g c = Grows_trans (g.B.Bank.trees c.args.bank.now) (g.B.Bank.trees c.applied_fact.new.bank) (g.B.Bank.trees c.applied_facts.new.bank) c.applied_fact.ensures.grows c.applied_facts.ensures.grows

pub returns-in_err-diffs-clause-grows : goal.returns-in_err-diffs-clause-grows
returns-in_err-diffs-clause-grows g c =
    let old = g.B.Bank.trees c.args.bank.now in
    let two = g.B.Bank.trees c.applied_facts.new.bank in
    Grows_trans old two (g.B.Bank.trees c.applied_diffs.new.bank) (Grows_trans old (g.B.Bank.trees c.applied_fact.new.bank) two c.applied_fact.ensures.grows c.applied_facts.ensures.grows) c.applied_diffs.ensures.grows

pub returns-clause-grows : goal.returns-clause-grows
returns-clause-grows g c =
    let old = g.B.Bank.trees c.args.bank.now in
    let two = g.B.Bank.trees c.applied_facts.new.bank in
    Grows_trans old two (g.B.Bank.trees c.applied_diffs.new.bank) (Grows_trans old (g.B.Bank.trees c.applied_fact.new.bank) two c.applied_fact.ensures.grows c.applied_facts.ensures.grows) c.applied_diffs.ensures.grows
