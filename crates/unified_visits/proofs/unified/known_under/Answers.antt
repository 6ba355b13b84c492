use Rattle.std.proofs.Common.{List, map, ap, sym, subst, ◌∙◌}
use Rattle.spec_terms.specs.Binding.{resolved}
use Rattle.spec_clauses.specs.Fact.{Fact, fact_under}
use Rattle.spec_translation.specs.Visit.{standing_under}
use Rattle.term_tree.specs.declared.bank.Id.{Id}
use Rattle.unify_match.specs.Seen.{seen}
use Rattle.unify_match.proofs.SeenLemmas.{IsReady-grows}
use Rattle.clause_form.specs.Facts.{fact_of}
use Rattle.clause_form.specs.Seen.{fact_at, AreFactsIn, NameFacts}
use Rattle.clause_form.proofs.Copying.{AreFactsIn-grows}
use Rattle.clause_terms.specs.Scopes.{Held, scope_at, NamesScope}
use Rattle.clause_terms.specs.Slots.{held_of}
use Rattle.unified_visits.specs.declared.visit.Visit.{Visit}
use Rattle.unified_visits.proofs.Scopes.{NamesScope-grows}
use Rattle.unified_visits.proofs.Parts.{scope_is_over, facts_are_over, facts_same}
use Rattle.term_tree.proofs.BankLaws.{Grows_trans}
use Rattle.unified_visits.proofs.unified.known_under.Goals as goal

pub returns-in-None-clause-under : goal.returns-in-None-clause-under
returns-in-None-clause-under g c =
    let old = g.B.Bank.trees c.args.bank.now in
    let s = resolved (seen old c.args.binds.now.pairs) in
    let same = ap (map held_of) c.deref.ensures.value ∙ ap (λ (w : Visit). w.scope) c.visit.view_is in
    scope_is_over old s c.args.visit.now (map held_of c.deref.result.now) (List Held) c.in_ok-scope_under.field-0
    (λ (scope : List Held). NamesScope (g.B.Bank.trees c.scope_under.new.bank) scope (map (standing_under s) (scope_at old (map held_of c.deref.result.now)))) same c.in-None.is c.in_ok-scope_under.ensures.under

pub facts_under-requires-clause-known : goal.facts_under-requires-clause-known
facts_under-requires-clause-known g c =
    let old = g.B.Bank.trees c.args.bank.now in
    let mid = g.B.Bank.trees c.scope_under.new.bank in
    let same = ap (map fact_of) c.deref-in-Some.ensures.value ∙ ap (λ (w : Visit). w.hypotheses) c.visit.view_is in
    subst (λ (l : List (Fact Id)). AreFactsIn mid l) (sym same) (AreFactsIn-grows old mid c.args.visit.now.hypotheses c.scope_under.ensures.grows c.requires.visit.hypotheses)

pub facts_under-requires-clause-ready : goal.facts_under-requires-clause-ready
facts_under-requires-clause-ready g c = IsReady-grows (g.B.Bank.trees c.args.bank.now) (g.B.Bank.trees c.scope_under.new.bank) c.args.binds.now.pairs c.scope_under.ensures.grows c.requires.ready

pub returns-in-None-2-clause-under : goal.returns-in-None-2-clause-under
returns-in-None-2-clause-under g c =
    let old = g.B.Bank.trees c.args.bank.now in
    let mid = g.B.Bank.trees c.scope_under.new.bank in
    let facts = map fact_of c.deref-in-Some.result.now in
    let same = ap (map fact_of) c.deref-in-Some.ensures.value ∙ ap (λ (w : Visit). w.hypotheses) c.visit.view_is in
    facts_are_over old mid c.args.binds.now.pairs c.scope_under.ensures.grows c.requires.ready c.args.visit.now facts (List (Fact Id)) c.in_ok-facts_under-in-Some.field-0
    (λ (l : List (Fact Id)). NameFacts (g.B.Bank.trees c.facts_under.new.bank) l (map (fact_under (resolved (seen mid c.args.binds.now.pairs))) (map (fact_at mid) facts))) c.requires.visit same c.in-None-2.is c.in_ok-facts_under-in-Some.ensures.under

pub returns-in-Some-2-clause-under : goal.returns-in-Some-2-clause-under
returns-in-Some-2-clause-under g c =
    let old = g.B.Bank.trees c.args.bank.now in
    let mid = g.B.Bank.trees c.scope_under.new.bank in
    let new = g.B.Bank.trees c.facts_under.new.bank in
    let pairs = c.args.binds.now.pairs in
    let s = resolved (seen old pairs) in
    let v = c.args.visit.now in
    let same_scope = ap (map held_of) c.deref.ensures.value ∙ ap (λ (w : Visit). w.scope) c.visit.view_is in
    let same_facts = ap (map fact_of) c.deref-in-Some.ensures.value ∙ ap (λ (w : Visit). w.hypotheses) c.visit.view_is in
    let scope = rw c.in-Some.is at c.in_ok-scope_under.ensures.under in
    let facts = rw c.in-Some-2.is at c.in_ok-facts_under-in-Some.ensures.under in
    record {
      scope = NamesScope-grows mid new c.in-Some.scope (map (standing_under s) (scope_at old v.scope)) c.facts_under.ensures.grows
          (subst (λ (l : List Held). NamesScope mid c.in-Some.scope (map (standing_under s) (scope_at old l))) same_scope scope);
      hypotheses = subst (λ l. NameFacts new c.in-Some-2.hypotheses l) (facts_same old mid pairs c.scope_under.ensures.grows c.requires.ready v.hypotheses c.requires.visit.hypotheses)
          (subst (λ (l : List (Fact Id)). NameFacts new c.in-Some-2.hypotheses (map (fact_under (resolved (seen mid pairs))) (map (fact_at mid) l))) same_facts facts);
    }

pub returns-in_err-facts_under-in-Some-clause-grows : goal.returns-in_err-facts_under-in-Some-clause-grows
returns-in_err-facts_under-in-Some-clause-grows g c = Grows_trans (g.B.Bank.trees c.args.bank.now) (g.B.Bank.trees c.scope_under.new.bank) (g.B.Bank.trees c.facts_under.new.bank) c.scope_under.ensures.grows c.facts_under.ensures.grows

pub returns-in-None-2-clause-grows : goal.returns-in-None-2-clause-grows
returns-in-None-2-clause-grows g c = Grows_trans (g.B.Bank.trees c.args.bank.now) (g.B.Bank.trees c.scope_under.new.bank) (g.B.Bank.trees c.facts_under.new.bank) c.scope_under.ensures.grows c.facts_under.ensures.grows

pub returns-in-Some-2-clause-grows : goal.returns-in-Some-2-clause-grows
returns-in-Some-2-clause-grows g c = Grows_trans (g.B.Bank.trees c.args.bank.now) (g.B.Bank.trees c.scope_under.new.bank) (g.B.Bank.trees c.facts_under.new.bank) c.scope_under.ensures.grows c.facts_under.ensures.grows
