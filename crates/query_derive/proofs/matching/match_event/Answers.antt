use Rattle.std.proofs.Common.{◌≡◌, ◌∙◌, map, ap, rules}
use Rattle.spec_terms.specs.Unifier.{MatchesAll}
use Rattle.spec_clauses.specs.Fact.{Mev, fact_under}
use Rattle.term_tree.specs.Bank.{tree_at}
use Rattle.clause_form.specs.Facts.{fact_of}
use Rattle.clause_form.specs.Seen.{fact_at}
use Rattle.query_derive.specs.Wanted.{event_fact}
use Rattle.query_derive.proofs.Narrowing.{yes_same, no_same, mev_made}
use Rattle.std.proofs.lemmas.Bool.{false≢true}
use Rattle.query_derive.proofs.matching.match_event.Goals as goal

pub returns-else-number-event-clause-yes : goal.returns-else-number-event-clause-yes
returns-else-number-event-clause-yes g c =
    let all = g.B.Bank.trees c.args.bank.now in
    let us = map (tree_at all) c.deref.result.now in
    let h = fact_at all (fact_of c.args.hypothesis.now) in
    let are : c.in-Mev.ids ≡ c.deref.result.now = search rules in
    let is : h ≡ Mev c.in-Mev.number us = ap (λ f. fact_at all (fact_of f)) c.in-Mev.is ∙ ap (λ ids. Mev c.in-Mev.number (map (tree_at all) ids)) are in
    yes_same all c.args.binds.now.pairs c.match_trees.new.binds.pairs (λ s. MatchesAll s c.args.event.now.arguments us) (λ s. fact_under s (event_fact c.args.event.now) ≡ h) c.match_trees.result
    (λ s. mev_made s c.args.event.now.event c.in-Mev.number c.args.event.now.arguments us h is c.if-number-event.false) c.match_trees.ensures.yes

pub returns-else-number-event-clause-no : goal.returns-else-number-event-clause-no
returns-else-number-event-clause-no g c =
    let all = g.B.Bank.trees c.args.bank.now in
    let us = map (tree_at all) c.deref.result.now in
    let h = fact_at all (fact_of c.args.hypothesis.now) in
    let are : c.in-Mev.ids ≡ c.deref.result.now = search rules in
    let is : h ≡ Mev c.in-Mev.number us = ap (λ f. fact_at all (fact_of f)) c.in-Mev.is ∙ ap (λ ids. Mev c.in-Mev.number (map (tree_at all) ids)) are in
    no_same all c.args.binds.now.pairs c.match_trees.new.binds.pairs (λ s. MatchesAll s c.args.event.now.arguments us) (λ s. fact_under s (event_fact c.args.event.now) ≡ h) c.match_trees.result
    (λ s. mev_made s c.args.event.now.event c.in-Mev.number c.args.event.now.arguments us h is c.if-number-event.false) c.match_trees.ensures.no

pub returns-then-number-event-clause-yes : goal.returns-then-number-event-clause-yes
returns-then-number-event-clause-yes g c = λ e. absurd (false≢true e)

pub returns-in-Att-clause-yes : goal.returns-in-Att-clause-yes
returns-in-Att-clause-yes g c = λ e. absurd (false≢true e)

pub returns-in-Att-2-clause-yes : goal.returns-in-Att-2-clause-yes
returns-in-Att-2-clause-yes g c = λ e. absurd (false≢true e)

pub returns-in-Att-3-clause-yes : goal.returns-in-Att-3-clause-yes
returns-in-Att-3-clause-yes g c = λ e. absurd (false≢true e)

pub returns-in-Att-4-clause-yes : goal.returns-in-Att-4-clause-yes
returns-in-Att-4-clause-yes g c = λ e. absurd (false≢true e)

pub returns-in-Att-5-clause-yes : goal.returns-in-Att-5-clause-yes
returns-in-Att-5-clause-yes g c = λ e. absurd (false≢true e)
