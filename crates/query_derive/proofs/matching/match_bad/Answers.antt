use Rattle.std.proofs.Common.{◌≡◌, ◌∙◌, map, ap, rules}
use Rattle.spec_terms.specs.Unifier.{MatchesAll}
use Rattle.spec_clauses.specs.Fact.{Bad, fact_under}
use Rattle.term_tree.specs.Bank.{tree_at}
use Rattle.clause_form.specs.Facts.{fact_of}
use Rattle.clause_form.specs.Seen.{fact_at}
use Rattle.query_derive.proofs.Narrowing.{yes_same, no_same, bad_made}
use Rattle.std.proofs.lemmas.Bool.{false≢true}
use Rattle.query_derive.proofs.matching.match_bad.Goals as goal

pub returns-in-Bad-clause-yes : goal.returns-in-Bad-clause-yes
returns-in-Bad-clause-yes g c =
    let all = g.B.Bank.trees c.args.bank.now in
    let are : c.in-Bad.ids ≡ c.deref.result.now = search rules in
    let is : fact_at all (fact_of c.args.conclusion.now) ≡ Bad (map (tree_at all) c.deref.result.now) = ap (λ f. fact_at all (fact_of f)) c.in-Bad.is ∙ ap (λ ids. Bad (map (tree_at all) ids)) are in
    yes_same all c.args.binds.now.pairs c.match_trees.new.binds.pairs (λ s. MatchesAll s c.args.bad.now (map (tree_at all) c.deref.result.now)) (λ s. fact_under s (Bad c.args.bad.now) ≡ fact_at all (fact_of c.args.conclusion.now)) c.match_trees.result
    (λ s. bad_made s c.args.bad.now (map (tree_at all) c.deref.result.now) (fact_at all (fact_of c.args.conclusion.now)) is) c.match_trees.ensures.yes

pub returns-in-Bad-clause-no : goal.returns-in-Bad-clause-no
returns-in-Bad-clause-no g c =
    let all = g.B.Bank.trees c.args.bank.now in
    let are : c.in-Bad.ids ≡ c.deref.result.now = search rules in
    let is : fact_at all (fact_of c.args.conclusion.now) ≡ Bad (map (tree_at all) c.deref.result.now) = ap (λ f. fact_at all (fact_of f)) c.in-Bad.is ∙ ap (λ ids. Bad (map (tree_at all) ids)) are in
    no_same all c.args.binds.now.pairs c.match_trees.new.binds.pairs (λ s. MatchesAll s c.args.bad.now (map (tree_at all) c.deref.result.now)) (λ s. fact_under s (Bad c.args.bad.now) ≡ fact_at all (fact_of c.args.conclusion.now)) c.match_trees.result
    (λ s. bad_made s c.args.bad.now (map (tree_at all) c.deref.result.now) (fact_at all (fact_of c.args.conclusion.now)) is) c.match_trees.ensures.no

pub returns-in-Att-clause-yes : goal.returns-in-Att-clause-yes
returns-in-Att-clause-yes g c = λ e. absurd (false≢true e)

pub returns-in-Att-2-clause-yes : goal.returns-in-Att-2-clause-yes
returns-in-Att-2-clause-yes g c = λ e. absurd (false≢true e)

pub returns-in-Att-3-clause-yes : goal.returns-in-Att-3-clause-yes
returns-in-Att-3-clause-yes g c = λ e. absurd (false≢true e)

pub returns-in-Att-4-clause-yes : goal.returns-in-Att-4-clause-yes
returns-in-Att-4-clause-yes g c = λ e. absurd (false≢true e)

pub returns-in-Att-5-clause-yes : goal.returns-in-Att-5-clause-yes
returns-in-Att-5-clause-yes g c = λ e. absurd (false≢true e)
