use Rattle.std.proofs.Common.{List, ap, sym, subst, ◌∙◌}
use Rattle.spec_calculus.specs.Bounds.{most_symbols}
use Rattle.spec_terms.specs.Binding.{resolved}
use Rattle.spec_clauses.specs.Head.{made_of}
use Rattle.term_tree.specs.Bank.{AreKnown}
use Rattle.term_tree.specs.declared.bank.Id.{Id}
use Rattle.unify_match.specs.Seen.{seen}
use Rattle.clause_form.specs.Facts.{fact_of}
use Rattle.unified_visits.proofs.Facts.{fact_over, fact_made}
use Rattle.unified_visits.proofs.substituted.fact_under.Goals as goal

pub terms_under-requires-clause-known : goal.terms_under-requires-clause-known
terms_under-requires-clause-known g c = subst (λ (l : List Id). AreKnown (g.B.Bank.trees c.args.bank.now) l) (sym (c.as_slice.ensures ∙ c.terms-terms.ensures)) c.requires.known

pub returns-in-None-clause-under : goal.returns-in-None-clause-under
returns-in-None-clause-under g c =
    let old = g.B.Bank.trees c.args.bank.now in
    fact_over old (g.B.Bank.trees c.terms_under.new.bank) (resolved (seen old c.args.binds.now.pairs)) (fact_of c.args.fact.now) c.as_slice.result.now (c.as_slice.ensures ∙ c.terms-terms.ensures) most_symbols (rw c.in-None.is at c.in_ok-terms_under.ensures.under)

pub returns-in-Some-clause-under : goal.returns-in-Some-clause-under
returns-in-Some-clause-under g c =
    let old = g.B.Bank.trees c.args.bank.now in
    fact_made old (g.B.Bank.trees c.terms_under.new.bank) (resolved (seen old c.args.binds.now.pairs)) (fact_of c.args.fact.now) c.as_slice.result.now (c.as_slice.ensures ∙ c.terms-terms.ensures) c.in-Some.made (fact_of c.made_of.result)
    (c.made_of.ensures ∙ ap (λ h. made_of h c.in-Some.made) c.head.ensures) (rw c.in-Some.is at c.in_ok-terms_under.ensures.under)
