use Rattle.std.proofs.Common.{List, map, ap, sym, subst, ◌∙◌}
use Rattle.spec_trees.specs.Tree.{bind}
use Rattle.spec_terms.specs.Binding.{resolved}
use Rattle.term_tree.specs.Bank.{tree_at, AreKnown}
use Rattle.term_tree.specs.declared.bank.Id.{Id}
use Rattle.term_tree.proofs.BankLaws.{AreKnown-grows, Grows_trans}
use Rattle.unify_match.specs.Seen.{seen}
use Rattle.unify_match.proofs.SeenLemmas.{IsReady-grows}
use Rattle.clause_form.specs.Seen.{NameTerms}
use Rattle.clause_form.proofs.Copying.{NameTerms-grows}
use Rattle.unified_visits.specs.declared.visit.Visit.{Visit}
use Rattle.unified_visits.proofs.Building.{AreBuilt-grows}
use Rattle.unified_visits.proofs.Parts.{terms_same}
use Rattle.unified_visits.proofs.unified.past_under.Goals as goal

pub all_terms_under-requires-2-clause-known : goal.all_terms_under-requires-2-clause-known
all_terms_under-requires-2-clause-known g c =
    let old = g.B.Bank.trees c.args.bank.now in
    let mid = g.B.Bank.trees c.all_terms_under.new.bank in
    let same = c.deref-2.ensures.value ∙ ap (λ (w : Visit). w.sessions) c.visit.view_is in
    subst (λ (l : List Id). AreKnown mid l) (sym same) (AreKnown-grows old mid c.args.visit.now.sessions c.all_terms_under.ensures.grows c.requires.visit.sessions)

pub all_terms_under-requires-2-clause-ready : goal.all_terms_under-requires-2-clause-ready
all_terms_under-requires-2-clause-ready g c = IsReady-grows (g.B.Bank.trees c.args.bank.now) (g.B.Bank.trees c.all_terms_under.new.bank) c.args.binds.now.pairs c.all_terms_under.ensures.grows c.requires.ready

pub all_terms_under-requires-2-clause-built : goal.all_terms_under-requires-2-clause-built
all_terms_under-requires-2-clause-built g c = AreBuilt-grows (g.B.Bank.trees c.args.bank.now) (g.B.Bank.trees c.all_terms_under.new.bank) c.args.binds.now.pairs c.args.built.now c.all_terms_under.ensures.grows c.requires.ready c.requires.built

pub returns-clause-messages : goal.returns-clause-messages
returns-clause-messages g c =
    let old = g.B.Bank.trees c.args.bank.now in
    let mid = g.B.Bank.trees c.all_terms_under.new.bank in
    let s = resolved (seen old c.args.binds.now.pairs) in
    let same = c.deref.ensures.value ∙ ap (λ (w : Visit). w.messages) c.visit.view_is in
    NameTerms-grows mid (g.B.Bank.trees c.all_terms_under-2.new.bank) c.in_ok-messages.messages (map (bind s) (map (tree_at old) c.args.visit.now.messages)) c.all_terms_under-2.ensures.grows
    (subst (λ (l : List Id). NameTerms mid c.in_ok-messages.messages (map (bind s) (map (tree_at old) l))) same c.in_ok-messages.ensures.names)

pub returns-clause-sessions : goal.returns-clause-sessions
returns-clause-sessions g c =
    let old = g.B.Bank.trees c.args.bank.now in
    let mid = g.B.Bank.trees c.all_terms_under.new.bank in
    let new = g.B.Bank.trees c.all_terms_under-2.new.bank in
    let pairs = c.args.binds.now.pairs in
    let same = c.deref-2.ensures.value ∙ ap (λ (w : Visit). w.sessions) c.visit.view_is in
    subst (λ l. NameTerms new c.in_ok-sessions.sessions l) (terms_same old mid pairs c.all_terms_under.ensures.grows c.requires.ready c.args.visit.now.sessions c.requires.visit.sessions)
    (subst (λ (l : List Id). NameTerms new c.in_ok-sessions.sessions (map (bind (resolved (seen mid pairs))) (map (tree_at mid) l))) same c.in_ok-sessions.ensures.names)

pub returns-in_err-sessions-clause-grows : goal.returns-in_err-sessions-clause-grows
returns-in_err-sessions-clause-grows g c = Grows_trans (g.B.Bank.trees c.args.bank.now) (g.B.Bank.trees c.all_terms_under.new.bank) (g.B.Bank.trees c.all_terms_under-2.new.bank) c.all_terms_under.ensures.grows c.all_terms_under-2.ensures.grows

pub returns-clause-grows : goal.returns-clause-grows
returns-clause-grows g c = Grows_trans (g.B.Bank.trees c.args.bank.now) (g.B.Bank.trees c.all_terms_under.new.bank) (g.B.Bank.trees c.all_terms_under-2.new.bank) c.all_terms_under.ensures.grows c.all_terms_under-2.ensures.grows
