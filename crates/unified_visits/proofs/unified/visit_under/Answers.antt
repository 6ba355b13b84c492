use Rattle.std.proofs.Common.{map, refl, sym, subst}
use Rattle.spec_trees.specs.Tree.{bind}
use Rattle.spec_terms.specs.Binding.{resolved}
use Rattle.spec_clauses.specs.Fact.{fact_under}
use Rattle.term_tree.specs.Bank.{tree_at}
use Rattle.unify_match.specs.Seen.{seen}
use Rattle.unify_match.proofs.SeenLemmas.{IsReady-grows}
use Rattle.clause_diffs.specs.Diffs.{NameDiffs}
use Rattle.clause_diffs.proofs.Naming.{AreDiffsIn-grows}
use Rattle.clause_form.specs.Seen.{fact_at, NameTerms}
use Rattle.clause_form.proofs.Copying.{NameTerms-grows, NameFacts-grows}
use Rattle.unified_visits.specs.Solving.{HasBelow}
use Rattle.unified_visits.proofs.Named.{visit_later}
use Rattle.unified_visits.proofs.Parts.{same_substitution, terms_same, diffs_same, own_below, visit_under_named}
use Rattle.term_tree.proofs.BankLaws.{Grows_trans}
use Rattle.unified_visits.proofs.unified.visit_under.Goals as goal

pub known_under-requires-clause-built : goal.known_under-requires-clause-built
known_under-requires-clause-built g c = c.new-built.ensures (g.B.Bank.trees c.args.bank.now) c.args.binds.now.pairs

pub past_under-requires-clause-visit : goal.past_under-requires-clause-visit
past_under-requires-clause-visit g c = (visit_later (g.B.Bank.trees c.args.bank.now) (g.B.Bank.trees c.known_under.new.bank) c.args.visit.now c.known_under.ensures.grows c.requires.visit).known

pub past_under-requires-clause-ready : goal.past_under-requires-clause-ready
past_under-requires-clause-ready g c = IsReady-grows (g.B.Bank.trees c.args.bank.now) (g.B.Bank.trees c.known_under.new.bank) c.args.binds.now.pairs c.known_under.ensures.grows c.requires.ready

pub lifted-requires-clause-known : goal.lifted-requires-clause-known
lifted-requires-clause-known g c =
    let old = g.B.Bank.trees c.args.bank.now in
    let third = g.B.Bank.trees c.past_under.new.bank in
    AreDiffsIn-grows old third c.args.visit.now.diffs (Grows_trans old (g.B.Bank.trees c.known_under.new.bank) third c.known_under.ensures.grows c.past_under.ensures.grows) c.requires.visit.diffs

pub lifted-requires-clause-ready : goal.lifted-requires-clause-ready
lifted-requires-clause-ready g c =
    let old = g.B.Bank.trees c.args.bank.now in
    let third = g.B.Bank.trees c.past_under.new.bank in
    IsReady-grows old third c.args.binds.now.pairs (Grows_trans old (g.B.Bank.trees c.known_under.new.bank) third c.known_under.ensures.grows c.past_under.ensures.grows) c.requires.ready

pub lifted-requires-clause-below : goal.lifted-requires-clause-below
lifted-requires-clause-below g c =
    let old = g.B.Bank.trees c.args.bank.now in
    let third = g.B.Bank.trees c.past_under.new.bank in
    let grows = Grows_trans old (g.B.Bank.trees c.known_under.new.bank) third c.known_under.ensures.grows c.past_under.ensures.grows in
    subst (λ r. HasBelow r c.args.visit.now.next) (sym (same_substitution old third c.args.binds.now.pairs grows c.requires.ready)) c.requires.below

pub lifted-requires-clause-own : goal.lifted-requires-clause-own
lifted-requires-clause-own g c =
    let old = g.B.Bank.trees c.args.bank.now in
    let third = g.B.Bank.trees c.past_under.new.bank in
    own_below old third c.args.visit.now (Grows_trans old (g.B.Bank.trees c.known_under.new.bank) third c.known_under.ensures.grows c.past_under.ensures.grows) c.requires.visit

pub returns-clause-under : goal.returns-clause-under
returns-clause-under g c =
    let old = g.B.Bank.trees c.args.bank.now in
    let mid = g.B.Bank.trees c.known_under.new.bank in
    let third = g.B.Bank.trees c.past_under.new.bank in
    let new = g.B.Bank.trees c.lifted.new.bank in
    let pairs = c.args.binds.now.pairs in
    let s = resolved (seen old pairs) in
    let v = c.args.visit.now in
    let diffs = c.in_ok-diffs-in-Some.diffs in
    let messages = c.in_ok-messages-in-Some.messages in
    let sessions = c.in_ok-messages-in-Some.sessions in
    let parts = rw c.in-Some.is at c.in_ok-known_under.ensures.under in
    let to_third = Grows_trans old mid third c.known_under.ensures.grows c.past_under.ensures.grows in
    let grows = Grows_trans mid third new c.past_under.ensures.grows c.lifted.ensures.grows in
    let named_messages = subst (λ l. NameTerms third messages l) (terms_same old mid pairs c.known_under.ensures.grows c.requires.ready v.messages c.requires.visit.messages) c.in_ok-messages-in-Some.ensures.messages in
    let named_sessions = subst (λ l. NameTerms third sessions l) (terms_same old mid pairs c.known_under.ensures.grows c.requires.ready v.sessions c.requires.visit.sessions) c.in_ok-messages-in-Some.ensures.sessions in
    visit_under_named old mid new s v _ c.requires.visit grows c.requires.below refl refl parts
    (NameTerms-grows third new messages (map (bind s) (map (tree_at old) v.messages)) c.lifted.ensures.grows named_messages)
    (NameTerms-grows third new sessions (map (bind s) (map (tree_at old) v.sessions)) c.lifted.ensures.grows named_sessions)
    (subst (λ ds. NameDiffs new diffs ds) (diffs_same old third pairs to_third c.requires.ready v.diffs c.requires.visit.diffs) c.in_ok-diffs-in-Some.ensures.names)
    (NameFacts-grows mid new c.in-Some.hypotheses (map (fact_under s) (map (fact_at old) v.hypotheses)) grows parts.hypotheses)

pub returns-in_err-messages-in-Some-clause-grows : goal.returns-in_err-messages-in-Some-clause-grows
returns-in_err-messages-in-Some-clause-grows g c = Grows_trans (g.B.Bank.trees c.args.bank.now) (g.B.Bank.trees c.known_under.new.bank) (g.B.Bank.trees c.past_under.new.bank) c.known_under.ensures.grows c.past_under.ensures.grows

pub returns-in_err-diffs-in-Some-clause-grows : goal.returns-in_err-diffs-in-Some-clause-grows
returns-in_err-diffs-in-Some-clause-grows g c =
    let old = g.B.Bank.trees c.args.bank.now in
    let mid = g.B.Bank.trees c.known_under.new.bank in
    let third = g.B.Bank.trees c.past_under.new.bank in
    let new = g.B.Bank.trees c.lifted.new.bank in
    Grows_trans old mid new c.known_under.ensures.grows (Grows_trans mid third new c.past_under.ensures.grows c.lifted.ensures.grows)

pub returns-clause-grows : goal.returns-clause-grows
returns-clause-grows g c =
    let old = g.B.Bank.trees c.args.bank.now in
    let mid = g.B.Bank.trees c.known_under.new.bank in
    let third = g.B.Bank.trees c.past_under.new.bank in
    let new = g.B.Bank.trees c.lifted.new.bank in
    Grows_trans old mid new c.known_under.ensures.grows (Grows_trans mid third new c.past_under.ensures.grows c.lifted.ensures.grows)
