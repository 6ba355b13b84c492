use Rattle.std.proofs.Common.{◌≡◌, true, Some, None, refl, subst}
use Rattle.pi_tree.specs.Terms.{term_of}
use Rattle.spec_terms.specs.Binding.{resolved}
use Rattle.spec_translation.specs.Conversion.{Scope, term_in}
use Rattle.spec_translation.specs.Visit.{visit_under, is_large_visit}
use Rattle.term_tree.specs.Bank.{tree_at, Names}
use Rattle.term_tree.proofs.BankLaws.{Grows_trans, Names-grows}
use Rattle.unify_match.specs.Seen.{seen}
use Rattle.unify_match.specs.Outcome.{Unified, NoUnifier}
use Rattle.clause_terms.specs.Scopes.{scope_at}
use Rattle.unified_visits.specs.Places.{protocol_at}
use Rattle.unified_visits.specs.Visits.{visit_at}
use Rattle.unified_visits.proofs.Scopes.{IsScopeIn-grows, scope_at-grows}
use Rattle.unified_visits.proofs.Named.{visit_later}
use Rattle.visit_choices.proofs.Branches.{if_true, if_false}
use Rattle.visit_choices.proofs.Choosing.{made_known}
use Rattle.process_visits.proofs.Entering.{entry_way_is, met_nowhere, met_below, met_there}
use Rattle.process_visits.proofs.gets.met_way.Goals as goal

pub term_in-requires-2-clause-scope : goal.term_in-requires-2-clause-scope
term_in-requires-2-clause-scope g c = IsScopeIn-grows (g.B.Bank.trees c.args.bank.now) (g.B.Bank.trees c.term_in.new.bank) c.args.made.now.scope c.term_in.ensures.grows c.requires.visit.scope

pub unify-requires-clause-left_known : goal.unify-requires-clause-left_known
unify-requires-clause-left_known g c =
    let old = g.B.Bank.trees c.args.bank.now in
    let scope = c.args.made.now.scope in
    (Names-grows (g.B.Bank.trees c.term_in.new.bank) (g.B.Bank.trees c.term_in-2.new.bank) c.in_ok-first.first (term_in (protocol_at c.args.place.now) (scope_at old scope) (term_of c.args.left.now)) c.term_in-2.ensures.grows c.in_ok-first.ensures.names).known

pub unify-requires-clause-right_known : goal.unify-requires-clause-right_known
unify-requires-clause-right_known g c = c.in_ok-second.ensures.names.known

pub unify-requires-clause-ready : goal.unify-requires-clause-ready
unify-requires-clause-ready g c = c.in_ok-binds.ensures.ready (g.B.Bank.trees c.term_in-2.new.bank)

pub visit_under-requires-clause-visit : goal.visit_under-requires-clause-visit
visit_under-requires-clause-visit g c =
    let old = g.B.Bank.trees c.args.bank.now in
    let mid = g.B.Bank.trees c.term_in-2.new.bank in
    (visit_later old mid c.args.made.now (Grows_trans old (g.B.Bank.trees c.term_in.new.bank) mid c.term_in.ensures.grows c.term_in-2.ensures.grows) c.requires.visit).known

pub visit_under-requires-clause-below : goal.visit_under-requires-clause-below
visit_under-requires-clause-below g c =
    let old = g.B.Bank.trees c.args.bank.now in
    let one = g.B.Bank.trees c.term_in.new.bank in
    let mid = g.B.Bank.trees c.term_in-2.new.bank in
    let P = protocol_at c.args.place.now in
    let made = c.args.made.now in
    let l = term_of c.args.left.now in
    let r = term_of c.args.right.now in
    let first = c.in_ok-first.first in
    let second = c.in_ok-second.second in
    let through = Grows_trans old one mid c.term_in.ensures.grows c.term_in-2.ensures.grows in
    let a = Names-grows one mid first (term_in P (scope_at old made.scope) l) c.term_in-2.ensures.grows c.in_ok-first.ensures.names in
    let b = subst (λ (s : Scope). Names mid second (term_in P s r)) (scope_at-grows old one made.scope c.term_in.ensures.grows c.requires.visit.scope) c.in_ok-second.ensures.names in
    let before = c.in_ok-binds.binds.pairs in
    let none = c.in_ok-binds.ensures.none in
    let ready = c.in_ok-binds.ensures.ready mid in
    let pairs = c.unify.new.binds.pairs in
    let x = tree_at mid first in
    let y = tree_at mid second in
    let unified = if_true c.in_ok-unify.field-0 (Unified mid before pairs x y) (NoUnifier mid before x y) c.if-not-branch.false c.in_ok-unify.ensures.outcome in
    met_below P old mid made l r first second through c.requires.visit a b before none ready pairs c.in_ok-unify.ensures.ready unified

pub way_to-requires : goal.way_to-requires
way_to-requires g c =
    let mid = g.B.Bank.trees c.term_in-2.new.bank in
    let under = visit_under (resolved (seen mid c.unify.new.binds.pairs)) (visit_at mid c.args.made.now) in
    made_known (g.B.Bank.trees c.visit_under.new.bank) under (is_large_visit under ≡ true) c.in_ok-found.found c.in_ok-found.ensures.under

pub returns-then-not-branch-clause-goes : goal.returns-then-not-branch-clause-goes
returns-then-not-branch-clause-goes g c =
    let old = g.B.Bank.trees c.args.bank.now in
    let one = g.B.Bank.trees c.term_in.new.bank in
    let mid = g.B.Bank.trees c.term_in-2.new.bank in
    let P = protocol_at c.args.place.now in
    let made = c.args.made.now in
    let l = term_of c.args.left.now in
    let r = term_of c.args.right.now in
    let first = c.in_ok-first.first in
    let second = c.in_ok-second.second in
    let through = Grows_trans old one mid c.term_in.ensures.grows c.term_in-2.ensures.grows in
    let a = Names-grows one mid first (term_in P (scope_at old made.scope) l) c.term_in-2.ensures.grows c.in_ok-first.ensures.names in
    let b = subst (λ (s : Scope). Names mid second (term_in P s r)) (scope_at-grows old one made.scope c.term_in.ensures.grows c.requires.visit.scope) c.in_ok-second.ensures.names in
    let before = c.in_ok-binds.binds.pairs in
    let none = c.in_ok-binds.ensures.none in
    let ready = c.in_ok-binds.ensures.ready mid in
    let x = tree_at mid first in
    let y = tree_at mid second in
    let never = if_false c.in_ok-unify.field-0 (Unified mid before c.unify.new.binds.pairs x y) (NoUnifier mid before x y) c.if-not-branch.true c.in_ok-unify.ensures.outcome in
    (None, met_nowhere P old mid made l r first second through c.requires.visit a b before none ready never, (refl, refl))

pub returns-clause-goes : goal.returns-clause-goes
returns-clause-goes g c =
    let old = g.B.Bank.trees c.args.bank.now in
    let one = g.B.Bank.trees c.term_in.new.bank in
    let mid = g.B.Bank.trees c.term_in-2.new.bank in
    let P = protocol_at c.args.place.now in
    let made = c.args.made.now in
    let l = term_of c.args.left.now in
    let r = term_of c.args.right.now in
    let first = c.in_ok-first.first in
    let second = c.in_ok-second.second in
    let through = Grows_trans old one mid c.term_in.ensures.grows c.term_in-2.ensures.grows in
    let a = Names-grows one mid first (term_in P (scope_at old made.scope) l) c.term_in-2.ensures.grows c.in_ok-first.ensures.names in
    let b = subst (λ (s : Scope). Names mid second (term_in P s r)) (scope_at-grows old one made.scope c.term_in.ensures.grows c.requires.visit.scope) c.in_ok-second.ensures.names in
    let before = c.in_ok-binds.binds.pairs in
    let none = c.in_ok-binds.ensures.none in
    let ready = c.in_ok-binds.ensures.ready mid in
    let pairs = c.unify.new.binds.pairs in
    let x = tree_at mid first in
    let y = tree_at mid second in
    let unified = if_true c.in_ok-unify.field-0 (Unified mid before pairs x y) (NoUnifier mid before x y) c.if-not-branch.false c.in_ok-unify.ensures.outcome in
    let under = visit_under (resolved (seen mid pairs)) (visit_at mid made) in
    (Some under, met_there P old mid made l r first second through c.requires.visit a b before none ready pairs c.in_ok-unify.ensures.ready unified, entry_way_is (g.B.Bank.trees c.visit_under.new.bank) under c.in_ok-found.found c.way_to.result c.in_ok-found.ensures.under c.way_to.ensures)

pub returns-in_err-second-clause-grows : goal.returns-in_err-second-clause-grows
returns-in_err-second-clause-grows g c = Grows_trans (g.B.Bank.trees c.args.bank.now) (g.B.Bank.trees c.term_in.new.bank) (g.B.Bank.trees c.term_in-2.new.bank) c.term_in.ensures.grows c.term_in-2.ensures.grows

pub returns-in_err-binds-clause-grows : goal.returns-in_err-binds-clause-grows
returns-in_err-binds-clause-grows g c = Grows_trans (g.B.Bank.trees c.args.bank.now) (g.B.Bank.trees c.term_in.new.bank) (g.B.Bank.trees c.term_in-2.new.bank) c.term_in.ensures.grows c.term_in-2.ensures.grows

pub returns-in_err-unify-clause-grows : goal.returns-in_err-unify-clause-grows
returns-in_err-unify-clause-grows g c = Grows_trans (g.B.Bank.trees c.args.bank.now) (g.B.Bank.trees c.term_in.new.bank) (g.B.Bank.trees c.term_in-2.new.bank) c.term_in.ensures.grows c.term_in-2.ensures.grows

pub returns-then-not-branch-clause-grows : goal.returns-then-not-branch-clause-grows
returns-then-not-branch-clause-grows g c = Grows_trans (g.B.Bank.trees c.args.bank.now) (g.B.Bank.trees c.term_in.new.bank) (g.B.Bank.trees c.term_in-2.new.bank) c.term_in.ensures.grows c.term_in-2.ensures.grows

pub returns-in_err-found-clause-grows : goal.returns-in_err-found-clause-grows
returns-in_err-found-clause-grows g c =
    let old = g.B.Bank.trees c.args.bank.now in
    let mid = g.B.Bank.trees c.term_in-2.new.bank in
    Grows_trans old mid (g.B.Bank.trees c.visit_under.new.bank) (Grows_trans old (g.B.Bank.trees c.term_in.new.bank) mid c.term_in.ensures.grows c.term_in-2.ensures.grows) c.visit_under.ensures.grows

pub returns-clause-grows : goal.returns-clause-grows
returns-clause-grows g c =
    let old = g.B.Bank.trees c.args.bank.now in
    let mid = g.B.Bank.trees c.term_in-2.new.bank in
    Grows_trans old mid (g.B.Bank.trees c.visit_under.new.bank) (Grows_trans old (g.B.Bank.trees c.term_in.new.bank) mid c.term_in.ensures.grows c.term_in-2.ensures.grows) c.visit_under.ensures.grows
