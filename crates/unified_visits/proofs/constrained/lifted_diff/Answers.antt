use Rattle.std.proofs.Common.{◌≡◌, List, sym, subst, rules}
use Rattle.term_tree.specs.Bank.{AreKnown}
use Rattle.term_tree.specs.declared.bank.Id.{Id}
use Rattle.term_tree.proofs.BankLaws.{AreKnown-grows, Grows_trans}
use Rattle.unify_match.proofs.SeenLemmas.{IsReady-grows}
use Rattle.unified_visits.proofs.Lifting.{diff_lifted}
use Rattle.unified_visits.proofs.constrained.lifted_diff.Goals as goal

pub lifted_terms-requires-clause-known : goal.lifted_terms-requires-clause-known
lifted_terms-requires-clause-known g c =
    let lefts : c.deref.result.now ≡ c.args.diff.now.left = search rules in
    subst (λ (l : List Id). AreKnown (g.B.Bank.trees c.args.bank.now) l) (sym lefts) c.requires.known.left

pub lifted_terms-requires-2-clause-known : goal.lifted_terms-requires-2-clause-known
lifted_terms-requires-2-clause-known g c =
    let old = g.B.Bank.trees c.args.bank.now in
    let mid = g.B.Bank.trees c.lifted_terms.new.bank in
    let rights : c.deref-2.result.now ≡ c.args.diff.now.right = search rules in
    subst (λ (l : List Id). AreKnown mid l) (sym rights) (AreKnown-grows old mid c.args.diff.now.right c.lifted_terms.ensures.grows c.requires.known.right)

pub lifted_terms-requires-2-clause-ready : goal.lifted_terms-requires-2-clause-ready
lifted_terms-requires-2-clause-ready g c = IsReady-grows (g.B.Bank.trees c.args.bank.now) (g.B.Bank.trees c.lifted_terms.new.bank) c.args.binds.now.pairs c.lifted_terms.ensures.grows c.requires.ready

pub returns-clause-names : goal.returns-clause-names
returns-clause-names g c =
    let old = g.B.Bank.trees c.args.bank.now in
    let mid = g.B.Bank.trees c.lifted_terms.new.bank in
    let new = g.B.Bank.trees c.lifted_terms-2.new.bank in
    let first : c.diff-inside.inside.0.0 ≡ c.args.diff.now.first = search rules in
    let lefts : c.deref.result.now ≡ c.args.diff.now.left = search rules in
    let rights : c.deref-2.result.now ≡ c.args.diff.now.right = search rules in
    diff_lifted old mid new c.args.binds.now.pairs c.args.next c.diff-inside.inside.0.0 c.args.diff.now c.deref.result.now c.deref-2.result.now c.in_ok-left.left c.in_ok-right.right first lefts rights c.requires.known c.requires.ready c.requires.below c.requires.own
    c.lifted_terms.ensures.grows c.lifted_terms-2.ensures.grows c.in_ok-left.ensures.names c.in_ok-right.ensures.names

pub returns-in_err-right-clause-grows : goal.returns-in_err-right-clause-grows
returns-in_err-right-clause-grows g c = Grows_trans (g.B.Bank.trees c.args.bank.now) (g.B.Bank.trees c.lifted_terms.new.bank) (g.B.Bank.trees c.lifted_terms-2.new.bank) c.lifted_terms.ensures.grows c.lifted_terms-2.ensures.grows

pub returns-clause-grows : goal.returns-clause-grows
returns-clause-grows g c = Grows_trans (g.B.Bank.trees c.args.bank.now) (g.B.Bank.trees c.lifted_terms.new.bank) (g.B.Bank.trees c.lifted_terms-2.new.bank) c.lifted_terms.ensures.grows c.lifted_terms-2.ensures.grows
