use Rattle.std.proofs.Common.{◌≡◌, List, map, sym, subst, rules, arith}
use Rattle.std.proofs.lemmas.Result.{err_from_is_err_and}
use Rattle.spec_terms.specs.Term.{Term}
use Rattle.spec_clauses.specs.Variables.{AreBelow}
use Rattle.term_tree.specs.Bank.{tree_at, AreKnown}
use Rattle.term_tree.specs.declared.bank.Id.{Id}
use Rattle.term_tree.proofs.BankLaws.{Grows_refl, Grows_trans, AreKnown-grows, trees_at-grow}
use Rattle.unify_match.proofs.SeenLemmas.{IsReady-grows}
use Rattle.clause_resolve.specs.Low.{bound_from}
use Rattle.clause_resolve.proofs.Stopping.{stops_as}
use Rattle.clause_resolve.proofs.Moving.{diff_of_parts}
use Rattle.clause_diffs.proofs.Below.{left_below, right_below}
use Rattle.clause_resolve.proofs.SpendingLaws.{standing}
use Rattle.clause_resolve.proofs.LiftingLaws.{diff_symbol_short, diff_applied_as, lefts_short_as, rights_short_as}
use Rattle.clause_resolve.proofs.lifting.applied_diff.Goals as goal

pub lifted_terms-requires-clause-known : goal.lifted_terms-requires-clause-known
lifted_terms-requires-clause-known g c =
    let all = g.B.Bank.trees c.args.bank.now in
    let lefts : c.deref.result.now ≡ c.args.diff.now.left = search rules in
    subst (λ (l : List Id). AreKnown all l) (sym lefts) c.requires.known.left

pub lifted_terms-requires-clause-low : goal.lifted_terms-requires-clause-low
lifted_terms-requires-clause-low g c =
    let all = g.B.Bank.trees c.args.bank.now in
    let lefts : c.deref.result.now ≡ c.args.diff.now.left = search rules in
    subst (λ (l : List Id). AreBelow bound_from (map (tree_at all) l)) (sym lefts) (left_below bound_from all c.args.diff.now c.requires.low)

pub lifted_terms-requires-clause-small : goal.lifted_terms-requires-clause-small
lifted_terms-requires-clause-small g c = omega (arith, c.requires.small, c.spend.ensures.at_most)

pub lifted_terms-requires-2-clause-known : goal.lifted_terms-requires-2-clause-known
lifted_terms-requires-2-clause-known g c =
    let old = g.B.Bank.trees c.args.bank.now in
    let mid = g.B.Bank.trees c.lifted_terms.new.bank in
    let rights : c.deref-2.result.now ≡ c.args.diff.now.right = search rules in
    subst (λ (l : List Id). AreKnown mid l) (sym rights) (AreKnown-grows old mid c.args.diff.now.right c.lifted_terms.ensures.grows c.requires.known.right)

pub lifted_terms-requires-2-clause-ready : goal.lifted_terms-requires-2-clause-ready
lifted_terms-requires-2-clause-ready g c = IsReady-grows (g.B.Bank.trees c.args.bank.now) (g.B.Bank.trees c.lifted_terms.new.bank) c.args.binds.now.pairs c.lifted_terms.ensures.grows c.requires.ready

pub lifted_terms-requires-2-clause-low : goal.lifted_terms-requires-2-clause-low
lifted_terms-requires-2-clause-low g c =
    let old = g.B.Bank.trees c.args.bank.now in
    let mid = g.B.Bank.trees c.lifted_terms.new.bank in
    let d = c.args.diff.now in
    let rights : c.deref-2.result.now ≡ d.right = search rules in
    let below = subst (λ (ts : List Term). AreBelow bound_from ts) (sym (trees_at-grow old mid d.right c.lifted_terms.ensures.grows c.requires.known.right)) (right_below bound_from old d c.requires.low) in
    subst (λ (l : List Id). AreBelow bound_from (map (tree_at mid) l)) (sym rights) below

pub lifted_terms-requires-2-clause-small : goal.lifted_terms-requires-2-clause-small
lifted_terms-requires-2-clause-small g c = omega (arith, c.requires.small, c.spend.ensures.at_most, c.lifted_terms.ensures.at_most)

pub returns-in_err-spend-clause-outcome : goal.returns-in_err-spend-clause-outcome
returns-in_err-spend-clause-outcome g c =
    let all = g.B.Bank.trees c.args.bank.now in
    let p = err_from_is_err_and c.from_residual.result c.from_residual.ensures.1 in
    rw (p.1, p.2) (stops_as c.in_err-spend.field-0.0 _ _ (diff_symbol_short all (standing all c.args.binds.now.pairs) c.args.diff.now c.args.left.now) c.in_err-spend.ensures.outcome)

pub returns-in_err-lefts-clause-outcome : goal.returns-in_err-lefts-clause-outcome
returns-in_err-lefts-clause-outcome g c =
    let old = g.B.Bank.trees c.args.bank.now in
    let first : c.diff-inside.inside.0.0 ≡ c.args.diff.now.first = search rules in
    let lefts : c.deref.result.now ≡ c.args.diff.now.left = search rules in
    let is : diff_of_parts c.diff-inside.inside.0.0 c.deref.result.now c.args.diff.now.right ≡ c.args.diff.now = λ i. diff_of_parts (first i) (lefts i) c.args.diff.now.right in
    let p = err_from_is_err_and c.from_residual-in_err-lefts.result c.from_residual-in_err-lefts.ensures.1 in
    rw (p.1, p.2) (stops_as c.in_err-lefts.field-0.0 _ _ (lefts_short_as old old c.args.binds.now.pairs c.diff-inside.inside.0.0 c.deref.result.now c.args.diff.now.right c.args.diff.now is c.requires.ready c.requires.known c.requires.low c.requires.kept c.args.left.now c.spend.new.left (Grows_refl old)
    c.in_ok-spend.ensures.outcome) c.in_err-lefts.ensures.outcome)

pub returns-in_err-rights-clause-outcome : goal.returns-in_err-rights-clause-outcome
returns-in_err-rights-clause-outcome g c =
    let old = g.B.Bank.trees c.args.bank.now in
    let mid = g.B.Bank.trees c.lifted_terms.new.bank in
    let first : c.diff-inside.inside.0.0 ≡ c.args.diff.now.first = search rules in
    let lefts : c.deref.result.now ≡ c.args.diff.now.left = search rules in
    let rights : c.deref-2.result.now ≡ c.args.diff.now.right = search rules in
    let is : diff_of_parts c.diff-inside.inside.0.0 c.deref.result.now c.deref-2.result.now ≡ c.args.diff.now = λ i. diff_of_parts (first i) (lefts i) (rights i) in
    let p = err_from_is_err_and c.from_residual-in_err-rights.result c.from_residual-in_err-rights.ensures.1 in
    rw (p.1, p.2) (stops_as c.in_err-rights.field-0.0 _ _ (rights_short_as old mid c.args.binds.now.pairs c.diff-inside.inside.0.0 c.deref.result.now c.deref-2.result.now c.args.diff.now is c.requires.ready c.requires.known c.requires.low c.requires.kept c.args.left.now c.spend.new.left c.lifted_terms.new.left
    c.lifted_terms.ensures.grows c.in_ok-spend.ensures.outcome c.in_ok-lefts.ensures.outcome.1) c.in_err-rights.ensures.outcome)

pub returns-clause-outcome : goal.returns-clause-outcome
returns-clause-outcome g c =
    let old = g.B.Bank.trees c.args.bank.now in
    let mid = g.B.Bank.trees c.lifted_terms.new.bank in
    let first : c.diff-inside.inside.0.0 ≡ c.args.diff.now.first = search rules in
    let lefts : c.deref.result.now ≡ c.args.diff.now.left = search rules in
    let rights : c.deref-2.result.now ≡ c.args.diff.now.right = search rules in
    let is : diff_of_parts c.diff-inside.inside.0.0 c.deref.result.now c.deref-2.result.now ≡ c.args.diff.now = λ i. diff_of_parts (first i) (lefts i) (rights i) in
    diff_applied_as old mid c.args.binds.now.pairs c.diff-inside.inside.0.0 c.deref.result.now c.deref-2.result.now c.args.diff.now is c.requires.ready c.requires.known c.requires.low c.requires.kept (g.B.Bank.trees c.lifted_terms-2.new.bank)
    c.in_ok-lefts.lefts c.in_ok-rights.rights c.args.left.now c.spend.new.left c.lifted_terms.new.left c.lifted_terms-2.new.left c.lifted_terms.ensures.grows c.lifted_terms-2.ensures.grows c.in_ok-spend.ensures.outcome c.in_ok-lefts.ensures.outcome c.in_ok-rights.ensures.outcome

pub returns-in_err-spend-clause-grows : goal.returns-in_err-spend-clause-grows
returns-in_err-spend-clause-grows g c = Grows_refl (g.B.Bank.trees c.args.bank.now)

pub returns-in_err-rights-clause-grows : goal.returns-in_err-rights-clause-grows
returns-in_err-rights-clause-grows g c = Grows_trans (g.B.Bank.trees c.args.bank.now) (g.B.Bank.trees c.lifted_terms.new.bank) (g.B.Bank.trees c.lifted_terms-2.new.bank) c.lifted_terms.ensures.grows c.lifted_terms-2.ensures.grows

pub returns-clause-grows : goal.returns-clause-grows
returns-clause-grows g c = Grows_trans (g.B.Bank.trees c.args.bank.now) (g.B.Bank.trees c.lifted_terms.new.bank) (g.B.Bank.trees c.lifted_terms-2.new.bank) c.lifted_terms.ensures.grows c.lifted_terms-2.ensures.grows
