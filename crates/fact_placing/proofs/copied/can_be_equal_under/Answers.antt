use Rattle.std.proofs.Common.{◌≡◌, IfOk, List, subst, rules}
use Rattle.spec_clauses.specs.Diff.{Diff}
use Rattle.spec_clauses.specs.DiffDecision.{can_be_equal}
use Rattle.term_tree.specs.declared.bank.Id.{Id}
use Rattle.fact_placing.specs.Matched.{sides_matched, NameSides}
use Rattle.fact_placing.proofs.InCopy.{diff_copied, diff_known}
use Rattle.fact_placing.proofs.copied.can_be_equal_under.Goals as goal

pub can_be_equal-requires : goal.can_be_equal-requires
can_be_equal-requires g c =
    let all = g.B.Bank.trees c.args.from.now.bank.now in
    let pairs = c.args.from.now.binds.now.pairs in
    let first = c.args.from.now.first in
    diff_known c.copied_terms.new.into c.copied_terms-2.new.into c.args.from.now.next c.in_ok-left.left c.in_ok-right.right (sides_matched all pairs first c.deref.result.now) (sides_matched all pairs first c.deref-2.result.now) c.in_ok-left.ensures.names c.copied_terms-2.ensures.grows c.in_ok-right.ensures.names

pub returns : goal.returns
returns g c =
    let all = g.B.Bank.trees c.args.from.now.bank.now in
    let pairs = c.args.from.now.binds.now.pairs in
    let first = c.args.from.now.first in
    let next = c.args.from.now.next in
    let d = c.args.diff.now in
    let mid = c.copied_terms.new.into in
    let new = c.copied_terms-2.new.into in
    let left_is : c.deref.result.now ≡ d.left = search rules in
    let right_is : c.deref-2.result.now ≡ d.right = search rules in
    let left = subst (λ (ids : List Id). NameSides mid next c.in_ok-left.left (sides_matched all pairs first ids)) left_is c.in_ok-left.ensures.names in
    let right = subst (λ (ids : List Id). NameSides new next c.in_ok-right.right (sides_matched all pairs first ids)) right_is c.in_ok-right.ensures.names in
    let same = diff_copied mid new next c.in_ok-left.left c.in_ok-right.right (sides_matched all pairs first d.left) (sides_matched all pairs first d.right) left c.copied_terms-2.ensures.grows right in
    subst (λ (e : Diff). IfOk c.can_be_equal.result (λ yes. yes ≡ can_be_equal e)) same c.can_be_equal.ensures
