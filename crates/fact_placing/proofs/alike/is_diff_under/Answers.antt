use Rattle.std.proofs.Common.{◌≡◌, ◌∙◌, rules}
use Rattle.spec_clauses.specs.Diff.{same_sides}
use Rattle.clause_diffs.specs.Diffs.{sides_at}
use Rattle.clause_diffs.proofs.Comparing.{both_told}
use Rattle.fact_placing.specs.Matched.{sides_matched}
use Rattle.fact_placing.proofs.alike.is_diff_under.Goals as goal

pub returns-then-are_sides_under : goal.returns-then-are_sides_under
returns-then-are_sides_under g c =
    let all = g.B.Bank.trees c.args.from.now.bank.now in
    let pairs = c.args.from.now.binds.now.pairs in
    let first = c.args.from.now.first in
    let diff = c.args.diff.now in
    let one = c.args.one.now in
    let other : c.one-inside.inside.0.0 ≡ one.first = search rules in
    let lefts : c.deref.result.now ≡ diff.left = search rules in
    let rights : c.deref-2.result.now ≡ one.left = search rules in
    let last_lefts : c.deref-then-are_sides_under.result.now ≡ diff.right = search rules in
    let last_rights : c.deref-then-are_sides_under-2.result.now ≡ one.right = search rules in
    both_told c.are_sides_under.result c.are_sides_under-then-are_sides_under.result (same_sides (sides_matched all pairs first diff.left) (sides_at all one.first one.left)) (same_sides (sides_matched all pairs first diff.right) (sides_at all one.first one.right))
    (c.are_sides_under.ensures ∙ (λ i. same_sides (sides_matched all pairs first (lefts i)) (sides_at all (other i) (rights i)))) c.if-are_sides_under.true
    (c.are_sides_under-then-are_sides_under.ensures ∙ (λ i. same_sides (sides_matched all pairs first (last_lefts i)) (sides_at all (other i) (last_rights i))))
