use Rattle.std.proofs.Common.{◌≡◌, ◌∙◌, rules, arith}
use Rattle.std.proofs.lemmas.Grind.{common_steps}
use Rattle.spec_clauses.specs.Diff.{same_sides}
use Rattle.clause_diffs.specs.Diffs.{sides_at}
use Rattle.clause_diffs.proofs.Comparing.{both_told}
use Rattle.clause_diffs.proofs.same.same_diff.Goals as goal

pub returns-then-are_same_sides : goal.returns-then-are_same_sides
returns-then-are_same_sides g c =
    let all = g.B.Bank.trees c.args.bank.now in
    let left = c.args.left.now in
    let right = c.args.right.now in
    let first : c.left-inside.inside.0.0 ≡ left.first = search rules in
    let other : c.right-inside.inside.0.0 ≡ right.first = search rules in
    let lefts : c.deref.result.now ≡ left.left = search rules in
    let rights : c.deref-2.result.now ≡ right.left = search rules in
    let last_lefts : c.deref-then-are_same_sides.result.now ≡ left.right = search rules in
    let last_rights : c.deref-then-are_same_sides-2.result.now ≡ right.right = search rules in
    both_told c.are_same_sides.result c.are_same_sides-then-are_same_sides.result (same_sides (sides_at all left.first left.left) (sides_at all right.first right.left)) (same_sides (sides_at all left.first left.right) (sides_at all right.first right.right))
    (c.are_same_sides.ensures ∙ (λ i. same_sides (sides_at all (first i) (lefts i)) (sides_at all (other i) (rights i)))) c.if-are_same_sides.true
    (c.are_same_sides-then-are_same_sides.ensures ∙ (λ i. same_sides (sides_at all (first i) (last_lefts i)) (sides_at all (other i) (last_rights i))))

pub are_same_sides-requires-then-are_same_sides-clause-lefts : goal.are_same_sides-requires-then-are_same_sides-clause-lefts
are_same_sides-requires-then-are_same_sides-clause-lefts g c = grind (arith, common_steps)

pub are_same_sides-requires-then-are_same_sides-clause-rights : goal.are_same_sides-requires-then-are_same_sides-clause-rights
are_same_sides-requires-then-are_same_sides-clause-rights g c = grind (arith, common_steps)
