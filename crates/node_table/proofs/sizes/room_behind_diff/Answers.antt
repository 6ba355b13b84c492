use Rattle.std.proofs.Common.{◌≡◌, ◌+◌, ◌-◌, ◌∙◌, map, ap, rules, arith}
use Rattle.spec_trees.specs.Tree.{size}
use Rattle.spec_clauses.specs.Diff.{diff_size}
use Rattle.spec_clauses.specs.Fact.{total}
use Rattle.spec_clauses.specs.Shown.{Shown}
use Rattle.spec_node_tables.specs.Large.{diff_piece}
use Rattle.spec_node_tables.proofs.Sizes.{diff_piece-size}
use Rattle.clause_form.specs.Plain.{term_of}
use Rattle.clause_diffs.proofs.Sizes.{shown_size}
use Rattle.node_table.specs.Room.{room_less}
use Rattle.node_table.proofs.Rooms.{behind_both, none_behind_both}
use Rattle.node_table.proofs.sizes.room_behind_diff.Goals as goal

pub returns-in-Some : goal.returns-in-Some
returns-in-Some c =
    let shown : Shown = record { first = c.diff.inside.first; left = c.diff.inside.left; right = c.diff.inside.right } in
    let lefts : map term_of c.deref.result.now ≡ shown.left = search rules in
    let rights : map term_of c.deref-in-Some.result.now ≡ shown.right = search rules in
    let less : c.saturating_sub.result ≡ c.args.room - 1 = omega arith in
    let first = total size (map term_of c.deref.result.now) in
    let second = total size (map term_of c.deref-in-Some.result.now) in
    let both = total size (diff_piece c.args.diff.now).terms in
    let sum : first + second ≡ both = omega (arith, ap (total size) lefts, ap (total size) rights, shown_size shown, ap diff_size c.diff.view_is, diff_piece-size c.args.diff.now) in
    behind_both (c.args.room - 1) first second both c.in-Some.left c.room_behind_trees-in-Some.result (c.in-Some.ensures ∙ ap (λ n. room_less n first) less) c.room_behind_trees-in-Some.ensures sum

pub returns-in-None : goal.returns-in-None
returns-in-None c =
    let shown : Shown = record { first = c.diff.inside.first; left = c.diff.inside.left; right = c.diff.inside.right } in
    let lefts : map term_of c.deref.result.now ≡ shown.left = search rules in
    let less : c.saturating_sub.result ≡ c.args.room - 1 = omega arith in
    let first = total size (map term_of c.deref.result.now) in
    let second = total size shown.right in
    let both = total size (diff_piece c.args.diff.now).terms in
    let sum : first + second ≡ both = omega (arith, ap (total size) lefts, shown_size shown, ap diff_size c.diff.view_is, diff_piece-size c.args.diff.now) in
    none_behind_both (c.args.room - 1) first second both (c.in-None.ensures ∙ ap (λ n. room_less n first) less) sum
