use Rattle.std.proofs.Common.{◌≡◌, ◌∙◌, List, length, ap, sym, subst, rules}
use Rattle.std.specs.List.{list_any}
use Rattle.spec_clauses.specs.Diff.{same_diff}
use Rattle.term_tree.specs.declared.bank.Id.{Id}
use Rattle.clause_diffs.specs.Diffs.{DiffOf, diff_at, diffs_at, AreDiffsIn}
use Rattle.clause_diffs.proofs.Naming.{AreDiffsIn-grows}
use Rattle.clause_diffs.proofs.Adding.{numbered_in, left_when, pushed_when, start_pushed}
use Rattle.clause_diffs.proofs.tidying.add_numbered.Goals as goal

pub is_among_diffs-requires-clause-diffs : goal.is_among_diffs-requires-clause-diffs
is_among_diffs-requires-clause-diffs g c =
    let old = g.B.Bank.trees c.args.bank.now in
    let new = g.B.Bank.trees c.numbered_diff_of.new.bank in
    let items : c.args.made.now ≡ c.deref.result.now = search rules in
    subst (λ (l : List (DiffOf Id)). AreDiffsIn new l) items (AreDiffsIn-grows old new c.args.made.now c.numbered_diff_of.ensures.grows c.requires.made)

pub is_among_diffs-requires-clause-diff : goal.is_among_diffs-requires-clause-diff
is_among_diffs-requires-clause-diff g c = c.in_ok-one.ensures.names.known

pub returns-then-is_among_diffs-clause-names : goal.returns-then-is_among_diffs-clause-names
returns-then-is_among_diffs-clause-names g c =
    let old = g.B.Bank.trees c.args.bank.now in
    let new = g.B.Bank.trees c.numbered_diff_of.new.bank in
    let items : c.deref.result.now ≡ c.args.made.now = search rules in
    left_when old new c.args.made.now c.in_ok-one.one (numbered_in c.args.order.now (diff_at old c.args.diff.now)) c.is_among_diffs.result c.requires.made c.numbered_diff_of.ensures.grows c.in_ok-one.ensures.names
    (c.is_among_diffs.ensures ∙ ap (λ l. list_any (same_diff (diff_at new c.in_ok-one.one)) (diffs_at new l)) items) c.if-is_among_diffs.true

pub returns-clause-names : goal.returns-clause-names
returns-clause-names g c =
    let old = g.B.Bank.trees c.args.bank.now in
    let new = g.B.Bank.trees c.numbered_diff_of.new.bank in
    let items : c.deref.result.now ≡ c.args.made.now = search rules in
    pushed_when old new c.args.made.now c.in_ok-one.one (numbered_in c.args.order.now (diff_at old c.args.diff.now)) c.is_among_diffs.result c.requires.made c.numbered_diff_of.ensures.grows c.in_ok-one.ensures.names
    (c.is_among_diffs.ensures ∙ ap (λ l. list_any (same_diff (diff_at new c.in_ok-one.one)) (diffs_at new l)) items) c.push.new.self c.if-is_among_diffs.false c.in_ok-push.ensures.ok

pub returns-then-is_among_diffs-clause-first : goal.returns-then-is_among_diffs-clause-first
returns-then-is_among_diffs-clause-first g c = λ first. first

pub returns-clause-first : goal.returns-clause-first
returns-clause-first g c = λ first. start_pushed (length c.args.order.now) c.args.made.now c.push.new.self c.in_ok-one.one c.in_ok-push.ensures.ok c.in_ok-one.ensures.first first
