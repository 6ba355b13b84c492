use Rattle.std.proofs.Common.{rules}
use Rattle.spec_terms.specs.Binding.{resolved}
use Rattle.unify_match.specs.Seen.{seen}
use Rattle.clause_diffs.proofs.Deciding.{never_not, never_told}
use Rattle.clause_diffs.proofs.tests.is_never_met.Goals as goal

pub returns-then-not-branch : goal.returns-then-not-branch
returns-then-not-branch g c =
    let all = g.B.Bank.trees c.args.bank.now in
    never_not all c.args.diff.now c.deref.result.now c.deref-2.result.now (resolved (seen all c.unify_lists.new.binds.pairs)) c.in_ok-unify_lists.field-0 (search rules) (search rules) c.if-not-branch.true c.in_ok-unify_lists.ensures.outcome

pub returns : goal.returns
returns g c =
    let all = g.B.Bank.trees c.args.bank.now in
    never_told all c.args.diff.now c.deref.result.now c.deref-2.result.now (resolved (seen all c.unify_lists.new.binds.pairs)) c.in_ok-unify_lists.field-0 c.tells_apart.result (search rules) (search rules) c.if-not-branch.false c.in_ok-unify_lists.ensures.outcome c.tells_apart.ensures
