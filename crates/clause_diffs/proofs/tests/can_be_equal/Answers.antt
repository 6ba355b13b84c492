use Rattle.std.proofs.Common.{rules}
use Rattle.spec_terms.specs.Binding.{resolved}
use Rattle.unify_match.specs.Seen.{seen}
use Rattle.clause_diffs.proofs.Deciding.{can_told}
use Rattle.clause_diffs.proofs.tests.can_be_equal.Goals as goal

pub returns : goal.returns
returns g c =
    let all = g.B.Bank.trees c.args.bank.now in
    can_told all c.args.diff.now c.deref.result.now c.deref-2.result.now (resolved (seen all c.unify_lists.new.binds.pairs)) c.unify_lists.result (search rules) (search rules) c.unify_lists.ensures.outcome
