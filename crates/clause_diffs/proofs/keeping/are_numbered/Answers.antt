use Rattle.std.proofs.Common.{◌∙◌, sym, refl}
use Rattle.std.proofs.lemmas.Bool.{false≢true}
use Rattle.clause_diffs.proofs.Walks.{diff_known_at}
use Rattle.clause_diffs.proofs.Kept.{numbered_fails, numbered_next, numbered_end}
use Rattle.clause_diffs.proofs.keeping.are_numbered.Goals as goal

pub loop-diff-init : goal.loop-diff-init
loop-diff-init g c = (λ e. e, λ e. e)

pub is_numbered-requires : goal.is_numbered-requires
is_numbered-requires g c = diff_known_at (g.B.Bank.trees c.args.bank.now) c.args.diffs.now c.loop-diff.diff-index c.diff-item.result c.diff-item.is c.requires c.loop-diff-test.true

pub returns-then-not-branch : goal.returns-then-not-branch
returns-then-not-branch g c = (
  λ e. absurd (false≢true e),
  λ e. absurd (numbered_fails (g.B.Bank.trees c.args.bank.now) c.args.diffs.now c.loop-diff.diff-index c.diff-item.result c.loop-diff-test.true c.diff-item.is c.loop-diff.invariant.0 (λ same. false≢true (sym c.if-not-branch.true ∙ c.in_ok-is_numbered.ensures.1 same)) e),
)

pub loop-diff-preserved : goal.loop-diff-preserved
loop-diff-preserved g c =
    numbered_next (g.B.Bank.trees c.args.bank.now) c.args.diffs.now c.loop-diff.diff-index c.diff-item.result c.loop-diff-test.true c.diff-item.is c.loop-diff.invariant (c.in_ok-is_numbered.ensures.0 c.if-not-branch.false)

pub returns : goal.returns
returns g c = (λ e. c.loop-diff.invariant.1 (numbered_end (g.B.Bank.trees c.args.bank.now) c.args.diffs.now c.loop-diff.diff-index c.loop-diff-test.false), λ e. refl)
