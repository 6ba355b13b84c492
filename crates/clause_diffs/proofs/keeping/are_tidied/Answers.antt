use Rattle.std.proofs.lemmas.Bool.{false≢true}
use Rattle.clause_diffs.specs.Diffs.{diffs_at}
use Rattle.clause_diffs.proofs.Kept.{tidy_not, tidy_told}
use Rattle.clause_diffs.proofs.keeping.are_tidied.Goals as goal

pub returns-then-not-are_different : goal.returns-then-not-are_different
returns-then-not-are_different g c = (
  λ e. absurd (false≢true e),
  λ e. absurd (tidy_not (diffs_at (g.B.Bank.trees c.args.bank.now) c.args.diffs.now) c.are_different.result c.are_different.ensures c.if-not-are_different.true e),
)

pub returns : goal.returns
returns g c =
    tidy_told (diffs_at (g.B.Bank.trees c.args.bank.now) c.args.diffs.now) c.are_different.result c.are_numbered.result c.are_different.ensures c.if-not-are_different.false c.are_numbered.ensures
