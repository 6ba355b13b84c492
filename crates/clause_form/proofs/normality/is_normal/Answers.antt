use Rattle.std.proofs.lemmas.Bool.{false≢true}
use Rattle.clause_form.specs.Seen.{clause_at}
use Rattle.clause_form.proofs.Told.{normal_then, normal_not}
use Rattle.clause_form.proofs.normality.is_normal.Goals as goal

pub returns-then-not-keeps_facts_and_variables : goal.returns-then-not-keeps_facts_and_variables
returns-then-not-keeps_facts_and_variables g c = (
  λ e. absurd (false≢true e),
  λ n. absurd (normal_not (clause_at (g.B.Bank.trees c.args.bank.now) c.args.clause.now) c.keeps_facts_and_variables.result c.keeps_facts_and_variables.ensures c.if-not-keeps_facts_and_variables.true n),
)

pub returns : goal.returns
returns g c =
    normal_then (clause_at (g.B.Bank.trees c.args.bank.now) c.args.clause.now) c.keeps_facts_and_variables.result c.keeps_its_diffs.result c.keeps_facts_and_variables.ensures c.if-not-keeps_facts_and_variables.false c.keeps_its_diffs.ensures
