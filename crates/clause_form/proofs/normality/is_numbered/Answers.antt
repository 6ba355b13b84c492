use Rattle.std.proofs.Common.{rules}
use Rattle.clause_form.specs.Seen.{clause_at}
use Rattle.clause_form.proofs.Testing.{after_clause}
use Rattle.clause_form.proofs.Told.{numbers_are}
use Rattle.clause_form.proofs.normality.is_numbered.Goals as goal

pub returns : goal.returns
returns g c =
    let clause = clause_at (g.B.Bank.trees c.args.bank.now) c.args.clause.now in
    let all = after_clause clause c.after_fact-first.result c.after_facts.result (search rules) (search rules) in
    numbers_are clause c.is_some.result (search rules)
