-- The log is told by how it ends.
use Rattle.std.proofs.Common.{map, refl, subst}
use Rattle.clause_form.specs.Seen.{clause_at}
use Rattle.log_entries.specs.declared.log.Saturated.{Saturated}
use Rattle.log_entries.specs.Logs.{IsLogOf}
use Rattle.hx.proofs.Telling.{spent_told, large_told}
use Rattle.hx.proofs.logging.ended.Goals as goal

pub returns-in_ok-entry-in-Spent-clause-told : goal.returns-in_ok-entry-in-Spent-clause-told
returns-in_ok-entry-in-Spent-clause-told g c =
    let all = g.B.Bank.trees c.args.bank.now in
    spent_told c.args.asked.now all c.args.given.now c.requires.asked c.requires.given c.in-Spent.log c.in-Spent.due c.in_ok-entry-in-Spent.entry _
    (subst (λ (s : Saturated). IsLogOf all (map (clause_at all) c.args.given.now) c.args.asked.now.budget s) c.in-Spent.is c.requires.log) c.in_ok-entries-in-Spent.ensures c.in_ok-entry-in-Spent.ensures refl refl refl refl

pub returns-in_ok-entries-in-Large-clause-told : goal.returns-in_ok-entries-in-Large-clause-told
returns-in_ok-entries-in-Large-clause-told g c =
    let all = g.B.Bank.trees c.args.bank.now in
    large_told c.args.asked.now all c.args.given.now c.requires.asked c.requires.given c.in-Large.log c.in-Large.solved c.in-Large.unsolved _
    (subst (λ (s : Saturated). IsLogOf all (map (clause_at all) c.args.given.now) c.args.asked.now.budget s) c.in-Large.is c.requires.log) c.in_ok-entries-in-Large.ensures refl refl refl refl
