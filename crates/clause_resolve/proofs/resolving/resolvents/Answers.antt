use Rattle.clause_form.specs.Seen.{clause_at}
use Rattle.clause_resolve.proofs.Shifting.{place_selected}
use Rattle.clause_resolve.proofs.Answering.{answer_selected}
use Rattle.clause_resolve.proofs.resolving.resolvents.Goals as goal

pub resolvents_at-requires-clause-there : goal.resolvents_at-requires-clause-there
resolvents_at-requires-clause-there g c = (place_selected (clause_at (g.B.Bank.trees c.args.bank.now) c.args.unsolved.now) c.args.at c.requires.selected).0

pub returns-clause-answer : goal.returns-clause-answer
returns-clause-answer g c =
    let all = g.B.Bank.trees c.args.bank.now in
    answer_selected (g.B.Bank.trees c.resolvents_at.new.bank) (clause_at all c.args.solved.now) (clause_at all c.args.unsolved.now) c.args.at c.resolvents_at.result c.requires.selected c.resolvents_at.ensures.answer
