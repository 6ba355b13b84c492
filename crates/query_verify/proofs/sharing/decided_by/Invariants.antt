use Rattle.query_verify.specs.Settled.{shared_of}
use Rattle.query_verify.proofs.sharing.decided_by.Given as goal

abbrev pub ghost-finished : goal.ghost-finished
ghost-finished g a = shared_of (g.B.Bank.trees a.bank.now) a.given.now a.question.now.budget
