use Rattle.std.proofs.Common.{◌≡◌, ◌∙◌, get_or, rules, arith}
use Rattle.pi_tree.specs.Protocols.{protocol_of}
use Rattle.cert_stages.specs.Arguments.{arguments_of}
use Rattle.cert_stages.proofs.GoalArguments.{named_arguments}
use Rattle.term_tree.proofs.BankLaws.{Grows-length}
use Rattle.clause_resolve.proofs.Answering.{as_before}
use Rattle.cert_stages.proofs.arguments.goal_arguments.Goals as goal

pub returns-clause-count : goal.returns-clause-count
returns-clause-count g c = λ q there.
    let is : c.arguments_of.result ≡ arguments_of c.index.result.now.conclusion = search rules in
    let at : c.index.result.now ≡ get_or c.in_ok-goal.goal 0 c.index.result.now = search rules in
    is ∙ named_arguments (g.B.Bank.trees c.goal_clause.new.bank) c.in_ok-goal.goal (protocol_of c.args.protocol.now) q c.index.result.now (c.in_ok-goal.ensures.names q there) c.in_ok-goal.ensures.one at

pub back-requires : goal.back-requires
back-requires g c = omega (arith, c.mark-mark.ensures, Grows-length (g.B.Bank.trees c.args.bank.now) (g.B.Bank.trees c.goal_clause.new.bank) c.goal_clause.ensures.grows)

pub returns-clause-bank : goal.returns-clause-bank
returns-clause-bank g c = as_before (g.B.Bank.trees c.args.bank.now) (g.B.Bank.trees c.goal_clause.new.bank) (g.B.Bank.trees c.back.new.self) _ c.goal_clause.ensures.grows c.mark-mark.ensures c.back.ensures
