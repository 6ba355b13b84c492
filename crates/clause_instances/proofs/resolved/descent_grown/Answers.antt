use Rattle.std.proofs.Common.{refl}
use Rattle.term_tree.proofs.BankLaws.{Grows_trans}
use Rattle.clause_form.specs.Seen.{clause_at}
use Rattle.clause_instances.proofs.Descending.{copied_low, descends_as}
use Rattle.clause_instances.proofs.resolved.descent_grown.Goals as goal

pub descent_beside-requires-clause-solved : goal.descent_beside-requires-clause-solved
descent_beside-requires-clause-solved c =
    c.in_ok-left.ensures.names.known

pub descent_beside-requires-clause-solved_low : goal.descent_beside-requires-clause-solved_low
descent_beside-requires-clause-solved_low c =
    (copied_low c.copied.new.bank c.in_ok-left.left c.args.solved.now c.in_ok-left.ensures.names c.in_ok-left.ensures.low c.requires.solved.1).low

pub returns-clause-grows : goal.returns-clause-grows
returns-clause-grows c =
    Grows_trans c.args.bank.now c.copied.new.bank c.descent_beside.new.bank c.copied.ensures.grows c.descent_beside.ensures.grows

pub returns-clause-descends : goal.returns-clause-descends
returns-clause-descends c =
    descends_as (clause_at c.copied.new.bank c.in_ok-left.left) c.args.solved.now c.args.unsolved.now c.args.unsolved.now c.args.number c.descent_beside.result c.in_ok-left.ensures.names.is refl c.descent_beside.ensures.descends
