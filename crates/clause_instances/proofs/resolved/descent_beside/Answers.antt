use Rattle.std.proofs.Common.{sym, subst}
use Rattle.spec_clauses.specs.Limits.{IsWithinLimit}
use Rattle.term_tree.proofs.BankLaws.{Grows_trans}
use Rattle.clause_form.specs.Seen.{clause_at}
use Rattle.clause_form.proofs.Fit.{HasLowVariables-grows}
use Rattle.clause_resolve.proofs.Answering.{clause_at-later}
use Rattle.clause_instances.proofs.Descending.{clause_later, copied_low, descends_as}
use Rattle.clause_instances.proofs.resolved.descent_beside.Goals as goal

pub descent_between-requires-clause-solved : goal.descent_between-requires-clause-solved
descent_between-requires-clause-solved c =
    clause_later c.args.bank.now c.copied.new.bank c.args.solved.now c.copied.ensures.grows c.requires.solved

pub descent_between-requires-clause-solved_low : goal.descent_between-requires-clause-solved_low
descent_between-requires-clause-solved_low c =
    HasLowVariables-grows c.args.bank.now c.copied.new.bank c.args.solved.now c.copied.ensures.grows c.requires.solved c.requires.solved_low

pub descent_between-requires-clause-unsolved : goal.descent_between-requires-clause-unsolved
descent_between-requires-clause-unsolved c =
    c.in_ok-right.ensures.names.known

pub descent_between-requires-clause-unsolved_low : goal.descent_between-requires-clause-unsolved_low
descent_between-requires-clause-unsolved_low c =
    let now = c.copied.new.bank in
    let right = copied_low now c.in_ok-right.right c.args.unsolved.now c.in_ok-right.ensures.names c.in_ok-right.ensures.low c.requires.unsolved.1 in
    right.low

pub descent_between-requires-clause-small : goal.descent_between-requires-clause-small
descent_between-requires-clause-small c =
    subst IsWithinLimit (sym c.in_ok-right.ensures.names.is) c.requires.unsolved.1

pub returns-clause-grows : goal.returns-clause-grows
returns-clause-grows c =
    Grows_trans c.args.bank.now c.copied.new.bank c.descent_between.new.bank c.copied.ensures.grows c.descent_between.ensures.grows

pub returns-clause-descends : goal.returns-clause-descends
returns-clause-descends c =
    let old = c.args.bank.now in
    let now = c.copied.new.bank in
    descends_as (clause_at now c.args.solved.now) (clause_at old c.args.solved.now) (clause_at now c.in_ok-right.right) c.args.unsolved.now c.args.number c.descent_between.result (clause_at-later old now c.args.solved.now c.copied.ensures.grows c.requires.solved) c.in_ok-right.ensures.names.is c.descent_between.ensures.descends
