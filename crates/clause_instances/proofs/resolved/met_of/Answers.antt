use Rattle.std.proofs.Common.{◌≡◌, true, arith}
use Rattle.std.proofs.lemmas.Grind.{common_steps}
use Rattle.spec_clauses.specs.Selection.{is_solved}
use Rattle.term_tree.proofs.BankLaws.{Grows_trans}
use Rattle.clause_form.specs.Seen.{clause_at}
use Rattle.clause_form.proofs.Fit.{HasLowVariables-grows}
use Rattle.clause_resolve.proofs.Answering.{clause_at-later}
use Rattle.clause_instances.proofs.Descending.{clause_later, met_by}
use Rattle.clause_instances.proofs.resolved.met_of.Goals as goal

pub meet-requires-clause-solved : goal.meet-requires-clause-solved
meet-requires-clause-solved c = clause_later c.args.bank.now c.set_apart.new.bank c.args.solved.now c.set_apart.ensures.grows c.requires.solved

pub meet-requires-clause-solved_low : goal.meet-requires-clause-solved_low
meet-requires-clause-solved_low c = HasLowVariables-grows c.args.bank.now c.set_apart.new.bank c.args.solved.now c.set_apart.ensures.grows c.requires.solved c.requires.solved_low

pub meet-requires-clause-apart : goal.meet-requires-clause-apart
meet-requires-clause-apart c = c.what_is_apart_outlasts_growth.ensures.known c.set_apart.new.bank (clause_at c.args.bank.now c.args.unsolved.now) c.in_ok-apart.apart c.in_ok-apart.ensures.apart

pub returns-clause-grows : goal.returns-clause-grows
returns-clause-grows c = Grows_trans c.args.bank.now c.set_apart.new.bank c.meet.new.bank c.set_apart.ensures.grows c.meet.ensures.grows

pub returns-clause-meets : goal.returns-clause-meets
returns-clause-meets c =
    let old = c.args.bank.now in
    let mid = c.set_apart.new.bank in
    let solved = c.args.solved.now in
    let unsolved = clause_at old c.args.unsolved.now in
    let holds : is_solved (clause_at old solved).hypotheses ≡ true = grind (arith, common_steps) in
    met_by c.meet.new.bank (clause_at mid solved) (clause_at old solved) unsolved c.meet.result (clause_at-later old mid solved c.set_apart.ensures.grows c.requires.solved) holds (c.meet.ensures.meets unsolved c.in_ok-apart.ensures.apart)
