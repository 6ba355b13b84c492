use Rattle.std.proofs.Common.{sym, subst, IfOk}
use Rattle.spec_terms.specs.Term.{Term}
use Rattle.spec_clauses.specs.Fact.{Clause}
use Rattle.spec_derivations.specs.Choice.{at_place}
use Rattle.clause_form.specs.Seen.{clause_at}
use Rattle.clause_resolve.specs.Apart.{IsHypothesisAt}
use Rattle.clause_resolve.specs.Answers.{IsAnswerAt}
use Rattle.clause_form.proofs.Fit.{HasLowVariables-grows}
use Rattle.clause_resolve.proofs.Low.{low_terms}
use Rattle.clause_resolve.proofs.Shifting.{apart_known}
use Rattle.clause_resolve.proofs.Answering.{IsClauseIn-later, clause_at-later}
use Rattle.term_tree.proofs.BankLaws.{Grows_trans}
use Rattle.clause_resolve.proofs.resolving.resolvents_grown.Goals as goal

pub resolve_moved-requires-clause-moved : goal.resolve_moved-requires-clause-moved
resolve_moved-requires-clause-moved g c = c.in_ok-moved.ensures.names.known

pub resolve_moved-requires-clause-unsolved : goal.resolve_moved-requires-clause-unsolved
resolve_moved-requires-clause-unsolved g c = IsClauseIn-later (g.B.Bank.trees c.args.bank.now) (g.B.Bank.trees c.moved_clause.new.bank) c.args.unsolved.now c.moved_clause.ensures.grows c.requires.unsolved

pub resolve_moved-requires-clause-moved_low : goal.resolve_moved-requires-clause-moved_low
resolve_moved-requires-clause-moved_low g c = c.in_ok-moved.ensures.low

pub resolve_moved-requires-clause-unsolved_low : goal.resolve_moved-requires-clause-unsolved_low
resolve_moved-requires-clause-unsolved_low g c = HasLowVariables-grows (g.B.Bank.trees c.args.bank.now) (g.B.Bank.trees c.moved_clause.new.bank) c.args.unsolved.now c.moved_clause.ensures.grows c.requires.unsolved c.requires.unsolved_low

pub resolve_moved-requires-clause-there : goal.resolve_moved-requires-clause-there
resolve_moved-requires-clause-there g c =
    subst (λ (k : Clause Term). IsHypothesisAt k c.args.at) (sym (clause_at-later (g.B.Bank.trees c.args.bank.now) (g.B.Bank.trees c.moved_clause.new.bank) c.args.unsolved.now c.moved_clause.ensures.grows c.requires.unsolved)) c.requires.there

pub returns-then-is_smaller-clause-answer : goal.returns-then-is_smaller-clause-answer
returns-then-is_smaller-clause-answer g c =
    let old = g.B.Bank.trees c.args.bank.now in
    let now = g.B.Bank.trees c.moved_clause.new.bank in
    let new = g.B.Bank.trees c.resolve_moved.new.bank in
    let solved = clause_at old c.args.solved.now in
    subst (λ (k : Clause Term). IfOk c.resolve_moved.result (λ found. IsAnswerAt c.args.at new solved k found)) (clause_at-later old now c.args.unsolved.now c.moved_clause.ensures.grows c.requires.unsolved) (c.resolve_moved.ensures.answer solved record { low = low_terms old c.args.solved.now c.requires.solved_low; names = c.in_ok-moved.ensures.names })

pub returns-then-is_smaller-clause-grows : goal.returns-then-is_smaller-clause-grows
returns-then-is_smaller-clause-grows g c = Grows_trans (g.B.Bank.trees c.args.bank.now) (g.B.Bank.trees c.moved_clause.new.bank) (g.B.Bank.trees c.resolve_moved.new.bank) c.moved_clause.ensures.grows c.resolve_moved.ensures.grows

pub resolve_apart-requires-clause-solved : goal.resolve_apart-requires-clause-solved
resolve_apart-requires-clause-solved g c = IsClauseIn-later (g.B.Bank.trees c.args.bank.now) (g.B.Bank.trees c.set_apart_at.new.bank) c.args.solved.now c.set_apart_at.ensures.grows c.requires.solved

pub resolve_apart-requires-clause-apart : goal.resolve_apart-requires-clause-apart
resolve_apart-requires-clause-apart g c = apart_known (g.B.Bank.trees c.set_apart_at.new.bank) (clause_at (g.B.Bank.trees c.args.bank.now) c.args.unsolved.now) c.in_ok-apart.apart c.in_ok-apart.ensures.apart

pub resolve_apart-requires-clause-solved_low : goal.resolve_apart-requires-clause-solved_low
resolve_apart-requires-clause-solved_low g c = HasLowVariables-grows (g.B.Bank.trees c.args.bank.now) (g.B.Bank.trees c.set_apart_at.new.bank) c.args.solved.now c.set_apart_at.ensures.grows c.requires.solved c.requires.solved_low

pub returns-clause-answer : goal.returns-clause-answer
returns-clause-answer g c =
    let old = g.B.Bank.trees c.args.bank.now in
    let now = g.B.Bank.trees c.set_apart_at.new.bank in
    let new = g.B.Bank.trees c.resolve_apart.new.bank in
    let unsolved = clause_at old c.args.unsolved.now in
    subst (λ (k : Clause Term). IfOk c.resolve_apart.result (λ found. IsAnswerAt c.args.at new k unsolved found)) (clause_at-later old now c.args.solved.now c.set_apart_at.ensures.grows c.requires.solved) (c.resolve_apart.ensures.answer (at_place unsolved.hypotheses c.args.at) unsolved c.in_ok-apart.ensures.apart)

pub returns-clause-grows : goal.returns-clause-grows
returns-clause-grows g c = Grows_trans (g.B.Bank.trees c.args.bank.now) (g.B.Bank.trees c.set_apart_at.new.bank) (g.B.Bank.trees c.resolve_apart.new.bank) c.set_apart_at.ensures.grows c.resolve_apart.ensures.grows
