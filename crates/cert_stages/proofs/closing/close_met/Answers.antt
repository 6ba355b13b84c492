use Rattle.std.proofs.Common.{◌∙◌, [], get_or, sym}
use Rattle.std.proofs.lemmas.Option.{slice_get-get_or}
use Rattle.spec_clauses.specs.Fact.{Bad}
use Rattle.clause_form.specs.Seen.{IdClause}
use Rattle.fact_fingerprint.specs.Seen.{fingerprint_seen}
use Rattle.cert_stages.proofs.Passing.{chosen_at, pair_told_apart}
use Rattle.cert_stages.proofs.closing.close_met.Goals as goal

pub close_pair-requires-clause-unsolved : goal.close_pair-requires-clause-unsolved
close_pair-requires-clause-unsolved g c = c.requires.unsolved.within

pub close_pair-requires-clause-chosen : goal.close_pair-requires-clause-chosen
close_pair-requires-clause-chosen g c = c.requires.unsolved.chosen

pub returns-then-not-may_meet-clause-closed : goal.returns-then-not-may_meet-clause-closed
returns-then-not-may_meet-clause-closed g c =
    let all = g.B.Bank.trees c.args.bank.now in
    let cs = c.args.checker.now.clauses.now in
    let numbers = c.args.checker.now.numbers.now in
    let solving = c.args.solving.now in
    let one = c.args.one.now in
    let none : IdClause = record { hypotheses = []; diffs = []; conclusion = Bad [] } in
    let there = chosen_at all cs numbers one.place one.at none c.requires.unsolved.within c.requires.right c.requires.unsolved.chosen in
    pair_told_apart all cs numbers c.args.checker.now.rows.now c.args.from solving.solved one.place one.at none none c.requires.solved c.requires.unsolved.within c.requires.unsolved.chosen there.0 (fingerprint_seen solving.print) (fingerprint_seen one.print) there.1
    (c.requires.print (get_or cs solving.solved none) (slice_get-get_or cs solving.solved none c.requires.solved))
    (c.requires.unsolved.print (get_or cs one.place none) there.0 (slice_get-get_or cs one.place none c.requires.unsolved.within) there.1)
    (sym c.may_meet.ensures.exact ∙ c.if-not-may_meet.true)
