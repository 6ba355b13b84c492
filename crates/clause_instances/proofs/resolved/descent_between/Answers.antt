use Rattle.term_tree.proofs.BankLaws.{Grows_trans}
use Rattle.clause_form.specs.Seen.{clause_at}
use Rattle.clause_instances.proofs.Descending.{itself, copied_later, met_later, never_met, descends_from}
use Rattle.clause_instances.proofs.resolved.descent_between.Goals as goal

pub returns-in_default-clause-descends : goal.returns-in_default-clause-descends
returns-in_default-clause-descends c =
    let old = c.args.bank.now in
    let none = rw c.in_default.is at c.in_ok-met.ensures.meets in
    never_met c.met_of.new.bank (clause_at old c.args.solved.now) (clause_at old c.args.unsolved.now) c.args.number none

pub descent_of-requires-clause-solved : goal.descent_of-requires-clause-solved
descent_of-requires-clause-solved c =
    let old = c.args.bank.now in
    let next = c.met_of.new.bank in
    let left = itself old c.args.solved.now c.requires.solved c.requires.solved_low in
    let right = itself old c.args.unsolved.now c.requires.unsolved c.requires.unsolved_low in
    let left_now = copied_later old next c.args.solved.now (clause_at old c.args.solved.now) c.met_of.ensures.grows left in
    let right_now = copied_later old next c.args.unsolved.now (clause_at old c.args.unsolved.now) c.met_of.ensures.grows right in
    left_now.names.known

pub descent_of-requires-clause-solved_low : goal.descent_of-requires-clause-solved_low
descent_of-requires-clause-solved_low c =
    let old = c.args.bank.now in
    let next = c.met_of.new.bank in
    let left = itself old c.args.solved.now c.requires.solved c.requires.solved_low in
    let right = itself old c.args.unsolved.now c.requires.unsolved c.requires.unsolved_low in
    let left_now = copied_later old next c.args.solved.now (clause_at old c.args.solved.now) c.met_of.ensures.grows left in
    let right_now = copied_later old next c.args.unsolved.now (clause_at old c.args.unsolved.now) c.met_of.ensures.grows right in
    left_now.low

pub descent_of-requires-clause-unsolved : goal.descent_of-requires-clause-unsolved
descent_of-requires-clause-unsolved c =
    let old = c.args.bank.now in
    let next = c.met_of.new.bank in
    let left = itself old c.args.solved.now c.requires.solved c.requires.solved_low in
    let right = itself old c.args.unsolved.now c.requires.unsolved c.requires.unsolved_low in
    let left_now = copied_later old next c.args.solved.now (clause_at old c.args.solved.now) c.met_of.ensures.grows left in
    let right_now = copied_later old next c.args.unsolved.now (clause_at old c.args.unsolved.now) c.met_of.ensures.grows right in
    right_now.names.known

pub descent_of-requires-clause-unsolved_low : goal.descent_of-requires-clause-unsolved_low
descent_of-requires-clause-unsolved_low c =
    let old = c.args.bank.now in
    let next = c.met_of.new.bank in
    let left = itself old c.args.solved.now c.requires.solved c.requires.solved_low in
    let right = itself old c.args.unsolved.now c.requires.unsolved c.requires.unsolved_low in
    let left_now = copied_later old next c.args.solved.now (clause_at old c.args.solved.now) c.met_of.ensures.grows left in
    let right_now = copied_later old next c.args.unsolved.now (clause_at old c.args.unsolved.now) c.met_of.ensures.grows right in
    right_now.low

pub descent_of-requires-clause-met : goal.descent_of-requires-clause-met
descent_of-requires-clause-met c =
    let old = c.args.bank.now in
    let next = c.met_of.new.bank in
    let left = itself old c.args.solved.now c.requires.solved c.requires.solved_low in
    let right = itself old c.args.unsolved.now c.requires.unsolved c.requires.unsolved_low in
    let left_now = copied_later old next c.args.solved.now (clause_at old c.args.solved.now) c.met_of.ensures.grows left in
    let right_now = copied_later old next c.args.unsolved.now (clause_at old c.args.unsolved.now) c.met_of.ensures.grows right in
    let meets = rw c.in-Some.is at c.in_ok-met.ensures.meets in
    let m = met_later old next c.args.solved.now c.args.unsolved.now (clause_at old c.args.solved.now) (clause_at old c.args.unsolved.now) c.in-Some.met left right left_now right_now meets.1 in
    m

pub returns-clause-grows : goal.returns-clause-grows
returns-clause-grows c =
    Grows_trans c.args.bank.now c.met_of.new.bank c.descent_of.new.bank c.met_of.ensures.grows c.descent_of.ensures.grows

pub returns-clause-descends : goal.returns-clause-descends
returns-clause-descends c =
    let old = c.args.bank.now in
    let next = c.met_of.new.bank in
    let left = itself old c.args.solved.now c.requires.solved c.requires.solved_low in
    let right = itself old c.args.unsolved.now c.requires.unsolved c.requires.unsolved_low in
    let left_now = copied_later old next c.args.solved.now (clause_at old c.args.solved.now) c.met_of.ensures.grows left in
    let right_now = copied_later old next c.args.unsolved.now (clause_at old c.args.unsolved.now) c.met_of.ensures.grows right in
    let meets = rw c.in-Some.is at c.in_ok-met.ensures.meets in
    let m = met_later old next c.args.solved.now c.args.unsolved.now (clause_at old c.args.solved.now) (clause_at old c.args.unsolved.now) c.in-Some.met left right left_now right_now meets.1 in
    descends_from next c.args.solved.now c.args.unsolved.now (clause_at old c.args.solved.now) (clause_at old c.args.unsolved.now) c.in-Some.met c.args.number c.descent_of.result left_now right_now meets.0 m c.descent_of.ensures.descends
