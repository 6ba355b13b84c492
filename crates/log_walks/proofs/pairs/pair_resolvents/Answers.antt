use Rattle.log_walks.specs.Pairs.{major, minor}
use Rattle.log_walks.proofs.Found.{solved_fit, unsolved_fit, answer_found, never_none}
use Rattle.log_walks.proofs.Fitting.{fit_size}
use Rattle.std.proofs.Common.{arith}
use Rattle.spec_saturation.proofs.Places.{numbered_within}
use Rattle.term_tree.proofs.BankLaws.{Grows_refl}
use Rattle.log_walks.proofs.pairs.pair_resolvents.Goals as goal

pub selected-requires-clause-known : goal.selected-requires-clause-known
selected-requires-clause-known g c =
    let pair = c.args.pair in
    (unsolved_fit (g.B.Bank.trees c.args.bank.now) c.args.entries.now (major pair) (minor pair) pair c.requires.due c.index-entries-pair-2.result c.index-entries-pair-2.is c.requires.entries).known

pub selected-requires-clause-small : goal.selected-requires-clause-small
selected-requires-clause-small g c =
    let pair = c.args.pair in
    let all = g.B.Bank.trees c.args.bank.now in
    fit_size all c.index-entries-pair-2.result.clause (unsolved_fit all c.args.entries.now (major pair) (minor pair) pair c.requires.due c.index-entries-pair-2.result c.index-entries-pair-2.is c.requires.entries)

pub resolvents-requires-clause-solved : goal.resolvents-requires-clause-solved
resolvents-requires-clause-solved g c =
    let pair = c.args.pair in
    (solved_fit (g.B.Bank.trees c.args.bank.now) c.args.entries.now (major pair) (minor pair) pair c.requires.due c.index-entries-pair.result c.index-entries-pair.is c.requires.entries).known

pub resolvents-requires-clause-solved_low : goal.resolvents-requires-clause-solved_low
resolvents-requires-clause-solved_low g c =
    let pair = c.args.pair in
    let all = g.B.Bank.trees c.args.bank.now in
    (solved_fit all c.args.entries.now (major pair) (minor pair) pair c.requires.due c.index-entries-pair.result c.index-entries-pair.is c.requires.entries).low

pub resolvents-requires-clause-unsolved : goal.resolvents-requires-clause-unsolved
resolvents-requires-clause-unsolved g c =
    let pair = c.args.pair in
    (unsolved_fit (g.B.Bank.trees c.args.bank.now) c.args.entries.now (major pair) (minor pair) pair c.requires.due c.index-entries-pair-2.result c.index-entries-pair-2.is c.requires.entries).known

pub resolvents-requires-clause-unsolved_low : goal.resolvents-requires-clause-unsolved_low
resolvents-requires-clause-unsolved_low g c =
    let pair = c.args.pair in
    let all = g.B.Bank.trees c.args.bank.now in
    (unsolved_fit all c.args.entries.now (major pair) (minor pair) pair c.requires.due c.index-entries-pair-2.result c.index-entries-pair-2.is c.requires.entries).low

pub returns-in-None-clause-found : goal.returns-in-None-clause-found
returns-in-None-clause-found g c =
    absurd (never_none (g.B.Bank.trees c.args.bank.now) c.args.entries.now c.args.pair c.requires.due c.index-entries-pair-2.result c.selected.result c.index-entries-pair-2.is c.in-None.is c.selected.ensures.none.0)

pub returns-in_ok-found-in-Some-clause-found : goal.returns-in_ok-found-in-Some-clause-found
returns-in_ok-found-in-Some-clause-found g c =
    answer_found (g.B.Bank.trees c.args.bank.now) (g.B.Bank.trees c.resolvents.new.bank) c.args.entries.now c.args.pair c.requires.due c.index-entries-pair.result c.index-entries-pair-2.result c.in_ok-found-in-Some.found c.index-entries-pair.is c.index-entries-pair-2.is c.in_ok-found-in-Some.ensures.answer c.in_ok-found-in-Some.ensures.low

pub bounds-entries-pair : goal.bounds-entries-pair
bounds-entries-pair g c =
    let due = c.requires.due in
    let within = numbered_within c.args.entries.now c.args.pair.solved due.solved due.solved_at in
    omega (arith, within.0, within.1)

pub offset_bounds-entries-pair : goal.offset_bounds-entries-pair
offset_bounds-entries-pair g c =
    let due = c.requires.due in
    let within = numbered_within c.args.entries.now c.args.pair.solved due.solved due.solved_at in
    omega (arith, within.0, within.1)

pub bounds-entries-pair-2 : goal.bounds-entries-pair-2
bounds-entries-pair-2 g c =
    let due = c.requires.due in
    let within = numbered_within c.args.entries.now c.args.pair.unsolved due.unsolved due.unsolved_at in
    omega (arith, within.0, within.1)

pub offset_bounds-entries-pair-2 : goal.offset_bounds-entries-pair-2
offset_bounds-entries-pair-2 g c =
    let due = c.requires.due in
    let within = numbered_within c.args.entries.now c.args.pair.unsolved due.unsolved due.unsolved_at in
    omega (arith, within.0, within.1)

pub returns-in-None-clause-grows : goal.returns-in-None-clause-grows
returns-in-None-clause-grows g c = Grows_refl (g.B.Bank.trees c.args.bank.now)
