use Rattle.std.proofs.Common.{◌+◌, ◌≤◌, length, take, sym, subst, arith, Option}
use Rattle.spec_saturation.specs.Key.{key}
use Rattle.log_walks.specs.Pairs.{major, minor}
use Rattle.log_walks.specs.Walked.{IsWalked, HasOffered}
use Rattle.log_entries.proofs.Placing.{front_grows}
use Rattle.log_walks.proofs.Fitting.{walked_fit, walked_grows, walked_back}
use Rattle.log_walks.proofs.Pairing.{made_grows, same_if_no_more}
use Rattle.log_walks.proofs.Stepping.{gone_on}
use Rattle.term_tree.proofs.BankLaws.{Grows_same}
use Rattle.log_entries.specs.declared.log.Entry.{Entry}
use Rattle.log_walks.proofs.pairs.keep.Goals as goal

pub offer_resolvents-requires : goal.offer_resolvents-requires
offer_resolvents-requires g c =
    let now = g.B.Bank.trees c.args.bank.now in
    let before = take c.args.mark.len now in
    let walk = c.args.walk.now in
    let grows = front_grows c.args.mark.len now in
    λ κs h. (h, (walked_grows before now g.task walk (key (major c.args.pair) (minor c.args.pair) 1) grows c.requires.1.1.0, made_grows before now walk.items.items c.args.pair c.args.clauses.now grows c.requires.1.1.1 (walked_fit before g.task walk (key (major c.args.pair) (minor c.args.pair) 1) c.requires.1.1.0)))

pub returns-in_err-due-clause-grows : goal.returns-in_err-due-clause-grows
returns-in_err-due-clause-grows g c = front_grows c.args.mark.len (g.B.Bank.trees c.args.bank.now)

pub returns-in-Some-clause-grows : goal.returns-in-Some-clause-grows
returns-in-Some-clause-grows g c = front_grows c.args.mark.len (g.B.Bank.trees c.args.bank.now)

pub returns-then-count-len-clause-grows : goal.returns-then-count-len-clause-grows
returns-then-count-len-clause-grows g c = front_grows c.args.mark.len (g.B.Bank.trees c.args.bank.now)

pub returns-clause-passed : goal.returns-clause-passed
returns-clause-passed g c =
    let now = g.B.Bank.trees c.args.bank.now in
    let before = take c.args.mark.len now in
    let old = c.args.walk.now in
    let new = c.offer_resolvents.new.walk in
    let from = key (major c.args.pair) (minor c.args.pair) 1 in
    let at = key (major c.args.pair) (minor c.args.pair + 1) 1 in
    let few : length new.items.items ≤ length old.items.items = omega arith in
    let same = same_if_no_more old.items.items new.items.items c.in_ok-due.ensures.entries few in
    let walked = gone_on now g.task new at c.in_ok-due.field-0 c.in-None.is c.in_ok-due.ensures.offered in
    subst (λ all. IsWalked all g.task new at) (sym c.back.ensures)
    (walked_back before now g.task old new from at (front_grows c.args.mark.len now) same c.requires.1.1.0 walked)

pub back-requires : goal.back-requires
back-requires g c = c.requires.1.0

pub returns-clause-grows : goal.returns-clause-grows
returns-clause-grows g c = Grows_same (take c.args.mark.len (g.B.Bank.trees c.args.bank.now)) (g.B.Bank.trees c.back.new.self) c.back.ensures

pub returns-clause-tidy : goal.returns-clause-tidy
returns-clause-tidy g c = λ _. c.back.ensures

pub returns-in-Some-clause-passed : goal.returns-in-Some-clause-passed
returns-in-Some-clause-passed g c = subst (λ (due : Option Entry). HasOffered (g.B.Bank.trees c.args.bank.now) g.task c.offer_resolvents.new.walk (key (major c.args.pair) (minor c.args.pair + 1) 1) due) c.in-Some.is c.in_ok-due.ensures.offered
