use Rattle.std.proofs.Common.{refl, arith}
use Rattle.std.proofs.lemmas.Grind.{common_steps}
use Rattle.spec_attack_runs.specs.Source.{Source}
use Rattle.term_tree.proofs.BankLaws.{AreKnown-grows}
use Rattle.clause_instances.specs.declared.instance.Instance as made
use Rattle.clause_instances.proofs.Closes.{Closes-grows}
use Rattle.clause_instances.proofs.Instancing.{large_first, large_second, closed_whole}
use Rattle.clause_instances.proofs.given.closed_source.Goals as goal

pub returns-in_default-clause-closed : goal.returns-in_default-clause-closed
returns-in_default-clause-closed c = λ s closes.
    let source : Source = c.args.source.now in
    let none = rw c.raw.ensures at (c.in_ok-supposed.ensures.supposed s closes) in
    let large = rw c.in_default.is at none in
    large_first c.supposed_of.new.bank s source large

pub way_of-requires : goal.way_of-requires
way_of-requires c = AreKnown-grows c.args.bank.now c.supposed_of.new.bank c.args.closing.now.terms c.supposed_of.ensures.grows c.requires

pub returns-in_default-2-clause-closed : goal.returns-in_default-2-clause-closed
returns-in_default-2-clause-closed c = λ s closes.
    let source : Source = c.args.source.now in
    let later = Closes-grows c.args.bank.now c.supposed_of.new.bank c.args.closing.now s c.supposed_of.ensures.grows c.requires closes in
    let none = rw c.action.ensures at (c.in_ok-messages.ensures.way s later) in
    let large = rw c.in_default-2.is at none in
    large_second c.way_of.new.bank s source large

pub returns-clause-closed : goal.returns-clause-closed
returns-clause-closed c = λ s closes.
    let source : Source = c.args.source.now in
    let mid = c.supposed_of.new.bank in
    let next = c.way_of.new.bank in
    let later = Closes-grows c.args.bank.now mid c.args.closing.now s c.supposed_of.ensures.grows c.requires closes in
    let first = rw c.raw.ensures at (c.in_ok-supposed.ensures.supposed s closes) in
    let second = rw c.action.ensures at (c.in_ok-messages.ensures.way s later) in
    let supposed_are = rw c.in-Some.is at first in
    let way_is = rw c.in-Some-2.is at second in
    let ids : made.Instance = record { source = c.args.index; supposed = c.in-Some.supposed; messages = c.in-Some-2.messages; sessions = c.in-Some-2.sessions } in
    closed_whole mid next s source c.args.index ids c.way_of.ensures.grows supposed_are way_is refl

pub returns-in_err-messages-clause-grows : goal.returns-in_err-messages-clause-grows
returns-in_err-messages-clause-grows c = grind (arith, common_steps)

pub returns-clause-grows : goal.returns-clause-grows
returns-clause-grows c = grind (arith, common_steps)

pub returns-in_default-2-clause-grows : goal.returns-in_default-2-clause-grows
returns-in_default-2-clause-grows c = grind (arith, common_steps)
