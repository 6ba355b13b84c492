use Rattle.std.proofs.Common.{false, Option, ap, subst}
use Rattle.spec_translation.specs.Visit.{Visit}
use Rattle.spec_translation.specs.Choice.{GoesOn}
use Rattle.visit_choices.specs.declared.ways.Way.{Way}
use Rattle.process_visits.specs.Entries.{met_choice, IsEntryWay, EntryGoes}
use Rattle.unified_visits.proofs.Named.{if_ok}
use Rattle.pi_tree.specs.Processes.{condition_of}
use Rattle.pi_tree.specs.Terms.{term_of}
use Rattle.spec_calculus.specs.Tables.{sides}
use Rattle.std.specs.List.{AllByRecursion}
use Rattle.clause_terms.specs.Conditions.{HasShortTuples}
use Rattle.term_tree.proofs.BankLaws.{Grows_trans}
use Rattle.unified_visits.specs.Places.{protocol_at}
use Rattle.unified_visits.specs.Visits.{visit_at}
use Rattle.process_visits.proofs.Entering.{entry_large, entry_alone, entry_met}
use Rattle.process_visits.proofs.gets.entry_way.Goals as goal

pub is_large_condition-requires : goal.is_large_condition-requires
is_large_condition-requires g c = c.in_ok-made.ensures.names.visit.known.scope

pub returns-in_err-made-clause-grows : goal.returns-in_err-made-clause-grows
returns-in_err-made-clause-grows g c = c.with_entry.ensures.grows

pub returns-then-is_large_condition-clause-grows : goal.returns-then-is_large_condition-clause-grows
returns-then-is_large_condition-clause-grows g c = c.with_entry.ensures.grows

pub returns-then-is_large_condition-clause-goes : goal.returns-then-is_large_condition-clause-goes
returns-then-is_large_condition-clause-goes g c =
    let get = c.args.get.now in
    let mid = g.B.Bank.trees c.with_entry.new.bank in
    entry_large (protocol_at c.args.place.now) (visit_at (g.B.Bank.trees c.args.bank.now) c.args.visit.now) get.table get.patterns.now (condition_of get.condition.now) mid c.in_ok-made.made c.in_ok-made.ensures.names mid
    c.is_large_condition.result c.is_large_condition.ensures c.if-is_large_condition.true

pub way_to-requires : goal.way_to-requires
way_to-requires g c = c.in_ok-made.ensures.names.visit.known

pub returns-in-None-clause-grows : goal.returns-in-None-clause-grows
returns-in-None-clause-grows g c = c.with_entry.ensures.grows

pub returns-in-None-clause-goes : goal.returns-in-None-clause-goes
returns-in-None-clause-goes g c =
    let get = c.args.get.now in
    entry_alone (protocol_at c.args.place.now) (visit_at (g.B.Bank.trees c.args.bank.now) c.args.visit.now) get.table get.patterns.now (condition_of get.condition.now) (g.B.Bank.trees c.with_entry.new.bank) c.in_ok-made.made c.in_ok-made.ensures.names
    c.is_large_condition.result c.is_large_condition.ensures c.if-is_large_condition.false (ap condition_of c.in-None.is) c.way_to.result c.way_to.ensures

pub met_way-requires-clause-visit : goal.met_way-requires-clause-visit
met_way-requires-clause-visit g c = c.in_ok-made.ensures.names.visit.known

pub met_way-requires-clause-left : goal.met_way-requires-clause-left
met_way-requires-clause-left g c = (subst (λ o. AllByRecursion HasShortTuples (sides (condition_of o))) c.in-Some.is c.requires.sides).0

pub met_way-requires-clause-right : goal.met_way-requires-clause-right
met_way-requires-clause-right g c = (subst (λ o. AllByRecursion HasShortTuples (sides (condition_of o))) c.in-Some.is c.requires.sides).1.0

pub returns-in-Some-clause-grows : goal.returns-in-Some-clause-grows
returns-in-Some-clause-grows g c = Grows_trans (g.B.Bank.trees c.args.bank.now) (g.B.Bank.trees c.with_entry.new.bank) (g.B.Bank.trees c.met_way.new.bank) c.with_entry.ensures.grows c.met_way.ensures.grows

pub returns-in-Some-clause-goes : goal.returns-in-Some-clause-goes
returns-in-Some-clause-goes g c =
    let get = c.args.get.now in
    let mid = g.B.Bank.trees c.with_entry.new.bank in
    let new = g.B.Bank.trees c.met_way.new.bank in
    let P = protocol_at c.args.place.now in
    let v = visit_at (g.B.Bank.trees c.args.bank.now) c.args.visit.now in
    let l = term_of c.in-Some.left in
    let r = term_of c.in-Some.right in
    if_ok c.met_way.result (λ (way : Way). (out : Option Visit) × GoesOn (met_choice P (visit_at mid c.in_ok-made.made) l r) out × IsEntryWay new false out way) (λ (way : Way). EntryGoes P v get.table get.patterns.now (condition_of get.condition.now) new way)
    (λ way met. entry_met P v get.table get.patterns.now (condition_of get.condition.now) mid c.in_ok-made.made c.in_ok-made.ensures.names new l r
    c.is_large_condition.result c.is_large_condition.ensures c.if-is_large_condition.false (ap condition_of c.in-Some.is) way met) c.met_way.ensures.goes
