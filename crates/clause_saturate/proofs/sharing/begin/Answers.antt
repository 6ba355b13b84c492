use Rattle.std.proofs.Common.{◌≡◌, [], map, refl, rules, arith}
use Rattle.std.proofs.lemmas.List.{length-map}
use Rattle.clause_form.specs.Seen.{clause_at}
use Rattle.clause_resolve.proofs.Answering.{as_before, taken_back}
use Rattle.term_tree.proofs.BankLaws.{Grows-length}
use Rattle.log_entries.specs.declared.walk.Walk.{Walk}
use Rattle.clause_saturate.specs.Common.{Shared, task_of}
use Rattle.log_entries.proofs.Listing.{none_listed}
use Rattle.clause_saturate.proofs.Commons.{some_goal, some_task, fit_proper}
use Rattle.log_walks.proofs.Stepping.{walk_begins}
use Rattle.clause_saturate.proofs.sharing.begin.Goals as goal

pub walk_to_goal-requires : goal.walk_to_goal-requires
walk_to_goal-requires g c = λ κs h. (
    let all = g.B.Bank.trees c.args.bank.now in
    let shared : Shared = record { clauses = map (clause_at all) c.args.given.now; budget = c.args.budget } in
    let none : c.new.result.items ≡ [] = search rules in
    let walk : Walk = record { alloc = c.args.alloc; items = c.new.result; live = c.none.result; budget = c.args.budget } in
    (h, ((some_goal, refl), (c.requires.fit, (refl, walk_begins all (task_of shared some_goal) walk (some_task shared (fit_proper all c.args.given.now c.requires.fit)) none refl refl (none_listed all c.new.result.items c.none.result none c.none.ensures))))))

pub returns-in-Ok-clause-begun : goal.returns-in-Ok-clause-begun
returns-in-Ok-clause-begun g c =
    let all = g.B.Bank.trees c.args.bank.now in
    let shared : Shared = record { clauses = map (clause_at all) c.args.given.now; budget = c.args.budget } in
    let count = length-map c.args.given.now (clause_at all) in
    c.begun.ensures (g.B.Bank.trees c.walk_to_goal.new.bank) shared some_goal (fit_proper all c.args.given.now c.requires.fit) (omega (arith, count)) c.mark.ensures c.in-Ok.ensures.arrived

pub back-requires : goal.back-requires
back-requires g c = omega (arith, c.mark-mark.ensures, Grows-length (g.B.Bank.trees c.args.bank.now) (g.B.Bank.trees c.walk_to_goal.new.bank) c.walk_to_goal.ensures.grows)

pub returns-in-Err-clause-grows : goal.returns-in-Err-clause-grows
returns-in-Err-clause-grows g c = taken_back (g.B.Bank.trees c.args.bank.now) (g.B.Bank.trees c.walk_to_goal.new.bank) (g.B.Bank.trees c.back.new.self) _ c.walk_to_goal.ensures.grows c.mark-mark.ensures c.back.ensures

pub returns-in-Err-clause-err : goal.returns-in-Err-clause-err
returns-in-Err-clause-err g c = as_before (g.B.Bank.trees c.args.bank.now) (g.B.Bank.trees c.walk_to_goal.new.bank) (g.B.Bank.trees c.back.new.self) _ c.walk_to_goal.ensures.grows c.mark-mark.ensures c.back.ensures
