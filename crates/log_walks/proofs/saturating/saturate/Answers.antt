use Rattle.std.proofs.Common.{◌≡◌, [], true, false, map, refl, rules, arith}
use Rattle.clause_form.specs.Seen.{clause_at}
use Rattle.log_entries.specs.declared.walk.Walk.{Walk}
use Rattle.log_walks.specs.Walked.{Task, with_asked}
use Rattle.log_walks.proofs.Fitting.{fit_task}
use Rattle.log_entries.proofs.Listing.{none_listed}
use Rattle.log_walks.proofs.Stepping.{walk_begins}
use Rattle.term_tree.proofs.BankLaws.{Grows-length}
use Rattle.clause_resolve.proofs.Answering.{as_before, taken_back}
use Rattle.log_walks.proofs.saturating.saturate.Goals as goal

pub run-requires : goal.run-requires
run-requires g c = λ κs h. (
    let all = g.B.Bank.trees c.args.bank.now in
    let task : Task = record { given = map (clause_at all) c.args.given.now; budget = c.args.budget; asked = false } in
    let none : c.new.result.items ≡ [] = search rules in
    let walk : Walk = record { alloc = c.args.alloc; items = c.new.result; live = c.none.result; budget = c.args.budget } in
    (h, (c.requires.some, (refl, (c.requires.fit, (refl, walk_begins all task walk (fit_task all c.args.given.now c.args.budget c.requires.some c.requires.fit) none refl refl (none_listed all c.new.result.items c.none.result none c.none.ensures)))))))

pub returns-in-Ok-clause-log : goal.returns-in-Ok-clause-log
returns-in-Ok-clause-log g c =
    let all = g.B.Bank.trees c.args.bank.now in
    let task : Task = record { given = map (clause_at all) c.args.given.now; budget = c.args.budget; asked = false } in
    c.ended.ensures (g.B.Bank.trees c.run.new.bank) (with_asked task true) c.in-Ok.ensures.ended

pub back-requires : goal.back-requires
back-requires g c = omega (arith, c.mark-mark.ensures, Grows-length (g.B.Bank.trees c.args.bank.now) (g.B.Bank.trees c.run.new.bank) c.run.ensures.grows)

pub returns-in-Err-clause-grows : goal.returns-in-Err-clause-grows
returns-in-Err-clause-grows g c = taken_back (g.B.Bank.trees c.args.bank.now) (g.B.Bank.trees c.run.new.bank) (g.B.Bank.trees c.back.new.self) _ c.run.ensures.grows c.mark-mark.ensures c.back.ensures

pub returns-in-Err-clause-err : goal.returns-in-Err-clause-err
returns-in-Err-clause-err g c = as_before (g.B.Bank.trees c.args.bank.now) (g.B.Bank.trees c.run.new.bank) (g.B.Bank.trees c.back.new.self) _ c.run.ensures.grows c.mark-mark.ensures c.back.ensures
