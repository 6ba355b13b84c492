use Rattle.std.proofs.Common.{◌≡◌, ◌∙◌, [], map, ap, rc_value}
use Rattle.std.proofs.lemmas.List.{take_all}
use Rattle.clause_form.specs.Seen.{clause_at}
use Rattle.clause_form.proofs.Walks.{clause_known_at}
use Rattle.cert_form.proofs.Held.{read_next}
use Rattle.shared_cert.proofs.spelling.spelled_clauses.Goals as goal

pub spelled-requires : goal.spelled-requires
spelled-requires g c = clause_known_at (g.B.Bank.trees c.args.bank.now) c.args.clauses.now c.each.clause-index c.clause-item.result c.clause-item.is c.requires c.each-test.true

pub each-preserved : goal.each-preserved
each-preserved g c =
    let all = g.B.Bank.trees c.args.bank.now in
    let held = c.in_ok-held.held in
    let read : rc_value held ≡ clause_at all c.clause-item.result = c.in_ok-held.ensures.ok ∙ c.in_ok-read.ensures in
    read_next all rc_value c.args.clauses.now c.each.clause-index c.clause-item.result c.each.items.items c.push.new.self.items held [] c.each.invariant c.each-test.true c.clause-item.is c.in_ok-push.ensures.items read

pub returns : goal.returns
returns g c = c.each.invariant ∙ ap (map (clause_at (g.B.Bank.trees c.args.bank.now))) (take_all c.each.clause-index c.args.clauses.now c.each-test.false)
