use Rattle.std.proofs.Common.{◌≡◌, ◌∙◌, ◌++◌, List, map, ap, rc_value}
use Rattle.std.proofs.lemmas.List.{take_all}
use Rattle.clause_form.specs.Seen.{clause_at, IdClause}
use Rattle.clause_form.proofs.Walks.{clause_known_at}
use Rattle.cert_form.proofs.Held.{read_next}
use Rattle.cert_form.proofs.reading_out.read_behind.Goals as goal

pub read_out-requires : goal.read_out-requires
read_out-requires g c = clause_known_at (g.B.Bank.trees c.args.bank.now) c.args.clauses.now c.each.clause-index c.clause-item.result c.clause-item.is c.requires c.each-test.true

pub each-preserved : goal.each-preserved
each-preserved g c =
    let all = g.B.Bank.trees c.args.bank.now in
    let held = c.in_ok-held.held in
    let read : rc_value held ≡ clause_at all c.clause-item.result = c.in_ok-held.ensures.ok ∙ c.in_ok-read.ensures in
    read_next all rc_value c.args.clauses.now c.each.clause-index c.clause-item.result c.each.plain-inside.items.items c.push.new.self.items held c.args.plain.now c.each.invariant c.each-test.true c.clause-item.is c.in_ok-push.ensures.items read

pub returns : goal.returns
returns g c =
    c.each.invariant ∙ ap (λ (cs : List IdClause). c.args.plain.now ++ map (clause_at (g.B.Bank.trees c.args.bank.now)) cs) (take_all c.each.clause-index c.args.clauses.now c.each-test.false)
