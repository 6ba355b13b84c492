use Rattle.std.proofs.Common.{◌<◌, length, arith}
use Rattle.clause_form.specs.Seen.{clause_at}
use Rattle.clause_form.specs.Fit.{clauses_at}
use Rattle.clause_form.proofs.Walks.{clause_known_at}
use Rattle.cert_writer.proofs.Items.{item_at}
use Rattle.cert_writer.proofs.SameLists.{same_next}
use Rattle.cert_writer.proofs.beginning.begin_with.Goals as goal

pub is_same_clause-requires-clause-left : goal.is_same_clause-requires-clause-left
is_same_clause-requires-clause-left g c = clause_known_at (g.B.Bank.trees c.args.bank.now) c.args.live.now c.each.i c.index-live-i.result c.index-live-i.is c.requires.live (omega (arith, c.each-test.true, c.if-live-front.false))

pub is_same_clause-requires-clause-right : goal.is_same_clause-requires-clause-right
is_same_clause-requires-clause-right g c = clause_known_at (g.B.Bank.trees c.args.bank.now) c.args.front.now c.each.i c.index-front-i.result c.index-front-i.is c.requires.front c.each-test.true

pub each-preserved : goal.each-preserved
each-preserved g c =
    let all = g.B.Bank.trees c.args.bank.now in
    let within : c.each.i < length c.args.live.now = omega (arith, c.each-test.true, c.if-live-front.false) in
    record {
      within = omega (arith, c.each-test.true);
      same = same_next (clauses_at all c.args.live.now) (clauses_at all c.args.front.now) c.each.i (clause_at all c.index-live-i.result) (clause_at all c.index-front-i.result)
          (item_at all c.args.live.now c.each.i c.index-live-i.result c.index-live-i.is within) (item_at all c.args.front.now c.each.i c.index-front-i.result c.index-front-i.is c.each-test.true)
          (c.is_same_clause.ensures c.if-not-is_same_clause.false) c.each.invariant.same;
    }
