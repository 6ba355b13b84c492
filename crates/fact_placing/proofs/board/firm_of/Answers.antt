use Rattle.std.proofs.Common.{map, sym, subst, ap}
use Rattle.clause_form.proofs.Walks.{fact_known_at}
use Rattle.fact_placing.proofs.Listing.{AreFirmUpTo, unref, firm_none, firm_more, firm_all}
use Rattle.fact_placing.proofs.board.firm_of.Goals as goal

pub loop-hyp-init : goal.loop-hyp-init
loop-hyp-init g c = let all = g.B.Bank.trees c.args.bank.now in subst (λ fs. AreFirmUpTo all c.args.hyps.now 0 fs) (sym (ap (map unref) c.new-found.ensures.items)) (firm_none all c.args.hyps.now)

pub add_firm-requires : goal.add_firm-requires
add_firm-requires g c = fact_known_at (g.B.Bank.trees c.args.bank.now) c.args.hyps.now c.loop-hyp.hyp-index c.hyp-item.result c.hyp-item.is c.requires c.loop-hyp-test.true

pub loop-hyp-preserved : goal.loop-hyp-preserved
loop-hyp-preserved g c =
    let all = g.B.Bank.trees c.args.bank.now in
    let known = fact_known_at all c.args.hyps.now c.loop-hyp.hyp-index c.hyp-item.result c.hyp-item.is c.requires c.loop-hyp-test.true in
    firm_more all c.args.hyps.now c.loop-hyp.hyp-index c.hyp-item.result (map unref c.loop-hyp.found.items) (map unref c.add_firm.new.found.items) c.loop-hyp-test.true c.hyp-item.is known c.in_ok-add_firm.ensures c.loop-hyp.invariant

pub returns : goal.returns
returns g c = firm_all (g.B.Bank.trees c.args.bank.now) c.args.hyps.now c.loop-hyp.hyp-index (map unref c.loop-hyp.found.items) c.loop-hyp-test.false c.loop-hyp.invariant
