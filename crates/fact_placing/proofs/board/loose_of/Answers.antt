use Rattle.std.proofs.Common.{◌++◌, ◌∙◌, List, ap, map, sym, arith}
use Rattle.std.proofs.lemmas.Simd.{map-map}
use Rattle.std.proofs.lemmas.Grind.{common_steps}
use Rattle.spec_placements.specs.Placing.{loose_variables}
use Rattle.clause_form.specs.Facts.{fact_of}
use Rattle.clause_form.specs.Seen.{fact_at}
use Rattle.clause_form.proofs.Walks.{fact_known_at}
use Rattle.fact_placing.specs.declared.board.Loose.{Loose}
use Rattle.fact_placing.specs.Boards.{facts_at, loose_seen}
use Rattle.fact_placing.proofs.Listing.{loose_on}
use Rattle.fact_placing.proofs.board.loose_of.Goals as goal

pub loop-hyp-init : goal.loop-hyp-init
loop-hyp-init g c =
    let all = g.B.Bank.trees c.args.bank.now in
    ap (λ (found : List Loose). map loose_seen found ++ loose_variables (map (λ f. fact_at all (fact_of f)) c.args.hyps.now)) c.new-found.ensures.items ∙ ap loose_variables (sym (map-map (fact_at all) fact_of c.args.hyps.now))

pub add_loose-requires : goal.add_loose-requires
add_loose-requires g c = fact_known_at (g.B.Bank.trees c.args.bank.now) c.args.hyps.now c.loop-hyp.hyp-index c.hyp-item.result c.hyp-item.is c.requires c.loop-hyp-test.true

pub loop-hyp-preserved : goal.loop-hyp-preserved
loop-hyp-preserved g c =
    let all = g.B.Bank.trees c.args.bank.now in
    loose_on all c.args.hyps.now c.loop-hyp.hyp-index c.hyp-item.result c.loop-hyp.found.items c.add_loose.new.found.items (loose_variables (facts_at all (map fact_of c.args.hyps.now))) c.loop-hyp-test.true c.hyp-item.is c.in_ok-add_loose.ensures c.loop-hyp.invariant

pub returns : goal.returns
returns g c = grind (arith, common_steps)
