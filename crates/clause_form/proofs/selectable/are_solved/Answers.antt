use Rattle.std.proofs.Common.{ap, arith}
use Rattle.std.proofs.lemmas.Simd.{map-map}
use Rattle.std.proofs.lemmas.Grind.{common_steps}
use Rattle.spec_clauses.specs.Selection.{is_solved}
use Rattle.clause_form.specs.Facts.{fact_of}
use Rattle.clause_form.specs.Seen.{fact_at}
use Rattle.clause_form.proofs.Walks.{fact_known_at}
use Rattle.clause_form.proofs.selectable.are_solved.Goals as goal

pub loop-hyp-init : goal.loop-hyp-init
loop-hyp-init g c = let all = g.B.Bank.trees c.args.bank.now in ap is_solved (map-map (fact_at all) fact_of c.args.hyps.now)

pub is_selectable-requires : goal.is_selectable-requires
is_selectable-requires g c = fact_known_at (g.B.Bank.trees c.args.bank.now) c.args.hyps.now c.loop-hyp.hyp-index c.hyp-item.result c.hyp-item.is c.requires c.loop-hyp-test.true

pub loop-hyp-preserved : goal.loop-hyp-preserved
loop-hyp-preserved g c = grind (arith, common_steps)

pub returns-then-is_selectable : goal.returns-then-is_selectable
returns-then-is_selectable g c = grind (arith, common_steps)

pub returns : goal.returns
returns g c = grind (arith, common_steps)
