use Rattle.std.proofs.Common.{◌∙◌, max, ap, sym}
use Rattle.std.proofs.lemmas.List.Folds.{flat_map-map}
use Rattle.spec_clauses.specs.Variables.{leaves}
use Rattle.term_tree.specs.Bank.{tree_at}
use Rattle.clause_form.specs.Bounds.{above}
use Rattle.clause_form.proofs.Walks.{known_at}
use Rattle.clause_diffs.proofs.Counting.{leaves_at}
use Rattle.clause_form.proofs.Bounding.{above_more, above_all}
use Rattle.clause_form.proofs.bounds.above_terms.Goals as goal

pub above_term-found-requires : goal.above_term-found-requires
above_term-found-requires g c = known_at (g.B.Bank.trees c.args.bank.now) c.args.terms.now c.loop-term.term-index record { index = 0 } c.requires c.loop-term-test.true

pub loop-term-preserved : goal.loop-term-preserved
loop-term-preserved g c = above_more (leaves_at (g.B.Bank.trees c.args.bank.now)) c.args.terms.now c.loop-term.term-index record { index = 0 } c.args.least c.loop-term.found c.above_term-found.result c.loop-term-test.true c.loop-term.invariant c.above_term-found.ensures

pub returns : goal.returns
returns g c =
    let all = g.B.Bank.trees c.args.bank.now in
    above_all (leaves_at all) c.args.terms.now c.loop-term.term-index c.args.least c.loop-term.found c.loop-term-test.false c.loop-term.invariant ∙ ap (λ l. max c.args.least (above l)) (sym (flat_map-map leaves (tree_at all) c.args.terms.now))
