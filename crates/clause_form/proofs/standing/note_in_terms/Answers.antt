use Rattle.std.proofs.Common.{◌∙◌, ap, sym}
use Rattle.std.proofs.lemmas.List.Folds.{flat_map-map}
use Rattle.spec_clauses.specs.Variables.{leaves}
use Rattle.term_tree.specs.Bank.{tree_at}
use Rattle.clause_form.specs.Standing.{noted}
use Rattle.clause_form.proofs.Walks.{known_at}
use Rattle.clause_diffs.proofs.Counting.{leaves_at}
use Rattle.clause_form.proofs.Noted.{noted_more, noted_all}
use Rattle.clause_form.proofs.standing.note_in_terms.Goals as goal

pub note_in_term-requires : goal.note_in_term-requires
note_in_term-requires g c = known_at (g.B.Bank.trees c.args.bank.now) c.args.terms.now c.loop-term.term-index record { index = 0 } c.requires c.loop-term-test.true

pub loop-term-preserved : goal.loop-term-preserved
loop-term-preserved g c = noted_more (leaves_at (g.B.Bank.trees c.args.bank.now)) c.args.terms.now c.loop-term.term-index record { index = 0 } c.args.table.now c.loop-term.table _ c.loop-term-test.true c.loop-term.invariant c.note_in_term.ensures

pub returns : goal.returns
returns g c =
    let all = g.B.Bank.trees c.args.bank.now in
    noted_all (leaves_at all) c.args.terms.now c.loop-term.term-index c.args.table.now c.loop-term.table c.loop-term-test.false c.loop-term.invariant ∙ ap (λ l. noted c.args.table.now l) (sym (flat_map-map leaves (tree_at all) c.args.terms.now))
