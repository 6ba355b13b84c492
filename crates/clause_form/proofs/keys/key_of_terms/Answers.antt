use Rattle.std.proofs.Common.{◌∙◌, ap, sym}
use Rattle.std.proofs.lemmas.List.Folds.{flat_map-map}
use Rattle.term_tree.specs.Bank.{tree_at}
use Rattle.clause_form.specs.Keys.{term_numbers, keyed}
use Rattle.clause_form.proofs.Walks.{known_at}
use Rattle.clause_form.proofs.Keying.{numbers_at, keyed_more, keyed_all}
use Rattle.clause_form.proofs.keys.key_of_terms.Goals as goal

pub key_of_term-found-requires : goal.key_of_term-found-requires
key_of_term-found-requires g c = known_at (g.B.Bank.trees c.args.bank.now) c.args.terms.now c.loop-term.term-index record { index = 0 } c.requires c.loop-term-test.true

pub loop-term-preserved : goal.loop-term-preserved
loop-term-preserved g c = keyed_more (numbers_at (g.B.Bank.trees c.args.bank.now)) c.args.terms.now c.loop-term.term-index record { index = 0 } c.args.key c.loop-term.found c.key_of_term-found.result c.loop-term-test.true c.loop-term.invariant c.key_of_term-found.ensures

pub returns : goal.returns
returns g c =
    let all = g.B.Bank.trees c.args.bank.now in
    keyed_all (numbers_at all) c.args.terms.now c.loop-term.term-index c.args.key c.loop-term.found c.loop-term-test.false c.loop-term.invariant ∙ ap (λ l. keyed c.args.key l) (sym (flat_map-map term_numbers (tree_at all) c.args.terms.now))
