use Rattle.std.proofs.Common.{◌∙◌, ◌+◌, ap, sym}
use Rattle.spec_features.specs.Features.{symbols}
use Rattle.term_tree.specs.Bank.{tree_at}
use Rattle.clause_form.proofs.Lists.{total-map}
use Rattle.clause_form.proofs.Walks.{known_at}
use Rattle.feature_index.specs.Lanes.{told}
use Rattle.feature_index.proofs.Counting.{symbols_at, told_more, told_all}
use Rattle.feature_index.proofs.counts.symbols_of_terms.Goals as goal

pub symbols_of_term-symbols-requires : goal.symbols_of_term-symbols-requires
symbols_of_term-symbols-requires g c = known_at (g.B.Bank.trees c.args.bank.now) c.args.terms.now c.loop-term.term-index record { index = 0 } c.requires c.loop-term-test.true

pub loop-term-preserved : goal.loop-term-preserved
loop-term-preserved g c = told_more (symbols_at (g.B.Bank.trees c.args.bank.now)) c.args.terms.now c.loop-term.term-index record { index = 0 } c.args.found c.loop-term.symbols c.symbols_of_term-symbols.result c.loop-term-test.true c.loop-term.invariant c.symbols_of_term-symbols.ensures

pub returns : goal.returns
returns g c =
    let all = g.B.Bank.trees c.args.bank.now in
    told_all (symbols_at all) c.args.terms.now c.loop-term.term-index c.args.found c.loop-term.symbols c.loop-term-test.false c.loop-term.invariant
    ∙ ap (λ n. told (c.args.found + n)) (sym (total-map symbols (tree_at all) c.args.terms.now))
