use Rattle.std.proofs.Common.{◌∙◌, ◌<◌, length, sym, arith}
use Rattle.clause_form.specs.Facts.{fact_of}
use Rattle.clause_form.specs.Seen.{fact_at}
use Rattle.clause_form.proofs.Walks.{fact_known_at}
use Rattle.cert_writer.proofs.SameLists.{trees_of, tree_there, same_next, same_told}
use Rattle.cert_writer.proofs.beginning.are_same_facts.Goals as goal

pub same_fact-requires-clause-left : goal.same_fact-requires-clause-left
same_fact-requires-clause-left g c = fact_known_at (g.B.Bank.trees c.args.bank.now) c.args.lefts.now c.each.i c.index-lefts-i.result c.index-lefts-i.is c.requires.lefts c.each-test.true

pub same_fact-requires-clause-right : goal.same_fact-requires-clause-right
same_fact-requires-clause-right g c = fact_known_at (g.B.Bank.trees c.args.bank.now) c.args.rights.now c.each.i c.index-rights-i.result c.index-rights-i.is c.requires.rights (omega (arith, c.each-test.true, c.if-lefts-rights.false))

pub each-preserved : goal.each-preserved
each-preserved g c =
    let all = g.B.Bank.trees c.args.bank.now in
    let left = fact_at all (fact_of c.index-lefts-i.result) in
    let right = fact_at all (fact_of c.index-rights-i.result) in
    let also : c.each.i < length c.args.rights.now = omega (arith, c.each-test.true, c.if-lefts-rights.false) in
    same_next (trees_of all c.args.lefts.now) (trees_of all c.args.rights.now) c.each.i left right
    (tree_there all c.args.lefts.now c.each.i c.index-lefts-i.result c.index-lefts-i.is c.each-test.true)
    (tree_there all c.args.rights.now c.each.i c.index-rights-i.result c.index-rights-i.is also)
    (same_told left right (sym c.same_fact.ensures ∙ c.if-not-same_fact.false)) c.each.invariant
