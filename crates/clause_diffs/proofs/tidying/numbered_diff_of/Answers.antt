use Rattle.std.proofs.Common.{◌∙◌, nat_eq, ap, sym, subst, rules, arith}
use Rattle.std.proofs.lemmas.Grind.{common_steps}
use Rattle.spec_clauses.specs.Distinct.{distinct}
use Rattle.term_tree.specs.Bank.{AreKnown}
use Rattle.term_tree.proofs.BankLaws.{Grows_trans, AreKnown-grows}
use Rattle.clause_diffs.proofs.Numbered.{numbered_made}
use Rattle.clause_diffs.proofs.tidying.numbered_diff_of.Goals as goal

pub returns-clause-names : goal.returns-clause-names
returns-clause-names g c =
    let old = g.B.Bank.trees c.args.bank.now in
    let mid = g.B.Bank.trees c.numbered_terms.new.bank in
    let new = g.B.Bank.trees c.numbered_terms-2.new.bank in
    numbered_made old mid new c.args.diff.now c.args.order.now c.in_ok-bound.bound c.diff-inside.inside.0.0 c.in_ok-next.next c.in_ok-left.left c.in_ok-right.right c.deref.result.now c.deref-2.result.now
    c.requires.known c.numbered_terms.ensures.grows c.numbered_terms-2.ensures.grows c.in_ok-next.ensures (c.in_ok-bound.ensures ∙ ap (distinct nat_eq) c.in_ok-numbers.ensures) c.requires.own (search rules) (search rules) (search rules)
    c.in_ok-left.ensures.names c.in_ok-right.ensures.names

pub returns-clause-grows : goal.returns-clause-grows
returns-clause-grows g c = Grows_trans (g.B.Bank.trees c.args.bank.now) (g.B.Bank.trees c.numbered_terms.new.bank) (g.B.Bank.trees c.numbered_terms-2.new.bank) c.numbered_terms.ensures.grows c.numbered_terms-2.ensures.grows

pub numbered_terms-requires-2 : goal.numbered_terms-requires-2
numbered_terms-requires-2 g c =
    let mid = g.B.Bank.trees c.numbered_terms.new.bank in
    subst (λ ids. AreKnown mid ids) (search rules) (AreKnown-grows (g.B.Bank.trees c.args.bank.now) mid c.args.diff.now.right c.numbered_terms.ensures.grows c.requires.known.right)

pub returns-in_err-right-clause-grows : goal.returns-in_err-right-clause-grows
returns-in_err-right-clause-grows g c = grind (arith, common_steps)

pub returns-clause-first : goal.returns-clause-first
returns-clause-first g c = grind (arith, common_steps)

pub returns-in_err-bound-clause-grows : goal.returns-in_err-bound-clause-grows
returns-in_err-bound-clause-grows g c = grind (arith, common_steps)

pub returns-in_err-numbers-clause-grows : goal.returns-in_err-numbers-clause-grows
returns-in_err-numbers-clause-grows g c = grind (arith, common_steps)
