use Rattle.std.proofs.Common.{◌≡◌, ◌+◌, List, map, ap, sym, subst, ◌∙◌, arith}
use Rattle.std.proofs.lemmas.Grind.{common_steps}
use Rattle.spec_trees.specs.Tree.{bind, size}
use Rattle.spec_terms.specs.Binding.{resolved}
use Rattle.spec_clauses.specs.Fact.{Fact, terms_of, total, fact_size, fact_under}
use Rattle.spec_clauses.specs.Head.{Head, head_of, made_of, head_size}
use Rattle.term_tree.specs.Bank.{tree_at}
use Rattle.term_tree.specs.declared.bank.Id.{Id}
use Rattle.term_tree.proofs.BankLaws.{Grows_refl}
use Rattle.unify_match.specs.Seen.{seen}
use Rattle.clause_form.specs.Facts.{fact_of}
use Rattle.clause_form.specs.Seen.{fact_at, NameTerms, NamesFact}
use Rattle.clause_resolve.proofs.SpendingLaws.{fact_applied}
use Rattle.clause_resolve.proofs.applying.applied_fact.Goals as goal

pub returns-in_err-spend-clause-grows : goal.returns-in_err-spend-clause-grows
returns-in_err-spend-clause-grows g c = Grows_refl (g.B.Bank.trees c.args.bank.now)

pub returns-clause-outcome : goal.returns-clause-outcome
returns-clause-outcome g c =
    let all = g.B.Bank.trees c.args.bank.now in
    let now = g.B.Bank.trees c.applied_terms.new.bank in
    let s = resolved (seen all c.args.binds.now.pairs) in
    let f = fact_of c.args.fact.now in
    let terms : c.as_slice.result.now ≡ terms_of f = c.as_slice.ensures ∙ c.terms-terms.ensures in
    let symbols : c.head_symbols.result ≡ head_size (head_of f) = c.head_symbols.ensures ∙ ap head_size c.head.ensures in
    let made : fact_of c.made_of.result ≡ made_of (head_of f) c.in_ok-made-2.made = c.made_of.ensures ∙ ap (λ (h : Head). made_of h c.in_ok-made-2.made) c.head-2.ensures in
    let spent : c.spend.new.left + head_size (head_of f) ≡ c.args.left.now = ap (λ n. c.spend.new.left + n) (sym symbols) ∙ c.in_ok-spend.ensures.outcome in
    let left = c.applied_terms.new.left in
    let named = fact_applied all now s f c.in_ok-made-2.made c.args.left.now c.spend.new.left left spent
    (subst (λ (ids : List Id). NameTerms now c.in_ok-made-2.made (map (bind s) (map (tree_at all) ids)) × (left + total size (map (bind s) (map (tree_at all) ids)) ≡ c.spend.new.left)) terms c.in_ok-made-2.ensures.outcome) in
    subst (λ (h : Fact Id). NamesFact now h (fact_under s (fact_at all f)) × (left + fact_size (fact_under s (fact_at all f)) ≡ c.args.left.now)) (sym made) named

pub returns-in_err-made-2 : goal.returns-in_err-made-2
returns-in_err-made-2 g c = grind (arith, common_steps)

pub returns-in-Att-clause-outcome : goal.returns-in-Att-clause-outcome
returns-in-Att-clause-outcome g c = grind (arith, common_steps)

pub applied_terms-requires : goal.applied_terms-requires
applied_terms-requires g c = grind (arith, common_steps)
