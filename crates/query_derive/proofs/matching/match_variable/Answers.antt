use Rattle.std.proofs.Common.{◌≡◌, ◌∙◌, List, [], ◌∷◌, ap, sym, subst}
use Rattle.std.proofs.lemmas.Bool.{false≢true}
use Rattle.term_tree.specs.Bank.{tree_at}
use Rattle.unify_match.proofs.SeenLemmas.{AreInBank-at}
use Rattle.unify_match.specs.declared.bound.Bound.{Bound}
use Rattle.query_derive.specs.Narrowing.{Narrows}
use Rattle.query_derive.proofs.Narrowing.{narrows_bound, excludes_bound, narrows_bind}
use Rattle.query_derive.proofs.matching.match_variable.Goals as goal

pub same-requires-clause-left_known : goal.same-requires-clause-left_known
same-requires-clause-left_known g c = AreInBank-at (g.B.Bank.trees c.args.bank.now) c.args.binds.now.pairs c.args.number c.in-Some.bound c.requires.bindings.known (sym c.in-Some.ensures)

pub returns-in-Some-clause-yes : goal.returns-in-Some-clause-yes
returns-in-Some-clause-yes g c = λ e.
    let all = g.B.Bank.trees c.args.bank.now in narrows_bound all c.args.binds.now.pairs c.args.number c.in-Some.bound (tree_at all c.args.id) (sym c.in-Some.ensures) (c.same.ensures.0 e)

pub returns-in-Some-clause-no : goal.returns-in-Some-clause-no
returns-in-Some-clause-no g c = λ e.
    let all = g.B.Bank.trees c.args.bank.now in
    excludes_bound all c.args.binds.now.pairs c.args.number c.in-Some.bound (tree_at all c.args.id) (sym c.in-Some.ensures) (λ same. false≢true (sym e ∙ c.same.ensures.1 same))

pub returns-in_ok-reserve-in-None-clause-extends : goal.returns-in_ok-reserve-in-None-clause-extends
returns-in_ok-reserve-in-None-clause-extends g c =
    (record { var = c.args.number; id = c.args.id } ∷ [], c.bind.ensures.pairs ∙ ap (λ bs. record { var = c.args.number; id = c.args.id } ∷ bs) c.in_ok-reserve-in-None.ensures.pairs)

pub returns-in_ok-reserve-in-None-clause-yes : goal.returns-in_ok-reserve-in-None-clause-yes
returns-in_ok-reserve-in-None-clause-yes g c = λ _.
    let all = g.B.Bank.trees c.args.bank.now in
    let b : Bound = record { var = c.args.number; id = c.args.id } in
    let pairs : c.bind.new.self.pairs ≡ b ∷ c.args.binds.now.pairs = c.bind.ensures.pairs ∙ ap (λ bs. b ∷ bs) c.in_ok-reserve-in-None.ensures.pairs in
    subst (λ (bs : List Bound). Narrows all c.args.binds.now.pairs bs (λ s. s c.args.number ≡ tree_at all c.args.id)) (sym pairs) (narrows_bind all c.args.binds.now.pairs b)
