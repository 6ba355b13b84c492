use Rattle.std.proofs.Common.{◌-◌, List, [], ◌∷◌, ◌++◌, length, map, ap, sym, subst, ◌∙◌}
use Rattle.spec_trees.specs.Tree.{node}
use Rattle.term_tree.specs.Bank.{symbol_of, tree_at, AreKnown, Names}
use Rattle.term_tree.specs.declared.bank.Id.{Id}
use Rattle.unified_visits.specs.Places.{protocol_at}
use Rattle.visit_choices.proofs.RuledRows.{known_last, row_built}
use Rattle.visit_choices.proofs.row.build.Goals as goal

pub app-requires : goal.app-requires
app-requires g c =
    let all = g.B.Bank.trees c.args.bank.now in
    let ids = c.args.row.now.ids.items in
    let has = c.requires.known in
    subst (λ (l : List Id). AreKnown all l) (sym (c.deref.ensures.value ∙ c.in_ok-parts.ensures.taken)) (known_last all (length ids - c.args.count) ids has.2.terms.known)

pub returns-clause-parts : goal.returns-clause-parts
returns-clause-parts g c =
    let old = g.B.Bank.trees c.args.bank.now in
    let new = g.B.Bank.trees c.app.new.self in
    let P = protocol_at c.args.choosing.now.place.now in
    let id = c.in_ok-id.id in
    λ v parts f is before.
    row_built P c.args.choosing.now.visit.now v old new parts c.args.row.now _ id c.args.symbol f c.args.count c.app.ensures.grows before c.requires.within is
    (subst (λ (l : List Id). Names new id (node (symbol_of c.args.symbol) (map (tree_at old) l))) (c.deref.ensures.value ∙ c.in_ok-parts.ensures.taken) c.in_ok-id.ensures.names)
    (c.in_ok-push.ensures.items ∙ ap (λ (l : List Id). l ++ id ∷ []) c.in_ok-parts.ensures.left) c.take_last.ensures.next (ap (λ b. b.pairs) c.take_last.ensures.binds)
