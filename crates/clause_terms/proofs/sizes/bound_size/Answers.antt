use Rattle.std.proofs.Common.{sym, ap, ◌∙◌}
use Rattle.spec_trees.specs.Tree.{size}
use Rattle.term_tree.specs.Bank.{capped}
use Rattle.pi_tree.specs.Slots.{name_of}
use Rattle.clause_terms.proofs.Standings.{id_in-known, bound_named, unbound}
use Rattle.clause_terms.proofs.sizes.bound_size.Goals as goal

pub size-requires : goal.size-requires
size-requires g c = id_in-known (g.B.Bank.trees c.args.bank.now) c.args.scope.now (name_of c.args.slot) c.in-Some.id c.requires (sym c.find.ensures ∙ c.in-Some.is)

pub returns-in-Some : goal.returns-in-Some
returns-in-Some g c =
    let named = bound_named (g.B.Bank.trees c.args.bank.now) c.args.scope.now c.args.slot c.in-Some.id c.requires (sym c.find.ensures ∙ c.in-Some.is) in
    c.size.ensures ∙ ap (λ t. capped (size t)) named.is

pub returns-in-None : goal.returns-in-None
returns-in-None g c = sym (ap (λ t. capped (size t)) (unbound (g.B.Bank.trees c.args.bank.now) c.args.scope.now c.args.slot (sym c.find.ensures ∙ c.in-None.is)))
