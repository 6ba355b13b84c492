use Rattle.std.proofs.Common.{◌≡◌, IfSome, IfNone, sym, ◌∙◌, subst}
use Rattle.term_tree.specs.Bank.{Names}
use Rattle.term_tree.specs.Roots.{Root, Applied, tree_of, HasArgs}
use Rattle.term_store.specs.Shapes.{root_over, root_of}
use Rattle.term_store.specs.SharedBank.{id_at, IsKnown}
use Rattle.term_store.proofs.Adding.{found_place, no_place}
use Rattle.term_store.proofs.Shapes.{plain_over}
use Rattle.term_store.proofs.shared_bank.SharedBank.find.Goals as goal

-- the shape that is looked up shows the symbol over the arguments
wanted : (c : goal.After-get_index_of) → root_of c.show.new.self ≡ Applied c.args.symbol c.args.args.now
wanted c =
    let heads = c.in_ok-show.ensures.head in
    let args = c.in_ok-show.ensures.args in
    (λ i. root_over (heads i) (args i)) ∙ c.of.ensures c.args.args.now

pub returns-clause-found : goal.returns-clause-found
returns-clause-found c =
    subst (λ (r : Root). IfSome c.get_index_of.result (λ k. Names c.args.self.now (id_at k) (tree_of c.args.self.now r))) (wanted c)
    (found_place c.self.inside.shapes.keys c.self.inside.measures.items c.args.self.now c.show.new.self c.get_index_of.result c.self.view_is c.self.invariant.0 c.get_index_of.ensures.index)

pub returns-clause-none : goal.returns-clause-none
returns-clause-none c =
    subst (λ (r : Root). IfNone c.get_index_of.result (¬ IsKnown c.args.self.now (tree_of c.args.self.now r))) (wanted c)
    (no_place c.self.inside.shapes.keys c.self.inside.measures.items c.args.self.now c.show.new.self c.get_index_of.result c.self.view_is c.self.invariant.0
    (plain_over c.show.new.self.head c.show.new.self.args.items c.args.symbol c.args.args.now (wanted c)) (subst (HasArgs c.args.self.now) (sym (wanted c)) c.requires) c.get_index_of.ensures.found)
