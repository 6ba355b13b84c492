use Rattle.std.proofs.Common.{◌≡◌, ℕ, List, [], ◌∷◌, ◌++◌, true≢false, not, slice_get, refl, ap, sym, ◌∙◌, subst, arith}
use Rattle.std.proofs.lemmas.Grind.{common_steps}
use Rattle.spec_terms.specs.Term.{Term}
use Rattle.term_tree.specs.Bank.{Names}
use Rattle.term_tree.specs.declared.bank.Id.{Id}
use Rattle.term_tree.specs.Roots.{tree_of}
use Rattle.term_tree.proofs.BankLaws.{Grows_same, Names-next}
use Rattle.term_store.specs.Shapes.{root_of}
use Rattle.term_store.specs.SharedBank.{trees_of, IsWell}
use Rattle.term_store.specs.declared.shape.Shape.{Shape}
use Rattle.term_store.specs.declared.measure.Measure.{Measure}
use Rattle.term_store.proofs.Adding.{known_names, keys_known, IsLast, IsLast-new, IsWell-push, trees-push, last_id, Finds-new, Finds-known, keys-cut}
use Rattle.term_store.proofs.Distinct.{AreShared-well, known_root}
use Rattle.term_store.proofs.shared_bank.SharedBank.add.Goals as goal

abbrev id_of : ℕ → Id
id_of k = record { index = k }

-- where the shape is there
kept : (c : goal.Then-not-is_new) → c.insert_full.new.self.keys ≡ c.self.inside.shapes.keys
kept c = keys_known c.self.inside.shapes.keys c.insert_full.new.self.keys c.args.shape c.in_ok-index.is_new c.in_ok-index.ensures.added c.if-not-is_new.true c.in_ok-index.ensures.keys

names_old : (c : goal.Then-not-is_new) → Names c.args.self.now (id_of c.in_ok-index.index) (tree_of c.args.self.now (root_of c.args.shape))
names_old c =
    let (k, found, same) = c.in_ok-index.ensures.stored in
    known_names c.self.inside.shapes.keys c.self.inside.measures.items c.args.self.now c.args.shape k (id_of c.in_ok-index.index) c.self.view_is c.self.invariant.0 (ap (λ ks. slice_get ks c.in_ok-index.index) (sym (kept c)) ∙ found) same

view_kept : (c : goal.Then-not-is_new) → trees_of c.insert_full.new.self.keys ≡ c.args.self.now
view_kept c = ap trees_of (kept c) ∙ c.self.view_is

pub returns-then-not-is_new-clause-names : goal.returns-then-not-is_new-clause-names
returns-then-not-is_new-clause-names c = subst (λ (l : List Term). Names l (id_of c.in_ok-index.index) (tree_of c.args.self.now (root_of c.args.shape))) (sym (view_kept c)) (names_old c)

pub returns-then-not-is_new-clause-found : goal.returns-then-not-is_new-clause-found
returns-then-not-is_new-clause-found c =
    Finds-known c.args.self.now (trees_of c.insert_full.new.self.keys) (tree_of c.args.self.now (root_of c.args.shape)) (id_of c.in_ok-index.index) (view_kept c)
    (AreShared-well c.self.inside.shapes.keys c.self.inside.measures.items c.args.self.now c.self.view_is c.self.invariant.0) (names_old c)

pub returns-then-not-is_new-clause-added : goal.returns-then-not-is_new-clause-added
returns-then-not-is_new-clause-added c = λ none. absurd (none (id_of c.in_ok-index.index, names_old c))

-- where it is not there
last_ok : (c : goal.In-Ok) → IsLast c.self.inside.shapes.keys c.insert_full.new.self.keys c.in_ok-index.index c.args.shape
last_ok c = IsLast-new c.self.inside.shapes.keys c.insert_full.new.self.keys c.in_ok-index.index c.args.shape c.in_ok-index.is_new c.in_ok-index.ensures.added c.if-not-is_new.false c.in_ok-index.ensures.keys c.in_ok-index.ensures.index

well_ok : (c : goal.In-Ok) → IsWell c.insert_full.new.self.keys c.push.new.self.items
well_ok c = IsWell-push c.self.inside.shapes.keys c.insert_full.new.self.keys c.self.inside.measures.items c.push.new.self.items c.args.self.now c.in_ok-index.index c.args.shape c.args.measure c.self.view_is c.self.invariant.0 c.requires.args c.requires.plain c.requires.tells (last_ok c) c.in_ok-index.ensures.unique c.in-Ok.ensures.items

grown : (c : goal.In-Ok) → trees_of c.insert_full.new.self.keys ≡ c.args.self.now ++ tree_of c.args.self.now (root_of c.args.shape) ∷ []
grown c = trees-push c.self.inside.shapes.keys c.insert_full.new.self.keys c.args.self.now c.in_ok-index.index c.args.shape c.self.view_is (last_ok c)

pub invariant_of-self-in-Ok : goal.invariant_of-self-in-Ok
invariant_of-self-in-Ok c = (well_ok c, c.self.invariant.1)

pub returns-in-Ok-clause-names : goal.returns-in-Ok-clause-names
returns-in-Ok-clause-names c =
    subst (λ (l : List Term). Names l (id_of c.in_ok-index.index) (tree_of c.args.self.now (root_of c.args.shape))) (sym (grown c))
    (Names-next c.args.self.now (tree_of c.args.self.now (root_of c.args.shape)) (id_of c.in_ok-index.index) (last_id c.self.inside.shapes.keys c.insert_full.new.self.keys c.args.self.now (id_of c.in_ok-index.index) c.args.shape c.self.view_is (last_ok c)))

pub returns-in-Ok-clause-grows : goal.returns-in-Ok-clause-grows
returns-in-Ok-clause-grows c = (tree_of c.args.self.now (root_of c.args.shape) ∷ [], grown c)

pub returns-in-Ok-clause-found : goal.returns-in-Ok-clause-found
returns-in-Ok-clause-found c =
    Finds-new c.args.self.now (trees_of c.insert_full.new.self.keys) (tree_of c.args.self.now (root_of c.args.shape)) (id_of c.in_ok-index.index) (grown c)
    (AreShared-well c.insert_full.new.self.keys c.push.new.self.items (trees_of c.insert_full.new.self.keys) refl (well_ok c))
    (last_id c.self.inside.shapes.keys c.insert_full.new.self.keys c.args.self.now (id_of c.in_ok-index.index) c.args.shape c.self.view_is (last_ok c))

pub returns-in-Ok-clause-added : goal.returns-in-Ok-clause-added
returns-in-Ok-clause-added c = λ none. grown c

-- where what is told of it found no room
back_again : (c : goal.After-truncate) → c.truncate.new.self.keys ≡ c.self.inside.shapes.keys
back_again c =
    keys-cut c.self.inside.shapes.keys c.insert_full.new.self.keys c.truncate.new.self.keys c.in_ok-index.index c.args.shape
    (IsLast-new c.self.inside.shapes.keys c.insert_full.new.self.keys c.in_ok-index.index c.args.shape c.in_ok-index.is_new c.in_ok-index.ensures.added c.if-not-is_new.false c.in_ok-index.ensures.keys c.in_ok-index.ensures.index)
    c.truncate.ensures.keys

pub invariant_of-self-in-Err : goal.invariant_of-self-in-Err
invariant_of-self-in-Err c = (subst (λ (ks : List Shape). IsWell ks c.push.new.self.items) (sym (back_again c)) (subst (λ (ms : List Measure). IsWell c.self.inside.shapes.keys ms) (sym c.in-Err.ensures.items) c.self.invariant.0), c.self.invariant.1)

pub returns-in-Err-clause-grows : goal.returns-in-Err-clause-grows
returns-in-Err-clause-grows c = Grows_same c.args.self.now (trees_of c.truncate.new.self.keys) (ap trees_of (back_again c) ∙ c.self.view_is)

pub returns-in-Err-clause-err : goal.returns-in-Err-clause-err
returns-in-Err-clause-err c = ap trees_of (back_again c) ∙ c.self.view_is

pub returns-in-Err-clause-no_memory : goal.returns-in-Err-clause-no_memory
returns-in-Err-clause-no_memory c = λ known.
    let there = known_root c.self.inside.shapes.keys c.self.inside.measures.items c.args.self.now c.args.shape known.0 c.self.view_is c.self.invariant.0 c.requires.plain c.requires.args known.1 in
    absurd (true≢false (sym c.if-not-is_new.false ∙ (c.in_ok-index.ensures.added ∙ ap not there)))

pub returns-in_err-index-clause-no_memory : goal.returns-in_err-index-clause-no_memory
returns-in_err-index-clause-no_memory c = λ known.
    let there = known_root c.self.inside.shapes.keys c.self.inside.measures.items c.args.self.now c.args.shape known.0 c.self.view_is c.self.invariant.0 c.requires.plain c.requires.args known.1 in
    absurd (true≢false (sym there ∙ c.in_err-index.ensures.absent))

pub invariant_of-self-then-not-is_new : goal.invariant_of-self-then-not-is_new
invariant_of-self-then-not-is_new c = grind (arith, common_steps)

pub returns-in_err-index-clause-grows : goal.returns-in_err-index-clause-grows
returns-in_err-index-clause-grows c = grind (arith, common_steps)
