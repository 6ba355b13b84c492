-- Removing the parts of loose variables, position by position and part by part.
use Rattle.std.proofs.Common.{◌≡◌, ℕ, suc, ◌+◌, ◌<◌, ◌≤◌, Bool, false, Some, None, List, [], ◌++◌, length, flat_map, take, drop, get_or, ap, sym, ◌∙◌, subst, arith, drop-cons}
use Rattle.std.specs.Prelude.{slice_get}
use Rattle.std.proofs.lemmas.List.{take-append-drop}
use Rattle.std.proofs.lemmas.Option.{slice_get_within}
use Rattle.std.proofs.lemmas.Grind.{flat_map-append}
use Rattle.spec_terms.specs.Term.{Term}
use Rattle.spec_terms.specs.Binding.{Binding, bound_to}
use Rattle.spec_clauses.specs.Fact.{Fact, Att}
use Rattle.spec_clauses.specs.Flat.{flat}
use Rattle.term_tree.specs.Bank.{tree_at}
use Rattle.term_tree.specs.declared.bank.Id.{Id}
use Rattle.unify_match.specs.declared.bound.Bound.{Bound}
use Rattle.unify_match.specs.Trail.{id_of}
use Rattle.unify_match.specs.Seen.{seen}
use Rattle.unify_match.proofs.SeenLemmas.{bound_to-seen, bound_to-seen_none}
use Rattle.clause_form.proofs.Lists.{flat_map_more, flat_map_all}
use Rattle.spec_placements.specs.LooseParts.{flat_of, Removes, Lacks, HasNoRoom}
use Rattle.fact_placing.specs.declared.board.Loose.{Loose}
use Rattle.spec_placements.proofs.Removing.{removes_both, no_room_more, no_room_later}

-- what stands at no free position before the end stands at none
pub lacks : (hs : List (Fact Term)) (flags : List Bool) (y : Fact Term) (n : ℕ) → length hs ≤ n → ((k : ℕ) → k < n → get_or flags k false ≡ false → slice_get hs k ≡ Some y → ⊥) → Lacks hs flags y
lacks hs flags y n past never = λ p free stands. let within = slice_get_within hs p y stands in never p (omega arith) free stands

module _ {X : Type 0} (f : X → List (Fact Term)) (hs : List (Fact Term)) where
  -- the facts of one item more are removed
  pub removes_more : (xs : List X) (i : ℕ) (d : X) (before mid now : List Bool) → i < length xs → Removes hs before mid (flat_map f (take i xs)) → Removes hs mid now (f (get_or xs i d)) → Removes hs before now (flat_map f (take (i + 1) xs))
  removes_more xs i d before mid now within front one = subst (λ ys. Removes hs before now ys) (sym (flat_map_more f xs i d within)) (removes_both hs before mid now (flat_map f (take i xs)) (f (get_or xs i d)) front one)

  pub removes_all : (xs : List X) (i : ℕ) (before now : List Bool) → length xs ≤ i → Removes hs before now (flat_map f (take i xs)) → Removes hs before now (flat_map f xs)
  removes_all xs i before now past front = subst (λ ys. Removes hs before now ys) (flat_map_all f xs i past) front

  -- there is no room for those of one item more, so none for all
  pub no_room_at : (xs : List X) (i : ℕ) (d : X) (before mid : List Bool) → i < length xs → Removes hs before mid (flat_map f (take i xs)) → HasNoRoom hs mid (f (get_or xs i d)) → HasNoRoom hs before (flat_map f xs)
  no_room_at xs i d before mid within front none =
      let rest = drop (suc i) xs in
      let apart : flat_map f xs ≡ flat_map f (take i xs) ++ (f (get_or xs i d) ++ flat_map f rest) =
      ap (flat_map f) (sym (take-append-drop i xs)) ∙ (flat_map-append f (take i xs) (drop i xs) ∙ ap (λ ys. flat_map f (take i xs) ++ flat_map f ys) (drop-cons xs i d within)) in
      subst (λ ys. HasNoRoom hs before ys) (sym apart) (no_room_later hs before mid (flat_map f (take i xs)) (f (get_or xs i d) ++ flat_map f rest) front (no_room_more hs mid (f (get_or xs i d)) (flat_map f rest) none))

-- the parts of a loose hypothesis whose variable is bound, and of one whose variable isn't
abbrev pub parts_of : List Binding → Loose → List (Fact Term)
parts_of bs l = flat_of l.phase (bound_to bs l.variable)

pub bound_part : (all : List Term) (pairs : List Bound) (l : Loose) (id : Id) → id_of pairs l.variable ≡ Some id → parts_of (seen all pairs) l ≡ flat (Att l.phase (tree_at all id))
bound_part all pairs l id e = ap (flat_of l.phase) (bound_to-seen all pairs l.variable id e)

pub unbound_part : (all : List Term) (pairs : List Bound) (l : Loose) → id_of pairs l.variable ≡ None → parts_of (seen all pairs) l ≡ []
unbound_part all pairs l e = ap (flat_of l.phase) (bound_to-seen_none all pairs l.variable e)
