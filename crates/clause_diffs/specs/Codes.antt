-- How contracts store ids and constraints: what the models of types that are seen as them take.
use Rattle.std.specs.Prelude.{◌≡◌, ℕ, ◌⊎◌, List, refl}
use Rattle.std.proofs.Common.{inl, inr}
use Rattle.std.specs.Coded.{Coded, code_by, coded×, coded⊎, coded_ℕ, coded_list}
use Rattle.spec_trees.specs.Code.{coded_tree_list}
use Rattle.spec_terms.specs.Term.{coded_symbol}
use Rattle.spec_clauses.specs.Diff.{Slot, Own, Bound, Side, Diff}
use Rattle.term_tree.specs.declared.bank.Id.{Id}
use Rattle.clause_diffs.specs.Diffs.{DiffOf}

abbrev pub coded_id : Coded Id
coded_id = code_by ℕ coded_ℕ (λ id. id.index) (λ k. record { index = k }) (λ _. refl)

abbrev pub coded_ids : Coded (List Id)
coded_ids = coded_list coded_id

abbrev pub coded_diff_of : {X : Type 0} → Coded X → Coded (DiffOf X)
coded_diff_of {X} c = code_by (ℕ × (List X × List X)) (coded× coded_ℕ (coded× (coded_list c) (coded_list c))) (λ d. (d.first, (d.left, d.right))) (λ p. record { first = p.0; left = p.1.0; right = p.1.1 }) (λ _. refl)

abbrev pub coded_diffs_of : {X : Type 0} → Coded X → Coded (List (DiffOf X))
coded_diffs_of c = coded_list (coded_diff_of c)

-- a variable in a constraint, and back
abbrev slot_parts : Slot → ℕ ⊎ ℕ
slot_parts (Own x) = inl x
slot_parts (Bound i) = inr i

abbrev parts_slot : ℕ ⊎ ℕ → Slot
parts_slot (inl x) = Own x
parts_slot (inr i) = Bound i

pub parts_slot-slot_parts : (s : Slot) → parts_slot (slot_parts s) ≡ s
parts_slot-slot_parts (Own x) = refl
parts_slot-slot_parts (Bound i) = refl

abbrev coded_sides : Coded (List Side)
coded_sides = coded_tree_list (code_by (ℕ ⊎ ℕ) (coded⊎ coded_ℕ coded_ℕ) slot_parts parts_slot parts_slot-slot_parts) coded_symbol

abbrev pub coded_diff : Coded Diff
coded_diff = code_by (List Side × List Side) (coded× coded_sides coded_sides) (λ d. (d.left, d.right)) (λ p. record { left = p.0; right = p.1 }) (λ _. refl)

abbrev pub coded_diffs : Coded (List Diff)
coded_diffs = coded_list coded_diff
