-- Numbers as ids, as they are made one after the other.
use Rattle.std.proofs.Common.{◌≡◌, ℕ, ◌+◌, ◌-◌, ◌<◌, ◌≤◌, List, [], ◌∷◌, ◌++◌, length, map, take, get_or, sym, ap, ◌∙◌}
use Rattle.std.proofs.lemmas.List.{map_more, take_all}
use Rattle.term_tree.specs.declared.bank.Id.{Id}
use Rattle.node_lines.specs.Seen.{id_of}

-- so many numbers are ids already
pub record AreIds (ns : List ℕ) (i : ℕ) (ids : List Id) : Type 0 where
  pub are : ids ≡ map id_of (take i ns)

pub ids_start : (ns : List ℕ) (ids : List Id) → ids ≡ [] → AreIds ns 0 ids
ids_start ns ids none = record { are = none }

pub ids_on : (ns : List ℕ) (i : ℕ) (ids more : List Id) (id : Id) → AreIds ns i ids → i < length ns → more ≡ ids ++ id ∷ [] → id.index ≡ get_or ns i 0 - 1 → AreIds ns (i + 1) more
ids_on ns i ids more id are below pushed is =
    let here : id ≡ id_of (get_or ns i 0) = ap (λ (n : ℕ). (let x : Id = record { index = n } in x)) is in
    record { are = pushed ∙ (ap (λ xs. xs ++ id ∷ []) are.are ∙ (ap (λ x. map id_of (take i ns) ++ x ∷ []) here ∙ sym (map_more id_of ns i 0 below))) }

pub ids_end : (ns : List ℕ) (i : ℕ) (ids : List Id) → AreIds ns i ids → length ns ≤ i → ids ≡ map id_of ns
ids_end ns i ids are past = are.are ∙ ap (map id_of) (take_all i ns past)

pub ruleset ids = (ids_start, ids_on, ids_end)
