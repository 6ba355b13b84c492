-- Values of closed terms, one after another.
use Rattle.std.proofs.Common.{◌≡◌, ℕ, ◌+◌, ◌<◌, ◌≤◌, Bool, true, false, cond, List, [], ◌∷◌, ◌++◌, length, map, drop, get_or, Option, None, Some, is_some, option_map, option_and_then, option_to_list, refl, sym, ap, ◌∙◌, append_assoc, append-nil, drop_of_length-le, arith}
use Rattle.std.proofs.lemmas.List.{drop_more}
use Rattle.spec_trees.specs.Tree.{more, trees}
use Rattle.spec_calculus.specs.Values.{Value}
use Rattle.spec_terms.specs.Term.{Term}
use Rattle.term_tree.specs.declared.bank.Id.{Id}
use Rattle.term_tree.specs.Bank.{tree_at}
use Rattle.spec_attack_runs.specs.Compiling.{Named, closed_value, closed_values}
use Rattle.attack_state.specs.Valued.{AddsValue, AddsValues}

-- what is told of one value that is added, and of more
pub added_none : (before after : List Value) (told : Bool) (o : Option Value) → AddsValue before after told o → told ≡ false → o ≡ None
added_none before after told None adds isnt = refl
added_none before after told (Some v) adds isnt = let wrong : Some (before ++ v ∷ []) ≡ None = adds ∙ ap (λ b. cond b (Some after) None) isnt in cc

pub added_one : (before after : List Value) (told : Bool) (o : Option Value) → AddsValue before after told o → told ≡ true → (v : Value) × (o ≡ Some v) × (after ≡ before ++ v ∷ [])
added_one before after told None adds is_told = let wrong : None ≡ Some after = adds ∙ ap (λ b. cond b (Some after) None) is_told in cc
added_one before after told (Some v) adds is_told = let same : Some (before ++ v ∷ []) ≡ Some after = adds ∙ ap (λ b. cond b (Some after) None) is_told in (v, refl, cc)

pub added_row : (before after : List Value) (told : Bool) (o : Option (List Value)) → before ≡ [] → AddsValues before after told o → told ≡ true → o ≡ Some after
added_row before after told None none adds is_told = adds ∙ ap (λ b. cond b (Some after) None) is_told
added_row before after told (Some vs) none adds is_told = ap (λ (l : List Value). Some (l ++ vs)) (sym none) ∙ (adds ∙ ap (λ b. cond b (Some after) None) is_told)

pub no_row : (before after : List Value) (told : Bool) (o : Option (List Value)) → AddsValues before after told o → told ≡ false → o ≡ None
no_row before after told None adds isnt = refl
no_row before after told (Some vs) adds isnt = let wrong : Some (before ++ vs) ≡ None = adds ∙ ap (λ b. cond b (Some after) None) isnt in cc

-- where one was added to none it is the last
some_there : {X : Type 0} (seen : X → Value) (items : List X) (v : Value) → map seen items ≡ v ∷ [] → 0 < length items
some_there seen [] v e = cc
some_there seen (x ∷ xs) v e = omega arith

one_last : {X : Type 0} (seen : X → Value) (rest : List X) (last : Option X) (v : Value) → is_some last ≡ true → map seen (rest ++ option_to_list last) ≡ v ∷ [] → option_map seen last ≡ Some v
one_last seen rest None v there e = cc
one_last seen [] (Some x) v there e = cc
one_last seen (y ∷ []) (Some x) v there e = cc
one_last seen (y ∷ (z ∷ zs)) (Some x) v there e = cc

pub last_added : {X : Type 0} (seen : X → Value) (before : List Value) (items rest : List X) (last : Option X) (told : Bool) (o : Option Value) → before ≡ [] → items ≡ rest ++ option_to_list last → (0 < length items → is_some last ≡ true) → AddsValue before (map seen items) told o → told ≡ true → option_map seen last ≡ o
last_added seen before items rest last told o none was there adds is_told =
    let one = added_one before (map seen items) told o adds is_told in
    let alone : map seen items ≡ one.0 ∷ [] = one.2 ∙ ap (λ (l : List Value). l ++ one.0 ∷ []) none in
    one_last seen rest last one.0 (there (some_there seen items one.0 alone)) (ap (map seen) (sym was) ∙ alone) ∙ sym one.1

-- what is left begins with the next term
pub ahead : (all : List Term) (ids : List Id) (i : ℕ) (id : Id) → id ≡ get_or ids i id → i < length ids → trees (map (tree_at all) (drop i ids)) ≡ more (tree_at all id) (trees (map (tree_at all) (drop (i + 1) ids)))
ahead all ids i id is within =
    ap (λ (l : List Id). trees (map (tree_at all) l)) (drop_more ids i id within) ∙ ap (λ (x : Id). more (tree_at all x) (trees (map (tree_at all) (drop (i + 1) ids)))) (sym is)

module _ (names : List Named) (all : List Term) (ids : List Id) (i : ℕ) (id : Id) (is : id ≡ get_or ids i id) (within : i < length ids) where
  next_valued : (o : Option Value) → closed_value names (tree_at all id) ≡ o
      → closed_values names (trees (map (tree_at all) (drop i ids))) ≡ option_and_then (λ v. option_map (λ vs. v ∷ vs) (closed_values names (trees (map (tree_at all) (drop (i + 1) ids))))) o
  next_valued o e =
      ap (closed_values names) (ahead all ids i id is within) ∙ ap (option_and_then (λ (v : Value). option_map (λ (vs : List Value). v ∷ vs) (closed_values names (trees (map (tree_at all) (drop (i + 1) ids)))))) e

  -- one that has no value
  pub valued_stop : (front : List Value) → closed_value names (tree_at all id) ≡ None → option_map (λ vs. front ++ vs) (closed_values names (trees (map (tree_at all) (drop i ids)))) ≡ None
  valued_stop front e = ap (option_map (λ (vs : List Value). front ++ vs)) (next_valued None e)

  -- one more value
  regrouped : (front : List Value) (v : Value) (o : Option (List Value)) → option_map (λ (vs : List Value). (front ++ v ∷ []) ++ vs) o ≡ option_map (λ (vs : List Value). front ++ vs) (option_map (λ (vs : List Value). v ∷ vs) o)
  regrouped front v None = refl
  regrouped front v (Some vs) = ap Some (append_assoc front (v ∷ []) vs)

  pub valued_more : (front back : List Value) (v : Value) → closed_value names (tree_at all id) ≡ Some v → back ≡ front ++ v ∷ []
      → option_map (λ vs. back ++ vs) (closed_values names (trees (map (tree_at all) (drop (i + 1) ids)))) ≡ option_map (λ vs. front ++ vs) (closed_values names (trees (map (tree_at all) (drop i ids))))
  valued_more front back v e long =
      ap (λ (l : List Value). option_map (λ (vs : List Value). l ++ vs) (closed_values names (trees (map (tree_at all) (drop (i + 1) ids))))) long
      ∙ (regrouped front v (closed_values names (trees (map (tree_at all) (drop (i + 1) ids)))) ∙ ap (option_map (λ (vs : List Value). front ++ vs)) (sym (next_valued (Some v) e)))

  -- one more value is added, or none
  pub more_added : (front back : List Value) (told : Bool) → AddsValue front back told (closed_value names (tree_at all id)) → told ≡ true
      → option_map (λ vs. back ++ vs) (closed_values names (trees (map (tree_at all) (drop (i + 1) ids)))) ≡ option_map (λ vs. front ++ vs) (closed_values names (trees (map (tree_at all) (drop i ids))))
  more_added front back told adds is_told = let one = added_one front back told (closed_value names (tree_at all id)) adds is_told in valued_more front back one.0 one.1 one.2

  pub stop_added : (front back : List Value) (told : Bool) → AddsValue front back told (closed_value names (tree_at all id)) → told ≡ false → option_map (λ vs. front ++ vs) (closed_values names (trees (map (tree_at all) (drop i ids)))) ≡ None
  stop_added front back told adds isnt = valued_stop front (added_none front back told (closed_value names (tree_at all id)) adds isnt)

-- all are added
pub all_added : (names : List Named) (all : List Term) (ids : List Id) (i : ℕ) (front : List Value) → length ids ≤ i → option_map (λ vs. front ++ vs) (closed_values names (trees (map (tree_at all) (drop i ids)))) ≡ Some front
all_added names all ids i front past = ap (λ (l : List Id). option_map (λ (vs : List Value). front ++ vs) (closed_values names (trees (map (tree_at all) l)))) (drop_of_length-le ids past) ∙ ap Some (append-nil front)
