-- The rules of the choices of an expression, by its instructions.
use Rattle.std.proofs.Common.{◌≡◌, ◌∙◌, ℕ, List, [], ◌∷◌, ◌++◌, length, map, flat_map, refl, ap, sym, append_assoc, append-nil}
use Rattle.std.specs.List.{enumerate_from}
use Rattle.std.proofs.lemmas.List.Folds.{flat_map-map}
use Rattle.std.proofs.lemmas.Grind.{flat_map-append}
use Rattle.std.proofs.lemmas.List.{map-append}
use Rattle.spec_trees.specs.Tree.{Trees, Leaf, Node, none, more, items_of}
use Rattle.spec_calculus.specs.Syntax.{Term, Head, Builds, Calls, Expression, Rule, Protocol}
use Rattle.spec_calculus.specs.Matching.{rules_of}
use Rattle.spec_calculus.specs.Choices.{Choice, Choices, choices, row_choices, built_choice, called_choice, joined_choice}
use Rattle.spec_choice_walks.specs.Instructions.{Instruction, Push, Apply, instructions, row_instructions}
use Rattle.spec_choice_walks.specs.Labels.{labels_by}

-- lists of lists, item by item
flat_map_alike : {A B : Type 0} (f g : A → List B) → ((x : A) → f x ≡ g x) → (xs : List A) → flat_map f xs ≡ flat_map g xs
flat_map_alike f g same [] = refl
flat_map_alike f g same (x ∷ xs) = let first = same x in let others = flat_map_alike f g same xs in λ i. first i ++ others i

map_flat_map : {A B C : Type 0} (f : B → C) (g : A → List B) (xs : List A) → map f (flat_map g xs) ≡ flat_map (λ x. map f (g x)) xs
map_flat_map f g [] = refl
map_flat_map f g (x ∷ xs) = map-append f (g x) (flat_map g xs) ∙ ap (λ l. map f (g x) ++ l) (map_flat_map f g xs)

flat_map_twice : {A B C : Type 0} (f : B → List C) (g : A → List B) (xs : List A) → flat_map f (flat_map g xs) ≡ flat_map (λ x. flat_map f (g x)) xs
flat_map_twice f g [] = refl
flat_map_twice f g (x ∷ xs) = flat_map-append f (g x) (flat_map g xs) ∙ ap (λ l. flat_map f (g x) ++ l) (flat_map_twice f g xs)

map_twice : {A B C : Type 0} (f : B → C) (g : A → B) (xs : List A) → map f (map g xs) ≡ map (λ x. f (g x)) xs
map_twice f g [] = refl
map_twice f g (x ∷ xs) = ap (λ l. f (g x) ∷ l) (map_twice f g xs)

map_alike : {A B : Type 0} (f g : A → B) → ((x : A) → f x ≡ g x) → (xs : List A) → map f xs ≡ map g xs
map_alike f g same [] = refl
map_alike f g same (x ∷ xs) = let first = same x in let others = map_alike f g same xs in λ i. first i ∷ others i

map_same : {A : Type 0} (xs : List A) → map (λ (x : A). x) xs ≡ xs
map_same [] = refl
map_same (x ∷ xs) = ap (λ l. x ∷ l) (map_same xs)

-- each of the first ones before each of the others
abbrev product : List (List ℕ) → List (List ℕ) → List (List ℕ)
product xs ys = flat_map (λ a. map (λ b. a ++ b) ys) xs

product_behind : (n : ℕ) (xs ys : List (List ℕ)) → map (λ l. n ∷ l) (product xs ys) ≡ product (map (λ l. n ∷ l) xs) ys
product_behind n xs ys =
    map_flat_map (λ l. n ∷ l) (λ a. map (λ b. a ++ b) ys) xs
    ∙ (flat_map_alike (λ a. map (λ l. n ∷ l) (map (λ b. a ++ b) ys)) (λ a. map (λ b. (n ∷ a) ++ b) ys) (λ a. map_twice (λ l. n ∷ l) (λ b. a ++ b) ys) xs
    ∙ sym (flat_map-map (λ a. map (λ b. a ++ b) ys) (λ l. n ∷ l) xs))

labels-append : (P : Protocol) (xs ys : List Instruction) → labels_by P (xs ++ ys) ≡ product (labels_by P xs) (labels_by P ys)
labels-append P [] ys = sym (append-nil (map (λ b. [] ++ b) (labels_by P ys)) ∙ map_same (labels_by P ys))
labels-append P (Push term ∷ xs) ys = labels-append P xs ys
labels-append P (Apply (Builds f) count ∷ xs) ys = labels-append P xs ys
labels-append P (Apply (Calls d) count ∷ xs) ys =
    let rules : List (ℕ × Rule) = enumerate_from 1 (rules_of P d) in
    flat_map_alike (λ rule. map (λ l. rule.0 ∷ l) (labels_by P (xs ++ ys))) (λ rule. product (map (λ l. rule.0 ∷ l) (labels_by P xs)) (labels_by P ys))
    (λ rule. ap (map (λ l. rule.0 ∷ l)) (labels-append P xs ys) ∙ product_behind rule.0 (labels_by P xs) (labels_by P ys)) rules
    ∙ sym (flat_map_twice (λ a. map (λ b. a ++ b) (labels_by P ys)) (λ rule. map (λ l. rule.0 ∷ l) (labels_by P xs)) rules)

-- what the root of an expression leaves, behind its parts
builds_last : (xs : List (List ℕ)) → product xs ([] ∷ []) ≡ xs
builds_last [] = refl
builds_last (x ∷ xs) = let first = append-nil x in let others = builds_last xs in λ i. first i ∷ others i

-- The labels that the instructions leave are those of the expression's choices.
mutual
  pub labels_are : (P : Protocol) (e : Expression) → labels_by P (instructions e) ≡ map (λ c. c.rules) (choices P e)
  labels_are P (Leaf term) = refl
  labels_are P (Node (Builds f) parts) =
      labels-append P (row_instructions parts) (Apply (Builds f) (length (items_of parts)) ∷ [])
      ∙ (builds_last (labels_by P (row_instructions parts)) ∙ (row_labels_are P parts ∙ sym (map_twice (λ (c : Choice). c.rules) (built_choice f) (row_choices P parts))))
  labels_are P (Node (Calls d) parts) =
      let rules : List (ℕ × Rule) = enumerate_from 1 (rules_of P d) in
      let last : List (List ℕ) = flat_map (λ rule. (rule.0 ∷ []) ∷ []) rules in
      labels-append P (row_instructions parts) (Apply (Calls d) (length (items_of parts)) ∷ [])
      ∙ (ap (λ xs. product xs last) (row_labels_are P parts)
      ∙ (flat_map-map (λ a. map (λ b. a ++ b) last) (λ (c : Choices). c.rules) (row_choices P parts)
      ∙ (flat_map_alike (λ (row : Choices). map (λ b. row.rules ++ b) last) (λ row. map (λ (c : Choice). c.rules) (map (called_choice row) rules))
      (λ row. map_flat_map (λ b. row.rules ++ b) (λ rule. (rule.0 ∷ []) ∷ []) rules ∙ (single (λ rule. row.rules ++ rule.0 ∷ []) rules ∙ sym (map_twice (λ (c : Choice). c.rules) (called_choice row) rules))) (row_choices P parts)
      ∙ sym (map_flat_map (λ (c : Choice). c.rules) (λ row. map (called_choice row) rules) (row_choices P parts))))) where
        single : {A B : Type 0} (f : A → B) (xs : List A) → flat_map (λ x. f x ∷ []) xs ≡ map f xs
        single f [] = refl
        single f (x ∷ xs) = ap (λ l. f x ∷ l) (single f xs)

  row_labels_are : (P : Protocol) (parts : Trees Term (Head ℕ)) → labels_by P (row_instructions parts) ≡ map (λ c. c.rules) (row_choices P parts)
  row_labels_are P none = refl
  row_labels_are P (more part parts) =
      labels-append P (instructions part) (row_instructions parts)
      ∙ ((λ i. product (labels_are P part i) (row_labels_are P parts i))
      ∙ (flat_map-map (λ a. map (λ b. a ++ b) (map (λ (c : Choices). c.rules) (row_choices P parts))) (λ (c : Choice). c.rules) (choices P part)
      ∙ (flat_map_alike (λ (first : Choice). map (λ b. first.rules ++ b) (map (λ (c : Choices). c.rules) (row_choices P parts))) (λ first. map (λ (c : Choices). c.rules) (map (joined_choice first) (row_choices P parts)))
      (λ first. map_twice (λ b. first.rules ++ b) (λ (c : Choices). c.rules) (row_choices P parts) ∙ sym (map_twice (λ (c : Choices). c.rules) (joined_choice first) (row_choices P parts))) (choices P part)
      ∙ sym (map_flat_map (λ (c : Choices). c.rules) (λ first. map (joined_choice first) (row_choices P parts)) (choices P part)))))
