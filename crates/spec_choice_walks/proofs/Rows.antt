-- Rows of parts one behind the other, and with a root over the last parts.
use Rattle.std.proofs.Common.{◌≡◌, ◌∙◌, ℕ, suc, ◌+◌, List, [], ◌∷◌, ◌++◌, length, map, refl, ap, sym, arith}
use Rattle.std.proofs.lemmas.List.{append_assoc, append-nil}
use Rattle.spec_trees.specs.Tree.{Tree, Leaf, Node, trees, node}
use Rattle.spec_trees.proofs.Rows.{trees-items_of}
use Rattle.spec_calculus.specs.Syntax.{Head, Builds, Calls, Rule, Ruled, Protocol}
use Rattle.spec_calculus.specs.Syntax as calculus
use Rattle.spec_translation.specs.Conversion.{Scope, row_length, symbol_over, term_in, rule_term}
use Rattle.spec_translation.specs.Applied.{rule_width, width, ruled_term, ruled_row, ruled_arguments, ruled_sides}
use Rattle.spec_choice_walks.specs.Stage.{terms_of_row, arguments_of_row, sides_of_row, width_of_row}

pub width-append : (xs ys : List Ruled) → width_of_row (xs ++ ys) ≡ width_of_row xs + width_of_row ys
width-append [] ys = omega arith
width-append (x ∷ xs) ys = let h = width-append xs ys in omega (arith, h)

pub width-whole : (row : List Ruled) (t : calculus.Term) → width_of_row (row ++ Leaf t ∷ []) ≡ width_of_row row
width-whole row t = let h = width-append row (Leaf t ∷ []) in omega (arith, h)

pub width-built : (xs ys : List Ruled) (f : calculus.Symbol) → width_of_row (xs ++ node (Builds f) ys ∷ []) ≡ width_of_row (xs ++ ys)
width-built xs ys f = let h = width-append xs (node (Builds f) ys ∷ []) in let k = width-append xs ys in omega (arith, h, k)

pub width-called : (xs ys : List Ruled) (rule : Rule) → width_of_row (xs ++ node (Calls rule) ys ∷ []) ≡ width_of_row (xs ++ ys) + rule_width rule
width-called xs ys rule = let h = width-append xs (node (Calls rule) ys ∷ []) in let k = width-append xs ys in omega (arith, h, k)

row_length-trees : {L S : Type 0} (ts : List (Tree L S)) → row_length (trees ts) ≡ length ts
row_length-trees [] = refl
row_length-trees (t ∷ ts) = let h = row_length-trees ts in omega (arith, h)

module _ (P : Protocol) (scope : Scope) where
  pub terms-append : (base : ℕ) (xs ys : List Ruled) → terms_of_row P scope base (xs ++ ys) ≡ terms_of_row P scope base xs ++ terms_of_row P scope (base + width_of_row xs) ys
  terms-append base [] ys = ap (λ n. terms_of_row P scope n ys) (omega arith)
  terms-append base (x ∷ xs) ys =
      let same : (base + width x) + width_of_row xs ≡ base + (width x + width_of_row xs) = omega arith in
      ap (λ ts. ruled_term P (term_in P scope) (rule_term P) base x ∷ ts) (terms-append (base + width x) xs ys ∙ ap (λ n. terms_of_row P scope (base + width x) xs ++ terms_of_row P scope n ys) same)

  pub arguments-append : (base : ℕ) (xs ys : List Ruled) → arguments_of_row P scope base (xs ++ ys) ≡ arguments_of_row P scope base xs ++ arguments_of_row P scope (base + width_of_row xs) ys
  arguments-append base [] ys = ap (λ n. arguments_of_row P scope n ys) (omega arith)
  arguments-append base (x ∷ xs) ys =
      let first = ruled_arguments P (term_in P scope) (rule_term P) base x in
      let same : (base + width x) + width_of_row xs ≡ base + (width x + width_of_row xs) = omega arith in
      ap (λ ts. first ++ ts) (arguments-append (base + width x) xs ys ∙ ap (λ n. arguments_of_row P scope (base + width x) xs ++ arguments_of_row P scope n ys) same)
      ∙ sym (append_assoc first (arguments_of_row P scope (base + width x) xs) (arguments_of_row P scope (base + (width x + width_of_row xs)) ys))

  pub sides-append : (base : ℕ) (xs ys : List Ruled) → sides_of_row P scope base (xs ++ ys) ≡ sides_of_row P scope base xs ++ sides_of_row P scope (base + width_of_row xs) ys
  sides-append base [] ys = ap (λ n. sides_of_row P scope n ys) (omega arith)
  sides-append base (x ∷ xs) ys =
      let first = ruled_sides P (term_in P scope) (rule_term P) base x in
      let same : (base + width x) + width_of_row xs ≡ base + (width x + width_of_row xs) = omega arith in
      ap (λ ts. first ++ ts) (sides-append (base + width x) xs ys ∙ ap (λ n. sides_of_row P scope (base + width x) xs ++ sides_of_row P scope n ys) same)
      ∙ sym (append_assoc first (sides_of_row P scope (base + width x) xs) (sides_of_row P scope (base + (width x + width_of_row xs)) ys))

  pub length-terms : (base : ℕ) (row : List Ruled) → length (terms_of_row P scope base row) ≡ length row
  length-terms base [] = refl
  length-terms base (x ∷ xs) = ap suc (length-terms (base + width x) xs)

  -- one more term
  module _ (base : ℕ) (row : List Ruled) (t : calculus.Term) where
    pub arguments-whole : arguments_of_row P scope base (row ++ Leaf t ∷ []) ≡ arguments_of_row P scope base row
    arguments-whole = arguments-append base row (Leaf t ∷ []) ∙ append-nil (arguments_of_row P scope base row)

    pub sides-whole : sides_of_row P scope base (row ++ Leaf t ∷ []) ≡ sides_of_row P scope base row
    sides-whole = sides-append base row (Leaf t ∷ []) ∙ append-nil (sides_of_row P scope base row)

    pub terms-whole : terms_of_row P scope base (row ++ Leaf t ∷ []) ≡ terms_of_row P scope base row ++ term_in P scope t ∷ []
    terms-whole = terms-append base row (Leaf t ∷ [])

  -- a root over the last parts: the row is xs and then ys
  module _ (base : ℕ) (xs ys : List Ruled) where
    pub arguments-built : (f : calculus.Symbol) → arguments_of_row P scope base (xs ++ node (Builds f) ys ∷ []) ≡ arguments_of_row P scope base (xs ++ ys)
    arguments-built f =
        arguments-append base xs (node (Builds f) ys ∷ [])
        ∙ (ap (λ ts. arguments_of_row P scope base xs ++ ts) (append-nil (arguments_of_row P scope (base + width_of_row xs) ys))
        ∙ sym (arguments-append base xs ys))

    pub sides-built : (f : calculus.Symbol) → sides_of_row P scope base (xs ++ node (Builds f) ys ∷ []) ≡ sides_of_row P scope base (xs ++ ys)
    sides-built f =
        sides-append base xs (node (Builds f) ys ∷ [])
        ∙ (ap (λ ts. sides_of_row P scope base xs ++ ts) (append-nil (sides_of_row P scope (base + width_of_row xs) ys))
        ∙ sym (sides-append base xs ys))

    pub terms-built : (f : calculus.Symbol) → terms_of_row P scope base (xs ++ node (Builds f) ys ∷ []) ≡ terms_of_row P scope base xs ++ node (symbol_over P (length ys) f) (terms_of_row P scope (base + width_of_row xs) ys) ∷ []
    terms-built f =
        let same = sym (trees-items_of (ruled_row P (term_in P scope) (rule_term P) (base + width_of_row xs) (trees ys))) in
        let many = row_length-trees ys in terms-append base xs (node (Builds f) ys ∷ []) ∙ (λ i. terms_of_row P scope base xs ++ Node (symbol_over P (many i) f) (same i) ∷ [])

    pub arguments-called : (rule : Rule) → arguments_of_row P scope base (xs ++ node (Calls rule) ys ∷ []) ≡ arguments_of_row P scope base (xs ++ ys) ++ terms_of_row P scope (base + width_of_row xs) ys
    arguments-called rule =
        let b = base + width_of_row xs in
        arguments-append base xs (node (Calls rule) ys ∷ [])
        ∙ (ap (λ ts. arguments_of_row P scope base xs ++ ts) (append-nil (arguments_of_row P scope b ys ++ terms_of_row P scope b ys))
        ∙ (sym (append_assoc (arguments_of_row P scope base xs) (arguments_of_row P scope b ys) (terms_of_row P scope b ys))
        ∙ ap (λ ts. ts ++ terms_of_row P scope b ys) (sym (arguments-append base xs ys))))

    next_base : (base + width_of_row xs) + width_of_row ys ≡ base + width_of_row (xs ++ ys)
    next_base = let h = width-append xs ys in omega (arith, h)

    pub sides-called : (rule : Rule) → sides_of_row P scope base (xs ++ node (Calls rule) ys ∷ []) ≡ sides_of_row P scope base (xs ++ ys) ++ map (rule_term P (base + width_of_row (xs ++ ys))) rule.left
    sides-called rule =
        let b = base + width_of_row xs in
        sides-append base xs (node (Calls rule) ys ∷ [])
        ∙ (ap (λ ts. sides_of_row P scope base xs ++ ts) (append-nil (sides_of_row P scope b ys ++ map (rule_term P (b + width_of_row ys)) rule.left) ∙ ap (λ n. sides_of_row P scope b ys ++ map (rule_term P n) rule.left) next_base)
        ∙ (sym (append_assoc (sides_of_row P scope base xs) (sides_of_row P scope b ys) (map (rule_term P (base + width_of_row (xs ++ ys))) rule.left))
        ∙ ap (λ ts. ts ++ map (rule_term P (base + width_of_row (xs ++ ys))) rule.left) (sym (sides-append base xs ys))))

    pub terms-called : (rule : Rule) → terms_of_row P scope base (xs ++ node (Calls rule) ys ∷ []) ≡ terms_of_row P scope base xs ++ rule_term P (base + width_of_row (xs ++ ys)) rule.right ∷ []
    terms-called rule = terms-append base xs (node (Calls rule) ys ∷ []) ∙ ap (λ n. terms_of_row P scope base xs ++ rule_term P n rule.right ∷ []) next_base
