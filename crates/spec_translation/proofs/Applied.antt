-- An expression whose rules are chosen, as terms, under a substitution that moves the new variables of its rules.
use Rattle.std.proofs.Common.{◌≡◌, ◌∙◌, ℕ, ◌+◌, List, [], ◌∷◌, ◌++◌, map, refl, ap, arith}
use Rattle.std.proofs.lemmas.List.{map-append}
use Rattle.spec_trees.specs.Tree.{Tree, Trees, Leaf, Node, none, more, bind, binds, items_of}
use Rattle.spec_calculus.specs.Syntax.{Head, Builds, Calls, Rule, Ruled, Protocol}
use Rattle.spec_calculus.specs.Syntax as calculus
use Rattle.spec_terms.specs.Term.{Sym}
use Rattle.spec_translation.specs.Conversion.{row_length, symbol_over}
use Rattle.spec_translation.specs.Applied.{width, row_width, ruled_term, ruled_row, ruled_arguments, row_arguments, ruled_sides, row_sides}

-- the items of a row under a substitution
pub items_of-binds : {X Y S : Type 0} (m : X → Tree Y S) (ts : Trees X S) → map (bind m) (items_of ts) ≡ items_of (binds m ts)
items_of-binds m none = refl
items_of-binds m (more t ts) = ap (λ us. bind m t ∷ us) (items_of-binds m ts)

-- two readings of terms and rules, where a substitution turns the terms of the first into those of the second
module _ {X Y : Type 0} (P : Protocol) (f : calculus.Term → Tree X Sym) (g : calculus.Term → Tree Y Sym) (f_rule : ℕ → calculus.Term → Tree X Sym) (g_rule : ℕ → calculus.Term → Tree Y Sym) (m : X → Tree Y Sym) (terms : (t : calculus.Term) → bind m (f t) ≡ g t) where
  -- and the variables of rules from one base on into those from another on
  abbrev pub Moves : ℕ → ℕ → Type 0
  Moves base other = (d : ℕ) (t : calculus.Term) → bind m (f_rule (base + d) t) ≡ g_rule (other + d) t

  moves_on : (base other n : ℕ) → Moves base other → Moves (base + n) (other + n)
  moves_on base other n moves d t =
      let here : (base + n) + d ≡ base + (n + d) = omega arith in
      let there : other + (n + d) ≡ (other + n) + d = omega arith in
      ap (λ k. bind m (f_rule k t)) here ∙ (moves (n + d) t ∙ ap (λ k. g_rule k t) there)

  mutual
    pub ruled_term_moved : (base other : ℕ) → Moves base other → (r : Ruled) → bind m (ruled_term P f f_rule base r) ≡ ruled_term P g g_rule other r
    ruled_term_moved base other moves (Leaf t) = terms t
    ruled_term_moved base other moves (Node (Builds h) parts) = ap (Node (symbol_over P (row_length parts) h)) (ruled_row_moved base other moves parts)
    ruled_term_moved base other moves (Node (Calls rule) parts) = moves (row_width parts) rule.right

    ruled_row_moved : (base other : ℕ) → Moves base other → (parts : Trees calculus.Term (Head Rule)) → binds m (ruled_row P f f_rule base parts) ≡ ruled_row P g g_rule other parts
    ruled_row_moved base other moves none = refl
    ruled_row_moved base other moves (more part parts) =
        let first = ruled_term_moved base other moves part in
        let others = ruled_row_moved (base + width part) (other + width part) (moves_on base other (width part) moves) parts in
        λ i. more (first i) (others i)

  mutual
    pub ruled_arguments_moved : (base other : ℕ) → Moves base other → (r : Ruled) → map (bind m) (ruled_arguments P f f_rule base r) ≡ ruled_arguments P g g_rule other r
    ruled_arguments_moved base other moves (Leaf t) = refl
    ruled_arguments_moved base other moves (Node (Builds h) parts) = row_arguments_moved base other moves parts
    ruled_arguments_moved base other moves (Node (Calls rule) parts) =
        let inner = row_arguments_moved base other moves parts in
        let own = items_of-binds m (ruled_row P f f_rule base parts) ∙ ap items_of (ruled_row_moved base other moves parts) in
        map-append (bind m) (row_arguments P f f_rule base parts) (items_of (ruled_row P f f_rule base parts)) ∙ (λ i. inner i ++ own i)

    row_arguments_moved : (base other : ℕ) → Moves base other → (parts : Trees calculus.Term (Head Rule)) → map (bind m) (row_arguments P f f_rule base parts) ≡ row_arguments P g g_rule other parts
    row_arguments_moved base other moves none = refl
    row_arguments_moved base other moves (more part parts) =
        let first = ruled_arguments_moved base other moves part in
        let others = row_arguments_moved (base + width part) (other + width part) (moves_on base other (width part) moves) parts in
        map-append (bind m) (ruled_arguments P f f_rule base part) (row_arguments P f f_rule (base + width part) parts) ∙ (λ i. first i ++ others i)

  rules_moved : (base other : ℕ) → Moves base other → (d : ℕ) (ts : List calculus.Term) → map (bind m) (map (f_rule (base + d)) ts) ≡ map (g_rule (other + d)) ts
  rules_moved base other moves d [] = refl
  rules_moved base other moves d (t ∷ ts) =
      let first = moves d t in
      let others = rules_moved base other moves d ts in λ i. first i ∷ others i

  mutual
    pub ruled_sides_moved : (base other : ℕ) → Moves base other → (r : Ruled) → map (bind m) (ruled_sides P f f_rule base r) ≡ ruled_sides P g g_rule other r
    ruled_sides_moved base other moves (Leaf t) = refl
    ruled_sides_moved base other moves (Node (Builds h) parts) = row_sides_moved base other moves parts
    ruled_sides_moved base other moves (Node (Calls rule) parts) =
        let inner = row_sides_moved base other moves parts in
        let own = rules_moved base other moves (row_width parts) rule.left in
        map-append (bind m) (row_sides P f f_rule base parts) (map (f_rule (base + row_width parts)) rule.left) ∙ (λ i. inner i ++ own i)

    row_sides_moved : (base other : ℕ) → Moves base other → (parts : Trees calculus.Term (Head Rule)) → map (bind m) (row_sides P f f_rule base parts) ≡ row_sides P g g_rule other parts
    row_sides_moved base other moves none = refl
    row_sides_moved base other moves (more part parts) =
        let first = ruled_sides_moved base other moves part in
        let others = row_sides_moved (base + width part) (other + width part) (moves_on base other (width part) moves) parts in
        map-append (bind m) (ruled_sides P f f_rule base part) (row_sides P f f_rule (base + width part) parts) ∙ (λ i. first i ++ others i)
