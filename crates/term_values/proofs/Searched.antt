-- What instructions end with are the values of the expression.
use Rattle.std.proofs.Common.{◌≡◌, ◌∙◌, ℕ, suc, ◌-◌, Bool, true, false, ◌||◌, List, [], ◌∷◌, ◌++◌, length, map, filter_map, take, drop, refl, sym, ap, subst, append_assoc, arith, length-append, Result, IfOk}
use Rattle.std.specs.declared.alloc.AllocError.{AllocError}
use Rattle.std.specs.List.{AllByRecursion, list_any}
use Rattle.spec_trees.specs.Tree.{Trees, Leaf, Node, none, more, node, items_of}
use Rattle.spec_calculus.specs.Syntax.{Term, Head, Builds, Calls, Expression, Protocol}
use Rattle.spec_calculus.specs.Values.{Value, Environment, value_of}
use Rattle.spec_calculus.specs.Matching.{rule_value, rules_of}
use Rattle.spec_calculus.specs.Choices.{values_at, row_values_at}
use Rattle.spec_calculus.proofs.ByParts.{values_of_constructor, values_of_destructor, values_of_row}
use Rattle.spec_calculus.proofs.Items.{each-map, each-flat_map, each-holds, each-weaker}
use Rattle.spec_calculus.proofs.PartValues.{any_map, any_flat_map}
use Rattle.spec_choice_walks.specs.Instructions.{Instruction, Apply, instructions, row_instructions}
use Rattle.term_values.specs.RuleTests.{is_filled}
use Rattle.term_values.specs.Searching.{head_values, some_end}

-- tests that answer the same
pub any_alike : {A : Type 0} (p q : A → Bool) → ((x : A) → p x ≡ q x) → (xs : List A) → list_any p xs ≡ list_any q xs
any_alike p q same [] = refl
any_alike p q same (x ∷ xs) = let first = same x in let others = any_alike p q same xs in λ i. first i || others i

any_alike_each : {A : Type 0} (p q : A → Bool) (xs : List A) → AllByRecursion (λ x. p x ≡ q x) xs → list_any p xs ≡ list_any q xs
any_alike_each p q [] same = refl
any_alike_each p q (x ∷ xs) same = let first = same.0 in let others = any_alike_each p q xs same.1 in λ i. first i || others i

pub or_false : (b : Bool) → b ≡ (b || false)
or_false true = refl
or_false false = refl

append_none : {A : Type 0} (xs : List A) → xs ++ [] ≡ xs
append_none [] = refl
append_none (x ∷ xs) = ap (λ ys. x ∷ ys) (append_none xs)

-- a stack with values on its top
take_below : {A : Type 0} (xs ys : List A) → take (length xs) (xs ++ ys) ≡ xs
take_below [] ys = refl
take_below (x ∷ xs) ys = ap (λ zs. x ∷ zs) (take_below xs ys)

drop_below : {A : Type 0} (xs ys : List A) → drop (length xs) (xs ++ ys) ≡ ys
drop_below [] ys = refl
drop_below (x ∷ xs) ys = drop_below xs ys

height : {A : Type 0} (xs ys : List A) (count : ℕ) → length ys ≡ count → length (xs ++ ys) - count ≡ length xs
height xs ys count e = omega (arith, length-append xs ys, e)

module _ (test : Value → Bool) (P : Protocol) (environment : Environment) where
  -- each list of values of a row is as long as the row
  row_lengths : (parts : Trees Term (Head ℕ)) → AllByRecursion (λ vs. length vs ≡ length (items_of parts)) (row_values_at P environment parts)
  row_lengths none = (refl, tt)
  row_lengths (more part parts) =
      let here = each-flat_map (λ vs. length vs ≡ suc (length (items_of parts))) (λ v. map (λ vs. v ∷ vs) (row_values_at P environment parts)) (values_at P environment part)
      (each-holds (λ v. AllByRecursion (λ vs. length vs ≡ suc (length (items_of parts))) (map (λ vs. v ∷ vs) (row_values_at P environment parts)))
      (λ v. each-map (λ vs. length vs ≡ suc (length (items_of parts))) (λ vs. v ∷ vs) (row_values_at P environment parts)
      (each-weaker (λ (vs : List Value). length vs ≡ length (items_of parts)) (λ (vs : List Value). length (v ∷ vs) ≡ suc (length (items_of parts))) (λ vs e. ap suc e) (row_values_at P environment parts) (row_lengths parts)))
      (values_at P environment part)) in
      subst (AllByRecursion (λ vs. length vs ≡ suc (length (items_of parts)))) (sym (values_of_row P environment part parts)) here

  -- the root is applied to the values that were put on the stack last
  applied : (head : Head ℕ) (later : List Instruction) (stack vs : List Value) (count : ℕ) → length vs ≡ count
      → some_end test P environment (Apply head count ∷ later) (stack ++ vs) ≡ list_any (λ v. some_end test P environment later (stack ++ v ∷ [])) (head_values P head vs)
  applied head later stack vs count e =
      ap (λ k. list_any (λ v. some_end test P environment later (take k (stack ++ vs) ++ v ∷ [])) (head_values P head (drop k (stack ++ vs)))) (height stack vs count e)
      ∙ (λ i. list_any (λ v. some_end test P environment later (take_below stack vs i ++ v ∷ [])) (head_values P head (drop_below stack vs i)))

  -- the values of an expression come of the lists of values of its parts
  values_of_parts : (f : Value → Bool) (head : Head ℕ) (parts : Trees Term (Head ℕ)) → list_any (λ vs. list_any f (head_values P head vs)) (row_values_at P environment parts) ≡ list_any f (values_at P environment (Node head parts))
  values_of_parts f (Builds symbol) parts =
      any_alike (λ vs. f (node symbol vs) || false) (λ vs. f (node symbol vs)) (λ vs. sym (or_false (f (node symbol vs)))) (row_values_at P environment parts)
      ∙ (sym (any_map f (node symbol) (row_values_at P environment parts)) ∙ ap (list_any f) (sym (values_of_constructor P environment symbol parts)))
  values_of_parts f (Calls d) parts =
      sym (any_flat_map f (λ vs. filter_map (λ rule. rule_value rule vs) (rules_of P d)) (row_values_at P environment parts)) ∙ ap (list_any f) (sym (values_of_destructor P environment d parts))

  mutual
    pub expression_ends : (e : Expression) (later : List Instruction) (stack : List Value)
        → some_end test P environment (instructions e ++ later) stack ≡ list_any (λ v. some_end test P environment later (stack ++ v ∷ [])) (values_at P environment e)
    expression_ends (Leaf term) later stack = or_false (some_end test P environment later (stack ++ value_of environment term ∷ []))
    expression_ends (Node head parts) later stack =
        let count : ℕ = length (items_of parts) in
        let rows = row_values_at P environment parts in
        let ends : Value → Bool = λ v. some_end test P environment later (stack ++ v ∷ []) in
        ap (λ l. some_end test P environment l stack) (append_assoc (row_instructions parts) (Apply head count ∷ []) later)
        ∙ (row_ends parts (Apply head count ∷ later) stack
        ∙ (any_alike_each (λ vs. some_end test P environment (Apply head count ∷ later) (stack ++ vs)) (λ vs. list_any ends (head_values P head vs)) rows
        (each-weaker (λ vs. length vs ≡ count) (λ vs. some_end test P environment (Apply head count ∷ later) (stack ++ vs) ≡ list_any ends (head_values P head vs)) (λ vs e. applied head later stack vs count e) rows (row_lengths parts))
        ∙ values_of_parts ends head parts))

    row_ends : (parts : Trees Term (Head ℕ)) (later : List Instruction) (stack : List Value)
        → some_end test P environment (row_instructions parts ++ later) stack ≡ list_any (λ vs. some_end test P environment later (stack ++ vs)) (row_values_at P environment parts)
    row_ends none later stack = sym (ap (some_end test P environment later) (append_none stack)) ∙ or_false (some_end test P environment later (stack ++ []))
    row_ends (more part parts) later stack =
        let rows = row_values_at P environment parts in
        let ends : List Value → Bool = λ vs. some_end test P environment later (stack ++ vs) in
        ap (λ l. some_end test P environment l stack) (append_assoc (instructions part) (row_instructions parts) later)
        ∙ (expression_ends part (row_instructions parts ++ later) stack
        ∙ (any_alike (λ v. some_end test P environment (row_instructions parts ++ later) (stack ++ v ∷ [])) (λ v. list_any ends (map (λ vs. v ∷ vs) rows))
        (λ v. row_ends parts later (stack ++ v ∷ [])
        ∙ (any_alike (λ vs. some_end test P environment later ((stack ++ v ∷ []) ++ vs)) (λ vs. ends (v ∷ vs)) (λ vs. ap (some_end test P environment later) (append_assoc stack (v ∷ []) vs)) rows
        ∙ sym (any_map ends (λ vs. v ∷ vs) rows)))
        (values_at P environment part)
        ∙ (sym (any_flat_map ends (λ v. map (λ vs. v ∷ vs) rows) (values_at P environment part)) ∙ ap (list_any ends) (sym (values_of_row P environment part parts)))))

  -- a value passes with which the instructions of an expression end, begun with nothing, exactly where a value of it does
  pub searched : (e : Expression) → some_end test P environment (instructions e) [] ≡ list_any test (values_at P environment e)
  searched e =
      sym (ap (λ l. some_end test P environment l []) (append_none (instructions e)))
      ∙ (expression_ends e [] [] ∙ any_alike (λ v. test v || false) test (λ v. sym (or_false (test v))) (values_at P environment e))

-- what a search from nothing says
pub value_searched : (answer : Result Bool AllocError) (test : Value → Bool) (P : Protocol) (environment : Environment) (e : Expression) (found : List Instruction) (stack : List Value)
    → IfOk answer (λ b. b ≡ some_end test P environment found stack) → found ≡ instructions e → stack ≡ [] → IfOk answer (λ b. b ≡ list_any test (values_at P environment e))
value_searched answer test P environment e found stack h listed empty =
    subst (λ passes. IfOk answer (λ b. b ≡ passes)) ((λ i. some_end test P environment (listed i) (empty i)) ∙ searched test P environment e) h

-- each value is there
pub filled_any : {A : Type 0} (xs : List A) → list_any (λ x. true) xs ≡ is_filled xs
filled_any [] = refl
filled_any (x ∷ xs) = refl

pub ruleset of_filled = (filled_any)
