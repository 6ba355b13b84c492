-- An expression with a destructor that has no rule has no choice of rules.
use Rattle.std.proofs.Common.{◌≡◌, ◌∙◌, ℕ, ◌<◌, Bool, true, false, ◌&&◌, List, [], ◌∷◌, ◌++◌, length, map, refl, ap, arith}
use Rattle.std.specs.List.{flat_map, list_any, enumerate_from}
use Rattle.spec_trees.specs.Tree.{Trees, Leaf, Node, none, more}
use Rattle.spec_calculus.specs.Syntax.{Term, Head, Builds, Calls, Expression, Protocol}
use Rattle.spec_calculus.specs.Values.{Value, Environment}
use Rattle.spec_calculus.specs.Matching.{rules_of}
use Rattle.spec_calculus.specs.Choices.{Choice, Choices, built_choice, called_choice, joined_choice, choices, row_choices, part_values, HasRules, HasRowRules}
use Rattle.term_values.specs.RuleTests.{is_filled, has_rules, has_row_rules}

pub both_true : (a b : Bool) → (a && b) ≡ true → (a ≡ true) × (b ≡ true)
both_true true b h = (refl, h)
both_true false b h = cc

first_false : (a b : Bool) (C : Type 0) → (a && b) ≡ false → (a ≡ false → C) → (b ≡ false → C) → C
first_false true b C h f g = g h
first_false false b C h f g = f refl

pub filled_length : {A : Type 0} (xs : List A) → is_filled xs ≡ true → 0 < length xs
filled_length [] h = cc
filled_length (x ∷ xs) h = omega arith

pub filled_not : {A : Type 0} (xs : List A) → is_filled xs ≡ false → xs ≡ []
filled_not [] h = refl
filled_not (x ∷ xs) h = cc

nothing_each : {A B : Type 0} (f : A → List B) (xs : List A) → ((x : A) → f x ≡ []) → flat_map f xs ≡ []
nothing_each f [] h = refl
nothing_each f (x ∷ xs) h = let first = h x in let others = nothing_each f xs h in λ i. first i ++ others i

module _ (P : Protocol) where
  mutual
    pub rules_there : (e : Expression) → has_rules P e ≡ true → HasRules P e
    rules_there (Leaf term) h = tt
    rules_there (Node (Builds f) parts) h = row_rules_there parts h
    rules_there (Node (Calls d) parts) h =
        let both = both_true (is_filled (rules_of P d)) (has_row_rules P parts) h in
        (filled_length (rules_of P d) both.0, row_rules_there parts both.1)

    row_rules_there : (parts : Trees Term (Head ℕ)) → has_row_rules P parts ≡ true → HasRowRules P parts
    row_rules_there none h = tt
    row_rules_there (more part parts) h =
        let both = both_true (has_rules P part) (has_row_rules P parts) h in
        (rules_there part both.0, row_rules_there parts both.1)

  mutual
    pub no_choice : (e : Expression) → has_rules P e ≡ false → choices P e ≡ []
    no_choice (Leaf term) h = cc
    no_choice (Node (Builds f) parts) h = ap (map (built_choice f)) (no_row_choice parts h)
    no_choice (Node (Calls d) parts) h =
        first_false (is_filled (rules_of P d)) (has_row_rules P parts) (choices P (Node (Calls d) parts) ≡ []) h
        (λ k. ap (λ rules. flat_map (λ row. map (called_choice row) (enumerate_from 1 rules)) (row_choices P parts)) (filled_not (rules_of P d) k)
        ∙ nothing_each (λ (row : Choices). []) (row_choices P parts) (λ row. refl))
        (λ k. ap (flat_map (λ row. map (called_choice row) (enumerate_from 1 (rules_of P d)))) (no_row_choice parts k))

    no_row_choice : (parts : Trees Term (Head ℕ)) → has_row_rules P parts ≡ false → row_choices P parts ≡ []
    no_row_choice none h = cc
    no_row_choice (more part parts) h =
        first_false (has_rules P part) (has_row_rules P parts) (row_choices P (more part parts) ≡ []) h
        (λ k. ap (flat_map (λ first. map (joined_choice first) (row_choices P parts))) (no_choice part k))
        (λ k. ap (λ rows. flat_map (λ first. map (joined_choice first) rows) (choices P part)) (no_row_choice parts k)
        ∙ nothing_each (λ (first : Choice). []) (choices P part) (λ first. refl))

  pub nothing_tried : (environment : Environment) (test : Value → Bool) (e : Expression) → has_rules P e ≡ false → list_any test (flat_map (λ c. part_values environment c.ruled) (choices P e)) ≡ false
  nothing_tried environment test e h = ap (λ cs. list_any test (flat_map (λ c. part_values environment c.ruled) cs)) (no_choice e h)
