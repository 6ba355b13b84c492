-- Where each destructor of an expression takes as many arguments as its rules have left sides, as in a protocol that was read, each choice
-- has its constraint.
use Rattle.std.proofs.Common.{◌≡◌, ℕ, ◌+◌, true, ◌&&◌, List, [], ◌∷◌, map, length, refl, ap, sym, ◌∙◌, subst, arith}
use Rattle.std.specs.Prelude.{filter}
use Rattle.std.specs.Option.{option_map_or}
use Rattle.std.specs.List.{AllByRecursion, enumerate_from}
use Rattle.std.proofs.lemmas.Bool.{eq-eqb}
use Rattle.spec_trees.specs.Tree.{Trees, Leaf, Node, none, more}
use Rattle.spec_calculus.specs.Syntax.{Head, Builds, Calls, Pattern, Expression, Rule, Protocol}
use Rattle.spec_calculus.specs.Syntax as calculus
use Rattle.spec_calculus.specs.Matching.{rules_of}
use Rattle.spec_calculus.specs.Choices.{Choice, Choices, built_choice, called_choice, joined_choice, choices, row_choices}
use Rattle.spec_calculus.proofs.Items.{each-map, each-flat_map, each-weaker}
use Rattle.spec_well_formed.specs.Signature.{signature_of}
use Rattle.spec_well_formed.specs.Terms as well_formed
use Rattle.spec_well_formed.specs.Terms.{EachSymbol, EachSymbolInRow, HasRulesFor, TakesParts}
use Rattle.spec_translation.specs.Conversion.{Scope, row_length}
use Rattle.spec_translation.specs.Applied.{fits, row_fits}
use Rattle.spec_translation.specs.Otherwise.{choice_diff, choice_diffs}

-- a choice for a row fits, and has as many parts as the row
abbrev FitsRow : Trees calculus.Term (Head ℕ) → Choices → Type 0
FitsRow parts row = (row_fits row.ruled ≡ true) × (row_length row.ruled ≡ row_length parts)

-- the two ways to count the parts of a row
row_lengths : {L S : Type 0} (ts : Trees L S) → well_formed.row_length ts ≡ row_length ts
row_lengths none = refl
row_lengths (more t ts) = omega (arith, row_lengths ts)

module _ (P : Protocol) where
  called_fit : (row : Choices) (n : ℕ) → row_fits row.ruled ≡ true → row_length row.ruled ≡ n → (k : ℕ) (rules : List Rule) → AllByRecursion (λ r. length r.left ≡ n) rules → AllByRecursion (λ c. fits c.ruled ≡ true) (map (called_choice row) (enumerate_from k rules))
  called_fit row n fit count k [] a = tt
  called_fit row n fit count k (rule ∷ rules) a =
      let arity = eq-eqb (length rule.left) (row_length row.ruled) (a.0 ∙ sym count) in
      ((λ i. fit i && arity i), called_fit row n fit count (k + 1) rules a.1)

  -- the rules of a destructor that takes so many arguments
  rules_take : (d n : ℕ) → HasRulesFor (signature_of P) d n → AllByRecursion (λ r. length r.left ≡ n) (rules_of P d)
  rules_take d n h = subst (AllByRecursion (λ r. length r.left ≡ n)) (sym (ap (λ o. option_map_or (λ destructor. destructor.rules) o []) h.stands)) h.are

  mutual
    choices_fit : (e : Expression) → EachSymbol (TakesParts (signature_of P)) e → AllByRecursion (λ c. fits c.ruled ≡ true) (choices P e)
    choices_fit (Leaf t) h = (refl, tt)
    choices_fit (Node (Builds f) parts) h =
        each-map (λ c. fits c.ruled ≡ true) (built_choice f) (row_choices P parts)
        (each-weaker (FitsRow parts) (λ row. row_fits row.ruled ≡ true) (λ row fit. fit.0) (row_choices P parts) (row_choices_fit parts h.1))
    choices_fit (Node (Calls d) parts) h =
        let called = λ (row : Choices). map (called_choice row) (enumerate_from 1 (rules_of P d)) in
        each-flat_map (λ c. fits c.ruled ≡ true) called (row_choices P parts)
        (each-weaker (FitsRow parts) (λ row. AllByRecursion (λ c. fits c.ruled ≡ true) (called row))
        (λ row fit. called_fit row (row_length parts) fit.0 fit.1 1 (rules_of P d) (rules_take d (row_length parts) (subst (HasRulesFor (signature_of P) d) (row_lengths parts) h.0))) (row_choices P parts) (row_choices_fit parts h.1))

    row_choices_fit : (parts : Trees calculus.Term (Head ℕ)) → EachSymbolInRow (TakesParts (signature_of P)) parts → AllByRecursion (FitsRow parts) (row_choices P parts)
    row_choices_fit none h = ((refl, refl), tt)
    row_choices_fit (more part parts) h =
        let others = row_choices_fit parts h.1 in
        let joined = λ (first : Choice). map (joined_choice first) (row_choices P parts) in
        each-flat_map (FitsRow (more part parts)) joined (choices P part)
        (each-weaker (λ c. fits c.ruled ≡ true) (λ c. AllByRecursion (FitsRow (more part parts)) (joined c))
        (λ c fit. each-map (FitsRow (more part parts)) (joined_choice c) (row_choices P parts)
        (each-weaker (FitsRow parts) (λ row. FitsRow (more part parts) (joined_choice c row))
        (λ row own. let rest = own.0 in ((λ i. fit i && rest i), ap (λ n. 1 + n) own.1)) (row_choices P parts) others))
        (choices P part) (choices_fit part h.0))

  all_have : (scope : Scope) (pattern : Pattern) (cs : List Choice) → AllByRecursion (λ c. fits c.ruled ≡ true) cs → map (choice_diff P scope pattern) (filter fits (map (λ c. c.ruled) cs)) ≡ map (λ c. choice_diff P scope pattern c.ruled) cs
  all_have scope pattern [] a = refl
  all_have scope pattern (c ∷ cs) a =
      let fit = a.0 in rw fit (ap (λ ds. choice_diff P scope pattern c.ruled ∷ ds) (all_have scope pattern cs a.1))

  pub each_choice_has : (scope : Scope) (pattern : Pattern) (e : Expression) → EachSymbol (TakesParts (signature_of P)) e → choice_diffs P scope pattern e ≡ map (λ c. choice_diff P scope pattern c.ruled) (choices P e)
  each_choice_has scope pattern e h = all_have scope pattern (choices P e) (choices_fit e h)
