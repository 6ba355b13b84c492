-- The constraints of an else branch are over the protocol: for each choice as many left sides as right sides, each a term of the process,
-- of a rule or of the pattern.
use Rattle.std.proofs.Common.{◌≡◌, ◌∙◌, ℕ, Bool, true, false, cond, List, [], ◌∷◌, length, map, refl, ap, sym, arith, length-append}
use Rattle.std.specs.Prelude.{filter}
use Rattle.std.specs.List.{AllByRecursion}
use Rattle.std.proofs.lemmas.List.{length-map}
use Rattle.spec_trees.specs.Tree.{Leaf, bind}
use Rattle.spec_trees.specs.Leaves.{leaves}
use Rattle.spec_calculus.specs.Syntax.{Name, Made, Variable, Hole, Bind, Equal, Pattern, Expression, Ruled, Protocol}
use Rattle.spec_calculus.specs.Syntax as calculus
use Rattle.spec_calculus.specs.Choices.{choices}
use Rattle.spec_calculus.proofs.Items.{each-map}
use Rattle.spec_well_formed.specs.Signature.{signature_of}
use Rattle.spec_well_formed.specs.Rules.{IsVariable}
use Rattle.spec_well_formed.specs.Terms as below
use Rattle.spec_well_formed.specs.Terms.{IsTermBelow, IsHoleBelow, IsPatternBelow, IsExpressionBelow, TakesPatterns}
use Rattle.spec_well_formed.specs.WellFormed.{IsWellScoped}
use Rattle.spec_terms.specs.Term.{Term}
use Rattle.spec_clauses.specs.Diff.{Slot}
use Rattle.spec_clauses.proofs.Lists.{all_append, all_weaker}
use Rattle.spec_translation.specs.Conversion.{Scope, term_in}
use Rattle.spec_translation.specs.Visit.{Visit}
use Rattle.spec_translation.specs.Applied.{width, fits, ruled_term, ruled_arguments, ruled_sides}
use Rattle.spec_translation.specs.Otherwise.{own_side, rule_slot, rule_side, hole_side, pattern_side, choice_sides, choice_diff, choice_diffs}
use Rattle.spec_translation.proofs.Applied.{ruled_arguments_moved, ruled_sides_moved}
use Rattle.spec_abstraction.proofs.Failing.{arguments_counted}
use Rattle.spec_readable_verdicts.proofs.Facts.{IsSideOver, IsDiffOver, own_over, numbered_over}
use Rattle.spec_readable_verdicts.proofs.Conversion.{converted_over, patterns_take, term_over}
use Rattle.spec_readable_verdicts.proofs.Scopes.{IsVisitOver, term_in_over}
use Rattle.spec_readable_verdicts.proofs.Applied.{IsRuledBelow, choices_below, value_over, arguments_over, sides_over}

-- as many arguments as left sides, since there are as many where both are read as terms
sides_counted : (P : Protocol) (scope : Scope) (ruled : Ruled) → fits ruled ≡ true → length (ruled_arguments P (own_side P scope) (rule_side P) 0 ruled) ≡ length (ruled_sides P (own_side P scope) (rule_side P) 0 ruled)
sides_counted P scope ruled fit =
    let f = own_side P scope in
    let e : Slot → Term = λ k. Leaf 0 in
    let g : calculus.Term → Term = λ t. bind e (f t) in
    let g_rule : ℕ → calculus.Term → Term = λ base t. bind e (rule_side P base t) in
    let arguments = ruled_arguments P f (rule_side P) 0 ruled in
    let lefts = ruled_sides P f (rule_side P) 0 ruled in
    sym (length-map arguments (bind e))
    ∙ (ap length (ruled_arguments_moved P f g (rule_side P) g_rule e (λ t. refl) 0 0 (λ d t. refl) ruled)
    ∙ (arguments_counted P g g_rule 0 ruled fit
    ∙ (sym (ap length (ruled_sides_moved P f g (rule_side P) g_rule e (λ t. refl) 0 0 (λ d t. refl) ruled)) ∙ length-map lefts (bind e))))

module _ (P : Protocol) (scoped : IsWellScoped P) where
  -- a term of a rule
  rule_slot_over : (base : ℕ) (x : Name) → IsVariable x → IsSideOver P (rule_slot base x)
  rule_slot_over base (calculus.Free n) h = absurd h
  rule_slot_over base (Made p) h = absurd h
  rule_slot_over base (Variable i) h = tt

  rule_side_over : (base : ℕ) (t : calculus.Term) → below.IsTermOver (signature_of P) IsVariable t → IsSideOver P (rule_side P base t)
  rule_side_over base t h = term_over P (rule_slot base) IsVariable (rule_slot_over base) t h

  module _ (bound : List Name) (above : ℕ) (v : Visit) (is : IsVisitOver P bound above v) where
    own_side_over : (t : calculus.Term) → IsTermBelow (signature_of P) bound t → IsSideOver P (own_side P v.scope t)
    own_side_over t h = own_over P (term_in P v.scope t) (term_in_over P bound above v is t h)

    hole_side_over : (base : ℕ) (hole : Hole) → IsHoleBelow (signature_of P) bound hole → IsSideOver P (hole_side P v.scope base hole)
    hole_side_over base (Bind i) h = tt
    hole_side_over base (Equal t) h = own_side_over t h

    pattern_side_over : (base : ℕ) (pattern : Pattern) → IsPatternBelow (signature_of P) bound pattern → IsSideOver P (pattern_side P v.scope base pattern)
    pattern_side_over base pattern h =
        converted_over P (TakesPatterns (signature_of P)) (patterns_take P) (hole_side P v.scope base) pattern h.arities
        (all_weaker (IsHoleBelow (signature_of P) bound) (λ hole. IsSideOver P (hole_side P v.scope base hole)) (hole_side_over base) (leaves pattern) h.holes)

    module _ (pattern : Pattern) (holes : IsPatternBelow (signature_of P) bound pattern) where
      choice_over : (ruled : Ruled) → IsRuledBelow P scoped bound ruled → fits ruled ≡ true → IsDiffOver P (choice_diff P v.scope pattern ruled)
      choice_over ruled h fit =
          let arguments = ruled_arguments P (own_side P v.scope) (rule_side P) 0 ruled in
          let value = ruled_term P (own_side P v.scope) (rule_side P) 0 ruled in
          let lefts = ruled_sides P (own_side P v.scope) (rule_side P) 0 ruled in
          let target = pattern_side P v.scope (width ruled) pattern in
          let left_count = length-append arguments (value ∷ []) in
          let right_count = length-append lefts (target ∷ []) in
          numbered_over P (choice_sides P v.scope pattern ruled) record {
            left = all_append (IsSideOver P) arguments (value ∷ []) (arguments_over P scoped bound (own_side P v.scope) (rule_side P) own_side_over rule_side_over 0 ruled h)
                (value_over P scoped bound (own_side P v.scope) (rule_side P) own_side_over rule_side_over 0 ruled h, tt);
            right = all_append (IsSideOver P) lefts (target ∷ []) (sides_over P scoped bound (own_side P v.scope) (rule_side P) own_side_over rule_side_over 0 ruled h)
                (pattern_side_over (width ruled) pattern holes, tt);
            paired = omega (arith, left_count, right_count, sides_counted P v.scope ruled fit);
            some = omega (arith, left_count);
          }

      all_choices_over : (rs : List Ruled) → AllByRecursion (IsRuledBelow P scoped bound) rs → AllByRecursion (IsDiffOver P) (map (choice_diff P v.scope pattern) (filter fits rs))
      all_choices_over [] h = tt
      all_choices_over (ruled ∷ rs) h = go (fits ruled) refl (all_choices_over rs h.1) where
        go : (b : Bool) → fits ruled ≡ b → AllByRecursion (IsDiffOver P) (map (choice_diff P v.scope pattern) (filter fits rs)) → AllByRecursion (IsDiffOver P) (map (choice_diff P v.scope pattern) (cond b (ruled ∷ filter fits rs) (filter fits rs)))
        go true e others = (choice_over ruled h.0 e, others)
        go false e others = others

      pub else_over : (expression : Expression) → IsExpressionBelow (signature_of P) bound expression → AllByRecursion (IsDiffOver P) (choice_diffs P v.scope pattern expression)
      else_over expression h = all_choices_over (map (λ c. c.ruled) (choices P expression)) (each-map (IsRuledBelow P scoped bound) (λ c. c.ruled) (choices P expression) (choices_below P scoped bound expression h.terms h.heads))
