-- The constraint of a choice, written in terms: those of its rules, and behind them of the pattern, whose variables have the numbers from one on
-- that no variable of the scope has reached. They are those that the constraint binds.
use Rattle.std.proofs.Common.{◌≡◌, ◌∙◌, ℕ, ◌+◌, ◌-◌, ◌<◌, ◌≤◌, List, [], ◌∷◌, ◌++◌, map, refl, ap, lt-ltb, le-ltb, arith}
use Rattle.std.specs.List.{AllByRecursion}
use Rattle.std.proofs.lemmas.List.{map-append}
use Rattle.spec_trees.specs.Tree.{Leaf, bind}
use Rattle.spec_trees.specs.Leaves.{leaves}
use Rattle.spec_calculus.specs.Syntax.{Name, Made, Variable, Hole, Bind, Equal, Pattern, Ruled, Protocol}
use Rattle.spec_calculus.specs.Syntax as calculus
use Rattle.spec_terms.specs.Term.{Term}
use Rattle.spec_clauses.specs.Diff.{Own, Bound, Side, own}
use Rattle.spec_clauses.specs.Shown.{slot_shown, diff_shown}
use Rattle.spec_clauses.specs.Variables.{IsBelow, AreBelow}
use Rattle.spec_clauses.proofs.Diffs.{bind-alike}
use Rattle.spec_clauses.proofs.Lists.{all_weaker}
use Rattle.spec_translation.specs.Applied.{width}
use Rattle.spec_translation.specs.Conversion.{Scope, term_in, hole_term, pattern_term, rule_leaf, rule_term}
use Rattle.spec_translation.specs.Otherwise.{own_side, rule_slot, rule_side, hole_side, pattern_side, choice_sides}
use Rattle.spec_translation.specs.InTerms.{numbered_behind, arguments_in, lefts_in, value_in, target_in, choice_in_terms}
use Rattle.spec_translation.proofs.Applied.{ruled_term_moved, ruled_arguments_moved, ruled_sides_moved}
use Rattle.spec_translation.proofs.Below.{term_in_below}
use Rattle.spec_translation.proofs.Conversions.{converted-bind, converted-same}

-- variables below a number are the clause's, and those from there on bound ones
own_slot : (first x : ℕ) → x < first → slot_shown first x ≡ Own x
own_slot first x below = rw (lt-ltb x first below) refl

bound_slot : (first n x : ℕ) → x ≡ first + n → slot_shown first x ≡ Bound n
bound_slot first n x e =
    let over : first ≤ x = omega (arith, e) in
    let back : x - first ≡ n = omega (arith, e) in
    rw (le-ltb x first over) (ap Bound back)

own_whole : (first : ℕ) (t : Term) → IsBelow first t → bind (λ x. Leaf (slot_shown first x)) t ≡ own t
own_whole first t below =
    bind-alike (λ x. Leaf (slot_shown first x)) (λ x. Leaf (Own x)) t
    (all_weaker (λ x. x < first) (λ x. Leaf (slot_shown first x) ≡ Leaf (Own x)) (λ x l. ap Leaf (own_slot first x l)) (leaves t) below)

module _ (P : Protocol) (scope : Scope) (first : ℕ) (below : AreBelow first (map (λ b. b.term) scope)) where
  abbrev shown : ℕ → Side
  shown x = Leaf (slot_shown first x)

  own_shown : (t : calculus.Term) → bind shown (term_in P scope t) ≡ own_side P scope t
  own_shown t = own_whole first (term_in P scope t) (term_in_below P first scope below t)

  -- a rule's term
  rule_slots_shown : (base : ℕ) (xs : List Name) → AllByRecursion (λ x. bind shown (rule_leaf (first + base) x) ≡ rule_slot base x) xs
  rule_slots_shown base [] = tt
  rule_slots_shown base (calculus.Free n ∷ xs) = (refl, rule_slots_shown base xs)
  rule_slots_shown base (Made p ∷ xs) = (refl, rule_slots_shown base xs)
  rule_slots_shown base (Variable i ∷ xs) = (ap Leaf (bound_slot first (base + (i - 1)) ((first + base) + (i - 1)) (omega arith)), rule_slots_shown base xs)

  rule_shown : (base : ℕ) (t : calculus.Term) → bind shown (rule_term P (first + base) t) ≡ rule_side P base t
  rule_shown base t = converted-bind P shown (rule_leaf (first + base)) t ∙ converted-same P (λ x. bind shown (rule_leaf (first + base) x)) (rule_slot base) t (rule_slots_shown base (leaves t))

  rules_shown : (d : ℕ) (t : calculus.Term) → bind shown (rule_term P (first + d) t) ≡ rule_side P (0 + d) t
  rules_shown d t = let same : d ≡ 0 + d = omega arith in rule_shown d t ∙ ap (λ k. rule_side P k t) same

  -- a pattern's, whose variables have their own numbers behind the base
  holes_shown : (n : ℕ) (holes : List Hole) → AllByRecursion (λ h. bind shown (hole_term P scope (numbered_behind (first + n)) h) ≡ hole_side P scope n h) holes
  holes_shown n [] = tt
  holes_shown n (Bind i ∷ holes) = (ap Leaf (bound_slot first (n + i) ((first + n) + (i - 0)) (omega arith)), holes_shown n holes)
  holes_shown n (Equal t ∷ holes) = (own_shown t, holes_shown n holes)

  pattern_shown : (n : ℕ) (pattern : Pattern) → bind shown (pattern_term P scope (numbered_behind (first + n)) pattern) ≡ pattern_side P scope n pattern
  pattern_shown n pattern =
      converted-bind P shown (hole_term P scope (numbered_behind (first + n))) pattern
      ∙ converted-same P (λ h. bind shown (hole_term P scope (numbered_behind (first + n)) h)) (hole_side P scope n) pattern (holes_shown n (leaves pattern))

  pub choice_shown : (pattern : Pattern) (ruled : Ruled) → diff_shown (choice_in_terms P scope first pattern ruled) ≡ choice_sides P scope pattern ruled
  choice_shown pattern ruled =
      let f = term_in P scope in
      let g = own_side P scope in
      let arguments_shown = ruled_arguments_moved P f g (rule_term P) (rule_side P) shown own_shown first 0 rules_shown ruled in
      let lefts_shown = ruled_sides_moved P f g (rule_term P) (rule_side P) shown own_shown first 0 rules_shown ruled in
      let value_shown = ruled_term_moved P f g (rule_term P) (rule_side P) shown own_shown first 0 rules_shown ruled in
      let target_shown = pattern_shown (width ruled) pattern in
      let left = map-append (bind shown) (arguments_in P scope first ruled) (value_in P scope first ruled ∷ []) ∙ (λ i. arguments_shown i ++ value_shown i ∷ []) in
      let right = map-append (bind shown) (lefts_in P scope first ruled) (target_in P scope first pattern ruled ∷ []) ∙ (λ i. lefts_shown i ++ target_shown i ∷ []) in
      λ i. record { left = left i; right = right i }
