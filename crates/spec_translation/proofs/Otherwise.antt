-- The constraints of an else branch under a substitution of the visit.
use Rattle.std.proofs.Common.{◌≡◌, ◌∙◌, ℕ, ◌+◌, List, [], ◌∷◌, ◌++◌, map, refl, ap, sym}
use Rattle.std.specs.Prelude.{filter}
use Rattle.std.specs.List.{AllByRecursion}
use Rattle.std.proofs.lemmas.List.{map-append}
use Rattle.spec_trees.specs.Tree.{bind}
use Rattle.spec_trees.specs.Leaves.{leaves}
use Rattle.spec_calculus.specs.Syntax.{Name, Made, Variable, Hole, Bind, Equal, Pattern, Expression, Ruled, Protocol}
use Rattle.spec_calculus.specs.Syntax as calculus
use Rattle.spec_calculus.specs.Choices.{choices}
use Rattle.spec_terms.specs.Term.{Subst}
use Rattle.spec_clauses.specs.Diff.{own, slot_under, diff_under, numbered_diff}
use Rattle.spec_clauses.proofs.Diffs.{own-under}
use Rattle.spec_clauses.proofs.DiffNumbering.{numbered-under}
use Rattle.spec_translation.specs.Conversion.{Scope, term_in}
use Rattle.spec_translation.specs.Visit.{Visit, standing_under, visit_under}
use Rattle.spec_translation.specs.Applied.{width, fits, ruled_term, ruled_arguments, ruled_sides}
use Rattle.spec_translation.specs.Otherwise.{own_side, rule_slot, rule_side, hole_side, pattern_side, choice_sides, choice_diff, choice_diffs, otherwise_visit}
use Rattle.spec_translation.proofs.Conversions.{converted-bind, converted-same, term_in-under}
use Rattle.spec_translation.proofs.Applied.{ruled_term_moved, ruled_arguments_moved, ruled_sides_moved}

module _ (P : Protocol) (s : Subst) (scope : Scope) where
  -- terms of the process are those of the scope under it
  own_side-under : (t : calculus.Term) → bind (slot_under s) (own_side P scope t) ≡ own_side P (map (standing_under s) scope) t
  own_side-under t = own-under s (term_in P scope t) ∙ ap own (sym (term_in-under P s scope t))

  -- those of rules stay
  rule_slots-under : (base : ℕ) (xs : List Name) → AllByRecursion (λ x. bind (slot_under s) (rule_slot base x) ≡ rule_slot base x) xs
  rule_slots-under base [] = tt
  rule_slots-under base (calculus.Free n ∷ xs) = (refl, rule_slots-under base xs)
  rule_slots-under base (Made p ∷ xs) = (refl, rule_slots-under base xs)
  rule_slots-under base (Variable i ∷ xs) = (refl, rule_slots-under base xs)

  rule_side-under : (base : ℕ) (t : calculus.Term) → bind (slot_under s) (rule_side P base t) ≡ rule_side P base t
  rule_side-under base t =
      converted-bind P (slot_under s) (rule_slot base) t
      ∙ converted-same P (λ x. bind (slot_under s) (rule_slot base x)) (rule_slot base) t (rule_slots-under base (leaves t))

  hole_sides-under : (base : ℕ) (holes : List Hole) → AllByRecursion (λ h. bind (slot_under s) (hole_side P scope base h) ≡ hole_side P (map (standing_under s) scope) base h) holes
  hole_sides-under base [] = tt
  hole_sides-under base (Bind i ∷ holes) = (refl, hole_sides-under base holes)
  hole_sides-under base (Equal term ∷ holes) = (own_side-under term, hole_sides-under base holes)

  pattern_side-under : (base : ℕ) (pattern : Pattern) → bind (slot_under s) (pattern_side P scope base pattern) ≡ pattern_side P (map (standing_under s) scope) base pattern
  pattern_side-under base pattern =
      converted-bind P (slot_under s) (hole_side P scope base) pattern
      ∙ converted-same P (λ h. bind (slot_under s) (hole_side P scope base h)) (hole_side P (map (standing_under s) scope) base) pattern (hole_sides-under base (leaves pattern))

  choice_diff-under : (pattern : Pattern) (ruled : Ruled) → diff_under s (choice_diff P scope pattern ruled) ≡ choice_diff P (map (standing_under s) scope) pattern ruled
  choice_diff-under pattern ruled =
      let f = own_side P scope in
      let g = own_side P (map (standing_under s) scope) in
      let moves = λ (d : ℕ) (t : calculus.Term). rule_side-under (0 + d) t in
      let arguments = ruled_arguments_moved P f g (rule_side P) (rule_side P) (slot_under s) own_side-under 0 0 moves ruled in
      let lefts = ruled_sides_moved P f g (rule_side P) (rule_side P) (slot_under s) own_side-under 0 0 moves ruled in
      let value = ruled_term_moved P f g (rule_side P) (rule_side P) (slot_under s) own_side-under 0 0 moves ruled in
      let target = pattern_side-under (width ruled) pattern in
      let left = map-append (bind (slot_under s)) (ruled_arguments P f (rule_side P) 0 ruled) (ruled_term P f (rule_side P) 0 ruled ∷ []) ∙ (λ i. arguments i ++ value i ∷ []) in
      let right = map-append (bind (slot_under s)) (ruled_sides P f (rule_side P) 0 ruled) (pattern_side P scope (width ruled) pattern ∷ []) ∙ (λ i. lefts i ++ target i ∷ []) in
      sym (numbered-under s (choice_sides P scope pattern ruled)) ∙ (λ i. numbered_diff (record { left = left i; right = right i }))

  each_choice_diff-under : (pattern : Pattern) (rs : List Ruled) → map (diff_under s) (map (choice_diff P scope pattern) rs) ≡ map (choice_diff P (map (standing_under s) scope) pattern) rs
  each_choice_diff-under pattern [] = refl
  each_choice_diff-under pattern (ruled ∷ rs) =
      let first = choice_diff-under pattern ruled in let others = each_choice_diff-under pattern rs in λ i. first i ∷ others i

  pub choice_diffs-under : (pattern : Pattern) (expression : Expression) → map (diff_under s) (choice_diffs P scope pattern expression) ≡ choice_diffs P (map (standing_under s) scope) pattern expression
  choice_diffs-under pattern expression = each_choice_diff-under pattern (filter fits (map (λ c. c.ruled) (choices P expression)))

-- the visit of the else branch
pub otherwise_visit-under : (P : Protocol) (s : Subst) (v : Visit) (pattern : Pattern) (expression : Expression) → visit_under s (otherwise_visit P v pattern expression) ≡ otherwise_visit P (visit_under s v) pattern expression
otherwise_visit-under P s v pattern expression =
    let w = visit_under s v in
    let new = choice_diffs-under P s v.scope pattern expression in
    let diffs = map-append (diff_under s) v.diffs (choice_diffs P v.scope pattern expression) ∙ (λ i. w.diffs ++ new i) in
    λ i. record { scope = w.scope; hypotheses = w.hypotheses; diffs = diffs i; messages = w.messages; sessions = w.sessions; phase = v.phase }
