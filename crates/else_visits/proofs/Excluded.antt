-- The constraint of a choice by the terms that are made for it, and a visit with those of all choices.
use Rattle.std.proofs.Common.{◌≡◌, ◌∙◌, ℕ, ◌+◌, ◌<◌, Bool, true, false, cond, List, [], ◌∷◌, ◌++◌, map, refl, ap, sym, subst, arith}
use Rattle.std.specs.Prelude.{nat_lt, filter, flat_map}
use Rattle.std.specs.List.{AllByRecursion}
use Rattle.std.proofs.lemmas.List.{append-nil}
use Rattle.std.proofs.lemmas.List.Concat.{flat_map-append}
use borrow.Author.Tests.{ltb-true}
use Rattle.spec_calculus.specs.Choices.{choices}
use Rattle.spec_calculus.specs.Syntax.{Pattern, Expression, Ruled, Protocol}
use Rattle.spec_terms.specs.Term.{Term}
use Rattle.spec_clauses.specs.Diff.{Diff, diff_variables, numbered_diff}
use Rattle.spec_clauses.specs.Shown.{diff_shown, shown_variables}
use Rattle.spec_clauses.specs.Variables.{AreBelow}
use Rattle.spec_clauses.proofs.DiffNumbering.{own-numbered}
use Rattle.spec_clauses.proofs.Lists.{all_append}
use Rattle.spec_translation.specs.Applied.{width, fits}
use Rattle.spec_translation.specs.Conversion.{Scope, pattern_term}
use Rattle.spec_translation.specs.InTerms.{numbered_behind, arguments_in, lefts_in, value_in, target_in, choice_in_terms}
use Rattle.spec_translation.specs.Otherwise.{choice_sides, choice_diff, choice_diffs, otherwise_visit}
use Rattle.spec_translation.specs.Visit.{Visit, visit_terms}
use Rattle.spec_translation.proofs.InTerms.{choice_shown}
use Rattle.spec_choice_walks.specs.Stage.{arguments_of_row, sides_of_row}
use Rattle.term_tree.specs.Bank.{Names, Grows}
use Rattle.term_tree.specs.declared.bank.Id.{Id}
use Rattle.pi_tree.specs.Patterns.{pattern_of}
use Rattle.clause_diffs.specs.Diffs.{DiffOf, NameTerms}
use Rattle.clause_diffs.proofs.Shown.{shown-own}
use Rattle.clause_form.proofs.Copying.{NameTerms-grows, NameTerms-push}
use Rattle.visit_choices.specs.declared.choice.Choosing.{Choosing}
use Rattle.unified_visits.specs.declared.visit.Visit as source
use Rattle.else_visits.specs.declared.otherwise.Sides.{Sides}
use Rattle.unified_visits.specs.Places.{protocol_at}
use Rattle.else_visits.specs.Sides.{AreSidesOf}
use Rattle.unified_visits.specs.Visits.{visit_at, IsVisitIn, NamesVisit, ShowsDiff, ShowDiffs}
use Rattle.visit_choices.specs.Walks.{choices_of, IsChoosingIn}
use Rattle.else_visits.proofs.Fitting.{all_choices_fit}
use Rattle.unified_visits.proofs.Named.{parted, below_parts, scope_later, hypotheses_later, messages_later, sessions_later, diffs_later, visit_named}
use Rattle.else_visits.proofs.SideListing.{ShowDiffs-append}
use Rattle.unified_visits.proofs.Standing.{leaves_are, leaves_were}

-- The variables of a choice's constraint, but for those that it binds, are below a number where those of the scope are.
module _ (P : Protocol) (scope : Scope) (first : ℕ) (below : AreBelow first (map (λ b. b.term) scope)) where
  filtered_below : (n : ℕ) (xs : List ℕ) → AllByRecursion (λ x. x < n) (filter (λ x. nat_lt x n) xs)
  filtered_below n [] = tt
  filtered_below n (x ∷ xs) = go (nat_lt x n) refl (filtered_below n xs) where
    go : (b : Bool) → nat_lt x n ≡ b → AllByRecursion (λ y. y < n) (filter (λ y. nat_lt y n) xs) → AllByRecursion (λ y. y < n) (cond b (x ∷ filter (λ y. nat_lt y n) xs) (filter (λ y. nat_lt y n) xs))
    go true e later = (ltb-true x n e, later)
    go false e later = later

  choice_below : (pattern : Pattern) (ruled : Ruled) → AllByRecursion (λ x. x < first) (diff_variables (choice_diff P scope pattern ruled))
  choice_below pattern ruled =
      let d = choice_in_terms P scope first pattern ruled in
      subst (AllByRecursion (λ x. x < first)) (sym (own-numbered (choice_sides P scope pattern ruled) ∙ (ap diff_variables (sym (choice_shown P scope first below pattern ruled)) ∙ shown-own d))) (filtered_below first (shown_variables d))

  pub choices_below : (pattern : Pattern) (rs : List Ruled) → AllByRecursion (λ x. x < first) (flat_map diff_variables (map (choice_diff P scope pattern) rs))
  choices_below pattern [] = tt
  choices_below pattern (ruled ∷ rs) =
      all_append (λ x. x < first) (diff_variables (choice_diff P scope pattern ruled)) (flat_map diff_variables (map (choice_diff P scope pattern) rs)) (choice_below pattern ruled) (choices_below pattern rs)

-- The ids of the sides, and of the pattern's term, are the constraint of the choice.
module _ (P : Protocol) (w : source.Visit) (v : Visit) (pattern : Pattern) (ruled : Ruled) (old new : List Term) (sides : Sides) (is : AreSidesOf P w v (ruled ∷ []) old sides) (grows : Grows old new) where
  abbrev xs : List Term
  xs = arguments_in P v.scope w.next ruled

  abbrev ys : List Term
  ys = lefts_in P v.scope w.next ruled

  abbrev target_term : Term
  target_term = target_in P v.scope w.next pattern ruled

  below_scope : AreBelow w.next (map (λ b. b.term) v.scope)
  below_scope = (parted w.next v (subst (λ (x : Visit). AreBelow w.next (visit_terms x)) is.visit.is is.visit.known.below)).scope

  -- the pattern's variables come behind those of the rules
  next_width : sides.next ≡ w.next + width ruled
  next_width = omega (arith, is.next_is)

  arguments_named : NameTerms new sides.left.items xs
  arguments_named = subst (λ (l : List Term). NameTerms new sides.left.items l) (append-nil xs) (NameTerms-grows old new sides.left.items (arguments_of_row P v.scope w.next (ruled ∷ [])) grows is.left)

  lefts_named : NameTerms new sides.right.items ys
  lefts_named = subst (λ (l : List Term). NameTerms new sides.right.items l) (append-nil ys) (NameTerms-grows old new sides.right.items (sides_of_row P v.scope w.next (ruled ∷ [])) grows is.right)

  pub diff_shows : (left right : List Id) (one target : Id) → Names new one (value_in P v.scope w.next ruled) → Names new target (pattern_term P v.scope (numbered_behind sides.next) pattern)
      → left ≡ sides.left.items ++ one ∷ [] → right ≡ sides.right.items ++ target ∷ [] → ShowsDiff new (record { first = w.next; left = left; right = right }) (choice_diff P v.scope pattern ruled)
  diff_shows left right one target named_one named_target left_is right_is =
      let value = value_in P v.scope w.next ruled in
      let told = subst (λ k. Names new target (pattern_term P v.scope (numbered_behind k) pattern)) next_width named_target in
      let all_left = subst (λ (l : List Id). NameTerms new l (xs ++ value ∷ [])) (sym left_is) (NameTerms-push new sides.left.items xs one value arguments_named named_one) in
      let all_right = subst (λ (l : List Id). NameTerms new l (ys ++ target_term ∷ [])) (sym right_is) (NameTerms-push new sides.right.items ys target target_term lefts_named told) in
      let are_left = all_left.are in
      let are_right = all_right.are in
      record {
        known = record { left = all_left.known; right = all_right.known };
        is = ap numbered_diff ((λ i. diff_shown (record { first = w.next; left = are_left i; right = are_right i })) ∙ choice_shown P v.scope w.next below_scope pattern ruled);
      }

-- A visit with constraints besides, those of these choices.
module _ (P : Protocol) (old new : List Term) (w made : source.Visit) (pattern : Pattern) (rs : List Ruled) (ds : List (DiffOf Id)) (grows : Grows old new) (known : IsVisitIn old w) where
  abbrev at : Visit
  at = visit_at old w

  abbrev besides : List Diff
  besides = map (choice_diff P at.scope pattern) rs

  pub constrained_named : ShowDiffs new ds besides → made ≡ record w { diffs = w.diffs ++ ds } → NamesVisit new made (record at { diffs = at.diffs ++ besides })
  constrained_named show e =
      let below = below_parts old new w grows known in
      let were = leaves_were w.next (flat_map diff_variables at.diffs) below.diffs in
      let whole : source.Visit = record w { diffs = w.diffs ++ ds } in
      subst (λ (m : source.Visit). NamesVisit new m (record at { diffs = at.diffs ++ besides })) (sym e)
      (visit_named new whole (record at { diffs = at.diffs ++ besides }) (scope_later old new w grows known) (hypotheses_later old new w grows known) (messages_later old new w grows known) (sessions_later old new w grows known)
      (ShowDiffs-append new w.diffs ds at.diffs besides (diffs_later old new w grows known) show) refl
      record {
        scope = below.scope;
        hypotheses = below.hypotheses;
        messages = below.messages;
        sessions = below.sessions;
        diffs = leaves_are w.next (flat_map diff_variables (at.diffs ++ besides)) (subst (AllByRecursion (λ x. x < w.next)) (sym (flat_map-append diff_variables at.diffs besides))
            (all_append (λ x. x < w.next) (flat_map diff_variables at.diffs) (flat_map diff_variables besides) were (choices_below P at.scope w.next below.scope pattern rs)));
      }
      known.room)

-- With those of all choices of the expression it is the visit of the else branch.
pub otherwise_named : (old new : List Term) (choosing : Choosing) (made : source.Visit) (ds : List (DiffOf Id)) → Grows old new → IsChoosingIn old choosing
    → ShowDiffs new ds (map (choice_diff (protocol_at choosing.place.now) (visit_at old choosing.visit.now).scope (pattern_of choosing.pattern.now)) (choices_of choosing)) → made ≡ record choosing.visit.now { diffs = choosing.visit.now.diffs ++ ds }
    → (expression : Expression) → choices_of choosing ≡ map (λ c. c.ruled) (choices (protocol_at choosing.place.now) expression)
    → NamesVisit new made (otherwise_visit (protocol_at choosing.place.now) (visit_at old choosing.visit.now) (pattern_of choosing.pattern.now) expression)
otherwise_named old new choosing made ds grows known show e expression are =
    let P = protocol_at choosing.place.now in
    let v = visit_at old choosing.visit.now in
    let pattern = pattern_of choosing.pattern.now in
    let fit : choices_of choosing ≡ filter fits (map (λ c. c.ruled) (choices P expression)) = sym (all_choices_fit old choosing known) ∙ ap (filter fits) are in
    let all : map (choice_diff P v.scope pattern) (choices_of choosing) ≡ choice_diffs P v.scope pattern expression = ap (map (choice_diff P v.scope pattern)) fit in
    subst (λ (l : List Diff). NamesVisit new made (record v { diffs = v.diffs ++ l })) all (constrained_named P old new choosing.visit.now made pattern (choices_of choosing) ds grows known.visit show e)
