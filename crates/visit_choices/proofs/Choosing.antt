-- Choices of a `let`: how each goes on.
use Rattle.std.proofs.Common.{◌≡◌, ◌+◌, arith, Bool, true, false, Option, Some, None, List, [], ◌∷◌, ◌++◌, get_or, refl, ap, sym, subst, ◌∙◌}
use Rattle.std.specs.Prelude.{MatchOption, MatchBool, IfSome}
use Rattle.std.proofs.lemmas.List.{append-nil}
use Rattle.spec_calculus.specs.Syntax.{Pattern, Ruled, Protocol}
use Rattle.spec_terms.specs.Term.{Term, Subst}
use Rattle.spec_terms.specs.Binding.{resolved}
use Rattle.spec_terms.proofs.Resolve.{resolved-most_general}
use Rattle.spec_clauses.specs.Variables.{IsBelow, AreBelow}
use Rattle.spec_clauses.proofs.Lists.{all_first, all_second}
use Rattle.spec_choice_walks.specs.Stage.{arguments_of_row, sides_of_row}
use Rattle.term_tree.specs.Bank.{tree_at, Names}
use Rattle.term_tree.specs.declared.bank.Id.{Id}
use Rattle.unify_match.specs.declared.bound.Bound.{Bound}
use Rattle.unify_match.specs.Outcome.{Unified, NoUnifier}
use Rattle.unify_match.specs.Seen.{seen, IsReady}
use Rattle.unify_match.proofs.SeenLemmas.{IsReady-sound}
use Rattle.spec_translation.specs.Conversion.{Scope, pattern_term}
use Rattle.spec_translation.specs.Visit.{Visit, IsFresh, visit_under, visit_terms, is_large_visit}
use Rattle.spec_translation.specs.Choice.{Choice, with_pattern, choice_under, IsUnified, ruled_choice, ruled_terms, GoesOn, ChoiceGoesOn}
use Rattle.clause_form.specs.Seen.{NameTerms}
use Rattle.unified_visits.specs.declared.visit.Visit as source
use Rattle.visit_choices.specs.declared.ways.Way.{Way}
use Rattle.visit_choices.specs.declared.ways.Way.TheVariants as ways
use Rattle.visit_choices.specs.declared.row.Row.{Row}
use Rattle.unified_visits.specs.Solving.{AreRowsSolved, AreSolved, AreUnsolvable, HasBelow}
use Rattle.visit_choices.specs.RuledRows.{IsRowOf}
use Rattle.unified_visits.specs.Visits.{visit_at, IsVisitIn, NamesVisit}
use Rattle.unified_visits.specs.Patterns.{WithPattern}
use Rattle.visit_choices.specs.Ways.{AreWaysBy}
use Rattle.unified_visits.proofs.Named.{below_more, all_below_more}
use Rattle.visit_choices.proofs.Solving.{all_solved, last_unsolvable, solutions_below}

-- where there is no unifier
pub goes_nowhere : (c : Choice) → AreUnsolvable c.arguments c.sides c.value c.target → GoesOn c None
goes_nowhere c never = never

-- where there is one
pub goes_there : (all : List Term) (pairs : List Bound) (c : Choice) → AreSolved all pairs c.arguments c.sides c.value c.target → GoesOn c (Some (visit_under (resolved (seen all pairs)) c.visit))
goes_there all pairs c solved =
    (resolved (seen all pairs), resolved-most_general (λ r. IsUnified (choice_under r c)) (seen all pairs) (IsReady-sound all pairs solved.ready) (λ s. ((solved.solutions s).0, (solved.solutions s).1)), refl)

-- the way that the code tells of it
module _ (Tells : source.Visit → Visit → Type 0) (new : List Term) (u w : Visit) (large_as : is_large_visit u ≡ is_large_visit w) (told : (made : source.Visit) → NamesVisit new made u → Tells made w) where
  pub way_is : (found : Option source.Visit) (way : Way) → MatchOption found (is_large_visit u ≡ true) (λ made. NamesVisit new made u)
      → MatchOption found (way ≡ ways.Large) (λ made. MatchBool (is_large_visit (visit_at new made)) (way ≡ ways.Large) (way ≡ ways.Visit made)) → AreWaysBy Tells way (Some w ∷ [])
  way_is None way large is = subst (λ x. AreWaysBy Tells x (Some w ∷ [])) (sym is) (w, refl, sym large_as ∙ large)
  way_is (Some made) way names is = go (is_large_visit (visit_at new made)) refl is where
    large_at : (b : Bool) → is_large_visit (visit_at new made) ≡ b → is_large_visit w ≡ b
    large_at b e = sym large_as ∙ (sym (ap is_large_visit names.is) ∙ e)

    go : (b : Bool) → is_large_visit (visit_at new made) ≡ b → MatchBool b (way ≡ ways.Large) (way ≡ ways.Visit made) → AreWaysBy Tells way (Some w ∷ [])
    go true e h = subst (λ x. AreWaysBy Tells x (Some w ∷ [])) (sym h) (w, refl, large_at true e)
    go false e h = subst (λ x. AreWaysBy Tells x (Some w ∷ [])) (sym h) (w, refl, large_at false e, told made names)

-- a row of one part is a choice, whose pattern's term was made with a visit that is the same but for its constraints
module _ (P : Protocol) (w : source.Visit) (v : Visit) (pattern : Pattern) (ruled : Ruled) (all : List Term) (row : Row) (is : IsRowOf P w v (ruled ∷ []) all row) (u : Visit) (same : u ≡ record v { diffs = u.diffs }) (made : source.Visit) (target : Id) (bound : WithPattern P u pattern (row.next + 1) all made target) where
  abbrev choice : Choice
  choice = ruled_choice P v pattern ruled w.next bound.at

  scopes : u.scope ≡ v.scope
  scopes = ap (λ (x : Visit). x.scope) same

  visit_below : AreBelow w.next (visit_terms v)
  visit_below = subst (λ (x : Visit). AreBelow w.next (visit_terms x)) is.visit.is is.visit.known.below

  fresh : IsFresh v pattern bound.at
  fresh = record { is_new = all_below_more w.next bound.at.base (omega (arith, bound.base, is.next_is)) (visit_terms v) visit_below; from_first = bound.is_fresh.from_first }

  target_named : Names all target choice.target
  target_named = subst (λ (s : Scope). Names all target (pattern_term P s bound.at pattern)) scopes bound.term

  target_below : IsBelow made.next choice.target
  target_below = subst (λ (s : Scope). IsBelow made.next (pattern_term P s bound.at pattern)) scopes bound.below

  -- the visit that goes on under a unifier, and the one that was made under it
  module _ (s : Subst) where
    abbrev went : Visit
    went = visit_under s (with_pattern v pattern bound.at)

    pub large_as : is_large_visit (visit_under s (visit_at all made)) ≡ is_large_visit went
    large_as = ap (λ (x : Visit). is_large_visit (visit_under s x)) bound.visit.is ∙ ap (λ (x : Visit). is_large_visit (visit_under s (with_pattern x pattern bound.at))) same

    pub went_as : u ≡ v → visit_under s (visit_at all made) ≡ went
    went_as whole = ap (visit_under s) (bound.visit.is ∙ ap (λ (x : Visit). with_pattern x pattern bound.at) whole)

  arguments_are : arguments_of_row P v.scope w.next (ruled ∷ []) ≡ choice.arguments
  arguments_are = append-nil choice.arguments

  sides_are : sides_of_row P v.scope w.next (ruled ∷ []) ≡ choice.sides
  sides_are = append-nil choice.sides

  solved : AreRowsSolved all row.binds.pairs choice.arguments choice.sides
  solved = subst (λ (l : List Term). AreRowsSolved all row.binds.pairs l choice.sides) arguments_are (subst (λ (l : List Term). AreRowsSolved all row.binds.pairs (arguments_of_row P v.scope w.next (ruled ∷ [])) l) sides_are is.solved)

  below : AreBelow (row.next + 1) (ruled_terms choice)
  below = subst (λ (l : List Term). AreBelow (row.next + 1) l) (λ i. choice.value ∷ (arguments_are i ++ sides_are i)) is.below

  pub chosen : (out : Option Visit) → GoesOn choice out → ChoiceGoesOn P v pattern ruled out
  chosen out goes = record {
    base = w.next;
    at = bound.at;
    is_new = visit_below;
    is_apart = subst (λ n. AreBelow n (ruled_terms choice)) (sym bound.base) below;
    is_fresh = fresh;
    goes_on = goes;
  }

  module _ (value : Id) (named : Names all value choice.value) where
    pub chosen_nowhere : NoUnifier all row.binds.pairs (tree_at all value) (tree_at all target) → ChoiceGoesOn P v pattern ruled None
    chosen_nowhere never =
        chosen None (goes_nowhere choice (last_unsolvable all row.binds.pairs choice.arguments choice.sides choice.value choice.target solved
        (subst (λ (t : Term). NoUnifier all row.binds.pairs t choice.target) named.is (subst (λ (t : Term). NoUnifier all row.binds.pairs (tree_at all value) t) target_named.is never))))

    module _ (pairs : List Bound) (ready : IsReady all pairs) (unified : Unified all row.binds.pairs pairs (tree_at all value) (tree_at all target)) where
      whole : AreSolved all pairs choice.arguments choice.sides choice.value choice.target
      whole =
          all_solved all row.binds.pairs pairs choice.arguments choice.sides choice.value choice.target solved ready
          (subst (λ (t : Term). Unified all row.binds.pairs pairs t choice.target) named.is (subst (λ (t : Term). Unified all row.binds.pairs pairs (tree_at all value) t) target_named.is unified))

      pub chosen_below : HasBelow (resolved (seen all pairs)) made.next
      chosen_below =
          let up = bound.up in
          let rules = all_below_more (row.next + 1) made.next up (choice.arguments ++ choice.sides) below.1 in
          solutions_below all pairs choice.arguments choice.sides choice.value choice.target made.next whole (all_first (IsBelow made.next) choice.arguments choice.sides rules) (all_second (IsBelow made.next) choice.arguments choice.sides rules)
          (below_more (row.next + 1) made.next up choice.value below.0) target_below

      pub chosen_there : ChoiceGoesOn P v pattern ruled (Some (went (resolved (seen all pairs))))
      chosen_there = chosen (Some (went (resolved (seen all pairs)))) (goes_there all pairs choice whole)

-- the only part of a row
pub named_alone : (all : List Term) (ids : List Id) (t : Term) (value : Id) → NameTerms all ids (t ∷ []) → value ≡ get_or ids 0 value → Names all value t
named_alone all [] t value names is = absurd (let none = names.are in cc)
named_alone all (id ∷ ids) t value names is = let same : tree_at all id ≡ t = (let are = names.are in cc) in subst (λ (x : Id). Names all x t) (sym is) record { known = names.known.0; is = same }

-- a visit that was made is known
pub made_known : (new : List Term) (w : Visit) (A : Type 0) (found : Option source.Visit) → MatchOption found A (λ made. NamesVisit new made w) → IfSome found (λ made. IsVisitIn new made)
made_known new w A None h = tt
made_known new w A (Some made) h = h.known
