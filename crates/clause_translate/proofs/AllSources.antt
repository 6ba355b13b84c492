-- The sources of a translation: the attacker's, those of the visits, and the goal's.
use Rattle.std.proofs.Common.{◌≡◌, ◌∙◌, ℕ, None, Some, Option, List, [], ◌∷◌, ◌++◌, flat_map, option_map, refl, ap, sym, subst, append_assoc}
use Rattle.std.specs.Prelude.{unwrap_or}
use Rattle.spec_calculus.specs.Bounds.{most_visits}
use Rattle.spec_calculus.specs.Syntax.{Secret, SecretNew, Correspondence, Query, Protocol}
use Rattle.spec_clauses.specs.Fact.{Clause}
use Rattle.spec_terms.specs.Term.{Term}
use Rattle.spec_translation.specs.Goal.{goal_raw}
use Rattle.spec_translation.specs.Visit.{first_visit}
use Rattle.spec_translation.specs.Course.{TooLarge}
use Rattle.spec_translation.specs.Visited.{Visited}
use Rattle.spec_attack_runs.specs.Source.{Choice, Action, Idle, Source, sources_of}
use Rattle.spec_attack_runs.specs.Gathered.{Gathers, AreSources, attacker_sources}
use Rattle.clause_sources.specs.Bound.{numbered_in_bound}
use Rattle.clause_sources.specs.Listed.{Tells}
use Rattle.clause_sources.proofs.Telling.{one_deed}
use Rattle.process_visits.specs.declared.listing.Listing.{Listing}
use Rattle.clause_translate.specs.Gathering as gathering
use Rattle.clause_translate.specs.Gathering.{AreBefore}
use Rattle.clause_translate.specs.Jobs.{Once, Ends}
use Rattle.clause_translate.specs.Whole.{IsLargeAt}

-- no visit is too large
pub never_large : (P : Protocol) (new : List Term) (before after : Listing) (large : Option ℕ) (point : ℕ) → ((p : ℕ) → IsLargeAt P p → ⊥) → before.left ≡ most_visits → large ≡ Some point → Ends P (Once P.main 1 first_visit) new before after large → ⊥
never_large P new before after large point small left is ends =
    small point (subst (λ n. Visited P P.main 1 first_visit n (TooLarge point)) left (subst (λ (o : Option ℕ). Ends P (Once P.main 1 first_visit) new before after o) is ends))

-- those of the visits are told
pub never_untold : (P : Protocol) (before after : Listing) (known : List Source) (large : Option ℕ) (found : Option (List Source)) → before.sources ≡ Some known → large ≡ None → found ≡ after.sources → found ≡ None
    → gathering.Tells P P.main 1 first_visit before after large → ⊥
never_untold P before after known large found was is same none tells =
    let gathered = subst (λ (o : Option ℕ). gathering.Tells P P.main 1 first_visit before after o) is tells in
    let clash : Some (known ++ gathered.more) ≡ None = sym (ap (option_map (λ (xs : List Source). xs ++ gathered.more)) was) ∙ (sym gathered.told.sources ∙ (sym same ∙ none)) in
    cc

-- those before the goal's
pub before_goal : (P : Protocol) (before after : Listing) (known made : List Source) → before.sources ≡ Some known → before.choices ≡ [] → known ≡ attacker_sources P → after.sources ≡ Some made → gathering.Tells P P.main 1 first_visit before after None → AreBefore P made
before_goal P before after known made was none is now tells = record {
  visited = tells.more;
  gathers = subst (λ (cs : List Choice). Gathers P P.main 1 cs first_visit tells.more) none tells.gathers;
  are = (let told : Some made ≡ Some (known ++ tells.more) = sym now ∙ (tells.told.sources ∙ ap (option_map (λ (xs : List Source). xs ++ tells.more)) was) in ap (λ (o : Option (List Source)). unwrap_or o []) told)
      ∙ ap (λ (xs : List Source). xs ++ tells.more) is;
}

goal_unconstrained : (P : Protocol) (q : Query) → numbered_in_bound (goal_raw P q) ≡ goal_raw P q
goal_unconstrained P (Secret message phase) = refl
goal_unconstrained P (SecretNew point phase) = refl
goal_unconstrained P (Correspondence left alternatives) = refl

-- and those with the goal's
pub with_goal_told : (P : Protocol) (q : Query) (raw : Clause Term) (before made : List Source) → AreBefore P before → raw ≡ goal_raw P q → Tells before made ((Idle, numbered_in_bound raw) ∷ []) → AreSources P q made
with_goal_told P q raw before made was is tells =
    let goal = sources_of Idle (goal_raw P q) in
    let last : flat_map (λ (deed : Action × Clause Term). sources_of deed.0 deed.1) ((Idle, numbered_in_bound raw) ∷ []) ≡ goal = one_deed Idle (numbered_in_bound raw) ∙ ap (sources_of Idle) (ap numbered_in_bound is ∙ goal_unconstrained P q) in
    (was.visited, was.gathers, tells ∙ ((λ i. was.are i ++ last i) ∙ append_assoc (attacker_sources P) was.visited goal))
