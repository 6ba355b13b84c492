-- Whether a `get` goes on with a visit that is too large, by how it goes on.
use Rattle.std.proofs.Common.{◌≡◌, Bool, true, false, ◌||◌, Option, List, [], ◌∷◌, ◌∙◌, ap}
use Rattle.spec_terms.specs.Term.{Term}
use Rattle.spec_translation.specs.Visit.{Visit}
use Rattle.spec_translation.specs.Visited.{some_large}
use Rattle.visit_choices.specs.declared.ways.Way.{Way}
use Rattle.visit_choices.specs.declared.ways.Way.TheVariants as ways
use Rattle.visit_choices.specs.Ways.{is_large_way}
use Rattle.process_visits.specs.Entries.{IsEntryWay}
use Rattle.clause_translate.specs.Jobs.{AreSmallWays}

pub large_way : (all : List Term) (way : Way) (large : Bool) (out : Option Visit) → is_large_way way ≡ true → IsEntryWay all large out way → (large || some_large (out ∷ [])) ≡ true
large_way all ways.Nowhere large out e is = absurd (cc)
large_way all ways.Large large out e is = is
large_way all (ways.Visit made) large out e is = absurd (cc)

pub record IsSmallWay (all : List Term) (way : Way) (large : Bool) (out : Option Visit) : Type 0 where
  pub is : (large || some_large (out ∷ [])) ≡ false
  pub ways : AreSmallWays all way (out ∷ [])

pub small_way : (all : List Term) (way : Way) (large : Bool) (out : Option Visit) → is_large_way way ≡ false → IsEntryWay all large out way → IsSmallWay all way large out
small_way all ways.Nowhere large out e is =
    record { is = ap (λ b. b || some_large (out ∷ [])) is.0 ∙ ap (λ o. some_large (o ∷ [])) is.1; ways = (is.1, tt) }
small_way all ways.Large large out e is = absurd (cc)
small_way all (ways.Visit made) large out e is = record {
  is = ap (λ b. b || some_large (out ∷ [])) is.0 ∙ (ap (λ o. some_large (o ∷ [])) is.1 ∙ ap (λ b. b || false) is.2);
  ways = ap (λ o. o ∷ []) is.1;
}
