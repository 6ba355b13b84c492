-- The event that the fewest performed ones fit, as events are gone through.
use Rattle.std.proofs.Common.{◌≡◌, ℕ, zero, ◌+◌, ◌<◌, ◌≤◌, true, false, List, length, get_or, map, Option, None, Some, ap, arith}
use Rattle.std.specs.Option.{option_map_or}
use Rattle.spec_calculus.specs.Syntax.{EventTerm}
use Rattle.pi_tree.specs.declared.syntax.Atom.{Atom}
use Rattle.pi_tree.specs.Events.{event_of}
use Rattle.query_violations.specs.Alternatives.{is_found, weight_at, IsLeast, IsFewest}
use Rattle.query_violations.proofs.Searching.{event-at}
use borrow.Author.Count.{below_more}

-- the weight of the event that stands there
pub weight-is : (weight : EventTerm → ℕ) (items : List Atom) (i : ℕ) (x : Atom) → i < length items → x ≡ get_or items i x → weight_at weight (map event_of items) i ≡ weight (event_of x)
weight-is weight items i x within at = ap (λ o. option_map_or weight o zero) (event-at items i x within at)

module _ (weight : EventTerm → ℕ) (found : List ℕ) (es : List EventTerm) (i : ℕ) where
  -- one that is found
  pub pass-found : (best : Option ℕ) → IsFewest weight found es i best → is_found found i ≡ true → IsFewest weight found es (i + 1) best
  pass-found None h is = below_more (λ j. is_found found j ≡ true) i h is
  pass-found (Some b) h is = record {
    within = let within : b < i = h.within in omega arith;
    missing = h.missing;
    least = below_more (λ j. is_found found j ≡ false → weight_at weight es b ≤ weight_at weight es j) i h.least (λ lacks. cc);
  }

  -- the first one that isn't
  pub begin-with : IsFewest weight found es i None → is_found found i ≡ false → IsLeast weight found es (i + 1) i
  begin-with h lacks = record {
    within = omega arith;
    missing = lacks;
    least = below_more (λ j. is_found found j ≡ false → weight_at weight es i ≤ weight_at weight es j) i (λ j below other. let is : is_found found j ≡ true = h j below in cc) (λ same. omega arith);
  }

  -- one with as many candidates as the best so far, or more
  pub keep-best : (b : ℕ) → IsLeast weight found es i b → weight_at weight es b ≤ weight_at weight es i → IsLeast weight found es (i + 1) b
  keep-best b h less = record {
    within = let within : b < i = h.within in omega arith;
    missing = h.missing;
    least = below_more (λ j. is_found found j ≡ false → weight_at weight es b ≤ weight_at weight es j) i h.least (λ lacks. less);
  }

  -- one with fewer
  pub take-better : (b : ℕ) → IsLeast weight found es i b → is_found found i ≡ false → weight_at weight es i < weight_at weight es b → IsLeast weight found es (i + 1) i
  take-better b h lacks less = record {
    within = omega arith;
    missing = lacks;
    least = below_more (λ j. is_found found j ≡ false → weight_at weight es i ≤ weight_at weight es j) i (λ j below other. let more : weight_at weight es b ≤ weight_at weight es j = h.least j below other in omega arith) (λ same. omega arith);
  }

pub ruleset of_choice = (weight-is, pass-found, begin-with, keep-best, take-better)
