-- Choices of a `let` that are passed, one after the other.
use Rattle.std.proofs.Common.{◌≡◌, ◌∙◌, ℕ, zero, suc, ◌+◌, ◌<◌, ◌≤◌, cond, Bool, true, false, ◌||◌, Option, Some, None, List, [], ◌∷◌, ◌++◌, length, map, take, drop, refl, ap, sym, subst, arith}
use Rattle.std.specs.List.{AllByRecursion, count_by}
use Rattle.std.specs.Option.{is_some, option_map_or}
use Rattle.std.proofs.lemmas.List.{length-drop, take_all}
use Rattle.std.proofs.lemmas.List.Sums.{sum_by-cons, sum_by-append}
use Rattle.spec_calculus.specs.Syntax.{Pattern, Ruled, Protocol}
use Rattle.spec_terms.specs.Term.{Term}
use Rattle.pi_tree.specs.Patterns.{pattern_of}
use Rattle.spec_translation.specs.Visit.{Visit, is_large_visit}
use Rattle.spec_translation.specs.Choice.{ChoiceGoesOn, EachGoesOn}
use Rattle.spec_translation.specs.Visited.{some_large}
use Rattle.spec_choice_walks.proofs.Counting.{counted}
use Rattle.spec_choice_walks.proofs.Ways.{each-append}
use Rattle.visit_choices.specs.declared.choice.Choosing.{Choosing}
use Rattle.unified_visits.specs.declared.visit.Visit as source
use Rattle.visit_choices.specs.declared.row.Walk.{Walk}
use Rattle.visit_choices.specs.declared.ways.Looked.{Looked}
use Rattle.visit_choices.specs.declared.ways.Passed.{Passed}
use Rattle.visit_choices.specs.declared.ways.Way.{Way}
use Rattle.visit_choices.specs.declared.ways.Way.TheVariants as ways
use Rattle.unified_visits.specs.Places.{protocol_at}
use Rattle.unified_visits.specs.Visits.{visit_at}
use Rattle.visit_choices.specs.RuledRows.{IsRowOf}
use Rattle.visit_choices.specs.Ways.{is_large_way, going_way, AreWaysBy, PassesBy, AreCut}
use Rattle.visit_choices.specs.Walks.{instructions_of, choices_of, IsChoosingIn, IsAlong, LooksAt, HasChoices}
use Rattle.visit_choices.proofs.Tests.{any-append}

take_none : {A : Type 0} (xs : List A) (k : ℕ) → xs ≡ [] → take k xs ≡ []
take_none [] zero e = refl
take_none [] (suc k) e = refl
take_none (x ∷ xs) k e = absurd (let same = e in cc)

-- some items, and some behind them
pub take_on : {A : Type 0} (m n : ℕ) (xs : List A) → take (m + n) xs ≡ take m xs ++ take n (drop m xs)
take_on zero n xs = let same : 0 + n ≡ n = omega arith in ap (λ k. take k xs) same
take_on (suc m) n [] = take_none [] (suc m + n) refl ∙ sym (take_none [] n refl)
take_on (suc m) n (x ∷ xs) = let same : suc m + n ≡ suc (m + n) = omega arith in ap (λ k. take k (x ∷ xs)) same ∙ ap (λ l. x ∷ l) (take_on m n xs)

-- at the end of the instructions one part is left, which is the choice
pub record IsAtEnd (P : Protocol) (w : source.Visit) (v : Visit) (rs : List Ruled) (all : List Term) (walk : Walk) : Type 0 where
  pub ruled : Ruled
  pub row : IsRowOf P w v (ruled ∷ []) all walk.row
  pub more : List Ruled
  pub are : rs ≡ ruled ∷ more

module _ (P : Protocol) (w : source.Visit) (v : Visit) (rs : List Ruled) (all : List Term) (walk : Walk) where
  pub at_end : IsAlong P w v [] rs all walk → IsAtEnd P w v rs all walk
  at_end was = go was.parts was.fit.one was.row was.are where
    first : walk.number ≡ 0
    first = omega (arith, was.within, was.left)

    go : (parts : List Ruled) → length parts ≡ 1 → IsRowOf P w v parts all walk.row → rs ≡ drop walk.number parts ++ was.more → IsAtEnd P w v rs all walk
    go [] one row are = absurd (omega (arith, one))
    go (ruled ∷ []) one row are = record { ruled = ruled; row = row; more = was.more; are = are ∙ ap (λ k. drop k (ruled ∷ []) ++ was.more) first }
    go (ruled ∷ other ∷ parts) one row are = absurd (omega (arith, one))

module _ (P : Protocol) (v : Visit) (pattern : Pattern) (rs : List Ruled) (Tells : source.Visit → Visit → Type 0) where
  pub one_passes : (ruled : Ruled) (more : List Ruled) (way : Way) (out : Option Visit) → rs ≡ ruled ∷ more → ChoiceGoesOn P v pattern ruled out → AreWaysBy Tells way (out ∷ []) → PassesBy Tells P v pattern rs (record { count = 1; way = way })
  one_passes ruled more way out are goes is = record {
    some = omega arith;
    within = omega (arith, ap length are);
    outs = out ∷ [];
    go = subst (λ (l : List Ruled). EachGoesOn P v pattern (take 1 l) (out ∷ [])) (sym are) (out, [], goes, refl, refl);
    ways = is;
  }

  -- choices that go nowhere
  all_none : (xs : List Ruled) → AllByRecursion (λ (out : Option Visit). out ≡ None) (map (λ r. None) xs)
  all_none [] = tt
  all_none (x ∷ xs) = (refl, all_none xs)

  pub cut_passes : (count : ℕ) → AreCut P v pattern rs count → PassesBy Tells P v pattern rs (record { count = count; way = ways.Nowhere })
  cut_passes count cut = record {
    some = cut.some;
    within = cut.within;
    outs = map (λ r. None) (take count rs);
    go = cut.go;
    ways = all_none (take count rs);
  }

  -- where they go nowhere, nothing is told of a visit
  pub passes_back : (Other : source.Visit → Visit → Type 0) (passed : Passed) → passed.way ≡ ways.Nowhere → PassesBy Tells P v pattern rs passed → PassesBy Other P v pattern rs passed
  passes_back Other passed nowhere p = record {
    some = p.some;
    within = p.within;
    outs = p.outs;
    go = p.go;
    ways = subst (λ (x : Way). AreWaysBy Other x p.outs) (sym nowhere) (subst (λ (x : Way). AreWaysBy Tells x p.outs) nowhere p.ways);
  }

  -- what else is told of the visit that goes on
  ways_told : (Other : source.Visit → Visit → Type 0) → ((made : source.Visit) (x : Visit) → Tells made x → Other made x) → (way : Way) (outs : List (Option Visit)) → AreWaysBy Tells way outs → AreWaysBy Other way outs
  ways_told Other told ways.Nowhere outs is = is
  ways_told Other told ways.Large outs is = is
  ways_told Other told (ways.Visit made) outs is = (is.0, is.1, is.2, told made is.0 is.3)

  pub passes_told : (Other : source.Visit → Visit → Type 0) (passed : Passed) → ((made : source.Visit) (x : Visit) → Tells made x → Other made x) → PassesBy Tells P v pattern rs passed → PassesBy Other P v pattern rs passed
  passes_told Other passed told p = record {
    some = p.some;
    within = p.within;
    outs = p.outs;
    go = p.go;
    ways = ways_told Other told passed.way p.outs p.ways;
  }

  none_large : (outs : List (Option Visit)) → AllByRecursion (λ out. out ≡ None) outs → some_large outs ≡ false
  none_large [] h = refl
  none_large (out ∷ outs) h = ap (λ (o : Option Visit). option_map_or is_large_visit o false || some_large outs) h.0 ∙ none_large outs h.1

  alone : (x : Visit) (outs : List (Option Visit)) (b : Bool) → outs ≡ Some x ∷ [] → is_large_visit x ≡ b → some_large outs ≡ b
  alone x outs b are is = ap some_large are ∙ (or_none (is_large_visit x) ∙ is) where
    or_none : (a : Bool) → (a || false) ≡ a
    or_none true = refl
    or_none false = refl

  -- whether one of those that are passed is too large
  pub way_large : (way : Way) (outs : List (Option Visit)) → AreWaysBy Tells way outs → some_large outs ≡ is_large_way way
  way_large ways.Nowhere outs is = none_large outs is
  way_large ways.Large outs is = alone is.0 outs true is.1 is.2
  way_large (ways.Visit made) outs is = alone is.0 outs false is.1 is.2

  -- how many of them go on
  none_going : (outs : List (Option Visit)) → AllByRecursion (λ out. out ≡ None) outs → count_by is_some outs ≡ 0
  none_going [] h = refl
  none_going (out ∷ outs) h =
      let first : ◌≡◌ {A = ℕ} (cond (is_some out) 1 0) 0 = ap (λ (o : Option Visit). cond (is_some o) 1 0) h.0 in
      omega (arith, sum_by-cons (λ (o : Option Visit). cond (is_some o) 1 0) out outs, first, none_going outs h.1)

  pub way_going : (way : Way) (outs : List (Option Visit)) → AreWaysBy Tells way outs → count_by is_some outs ≡ going_way way
  way_going ways.Nowhere outs is = none_going outs is
  way_going ways.Large outs is = ap (count_by is_some) is.1
  way_going (ways.Visit made) outs is = ap (count_by is_some) is.1

  one_going : (way : Way) → going_way way ≤ 1
  one_going ways.Nowhere = omega arith
  one_going ways.Large = omega arith
  one_going (ways.Visit made) = omega arith

-- there are as many choices as the instructions leave
pub choices_counted : (all : List Term) (choosing : Choosing) → IsChoosingIn all choosing → length (choices_of choosing) ≡ choosing.count
choices_counted all choosing known = counted (protocol_at choosing.place.now) (instructions_of choosing) [] known.fit.one ∙ sym known.count

-- how far the choices have been looked at
pub record AreLooked (all : List Term) (choosing : Choosing) (number : ℕ) (large : Bool) (going : ℕ) : Type 0 where
  pub within : number ≤ choosing.count
  pub few : going ≤ number
  pub outs : List (Option Visit)
  pub go : EachGoesOn (protocol_at choosing.place.now) (visit_at all choosing.visit.now) (pattern_of choosing.pattern.now) (take number (choices_of choosing)) outs
  pub large_is : some_large outs ≡ large
  pub going_is : count_by is_some outs ≡ going

module _ (old : List Term) (choosing : Choosing) (known : IsChoosingIn old choosing) where
  abbrev P : Protocol
  P = protocol_at choosing.place.now

  abbrev v : Visit
  v = visit_at old choosing.visit.now

  abbrev pattern : Pattern
  pattern = pattern_of choosing.pattern.now

  abbrev rs : List Ruled
  rs = choices_of choosing

  -- what was passed, without the visit
  module _ (Tells : source.Visit → Visit → Type 0) where
    pub looks_at : (number : ℕ) (passed : Passed) (looked : Looked) → number < choosing.count → looked.large ≡ is_large_way passed.way → looked.going ≡ going_way passed.way → PassesBy Tells P v pattern (drop number rs) passed → LooksAt old choosing number passed.count looked
    looks_at number passed looked low large going p = record {
      some = p.some;
      within = omega (arith, p.within, length-drop number rs, choices_counted old choosing known, low);
      outs = p.outs;
      go = p.go;
      large = way_large P v pattern rs Tells passed.way p.outs p.ways ∙ sym large;
      going = way_going P v pattern rs Tells passed.way p.outs p.ways ∙ sym going;
      few = omega (arith, going, one_going P v pattern rs Tells passed.way, p.some);
    }

  pub none_looked : AreLooked old choosing 0 false 0
  none_looked = record { within = omega arith; few = omega arith; outs = []; go = refl; large_is = refl; going_is = refl }

  pub more_looked : (number count : ℕ) (large : Bool) (going : ℕ) (more : Looked) → AreLooked old choosing number large going → LooksAt old choosing number count more → AreLooked old choosing (number + count) (large || more.large) (going + more.going)
  more_looked number count large going more was next =
      let first = was.large_is in
      let second = next.large in
      record {
        within = next.within;
        few = omega (arith, was.few, next.few);
        outs = was.outs ++ next.outs;
        go = subst (λ (l : List Ruled). EachGoesOn P v pattern l (was.outs ++ next.outs)) (sym (take_on number count rs)) (each-append P v pattern (take number rs) (take count (drop number rs)) was.outs next.outs was.go next.go);
        large_is = any-append (λ out. option_map_or is_large_visit out false) was.outs next.outs ∙ (λ i. first i || second i);
        going_is = omega (arith, sum_by-append (λ (o : Option Visit). cond (is_some o) 1 0) was.outs next.outs, was.going_is, next.going);
      }

  pub all_looked : (number : ℕ) (looked : Looked) → choosing.count ≤ number → AreLooked old choosing number looked.large looked.going → HasChoices old choosing looked
  all_looked number looked past was =
      let long : length rs ≤ number = omega (arith, past, choices_counted old choosing known) in
      record {
        outs = was.outs;
        go = subst (λ (l : List Ruled). EachGoesOn P v pattern l was.outs) (take_all number rs long) was.go;
        large = was.large_is;
        going = was.going_is;
      }
