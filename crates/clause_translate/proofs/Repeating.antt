-- A process that is visited once for each choice of a `let` that goes on.
use Rattle.std.proofs.Common.{◌≡◌, ◌∙◌, ◌⊎◌, inl, inr, ℕ, ◌+◌, ◌≤◌, Bool, true, false, ◌||◌, Option, Some, None, List, [], ◌∷◌, ◌++◌, length, map, take, drop, refl, ap, sym, subst}
use Rattle.std.specs.List.{AllByRecursion}
use Rattle.std.specs.Option.{option_map_or}
use Rattle.std.proofs.lemmas.List.{take_all, take-append-drop}
use Rattle.spec_calculus.specs.Syntax.{Process, Pattern, Expression, Ruled, Protocol}
use Rattle.spec_calculus.specs.Choices.{choices}
use Rattle.spec_terms.specs.Term.{Term}
use Rattle.term_tree.specs.Bank.{Grows}
use Rattle.term_tree.proofs.BankLaws.{Grows_refl}
use Rattle.spec_translation.specs.Visit.{Visit, is_large_visit}
use Rattle.spec_translation.specs.Choice.{EachGoesOn}
use Rattle.spec_translation.specs.Course.{Outcome, Done, Finished, preceded}
use Rattle.spec_translation.specs.Visited.{some_large, EachThen, Visited}
use Rattle.spec_translation.proofs.Lets.{large_alike}
use Rattle.spec_choice_walks.proofs.Ways.{each-append, each-drop}
use Rattle.process_visits.specs.declared.listing.Listing.{Listing}
use Rattle.visit_choices.specs.declared.ways.Passed.{Passed}
use Rattle.visit_choices.specs.declared.ways.Way.{Way}
use Rattle.visit_choices.specs.declared.ways.Way.TheVariants as ways
use Rattle.unified_visits.specs.Visits.{NamesVisit}
use Rattle.visit_choices.specs.Ways.{AreWays, Passes}
use Rattle.process_visits.proofs.Courses.{each_append, each_join, each_more, each_ends, preceded_none}
use Rattle.process_visits.proofs.Listings.{lists_none}
use Rattle.visit_choices.proofs.Passing.{take_on, way_large}
use Rattle.visit_choices.proofs.Tests.{any-append}
use Rattle.clause_translate.specs.Jobs.{Once, Each, IsDone, Ends, AreSmallWays, EndsEach}
use Rattle.clause_translate.proofs.Visiting.{ends_as, ends_behind}

-- where no visit goes on, and none is too large
pub nowhere_of : (all : List Term) (way : Way) (outs : List (Option Visit)) → (way ≡ ways.Nowhere) ⊎ (way ≡ ways.Large) → AreSmallWays all way outs → AllByRecursion (λ out. out ≡ None) outs
nowhere_of all way outs (inl e) h = subst (λ (x : Way). AreSmallWays all x outs) e h
nowhere_of all way outs (inr e) h = absurd (subst (λ (x : Way). AreSmallWays all x outs) e h)

-- a visit that goes on, or none
module _ (P : Protocol) (process : Process) (point : ℕ) where
  abbrev R : Visit → ℕ → Outcome → Type 0
  R w left out = Visited P process point w left out

  nowhere_run : (outs : List (Option Visit)) (left : ℕ) → AllByRecursion (λ out. out ≡ None) outs → EachThen R outs Finished left (Done [] left)
  nowhere_run [] left h = refl
  nowhere_run (out ∷ outs) left h = subst (λ (o : Option Visit). EachThen R (o ∷ outs) Finished left (Done [] left)) (sym h.0) (nowhere_run outs left h.1)

  pub nowhere_ends : (all : List Term) (outs : List (Option Visit)) (listing : Listing) → AllByRecursion (λ out. out ≡ None) outs → Ends P (Each process point outs) all listing listing None
  nowhere_ends all outs listing h = record { more = []; runs = nowhere_run outs listing.left h; lists = lists_none all listing }

  pub visit_ends : (w : Visit) (outs : List (Option Visit)) (all : List Term) (before after : Listing) (large : Option ℕ) → outs ≡ Some w ∷ [] → Ends P (Once process point w) all before after large → Ends P (Each process point outs) all before after large
  visit_ends w outs all before after large is h =
      ends_as P (Once process point w) (Each process point outs) all before after large
      (λ out run. subst (λ (os : List (Option Visit)). EachThen R os Finished before.left out) (sym is)
      (subst (λ (o : Outcome). EachThen R (Some w ∷ []) Finished before.left o) (preceded_none out) (each_more R [] w before.left before.left [] out refl run))) h

-- how far the choices have been visited
pub record AreVisited (P : Protocol) (v : Visit) (pattern : Pattern) (rs : List Ruled) (process : Process) (point : ℕ) (old now : List Term) (before listing : Listing) (number : ℕ) : Type 0 where
  pub grows : Grows old now
  pub outs : List (Option Visit)
  pub go : EachGoesOn P v pattern (take number rs) outs
  pub done : IsDone P (Each process point outs) now before listing

pub none_visited : (P : Protocol) (v : Visit) (pattern : Pattern) (rs : List Ruled) (process : Process) (point : ℕ) (old : List Term) (before : Listing) → AreVisited P v pattern rs process point old old before before 0
none_visited P v pattern rs process point old before = record { grows = Grows_refl old; outs = []; go = refl; done = record { more = []; runs = refl; lists = lists_none old before } }

-- choices that are all small
module _ (P : Protocol) (v : Visit) (pattern : Pattern) (rs : List Ruled) (e : Expression) (are : rs ≡ map (λ c. c.ruled) (choices P e)) (all : List (Option Visit)) (all_go : EachGoesOn P v pattern rs all) (all_small : some_large all ≡ false) where
  small_of : (outs : List (Option Visit)) → EachGoesOn P v pattern rs outs → some_large outs ≡ false
  small_of outs go = large_alike P v pattern e outs all (subst (λ (l : List Ruled). EachGoesOn P v pattern l outs) are go) (subst (λ (l : List Ruled). EachGoesOn P v pattern l all) are all_go) ∙ all_small

  -- those that were passed, and the others as they were found before
  together : (number : ℕ) (outs : List (Option Visit)) → EachGoesOn P v pattern (take number rs) outs → EachGoesOn P v pattern rs (outs ++ drop number all)
  together number outs go =
      subst (λ (l : List Ruled). EachGoesOn P v pattern l (outs ++ drop number all)) (take-append-drop number rs)
      (each-append P v pattern (take number rs) (drop number rs) outs (drop number all) go (each-drop P v pattern number rs all all_go))

  go_on : (number count : ℕ) (first next : List (Option Visit)) → EachGoesOn P v pattern (take number rs) first → EachGoesOn P v pattern (take count (drop number rs)) next → EachGoesOn P v pattern (take (number + count) rs) (first ++ next)
  go_on number count first next a b = subst (λ (l : List Ruled). EachGoesOn P v pattern l (first ++ next)) (sym (take_on number count rs)) (each-append P v pattern (take number rs) (take count (drop number rs)) first next a b)

  or_second : (a b c : Bool) → ((a || b) || c) ≡ false → b ≡ false
  or_second true b c h = absurd (let same = h in cc)
  or_second false true c h = absurd (let same = h in cc)
  or_second false false c h = refl

  -- so is what is passed
  next_small : (number count : ℕ) (first next : List (Option Visit)) → EachGoesOn P v pattern (take number rs) first → EachGoesOn P v pattern (take count (drop number rs)) next → some_large next ≡ false
  next_small number count first next a b =
      let last = drop (number + count) all in
      let small = small_of ((first ++ next) ++ last) (together (number + count) (first ++ next) (go_on number count first next a b)) in
      let test : Option Visit → Bool = λ out. option_map_or is_large_visit out false in
      let front = any-append test first next in
      or_second (some_large first) (some_large next) (some_large last) (sym (any-append test (first ++ next) last ∙ ap (λ b. b || some_large last) front) ∙ small)

  ways_small : (bank : List Term) (way : Way) (outs : List (Option Visit)) → AreWays bank way outs → some_large outs ≡ false → AreSmallWays bank way outs
  ways_small bank ways.Nowhere outs is small = is
  ways_small bank ways.Large outs is small = absurd (let same : true ≡ false = sym (way_large P v pattern rs (NamesVisit bank) ways.Large outs is) ∙ small in cc)
  ways_small bank (ways.Visit made) outs is small = is.1 ∙ ap (λ (x : Visit). Some x ∷ []) (sym is.3.is)

  -- one more is passed, and at the end
  module _ (process : Process) (point : ℕ) (old : List Term) (before : Listing) where
    module _ (now : List Term) (listing : Listing) (number : ℕ) (was : AreVisited P v pattern rs process point old now before listing number) (mid next : List Term) (passed : Passed) (passes : Passes P v pattern (drop number rs) mid passed) (grows : Grows now next) (grown : Grows old next) (after : Listing) where
      pub passed_small : AreSmallWays mid passed.way passes.outs
      passed_small = ways_small mid passed.way passes.outs passes.ways (next_small number passed.count was.outs passes.outs was.go passes.go)

      behind : (large : Option ℕ) → Ends P (Each process point passes.outs) next listing after large → Ends P (Each process point (was.outs ++ passes.outs)) next before after large
      behind large h =
          ends_behind P (Each process point passes.outs) (Each process point (was.outs ++ passes.outs)) now next before listing after was.done.more large grows was.done.lists
          (λ out run. each_append (R P process point) was.outs passes.outs Finished before.left (preceded was.done.more out) (each_join (R P process point) was.outs (EachThen (R P process point) passes.outs Finished) before.left listing.left was.done.more out was.done.runs run)) h

      pub more_visited : Ends P (Each process point passes.outs) next listing after None → AreVisited P v pattern rs process point old next before after (number + passed.count)
      more_visited h = record { grows = grown; outs = was.outs ++ passes.outs; go = go_on number passed.count was.outs passes.outs was.go passes.go; done = behind None h }

      pub large_visited : (q : ℕ) → Ends P (Each process point passes.outs) next listing after (Some q) → EndsEach P v pattern rs process point next before after (Some q)
      large_visited q h =
          let last = drop (number + passed.count) all in
          let go = together (number + passed.count) (was.outs ++ passes.outs) (go_on number passed.count was.outs passes.outs was.go passes.go) in
          record {
            outs = (was.outs ++ passes.outs) ++ last;
            go = go;
            small = small_of ((was.outs ++ passes.outs) ++ last) go;
            ends = each_ends (R P process point) (was.outs ++ passes.outs) last before.left q (behind (Some q) h);
          }

    pub all_visited : (now : List Term) (listing : Listing) (number : ℕ) → AreVisited P v pattern rs process point old now before listing number → length rs ≤ number → EndsEach P v pattern rs process point now before listing None
    all_visited now listing number was past =
        let go = subst (λ (l : List Ruled). EachGoesOn P v pattern l was.outs) (take_all number rs past) was.go in
        record { outs = was.outs; go = go; small = small_of was.outs go; ends = was.done }
