-- What a process tells of sources that is visited once for each choice of a `let` that goes on.
use Rattle.std.proofs.Common.{◌≡◌, ◌∙◌, ℕ, zero, suc, ◌+◌, ◌-◌, ◌≤◌, min, Option, Some, None, List, [], ◌∷◌, ◌++◌, length, map, take, drop, refl, ap, sym, subst, append_assoc, append-nil, arith}
use Rattle.std.specs.List.{AllByRecursion, drop-map}
use Rattle.std.proofs.lemmas.List.{take_all, nil_from_length, length-take, length-drop, length-map}
use Rattle.std.proofs.lemmas.Simd.{map-map}
use Rattle.spec_calculus.specs.Syntax.{Process, Nil, Pattern, Expression, Ruled, Protocol}
use Rattle.spec_calculus.specs.Choices.{choices, label_of}
use Rattle.spec_terms.specs.Term.{Term}
use Rattle.spec_translation.specs.Visit.{Visit}
use Rattle.spec_translation.specs.Choice.{EachGoesOn}
use Rattle.spec_attack_runs.specs.Source.{Choice, Taken, Source}
use Rattle.spec_attack_runs.specs.Gathered.{labelled, EachGathers, Gathers}
use Rattle.spec_choice_walks.proofs.Ways.{each-append}
use Rattle.process_visits.specs.declared.listing.Listing.{Listing}
use Rattle.visit_choices.specs.declared.ways.Way.{Way}
use Rattle.visit_choices.specs.declared.ways.Way.TheVariants as ways
use Rattle.process_visits.specs.Labels.{IsLabelAt}
use Rattle.process_visits.specs.Telling.{Told}
use Rattle.unified_visits.specs.Visits.{visit_at}
use Rattle.visit_choices.proofs.Passing.{take_on}
use Rattle.clause_translate.specs.Jobs.{AreSmallWays}
use Rattle.clause_translate.specs.Gathering.{TellsWay, AreGathered, TellsEach}
use Rattle.clause_translate.proofs.Gathering.{nothing_told, told_from, told_twice}

-- as many go on, or nowhere, as there are choices
goes_long : (P : Protocol) (v : Visit) (pattern : Pattern) (rs : List Ruled) (outs : List (Option Visit)) → EachGoesOn P v pattern rs outs → length outs ≡ length rs
goes_long P v pattern [] outs h = ap length h
goes_long P v pattern (r ∷ rs) outs h = ap length h.4 ∙ ap suc (goes_long P v pattern rs h.1 h.3)

-- parts of lists that are as long as each other
part_long : {A B : Type 0} (n m : ℕ) (xs : List A) (ys : List B) → length xs ≡ length ys → length (take n (drop m xs)) ≡ length (take n (drop m ys))
part_long n m xs ys same =
    length-take n (drop m xs) ∙ (ap (λ k. min n k) (length-drop m xs ∙ (ap (λ k. k - m) same ∙ sym (length-drop m ys))) ∙ sym (length-take n (drop m ys)))

first_long : {A B : Type 0} (n : ℕ) (xs : List A) (ys : List B) → length xs ≡ length ys → length (take n xs) ≡ length (take n ys)
first_long n xs ys same = length-take n xs ∙ (ap (λ k. min n k) same ∙ sym (length-take n ys))

module _ (R : Choice → Visit → List Source → Type 0) where
  -- where none goes on, nothing is gathered
  nowhere_gathered : (cs : List Choice) (outs : List (Option Visit)) → AllByRecursion (λ out. out ≡ None) outs → EachGathers R cs outs []
  nowhere_gathered [] outs h = refl
  nowhere_gathered (c ∷ cs) [] h = refl
  nowhere_gathered (c ∷ cs) (None ∷ outs) h = nowhere_gathered cs outs h.1
  nowhere_gathered (c ∷ cs) (Some w ∷ outs) h = absurd (let clash = h.0 in cc)

  -- where nothing is gathered of any, nothing is
  pub none_gathered : ((c : Choice) (w : Visit) → R c w []) → (cs : List Choice) (outs : List (Option Visit)) → EachGathers R cs outs []
  none_gathered none [] outs = refl
  none_gathered none (c ∷ cs) [] = refl
  none_gathered none (c ∷ cs) (None ∷ outs) = none_gathered none cs outs
  none_gathered none (c ∷ cs) (Some w ∷ outs) = ([], [], none c w, none_gathered none cs outs, refl)

  one_gathered : (c : Choice) (w : Visit) (xs : List Source) → R c w xs → EachGathers R (c ∷ []) (Some w ∷ []) xs
  one_gathered c w xs r = (xs, [], r, refl, sym (append-nil xs))

  gathered_append : (cs ds : List Choice) (os ps : List (Option Visit)) (xs ys : List Source) → length os ≡ length cs → EachGathers R cs os xs → EachGathers R ds ps ys → EachGathers R (cs ++ ds) (os ++ ps) (xs ++ ys)
  gathered_append [] ds [] ps xs ys same h k = subst (λ (l : List Source). EachGathers R ds ps (l ++ ys)) (sym h) k
  gathered_append [] ds (o ∷ os) ps xs ys same h k = absurd (omega (arith, same))
  gathered_append (c ∷ cs) ds [] ps xs ys same h k = absurd (omega (arith, same))
  gathered_append (c ∷ cs) ds (None ∷ os) ps xs ys same h k = gathered_append cs ds os ps xs ys (omega (arith, same)) h k
  gathered_append (c ∷ cs) ds (Some w ∷ os) ps xs ys same h k =
      (h.0, h.1 ++ ys, h.2, gathered_append cs ds os ps h.1 ys (omega (arith, same)) h.3 k, ap (λ (l : List Source). l ++ ys) h.4 ∙ append_assoc h.0 h.1 ys)

-- the choices that were taken above, and one more
abbrev pub Below : Protocol → Process → ℕ → List Choice → Choice → Visit → List Source → Type 0
Below P process point taken choice w xs = Gathers P process point (taken ++ choice ∷ []) w xs

-- what one way tells
pub record IsGatheredWay (P : Protocol) (process : Process) (point : ℕ) (cs : List Choice) (outs : List (Option Visit)) (before after : Listing) : Type 0 where
  pub more : List Source
  pub gathers : EachGathers (Below P process point before.choices) cs outs more
  pub told : Told more before after

pub gathered_way : (P : Protocol) (process : Process) (point : ℕ) (all : List Term) (label : List ℕ) (way : Way) (cs : List Choice) (outs : List (Option Visit)) (before after : Listing) → (length outs ≡ 1 → cs ≡ Taken label ∷ []) → AreSmallWays all way outs
    → TellsWay P process point all label way before after None → IsGatheredWay P process point cs outs before after
gathered_way P process point all label ways.Nowhere cs outs before after alone small tells = record { more = []; gathers = nowhere_gathered (Below P process point before.choices) cs outs small; told = tells }
gathered_way P process point all label ways.Large cs outs before after alone small tells = absurd small
gathered_way P process point all label (ways.Visit made) cs outs before after alone small tells = record {
  more = tells.more;
  gathers = subst (λ (os : List (Option Visit)). EachGathers (Below P process point before.choices) cs os tells.more) (sym small)
      (subst (λ (l : List Choice). EachGathers (Below P process point before.choices) l (Some (visit_at all made) ∷ []) tells.more) (sym (alone (ap length small)))
      (one_gathered (Below P process point before.choices) (Taken label) (visit_at all made) tells.more tells.gathers));
  told = tells.told;
}

-- how far the choices have told their sources
pub record AreToldTo (P : Protocol) (v : Visit) (pattern : Pattern) (e : Expression) (process : Process) (point : ℕ) (before now : Listing) (number : ℕ) : Type 0 where
  pub outs : List (Option Visit)
  pub go : EachGoesOn P v pattern (take number (map (λ c. c.ruled) (choices P e))) outs
  pub more : List Source
  pub gathers : EachGathers (Below P process point before.choices) (take number (labelled P e)) outs more
  pub told : Told more before now

module _ (P : Protocol) (v : Visit) (pattern : Pattern) (e : Expression) (process : Process) (point : ℕ) (before : Listing) where
  abbrev rs : List Ruled
  rs = map (λ c. c.ruled) (choices P e)

  pub none_told : AreToldTo P v pattern e process point before before 0
  none_told = record { outs = []; go = refl; more = []; gathers = refl; told = nothing_told before }

  as_many : length (labelled P e) ≡ length rs
  as_many = length-map (choices P e) (λ c. Taken (label_of c.rules)) ∙ sym (length-map (choices P e) (λ c. c.ruled))

  -- the choice of that number is the first that is left
  choice_left : (number : ℕ) (label : List ℕ) → IsLabelAt P e number label → (later : List Choice) × (drop number (labelled P e) ≡ Taken label ∷ later)
  choice_left number label at =
      let labels = map (λ c. label_of c.rules) (choices P e) in
      (map Taken at.0, ap (drop number) (sym (map-map Taken (λ c. label_of c.rules) (choices P e))) ∙ (drop-map Taken number labels ∙ ap (map Taken) at.1))

  alone : (count : ℕ) (c : Choice) (later : List Choice) → length (take count (c ∷ later)) ≡ 1 → take count (c ∷ later) ≡ c ∷ []
  alone zero c later one = absurd (omega (arith, one))
  alone (suc count) c later one = ap (λ (l : List Choice). c ∷ l) (nil_from_length (take count later) (omega (arith, one)))

  -- one way more
  pub more_told : (listing : Listing) (number : ℕ) → AreToldTo P v pattern e process point before listing number → (all : List Term) (way : Way) (label : List ℕ) (count : ℕ) (outs : List (Option Visit)) (after : Listing)
      → EachGoesOn P v pattern (take count (drop number rs)) outs → AreSmallWays all way outs → IsLabelAt P e number label → TellsWay P process point all label way listing after None
      → AreToldTo P v pattern e process point before after (number + count)
  more_told listing number was all way label count outs after go small at tells =
      let cs = take count (drop number (labelled P e)) in
      let left = choice_left number label at in
      let long : length outs ≡ length cs = goes_long P v pattern (take count (drop number rs)) outs go ∙ part_long count number rs (labelled P e) (sym as_many) in
      let first : length outs ≡ 1 → cs ≡ Taken label ∷ [] = λ one.
      ap (take count) left.1 ∙ alone count (Taken label) left.0 (ap (λ (l : List Choice). length (take count l)) (sym left.1) ∙ (sym long ∙ one)) in
      let found = gathered_way P process point all label way cs outs listing after first small tells in
      let known : length was.outs ≡ length (take number (labelled P e)) = goes_long P v pattern (take number rs) was.outs was.go ∙ first_long number rs (labelled P e) (sym as_many) in
      record {
        outs = was.outs ++ outs;
        go = subst (λ (l : List Ruled). EachGoesOn P v pattern l (was.outs ++ outs)) (sym (take_on number count rs)) (each-append P v pattern (take number rs) (take count (drop number rs)) was.outs outs was.go go);
        more = was.more ++ found.more;
        gathers = subst (λ (l : List Choice). EachGathers (Below P process point before.choices) l (was.outs ++ outs) (was.more ++ found.more)) (sym (take_on number count (labelled P e)))
            (gathered_append (Below P process point before.choices) (take number (labelled P e)) cs was.outs outs was.more found.more known was.gathers
            (subst (λ (taken : List Choice). EachGathers (Below P process point taken) cs outs found.more) was.told.choices found.gathers));
        told = told_twice was.more found.more before listing after was.told found.told;
      }

  -- all of them
  pub all_told : (listing : Listing) (number : ℕ) → AreToldTo P v pattern e process point before listing number → length rs ≤ number → AreGathered P v pattern e process point before listing
  all_told listing number was past = record {
    outs = was.outs;
    go = subst (λ (l : List Ruled). EachGoesOn P v pattern l was.outs) (take_all number rs past) was.go;
    more = was.more;
    gathers = subst (λ (l : List Choice). EachGathers (Below P process point before.choices) l was.outs was.more) (take_all number (labelled P e) (omega (arith, past, as_many))) was.gathers;
    told = was.told;
  }

-- a process that does nothing tells nothing
pub nothing_each : (P : Protocol) (v : Visit) (pattern : Pattern) (e : Expression) (point : ℕ) (outs : List (Option Visit)) (before after : Listing) → EachGoesOn P v pattern (map (λ c. c.ruled) (choices P e)) outs → after.sources ≡ before.sources → after.choices ≡ before.choices
    → AreGathered P v pattern e Nil point before after
nothing_each P v pattern e point outs before after go same kept = record {
  outs = outs;
  go = go;
  more = [];
  gathers = none_gathered (Below P Nil point before.choices) (λ c w. refl) (labelled P e) outs;
  told = told_from [] before after after same kept (nothing_told after);
}

pub nothing_chosen : (P : Protocol) (v : Visit) (pattern : Pattern) (e : Expression) (point : ℕ) (outs : List (Option Visit)) (before after : Listing) (large : Option ℕ) → EachGoesOn P v pattern (map (λ c. c.ruled) (choices P e)) outs → after.sources ≡ before.sources → after.choices ≡ before.choices
    → TellsEach P v pattern e Nil point before after large
nothing_chosen P v pattern e point outs before after None go same kept = nothing_each P v pattern e point outs before after go same kept
nothing_chosen P v pattern e point outs before after (Some q) go same kept = tt
