-- Walks to the constraint of a choice, from instruction to instruction.
use Rattle.std.proofs.Common.{◌≡◌, ◌∙◌, ℕ, zero, suc, ◌+◌, ◌-◌, ◌<◌, ◌≤◌, Ok, Err, Result, OnOk, List, [], ◌∷◌, ◌++◌, length, map, take, drop, get_or, refl, ap, sym, subst, arith}
use Rattle.std.specs.List.{flat_map}
use Rattle.std.proofs.lemmas.List.{length-append, length-drop, take-append-drop, drop_all}
use Rattle.spec_trees.specs.Tree.{Leaf}
use Rattle.spec_calculus.specs.Syntax.{Symbol, Head, Builds, Calls, Rule, Ruled, Protocol}
use Rattle.spec_calculus.specs.Syntax as calculus
use Rattle.spec_calculus.specs.Matching.{rules_of}
use Rattle.spec_terms.specs.Term.{Term}
use Rattle.spec_translation.specs.Visit.{Visit}
use Rattle.spec_translation.specs.Applied.{rule_width}
use Rattle.spec_choice_walks.specs.Instructions.{Instruction, Push, Apply, joined_last, completions, choices_by, BecomesOne}
use Rattle.spec_choice_walks.specs.Stage.{width_of_row}
use Rattle.spec_choice_walks.proofs.Rows.{width-whole, width-built, width-called}
use Rattle.spec_choice_walks.proofs.Counting.{length-joined, counted}
use Rattle.term_values.specs.Instructions.{instruction_of}
use Rattle.term_values.specs.declared.instructions.Instruction as code
use Rattle.visit_choices.specs.declared.choice.Choosing.{Choosing}
use Rattle.unified_visits.specs.declared.visit.Visit as source
use Rattle.else_visits.specs.declared.otherwise.Sides.{Sides}
use Rattle.else_visits.specs.declared.otherwise.SideWalk.{SideWalk}
use Rattle.unified_visits.specs.Places.{protocol_at}
use Rattle.unified_visits.specs.Short.{AreFitInstructions, IsFitRule}
use Rattle.else_visits.specs.Sides.{AreSidesOf, IsAlongSides}
use Rattle.unified_visits.specs.Visits.{visit_at}
use Rattle.visit_choices.specs.Walks.{instructions_of, choices_of, IsChoosingIn}
use Rattle.unified_visits.proofs.Below.{width_few}
use Rattle.else_visits.proofs.SideRows.{parts_counted, sides_first}
use Rattle.visit_choices.proofs.Walking.{placed, IsSplit, fit_on, first_left}

first_of : {A : Type 0} (xs ys : List A) (x : A) (zs : List A) → xs ++ ys ≡ x ∷ zs → 0 < length xs → (os : List A) × (xs ≡ x ∷ os)
first_of [] ys x zs e some = absurd (omega (arith, some))
first_of (a ∷ later) ys x zs e some = let same : a ≡ x = cc in (later, ap (λ b. b ∷ later) same)

-- what holds after a success, from what does
pub on_ok : {X E : Type 0} (r : Result X E) (A B : Type 0) → (A → B) → OnOk r A → OnOk r B
on_ok (Ok x) A B gives h = gives h
on_ok (Err e) A B gives h = h

module _ (P : Protocol) (w : source.Visit) (v : Visit) where
  pub within_sides : (all : List Term) (walk : SideWalk) (head : Head ℕ) (count : ℕ) (later : List Instruction) (ruled : Ruled) → IsAlongSides P w v (Apply head count ∷ later) ruled all walk → count ≤ length walk.sides.ids.items
  within_sides all walk head count later ruled was = omega (arith, was.fit.one.0, parts_counted P w v all was.parts walk.sides was.sides)

  pub sides_on_pushed : (old new : List Term) (walk : SideWalk) (next : Sides) (t : calculus.Term) (later : List Instruction) (ruled : Ruled) (was : IsAlongSides P w v (Push t ∷ later) ruled old walk) → AreSidesOf P w v (was.parts ++ Leaf t ∷ []) new next
      → IsAlongSides P w v later ruled new (record { sides = next; left = walk.left; number = walk.number })
  sides_on_pushed old new walk next t later ruled was sides = record {
    parts = was.parts ++ Leaf t ∷ [];
    sides = sides;
    fit = fit_on P w v walk.sides.next (length (was.parts ++ Leaf t ∷ [])) (length was.parts) (Push t) later was.fit (subst (λ n. BecomesOne n later) (sym (length-append was.parts (Leaf t ∷ []))) was.fit.one) next.next
        (omega (arith, sides.next_is, was.sides.next_is, width-whole was.parts t, was.fit.room));
    left = was.left;
    within = was.within;
    others = was.others;
    is = was.is;
  }

  pub sides_on_built : (old new : List Term) (walk : SideWalk) (next : Sides) (f : Symbol) (count : ℕ) (later : List Instruction) (ruled : Ruled) (was : IsAlongSides P w v (Apply (Builds f) count ∷ later) ruled old walk) → AreSidesOf P w v (joined_last (Builds f) count was.parts) new next
      → IsAlongSides P w v later ruled new (record { sides = next; left = walk.left; number = walk.number })
  sides_on_built old new walk next f count later ruled was sides =
      let n = length was.parts - count in
      let same : width_of_row (joined_last (Builds f) count was.parts) ≡ width_of_row was.parts = width-built (take n was.parts) (drop n was.parts) f ∙ ap width_of_row (take-append-drop n was.parts) in
      record {
        parts = joined_last (Builds f) count was.parts;
        sides = sides;
        fit = fit_on P w v walk.sides.next (length (joined_last (Builds f) count was.parts)) (length was.parts) (Apply (Builds f) count) later was.fit (subst (λ k. BecomesOne k later) (sym (length-joined (Builds f) count was.parts)) was.fit.one.1) next.next
            (omega (arith, sides.next_is, was.sides.next_is, same, was.fit.room));
        left = was.left;
        within = was.within;
        others = was.others;
        is = was.is;
      }

  -- a destructor's rule
  module _ (old : List Term) (walk : SideWalk) (d count : ℕ) (later : List Instruction) (ruled : Ruled) (was : IsAlongSides P w v (Apply (Calls d) count ∷ later) ruled old walk) where
    abbrev behind : ℕ
    behind = choices_by P later

    abbrev by : Rule → List Ruled
    by rule = completions P later (joined_last (Calls rule) count was.parts)

    one_later : (rule : Rule) → BecomesOne (length (joined_last (Calls rule) count was.parts)) later
    one_later rule = subst (λ k. BecomesOne k later) (sym (length-joined (Calls rule) count was.parts)) was.fit.one.1

    by_long : (rule : Rule) → length (by rule) ≡ behind
    by_long rule = counted P later (joined_last (Calls rule) count was.parts) (one_later rule)

    pub sides_on_called : (left number index : ℕ) (rule : Rule) → IsSplit (length (rules_of P d)) behind left walk.number index number → rule ≡ get_or (rules_of P d) index rule → (new : List Term) (next : Sides) → AreSidesOf P w v (joined_last (Calls rule) count was.parts) new next → IsFitRule rule
        → IsAlongSides P w v later ruled new (record { sides = next; left = left; number = number })
    sides_on_called left number index rule parts_split is_rule new next sides fit =
        let there = placed by behind by_long (rules_of P d) index number rule parts_split.within (omega (arith, parts_split.less)) in
        let at_number : drop walk.number (flat_map by (rules_of P d)) ≡ drop number (by rule) ++ there.0 = ap (λ k. drop k (flat_map by (rules_of P d))) (sym parts_split.is) ∙ (there.1 ∙ ap (λ (r : Rule). drop number (by r) ++ there.0) (sym is_rule)) in
        let long : length (drop number (by rule)) ≡ behind - number = length-drop number (by rule) ∙ ap (λ k. k - number) (by_long rule) in
        let first = first_of (drop number (by rule)) there.0 ruled was.others (sym at_number ∙ was.is) (omega (arith, long, parts_split.less)) in
        let n = length was.parts - count in
        let more : width_of_row (joined_last (Calls rule) count was.parts) ≡ width_of_row was.parts + rule_width rule = width-called (take n was.parts) (drop n was.parts) rule ∙ ap (λ l. width_of_row l + rule_width rule) (take-append-drop n was.parts) in
        record {
          parts = joined_last (Calls rule) count was.parts;
          sides = sides;
          fit = fit_on P w v walk.sides.next (length (joined_last (Calls rule) count was.parts)) (length was.parts) (Apply (Calls d) count) later was.fit (one_later rule) next.next (omega (arith, sides.next_is, was.sides.next_is, more, width_few rule fit, was.fit.room));
          left = parts_split.same;
          within = omega (arith, parts_split.same, parts_split.less);
          others = first.0;
          is = first.1;
        }

  -- before the next instruction, and behind the last
  pub sides_at : (all : List Term) (instructions : List code.Instruction) (i : ℕ) (instruction : code.Instruction) (ruled : Ruled) (walk : SideWalk) → i < length instructions → instruction ≡ get_or instructions i instruction
      → IsAlongSides P w v (map instruction_of (drop i instructions)) ruled all walk → IsAlongSides P w v (instruction_of instruction ∷ map instruction_of (drop (i + 1) instructions)) ruled all walk
  sides_at all instructions i instruction ruled walk within is along = subst (λ (l : List Instruction). IsAlongSides P w v l ruled all walk) (first_left instructions i instruction within is) along

  pub sides_end : (all : List Term) (instructions : List code.Instruction) (i : ℕ) (ruled : Ruled) (walk : SideWalk) → length instructions ≤ i → IsAlongSides P w v (map instruction_of (drop i instructions)) ruled all walk → IsAlongSides P w v [] ruled all walk
  sides_end all instructions i ruled walk past along = subst (λ (l : List Instruction). IsAlongSides P w v l ruled all walk) (ap (map instruction_of) (drop_all i instructions past)) along

  -- at the end the sides are those of the choice
  pub sides_of_end : (all : List Term) (walk : SideWalk) (ruled : Ruled) → IsAlongSides P w v [] ruled all walk → AreSidesOf P w v (ruled ∷ []) all walk.sides
  sides_of_end all walk ruled was = go was.parts was.fit.one was.sides was.is where
    none : walk.number ≡ 0
    none = omega (arith, was.within, was.left)

    go : (parts : List Ruled) → length parts ≡ 1 → AreSidesOf P w v parts all walk.sides → drop walk.number parts ≡ ruled ∷ was.others → AreSidesOf P w v (ruled ∷ []) all walk.sides
    go [] one sides is = absurd (omega (arith, one))
    go (r ∷ []) one sides is = let here : r ∷ [] ≡ ruled ∷ was.others = sym (ap (λ k. drop k (r ∷ [])) none) ∙ is in let same : r ≡ ruled = cc in subst (λ (x : Ruled). AreSidesOf P w v (x ∷ []) all walk.sides) same sides
    go (r ∷ other ∷ parts) one sides is = absurd (omega (arith, one))

-- before the first instruction
pub sides_before : (all : List Term) (choosing : Choosing) (sides : Sides) (number : ℕ) (ruled : Ruled) (others : List Ruled) → IsChoosingIn all choosing → number < choosing.count → sides.ids.items ≡ [] → sides.left.items ≡ [] → sides.right.items ≡ [] → sides.next ≡ choosing.visit.now.next
    → drop number (choices_of choosing) ≡ ruled ∷ others → IsAlongSides (protocol_at choosing.place.now) choosing.visit.now (visit_at all choosing.visit.now) (instructions_of choosing) ruled all (record { sides = sides; left = choosing.count; number = number })
sides_before all choosing sides number ruled others known within no_ids no_left no_right next is = record {
  parts = [];
  sides = sides_first (protocol_at choosing.place.now) choosing.visit.now (visit_at all choosing.visit.now) all sides record { known = known.visit; is = refl } no_ids no_left no_right next;
  fit = subst (λ n. AreFitInstructions (protocol_at choosing.place.now) n 0 (instructions_of choosing)) (sym next) known.fit;
  left = known.count;
  within = within;
  others = others;
  is = is;
}

-- the choice of a number
module _ {A : Type 0} where
  there : (xs : List A) (n : ℕ) → n < length xs → (x : A) × (others : List A) × (drop n xs ≡ x ∷ others)
  there [] n within = absurd (omega (arith, within))
  there (x ∷ xs) zero within = (x, xs, refl)
  there (x ∷ xs) (suc n) within = there xs n (omega (arith, within))

pub choices_long : (all : List Term) (choosing : Choosing) → IsChoosingIn all choosing → length (choices_of choosing) ≡ choosing.count
choices_long all choosing known = counted (protocol_at choosing.place.now) (instructions_of choosing) [] known.fit.one ∙ sym known.count

pub choice_there : (all : List Term) (choosing : Choosing) (number : ℕ) → IsChoosingIn all choosing → number < choosing.count → (ruled : Ruled) × (others : List Ruled) × (drop number (choices_of choosing) ≡ ruled ∷ others)
choice_there all choosing number known within = there (choices_of choosing) number (omega (arith, within, choices_long all choosing known))
