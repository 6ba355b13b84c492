-- Walks along the instructions of an expression to one of its choices.
use Rattle.std.proofs.Common.{◌≡◌, ◌∙◌, ℕ, zero, suc, ◌+◌, ◌-◌, ◌*◌, ◌/◌, ◌%◌, ◌<◌, ◌≤◌, nat_le, Bool, true, false, Option, None, List, [], ◌∷◌, ◌++◌, length, map, take, drop, get_or, refl, ap, sym, subst, arith}
use Rattle.std.specs.List.{flat_map}
use Rattle.std.proofs.lemmas.Bool.Decides.{nat_tests}
use Rattle.std.proofs.Math.Nat.{le-div_iff_mul-le, mul-div_cancel_left}
use Rattle.std.proofs.lemmas.List.{append_assoc, append-nil, length-append, length-drop, length-map, get_or-map, drop_more, drop_all, drop-append-le, drop-map, take_at, take-append-drop}
use Rattle.spec_trees.specs.Tree.{Leaf}
use Rattle.spec_calculus.specs.Syntax.{Symbol, Pattern, Head, Builds, Calls, Rule, Ruled, Protocol}
use Rattle.spec_calculus.specs.Syntax as calculus
use Rattle.spec_calculus.specs.Bounds.{most_written_symbols}
use Rattle.spec_calculus.specs.Matching.{rules_of}
use Rattle.spec_terms.specs.Term.{Term}
use Rattle.spec_translation.specs.Visit.{Visit, visit_terms}
use Rattle.spec_translation.specs.Applied.{rule_width}
use Rattle.spec_translation.specs.Choice.{EachGoesOn}
use Rattle.spec_clauses.specs.Variables.{AreBelow}
use Rattle.spec_choice_walks.specs.Instructions.{Instruction, Push, Apply, joined_last, completions, choices_by, BecomesOne, applied_by}
use Rattle.spec_choice_walks.specs.Stage.{width_of_row}
use Rattle.spec_choice_walks.proofs.Rows.{width-whole, width-built, width-called}
use Rattle.spec_choice_walks.proofs.Counting.{length-joined, counted}
use Rattle.spec_choice_walks.proofs.Ways.{each-drop, all_nowhere}
use Rattle.std.specs.Prelude.{MatchBool}
use Rattle.pi_tree.specs.declared.destructors.Rule as destructors
use Rattle.pi_tree.specs.Rules.{rule_of}
use Rattle.unify_match.specs.Seen.{IsReady}
use Rattle.term_values.specs.Instructions.{instruction_of}
use Rattle.term_values.specs.declared.instructions.Instruction as code
use Rattle.visit_choices.specs.declared.choice.Choosing.{Choosing}
use Rattle.unified_visits.specs.declared.visit.Visit as source
use Rattle.visit_choices.specs.declared.row.Row.{Row}
use Rattle.visit_choices.specs.declared.row.Walk.{Walk}
use Rattle.unified_visits.specs.Room.{rule_base}
use Rattle.unified_visits.specs.Short.{AreFitInstructions, IsFitRule}
use Rattle.visit_choices.specs.RuledRows.{IsRowOf, IsApart}
use Rattle.visit_choices.specs.Ways.{AreCut}
use Rattle.unified_visits.specs.Places.{protocol_at}
use Rattle.unified_visits.specs.Visits.{visit_at}
use Rattle.visit_choices.specs.Walks.{instructions_of, choices_of, IsChoosingIn, IsAlong}
use Rattle.unified_visits.proofs.Below.{width_few}
use Rattle.visit_choices.proofs.RuledRows.{row_first, ids_counted}

-- items behind a list
drop_behind : {A : Type 0} (xs ys : List A) (n : ℕ) → drop (length xs + n) (xs ++ ys) ≡ drop n ys
drop_behind [] ys n = ap (λ k. drop k ys) (omega arith)
drop_behind (x ∷ xs) ys n = let same : suc (length xs) + n ≡ suc (length xs + n) = omega arith in ap (λ k. drop k (x ∷ (xs ++ ys))) same ∙ drop_behind xs ys n

-- the items from a place on of lists of one length, one behind the other
pub placed : {A B : Type 0} (f : A → List B) (n : ℕ) → ((x : A) → length (f x) ≡ n) → (xs : List A) (q r : ℕ) (d : A) → q < length xs → r ≤ n → (more : List B) × (drop (q * n + r) (flat_map f xs) ≡ drop r (f (get_or xs q d)) ++ more)
placed f n same [] q r d within low = absurd (omega (arith, within))
placed f n same (x ∷ xs) zero r d within low =
    let none : 0 * n + r ≡ r = omega arith in (flat_map f xs, ap (λ k. drop k (f x ++ flat_map f xs)) none ∙ drop-append-le r (f x) (flat_map f xs) (omega (arith, low, same x)))
placed f n same (x ∷ xs) (suc q) r d within low =
    let long = same x in
    let on : suc q * n + r ≡ length (f x) + (q * n + r) = omega (arith, long) in
    let rest = placed f n same xs q r d (omega (arith, within)) low in (rest.0, ap (λ k. drop k (f x ++ flat_map f xs)) on ∙ (drop_behind (f x) (flat_map f xs) (q * n + r) ∙ rest.1))

-- the number of a choice, as that of a rule and the number behind it
pub record IsSplit (many behind left number rule rest : ℕ) : Type 0 where
  pub same : left ≡ behind
  pub some : 0 < behind
  pub within : rule < many
  pub less : rest < behind
  pub is : rule * behind + rest ≡ number

pub some_rules : (many behind number : ℕ) → number < many * behind → (0 < many) × (0 < behind)
some_rules zero behind number within = absurd (omega (arith, within))
some_rules (suc many) zero number within = absurd (omega (arith, within))
some_rules (suc many) (suc behind) number within = (omega arith, omega arith)

below_by : (many q most number : ℕ) → (many ≤ q → most ≤ number) → number < most → q < many
below_by many q most number up low = go (nat_le many q) refl where
  go : (b : Bool) → nat_le many q ≡ b → q < many
  go true h =
      let up_to : many ≤ q = grind (arith, nat_tests, h) in
      let more = up up_to in absurd (omega (arith, more, low))
  go false h = grind (arith, nat_tests, h)

pub split : (many behind number : ℕ) → number < many * behind → IsSplit many behind (many * behind / many) number (number / (many * behind / many)) (number % (many * behind / many))
split many behind number within =
    let some = some_rules many behind number within in
    let back : many * behind / many ≡ behind = mul-div_cancel_left behind some.0 in
    let here : IsSplit many behind behind number (number / behind) (number % behind) = record {
      same = refl;
      some = some.1;
      within = below_by many (number / behind) (many * behind) number ((le-div_iff_mul-le {k = behind} {x = many} {y = number} some.1).0) within;
      less = (let pos = some.1 in omega arith);
      is = (let pos = some.1 in omega arith);
    } in
    subst (λ (k : ℕ). IsSplit many behind k number (number / k) (number % k)) (sym back) here

pub split_number : (many behind left found number : ℕ) → left ≡ many * behind → found ≡ many → number < left → IsSplit many behind (left / found) number (number / (left / found)) (number % (left / found))
split_number many behind left found number product same within =
    subst (λ (k : ℕ). IsSplit many behind (left / k) number (number / (left / k)) (number % (left / k))) (sym same)
    (subst (λ (l : ℕ). IsSplit many behind (l / many) number (number / (l / many)) (number % (l / many))) (sym product) (split many behind number (omega (arith, within, product))))

-- the rule that is read
pub rule_read : (rules : List destructors.Rule) (all : List Rule) (i : ℕ) (rule : destructors.Rule) → map rule_of rules ≡ all → i < length rules → rule ≡ get_or rules i rule → rule_of rule ≡ get_or all i (rule_of rule)
rule_read rules all i rule same within is = ap rule_of is ∙ (sym (get_or-map rule_of rules i rule (rule_of rule) within) ∙ ap (λ l. get_or l i (rule_of rule)) same)

pub rules_counted : (rules : List destructors.Rule) (all : List Rule) → map rule_of rules ≡ all → length rules ≡ length all
rules_counted rules all same = sym (length-map rules rule_of) ∙ ap length same

-- what holds by a test, by what else does
pub both_ways : (b : Bool) (A B C D : Type 0) → (A → C) → (B → D) → MatchBool b A B → MatchBool b C D
both_ways true A B C D f g h = f h
both_ways false A B C D f g h = g h

module _ (P : Protocol) (w : source.Visit) (v : Visit) where
  pub within_row : (all : List Term) (walk : Walk) (head : Head ℕ) (count : ℕ) (later : List Instruction) (rs : List Ruled) → IsAlong P w v (Apply head count ∷ later) rs all walk → count ≤ length walk.row.ids.items
  within_row all walk head count later rs was = omega (arith, was.fit.one.0, ids_counted P w v all was.parts walk.row was.row)

  -- the instructions that are left are fit
  pub fit_on : (next more height : ℕ) (instruction : Instruction) (later : List Instruction) → AreFitInstructions P next height (instruction ∷ later) → BecomesOne more later → (room : ℕ) → room + applied_by later * most_written_symbols ≤ rule_base → AreFitInstructions P room more later
  fit_on next more height instruction later fit one room low = record { each = fit.each.1; one = one; room = low }

  pub along_pushed : (old new : List Term) (walk : Walk) (next : Row) (t : calculus.Term) (later : List Instruction) (rs : List Ruled) (was : IsAlong P w v (Push t ∷ later) rs old walk) → IsRowOf P w v (was.parts ++ Leaf t ∷ []) new next
      → IsAlong P w v later rs new (record { row = next; left = walk.left; number = walk.number })
  along_pushed old new walk next t later rs was row = record {
    parts = was.parts ++ Leaf t ∷ [];
    row = row;
    fit = fit_on walk.row.next (length (was.parts ++ Leaf t ∷ [])) (length was.parts) (Push t) later was.fit (subst (λ n. BecomesOne n later) (sym (length-append was.parts (Leaf t ∷ []))) was.fit.one) next.next
        (omega (arith, row.next_is, was.row.next_is, width-whole was.parts t, was.fit.room));
    left = was.left;
    within = was.within;
    more = was.more;
    are = was.are;
  }

  pub along_built : (old new : List Term) (walk : Walk) (next : Row) (f : Symbol) (count : ℕ) (later : List Instruction) (rs : List Ruled) (was : IsAlong P w v (Apply (Builds f) count ∷ later) rs old walk) → IsRowOf P w v (joined_last (Builds f) count was.parts) new next
      → IsAlong P w v later rs new (record { row = next; left = walk.left; number = walk.number })
  along_built old new walk next f count later rs was row =
      let n = length was.parts - count in
      let same : width_of_row (joined_last (Builds f) count was.parts) ≡ width_of_row was.parts = width-built (take n was.parts) (drop n was.parts) f ∙ ap width_of_row (take-append-drop n was.parts) in
      record {
        parts = joined_last (Builds f) count was.parts;
        row = row;
        fit = fit_on walk.row.next (length (joined_last (Builds f) count was.parts)) (length was.parts) (Apply (Builds f) count) later was.fit (subst (λ k. BecomesOne k later) (sym (length-joined (Builds f) count was.parts)) was.fit.one.1) next.next
            (omega (arith, row.next_is, was.row.next_is, same, was.fit.room));
        left = was.left;
        within = was.within;
        more = was.more;
        are = was.are;
      }

  -- a destructor's rule
  module _ (old : List Term) (walk : Walk) (d count : ℕ) (later : List Instruction) (rs : List Ruled) (was : IsAlong P w v (Apply (Calls d) count ∷ later) rs old walk) where
    abbrev behind : ℕ
    behind = choices_by P later

    abbrev by : Rule → List Ruled
    by rule = completions P later (joined_last (Calls rule) count was.parts)

    one_later : (rule : Rule) → BecomesOne (length (joined_last (Calls rule) count was.parts)) later
    one_later rule = subst (λ k. BecomesOne k later) (sym (length-joined (Calls rule) count was.parts)) was.fit.one.1

    by_long : (rule : Rule) → length (by rule) ≡ behind
    by_long rule = counted P later (joined_last (Calls rule) count was.parts) (one_later rule)

    pub within_all : walk.number < length (rules_of P d) * behind
    within_all = omega (arith, was.within, was.left)

    module _ (left number index : ℕ) (rule : Rule) (parts_split : IsSplit (length (rules_of P d)) behind left walk.number index number) (is_rule : rule ≡ get_or (rules_of P d) index rule) where
      pub from_rule : (more : List Ruled) × (rs ≡ drop number (by rule) ++ more)
      from_rule =
          let there = placed by behind by_long (rules_of P d) index number rule parts_split.within (omega (arith, parts_split.less)) in
          let at_number : drop walk.number (flat_map by (rules_of P d)) ≡ drop number (by rule) ++ there.0 = ap (λ k. drop k (flat_map by (rules_of P d))) (sym parts_split.is) ∙ (there.1 ∙ ap (λ (r : Rule). drop number (by r) ++ there.0) (sym is_rule)) in
          (there.0 ++ was.more, was.are ∙ (ap (λ l. l ++ was.more) at_number ∙ append_assoc (drop number (by rule)) there.0 was.more))

      pub along_called : (new : List Term) (next : Row) → IsRowOf P w v (joined_last (Calls rule) count was.parts) new next → IsFitRule rule → IsAlong P w v later rs new (record { row = next; left = left; number = number })
      along_called new next row fit =
          let on = from_rule in
          let n = length was.parts - count in
          let more : width_of_row (joined_last (Calls rule) count was.parts) ≡ width_of_row was.parts + rule_width rule = width-called (take n was.parts) (drop n was.parts) rule ∙ ap (λ l. width_of_row l + rule_width rule) (take-append-drop n was.parts) in
          record {
            parts = joined_last (Calls rule) count was.parts;
            row = row;
            fit = fit_on walk.row.next (length (joined_last (Calls rule) count was.parts)) (length was.parts) (Apply (Calls d) count) later was.fit (one_later rule) next.next (omega (arith, row.next_is, was.row.next_is, more, width_few rule fit, was.fit.room));
            left = parts_split.same;
            within = omega (arith, parts_split.same, parts_split.less);
            more = on.0;
            are = on.1;
          }

      pub along_cut : (pattern : Pattern) → IsApart P w v (joined_last (Calls rule) count was.parts) → AreCut P v pattern rs (left - number)
      along_cut pattern apart =
          let on = from_rule in
          let known = subst (λ (x : Visit). AreBelow w.next (visit_terms x)) was.row.visit.is was.row.visit.known.below in
          let nothing : Ruled → Option Visit = λ r. None in
          let all_by = all_nowhere P v pattern w.next (joined_last (Calls rule) count was.parts) known apart.even apart.apart later (one_later rule) in
          let rest = drop number (by rule) in
          let long : length rest ≡ left - number = length-drop number (by rule) ∙ omega (arith, by_long rule, parts_split.same) in
          let first : take (left - number) rs ≡ rest = ap (take (left - number)) on.1 ∙ (take_at rest on.0 (left - number) long) in
          let gone = each-drop P v pattern number (by rule) (map nothing (by rule)) all_by in
          let go = subst (λ (os : List (Option Visit)). EachGoesOn P v pattern rest os) (drop-map nothing number (by rule)) gone in
          record {
            some = omega (arith, parts_split.same, parts_split.less);
            within = omega (arith, ap length on.1, length-append rest on.0, long);
            go = subst (λ (l : List Ruled). EachGoesOn P v pattern l (map nothing l)) (sym first) go;
          }

-- the first instruction of a row that is left
pub first_left : (instructions : List code.Instruction) (i : ℕ) (instruction : code.Instruction) → i < length instructions → instruction ≡ get_or instructions i instruction → map instruction_of (drop i instructions) ≡ instruction_of instruction ∷ map instruction_of (drop (i + 1) instructions)
first_left instructions i instruction within is = ap (map instruction_of) (drop_more instructions i instruction within) ∙ ap (λ x. instruction_of x ∷ map instruction_of (drop (i + 1) instructions)) (sym is)

-- before that instruction
pub along_at : (P : Protocol) (w : source.Visit) (v : Visit) (all : List Term) (instructions : List code.Instruction) (i : ℕ) (instruction : code.Instruction) (rs : List Ruled) (walk : Walk) → i < length instructions → instruction ≡ get_or instructions i instruction
    → IsAlong P w v (map instruction_of (drop i instructions)) rs all walk → IsAlong P w v (instruction_of instruction ∷ map instruction_of (drop (i + 1) instructions)) rs all walk
along_at P w v all instructions i instruction rs walk within is along = subst (λ (l : List Instruction). IsAlong P w v l rs all walk) (first_left instructions i instruction within is) along

-- before the first instruction
pub along_first : (all : List Term) (choosing : Choosing) (row : Row) (number : ℕ) → IsChoosingIn all choosing → number < choosing.count → row.ids.items ≡ [] → row.next ≡ choosing.visit.now.next → row.binds.pairs ≡ [] → IsReady all row.binds.pairs
    → IsAlong (protocol_at choosing.place.now) choosing.visit.now (visit_at all choosing.visit.now) (instructions_of choosing) (drop number (choices_of choosing)) all (record { row = row; left = choosing.count; number = number })
along_first all choosing row number known within empty next unbound ready = record {
  parts = [];
  row = row_first (protocol_at choosing.place.now) choosing.visit.now (visit_at all choosing.visit.now) all row record { known = known.visit; is = refl } empty next unbound ready;
  fit = subst (λ n. AreFitInstructions (protocol_at choosing.place.now) n 0 (instructions_of choosing)) (sym next) known.fit;
  left = known.count;
  within = within;
  more = [];
  are = sym (append-nil (drop number (choices_of choosing)));
}

-- behind the last instruction
none_left : (instructions : List code.Instruction) (i : ℕ) → length instructions ≤ i → map instruction_of (drop i instructions) ≡ []
none_left instructions i past = ap (map instruction_of) (drop_all i instructions past)

pub along_end : (P : Protocol) (w : source.Visit) (v : Visit) (all : List Term) (instructions : List code.Instruction) (i : ℕ) (rs : List Ruled) (walk : Walk) → length instructions ≤ i → IsAlong P w v (map instruction_of (drop i instructions)) rs all walk → IsAlong P w v [] rs all walk
along_end P w v all instructions i rs walk past along = subst (λ (l : List Instruction). IsAlong P w v l rs all walk) (none_left instructions i past) along
