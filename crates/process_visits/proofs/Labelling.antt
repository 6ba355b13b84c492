-- The label of a choice by its number: the rule of each destructor is taken from the number, the first one's first.
use Rattle.std.proofs.Common.{◌≡◌, ◌∙◌, Option, Some, None, ℕ, zero, suc, ◌+◌, ◌*◌, ◌/◌, ◌%◌, ◌<◌, ◌≤◌, List, [], ◌∷◌, ◌++◌, length, map, drop, get_or, eqb, false, refl, ap, sym, subst, arith}
use Rattle.std.specs.Prelude.{unwrap_or}
use Rattle.std.specs.List.{flat_map, enumerate_from, drop-map}
use Rattle.std.proofs.lemmas.List.{drop_all, length-append, length-map, append_assoc, append-nil}
use Rattle.std.proofs.lemmas.Simd.{map-map}
use Rattle.std.proofs.lemmas.List.FromFn.{length-enumerate_from, get_or-enumerate_from}
use Rattle.spec_trees.specs.Tree.{Leaf}
use Rattle.spec_calculus.specs.Bounds.{most_choices}
use Rattle.spec_calculus.specs.Syntax.{Free, Builds, Calls, Expression, Rule, Protocol}
use Rattle.spec_calculus.specs.Choices.{Choice, choices, label_of}
use Rattle.spec_calculus.specs.Matching.{rules_of}
use Rattle.spec_choice_walks.specs.Instructions.{Instruction, Push, Apply, instructions, choices_by}
use Rattle.spec_choice_walks.specs.Labels.{labels_by}
use Rattle.spec_choice_walks.proofs.Labelling.{labels_are}
use Rattle.term_values.specs.Instructions.{instruction_of}
use Rattle.term_values.specs.declared.instructions.Instruction as code
use Rattle.process_visits.specs.Labels.{StandsAt, IsLabelAt, called_by}
use Rattle.visit_choices.proofs.Walking.{IsSplit, placed, split_number, first_left}

-- the labels of each rule of these, before those that are left
abbrev labelled : List (List ℕ) → List (ℕ × Rule) → List (List ℕ)
labelled ls rules = flat_map (λ rule. map (λ l. rule.0 ∷ l) ls) rules

length-labelled : (ls : List (List ℕ)) (rules : List (ℕ × Rule)) → length (labelled ls rules) ≡ length rules * length ls
length-labelled ls [] = omega arith
length-labelled ls (rule ∷ rules) =
    let first = length-map ls (λ l. rule.0 ∷ l) in
    let others = length-labelled ls rules in
    length-append (map (λ l. rule.0 ∷ l) ls) (labelled ls rules) ∙ omega (arith, first, others)

-- there are as many labels as choices
labels_counted : (P : Protocol) (parts : List Instruction) → length (labels_by P parts) ≡ choices_by P parts
labels_counted P [] = refl
labels_counted P (Push term ∷ parts) = labels_counted P parts
labels_counted P (Apply (Builds f) count ∷ parts) = labels_counted P parts
labels_counted P (Apply (Calls d) count ∷ parts) =
    let behind = labels_counted P parts in
    length-labelled (labels_by P parts) (enumerate_from 1 (rules_of P d)) ∙ (λ i. length-enumerate_from 1 (rules_of P d) i * behind i)

-- The label behind a rule's number is one of those that are left.
pub label_on : (P : Protocol) (d count : ℕ) (later : List Instruction) (left number rule rest : ℕ) (l : List ℕ) → IsSplit (length (rules_of P d)) (choices_by P later) left number rule rest
    → StandsAt (labels_by P later) rest l → StandsAt (labels_by P (Apply (Calls d) count ∷ later)) number ((rule + 1) ∷ l)
label_on P d count later left number rule rest l parts at =
    let ls = labels_by P later in
    let rules = enumerate_from 1 (rules_of P d) in
    let before : ℕ × Rule → List (List ℕ) = λ r. map (λ k. r.0 ∷ k) ls in
    let any : ℕ × Rule = (0, record { left = []; right = Leaf (Free 0) }) in
    let long : (r : ℕ × Rule) → length (before r) ≡ choices_by P later = λ r. length-map ls (λ k. r.0 ∷ k) ∙ labels_counted P later in
    let found = placed before (choices_by P later) long rules rule rest any (omega (arith, parts.within, length-enumerate_from 1 (rules_of P d))) (omega (arith, parts.less)) in
    let is : (get_or rules rule any).0 ≡ rule + 1 = ap (λ (r : ℕ × Rule). r.0) (get_or-enumerate_from 1 (rules_of P d) rule any parts.within) ∙ (let same : 1 + rule ≡ rule + 1 = omega arith in same) in
    let shifted : drop rest (before (get_or rules rule any)) ≡ ((rule + 1) ∷ l) ∷ map (λ k. (rule + 1) ∷ k) at.0 =
    ap (λ n. drop rest (map (λ k. n ∷ k) ls)) is ∙ (drop-map (λ k. (rule + 1) ∷ k) rest ls ∙ ap (map (λ k. (rule + 1) ∷ k)) at.1) in
    (map (λ k. (rule + 1) ∷ k) at.0 ++ found.0, ap (λ n. drop n (labelled ls rules)) (sym parts.is) ∙ (found.1 ∙ ap (λ xs. xs ++ found.0) shifted))

-- So many rules of the choice of a number are taken: what is left of the number is that of a choice of the instructions that are left.
pub record IsTaken (P : Protocol) (whole later : List Instruction) (start : ℕ) (left number : ℕ) (rules : List ℕ) : Type 0 where
  pub counted : left ≡ choices_by P later
  pub within : number < left
  pub few : left ≤ most_choices
  pub stands : (l : List ℕ) → StandsAt (labels_by P later) number l → StandsAt (labels_by P whole) start (rules ++ l)

pub none_taken : (P : Protocol) (whole : List Instruction) (start count : ℕ) (rules : List ℕ) → rules ≡ [] → count ≡ choices_by P whole → count ≤ most_choices → start < count → IsTaken P whole whole start count start rules
none_taken P whole start count rules none counted few within = record {
  counted = counted;
  within = within;
  few = few;
  stands = λ l at. subst (λ (k : List ℕ). StandsAt (labels_by P whole) start k) (ap (λ k. k ++ l) (sym none)) at;
}

behind_fewer : (many behind most : ℕ) → 0 < many → many * behind ≤ most → behind ≤ most
behind_fewer zero behind most some few = absurd (omega (arith, some))
behind_fewer (suc many) behind most some few = omega (arith, few)

-- a destructor's rule is taken
pub one_taken : (P : Protocol) (whole later : List Instruction) (d count start left number next rule rest : ℕ) (rules more : List ℕ) → IsTaken P whole (Apply (Calls d) count ∷ later) start left number rules
    → IsSplit (length (rules_of P d)) (choices_by P later) next number rule rest → more ≡ rules ++ (rule + 1) ∷ [] → IsTaken P whole later start next rest more
one_taken P whole later d count start left number next rule rest rules more was parts are = record {
  counted = parts.same;
  within = omega (arith, parts.same, parts.less);
  few = (let fewer = behind_fewer (length (rules_of P d)) (choices_by P later) most_choices (omega (arith, parts.within)) (omega (arith, was.counted, was.few)) in omega (arith, fewer, parts.same));
  stands = λ l at. subst (λ (k : List ℕ). StandsAt (labels_by P whole) start k) (sym (append_assoc rules ((rule + 1) ∷ []) l) ∙ ap (λ k. k ++ l) (sym are))
      (was.stands ((rule + 1) ∷ l) (label_on P d count later next number rule rest l parts at));
}

-- all are taken
pub all_taken : (P : Protocol) (whole : List Instruction) (start left number : ℕ) (rules : List ℕ) → IsTaken P whole [] start left number rules → StandsAt (labels_by P whole) start rules
all_taken P whole start left number rules was =
    let zero_left : 0 ≡ number = omega (arith, was.within, was.counted) in
    subst (λ (k : List ℕ). StandsAt (labels_by P whole) start k) (append-nil rules) (was.stands [] (subst (λ n. StandsAt (labels_by P []) n []) zero_left ([], refl)))

-- the same, otherwise written
pub taken_same : (P : Protocol) (whole later : List Instruction) (start left number left_now number_now : ℕ) (rules rules_now : List ℕ) → left_now ≡ left → number_now ≡ number → rules_now ≡ rules → IsTaken P whole later start left number rules → IsTaken P whole later start left_now number_now rules_now
taken_same P whole later start left number left_now number_now rules rules_now lefts numbers are was =
    subst (λ n. IsTaken P whole later start n number_now rules_now) (sym lefts) (subst (λ n. IsTaken P whole later start left n rules_now) (sym numbers) (subst (λ l. IsTaken P whole later start left number l) (sym are) was))

-- an instruction that applies that destructor, and one that applies none
called_with : (x : Instruction) (d : ℕ) → called_by x ≡ Some d → (count : ℕ) × (x ≡ Apply (Calls d) count)
called_with (Push term) d e = absurd (let clash = e in cc)
called_with (Apply (Builds f) count) d e = absurd (let clash = e in cc)
called_with (Apply (Calls n) count) d e = (count, ap (λ (o : Option ℕ). Apply (Calls (unwrap_or o 0)) count) e)

none_called : (P : Protocol) (later whole : List Instruction) (start left number : ℕ) (rules : List ℕ) (x : Instruction) → called_by x ≡ None → IsTaken P whole (x ∷ later) start left number rules → IsTaken P whole later start left number rules
none_called P later whole start left number rules (Push term) e was = record { counted = was.counted; within = was.within; few = was.few; stands = was.stands }
none_called P later whole start left number rules (Apply (Builds f) count) e was = record { counted = was.counted; within = was.within; few = was.few; stands = was.stands }
none_called P later whole start left number rules (Apply (Calls d) count) e was = absurd (let clash = e in cc)

-- In the row of instructions of an expression, where that one is a destructor, ..
module _ (P : Protocol) (whole : List Instruction) (all : List code.Instruction) (i : ℕ) (instruction : code.Instruction) (start left number : ℕ) (rules : List ℕ) (within : i < length all) (is : instruction ≡ get_or all i instruction)
    (was : IsTaken P whole (map instruction_of (drop i all)) start left number rules) where
  abbrev later : List Instruction
  later = map instruction_of (drop (i + 1) all)

  taken_at : IsTaken P whole (instruction_of instruction ∷ later) start left number rules
  taken_at = subst (λ (l : List Instruction). IsTaken P whole l start left number rules) (first_left all i instruction within is) was

  taken_as : (here : Instruction) → instruction_of instruction ≡ here → IsTaken P whole (here ∷ later) start left number rules
  taken_as here same = subst (λ (x : Instruction). IsTaken P whole (x ∷ later) start left number rules) same taken_at

  pub call_split : (d found : ℕ) → called_by (instruction_of instruction) ≡ Some d → found ≡ length (rules_of P d) → IsSplit (length (rules_of P d)) (choices_by P later) (left / found) number (number / (left / found)) (number % (left / found))
  call_split d found call many =
      let with_count = called_with (instruction_of instruction) d call in
      let here = taken_as (Apply (Calls d) with_count.0) with_count.1 in
      split_number (length (rules_of P d)) (choices_by P later) left found number here.counted many here.within

  pub call_taken : (d found : ℕ) → called_by (instruction_of instruction) ≡ Some d → found ≡ length (rules_of P d) → (more : List ℕ) → more ≡ rules ++ (number / (left / found) + 1) ∷ [] → IsTaken P whole later start (left / found) (number % (left / found)) more
  call_taken d found call many more are =
      let with_count = called_with (instruction_of instruction) d call in
      one_taken P whole later d with_count.0 start left number (left / found) (number / (left / found)) (number % (left / found)) rules more (taken_as (Apply (Calls d) with_count.0) with_count.1) (call_split d found call many) are

  -- .. and where it is another
  pub other_taken : called_by (instruction_of instruction) ≡ None → IsTaken P whole later start left number rules
  other_taken other = none_called P later whole start left number rules (instruction_of instruction) other taken_at

pub end_taken : (P : Protocol) (whole : List Instruction) (all : List code.Instruction) (i start left number : ℕ) (rules : List ℕ) → length all ≤ i → IsTaken P whole (map instruction_of (drop i all)) start left number rules → StandsAt (labels_by P whole) start rules
end_taken P whole all i start left number rules past was =
    all_taken P whole start left number rules (subst (λ (l : List code.Instruction). IsTaken P whole (map instruction_of l) start left number rules) (drop_all i all past) was)

-- the number of a rule is no larger than that of the choice
pub rule_few : (many behind left number rule rest most : ℕ) → IsSplit many behind left number rule rest → number < most → rule < most
rule_few many zero left number rule rest most parts low = absurd (omega (arith, parts.some))
rule_few many (suc behind) left number rule rest most parts low = omega (arith, parts.is, low)

-- The label of a choice by its rules.
pub label_told : (P : Protocol) (e : Expression) (number : ℕ) (parts : List Instruction) (rules label : List ℕ) → parts ≡ instructions e → StandsAt (labels_by P parts) number rules → label ≡ label_of rules → IsLabelAt P e number label
label_told P e number parts rules label same at is =
    let numbers : List (List ℕ) = map (λ (c : Choice). c.rules) (choices P e) in
    let there : drop number numbers ≡ rules ∷ at.0 = ap (drop number) (sym (ap (labels_by P) same ∙ labels_are P e)) ∙ at.1 in (
      map label_of at.0,
      ap (drop number) (sym (map-map label_of (λ (c : Choice). c.rules) (choices P e)))
          ∙ (drop-map label_of number numbers ∙ (ap (map label_of) there ∙ ap (λ (l : List ℕ). l ∷ map label_of at.0) (sym is))),
    )

pub label_some : (rules : List ℕ) → eqb (length rules) 0 ≡ false → rules ≡ label_of rules
label_some [] some = absurd (let clash = some in cc)
label_some (n ∷ rules) some = refl

pub label_none : (rules items : List ℕ) → length rules ≡ 0 → items ≡ 0 ∷ [] → items ≡ label_of rules
label_none [] items none is = is
label_none (n ∷ rules) items none is = absurd (omega (arith, none))
