-- A label tells one choice: that which is read from it.
use Rattle.std.proofs.Common.{◌≡◌, ◌∙◌, ℕ, zero, suc, ◌+◌, true, false, Bool, List, [], ◌∷◌, ◌++◌, map, length, Option, None, Some, option_map, option_and_then, slice_get, Contains, ◌↔◌, refl, sym, ap, subst, append_assoc, arith}
use Rattle.std.specs.List.{AllByRecursion, enumerate_from}
use Rattle.std.proofs.lemmas.Slice.Eq.{bytes_eq-Decides}
use Rattle.spec_trees.specs.Tree.{Trees, Leaf, Node, none, more}
use Rattle.spec_calculus.specs.Syntax.{Term, Head, Builds, Calls, Expression, Rule, Ruled, Protocol}
use Rattle.spec_calculus.specs.Points.{numbered}
use Rattle.spec_calculus.specs.Values.{Value, Environment}
use Rattle.spec_calculus.specs.Matching.{rules_of}
use Rattle.spec_calculus.specs.Choices.{Choice, Choices, built_choice, called_choice, joined_choice, choices, row_choices, label_of, same_label, choice_at, ruled_value, value_at, values_at, applications}
use Rattle.spec_calculus.specs.Labels.{called_reading, read_rules, read_row}
use Rattle.spec_calculus.proofs.Items.{of_some, of_then, of_map, each-map, each-from_map, each-flat_map, each-from_flat_map, each-enumerated, each-from_enumerated, each-weaker, each-contains, each-listed, each-filter_map, found-passes, each-found, none-found}
use Rattle.spec_calculus.proofs.Points.{numbered-add-one}
use Rattle.spec_calculus.proofs.Choices.{choices_numbered}

-- a list in two parts, whose second is in two parts
split_twice : (numbers used rest last end : List ℕ) → numbers ≡ used ++ rest → rest ≡ last ++ end → numbers ≡ (used ++ last) ++ end
split_twice numbers used rest last end split split_too = split ∙ (ap (λ ns. used ++ ns) split_too ∙ sym (append_assoc used last end))

module _ (P : Protocol) where
  -- from the numbers of a choice, whatever follows, the choice is read, and what follows is left
  abbrev IsRead : Expression → Choice → Type 0
  IsRead e c = (rest : List ℕ) → read_rules P e (c.rules ++ rest) ≡ Some (c.ruled, rest)

  abbrev IsRowRead : Trees Term (Head ℕ) → Choices → Type 0
  IsRowRead parts c = (rest : List ℕ) → read_row P parts (c.rules ++ rest) ≡ Some (c.ruled, rest)

  called_read : (d : ℕ) (parts : Trees Term (Head ℕ)) (row : Choices) → IsRowRead parts row → AllByRecursion (IsRead (Node (Calls d) parts)) (map (called_choice row) (enumerate_from 1 (rules_of P d)))
  called_read d parts row read =
      each-map (IsRead (Node (Calls d) parts)) (called_choice row) (enumerate_from 1 (rules_of P d))
      (each-enumerated (λ p. IsRead (Node (Calls d) parts) (called_choice row p)) 1 (rules_of P d) one)
    where
      one : (i : ℕ) (rule : Rule) → slice_get (rules_of P d) i ≡ Some rule → IsRead (Node (Calls d) parts) (called_choice row (1 + i, rule))
      one i rule at rest =
          let next : 1 + i ≡ i + 1 = omega arith in
          let there : numbered (rules_of P d) (1 + i) ≡ Some rule = ap (numbered (rules_of P d)) next ∙ (numbered-add-one (rules_of P d) i ∙ at) in
          let reading : read_row P parts ((row.rules ++ (1 + i) ∷ []) ++ rest) ≡ Some (row.ruled, (1 + i) ∷ rest) =
          ap (read_row P parts) (append_assoc row.rules ((1 + i) ∷ []) rest) ∙ read ((1 + i) ∷ rest) in
          ap (option_and_then (called_reading (rules_of P d))) reading ∙ ap (option_map (λ r. (Node (Calls r) row.ruled, rest))) there

  joined_read : (part : Expression) (parts : Trees Term (Head ℕ)) (c : Choice) → IsRead part c → (row : Choices) → IsRowRead parts row → IsRowRead (more part parts) (joined_choice c row)
  joined_read part parts c read row others rest =
      let first : read_rules P part ((c.rules ++ row.rules) ++ rest) ≡ Some (c.ruled, row.rules ++ rest) =
      ap (read_rules P part) (append_assoc c.rules row.rules rest) ∙ read (row.rules ++ rest) in
      ap (option_and_then (λ a. option_map (λ b. (more a.0 b.0, b.1)) (read_row P parts a.1))) first
      ∙ ap (option_map (λ b. (more c.ruled b.0, b.1))) (others rest)

  mutual
    choices_read : (e : Expression) → AllByRecursion (IsRead e) (choices P e)
    choices_read (Leaf term) = ((λ rest. refl), tt)
    choices_read (Node (Builds f) parts) =
        each-map (IsRead (Node (Builds f) parts)) (built_choice f) (row_choices P parts)
        (each-weaker (IsRowRead parts) (λ row. IsRead (Node (Builds f) parts) (built_choice f row))
        (λ row read rest. ap (option_map (λ r. (Node (Builds f) r.0, r.1))) (read rest)) (row_choices P parts) (row_choices_read parts))
    choices_read (Node (Calls d) parts) =
        let called = λ (row : Choices). map (called_choice row) (enumerate_from 1 (rules_of P d)) in
        each-flat_map (IsRead (Node (Calls d) parts)) called (row_choices P parts)
        (each-weaker (IsRowRead parts) (λ row. AllByRecursion (IsRead (Node (Calls d) parts)) (called row)) (called_read d parts) (row_choices P parts) (row_choices_read parts))

    row_choices_read : (parts : Trees Term (Head ℕ)) → AllByRecursion (IsRowRead parts) (row_choices P parts)
    row_choices_read none = ((λ rest. refl), tt)
    row_choices_read (more part parts) =
        let joined = λ (first : Choice). map (joined_choice first) (row_choices P parts) in
        each-flat_map (IsRowRead (more part parts)) joined (choices P part)
        (each-weaker (IsRead part) (λ c. AllByRecursion (IsRowRead (more part parts)) (joined c))
        (λ c read. each-map (IsRowRead (more part parts)) (joined_choice c) (row_choices P parts)
        (each-weaker (IsRowRead parts) (λ row. IsRowRead (more part parts) (joined_choice c row)) (joined_read part parts c read) (row_choices P parts) (row_choices_read parts)))
        (choices P part) (choices_read part))

  -- What is read is a choice: all that holds of each choice holds of it.
  abbrev Reads : (Choice → Type 0) → List ℕ → Ruled × List ℕ → Type 0
  Reads Q numbers (ruled, rest) = (used : List ℕ) × (numbers ≡ used ++ rest) × Q (record { rules = used; ruled = ruled })

  abbrev RowReads : (Choices → Type 0) → List ℕ → Trees Term (Head Rule) × List ℕ → Type 0
  RowReads Q numbers (ruled, rest) = (used : List ℕ) × (numbers ≡ used ++ rest) × Q (record { rules = used; ruled = ruled })

  rule_found : (Q : Choice → Type 0) (rules : List Rule) (row : Choices) → AllByRecursion Q (map (called_choice row) (enumerate_from 1 rules)) → (number : ℕ) (rule : Rule) → numbered rules number ≡ Some rule → Q (called_choice row (number, rule))
  rule_found Q rules row h zero rule at = cc
  rule_found Q rules row h (suc i) rule at =
      let each = each-from_map Q (called_choice row) (enumerate_from 1 rules) h in
      let next : 1 + i ≡ suc i = omega arith in
      let R : ℕ → Type 0 = λ n. Q (called_choice row (n, rule)) in
      subst R next (each-from_enumerated (λ p. Q (called_choice row p)) 1 rules i rule each at)

  -- the number of the rule comes after those of the arguments
  called_found : (Q : Choice → Type 0) (rules : List Rule) (numbers used : List ℕ) (parts : Trees Term (Head Rule)) (rest : List ℕ) (out : Ruled × List ℕ) → numbers ≡ used ++ rest → AllByRecursion Q (map (called_choice (record { rules = used; ruled = parts })) (enumerate_from 1 rules)) → called_reading rules (parts, rest) ≡ Some out → Reads Q numbers out
  called_found Q rules numbers used parts [] out split h e = cc
  called_found Q rules numbers used parts (number ∷ rest) out split h e =
      let (rule, at, is) = of_map (λ rule. (Node (Calls rule) parts, rest)) (numbered rules number) out e in
      let row : Choices = record { rules = used; ruled = parts } in
      subst (Reads Q numbers) is (used ++ number ∷ [], split_twice numbers used (number ∷ rest) (number ∷ []) rest split refl, rule_found Q rules row h number rule at)

  mutual
    reading_finds : (Q : Choice → Type 0) (e : Expression) (numbers : List ℕ) (out : Ruled × List ℕ) → AllByRecursion Q (choices P e) → read_rules P e numbers ≡ Some out → Reads Q numbers out
    reading_finds Q (Leaf term) numbers out h e = subst (Reads Q numbers) (of_some (Leaf term, numbers) out e) ([], refl, h.0)
    reading_finds Q (Node (Builds f) parts) numbers out h e =
        let (row, found, is) = of_map (λ r. (Node (Builds f) r.0, r.1)) (read_row P parts numbers) out e in
        let (used, split, holds) = row_reading_finds (λ c. Q (built_choice f c)) parts numbers row (each-from_map Q (built_choice f) (row_choices P parts) h) found in
        subst (Reads Q numbers) is (used, split, holds)
    reading_finds Q (Node (Calls d) parts) numbers out h e =
        let called = λ (row : Choices). map (called_choice row) (enumerate_from 1 (rules_of P d)) in
        let (row, found, is) = of_then (called_reading (rules_of P d)) (read_row P parts numbers) out e in
        let (used, split, holds) = row_reading_finds (λ c. AllByRecursion Q (called c)) parts numbers row (each-from_flat_map Q called (row_choices P parts) h) found in
        called_found Q (rules_of P d) numbers used row.0 row.1 out split holds is

    row_reading_finds : (Q : Choices → Type 0) (parts : Trees Term (Head ℕ)) (numbers : List ℕ) (out : Trees Term (Head Rule) × List ℕ) → AllByRecursion Q (row_choices P parts) → read_row P parts numbers ≡ Some out → RowReads Q numbers out
    row_reading_finds Q none numbers out h e = subst (RowReads Q numbers) (of_some (none, numbers) out e) ([], refl, h.0)
    row_reading_finds Q (more part parts) numbers out h e =
        let joined = λ (c : Choice). map (joined_choice c) (row_choices P parts) in
        let (first, found, then_is) = of_then (λ a. option_map (λ b. (more a.0 b.0, b.1)) (read_row P parts a.1)) (read_rules P part numbers) out e in
        let (others, found_too, is) = of_map (λ b. (more first.0 b.0, b.1)) (read_row P parts first.1) out then_is in
        let (used, split, holds) = reading_finds (λ c. AllByRecursion Q (joined c)) part numbers first (each-from_flat_map Q joined (choices P part) h) found in
        let c : Choice = record { rules = used; ruled = first.0 } in
        let (last, split_too, holds_too) = row_reading_finds (λ row. Q (joined_choice c row)) parts first.1 others (each-from_map Q (joined_choice c) (row_choices P parts) holds) found_too in
        subst (RowReads Q numbers) is (used ++ last, split_twice numbers used first.1 last others.1 split split_too, holds_too)

  -- labels of choices with as many numbers
  label_of-injective : (ms ns : List ℕ) → length ms ≡ length ns → label_of ms ≡ label_of ns → ms ≡ ns
  label_of-injective [] [] h e = refl
  label_of-injective [] (n ∷ ns) h e = cc
  label_of-injective (m ∷ ms) [] h e = cc
  label_of-injective (m ∷ ms) (n ∷ ns) h e = e

  append_none : (ns : List ℕ) → ns ++ [] ≡ ns
  append_none [] = refl
  append_none (n ∷ ns) = ap (λ ms. n ∷ ms) (append_none ns)

  -- the choice of a label is read from its numbers to their end, and has that label
  pub label_is_read : (e : Expression) (label : List ℕ) (c : Choice) → choice_at P e label ≡ Some c → (read_rules P e c.rules ≡ Some (c.ruled, [])) × (label_of c.rules ≡ label)
  label_is_read e label c h =
      let test : Choice → Bool = λ d. same_label (label_of d.rules) label in
      let read = each-found test (IsRead e) (choices P e) c (choices_read e) h [] in
      (ap (read_rules P e) (sym (append_none c.rules)) ∙ read, (bytes_eq-Decides (label_of c.rules) label).0 (found-passes test (choices P e) c h))

  -- what is read from numbers to their end is the choice of their label
  pub reading_is_found : (e : Expression) (numbers : List ℕ) (ruled : Ruled) → read_rules P e numbers ≡ Some (ruled, []) → choice_at P e (label_of numbers) ≡ Some (record { rules = numbers; ruled = ruled })
  reading_is_found e numbers ruled h = go (choice_at P e (label_of numbers)) refl
    where
      test : Choice → Bool
      test d = same_label (label_of d.rules) (label_of numbers)

      all_used : (used : List ℕ) → numbers ≡ used ++ [] → used ≡ numbers
      all_used used split = sym (split ∙ append_none used)

      go : (o : Option Choice) → choice_at P e (label_of numbers) ≡ o → o ≡ Some (record { rules = numbers; ruled = ruled })
      go None found =
          let (used, split, fails) = reading_finds (λ d. test d ≡ false) e numbers (ruled, []) (none-found test (choices P e) found) h in
          let same : used ≡ numbers = all_used used split in
          let passes : test (record { rules = used; ruled = ruled }) ≡ true = (bytes_eq-Decides (label_of used) (label_of numbers)).1 (ap label_of same) in cc
      go (Some c) found =
          let (used, split, own) = reading_finds (λ d. length d.rules ≡ applications e) e numbers (ruled, []) (choices_numbered P e) h in
          let same : used ≡ numbers = all_used used split in
          let (read, label) = label_is_read e (label_of numbers) c found in
          let its = each-found test (λ d. length d.rules ≡ applications e) (choices P e) c (choices_numbered P e) found in
          let lengths : length c.rules ≡ length numbers = its ∙ (sym own ∙ ap length same) in
          let numbers_same : c.rules ≡ numbers = label_of-injective c.rules numbers lengths label in
          let both : Some (c.ruled, []) ≡ Some (ruled, []) = sym read ∙ (ap (read_rules P e) numbers_same ∙ h) in
          let ruled_same : c.ruled ≡ ruled = ap (λ p. p.0) (of_some (c.ruled, []) (ruled, []) both) in
          λ i. Some (record { rules = numbers_same i; ruled = ruled_same i })

  -- each choice is that of its label
  pub each_labelled : (e : Expression) → AllByRecursion (λ c. choice_at P e (label_of c.rules) ≡ Some c) (choices P e)
  each_labelled e =
      each-weaker (IsRead e) (λ c. choice_at P e (label_of c.rules) ≡ Some c)
      (λ c read. reading_is_found e c.rules c.ruled (ap (read_rules P e) (sym (append_none c.rules)) ∙ read [])) (choices P e) (choices_read e)

  -- the values of an expression are those of labels
  pub values_are_labelled : (environment : Environment) (e : Expression) (v : Value) → Contains (values_at P environment e) v ↔ ((label : List ℕ) × (value_at P environment e label ≡ Some v))
  values_are_labelled environment e v = (label_of_value, value_of_label)
    where
      IsLabelled : Value → Type 0
      IsLabelled w = (label : List ℕ) × (value_at P environment e label ≡ Some w)

      labelled : AllByRecursion IsLabelled (values_at P environment e)
      labelled =
          each-filter_map (λ c. ruled_value environment c.ruled) IsLabelled (choices P e)
          (each-weaker (λ c. choice_at P e (label_of c.rules) ≡ Some c) (λ c. (w : Value) → ruled_value environment c.ruled ≡ Some w → IsLabelled w)
          (λ c at w gives. (label_of c.rules, ap (option_and_then (λ d. ruled_value environment d.ruled)) at ∙ gives)) (choices P e) (each_labelled e))

      label_of_value : Contains (values_at P environment e) v → IsLabelled v
      label_of_value h = each-contains IsLabelled (values_at P environment e) v labelled h

      value_of_label : IsLabelled v → Contains (values_at P environment e) v
      value_of_label (label, is) =
          let (c, found, gives) = of_then (λ c. ruled_value environment c.ruled) (choice_at P e label) v is in
          each-found (λ d. same_label (label_of d.rules) label) (λ d. (w : Value) → ruled_value environment d.ruled ≡ Some w → Contains (values_at P environment e) w) (choices P e) c
          (each-listed (λ d. ruled_value environment d.ruled) (choices P e)) found v gives
