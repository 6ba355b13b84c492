-- What is read of a label is the value of the choice of that label.
use Rattle.std.proofs.Common.{◌≡◌, ◌∙◌, ℕ, zero, suc, Bool, true, false, ◌||◌, List, [], ◌∷◌, ◌++◌, Option, None, Some, option_map, option_and_then, refl, sym, ap, subst}
use Rattle.std.specs.List.{list_any}
use Rattle.std.specs.Option.{option_map_or, option_to_list}
use Rattle.std.proofs.lemmas.List.Folds.{list_any-append}
use Rattle.spec_trees.specs.Tree.{Trees, Leaf, Node, none, more, node}
use Rattle.spec_calculus.specs.Syntax.{Term, Head, Builds, Calls, Expression, Rule, Ruled, Protocol}
use Rattle.spec_calculus.specs.Points.{numbered}
use Rattle.spec_calculus.specs.Values.{Value, Environment, value_of}
use Rattle.spec_calculus.specs.Matching.{rule_value, rules_of}
use Rattle.spec_calculus.specs.Limits.{is_large}
use Rattle.spec_calculus.specs.Choices.{Choice, label_of, choice_at, value_at, head_value, ruled_value, ruled_values, part_values, row_part_values}
use Rattle.spec_calculus.specs.Labels.{called_reading, read_rules, read_row}
use Rattle.spec_calculus.proofs.Items.{of_some, of_then, of_map}
use Rattle.spec_calculus.proofs.Labels.{label_is_read, reading_is_found}
use Rattle.term_values.specs.Labelled.{Labelled, made, called, joined, labelled, labelled_row, numbers_of}

or_false : (b : Bool) → b ≡ (b || false)
or_false true = refl
or_false false = refl

then_none : {A B : Type 0} (o : Option A) → option_and_then {T = A} {U = B} (λ x. None) o ≡ None
then_none None = refl
then_none (Some x) = refl

module _ (environment : Environment) where
  -- the value of an expression with its rules, and whether a part of it is large
  abbrev told_of : Ruled → List ℕ → Option Value → Option (Labelled Value)
  told_of ruled rest o = option_map (λ v. record { value = v; large = list_any is_large (part_values environment ruled); numbers = rest }) o

  abbrev told : Ruled × List ℕ → Option (Labelled Value)
  told (ruled, rest) = told_of ruled rest (ruled_value environment ruled)

  abbrev row_told_of : Trees Term (Head Rule) → List ℕ → Option (List Value) → Option (Labelled (List Value))
  row_told_of row rest o = option_map (λ vs. record { value = vs; large = list_any is_large (row_part_values environment row); numbers = rest }) o

  abbrev row_told : Trees Term (Head Rule) × List ℕ → Option (Labelled (List Value))
  row_told (row, rest) = row_told_of row rest (ruled_values environment row)

  abbrev head_made : Head Rule → List ℕ → Labelled (List Value) → Option (Labelled Value)
  head_made head rest row = option_map (made row rest) (head_value head row.value)

  -- the value of a node is large, or that of a part
  made_large : (parts : List Value) (vs : List Value) (rest : List ℕ) (o : Option Value) → option_map (λ v. record { value = v; large = list_any is_large (parts ++ option_to_list o); numbers = rest }) o ≡ option_map (made (record { value = vs; large = list_any is_large parts; numbers = rest }) rest) o
  made_large parts vs rest None = refl
  made_large parts vs rest (Some v) =
      let e : list_any is_large (parts ++ v ∷ []) ≡ (list_any is_large parts || is_large v) = list_any-append is_large parts (v ∷ []) ∙ ap (λ b. list_any is_large parts || b) (sym (or_false (is_large v))) in
      ap (λ b. Some (record { value = v; large = b; numbers = rest })) e

  node_told : (head : Head Rule) (row : Trees Term (Head Rule)) (rest : List ℕ) → told (Node head row, rest) ≡ option_and_then (head_made head rest) (row_told (row, rest))
  node_told head row rest = go (ruled_values environment row)
    where
      go : (o : Option (List Value)) → option_map (λ v. record { value = v; large = list_any is_large (row_part_values environment row ++ option_to_list (option_and_then (head_value head) o)); numbers = rest }) (option_and_then (head_value head) o) ≡ option_and_then (head_made head rest) (row_told_of row rest o)
      go None = refl
      go (Some vs) = made_large (row_part_values environment row) vs rest (head_value head vs)

  -- the numbers that were left before a rule's was taken do not matter
  other_rest : (head : Head Rule) (row : Trees Term (Head Rule)) (rest other : List ℕ) (o : Option (List Value)) → option_and_then (head_made head rest) (row_told_of row rest o) ≡ option_and_then (head_made head rest) (row_told_of row other o)
  other_rest head row rest other None = refl
  other_rest head row rest other (Some vs) = refl

  called_told : (rules : List Rule) (row : Trees Term (Head Rule)) (rest : List ℕ) → option_and_then told (called_reading rules (row, rest)) ≡ option_and_then (λ r. called rules r r.numbers) (row_told (row, rest))
  called_told rules row [] = go (ruled_values environment row)
    where
      go : (o : Option (List Value)) → None ≡ option_and_then (λ r. called rules r r.numbers) (row_told_of row [] o)
      go None = refl
      go (Some vs) = refl
  called_told rules row (number ∷ rest) = go (numbered rules number) ∙ taken (ruled_values environment row)
    where
      by_rule : Option Rule → Labelled (List Value) → Option (Labelled Value)
      by_rule o r = option_map (made r rest) (option_and_then (λ rule. rule_value rule r.value) o)

      go : (o : Option Rule) → option_and_then told (option_map (λ rule. (Node (Calls rule) row, rest)) o) ≡ option_and_then (λ r. option_map (made r rest) (option_and_then (λ rule. rule_value rule r.value) o)) (row_told (row, number ∷ rest))
      go None = sym (then_none (row_told (row, number ∷ rest)))
      go (Some rule) = node_told (Calls rule) row rest ∙ other_rest (Calls rule) row rest (number ∷ rest) (ruled_values environment row)

      taken : (o : Option (List Value)) → option_and_then (λ r. option_map (made r rest) (option_and_then (λ rule. rule_value rule r.value) (numbered rules number))) (row_told_of row (number ∷ rest) o) ≡ option_and_then (λ r. called rules r r.numbers) (row_told_of row (number ∷ rest) o)
      taken None = refl
      taken (Some vs) = refl

  built_told : (head : Head Rule) (row : Trees Term (Head Rule)) (rest : List ℕ) (f : List Value → Value) → ((vs : List Value) → head_value head vs ≡ Some (f vs)) → told (Node head row, rest) ≡ option_map (λ r. made r r.numbers (f r.value)) (row_told (row, rest))
  built_told head row rest f gives = node_told head row rest ∙ go (ruled_values environment row)
    where
      go : (o : Option (List Value)) → option_and_then (head_made head rest) (row_told_of row rest o) ≡ option_map (λ r. made r r.numbers (f r.value)) (row_told_of row rest o)
      go None = refl
      go (Some vs) = ap (option_map (made (record { value = vs; large = list_any is_large (row_part_values environment row); numbers = rest }) rest)) (gives vs)

  joined_told : (first : Ruled) (row : Trees Term (Head Rule)) (between rest : List ℕ) → row_told (more first row, rest) ≡ option_and_then (λ l. option_map (joined l) (row_told (row, rest))) (told (first, between))
  joined_told first row between rest = go (ruled_value environment first) (ruled_values environment row)
    where
      go : (o : Option Value) (p : Option (List Value)) → row_told_of (more first row) rest (option_and_then (λ v. option_map (λ vs. v ∷ vs) p) o) ≡ option_and_then (λ l. option_map (joined l) (row_told_of row rest p)) (told_of first between o)
      go None p = refl
      go (Some v) None = refl
      go (Some v) (Some vs) = ap (λ b. Some (record { value = v ∷ vs; large = b; numbers = rest })) (list_any-append is_large (part_values environment first) (row_part_values environment row))

  module _ (P : Protocol) where
    mutual
      pub labelled_read : (e : Expression) (numbers : List ℕ) → option_and_then told (read_rules P e numbers) ≡ labelled P environment e numbers
      labelled_read (Leaf term) numbers = ap (λ b. Some (record { value = value_of environment term; large = b; numbers = numbers })) (sym (or_false (is_large (value_of environment term))))
      labelled_read (Node (Builds f) parts) numbers = go (read_row P parts numbers) ∙ ap (option_map (λ r. made r r.numbers (node f r.value))) (labelled_row_read parts numbers)
        where
          go : (o : Option (Trees Term (Head Rule) × List ℕ)) → option_and_then told (option_map (λ read. (Node (Builds f) read.0, read.1)) o) ≡ option_map (λ r. made r r.numbers (node f r.value)) (option_and_then row_told o)
          go None = refl
          go (Some (row, rest)) = built_told (Builds f) row rest (node f) (λ vs. refl)
      labelled_read (Node (Calls d) parts) numbers = go (read_row P parts numbers) ∙ ap (option_and_then (λ r. called (rules_of P d) r r.numbers)) (labelled_row_read parts numbers)
        where
          go : (o : Option (Trees Term (Head Rule) × List ℕ)) → option_and_then told (option_and_then (called_reading (rules_of P d)) o) ≡ option_and_then (λ r. called (rules_of P d) r r.numbers) (option_and_then row_told o)
          go None = refl
          go (Some (row, rest)) = called_told (rules_of P d) row rest

      labelled_row_read : (parts : Trees Term (Head ℕ)) (numbers : List ℕ) → option_and_then row_told (read_row P parts numbers) ≡ labelled_row P environment parts numbers
      labelled_row_read none numbers = refl
      labelled_row_read (more part parts) numbers =
          go (λ rest. labelled_row_read parts rest) (read_rules P part numbers) ∙ ap (option_and_then (λ l. option_map (joined l) (labelled_row P environment parts l.numbers))) (labelled_read part numbers)
        where
          inner : (first : Ruled) (rest : List ℕ) (o : Option (Trees Term (Head Rule) × List ℕ)) → option_and_then row_told (option_map (λ others. (more first others.0, others.1)) o) ≡ option_and_then (λ l. option_map (joined l) (option_and_then row_told o)) (told (first, rest))
          inner first rest None = sym (then_none (told (first, rest)))
          inner first rest (Some (row, left)) = joined_told first row rest left

          same_rest : (first : Ruled) (rest : List ℕ) (o : Option Value) → option_and_then row_told (read_row P parts rest) ≡ labelled_row P environment parts rest → option_and_then (λ l. option_map (joined l) (option_and_then row_told (read_row P parts rest))) (told_of first rest o) ≡ option_and_then (λ l. option_map (joined l) (labelled_row P environment parts l.numbers)) (told_of first rest o)
          same_rest first rest None e = refl
          same_rest first rest (Some v) e = ap (option_map (joined (record { value = v; large = list_any is_large (part_values environment first); numbers = rest }))) e

          go : ((rest : List ℕ) → option_and_then row_told (read_row P parts rest) ≡ labelled_row P environment parts rest) → (o : Option (Ruled × List ℕ)) → option_and_then row_told (option_and_then (λ first. option_map (λ others. (more first.0 others.0, others.1)) (read_row P parts first.1)) o) ≡ option_and_then (λ l. option_map (joined l) (labelled_row P environment parts l.numbers)) (option_and_then told o)
          go others None = refl
          go others (Some (first, rest)) = inner first rest (read_row P parts rest) ∙ same_rest first rest (ruled_value environment first) (others rest)

-- no rule has the number 0, so a reading takes none of numbers that begin with it
module _ (P : Protocol) where
  mutual
    none_taken : (e : Expression) (rest : List ℕ) (out : Ruled × List ℕ) → read_rules P e (0 ∷ rest) ≡ Some out → out.1 ≡ 0 ∷ rest
    none_taken (Leaf term) rest out h = sym (ap (λ p. p.1) (of_some (Leaf term, 0 ∷ rest) out h))
    none_taken (Node (Builds f) parts) rest out h =
        let (row, found, is) = of_map (λ read. (Node (Builds f) read.0, read.1)) (read_row P parts (0 ∷ rest)) out h in
        sym (ap (λ p. p.1) is) ∙ row_none_taken parts rest row found
    none_taken (Node (Calls d) parts) rest out h =
        let (row, found, is) = of_then (called_reading (rules_of P d)) (read_row P parts (0 ∷ rest)) out h in
        let left : row.1 ≡ 0 ∷ rest = row_none_taken parts rest row found in
        let stuck : called_reading (rules_of P d) (row.0, 0 ∷ rest) ≡ Some out = ap (λ l. called_reading (rules_of P d) (row.0, l)) (sym left) ∙ is in cc

    row_none_taken : (parts : Trees Term (Head ℕ)) (rest : List ℕ) (out : Trees Term (Head Rule) × List ℕ) → read_row P parts (0 ∷ rest) ≡ Some out → out.1 ≡ 0 ∷ rest
    row_none_taken none rest out h = sym (ap (λ p. p.1) (of_some (none, 0 ∷ rest) out h))
    row_none_taken (more part parts) rest out h =
        let (first, found, then_is) = of_then (λ a. option_map (λ b. (more a.0 b.0, b.1)) (read_row P parts a.1)) (read_rules P part (0 ∷ rest)) out h in
        let left : first.1 ≡ 0 ∷ rest = none_taken part rest first found in
        let (others, found_too, is) = of_map (λ b. (more first.0 b.0, b.1)) (read_row P parts first.1) out then_is in
        sym (ap (λ p. p.1) is) ∙ row_none_taken parts rest others (ap (read_row P parts) (sym left) ∙ found_too)

  not_empty : (n : ℕ) (ns : List ℕ) → ¬ ([] ≡ n ∷ ns)
  not_empty n ns h = cc

  -- the numbers of the choice of a label are those that the label tells
  numbers_told : (e : Expression) (label numbers : List ℕ) (c : Choice) → numbers_of label ≡ Some numbers → label_of c.rules ≡ label → read_rules P e c.rules ≡ Some (c.ruled, []) → read_rules P e numbers ≡ Some (c.ruled, [])
  numbers_told e label numbers c tells same read = go c.rules label same tells read
    where
      go : (rules label : List ℕ) → label_of rules ≡ label → numbers_of label ≡ Some numbers → read_rules P e rules ≡ Some (c.ruled, []) → read_rules P e numbers ≡ Some (c.ruled, [])
      go [] label same tells read =
          let e1 : Some [] ≡ Some numbers = ap numbers_of same ∙ tells in
          let e2 : [] ≡ numbers = of_some [] numbers e1 in ap (read_rules P e) (sym e2) ∙ read
      go (zero ∷ []) label same tells read = absurd (not_empty 0 [] (none_taken e [] (c.ruled, []) read))
      go (zero ∷ n ∷ ns) label same tells read =
          let e1 : Some (zero ∷ n ∷ ns) ≡ Some numbers = ap numbers_of same ∙ tells in
          let e2 : zero ∷ n ∷ ns ≡ numbers = of_some (zero ∷ n ∷ ns) numbers e1 in ap (read_rules P e) (sym e2) ∙ read
      go (suc n ∷ ns) label same tells read =
          let e1 : Some (suc n ∷ ns) ≡ Some numbers = ap numbers_of same ∙ tells in
          let e2 : suc n ∷ ns ≡ numbers = of_some (suc n ∷ ns) numbers e1 in ap (read_rules P e) (sym e2) ∙ read

  label_again : (label numbers : List ℕ) → numbers_of label ≡ Some numbers → label_of numbers ≡ label
  label_again [] numbers h = cc
  label_again (zero ∷ []) numbers h = let e : [] ≡ numbers = of_some [] numbers h in ap label_of (sym e)
  label_again (zero ∷ n ∷ ns) numbers h = let e : zero ∷ n ∷ ns ≡ numbers = of_some (zero ∷ n ∷ ns) numbers h in ap label_of (sym e)
  label_again (suc n ∷ ns) numbers h = let e : suc n ∷ ns ≡ numbers = of_some (suc n ∷ ns) numbers h in ap label_of (sym e)

  -- the choice of a label, from what is read
  choice_read : (e : Expression) (label numbers : List ℕ) (ruled : Ruled) → numbers_of label ≡ Some numbers → read_rules P e numbers ≡ Some (ruled, []) → choice_at P e label ≡ Some (record { rules = numbers; ruled = ruled })
  choice_read e label numbers ruled tells read = ap (choice_at P e) (sym (label_again label numbers tells)) ∙ reading_is_found P e numbers ruled read

  no_choice_read : (e : Expression) (label numbers : List ℕ) → numbers_of label ≡ Some numbers → ((ruled : Ruled) → ¬ (read_rules P e numbers ≡ Some (ruled, []))) → choice_at P e label ≡ None
  no_choice_read e label numbers tells fails = go (choice_at P e label) refl
    where
      go : (o : Option Choice) → choice_at P e label ≡ o → choice_at P e label ≡ None
      go None h = h
      go (Some c) h = let is = label_is_read P e label c h in absurd (fails c.ruled (numbers_told e label numbers c tells is.1 is.0))

  pub unlabelled : (environment : Environment) (e : Expression) (label : List ℕ) → numbers_of label ≡ None → value_at P environment e label ≡ None
  unlabelled environment e label h = ap (option_and_then (λ c. ruled_value environment c.ruled)) (go label h)
    where
      no_empty : (rules : List ℕ) → ¬ (label_of rules ≡ [])
      no_empty [] h = cc
      no_empty (n ∷ ns) h = cc

      go : (label : List ℕ) → numbers_of label ≡ None → choice_at P e label ≡ None
      go [] h = go_empty (choice_at P e []) refl
        where
          go_empty : (o : Option Choice) → choice_at P e [] ≡ o → choice_at P e [] ≡ None
          go_empty None h = h
          go_empty (Some c) h = absurd (no_empty c.rules (label_is_read P e [] c h).1)
      go (zero ∷ []) h = cc
      go (zero ∷ n ∷ ns) h = cc
      go (suc n ∷ ns) h = cc

  module _ (environment : Environment) (e : Expression) (label numbers : List ℕ) (told_by : numbers_of label ≡ Some numbers) where
    -- where the rules do not all apply
    pub none_labelled : labelled P environment e numbers ≡ None → value_at P environment e label ≡ None
    none_labelled h = go (read_rules P e numbers) refl
      where
        with_rest : (ruled : Ruled) (rest : List ℕ) → read_rules P e numbers ≡ Some (ruled, rest) → ruled_value environment ruled ≡ None → value_at P environment e label ≡ None
        with_rest ruled [] read gives = ap (option_and_then (λ c. ruled_value environment c.ruled)) (choice_read e label numbers ruled told_by read) ∙ gives
        with_rest ruled (n ∷ ns) read gives = ap (option_and_then (λ c. ruled_value environment c.ruled)) (no_choice_read e label numbers told_by (λ r f. let same : Some (ruled, n ∷ ns) ≡ Some (r, []) = sym read ∙ f in let rest : n ∷ ns ≡ [] = ap (λ p. p.1) (of_some (ruled, n ∷ ns) (r, []) same) in cc))

        valueless : (ruled : Ruled) (rest : List ℕ) (o : Option Value) → told_of environment ruled rest o ≡ None → o ≡ None
        valueless ruled rest None h = refl
        valueless ruled rest (Some v) h = cc

        go : (o : Option (Ruled × List ℕ)) → read_rules P e numbers ≡ o → value_at P environment e label ≡ None
        go None read = ap (option_and_then (λ c. ruled_value environment c.ruled)) (no_choice_read e label numbers told_by (λ r f. cc))
        go (Some (ruled, rest)) read =
            let told_none : told environment (ruled, rest) ≡ None = sym (ap (option_and_then (told environment)) read) ∙ (labelled_read environment P e numbers ∙ h) in
            with_rest ruled rest read (valueless ruled rest (ruled_value environment ruled) told_none)

    -- where they do
    abbrev IsTold : Labelled Value → Type 0
    IsTold l = (ruled : Ruled) × (read_rules P e numbers ≡ Some (ruled, l.numbers)) × (ruled_value environment ruled ≡ Some l.value) × (l.large ≡ list_any is_large (part_values environment ruled))

    is_told : (l : Labelled Value) → labelled P environment e numbers ≡ Some l → IsTold l
    is_told l h =
        let (read, found, is) = of_then (told environment) (read_rules P e numbers) l (labelled_read environment P e numbers ∙ h) in
        let (v, gives, made_so) = of_map (λ v. record { value = v; large = list_any is_large (part_values environment read.0); numbers = read.1 }) (ruled_value environment read.0) l is in
        subst IsTold made_so (read.0, found, gives, refl)

    pub left_labelled : (l : Labelled Value) (n : ℕ) (ns : List ℕ) → labelled P environment e numbers ≡ Some l → l.numbers ≡ n ∷ ns → value_at P environment e label ≡ None
    left_labelled l n ns h left =
        let (ruled, read, gives, large) = is_told l h in
        ap (option_and_then (λ c. ruled_value environment c.ruled)) (no_choice_read e label numbers told_by (λ r f. let same : Some (ruled, l.numbers) ≡ Some (r, []) = sym read ∙ f in let rest : l.numbers ≡ [] = ap (λ p. p.1) (of_some (ruled, l.numbers) (r, []) same) in cc))

    pub value_labelled : (l : Labelled Value) → labelled P environment e numbers ≡ Some l → l.numbers ≡ [] → Some l.value ≡ value_at P environment e label
    value_labelled l h left =
        let (ruled, read, gives, large) = is_told l h in
        sym (ap (option_and_then (λ c. ruled_value environment c.ruled)) (choice_read e label numbers ruled told_by (read ∙ ap (λ r. Some (ruled, r)) left)) ∙ gives)

    pub large_labelled : (l : Labelled Value) → labelled P environment e numbers ≡ Some l → l.numbers ≡ [] → l.large ≡ list_any is_large (option_map_or (λ c. part_values environment c.ruled) (choice_at P e label) [])
    large_labelled l h left =
        let (ruled, read, gives, large) = is_told l h in
        large ∙ sym (ap (λ o. list_any is_large (option_map_or (λ c. part_values environment c.ruled) o [])) (choice_read e label numbers ruled told_by (read ∙ ap (λ r. Some (ruled, r)) left)))
