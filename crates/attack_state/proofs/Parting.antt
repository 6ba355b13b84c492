-- Parts of a value that are listed one after another, each followed by its own.
use Rattle.std.proofs.Common.{◌≡◌, ℕ, ◌+◌, ◌<◌, ◌≤◌, List, [], ◌∷◌, ◌++◌, length, map, take, drop, get_or, true, false, Option, Some, None, option_map, slice_get, refl, sym, ap, ◌∙◌, arith, length-append, append_assoc}
use Rattle.std.proofs.lemmas.List.{length-map, map-append, drop_more, take_more, take-append-drop}
use Rattle.std.proofs.lemmas.Option.{slice_get-map, slice_get_read, slice_get_past}
use Rattle.std.specs.Option.{option_map_or}
use Rattle.spec_trees.specs.Tree.{Trees, more, trees}
use Rattle.spec_calculus.specs.Syntax.{Symbol, Protocol}
use Rattle.spec_calculus.specs.Values as calculus
use Rattle.spec_calculus.specs.Values.{Atom}
use Rattle.spec_calculus.specs.Runs.{Step, Part}
use Rattle.pi_tree.specs.declared.value_trees.Value.{Value}
use Rattle.pi_tree.specs.Values.{value_of}
use Rattle.term_values.proofs.Items.{numbered-index}
use Rattle.spec_attack_runs.specs.Attack.{most_steps}
use Rattle.spec_attack_runs.specs.Compiling.{State, new_parts, parts_of, row_parts_of}
use Rattle.attack_state.specs.Parts.{part_step, Adds, with_parts}
use Rattle.attack_state.proofs.Stepping.{all_stepped-length}

-- the values from an index on
pub values_at : (values : List Value) (i : ℕ) (v : Value) → v ≡ get_or values i v → i < length values → trees (map value_of (drop i values)) ≡ more (value_of v) (trees (map value_of (drop (i + 1) values)))
values_at values i v is within =
    ap (λ (l : List Value). trees (map value_of l)) (drop_more values i v within) ∙ ap (λ (x : Value). more (value_of x) (trees (map value_of (drop (i + 1) values)))) (sym is)

module _ (P : Protocol) (place : ℕ) where
  shuffled : (xs own rest : List Step) (x : Step) → ((xs ++ x ∷ []) ++ own) ++ rest ≡ xs ++ x ∷ (own ++ rest)
  shuffled xs own rest x = append_assoc (xs ++ x ∷ []) own rest ∙ append_assoc xs (x ∷ []) (own ++ rest)

  -- one more part, and its own
  pub row_more : (first i : ℕ) (v : calculus.Value) (vs : Trees Atom Symbol) (old pushed new : List (ℕ × ℕ)) → pushed ≡ old ++ (place, i) ∷ []
      → map part_step new ≡ map part_step pushed ++ parts_of P (first + length pushed) (first + length pushed + 1) v
      → map part_step new ++ row_parts_of P place (i + 1) (first + length new + 1) vs ≡ map part_step old ++ row_parts_of P place i (first + length old + 1) (more v vs)
  row_more first i v vs old pushed new push added =
      let counted : length pushed ≡ length old + 1 = ap length push ∙ length-append old ((place, i) ∷ []) in
      let here : first + length pushed ≡ first + length old + 1 = omega (arith, counted) in
      let own : List Step = parts_of P (first + length old + 1) (first + length old + 1 + 1) v in
      let same : parts_of P (first + length pushed) (first + length pushed + 1) v ≡ own = ap (λ (n : ℕ). parts_of P n (n + 1) v) here in
      let listed : map part_step new ≡ (map part_step old ++ Part place i ∷ []) ++ own =
      added ∙ (ap (λ l. l ++ parts_of P (first + length pushed) (first + length pushed + 1) v) (ap (map part_step) push ∙ map-append part_step old ((place, i) ∷ [])) ∙ ap (λ l. (map part_step old ++ Part place i ∷ []) ++ l) same) in
      let long : length new ≡ (length old + 1) + length own =
      sym (length-map new part_step) ∙ (ap length listed ∙ (length-append (map part_step old ++ Part place i ∷ []) own ∙ ap (λ n. n + length own) (length-append (map part_step old) (Part place i ∷ []) ∙ ap (λ n. n + 1) (length-map old part_step)))) in
      let next : first + length new + 1 ≡ (first + length old + 1) + 1 + length own = omega (arith, long) in
      ap (λ l. l ++ row_parts_of P place (i + 1) (first + length new + 1) vs) listed
      ∙ (ap (λ n. ((map part_step old ++ Part place i ∷ []) ++ own) ++ row_parts_of P place (i + 1) n vs) next
      ∙ shuffled (map part_step old) own (row_parts_of P place (i + 1) ((first + length old + 1) + 1 + length own) vs) (Part place i))

  -- nothing is taken off the list
  pub row_longer : (own : List Step) (pushed new : List (ℕ × ℕ)) → map part_step new ≡ map part_step pushed ++ own → length pushed ≤ length new
  row_longer own pushed new added = let long = ap length added ∙ length-append (map part_step pushed) own in omega (arith, long, length-map new part_step, length-map pushed part_step)

  -- what is left begins with the next value
  pub row_ahead : (values : List Value) (k i next : ℕ) (v : Value) (xs ys : List Step) → v ≡ get_or values k v → k < length values → xs ++ row_parts_of P place i next (trees (map value_of (drop k values))) ≡ ys
      → xs ++ row_parts_of P place i next (more (value_of v) (trees (map value_of (drop (k + 1) values)))) ≡ ys
  row_ahead values k i next v xs ys is within e = ap (λ (vs : Trees Atom Symbol). xs ++ row_parts_of P place i next vs) (sym (values_at values k v is within)) ∙ e

  -- the parts of values that are the same
  pub row_seen : (next : ℕ) (xs ys : List Step) (vs ws : List calculus.Value) → xs ≡ ys ++ row_parts_of P place 1 next (trees vs) → vs ≡ ws → xs ≡ ys ++ row_parts_of P place 1 next (trees ws)
  row_seen next xs ys vs ws e same = e ∙ ap (λ (l : List calculus.Value). ys ++ row_parts_of P place 1 next (trees l)) same

  -- how long what is listed is, and what is to be listed
  long_so_far : (xs ys : List Step) (old now : List (ℕ × ℕ)) → map part_step now ++ xs ≡ map part_step old ++ ys → length now + length xs ≡ length old + length ys
  long_so_far xs ys old now e =
      ap (λ n. n + length xs) (sym (length-map now part_step)) ∙ (sym (length-append (map part_step now) xs) ∙ (ap length e ∙ (length-append (map part_step old) ys ∙ ap (λ n. n + length ys) (length-map old part_step))))

  -- there is one more than are told
  pub row_full : (next i : ℕ) (v : calculus.Value) (vs : Trees Atom Symbol) (ys : List Step) (old now : List (ℕ × ℕ)) → most_steps ≤ length now → map part_step now ++ row_parts_of P place i next (more v vs) ≡ map part_step old ++ ys → most_steps < length old + length ys
  row_full next i v vs ys old now full e = let long = long_so_far (row_parts_of P place i next (more v vs)) ys old now e in omega (arith, long, full)

  -- the parts of the next part are more than are told
  pub row_own_full : (first i : ℕ) (v : calculus.Value) (vs : Trees Atom Symbol) (ys : List Step) (old now pushed : List (ℕ × ℕ)) → pushed ≡ now ++ (place, i) ∷ []
      → most_steps < length pushed + length (parts_of P (first + length pushed) (first + length pushed + 1) v)
      → map part_step now ++ row_parts_of P place i (first + length now + 1) (more v vs) ≡ map part_step old ++ ys → most_steps < length old + length ys
  row_own_full first i v vs ys old now pushed push full e =
      let counted : length pushed ≡ length now + 1 = ap length push ∙ length-append now ((place, i) ∷ []) in
      let here : first + length pushed ≡ first + length now + 1 = omega (arith, counted) in
      let own : List Step = parts_of P (first + length now + 1) (first + length now + 1 + 1) v in
      let same : length (parts_of P (first + length pushed) (first + length pushed + 1) v) ≡ length own = ap (λ (n : ℕ). length (parts_of P n (n + 1) v)) here in
      let rest : List Step = row_parts_of P place (i + 1) ((first + length now + 1) + 1 + length own) vs in
      let long = long_so_far (Part place i ∷ (own ++ rest)) ys old now e in
      omega (arith, long, full, counted, same, length-append own rest)

-- what is taken apart: the value that became known, or nothing where none did
pub parts_there : (P : Protocol) (before : ℕ) (st : State) (known : List calculus.Value) (v : calculus.Value) → known ≡ st.configuration.known → slice_get known before ≡ Some v → new_parts P before st ≡ parts_of P (before + 1) (before + 2) v
parts_there P before st known v e at =
    ap (λ (o : Option calculus.Value). option_map_or (parts_of P (before + 1) (before + 2)) o []) (numbered-index st.configuration.known (before + 1) before (omega arith) (omega arith) ∙ (ap (λ (vs : List calculus.Value). slice_get vs before) (sym e) ∙ at))

pub parts_nowhere : (P : Protocol) (before : ℕ) (st : State) (known : List calculus.Value) → known ≡ st.configuration.known → slice_get known before ≡ None → new_parts P before st ≡ []
parts_nowhere P before st known e at =
    ap (λ (o : Option calculus.Value). option_map_or (parts_of P (before + 1) (before + 2)) o []) (numbered-index st.configuration.known (before + 1) before (omega arith) (omega arith) ∙ (ap (λ (vs : List calculus.Value). slice_get vs before) (sym e) ∙ at))

-- the value that is known there, and none
pub known_there : (items : List Value) (known : List calculus.Value) (n : ℕ) (v : Value) → map value_of items ≡ known → n < length items → v ≡ get_or items n v → slice_get known n ≡ Some (value_of v)
known_there items known n v e within is =
    ap (λ (vs : List calculus.Value). slice_get vs n) (sym e) ∙ (slice_get-map value_of items n ∙ ap (option_map value_of) (slice_get_read items (length items) n v refl within is))

pub known_nowhere : (items : List Value) (known : List calculus.Value) (n : ℕ) → map value_of items ≡ known → length items ≤ n → slice_get known n ≡ None
known_nowhere items known n e past = ap (λ (vs : List calculus.Value). slice_get vs n) (sym e) ∙ (slice_get-map value_of items n ∙ ap (option_map value_of) (slice_get_past items n past))

-- what was added to an empty list of parts
pub added_all : (P : Protocol) (before : ℕ) (v : calculus.Value) (old new : List (ℕ × ℕ)) → old ≡ [] → Adds (parts_of P (before + 1) (before + 1 + length old + 1) v) old new true → map part_step new ≡ parts_of P (before + 1) (before + 2) v
added_all P before v old new empty added =
    let count : length old ≡ 0 = ap length empty in
    let next : before + 1 + length old + 1 ≡ before + 2 = omega (arith, count) in
    added ∙ (ap (λ (l : List (ℕ × ℕ)). map part_step l ++ parts_of P (before + 1) (before + 1 + length old + 1) v) empty ∙ ap (λ (n : ℕ). parts_of P (before + 1) n v) next)

pub added_many : (P : Protocol) (before : ℕ) (v : calculus.Value) (old new : List (ℕ × ℕ)) → old ≡ [] → Adds (parts_of P (before + 1) (before + 1 + length old + 1) v) old new false → most_steps < length (parts_of P (before + 1) (before + 2) v)
added_many P before v old new empty many =
    let count : length old ≡ 0 = ap length empty in
    let next : before + 1 + length old + 1 ≡ before + 2 = omega (arith, count) in
    let same : length (parts_of P (before + 1) (before + 1 + length old + 1) v) ≡ length (parts_of P (before + 1) (before + 2) v) = ap (λ (n : ℕ). length (parts_of P (before + 1) n v)) next in
    omega (arith, many, same, count)

-- there are too many parts
pub parts_stuck : (P : Protocol) (before : ℕ) (st : State) (steps : List Step) → new_parts P before st ≡ steps → most_steps < length steps → (next : State) → with_parts P before st ≡ Some next → most_steps < length next.steps
parts_stuck P before st steps e many next h =
    let long = all_stepped-length P (new_parts P before st) st next h in
    let same : length (new_parts P before st) ≡ length steps = ap length e in
    omega (arith, long, same, many)

-- the steps that take the parts, up to one and behind it
pub parted : (parts : List (ℕ × ℕ)) (i : ℕ) (x : ℕ × ℕ) → x ≡ get_or parts i x → i < length parts → map part_step parts ≡ map part_step (take i parts) ++ part_step x ∷ map part_step (drop (i + 1) parts)
parted parts i x is within =
    let whole : parts ≡ take i parts ++ x ∷ drop (i + 1) parts = sym (take-append-drop i parts) ∙ ap (λ l. take i parts ++ l) (drop_more parts i x within ∙ ap (λ (y : ℕ × ℕ). y ∷ drop (i + 1) parts) (sym is)) in
    ap (map part_step) whole ∙ map-append part_step (take i parts) (x ∷ drop (i + 1) parts)

pub parted_more : (parts : List (ℕ × ℕ)) (i : ℕ) (x : ℕ × ℕ) → x ≡ get_or parts i x → i < length parts → map part_step (take (i + 1) parts) ≡ map part_step (take i parts) ++ part_step x ∷ []
parted_more parts i x is within =
    let more : take (i + 1) parts ≡ take i parts ++ x ∷ [] = take_more parts i x within ∙ ap (λ (y : ℕ × ℕ). take i parts ++ y ∷ []) (sym is) in
    ap (map part_step) more ∙ map-append part_step (take i parts) (x ∷ [])
