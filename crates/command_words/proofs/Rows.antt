-- What the rows hold of the program's arguments, after a parse that has no fault.
use Rattle.std.proofs.Common.{◌≡◌, ◌∙◌, ◌&&◌, ◌||◌, ◌==◌, ◌≤◌, ℕ, Bool, true, false, not, cond, List, [], ◌∷◌, ◌++◌, length, Option, Some, None, refl, sym, ap, ap₂, subst, is_some, codes, append-nil, eqb-true, arith}
use Rattle.std.specs.Prelude.{◌^◌, ◌-◌, option_and_then, slice_get}
use Rattle.std.specs.List.{find, list_all}
use Rattle.std.specs.Option.{option_map_or}
use Rattle.std.specs.Str.{bytes_eq}
use Rattle.std.proofs.lemmas.List.Folds.{list_all-append}
use Rattle.std.proofs.lemmas.Slice.Eq.{bytes_eq-Decides}
use Rattle.std.specs.Str.Parse.{digits_value, without_leading_plus}
use Rattle.clap.specs.Facts.{explicit_source}
use Rattle.clap.specs.ValueTests.{is_unsigned_in}
use Rattle.clap.specs.declared.builder.value_parser.ValueParser.TheVariants.{Unsigned}
use Rattle.clap.specs.Kinds.{range_kinds}
use Rattle.clap.specs.Walk.{Row, Rule, Text, at_row, first_of, has_row, more_values, one_of, reading_by, row_text, used, with_default, without}
use Rattle.clap.specs.Faults.{use_fault, values_fault}
use Rattle.clap.specs.declared.builder.action.ArgAction.TheVariants.{Set}
use Rattle.clap.specs.declared.error.kind.ErrorKind.TheVariants.{ArgumentConflict, InvalidValue, WrongNumberOfValues}
use Rattle.clap.specs.declared.parser.matches.ValueSource.{ValueSource}
use Rattle.clap.specs.declared.parser.matches.ValueSource.TheVariants.{CommandLine, DefaultValue}
use Rattle.clap.proofs.ValueTestLemmas.{Accepts-accepts, accepts-Accepts}
use Rattle.clap.proofs.WalkLemmas.{both}
use Rattle.spec_calculus.specs.Bounds.{most_queries, most_budget, most_keys}
use Rattle.command_words.specs.Request.{number_of}
use Rattle.command_words.proofs.Walking.{neither}

-- the least and the greatest number that the argument takes, where its values are read as numbers
abbrev pub bounds_of : Text → Option (ℕ × ℕ)
bounds_of id = cond (bytes_eq id (codes "budget")) (Some (0, most_budget)) (cond (bytes_eq id (codes "query")) (Some (1, most_queries))
    (cond (bytes_eq id (codes "stages")) (Some (2, most_keys)) (cond (bytes_eq id (codes "format")) (Some (1, 2)) None)))

-- a number within these bounds
abbrev pub is_within : ℕ × ℕ → Option Text → Bool
is_within bounds None = false
is_within bounds (Some text) = is_unsigned_in bounds.0 bounds.1 text

-- the row has a value, which is such a number where one is wanted
abbrev pub good : Row → Bool
good r = is_some (slice_get r.values 0) && option_map_or (λ bounds. is_within bounds (row_text r)) (bounds_of r.id) true

-- 64 bits hold it
pub small_number : (least most : ℕ) → most ≤ 2 ^ 64 - 1 → (v : Text) → is_unsigned_in least most v ≡ true → is_unsigned_in 0 (2 ^ 64 - 1) v ≡ true
small_number least most fits v e =
    let h = accepts-Accepts false (Unsigned least most) v e in
    Accepts-accepts false (Unsigned 0 (2 ^ 64 - 1)) v (h.0, h.1, omega arith, omega (arith, fits, h.3))

small_there : (bounds : ℕ × ℕ) → bounds.1 ≤ 2 ^ 64 - 1 → (o : Option Text) → is_within bounds o ≡ true → is_some (option_and_then number_of o) ≡ true
small_there bounds fits None e = cc
small_there bounds fits (Some v) e = rw (small_number bounds.0 bounds.1 fits v e) refl

small_within : (bounds : ℕ × ℕ) → bounds.1 ≤ 2 ^ 64 - 1 → (o : Option Text) → is_within bounds o ≡ true → (n : ℕ) → option_and_then number_of o ≡ Some n → (bounds.0 ≤ n) × (n ≤ bounds.1)
small_within bounds fits None e n is = cc
small_within bounds fits (Some v) e n is =
    let h = accepts-Accepts false (Unsigned bounds.0 bounds.1) v e in
    let spelled : number_of v ≡ Some (digits_value 10 (without_leading_plus v)) = rw (small_number bounds.0 bounds.1 fits v e) refl in
    let both_ways : Some (digits_value 10 (without_leading_plus v)) ≡ Some n = sym spelled ∙ is in
    let same : digits_value 10 (without_leading_plus v) ≡ n = cc in
    (omega (arith, h.2, same), omega (arith, h.3, same))

-- ---- where an id has no row yet, its row joins at the end

at_none : (id : Text) (change : Row → List Row) (missing rows : List Row) → has_row id rows ≡ false → at_row id change missing rows ≡ rows ++ missing
at_none id change missing [] none = refl
at_none id change missing (r ∷ rs) none = go (bytes_eq r.id id) (at_none id change missing rs) none
  where
    go : (b : Bool) → (has_row id rs ≡ false → at_row id change missing rs ≡ rs ++ missing) → (b || has_row id rs) ≡ false
        → cond b (change r ++ rs) (r ∷ at_row id change missing rs) ≡ r ∷ (rs ++ missing)
    go true rest absent = cc
    go false rest absent = ap (λ xs. r ∷ xs) (rest absent)

joined : (a : Row) (rows : List Row) → list_all good rows ≡ true → good a ≡ true → list_all good (rows ++ a ∷ []) ≡ true
joined a rows all one = list_all-append good rows (a ∷ []) ∙ ap₂ (λ x y. x && (y && true)) all one

-- a new row, for an id that has none
abbrev pub row_from : Rule → ValueSource → Text → Row
row_from a source v = record {
  id = a.id;
  values = v ∷ [];
  count = None;
  source = Some source;
  reading = reading_by a;
}

-- ---- an argument of one value in each use, which may be used once

abbrev pub one_value : Rule → Rule
one_value a = record a { action = Some Set; range = Some (record { start_inclusive = 1; end_inclusive = 1 }) }

one_count : (n : ℕ) → range_kinds 1 1 n ≡ [] → n ≡ 1
one_count n e = go (n == 0) (1 == n) refl e
  where
    go : (a b : Bool) → (1 == n) ≡ b → cond a (InvalidValue ∷ []) (cond b [] (WrongNumberOfValues ∷ [])) ≡ [] → n ≡ 1
    go true b is none = cc
    go false false is none = cc
    go false true is none = sym (eqb-true 1 n is)

not_yet : (b : Bool) → cond (b && not false) (ArgumentConflict ∷ []) [] ≡ [] → b ≡ false
not_yet true e = cc
not_yet false e = refl

module _ (a : Rule) (passes : (v : Text) → values_fault (one_value a) (v ∷ []) ≡ [] → good (row_from (one_value a) CommandLine v) ≡ true) where
  pub one_keeps : (values : List Text) (rows : List Row) → use_fault false (one_value a) values rows ≡ [] → list_all good rows ≡ true
      → list_all good (used (one_value a) values rows) ≡ true
  one_keeps [] rows e g = cc
  one_keeps (v ∷ []) rows e g =
      let parts = neither (cond (has_row a.id rows && not false) (ArgumentConflict ∷ []) []) _ e in
      let none : has_row a.id rows ≡ false = not_yet _ parts.0 in
      let kept : without a.id rows ≡ rows = at_none a.id (λ _. []) [] rows none ∙ append-nil rows in
      let new = row_from (one_value a) CommandLine v in
      let is : used (one_value a) (v ∷ []) rows ≡ rows ++ new ∷ [] =
      ap (at_row a.id (more_values CommandLine (v ∷ [])) (new ∷ [])) kept ∙ at_none a.id (more_values CommandLine (v ∷ [])) (new ∷ []) rows none in
      subst (λ xs. list_all good xs ≡ true) (sym is) (joined new rows g (passes v parts.1))
  one_keeps (v ∷ w ∷ vs) rows e g =
      let parts = neither (range_kinds 1 1 (length (v ∷ w ∷ vs))) _ e in
      let count : length (v ∷ w ∷ vs) ≡ 1 = one_count _ parts.0 in
      absurd (omega arith)

-- with no default, its rows stay
pub kept_rows : (b : Bool) (rows : List Row) → list_all good rows ≡ true → list_all good (cond b rows rows) ≡ true
kept_rows true rows g = g
kept_rows false rows g = g

-- ---- what is read of the rows of an id

-- the row of an id, where there is one
found_good : (rows : List Row) (id : Text) → list_all good rows ≡ true → is_some (find (λ r. bytes_eq r.id id) rows) ≡ true
    → (r : Row) × (find (λ r. bytes_eq r.id id) rows ≡ Some r) × (r.id ≡ id) × (good r ≡ true)
found_good [] id g there = cc
found_good (x ∷ xs) id g there =
    let parts = both (good x) _ g in
    go (bytes_eq x.id id) refl parts.0 (found_good xs id parts.1) there
  where
    go : (b : Bool) → bytes_eq x.id id ≡ b → good x ≡ true
        → (is_some (find (λ r. bytes_eq r.id id) xs) ≡ true → (r : Row) × (find (λ r. bytes_eq r.id id) xs ≡ Some r) × (r.id ≡ id) × (good r ≡ true))
        → is_some (cond b (Some x) (find (λ r. bytes_eq r.id id) xs)) ≡ true
        → (r : Row) × (cond b (Some x) (find (λ r. bytes_eq r.id id) xs) ≡ Some r) × (r.id ≡ id) × (good r ≡ true)
    go true is one rest here = (x, refl, (bytes_eq-Decides x.id id).0 is, one)
    go false is one rest here = rest here

-- its first value is there
pub first_there : (rows : List Row) (id : Text) → list_all good rows ≡ true → is_some (find (λ r. bytes_eq r.id id) rows) ≡ true
    → is_some (first_of id rows) ≡ true
first_there rows id g there =
    let row = found_good rows id g there in
    ap (λ o. is_some (option_and_then (λ (r : Row). slice_get r.values 0) o)) row.1 ∙ (both (is_some (slice_get row.0.values 0)) _ row.3).0

bounded_passes : (o : Option (ℕ × ℕ)) (bounds : ℕ × ℕ) (holds : ℕ × ℕ → Bool) → o ≡ Some bounds → option_map_or holds o true ≡ true → holds bounds ≡ true
bounded_passes o bounds holds is e = sym (ap (λ (x : Option (ℕ × ℕ)). option_map_or holds x true) is) ∙ e

-- and is a number, where one is wanted
pub number_there : (rows : List Row) (id : Text) (bounds : ℕ × ℕ) → bounds_of id ≡ Some bounds → bounds.1 ≤ 2 ^ 64 - 1 → list_all good rows ≡ true
    → is_some (find (λ r. bytes_eq r.id id) rows) ≡ true → is_some (option_and_then number_of (one_of id rows)) ≡ true
number_there rows id bounds wanted fits g there =
    let row = found_good rows id g there in
    let is : bounds_of row.0.id ≡ Some bounds = ap bounds_of row.2 ∙ wanted in
    let parts = both (is_some (slice_get row.0.values 0)) _ row.3 in
    ap (λ o. is_some (option_and_then number_of (option_and_then row_text o))) row.1
    ∙ small_there bounds fits (row_text row.0) (bounded_passes _ bounds (λ b. is_within b (row_text row.0)) is parts.1)

-- which is within its bounds
pub number_within : (rows : List Row) (id : Text) (bounds : ℕ × ℕ) → bounds_of id ≡ Some bounds → bounds.1 ≤ 2 ^ 64 - 1 → list_all good rows ≡ true
    → is_some (find (λ r. bytes_eq r.id id) rows) ≡ true → (n : ℕ) → option_and_then number_of (one_of id rows) ≡ Some n → (bounds.0 ≤ n) × (n ≤ bounds.1)
number_within rows id bounds wanted fits g there n spelled =
    let row = found_good rows id g there in
    let is : bounds_of row.0.id ≡ Some bounds = ap bounds_of row.2 ∙ wanted in
    let parts = both (is_some (slice_get row.0.values 0)) _ row.3 in
    small_within bounds fits (row_text row.0) (bounded_passes _ bounds (λ b. is_within b (row_text row.0)) is parts.1) n
    (sym (ap (λ o. option_and_then number_of (option_and_then row_text o)) row.1) ∙ spelled)

-- what was given in the words has a row
pub given_there : (o : Option Row) → option_map_or (λ r. explicit_source r.source) o false ≡ true → is_some o ≡ true
given_there None e = e
given_there (Some r) e = refl

same_text : (t : Text) → bytes_eq t t ≡ true
same_text t = (bytes_eq-Decides t t).1 refl

-- an argument with a default has a row
pub default_there : (a : Rule) (v : Text) (rows : List Row) → is_some (find (λ r. bytes_eq r.id a.id) (with_default rows (record a { defaults = v ∷ [] }))) ≡ true
default_there a v rows = go (has_row a.id rows) refl
  where
    already : (xs : List Row) → has_row a.id xs ≡ true → is_some (find (λ r. bytes_eq r.id a.id) xs) ≡ true
    already [] e = e
    already (x ∷ xs) e = more (bytes_eq x.id a.id) (already xs) e
      where
        more : (b : Bool) → (has_row a.id xs ≡ true → is_some (find (λ r. bytes_eq r.id a.id) xs) ≡ true) → (b || has_row a.id xs) ≡ true
            → is_some (cond b (Some x) (find (λ r. bytes_eq r.id a.id) xs)) ≡ true
        more true rest here = refl
        more false rest here = rest here

    last : (x : Row) (xs : List Row) → bytes_eq x.id a.id ≡ true → is_some (find (λ r. bytes_eq r.id a.id) (xs ++ x ∷ [])) ≡ true
    last x [] e = rw e refl
    last x (y ∷ ys) e = more (bytes_eq y.id a.id) (last x ys e)
      where
        more : (b : Bool) → is_some (find (λ r. bytes_eq r.id a.id) (ys ++ x ∷ [])) ≡ true → is_some (cond b (Some y) (find (λ r. bytes_eq r.id a.id) (ys ++ x ∷ []))) ≡ true
        more true rest = refl
        more false rest = rest

    go : (b : Bool) → has_row a.id rows ≡ b
        → is_some (find (λ r. bytes_eq r.id a.id) (cond b rows (at_row a.id (more_values DefaultValue (v ∷ [])) (row_from a DefaultValue v ∷ []) rows))) ≡ true
    go true is = already rows is
    go false is = subst (λ xs. is_some (find (λ r. bytes_eq r.id a.id) xs) ≡ true)
        (sym (at_none a.id (more_values DefaultValue (v ∷ [])) (row_from a DefaultValue v ∷ []) rows is))
        (last (row_from a DefaultValue v) rows (same_text a.id))

-- what has a row has one behind a default of another argument
pub still_found : (a : Rule) (v : Text) (rows : List Row) (p : Row → Bool) → is_some (find p rows) ≡ true → is_some (find p (with_default rows (record a { defaults = v ∷ [] }))) ≡ true
still_found a v rows p there = go (has_row a.id rows) refl
  where
    front : (xs ys : List Row) → is_some (find p xs) ≡ true → is_some (find p (xs ++ ys)) ≡ true
    front [] ys e = cc
    front (x ∷ xs) ys e = more (p x) (front xs ys) e
      where
        more : (b : Bool) → (is_some (find p xs) ≡ true → is_some (find p (xs ++ ys)) ≡ true) → is_some (cond b (Some x) (find p xs)) ≡ true
            → is_some (cond b (Some x) (find p (xs ++ ys))) ≡ true
        more true rest here = refl
        more false rest here = rest here

    go : (b : Bool) → has_row a.id rows ≡ b
        → is_some (find p (cond b rows (at_row a.id (more_values DefaultValue (v ∷ [])) (row_from a DefaultValue v ∷ []) rows))) ≡ true
    go true is = there
    go false is = subst (λ xs. is_some (find p xs) ≡ true)
        (sym (at_none a.id (more_values DefaultValue (v ∷ [])) (row_from a DefaultValue v ∷ []) rows is)) (front rows (row_from a DefaultValue v ∷ []) there)

-- a default that is good keeps the rows good
pub default_good : (a : Rule) (v : Text) (rows : List Row) → good (row_from a DefaultValue v) ≡ true → list_all good rows ≡ true
    → list_all good (with_default rows (record a { defaults = v ∷ [] })) ≡ true
default_good a v rows one g = go (has_row a.id rows) refl
  where
    go : (b : Bool) → has_row a.id rows ≡ b
        → list_all good (cond b rows (at_row a.id (more_values DefaultValue (v ∷ [])) (row_from a DefaultValue v ∷ []) rows)) ≡ true
    go true is = g
    go false is = subst (λ xs. list_all good xs ≡ true)
        (sym (at_none a.id (more_values DefaultValue (v ∷ [])) (row_from a DefaultValue v ∷ []) rows is)) (joined (row_from a DefaultValue v) rows g one)
