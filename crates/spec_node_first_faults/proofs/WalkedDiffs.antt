-- Constraints by numbers: a reader of them goes on with the walk, and tells the first fault.
use Rattle.std.proofs.Common.{◌≡◌, ◌≢◌, ℕ, ◌≤◌, ◌==◌, ◌⊎◌, inl, inr, if◌then◌else◌, Bool, true, false, List, [], ◌∷◌, ◌++◌, map, length, codes, refl, sym, ◌∙◌, ap, subst, arith, length-append}
use Rattle.std.proofs.lemmas.List.{length-map}
use Rattle.spec_calculus.specs.Syntax.{Protocol}
use Rattle.spec_terms.specs.Term.{Term}
use Rattle.spec_clauses.proofs.Lists.{all_append}
use Rattle.spec_certificate_text.specs.Sides.{SidesOf}
use Rattle.spec_certificate_text.specs.OfProtocol.{IsShort, HasNames}
use Rattle.spec_certificate_text.specs.Terms.{Code, Syntax, Number, Symbol, Arity, Count, NodeOrder, NodeLarge}
use Rattle.spec_certificate_text.specs.Outcomes.{Outcome, Found, Faulty, next, Reader, read_fixed}
use Rattle.spec_certificate_text.specs.Facts.{paired}
use Rattle.spec_certificate_text.proofs.Parts.{Finds, parts, joined, fixed_found, other_byte, same_byte}
use Rattle.spec_first_faults.specs.Kinds as plain
use Rattle.spec_first_faults.specs.Kinds.{fixed}
use Rattle.spec_first_faults.proofs.Tells.{Anything, GoesPastIt, mapped, shorter, extends_to}
use Rattle.spec_first_faults.proofs.Behind.{first_extends, then_read}
use Rattle.spec_first_faults.proofs.Small.{fixed_forms}
use Rattle.spec_first_faults.proofs.Marked.{judged, checked, IsJudged, Judges}
use Rattle.spec_node_tables.specs.Nodes.{term_at}
use Rattle.spec_node_tables.specs.Text.{number_text, terms_text, sides_over}
use Rattle.spec_node_reading.specs.Kinds.{KindIn, in_state, behind}
use Rattle.spec_node_reading.specs.Walked.{Walked, with_signs, MayFollowAll}
use Rattle.spec_node_reading.specs.Loops.{Behind, with}
use Rattle.spec_node_reading.specs.Facts.{sides_before, pairings, DiffFault, diffs}
use Rattle.spec_node_reading.specs.ReadClauses.{read_sides, read_diff}
use Rattle.spec_node_reading.proofs.Parts.{past_all, numbers_go}
use Rattle.spec_node_reading.proofs.FactsFound.{whole_row-found, follow_first, follow_second}
use Rattle.spec_node_reading.proofs.FactsThere.{sides_were_read}
use Rattle.spec_node_first_faults.proofs.InState.{FormsIn, TellsIn, same_tells-in, both_forms-in, both_tell-in}
use Rattle.spec_node_first_faults.proofs.InClosed.{mapped_tells-in, opened_forms, opened_tells, marked_forms-in, marked_tells-in}
use Rattle.spec_node_first_faults.proofs.InRows.{walked_of}
use Rattle.spec_node_first_faults.proofs.WalkedNumbers.{sides_forms, sides_tell}

-- Whether both sides are as many.

abbrev made : List Term → Behind (List Term) → Behind (SidesOf Term)
made left right = with (record { left = left; right = right.value }) right.walked

judge_sides : Behind (SidesOf Term) → Code ⊎ Behind (SidesOf Term)
judge_sides x = if length x.value.left == length x.value.right then inr x else inl Arity

unpaired_judged : (x : Behind (SidesOf Term)) → length x.value.left ≢ length x.value.right → judge_sides x ≡ inl Arity
unfolding judge_sides
unpaired_judged x other = ap (λ t. if t then inr x else inl Arity) (other_byte (length x.value.left) (length x.value.right) other)

judged_unpaired : (x : Behind (SidesOf Term)) (code : Code) → judge_sides x ≡ inl code → (length x.value.left ≢ length x.value.right) × (code ≡ Arity)
unfolding judge_sides
judged_unpaired x code e = by (length x.value.left == length x.value.right) refl e
  where
    by : (t : Bool) → (length x.value.left == length x.value.right) ≡ t → (if t then inr x else inl Arity) ≡ inl code → (length x.value.left ≢ length x.value.right) × (code ≡ Arity)
    by true same told = absurd (cc)
    by false other told = let codes : Arity ≡ code = cc in (λ same. let never : true ≡ false = sym (same_byte (length x.value.left)) ∙ (ap (λ n. length x.value.left == n) same ∙ other) in cc, sym codes)

judged_keeps : (x y : Behind (SidesOf Term)) → judge_sides x ≡ inr y → y.walked ≡ x.walked
unfolding judge_sides
judged_keeps x y e = by (length x.value.left == length x.value.right) e
  where
    by : (t : Bool) → (if t then inr x else inl Arity) ≡ inr y → y.walked ≡ x.walked
    by true told = let same : x ≡ y = cc in ap walked_of (sym same)
    by false told = absurd (cc)

module _ (P : Protocol) (names : HasNames P) (table : List Term) where
  -- Both rows of sides, whatever their numbers.

  abbrev lefts : KindIn Walked
  lefts = sides_before P table (codes ";")

  abbrev rights : KindIn Walked
  rights = sides_before P table (codes ")")

  abbrev both_rows : KindIn Walked
  both_rows = behind lefts rights

  abbrev right_row : Behind (List Term) → Reader (Behind (SidesOf Term))
  right_row left = mapped (λ right. made left.value right) (read_sides P table (codes ")") left.walked)

  abbrev rows_read : Walked → Reader (Behind (SidesOf Term))
  rows_read w = then_read (read_sides P table (codes ";") w) (λ _ left. right_row left)

  abbrev sides_read : Walked → Reader (Behind (SidesOf Term))
  sides_read w = then_read (read_fixed (codes "diff(")) (λ _ _. rows_read (with_signs 1 w))

  lefts_forms : FormsIn lefts Anything
  lefts_forms = sides_forms P table 59 record { no_digit = refl; no_comma = refl }

  rights_forms : FormsIn rights Anything
  rights_forms = sides_forms P table 41 record { no_digit = refl; no_comma = refl }

  rows_forms : FormsIn both_rows Anything
  rows_forms = both_forms-in lefts rights Anything Anything lefts_forms rights_forms (λ bs rest text. tt)

  pairings_forms : FormsIn (pairings P table) Anything
  pairings_forms = opened_forms (codes "diff(") (with_signs 1) both_rows Anything rows_forms

  right_tells : (left : Behind (List Term)) → TellsIn rights left.walked Anything Anything walked_of (right_row left)
  right_tells left =
      mapped_tells-in rights left.walked Anything Anything walked_of walked_of (read_sides P table (codes ")") left.walked) (λ right. made left.value right) (λ right. refl)
      (sides_tell P table 41 record { no_digit = refl; no_comma = refl } left.walked)

  rows_tell : (w : Walked) → TellsIn both_rows w Anything Anything walked_of (rows_read w)
  rows_tell w =
      both_tell-in lefts rights w Anything Anything Anything Anything walked_of walked_of (read_sides P table (codes ";") w) (λ _ left. right_row left)
      (sides_tell P table 59 record { no_digit = refl; no_comma = refl } w) (λ at left. right_tells left) lefts_forms rights_forms (λ bs rest text. tt) (λ bs mid of text. tt)

  sides_read-tell : (w : Walked) → TellsIn (pairings P table) w Anything Anything walked_of (sides_read w)
  sides_read-tell w = opened_tells (codes "diff(") (with_signs 1) w both_rows Anything walked_of (rows_read (with_signs 1 w)) (rows_tell (with_signs 1 w)) rows_forms

  -- Their numbers.

  diff_as : (w : Walked) (bytes : List ℕ) (at : ℕ) → read_diff P table w bytes at ≡ checked judge_sides (sides_read w) bytes at
  unfolding judge_sides
  diff_as w bytes at = opened (read_fixed (codes "diff(") bytes at)
    where
      paired_so : (left : List Term) (right : Behind (List Term)) (t : Bool) (p : ℕ) (k : List ℕ)
          → next (if t then Found (record { left = left; right = right.value }) p k else Faulty at Arity) (λ s q j. Found (with s right.walked) q j) ≡ judged (if t then inr (made left right) else inl Arity) at p k
      paired_so left right true p k = refl
      paired_so left right false p k = refl

      right_so : (left : List Term) (o : Outcome (Behind (List Term)))
          → next o (λ right p k. next (paired at left right.value p k) (λ s q j. Found (with s right.walked) q j))
          ≡ next (next o (λ right p k. Found (made left right) p k)) (λ x p k. judged (judge_sides x) at p k)
      right_so left (Faulty p c) = refl
      right_so left (Found right p k) = paired_so left right (length left == length right.value) p k

      left_so : (o : Outcome (Behind (List Term)))
          → next o (λ left p k. next (read_sides P table (codes ")") left.walked k p) (λ right q j. next (paired at left.value right.value q j) (λ s z i. Found (with s right.walked) z i)))
          ≡ next (next o (λ left p k. next (read_sides P table (codes ")") left.walked k p) (λ right q j. Found (made left.value right) q j))) (λ x p k. judged (judge_sides x) at p k)
      left_so (Faulty p c) = refl
      left_so (Found left p k) = right_so left.value (read_sides P table (codes ")") left.walked k p)

      opened : (o : Outcome (Unit {0}))
          → next o (λ _ p k. next (read_sides P table (codes ";") (with_signs 1 w) k p) (λ left q j. next (read_sides P table (codes ")") left.walked j q) (λ right z i. next (paired at left.value right.value z i) (λ s y h. Found (with s right.walked) y h))))
          ≡ next (next o (λ _ p k. next (read_sides P table (codes ";") (with_signs 1 w) k p) (λ left q j. next (read_sides P table (codes ")") left.walked j q) (λ right z i. Found (made left.value right) z i)))) (λ x p k. judged (judge_sides x) at p k)
      opened (Faulty p c) = refl
      opened (Found u p k) = left_so (read_sides P table (codes ";") (with_signs 1 w) k p)

  -- how far the walk is behind the sides
  abbrev behind_lefts : Walked → List ℕ → Walked
  behind_lefts w ms = past_all table (with_signs 1 w) ms

  abbrev sides_at : Walked → List ℕ → List ℕ → Behind (SidesOf Term)
  sides_at w ms ns = made (map (term_at table) ms) (with (map (term_at table) ns) (past_all table (behind_lefts w ms) ns))

  -- sides that may follow are read as they are, whatever their numbers
  sides_are_read : (w : Walked) (ms ns rest : List ℕ) (at : ℕ) → 1 ≤ length ms → 1 ≤ length ns → MayFollowAll true table (with_signs 1 w) (ms ++ ns)
      → Finds (sides_read w (sides_over number_text P (record { left = ms; right = ns }) rest) at) (sides_at w ms ns) rest
  sides_are_read w [] ns rest at left_some right_some may = absurd (omega (arith, left_some))
  sides_are_read w (m ∷ ms) [] rest at left_some right_some may = absurd (omega (arith, right_some))
  sides_are_read w (m ∷ ms) (n ∷ ns) rest at left_some right_some may =
      let v = with_signs 1 w in
      let u = past_all table v (m ∷ ms) in
      let left = map (term_at table) (m ∷ ms) in
      let right = with (map (term_at table) (n ∷ ns)) (past_all table u (n ∷ ns)) in
      let whole = made left right in
      let second = terms_text number_text P (n ∷ ns) (41 ∷ rest) in
      let first = terms_text number_text P (m ∷ ms) (59 ∷ second) in
      joined (read_fixed (codes "diff(") (codes "diff(" ++ first) at) (λ _ p k. rows_read v k p) tt first whole rest (fixed_found (codes "diff(") first at) (λ p.
      joined (read_sides P table (codes ";") v first p) (λ l q k. right_row l k q) (with left u) second whole rest (whole_row-found P names table true 59 record { no_digit = refl; no_comma = refl } v m ms second p (follow_first P names table true v (m ∷ ms) (n ∷ ns) may)) (λ q.
      joined (read_sides P table (codes ")") u second q) (λ r z k. Found (made left r) z k) right rest whole rest (whole_row-found P names table true 41 record { no_digit = refl; no_comma = refl } u n ns rest q (follow_second P names table true v (m ∷ ms) (n ∷ ns) may)) (λ z. record { place = z; is = refl })))

  sides_judge : (w : Walked) → Judges (in_state (pairings P table) w) Anything (sides_read w) judge_sides (DiffFault P table w)
  sides_judge w = record {
    text_long = λ bytes rest text. omega (arith, ap length text.1, length-append (codes "iff(") text.0, shorter (in_state both_rows w) Anything text.0 rest ((rows_forms.each w).moved text.0 rest text.2));
    judged_so = λ code bytes at of here. so code bytes at here;
    is_here = λ code bytes at place x rest of e told. there code bytes at place x rest e (judged_unpaired x code told);
    past = λ code bytes here. past_it code bytes here;
    other = λ bytes here. here;
    never = λ x code told e. let codes = (judged_unpaired x code told).1 in let never : Arity ≡ Syntax = sym codes ∙ e in cc;
  }
    where
      so : (code : Code) (bytes : List ℕ) (at : ℕ) → DiffFault P table w code bytes → IsJudged judge_sides (sides_read w bytes at) code
      so Arity bytes at here =
          let ms = here.sides.left in
          let ns = here.sides.right in
          let wrong = here.wrong in
          let found = sides_are_read w ms ns here.rest at here.left_some here.right_some here.each in
          record {
            value = sides_at w ms ns;
            place = found.place;
            rest = here.rest;
            is = ap (λ bs. sides_read w bs at) here.text ∙ found.is;
            so = unpaired_judged (sides_at w ms ns) (λ same. wrong (sym (length-map ms (term_at table)) ∙ (same ∙ length-map ns (term_at table))));
          }
      so Syntax bytes at here = absurd here
      so Number bytes at here = absurd here
      so Symbol bytes at here = absurd here
      so Count bytes at here = absurd here
      so NodeOrder bytes at here = absurd here
      so NodeLarge bytes at here = absurd here

      there : (code : Code) (bytes : List ℕ) (at place : ℕ) (x : Behind (SidesOf Term)) (rest : List ℕ) → sides_read w bytes at ≡ Found x place rest → (length x.value.left ≢ length x.value.right) × (code ≡ Arity) → DiffFault P table w code bytes
      there code bytes at place x rest e (other, codes_are) =
          let v = with_signs 1 w in
          let begin = parts (read_fixed (codes "diff(") bytes at) (λ _ p k. rows_read v k p) x place rest e in
          let left = parts (read_sides P table (codes ";") v begin.rest begin.place) (λ l p k. right_row l k p) x place rest begin.later in
          let right = parts (read_sides P table (codes ")") left.value.walked left.rest left.place) (λ r p k. Found (made left.value.value r) p k) x place rest left.later in
          let ended = right.later in
          let same : made left.value.value right.value ≡ x = cc in
          let rests : right.rest ≡ rest = cc in
          let read = sides_were_read P table w bytes at begin.value begin.place begin.rest left.value left.place left.rest right.value right.place right.rest begin.first left.first right.first in
          let ms = read.numbered.left in
          let ns = read.numbered.right in
          let through = read.through in
          let left_many : length x.value.left ≡ length ms = ap (λ y. length y.value.left) (sym same) ∙ (ap length read.left_is ∙ length-map ms (term_at table)) in
          let right_many : length x.value.right ≡ length ns = ap (λ y. length y.value.right) (sym same) ∙ (ap length read.right_is ∙ length-map ns (term_at table)) in
          subst (λ c. DiffFault P table w c bytes) (sym codes_are) record {
            sides = read.numbered;
            rest = rest;
            each = numbers_go table true v (ms ++ ns) (all_append IsShort ms ns read.left_short read.right_short) through.own through.order through.small through.together;
            left_some = read.left_some;
            right_some = read.right_some;
            wrong = λ is. other (left_many ∙ (is ∙ sym right_many));
            text = read.text ∙ ap (λ k. sides_over number_text P read.numbered k) rests;
          }

      past_it : (code : Code) (bytes : List ℕ) → DiffFault P table w code bytes → GoesPastIt (in_state (pairings P table) w) bytes bytes
      past_it Arity bytes here =
          let opened = fixed (codes "diff(") in
          record {
            before = [];
            text = refl;
            first = 100;
            later = codes "iff(" ++ terms_text number_text P here.sides.left (59 ∷ terms_text number_text P here.sides.right (41 ∷ here.rest));
            begins = here.text;
            extends = extends_to (plain.behind opened (in_state both_rows w)) (in_state (pairings P table) w) (100 ∷ []) (λ bs r t. t)
                (first_extends opened (in_state both_rows w) Anything Anything (100 ∷ []) (fixed_forms (codes "diff(")).moved (λ bs rest text. tt) (rows_forms.each w).some
                record { other = codes "iff("; rest = []; long = omega arith; is = refl });
          }
      past_it Syntax bytes here = absurd here
      past_it Number bytes here = absurd here
      past_it Symbol bytes here = absurd here
      past_it Count bytes here = absurd here
      past_it NodeOrder bytes here = absurd here
      past_it NodeLarge bytes here = absurd here

  pub diffs_forms : FormsIn (diffs P table) Anything
  diffs_forms = marked_forms-in (pairings P table) Anything (DiffFault P table) pairings_forms (λ w code bytes here. (sides_judge w).past code bytes here) (λ w bytes here. here)

  pub diffs_tell : (w : Walked) → TellsIn (diffs P table) w Anything Anything walked_of (read_diff P table w)
  diffs_tell w =
      same_tells-in (diffs P table) w Anything Anything walked_of (read_diff P table w) (checked judge_sides (sides_read w)) (diff_as w)
      (marked_tells-in (pairings P table) w Anything Anything walked_of walked_of (sides_read w) judge_sides (DiffFault P table) pairings_forms (sides_read-tell w) (sides_judge w) judged_keeps)
