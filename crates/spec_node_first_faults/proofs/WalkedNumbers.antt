-- Numbers of the table: a reader of them goes on with the walk, and tells the first fault.
use Rattle.std.proofs.Common.{◌≡◌, ℕ, ◌+◌, ◌<◌, ◌≤◌, ◌||◌, ◌&&◌, not, ◌==◌, ◌⊎◌, inl, inr, if◌then◌else◌, Bool, true, false, List, [], ◌∷◌, codes, refl, sym, ◌∙◌, ap, subst, arith}
use Rattle.std.specs.Char.{is_ascii_digit}
use Rattle.std.proofs.lemmas.Bool.Decides.{nat_tests}
use Rattle.spec_trees.specs.Tree.{size}
use Rattle.spec_trees.proofs.Occurrence.{or_false, or_true}
use Rattle.spec_calculus.specs.Bounds.{most_symbols}
use Rattle.spec_calculus.specs.Syntax.{Protocol}
use Rattle.spec_calculus.proofs.Leaves.{or_false-both}
use Rattle.spec_terms.specs.Term.{Term}
use Rattle.spec_certificate_text.specs.Sides.{holds_bound}
use Rattle.spec_certificate_text.specs.Terms.{Code, Syntax, Number, Symbol, Arity, Count, NodeOrder, NodeLarge}
use Rattle.spec_certificate_text.specs.Outcomes.{Found, Faulty, next, Reader, read_number}
use Rattle.spec_certificate_text.proofs.Parts.{parts}
use Rattle.spec_certificate_faults.specs.Grammar.{EndsAt}
use Rattle.spec_certificate_faults.proofs.Comes.{either}
use Rattle.spec_first_faults.specs.Numbers.{numbers}
use Rattle.spec_first_faults.proofs.Tells.{Anything, GoesPastIt, same_tells}
use Rattle.spec_first_faults.proofs.Marked.{judged, checked, IsJudged, Judges, marked_tells}
use Rattle.spec_first_faults.proofs.Numbers.{run_long, number_found_so, number_of_digits, digits_past, numbers_tell}
use Rattle.spec_first_faults.proofs.Rows.{next_same}
use Rattle.spec_node_tables.specs.Nodes.{term_at}
use Rattle.spec_node_tables.specs.Large.{most_certificate_symbols, is_over}
use Rattle.spec_node_faults.specs.Clauses.{is_out_of_order}
use Rattle.spec_node_reading.specs.Numbers.{IsNumberThere}
use Rattle.spec_node_reading.specs.Kinds.{in_state}
use Rattle.spec_node_reading.specs.Walked.{Walked, with_term, MayFollow, IsUnbound, TableFault, WalksOn, table_numbers}
use Rattle.spec_node_reading.specs.Loops.{Behind, with}
use Rattle.spec_node_reading.specs.Facts.{arguments, sides_before}
use Rattle.spec_node_reading.specs.ReadClauses.{judged_number, one_term, one_side, read_terms, read_sides}
use Rattle.spec_node_first_faults.proofs.InState.{FormsIn, LeadRead, TellsIn}
use Rattle.spec_node_first_faults.proofs.InClosed.{IsFirstHere, marked_more}
use Rattle.spec_node_first_faults.proofs.InRows.{walked_of, row_forms-in, row_tells-in}

-- Symbols past one of the limits.

abbrev is_past : Term → Walked → Bool
is_past t w = is_over most_symbols (w.clause + size t) || is_over most_certificate_symbols (w.all + size t)

within_limits : (t : Term) (w : Walked) → w.clause + size t ≤ most_symbols → w.all + size t ≤ most_certificate_symbols → is_past t w ≡ false
within_limits t w small together =
    or_false-both (is_over most_symbols (w.clause + size t)) (is_over most_certificate_symbols (w.all + size t)) (grind (arith, nat_tests, small)) (grind (arith, nat_tests, together))

-- the limits are kept
record AreKept (t : Term) (w : Walked) : Type 0 where
  clause : w.clause + size t ≤ most_symbols
  all : w.all + size t ≤ most_certificate_symbols

limits_kept : (t : Term) (w : Walked) → is_past t w ≡ false → AreKept t w
limits_kept t w within =
    let (one, two) = or_false (is_over most_symbols (w.clause + size t)) (is_over most_certificate_symbols (w.all + size t)) within in
    record { clause = grind (arith, nat_tests, one); all = grind (arith, nat_tests, two) }

not_within : (t : Term) (w : Walked) → is_past t w ≡ false → (most_symbols < w.clause + size t) ⊎ (most_certificate_symbols < w.all + size t) → ⊥
not_within t w within large =
    let is = limits_kept t w within in
    either large (λ one. omega (arith, one, is.clause)) (λ two. omega (arith, two, is.all))

past_limit : (t : Term) (w : Walked) → is_past t w ≡ true → (most_symbols < w.clause + size t) ⊎ (most_certificate_symbols < w.all + size t)
past_limit t w is =
    either (or_true (is_over most_symbols (w.clause + size t)) (is_over most_certificate_symbols (w.all + size t)) is)
    (λ one. inl (grind (arith, nat_tests, one)))
    (λ two. inr (grind (arith, nat_tests, two)))

always : (t : Term) (w : Walked) → (most_symbols < w.clause + size t) ⊎ (most_certificate_symbols < w.all + size t) → is_past t w ≡ true
always t w large = by (is_past t w) refl
  where
    by : (b : Bool) → is_past t w ≡ b → is_past t w ≡ true
    by true is = is
    by false is = absurd (not_within t w is large)

module _ (binds : Bool) (table : List Term) (w : Walked) where
  -- how a number is judged

  -- whether a bound variable stands in the term of the number, outside of constraints
  abbrev is_unbound : ℕ → Bool
  is_unbound n = not binds && holds_bound (term_at table n)

  judge_by : (n : ℕ) (bound wrong over : Bool) → Code ⊎ Behind Term
  judge_by n true wrong over = inl Symbol
  judge_by n false true over = inl NodeOrder
  judge_by n false false true = inl NodeLarge
  judge_by n false false false = inr (with (term_at table n) (with_term (term_at table n) w))

  judge_number : ℕ → Code ⊎ Behind Term
  judge_number n = judge_by n (is_unbound n) (is_out_of_order table w.seen n) (is_past (term_at table n) w)

  -- a number of a constraint, or of a fact
  abbrev pub one_tree : Protocol → Reader (Behind Term)
  one_tree P bytes at = next (read_number bytes at) (λ n p r. judged_number P table binds w at n p r)

  one_as : (P : Protocol) (bytes : List ℕ) (at : ℕ) → one_tree P bytes at ≡ checked judge_number read_number bytes at
  unfolding judge_number judge_by
  one_as P bytes at = next_same (read_number bytes at) _ _ (λ n p k. by n p k (is_unbound n) (is_out_of_order table w.seen n) (is_past (term_at table n) w))
    where
      by : (n p : ℕ) (k : List ℕ) (bound wrong over : Bool)
          → (if bound then Faulty at Symbol else (if wrong then Faulty at NodeOrder else (if over then Faulty at NodeLarge else Found (with (term_at table n) (with_term (term_at table n) w)) p k)))
          ≡ judged (judge_by n bound wrong over) at p k
      by n p k true wrong over = refl
      by n p k false true over = refl
      by n p k false false true = refl
      by n p k false false false = refl

  -- the faults that are told: of those at a place the one of the least number
  record IsOutInFact (bytes : List ℕ) : Type 0 where
    number : ℕ
    rest : List ℕ
    there : IsNumberThere bytes number rest
    own : is_unbound number ≡ false
    wrong : is_out_of_order table w.seen number ≡ true

  record IsTooMuchInOrder (bytes : List ℕ) : Type 0 where
    number : ℕ
    rest : List ℕ
    there : IsNumberThere bytes number rest
    own : is_unbound number ≡ false
    order : is_out_of_order table w.seen number ≡ false
    large : (most_symbols < w.clause + size (term_at table number)) ⊎ (most_certificate_symbols < w.all + size (term_at table number))

  abbrev ToldFault : Code → List ℕ → Type 0
  ToldFault Symbol bytes = IsUnbound binds table bytes
  ToldFault NodeOrder bytes = IsOutInFact bytes
  ToldFault NodeLarge bytes = IsTooMuchInOrder bytes
  ToldFault code bytes = ⊥

  -- outside of constraints, a bound variable; and otherwise none
  outside_so : (b bound : Bool) → (not b && bound) ≡ true → (b ≡ false) × (bound ≡ true)
  outside_so true bound is = absurd (cc)
  outside_so false bound is = (refl, is)

  unbound_so : (b bound : Bool) → b ≡ false → bound ≡ true → (not b && bound) ≡ true
  unbound_so true bound outside is = absurd (cc)
  unbound_so false bound outside is = is

  own_so : (b bound : Bool) → (not b && bound) ≡ false → b ≡ false → bound ≡ false
  own_so true bound is outside = absurd (cc)
  own_so false bound is outside = is

  fits_so : (b bound : Bool) → (b ≡ false → bound ≡ false) → (not b && bound) ≡ false
  fits_so true bound own = refl
  fits_so false bound own = own refl

  -- what a number is judged to be
  data JudgedSo (n : ℕ) (code : Code) : Type 0 where
    is_bound : is_unbound n ≡ true → code ≡ Symbol → JudgedSo n code
    out_of_order : is_unbound n ≡ false → is_out_of_order table w.seen n ≡ true → code ≡ NodeOrder → JudgedSo n code
    too_much : is_unbound n ≡ false → is_out_of_order table w.seen n ≡ false → is_past (term_at table n) w ≡ true → code ≡ NodeLarge → JudgedSo n code

  judged_so : (n : ℕ) (code : Code) → judge_number n ≡ inl code → JudgedSo n code
  unfolding judge_number judge_by
  judged_so n code e = by (is_unbound n) refl (is_out_of_order table w.seen n) refl (is_past (term_at table n) w) refl e
    where
      by : (bound : Bool) → is_unbound n ≡ bound → (wrong : Bool) → is_out_of_order table w.seen n ≡ wrong → (over : Bool) → is_past (term_at table n) w ≡ over → judge_by n bound wrong over ≡ inl code → JudgedSo n code
      by true bound wrong order over past told = let codes : Symbol ≡ code = cc in is_bound bound (sym codes)
      by false own true order over past told = let codes : NodeOrder ≡ code = cc in out_of_order own order (sym codes)
      by false own false order true past told = let codes : NodeLarge ≡ code = cc in too_much own order past (sym codes)
      by false own false order false past told = absurd (cc)

  bound_told : (n : ℕ) → is_unbound n ≡ true → judge_number n ≡ inl Symbol
  unfolding judge_number judge_by
  bound_told n is = ap (λ bound. judge_by n bound (is_out_of_order table w.seen n) (is_past (term_at table n) w)) is

  order_told : (n : ℕ) → is_unbound n ≡ false → is_out_of_order table w.seen n ≡ true → judge_number n ≡ inl NodeOrder
  unfolding judge_number judge_by
  order_told n own is = ap (λ bound. judge_by n bound (is_out_of_order table w.seen n) (is_past (term_at table n) w)) own ∙ ap (λ wrong. judge_by n false wrong (is_past (term_at table n) w)) is

  size_told : (n : ℕ) → is_unbound n ≡ false → is_out_of_order table w.seen n ≡ false → is_past (term_at table n) w ≡ true → judge_number n ≡ inl NodeLarge
  unfolding judge_number judge_by
  size_told n own order is =
      ap (λ bound. judge_by n bound (is_out_of_order table w.seen n) (is_past (term_at table n) w)) own ∙ (ap (λ wrong. judge_by n false wrong (is_past (term_at table n) w)) order ∙ ap (judge_by n false false) is)

  goes_on : (n : ℕ) → MayFollow binds table w n → judge_number n ≡ inr (with (term_at table n) (with_term (term_at table n) w))
  unfolding judge_number judge_by
  goes_on n may =
      ap (λ bound. judge_by n bound (is_out_of_order table w.seen n) (is_past (term_at table n) w)) (fits_so binds (holds_bound (term_at table n)) may.own)
      ∙ (ap (λ wrong. judge_by n false wrong (is_past (term_at table n) w)) may.in_order ∙ ap (judge_by n false false) (within_limits (term_at table n) w may.clause may.all))

  -- a number that was let through
  record LetThrough (n : ℕ) (x : Behind Term) : Type 0 where
    may : MayFollow binds table w n
    is : x ≡ with (term_at table n) (with_term (term_at table n) w)

  let_through : (n : ℕ) (x : Behind Term) → judge_number n ≡ inr x → LetThrough n x
  unfolding judge_number judge_by
  let_through n x e = by (is_unbound n) refl (is_out_of_order table w.seen n) refl (is_past (term_at table n) w) refl e
    where
      by : (bound : Bool) → is_unbound n ≡ bound → (wrong : Bool) → is_out_of_order table w.seen n ≡ wrong → (over : Bool) → is_past (term_at table n) w ≡ over → judge_by n bound wrong over ≡ inr x → LetThrough n x
      by true bound wrong order over past told = absurd (cc)
      by false own true order over past told = absurd (cc)
      by false own false order true past told = absurd (cc)
      by false own false order false past told =
          let same : with (term_at table n) (with_term (term_at table n) w) ≡ x = cc in
          let kept = limits_kept (term_at table n) w past in
          record { may = record { own = own_so binds (holds_bound (term_at table n)) own; in_order = order; clause = kept.clause; all = kept.all }; is = sym same }

  number_read : (bytes : List ℕ) (at n : ℕ) (rest : List ℕ) → IsNumberThere bytes n rest → (place : ℕ) × (read_number bytes at ≡ Found n place rest)
  number_read bytes at n rest there = number_found_so bytes rest at n there.digits there.short there.is

  number_judges : Judges numbers Anything read_number judge_number ToldFault
  number_judges = record {
    text_long = λ bytes rest text. run_long is_ascii_digit is_ascii_digit bytes rest text;
    judged_so = λ code bytes at of here. so code bytes at here;
    is_here = λ code bytes at place n rest of e told. there code bytes at place n rest e (judged_so n code told);
    past = λ code bytes here. past_it code bytes here;
    other = λ bytes here. here;
    never = λ n code told e. never n code (judged_so n code told) e;
  }
    where
      so : (code : Code) (bytes : List ℕ) (at : ℕ) → ToldFault code bytes → IsJudged judge_number (read_number bytes at) code
      so NodeOrder bytes at here = let read = number_read bytes at here.number here.rest here.there in record { value = here.number; place = read.0; rest = here.rest; is = read.1; so = order_told here.number here.own here.wrong }
      so NodeLarge bytes at here = let read = number_read bytes at here.number here.rest here.there in record { value = here.number; place = read.0; rest = here.rest; is = read.1; so = size_told here.number here.own here.order (always (term_at table here.number) w here.large) }
      so Syntax bytes at here = absurd here
      so Number bytes at here = absurd here
      so Symbol bytes at here =
          let read = number_read bytes at here.number here.rest here.there in
          record { value = here.number; place = read.0; rest = here.rest; is = read.1; so = bound_told here.number (unbound_so binds (holds_bound (term_at table here.number)) here.outside here.wrong) }
      so Arity bytes at here = absurd here
      so Count bytes at here = absurd here

      there : (code : Code) (bytes : List ℕ) (at place n : ℕ) (rest : List ℕ) → read_number bytes at ≡ Found n place rest → JudgedSo n code → ToldFault code bytes
      there code bytes at place n rest e (is_bound bound codes) =
          let is = number_of_digits bytes at place n rest e in
          let so = outside_so binds (holds_bound (term_at table n)) bound in
          subst (λ c. ToldFault c bytes) (sym codes) record { outside = so.0; number = n; rest = rest; there = record { digits = is.digits; short = is.short; is = is.is }; wrong = so.1 }
      there code bytes at place n rest e (out_of_order own order codes) =
          let is = number_of_digits bytes at place n rest e in
          subst (λ c. ToldFault c bytes) (sym codes) record { number = n; rest = rest; there = record { digits = is.digits; short = is.short; is = is.is }; own = own; wrong = order }
      there code bytes at place n rest e (too_much own order past codes) =
          let is = number_of_digits bytes at place n rest e in
          subst (λ c. ToldFault c bytes) (sym codes) record { number = n; rest = rest; there = record { digits = is.digits; short = is.short; is = is.is }; own = own; order = order; large = past_limit (term_at table n) w past }

      past_it : (code : Code) (bytes : List ℕ) → ToldFault code bytes → GoesPastIt numbers bytes bytes
      past_it NodeOrder bytes here = digits_past bytes here.rest here.there.digits
      past_it NodeLarge bytes here = digits_past bytes here.rest here.there.digits
      past_it Syntax bytes here = absurd here
      past_it Number bytes here = absurd here
      past_it Symbol bytes here = digits_past bytes here.rest here.there.digits
      past_it Arity bytes here = absurd here
      past_it Count bytes here = absurd here

      never : (n : ℕ) (code : Code) → JudgedSo n code → code ≡ Syntax → ⊥
      never n code (is_bound bound codes) e = let other : Symbol ≡ Syntax = sym codes ∙ e in cc
      never n code (out_of_order own order codes) e = let other : NodeOrder ≡ Syntax = sym codes ∙ e in cc
      never n code (too_much own order past codes) e = let other : NodeLarge ≡ Syntax = sym codes ∙ e in cc

  exact : (code : Code) (bytes : List ℕ) → ToldFault code bytes → TableFault binds table w code bytes
  exact NodeOrder bytes here = record { number = here.number; rest = here.rest; there = here.there; wrong = here.wrong }
  exact NodeLarge bytes here = record { number = here.number; rest = here.rest; there = here.there; large = here.large }
  exact Syntax bytes here = here
  exact Number bytes here = here
  exact Symbol bytes here = here
  exact Arity bytes here = here
  exact Count bytes here = here

  first_of : (code : Code) (bytes : List ℕ) → TableFault binds table w code bytes → IsFirstHere ToldFault code bytes
  first_of Symbol bytes here = record { told = Symbol; is = here; less = omega arith }
  first_of NodeOrder bytes here = by (is_unbound here.number) refl
    where
      by : (bound : Bool) → is_unbound here.number ≡ bound → IsFirstHere ToldFault NodeOrder bytes
      by true bound =
          let so = outside_so binds (holds_bound (term_at table here.number)) bound in
          record { told = Symbol; is = record { outside = so.0; number = here.number; rest = here.rest; there = here.there; wrong = so.1 }; less = omega arith }
      by false own = record { told = NodeOrder; is = record { number = here.number; rest = here.rest; there = here.there; own = own; wrong = here.wrong }; less = omega arith }
  first_of NodeLarge bytes here = by (is_unbound here.number) refl (is_out_of_order table w.seen here.number) refl
    where
      by : (bound : Bool) → is_unbound here.number ≡ bound → (wrong : Bool) → is_out_of_order table w.seen here.number ≡ wrong → IsFirstHere ToldFault NodeLarge bytes
      by true bound wrong order =
          let so = outside_so binds (holds_bound (term_at table here.number)) bound in
          record { told = Symbol; is = record { outside = so.0; number = here.number; rest = here.rest; there = here.there; wrong = so.1 }; less = omega arith }
      by false own true order = record { told = NodeOrder; is = record { number = here.number; rest = here.rest; there = here.there; own = own; wrong = order }; less = omega arith }
      by false own false order = record { told = NodeLarge; is = record { number = here.number; rest = here.rest; there = here.there; own = own; order = order; large = here.large }; less = omega arith }
  first_of Syntax bytes here = absurd here
  first_of Number bytes here = absurd here
  first_of Arity bytes here = absurd here
  first_of Count bytes here = absurd here

  -- a number that may follow is read, and the walk goes on behind it
  leads_read : (bytes : List ℕ) (at : ℕ) (rest : List ℕ) (v : Walked) → WalksOn binds table w bytes rest v → LeadRead walked_of (checked judge_number read_number bytes at) bytes at rest v
  leads_read bytes at rest v is =
      let read = number_read bytes at is.number rest is.there in
      let t = term_at table is.number in
      inl record {
        value = with t (with_term t w);
        place = read.0;
        is = ap (λ o. next o (λ n p k. judged (judge_number n) at p k)) read.1 ∙ ap (λ j. judged j at read.0 rest) (goes_on is.number is.may);
        so = sym is.so;
      }

  leads_on : (bytes : List ℕ) (at place : ℕ) (x : Behind Term) (rest : List ℕ) → checked judge_number read_number bytes at ≡ Found x place rest → WalksOn binds table w bytes rest x.walked
  leads_on bytes at place x rest e =
      let cut = parts (read_number bytes at) (λ n p k. judged (judge_number n) at p k) x place rest e in
      by cut.value cut.place cut.rest cut.first (judge_number cut.value) refl cut.later
    where
      by : (n p : ℕ) (k : List ℕ) → read_number bytes at ≡ Found n p k → (j : Code ⊎ Behind Term) → judge_number n ≡ j → judged j at p k ≡ Found x place rest → WalksOn binds table w bytes rest x.walked
      by n p k read (inl code) so told = absurd (cc)
      by n p k read (inr y) so told =
          let same : y ≡ x = cc in
          let rests : k ≡ rest = cc in
          let through = let_through n y so in
          let is = number_of_digits bytes at p n k read in
          subst (λ z. WalksOn binds table w bytes rest z.walked) same (subst (λ l. WalksOn binds table w bytes l y.walked) rests record { number = n; there = record { digits = is.digits; short = is.short; is = is.is }; may = through.may; so = ap walked_of through.is })

  checked_tells : TellsIn (table_numbers binds table) w Anything (EndsAt is_ascii_digit) walked_of (checked judge_number read_number)
  checked_tells = record {
    tells = marked_more numbers Anything (EndsAt is_ascii_digit) (checked judge_number read_number) ToldFault (TableFault binds table w) exact first_of (λ bytes here. here)
        (marked_tells numbers Anything (EndsAt is_ascii_digit) read_number judge_number ToldFault numbers_tell number_judges);
    leads = λ bytes at place x rest of e. leads_on bytes at place x rest e;
    read = λ v bytes rest at of leads. leads_read bytes at rest v leads;
  }

  pub number_tells : (P : Protocol) → TellsIn (table_numbers binds table) w Anything (EndsAt is_ascii_digit) walked_of (one_tree P)
  number_tells P =
      let is = checked_tells in
      record {
        tells = same_tells (in_state (table_numbers binds table) w) Anything (EndsAt is_ascii_digit) (one_tree P) (checked judge_number read_number) (one_as P) is.tells;
        leads = λ bytes at place x rest of e. is.leads bytes at place x rest of (sym (one_as P bytes at) ∙ e);
        read = λ v bytes rest at of leads. subst (λ o. LeadRead walked_of o bytes at rest v) (sym (one_as P bytes at)) (is.read v bytes rest at of leads);
      }

-- a number that leads on is a text
pub number_forms : (binds : Bool) (P : Protocol) (table : List Term) → FormsIn (table_numbers binds table) (EndsAt is_ascii_digit)
number_forms binds P table = record { each = λ w. (number_tells binds table w P).tells.forms; text = λ w bytes rest v leads. leads.there.digits }

-- Rows of numbers.

pub arguments_forms : (P : Protocol) (table : List Term) → FormsIn (arguments P table) Anything
arguments_forms P table = row_forms-in (table_numbers false table) (codes ",") (codes ")") (EndsAt is_ascii_digit) (number_forms false P table) (λ rest. refl) (λ rest. refl)

pub arguments_tell : (P : Protocol) (table : List Term) (w : Walked) → TellsIn (arguments P table) w Anything Anything walked_of (read_terms P table w)
arguments_tell P table w = row_tells-in (table_numbers false table) (EndsAt is_ascii_digit) 44 [] 41 [] (one_term P table) (λ v. number_tells false table v P) (number_forms false P table) record { apart = refl; comma = λ rest. refl; close = λ rest. refl } (with [] w)

-- the byte that closes a row of sides: no digit and no comma
pub record ClosesRow (closing : ℕ) : Type 0 where
  pub no_digit : is_ascii_digit closing ≡ false
  pub no_comma : (closing == 44) ≡ false

pub sides_forms : (P : Protocol) (table : List Term) (closing : ℕ) → ClosesRow closing → FormsIn (sides_before P table (closing ∷ [])) Anything
sides_forms P table closing closes = row_forms-in (table_numbers true table) (codes ",") (closing ∷ []) (EndsAt is_ascii_digit) (number_forms true P table) (λ rest. refl) (λ rest. closes.no_digit)

pub sides_tell : (P : Protocol) (table : List Term) (closing : ℕ) → ClosesRow closing → (w : Walked) → TellsIn (sides_before P table (closing ∷ [])) w Anything Anything walked_of (read_sides P table (closing ∷ []) w)
sides_tell P table closing closes w =
    row_tells-in (table_numbers true table) (EndsAt is_ascii_digit) 44 [] closing [] (one_side P table) (λ v. number_tells true table v P) (number_forms true P table)
    record { apart = closes.no_comma; comma = λ rest. refl; close = λ rest. closes.no_digit } (with [] w)
