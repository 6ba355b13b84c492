-- The numbers of a node, which are below its own: a reader of them tells the first fault.
use Rattle.std.proofs.Common.{◌≡◌, ℕ, ◌<◌, ◌≤◌, ◌==◌, ◌||◌, ◌⊎◌, inl, inr, if◌then◌else◌, nat_le, Bool, true, false, List, ◌++◌, refl, sym, ◌∙◌, ap, subst, arith}
use Rattle.std.specs.Char.{is_ascii_digit}
use Rattle.std.specs.Fmt.{decimal}
use Rattle.std.proofs.lemmas.Bool.Decides.{nat_tests}
use Rattle.spec_trees.proofs.Occurrence.{or_true}
use Rattle.spec_certificate_text.specs.OfProtocol.{IsShort}
use Rattle.spec_certificate_text.specs.Terms.{Code, Syntax, Number, Symbol, Arity, Count, NodeOrder, NodeLarge}
use Rattle.spec_certificate_text.specs.Outcomes.{Found, Faulty, read_number}
use Rattle.spec_certificate_text.proofs.Parts.{Finds, joined, when_false, equal_byte}
use Rattle.spec_certificate_faults.specs.Grammar.{EndsAt}
use Rattle.spec_certificate_faults.proofs.Comes.{either}
use Rattle.spec_first_faults.specs.Numbers.{numbers}
use Rattle.spec_first_faults.proofs.Tells.{Anything, GoesPastIt, Tells, same_tells}
use Rattle.spec_first_faults.proofs.Marked.{judged, checked, IsJudged, Judges, marked_tells}
use Rattle.spec_first_faults.proofs.Numbers.{run_long, number_found_so, number_of_digits, digits_past, numbers_tell}
use Rattle.spec_first_faults.proofs.Rows.{next_same}
use Rattle.spec_node_reading.specs.Nodes.{BelowFault, lower_numbers}
use Rattle.spec_node_reading.specs.ReadNodes.{lower_number}
use Rattle.spec_node_first_faults.proofs.HeadWords.{decimal_there}

module _ (own : ℕ) where
  abbrev is_wrong : ℕ → Bool
  is_wrong n = (n == 0) || nat_le own n

  judge_by : ℕ → Bool → Code ⊎ ℕ
  judge_by n true = inl NodeOrder
  judge_by n false = inr n

  judge_lower : ℕ → Code ⊎ ℕ
  judge_lower n = judge_by n (is_wrong n)

  lower_as : (bytes : List ℕ) (at : ℕ) → lower_number own bytes at ≡ checked judge_lower read_number bytes at
  unfolding judge_lower judge_by
  lower_as bytes at = next_same (read_number bytes at) _ _ (λ n p k. by n p k (is_wrong n))
    where
      by : (n p : ℕ) (k : List ℕ) (wrong : Bool) → (if wrong then Faulty at NodeOrder else Found n p k) ≡ judged (judge_by n wrong) at p k
      by n p k true = refl
      by n p k false = refl

  judged_so : (n : ℕ) (code : Code) → judge_lower n ≡ inl code → (is_wrong n ≡ true) × (code ≡ NodeOrder)
  unfolding judge_lower judge_by
  judged_so n code e = by (is_wrong n) refl e
    where
      by : (wrong : Bool) → is_wrong n ≡ wrong → judge_by n wrong ≡ inl code → (is_wrong n ≡ true) × (code ≡ NodeOrder)
      by true is told = let codes : NodeOrder ≡ code = cc in (is, sym codes)
      by false is told = absurd (cc)

  wrong_is : (n : ℕ) → is_wrong n ≡ true → (n ≡ 0) ⊎ (own ≤ n)
  wrong_is n is = either (or_true (n == 0) (nat_le own n) is) (λ none. inl (equal_byte n 0 none)) (λ high. inr (grind (arith, nat_tests, high)))

  is_told : (n : ℕ) → (n ≡ 0) ⊎ (own ≤ n) → judge_lower n ≡ inl NodeOrder
  unfolding judge_lower judge_by
  is_told n wrong =
      let is : is_wrong n ≡ true = either wrong (λ none. grind (arith, nat_tests, none)) (λ high. grind (arith, nat_tests, high)) in
      ap (judge_by n) is

  lower_judges : Judges numbers Anything read_number judge_lower (BelowFault own)
  lower_judges = record {
    text_long = λ bytes rest text. run_long is_ascii_digit is_ascii_digit bytes rest text;
    judged_so = λ code bytes at of here. so code bytes at here;
    is_here = λ code bytes at place n rest of e told. there code bytes at place n rest e (judged_so n code told);
    past = λ code bytes here. past_it code bytes here;
    other = λ bytes here. here;
    never = λ n code told e. let codes = (judged_so n code told).1 in let never : NodeOrder ≡ Syntax = sym codes ∙ e in cc;
  }
    where
      so : (code : Code) (bytes : List ℕ) (at : ℕ) → BelowFault own code bytes → IsJudged judge_lower (read_number bytes at) code
      so NodeOrder bytes at here =
          let read = number_found_so bytes here.rest at here.number here.there.digits here.there.short here.there.is in
          record { value = here.number; place = read.0; rest = here.rest; is = read.1; so = is_told here.number here.wrong }
      so Syntax bytes at here = absurd here
      so Number bytes at here = absurd here
      so Symbol bytes at here = absurd here
      so Arity bytes at here = absurd here
      so Count bytes at here = absurd here
      so NodeLarge bytes at here = absurd here

      there : (code : Code) (bytes : List ℕ) (at place n : ℕ) (rest : List ℕ) → read_number bytes at ≡ Found n place rest → (is_wrong n ≡ true) × (code ≡ NodeOrder) → BelowFault own code bytes
      there code bytes at place n rest e (wrong, codes) =
          let is = number_of_digits bytes at place n rest e in
          subst (λ c. BelowFault own c bytes) (sym codes) record { number = n; rest = rest; there = record { digits = is.digits; short = is.short; is = is.is }; wrong = wrong_is n wrong }

      past_it : (code : Code) (bytes : List ℕ) → BelowFault own code bytes → GoesPastIt numbers bytes bytes
      past_it NodeOrder bytes here = digits_past bytes here.rest here.there.digits
      past_it Syntax bytes here = absurd here
      past_it Number bytes here = absurd here
      past_it Symbol bytes here = absurd here
      past_it Arity bytes here = absurd here
      past_it Count bytes here = absurd here
      past_it NodeLarge bytes here = absurd here

  -- a number below a node's own is read, and its first fault told
  pub lower_tells : Tells ⊥ (lower_numbers own) Anything (EndsAt is_ascii_digit) (lower_number own)
  lower_tells =
      same_tells (lower_numbers own) Anything (EndsAt is_ascii_digit) (lower_number own) (checked judge_lower read_number) lower_as
      (marked_tells numbers Anything (EndsAt is_ascii_digit) read_number judge_lower (BelowFault own) numbers_tell lower_judges)

-- a number below a node's own is read
pub lower_read : (own n : ℕ) (rest : List ℕ) (at : ℕ) → IsShort n → 1 ≤ n → n < own → EndsAt is_ascii_digit rest → Finds (lower_number own (decimal n ++ rest) at) n rest
lower_read own n rest at short some below ends =
    let zero_not : (n == 0) ≡ false = grind (arith, nat_tests, some) in
    let over_not : nat_le own n ≡ false = grind (arith, nat_tests, below) in
    let right : ((n == 0) || nat_le own n) ≡ false = ap (λ c. c || nat_le own n) zero_not ∙ over_not in
    let there = decimal_there n rest short ends in
    let read = number_found_so (decimal n ++ rest) rest at n there.digits there.short there.is in
    joined (read_number (decimal n ++ rest) at) (λ m p k. if (m == 0) || nat_le own m then Faulty at NodeOrder else Found m p k) n rest n rest record { place = read.0; is = read.1 }
    (λ p. when_false ((n == 0) || nat_le own n) (Faulty at NodeOrder) (Found n p rest) n rest right record { place = p; is = refl })
