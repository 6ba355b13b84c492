-- The text of a term is read as that term.
use Rattle.std.proofs.Common.{◌≡◌, ℕ, suc, ◌+◌, ◌≤◌, Bool, true, false, ◌==◌, ◌&&◌, ◌||◌, if◌then◌else◌, List, [], ◌∷◌, ◌++◌, length, drop, Some, refl, sym, ◌∙◌, ap, subst, arith, append_assoc}
use Rattle.std.proofs.lemmas.List.{append-nil}
use Rattle.std.proofs.lemmas.Bool.Decides.{nat_tests}
use Rattle.std.specs.Char.{is_ascii_digit}
use Rattle.std.specs.Fmt.{decimal}
use Rattle.std.specs.List.{list_all}
use Rattle.spec_trees.specs.Tree.{Leaf, node}
use Rattle.spec_trees.proofs.Occurrence.{or_false}
use Rattle.spec_calculus.specs.Bounds.{most_term_levels}
use Rattle.spec_calculus.specs.Syntax.{Protocol}
use Rattle.spec_protocol_tokens.specs.Bytes.{begins_word, is_in_word}
use Rattle.spec_terms.specs.Term.{Term}
use Rattle.spec_certificate_text.specs.Spelled.{IsWord, goes_on}
use Rattle.spec_protocol_scope.specs.Names.{is_variable}
use Rattle.spec_protocol_scope.specs.Words.{IsSymbolWord}
use Rattle.spec_run_text.specs.Reading.{numeral}
use Rattle.spec_run_text.proofs.Numbers.{numeral-decimal}
use Rattle.spec_certificate_text.specs.Text.{term_text}
use Rattle.spec_certificate_text.specs.OfProtocol.{IsShort}
use Rattle.spec_certificate_text.specs.Sides.{first_bound}
use Rattle.spec_certificate_text.proofs.Runs.{both_left, both_right}
use Rattle.spec_certificate_text.proofs.Apart.{digit_in_word, no_word}
use Rattle.spec_certificate_text.proofs.Names.{symbol_word_is_word, variable_is_word, variable_is_variable, decimal_digits}
use Rattle.spec_certificate_text.specs.Names.{Named, symbol_called, name_called}
use Rattle.spec_certificate_text.proofs.Sides.{own_word}
use Rattle.spec_certificate_text.proofs.Sound.{same_byte}
use Rattle.spec_certificate_text.specs.Terms.{Arity, Syntax, Open, Mode, Begins, InWord, InDigits, InBound, Ended, Reading, Step, Goes, Fault}
use Rattle.spec_certificate_text.specs.Steps.{closed, may_be_empty, after_variable, after_name, after_word, apply, after_point, after_number, is_deep, goes, unless_deep, opened, after_term, begin_term, at_begin, after_bound, bound_ended, step}
use Rattle.spec_certificate_text.specs.Runs.{followed, read_on}

abbrev pub reading : List Open → Mode → ℕ → Reading
reading heads mode from = record { heads = heads; mode = mode; from = from }

-- a choice whose test is known
pub taken : (test : Bool) (x y s : Step) → test ≡ true → x ≡ s → (if test then x else y) ≡ s
taken true x y s is e = e
taken false x y s is e = absurd (cc)

pub passed : (test : Bool) (x y s : Step) → test ≡ false → y ≡ s → (if test then x else y) ≡ s
passed true x y s is e = absurd (cc)
passed false x y s is e = e

not_deep : (heads : List Open) (n : ℕ) → length heads + suc n ≤ most_term_levels → is_deep heads ≡ false
not_deep heads n room = grind (arith, nat_tests)

pub shallow : (heads : List Open) (n : ℕ) (from : ℕ) (s r : Step) → length heads + suc n ≤ most_term_levels → s ≡ r → unless_deep heads from s ≡ r
shallow heads n from s r room e = passed (is_deep heads) (Fault from _) s r (not_deep heads n room) e

no_close : (b : ℕ) → begins_word b ≡ true → (b == 93) ≡ false
no_close b begins = by (b == 93) refl
  where
    by : (t : Bool) → (b == 93) ≡ t → (b == 93) ≡ false
    by true is = let never : begins_word 93 ≡ true = subst (λ c. begins_word c ≡ true) (same_byte b 93 is) begins in absurd (cc)
    by false is = is

-- a head that is opened
abbrev pub head_over : Named → ℕ → List Term → Open
head_over named from ts = record { symbol = named.symbol; arity = named.arity; place = from; arguments = ts }

-- in constraints, or in facts
module _ (binds : Bool) where
  -- a step that goes on
  pub goes_to : (P : Protocol) (b : ℕ) (bytes : List ℕ) (at : ℕ) (r r' : Reading) → step binds P at r b ≡ Goes r' → read_on binds P (b ∷ bytes) at r ≡ read_on binds P bytes (at + 1) r'
  goes_to P b bytes at r r' e = ap (followed (read_on binds P bytes (at + 1)) at (b ∷ bytes)) e

  -- within a run of bytes that pass a test, the rest of it
  run_read : (P : Protocol) (passes : ℕ → Bool) (mode : List ℕ → Mode) (heads : List Open) (from : ℕ) → ((at b : ℕ) (v : List ℕ) → passes b ≡ true → step binds P at (reading heads (mode v) from) b ≡ Goes (reading heads (mode (v ++ b ∷ [])) from)) → (w v rest : List ℕ) (at : ℕ) → list_all passes w ≡ true
      → read_on binds P (w ++ rest) at (reading heads (mode v) from) ≡ read_on binds P rest (at + length w) (reading heads (mode (v ++ w)) from)
  run_read P passes mode heads from goes_so [] v rest at all =
      let same : v ≡ v ++ [] = sym (append-nil v) in
      let place : at ≡ at + 0 = omega arith in
      ap (λ a. read_on binds P rest a (reading heads (mode v) from)) place ∙ ap (λ u. read_on binds P rest (at + 0) (reading heads (mode u) from)) same
  run_read P passes mode heads from goes_so (b ∷ w) v rest at all =
      let place : at + 1 + length w ≡ at + suc (length w) = omega arith in
      goes_to P b (w ++ rest) at (reading heads (mode v) from) (reading heads (mode (v ++ b ∷ [])) from) (goes_so at b v (both_left (passes b) (list_all passes w) all))
      ∙ (run_read P passes mode heads from goes_so w (v ++ b ∷ []) rest (at + 1) (both_right (passes b) (list_all passes w) all)
      ∙ (ap (λ a. read_on binds P rest a (reading heads (mode ((v ++ b ∷ []) ++ w)) from)) place ∙ ap (λ u. read_on binds P rest (at + suc (length w)) (reading heads (mode u) from)) (append_assoc v (b ∷ []) w)))

  -- within a word, within the point of a restriction, and within the digits of a bound variable
  pub word_read : (P : Protocol) (w v rest : List ℕ) (at : ℕ) (heads : List Open) (from : ℕ) → list_all is_in_word w ≡ true → read_on binds P (w ++ rest) at (reading heads (InWord v) from) ≡ read_on binds P rest (at + length w) (reading heads (InWord (v ++ w)) from)
  word_read P w v rest at heads from all = run_read P is_in_word InWord heads from (λ a b u e. taken (is_in_word b) (goes heads (InWord (u ++ b ∷ [])) from) _ _ e refl) w v rest at all

  pub digits_read : (P : Protocol) (ds es rest : List ℕ) (at : ℕ) (heads : List Open) (from : ℕ) (word : List ℕ) → list_all is_ascii_digit ds ≡ true → read_on binds P (ds ++ rest) at (reading heads (InDigits word es) from) ≡ read_on binds P rest (at + length ds) (reading heads (InDigits word (es ++ ds)) from)
  digits_read P ds es rest at heads from word all = run_read P is_ascii_digit (InDigits word) heads from (λ a b u e. taken (is_ascii_digit b) (goes heads (InDigits word (u ++ b ∷ [])) from) _ _ e refl) ds es rest at all

  pub bound_digits_read : (P : Protocol) (ds es rest : List ℕ) (at : ℕ) (heads : List Open) (from : ℕ) → list_all is_ascii_digit ds ≡ true → read_on binds P (ds ++ rest) at (reading heads (InBound es) from) ≡ read_on binds P rest (at + length ds) (reading heads (InBound (es ++ ds)) from)
  bound_digits_read P ds es rest at heads from all = run_read P is_ascii_digit InBound heads from (λ a b u e. taken (is_ascii_digit b) (goes heads (InBound (u ++ b ∷ [])) from) _ _ e refl) ds es rest at all

  -- where a term may begin, a byte other than `]` begins it
  pub begins_at : (P : Protocol) (at : ℕ) (heads : List Open) (n : ℕ) (b : ℕ) (s : Step) → length heads + suc n ≤ most_term_levels → (b == 93) ≡ false → begin_term binds at heads b ≡ s → at_begin binds at heads b ≡ s
  begins_at P at [] n b s room no_bracket e = e
  begins_at P at (o ∷ heads) n b s room no_bracket e =
      let stays : ((b == 93) && may_be_empty o.symbol o.arguments) ≡ false = ap (λ c. c && may_be_empty o.symbol o.arguments) no_bracket in
      passed ((b == 93) && may_be_empty o.symbol o.arguments) (closed o heads []) (unless_deep heads o.place (begin_term binds at (o ∷ heads) b)) s stays
      (shallow heads (suc n) o.place (begin_term binds at (o ∷ heads) b) s (omega (arith, room)) e)

  -- a word is read
  pub word_start : (P : Protocol) (w k : List ℕ) (at : ℕ) (heads : List Open) (n from : ℕ) → IsWord w → length heads + suc n ≤ most_term_levels → read_on binds P (w ++ k) at (reading heads Begins from) ≡ read_on binds P k (at + length w) (reading heads (InWord w) at)
  word_start P [] k at heads n from word room = absurd (no_word word)
  word_start P (c ∷ w) k at heads n from word room =
      let begun : begin_term binds at heads c ≡ goes heads (InWord (c ∷ [])) at = taken (begins_word c) (goes heads (InWord (c ∷ [])) at) _ _ word.begins refl in
      let first : step binds P at (reading heads Begins from) c ≡ Goes (reading heads (InWord (c ∷ [])) at) = begins_at P at heads n c (goes heads (InWord (c ∷ [])) at) room (no_close c word.begins) begun in
      let place : at + 1 + length w ≡ at + suc (length w) = omega arith in
      goes_to P c (w ++ k) at (reading heads Begins from) (reading heads (InWord (c ∷ [])) at) first
      ∙ (word_read P w (c ∷ []) k (at + 1) heads at (both_right (is_in_word c) (list_all is_in_word w) word.goes_on)
      ∙ ap (λ a. read_on binds P k a (reading heads (InWord (c ∷ w)) at)) place)

  -- two readings that a byte takes to one step
  pub same_step : (P : Protocol) (b : ℕ) (k : List ℕ) (at : ℕ) (r q : Reading) → step binds P at r b ≡ step binds P at q b → read_on binds P (b ∷ k) at r ≡ read_on binds P (b ∷ k) at q
  same_step P b k at r q e = ap (followed (read_on binds P k (at + 1)) at (b ∷ k)) e

  -- a word alone ends
  word_alone : (P : Protocol) (w : List ℕ) (t : Term) (b : ℕ) (at : ℕ) (heads : List Open) (from : ℕ) → goes_on b ≡ false → after_word P at heads from w b ≡ after_term at t heads from b → step binds P at (reading heads (InWord w) from) b ≡ step binds P at (reading heads (Ended t) from) b
  word_alone P w t b at heads from ends e =
      let first = (or_false (is_in_word b || (b == 40)) (b == 64) ends).0 in
      passed (is_in_word b) _ _ _ (or_false (is_in_word b) (b == 40) first).0
      (passed (b == 40) (apply heads from (symbol_called P w)) _ _ (or_false (is_in_word b) (b == 40) first).1
      (passed (b == 64) (goes heads (InDigits w []) from) _ _ (or_false (is_in_word b || (b == 40)) (b == 64) ends).1 e))

  -- what was read up to the end of a term
  pub record Reaches (P : Protocol) (bytes : List ℕ) (at : ℕ) (r : Reading) (rest : List ℕ) (heads : List Open) (t : Term) : Type 0 where
    pub place : ℕ
    pub from : ℕ
    pub is : read_on binds P bytes at r ≡ read_on binds P rest place (reading heads (Ended t) from)

  alone_read : (P : Protocol) (w : List ℕ) (t : Term) (b : ℕ) (k : List ℕ) (at : ℕ) (heads : List Open) (n from : ℕ) → IsWord w → length heads + suc n ≤ most_term_levels → goes_on b ≡ false → ((a f : ℕ) → after_word P a heads f w b ≡ after_term a t heads f b) → Reaches P (w ++ (b ∷ k)) at (reading heads Begins from) (b ∷ k) heads t
  alone_read P w t b k at heads n from word room ends e = record {
    place = at + length w;
    from = at;
    is = word_start P w (b ∷ k) at heads n from word room ∙ same_step P b k (at + length w) (reading heads (InWord w) at) (reading heads (Ended t) at) (word_alone P w t b (at + length w) heads at ends (e (at + length w) at));
  }

  pub variable_read : (P : Protocol) (x : ℕ) (b : ℕ) (k : List ℕ) (at : ℕ) (heads : List Open) (n from : ℕ) → IsShort x → length heads + suc n ≤ most_term_levels → goes_on b ≡ false → Reaches P (term_text P (Leaf x) (b ∷ k)) at (reading heads Begins from) (b ∷ k) heads (Leaf x)
  variable_read P x b k at heads n from short room ends =
      let reached = alone_read P (118 ∷ decimal x) (Leaf x) b k at heads n from (variable_is_word x short) room ends
      (λ a f. taken (is_variable (118 ∷ decimal x)) (unless_deep heads f (after_variable a heads f (decimal x) (numeral (decimal x)) b)) (after_name a heads f (symbol_called P (118 ∷ decimal x)) b) _ (variable_is_variable x short)
      (shallow heads n f (after_variable a heads f (decimal x) (numeral (decimal x)) b) _ room (ap (λ o. after_variable a heads f (decimal x) o b) (numeral-decimal x short)))) in
      record { place = reached.place; from = reached.from; is = ap (λ w. read_on binds P (w ++ (b ∷ k)) at (reading heads Begins from)) (own_word x short) ∙ reached.is }

  pub constant_read : (P : Protocol) (w : List ℕ) (named : Named) (b : ℕ) (k : List ℕ) (at : ℕ) (heads : List Open) (n from : ℕ) → IsSymbolWord w → symbol_called P w ≡ Some named → named.arity ≡ 0 → length heads + suc n ≤ most_term_levels → goes_on b ≡ false → Reaches P (w ++ (b ∷ k)) at (reading heads Begins from) (b ∷ k) heads (node named.symbol [])
  constant_read P w named b k at heads n from word called none room ends = alone_read P w (node named.symbol []) b k at heads n from (symbol_word_is_word w word) room ends
      (λ a f. passed (is_variable w) (unless_deep heads f (after_variable a heads f (drop 1 w) (numeral (drop 1 w)) b)) (after_name a heads f (symbol_called P w) b) _ word.1
      (ap (λ o. after_name a heads f o b) called
      ∙ taken (named.arity == 0) (unless_deep heads f (after_term a (node named.symbol []) heads f b)) (Fault f Arity) _ (ap (λ m. m == 0) none)
      (shallow heads n f (after_term a (node named.symbol []) heads f b) _ room refl)))

  pub applied_read : (P : Protocol) (w : List ℕ) (named : Named) (k : List ℕ) (at : ℕ) (heads : List Open) (n from : ℕ) → IsWord w → symbol_called P w ≡ Some named → length heads + suc n ≤ most_term_levels → read_on binds P (w ++ (40 ∷ k)) at (reading heads Begins from) ≡ read_on binds P k (at + length w + 1) (reading (head_over named at [] ∷ heads) Begins at)
  applied_read P w named k at heads n from word called room =
      word_start P w (40 ∷ k) at heads n from word room
      ∙ goes_to P 40 k (at + length w) (reading heads (InWord w) at) (reading (head_over named at [] ∷ heads) Begins at)
      (ap (apply heads at) called ∙ shallow heads n at (opened heads named at) _ room refl)

  pub digits_start : (P : Protocol) (w ds : List ℕ) (point : ℕ) (named : Named) (k : List ℕ) (at : ℕ) (heads : List Open) (n from : ℕ) → IsWord w → list_all is_ascii_digit ds ≡ true → numeral ds ≡ Some point → name_called P w point ≡ Some named → length heads + suc n ≤ most_term_levels
      → (at' : ℕ) × (read_on binds P (w ++ (64 ∷ (ds ++ (91 ∷ k)))) at (reading heads Begins from) ≡ read_on binds P k at' (reading (head_over named at [] ∷ heads) Begins at))
  digits_start P w [] point named k at heads n from word digits number called room = absurd (cc)
  digits_start P w (d ∷ ds) point named k at heads n from word digits number called room =
      let place = at + length w + 1 + length (d ∷ ds) in (
        place + 1,
        word_start P w (64 ∷ ((d ∷ ds) ++ (91 ∷ k))) at heads n from word room
            ∙ (goes_to P 64 ((d ∷ ds) ++ (91 ∷ k)) (at + length w) (reading heads (InWord w) at) (reading heads (InDigits w []) at) refl
            ∙ (digits_read P (d ∷ ds) [] (91 ∷ k) (at + length w + 1) heads at w digits
            ∙ goes_to P 91 k place (reading heads (InDigits w (d ∷ ds)) at) (reading (head_over named at [] ∷ heads) Begins at)
            (ap (λ o. after_number P place heads at w (d ∷ ds) o 91) number ∙ ap (λ o. after_point place heads at o 91) called))),
      )

-- A bound variable, in a constraint.

pub no_digit : (b : ℕ) → goes_on b ≡ false → is_ascii_digit b ≡ false
no_digit b ends = by (is_ascii_digit b) refl
  where
    by : (t : Bool) → is_ascii_digit b ≡ t → is_ascii_digit b ≡ false
    by true is =
        let no_word = (or_false (is_in_word b) (b == 40) (or_false (is_in_word b || (b == 40)) (b == 64) ends).0).0 in
        let never : true ≡ false = sym (digit_in_word b is) ∙ no_word in absurd (cc)
    by false is = is

-- its digits end
bound_alone : (P : Protocol) (ds : List ℕ) (i b at : ℕ) (heads : List Open) (from : ℕ) → numeral ds ≡ Some i → goes_on b ≡ false → step true P at (reading heads (InBound ds) from) b ≡ step true P at (reading heads (Ended (Leaf (first_bound + i))) from) b
bound_alone P [] i b at heads from number ends = absurd (cc)
bound_alone P (d ∷ ds) i b at heads from number ends =
    passed (is_ascii_digit b) (goes heads (InBound ((d ∷ ds) ++ b ∷ [])) from) (bound_ended at heads from (d ∷ ds) b) (after_term at (Leaf (first_bound + i)) heads from b) (no_digit b ends)
    (ap (λ o. after_bound at heads from (d ∷ ds) o b) number ∙ passed (goes_on b) (Fault at Syntax) (after_term at (Leaf (first_bound + i)) heads from b) _ ends refl)

pub bound_read : (P : Protocol) (i b : ℕ) (k : List ℕ) (at : ℕ) (heads : List Open) (n from : ℕ) → IsShort i → length heads + suc n ≤ most_term_levels → goes_on b ≡ false → Reaches true P (63 ∷ (decimal i ++ (b ∷ k))) at (reading heads Begins from) (b ∷ k) heads (Leaf (first_bound + i))
bound_read P i b k at heads n from short room ends =
    let begun = reading heads (InBound []) at in
    let place = at + 1 + length (decimal i) in
    record {
      place = place;
      from = at;
      is = goes_to true P 63 (decimal i ++ (b ∷ k)) at (reading heads Begins from) begun (begins_at true P at heads n 63 (goes heads (InBound []) at) room refl (shallow heads n at (goes heads (InBound []) at) _ room refl))
          ∙ (bound_digits_read true P (decimal i) [] (b ∷ k) (at + 1) heads at (decimal_digits i short)
          ∙ same_step true P b k place (reading heads (InBound (decimal i)) at) (reading heads (Ended (Leaf (first_bound + i))) at) (bound_alone P (decimal i) i b place heads at (numeral-decimal i short) ends));
    }
