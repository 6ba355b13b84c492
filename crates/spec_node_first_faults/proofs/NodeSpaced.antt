-- The numbers of a node, a space before each: a reader of them tells the first fault.
use Rattle.std.proofs.Common.{◌≡◌, ℕ, zero, suc, ◌+◌, ◌<◌, ◌≤◌, ◌==◌, ◌||◌, inl, inr, if◌then◌else◌, Bool, true, false, List, [], ◌∷◌, ◌++◌, length, codes, refl, sym, ◌∙◌, ap, subst, arith, append_assoc, length-append}
use Rattle.std.specs.Char.{is_ascii_digit}
use Rattle.std.specs.Fmt.{decimal}
use Rattle.std.specs.List.{AllByRecursion, list_all}
use Rattle.std.proofs.lemmas.List.{append-nil}
use Rattle.spec_trees.proofs.Occurrence.{or_false}
use Rattle.spec_calculus.proofs.Leaves.{or_false-both}
use Rattle.spec_certificate_text.specs.OfProtocol.{IsShort}
use Rattle.spec_certificate_text.specs.Text.{numbers_text}
use Rattle.spec_certificate_text.proofs.Names.{decimal_digits}
use Rattle.spec_certificate_text.proofs.Runs.{run_apart}
use Rattle.spec_certificate_text.specs.Terms.{Code, Syntax, Count}
use Rattle.spec_certificate_text.specs.Outcomes.{Found, Faulty, next, front, ended, read_fixed, Reader}
use Rattle.spec_certificate_text.proofs.Parts.{Finds, joined, fixed_found}
use Rattle.spec_reading_faults.proofs.Shared.{IsLocal, next_local, choice_local, ended_local, found_local}
use Rattle.spec_certificate_faults.specs.Grammar.{EndsAt}
use Rattle.spec_certificate_faults.specs.First.{Kind}
use Rattle.spec_certificate_faults.proofs.Comes.{either}
use Rattle.spec_first_faults.specs.Kinds.{fixed, IsRun, nothing_before, behind, one_of, many, last, further, in_last, in_one, later}
use Rattle.spec_first_faults.proofs.Tells.{Anything, IsRight, TextRead, Forms, Tells, IsSameKind, shorter, mapped, mapped_tells, same_tells, kind_tells, tells_of, tells_before, never_tells, each_length_tells}
use Rattle.spec_first_faults.proofs.Behind.{then_read, both_tell}
use Rattle.spec_first_faults.proofs.OneOf.{chosen, IsToldBy, told_by_fixed, one_of_tells}
use Rattle.spec_first_faults.proofs.Many.{many_is, many_forms, behind_told, count_local}
use Rattle.spec_first_faults.proofs.Small.{nothing_forms}
use Rattle.spec_first_faults.proofs.Closed.{behind_fixed}
use Rattle.spec_node_reading.specs.Loops.{lines_through}
use Rattle.spec_node_reading.specs.Nodes.{lower_numbers, spaced_numbers}
use Rattle.spec_node_reading.specs.ReadNodes.{lower_number, spaced_number, read_spaced}
use Rattle.spec_node_first_faults.proofs.InMany.{through_then, through_more, through_full, through_local, all_through_local, one_line, no_line}
use Rattle.spec_node_first_faults.proofs.HeadWords.{head_goes_on, digit_stops, run_ends_there, stops_from}
use Rattle.spec_node_first_faults.proofs.NodeNumbers.{lower_tells, lower_read}

-- Nothing, and one byte at least behind it.

abbrev ended_read : {A : Type 0} → A → Reader A
ended_read x bytes at = ended at bytes (Found x at bytes)

nothing_ends : {A : Type 0} (So : List ℕ → Type 0) (follows : List ℕ) → So follows → (So [] → ⊥) → (x : A) → Tells ⊥ (nothing_before So) (λ bytes. (b : ℕ) (k : List ℕ) → bytes ≡ b ∷ k → So bytes) So (ended_read x)
nothing_ends {A} So follows so none x = record {
  forms = nothing_forms So follows so;
  local = ended_local (λ bytes at. Found x at bytes) (found_local x);
  found = λ bytes at place y rest of e. found_by bytes at place y rest of e;
  counted = λ bytes at place y rest of e. counted_by bytes at place y rest e;
  right = λ bytes at place code of e. right_by bytes at place code e;
  texts = λ bytes rest at of text. texts_by bytes rest at text.0 text.1;
  told = λ code bytes there at of fault. absurd fault;
}
  where
    found_by : (bytes : List ℕ) (at place : ℕ) (y : A) (rest : List ℕ) → ((b : ℕ) (k : List ℕ) → bytes ≡ b ∷ k → So bytes) → ended_read x bytes at ≡ Found y place rest → (bytes ≡ rest) × So rest
    found_by [] at place y rest of e = absurd (cc)
    found_by (b ∷ k) at place y rest of e = let rests : b ∷ k ≡ rest = cc in (rests, subst So rests (of b k refl))

    counted_by : (bytes : List ℕ) (at place : ℕ) (y : A) (rest : List ℕ) → ended_read x bytes at ≡ Found y place rest → place + length rest ≡ at + length bytes
    counted_by [] at place y rest e = absurd (cc)
    counted_by (b ∷ k) at place y rest e = let rests : b ∷ k ≡ rest = cc in let places : at ≡ place = cc in omega (arith, places, ap length rests)

    right_by : (bytes : List ℕ) (at place : ℕ) (code : Code) → ended_read x bytes at ≡ Faulty place code → IsRight (nothing_before So) bytes (at + length bytes) place code
    right_by [] at place code e =
        let places : at ≡ place = cc in
        let codes_are : Syntax ≡ code = cc in
        inl (sym codes_are, record { there = []; to = record { before = []; text = refl; extends = record { other = follows; rest = follows; long = omega arith; is = (refl, so) } }; counted = omega (arith, places) })
    right_by (b ∷ k) at place code e = absurd (cc)

    texts_by : (bytes rest : List ℕ) (at : ℕ) → bytes ≡ rest → So rest → TextRead ⊥ (ended_read x bytes at) bytes at rest
    texts_by [] rest at same is = absurd (none (subst So (sym same) is))
    texts_by (b ∷ k) rest at same is = inl record { value = x; place = at; is = ap (Found x at) same }

-- The kinds. Behind a number no digit stands, so that there the last of them may be read as one before which no digit stands.

abbrev stops : ℕ → Bool
stops b = (b == 32) || is_ascii_digit b

abbrev is_space : ℕ → Bool
is_space b = b == 32

-- with these bytes a node could go on
abbrev pub node_goes_on : ℕ → Bool
node_goes_on b = (b == 32) || head_goes_on b

pub head_stops : (bytes : List ℕ) → EndsAt node_goes_on bytes → EndsAt head_goes_on bytes
head_stops [] ends = absurd ends
head_stops (b ∷ bytes) ends = (or_false (b == 32) (head_goes_on b) ends).1

abbrev before_space : Kind
before_space = nothing_before (EndsAt (λ b. b == 32))

abbrev before_stop : Kind
before_stop = nothing_before (EndsAt stops)

module _ (own : ℕ) where
  abbrev spaced : Kind
  spaced = behind (fixed (codes " ")) (lower_numbers own)

  abbrev further_ones : Kind
  further_ones = many spaced before_stop

  -- no digit stands behind a number
  no_digit : (bytes mid : List ℕ) → spaced.Text bytes mid → EndsAt is_ascii_digit mid
  no_digit bytes mid (inner, text, digits) = digits.ends

  less : (bytes : List ℕ) → EndsAt stops bytes → EndsAt (λ b. b == 32) bytes
  less [] ends = absurd ends
  less (b ∷ k) ends = (or_false (b == 32) (is_ascii_digit b) ends).0

  both : (bytes : List ℕ) → EndsAt (λ b. b == 32) bytes → EndsAt is_ascii_digit bytes → EndsAt stops bytes
  both [] ends digit = absurd ends
  both (b ∷ k) ends digit = or_false-both (b == 32) (is_ascii_digit b) ends digit

  text_to : (bytes rest : List ℕ) → further_ones.Text bytes rest → (spaced_numbers own).Text bytes rest
  text_to bytes rest (last (same, ends)) = last (same, less rest ends)
  text_to bytes rest (further mid one more) = further mid one (text_to mid rest more)

  text_back : (bytes rest : List ℕ) → EndsAt is_ascii_digit bytes → (spaced_numbers own).Text bytes rest → further_ones.Text bytes rest
  text_back bytes rest digit (last (same, ends)) = last (same, both rest ends (subst (EndsAt is_ascii_digit) same digit))
  text_back bytes rest digit (further mid one more) = further mid one (text_back mid rest (no_digit bytes mid one) more)

  fault_to : (code : Code) (bytes there : List ℕ) → further_ones.Fault code bytes there → (spaced_numbers own).Fault code bytes there
  fault_to code bytes there (in_last fault) = absurd fault
  fault_to code bytes there (in_one fault) = in_one fault
  fault_to code bytes there (later mid one fault) = later mid one (fault_to code mid there fault)

  fault_back : (code : Code) (bytes there : List ℕ) → (spaced_numbers own).Fault code bytes there → further_ones.Fault code bytes there
  fault_back code bytes there (in_last fault) = absurd fault
  fault_back code bytes there (in_one fault) = in_one fault
  fault_back code bytes there (later mid one fault) = later mid one (fault_back code mid there fault)

  -- the kind: one and further ones, or none
  spaced_is : IsSameKind (one_of (behind spaced further_ones) before_space) (spaced_numbers own)
  spaced_is = record {
    text = λ bytes rest text. either text (λ one. further one.0 one.1 (text_to one.0 rest one.2)) (λ none. last none);
    text_back = λ bytes rest text. from bytes rest text;
    fault = λ code bytes there fault. either fault (λ one. either one (λ k. in_one k) (λ l. later l.0 l.1 (fault_to code l.0 there l.2))) (λ none. absurd none);
    fault_back = λ code bytes there fault. back code bytes there fault;
  }
    where
      from : (bytes rest : List ℕ) → (spaced_numbers own).Text bytes rest → (one_of (behind spaced further_ones) before_space).Text bytes rest
      from bytes rest (last none) = inr none
      from bytes rest (further mid one more) = inl (mid, one, text_back mid rest (no_digit bytes mid one) more)

      back : (code : Code) (bytes there : List ℕ) → (spaced_numbers own).Fault code bytes there → (one_of (behind spaced further_ones) before_space).Fault code bytes there
      back code bytes there (in_last fault) = absurd fault
      back code bytes there (in_one fault) = inl (inl fault)
      back code bytes there (later mid one fault) = inl (inr (mid, one, fault_back code mid there fault))

  -- The readers.

  abbrev read_numbers : ℕ → List ℕ → Reader (List ℕ)
  read_numbers most ns = through_then 32 (spaced_number own) most ns (λ ms. ended_read ms)

  one_tells : (ns : List ℕ) → Tells ⊥ spaced Anything (EndsAt is_ascii_digit) (spaced_number own ns)
  one_tells ns =
      behind_fixed (codes " ") (lower_numbers own) (EndsAt is_ascii_digit) (λ _ _. mapped (λ n. ns ++ n ∷ []) (lower_number own))
      (λ at u. mapped_tells (lower_numbers own) Anything (EndsAt is_ascii_digit) (lower_number own) (λ n. ns ++ n ∷ []) (lower_tells own))

  -- what may stand behind a number: another, or no digit
  may : (bytes rest : List ℕ) → further_ones.Text bytes rest → EndsAt is_ascii_digit bytes
  may bytes rest (last (same, ends)) = subst (EndsAt is_ascii_digit) (sym same) (by rest ends)
    where
      by : (bs : List ℕ) → EndsAt stops bs → EndsAt is_ascii_digit bs
      by [] ends = absurd ends
      by (b ∷ k) ends = (or_false (b == 32) (is_ascii_digit b) ends).1
  may bytes rest (further mid (inner, text, digits) more) = subst (EndsAt is_ascii_digit) (sym text) refl

  further_forms : Forms ⊥ further_ones (EndsAt stops)
  further_forms = many_forms spaced before_stop (EndsAt is_ascii_digit) (EndsAt stops) (one_tells []).forms (nothing_forms (EndsAt stops) (10 ∷ []) refl) record { one = λ bs rest text. subst (EndsAt is_ascii_digit) (sym text.1) refl; other = λ bs rest text. may bs rest (last text) }

  spaced_long : (bytes rest : List ℕ) → spaced.Text bytes rest → length rest + 1 ≤ length bytes
  spaced_long bytes rest (inner, text, digits) = omega (arith, ap length text, ap length digits.text, length-append digits.run rest)

  further_local : (most : ℕ) (ns : List ℕ) → IsLocal (read_numbers most ns)
  further_local most ns = next_local (lines_through 32 (spaced_number own) most ns) (λ at ms. ended_read ms) (through_local 32 (spaced_number own) (λ ms. (one_tells ms).local) most ns) (λ at ms. ended_local (λ bs p. Found ms p bs) (found_local ms))

  abbrev begins_space : List ℕ → Bool
  begins_space bs = front bs == 32

  not_space : (test : ℕ → Bool) → ((b : ℕ) → test b ≡ false → (b == 32) ≡ false) → IsToldBy (nothing_before (EndsAt test)) begins_space false
  not_space test less_than = record { texts = λ bytes rest text. ap begins_space text.0 ∙ by rest text.1; faults = λ code bytes there fault. absurd fault }
    where
      by : (bs : List ℕ) → EndsAt test bs → begins_space bs ≡ false
      by [] ends = absurd ends
      by (b ∷ k) ends = less_than b ends

  space_told : IsToldBy (behind spaced further_ones) begins_space true
  space_told = behind_told spaced further_ones begins_space true (told_by_fixed (codes " ") (lower_numbers own) begins_space true (λ rest. refl))

  -- one number more than those of which readers tell the first fault
  abbrev OfAtMost : ℕ → List ℕ → Type 0
  OfAtMost most bs = EndsAt is_ascii_digit bs × (length bs ≤ most)

  more_tells : (most : ℕ) (ns : List ℕ) (Of : List ℕ → Type 0) → ((ms : List ℕ) → Tells ⊥ further_ones (OfAtMost most) (EndsAt stops) (read_numbers most ms)) → ((bs : List ℕ) → Of bs → length bs ≤ suc most)
      → Tells ⊥ (behind spaced further_ones) Of (EndsAt stops) (then_read (spaced_number own ns) (λ at ms. read_numbers most ms))
  more_tells most ns Of again few =
      both_tell spaced further_ones Of (OfAtMost most) (EndsAt is_ascii_digit) (EndsAt stops) (spaced_number own ns) (λ at ms. read_numbers most ms)
      (tells_of spaced Anything Of (EndsAt is_ascii_digit) (spaced_number own ns) (λ bs of. tt) (one_tells ns)) (λ at ms. again ms) further_forms may
      (λ bs mid of text. let long = spaced_long bs mid text in let most_bytes = few bs of in (no_digit bs mid text, omega (arith, long, most_bytes)))

  more_local : (most : ℕ) (ns : List ℕ) → IsLocal (then_read (spaced_number own ns) (λ at ms. read_numbers most ms))
  more_local most ns = next_local (spaced_number own ns) (λ at ms. read_numbers most ms) (one_tells ns).local (λ at ms. further_local most ms)

  none_local : (ns : List ℕ) → IsLocal (ended_read ns)
  none_local ns = ended_local (λ bs p. Found ns p bs) (found_local ns)

  further_tells : (most : ℕ) (ns : List ℕ) → Tells ⊥ further_ones (OfAtMost most) (EndsAt stops) (read_numbers most ns)
  further_tells zero ns = never_tells further_ones (OfAtMost 0) (EndsAt stops) (read_numbers 0 ns) further_forms (further_local 0 ns) (λ bs of. none bs of.0 of.1)
    where
      none : (bs : List ℕ) → EndsAt is_ascii_digit bs → length bs ≤ 0 → ⊥
      none [] ends few = ends
      none (b ∷ bs) ends few = absurd (omega (arith, few))
  further_tells (suc most) ns =
      let Of = OfAtMost (suc most) in
      let more = then_read (spaced_number own ns) (λ at ms. read_numbers most ms) in
      let K = behind spaced further_ones in
      kind_tells (one_of K before_stop) further_ones Of (EndsAt stops) (read_numbers (suc most) ns) (many_is spaced before_stop)
      (same_tells (one_of K before_stop) Of (EndsAt stops) (read_numbers (suc most) ns) (chosen begins_space more (ended_read ns)) (one_line 32 (spaced_number own) most ns (λ ms. ended_read ms))
      (one_of_tells K before_stop Of (EndsAt stops) begins_space more (ended_read ns)
      (more_tells most ns (λ bs. Of bs × (begins_space bs ≡ true)) (λ ms. further_tells most ms) (λ bs of. of.0.1))
      (tells_of before_stop (λ bs. (b : ℕ) (k : List ℕ) → bs ≡ b ∷ k → EndsAt stops bs) (λ bs. Of bs × (begins_space bs ≡ false)) (EndsAt stops) (ended_read ns) (λ bs of b k is. stop_at bs of.0.0 of.1) (nothing_ends (EndsAt stops) (10 ∷ []) refl (λ never. never) ns))
      space_told (not_space stops (λ b is. (or_false (b == 32) (is_ascii_digit b) is).0)) (choice_local (λ b. b == 32) more (ended_read ns) (more_local most ns) (none_local ns))))
    where
      stop_at : (bs : List ℕ) → EndsAt is_ascii_digit bs → begins_space bs ≡ false → EndsAt stops bs
      stop_at [] ends other = absurd ends
      stop_at (b ∷ bs) ends other = or_false-both (b == 32) (is_ascii_digit b) other ends

  -- All of them: behind them there is no space, and no byte that could go on with a head.

  space_stops : (bytes : List ℕ) → EndsAt node_goes_on bytes → EndsAt is_space bytes
  space_stops [] ends = absurd ends
  space_stops (b ∷ bytes) ends = (or_false (b == 32) (head_goes_on b) ends).0

  all_stop : (bytes : List ℕ) → EndsAt node_goes_on bytes → EndsAt stops bytes
  all_stop [] ends = absurd ends
  all_stop (b ∷ bytes) ends = or_false-both (b == 32) (is_ascii_digit b) (space_stops (b ∷ bytes) ends) (digit_stops (b ∷ bytes) (head_stops (b ∷ bytes) ends))

  abbrev some_numbers : Kind
  some_numbers = behind spaced further_ones

  abbrev numbers_or_none : Kind
  numbers_or_none = one_of some_numbers before_space

  some_tells : (most : ℕ) (Of : List ℕ → Type 0) → ((bs : List ℕ) → Of bs → length bs ≤ suc most) → Tells ⊥ some_numbers Of (EndsAt node_goes_on) (then_read (spaced_number own []) (λ at ms. read_numbers most ms))
  some_tells most Of few = tells_before some_numbers Of (EndsAt stops) (EndsAt node_goes_on) (then_read (spaced_number own []) (λ at ms. read_numbers most ms)) (10 ∷ []) all_stop refl (more_tells most [] Of (λ ms. further_tells most ms) few)

  none_tells : (Of : List ℕ → Type 0) → ((bs : List ℕ) → Of bs → begins_space bs ≡ false) → Tells {A = List ℕ} ⊥ before_space Of (EndsAt node_goes_on) (ended_read [])
  none_tells Of other =
      tells_before before_space Of (EndsAt is_space) (EndsAt node_goes_on) (ended_read []) (10 ∷ []) space_stops refl
      (tells_of before_space (λ bs. (b : ℕ) (k : List ℕ) → bs ≡ b ∷ k → EndsAt is_space bs) Of (EndsAt is_space) (ended_read []) (λ bs of. by bs (other bs of)) (nothing_ends (EndsAt is_space) (10 ∷ []) refl (λ never. never) []))
    where
      by : (bs : List ℕ) → begins_space bs ≡ false → (b : ℕ) (k : List ℕ) → bs ≡ b ∷ k → EndsAt is_space bs
      by [] isnt b k is = absurd (cc)
      by (c ∷ l) isnt b k is = isnt

  within_tells : (most : ℕ) → Tells ⊥ (spaced_numbers own) (λ bs. length bs ≤ most) (EndsAt node_goes_on) (read_numbers most [])
  within_tells zero =
      let Of = λ (bs : List ℕ). length bs ≤ 0 in
      let refuse : Reader (List ℕ) = λ bs p. Faulty p Count in
      kind_tells numbers_or_none (spaced_numbers own) Of (EndsAt node_goes_on) (read_numbers 0 []) spaced_is
      (same_tells numbers_or_none Of (EndsAt node_goes_on) (read_numbers 0 []) (chosen begins_space refuse (ended_read [])) (no_line 32 (spaced_number own) [] (λ ms. ended_read ms))
      (one_of_tells some_numbers before_space Of (EndsAt node_goes_on) begins_space refuse (ended_read [])
      (never_tells some_numbers (λ bs. Of bs × (begins_space bs ≡ true)) (EndsAt node_goes_on) refuse (some_tells 0 (λ bs. length bs ≤ 1) (λ bs of. of)).forms count_local (λ bs of. no_byte bs of.0 of.1)) (none_tells (λ bs. Of bs × (begins_space bs ≡ false)) (λ bs of. of.1))
      space_told (not_space is_space (λ b is. is)) (choice_local is_space refuse (ended_read []) count_local (none_local []))))
    where
      no_byte : (bs : List ℕ) → length bs ≤ 0 → begins_space bs ≡ true → ⊥
      no_byte [] few is = absurd (cc)
      no_byte (b ∷ bs) few is = absurd (omega (arith, few))
  within_tells (suc most) =
      let Of = λ (bs : List ℕ). length bs ≤ suc most in
      let more = then_read (spaced_number own []) (λ at ms. read_numbers most ms) in
      kind_tells numbers_or_none (spaced_numbers own) Of (EndsAt node_goes_on) (read_numbers (suc most) []) spaced_is
      (same_tells numbers_or_none Of (EndsAt node_goes_on) (read_numbers (suc most) []) (chosen begins_space more (ended_read [])) (one_line 32 (spaced_number own) most [] (λ ms. ended_read ms))
      (one_of_tells some_numbers before_space Of (EndsAt node_goes_on) begins_space more (ended_read [])
      (some_tells most (λ bs. Of bs × (begins_space bs ≡ true)) (λ bs of. of.0)) (none_tells (λ bs. Of bs × (begins_space bs ≡ false)) (λ bs of. of.1))
      space_told (not_space is_space (λ b is. is)) (choice_local is_space more (ended_read []) (more_local most []) (none_local []))))

  -- the numbers are read, and their first fault told
  pub spaced_tells : Tells ⊥ (spaced_numbers own) Anything (EndsAt node_goes_on) (read_spaced own)
  spaced_tells =
      each_length_tells (spaced_numbers own) (EndsAt node_goes_on) (λ most. read_numbers most [])
      (next_local (λ bytes at. lines_through 32 (spaced_number own) (length bytes) [] bytes at) (λ at ms. ended_read ms)
      (all_through_local 32 (spaced_number own) refl (λ ns bytes at place ms rest e. spaced_long bytes rest ((one_tells ns).found bytes at place ms rest tt e)) (λ ns. (one_tells ns).local) []) (λ at ms. none_local ms)) within_tells

  pub none_there : (bytes : List ℕ) → EndsAt node_goes_on bytes → (spaced_numbers own).Text bytes bytes
  none_there bytes ends = last (refl, space_stops bytes ends)

  -- Numbers that are the text up to there are read.

  pub long_text : (bytes rest : List ℕ) → (spaced_numbers own).Text bytes rest → length rest ≤ length bytes
  long_text bytes rest text = shorter (spaced_numbers own) (EndsAt node_goes_on) bytes rest (spaced_tells.forms.moved bytes rest text)

  abbrev AreLower : List ℕ → Type 0
  AreLower ns = AllByRecursion (λ n. IsShort n × (1 ≤ n) × (n < own)) ns

  long_numbers : (ns rest : List ℕ) → length rest + length ns ≤ length (numbers_text ns rest)
  long_numbers [] rest = omega arith
  long_numbers (n ∷ ns) rest = let more = long_numbers ns rest in omega (arith, more, length-append (decimal n) (numbers_text ns rest))

  -- bytes that pass a test end before numbers, and before what stands behind these
  pub ends_behind : (passes begins : ℕ → Bool) (w ns rest mid : List ℕ) → list_all passes w ≡ true → passes 32 ≡ false → IsRun begins passes (w ++ numbers_text ns rest) mid → length rest ≤ length mid → mid ≡ numbers_text ns rest
  ends_behind passes begins w [] rest mid all stops run long = sym (run_ends_there passes w rest run.run mid all run.ends run.text long).rest
  ends_behind passes begins w (n ∷ ns) rest mid all stops run long = sym (run_apart passes w run.run (numbers_text (n ∷ ns) rest) mid all run.all stops (stops_from passes mid run.ends) run.text).rest

  one_read : (ms : List ℕ) (n : ℕ) (rest : List ℕ) (at : ℕ) → IsShort n → 1 ≤ n → n < own → EndsAt is_ascii_digit rest → Finds (spaced_number own ms (32 ∷ (decimal n ++ rest)) at) (ms ++ n ∷ []) rest
  one_read ms n rest at short some below ends =
      joined (read_fixed (codes " ") (32 ∷ (decimal n ++ rest)) at) (λ _ p r. next (lower_number own r p) (λ n p r. Found (ms ++ n ∷ []) p r)) tt (decimal n ++ rest) (ms ++ n ∷ []) rest (fixed_found (codes " ") (decimal n ++ rest) at)
      (λ p. joined (lower_number own (decimal n ++ rest) p) (λ n p r. Found (ms ++ n ∷ []) p r) n rest (ms ++ n ∷ []) rest (lower_read own n rest p short some below ends) (λ q. record { place = q; is = refl }))

  -- where no space stands no number is read
  through_stops : (most : ℕ) (ms bytes : List ℕ) (at : ℕ) → begins_space bytes ≡ false → lines_through 32 (spaced_number own) most ms bytes at ≡ Found ms at bytes
  through_stops zero ms bytes at other = through_full 32 (spaced_number own) ms bytes at ∙ ap (λ t. if t then Faulty at Count else Found ms at bytes) other
  through_stops (suc most) ms bytes at other = through_more 32 (spaced_number own) most ms bytes at ∙ ap (λ t. if t then next (spaced_number own ms bytes at) (λ xs p k. lines_through 32 (spaced_number own) most xs k p) else Found ms at bytes) other

  -- behind the numbers no further one stands
  pub no_space : (rest : List ℕ) → (spaced_numbers own).Text rest rest → begins_space rest ≡ false
  no_space rest (further mid one more) = let long = long_text mid rest more in let less = spaced_long rest mid one in absurd (omega (arith, long, less))
  no_space rest (last (same, ends)) = by rest ends
    where
      by : (bs : List ℕ) → EndsAt is_space bs → begins_space bs ≡ false
      by [] ends = absurd ends
      by (b ∷ bs) ends = ends

  all_read : (most : ℕ) (ms ns rest : List ℕ) (at : ℕ) → length ns ≤ most → AreLower ns → (spaced_numbers own).Text (numbers_text ns rest) rest → Finds (lines_through 32 (spaced_number own) most ms (numbers_text ns rest) at) (ms ++ ns) rest
  all_read most ms [] rest at few lower text =
      let read = through_stops most ms rest at (no_space rest text) in
      subst (λ xs. Finds (lines_through 32 (spaced_number own) most ms rest at) xs rest) (sym (append-nil ms)) record { place = at; is = read }
  all_read zero ms (n ∷ ns) rest at few lower text = absurd (omega (arith, few))
  all_read (suc most) ms (n ∷ ns) rest at few lower (last (same, ends)) = let long = long_numbers (n ∷ ns) rest in absurd (omega (arith, long, ap length same))
  all_read (suc most) ms (n ∷ ns) rest at few lower (further mid (inner, opens, run) more) =
      let inside : inner ≡ decimal n ++ numbers_text ns rest = cc in
      let there : IsRun is_ascii_digit is_ascii_digit (decimal n ++ numbers_text ns rest) mid = subst (λ bs. IsRun is_ascii_digit is_ascii_digit bs mid) inside run in
      let (short, some, below) = lower.0 in
      let behind_it = ends_behind is_ascii_digit is_ascii_digit (decimal n) ns rest mid (decimal_digits n short) refl there (long_text mid rest more) in
      let k = numbers_text ns rest in
      let ends : EndsAt is_ascii_digit k = subst (EndsAt is_ascii_digit) behind_it there.ends in
      let bytes = 32 ∷ (decimal n ++ k) in
      let found = joined (spaced_number own ms bytes at) (λ xs p k. lines_through 32 (spaced_number own) most xs k p) (ms ++ n ∷ []) k (ms ++ n ∷ ns) rest (one_read ms n k at short some below ends)
      (λ p. subst (λ xs. Finds (lines_through 32 (spaced_number own) most (ms ++ n ∷ []) k p) xs rest) (append_assoc ms (n ∷ []) ns)
      (all_read most (ms ++ n ∷ []) ns rest p (omega (arith, few)) lower.1 (subst (λ m. (spaced_numbers own).Text m rest) behind_it more))) in
      record { place = found.place; is = through_more 32 (spaced_number own) most ms bytes at ∙ found.is }

  pub numbers_are_read : (ns rest : List ℕ) (at : ℕ) → AreLower ns → (spaced_numbers own).Text (numbers_text ns rest) rest → Finds (read_spaced own (numbers_text ns rest) at) ns rest
  numbers_are_read ns rest at lower text =
      let bytes = numbers_text ns rest in
      let long = long_numbers ns rest in
      joined (lines_through 32 (spaced_number own) (length bytes) [] bytes at) (λ xs p r. ended p r (Found xs p r)) ns rest ns rest (all_read (length bytes) [] ns rest at (omega (arith, long)) lower text)
      (λ p. some_left rest p (text_ends (numbers_text ns rest) rest text))
    where
      text_ends : (bytes rest : List ℕ) → (spaced_numbers own).Text bytes rest → EndsAt is_space rest
      text_ends bytes rest (last (same, ends)) = ends
      text_ends bytes rest (further mid one more) = text_ends mid rest more

      some_left : (rest : List ℕ) (p : ℕ) → EndsAt is_space rest → Finds (ended p rest (Found ns p rest)) ns rest
      some_left [] p ends = absurd ends
      some_left (b ∷ rest) p ends = record { place = p; is = refl }
