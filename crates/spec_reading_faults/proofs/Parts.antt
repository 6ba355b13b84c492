-- Fixed bytes, runs of bytes and numbers, rows of things and lines.
use Rattle.std.proofs.Common.{◌≡◌, ℕ, zero, suc, ◌+◌, ◌-◌, ◌≤◌, Bool, true, false, ◌==◌, if◌then◌else◌, cond, List, [], ◌∷◌, ◌++◌, length, take, drop, Option, Some, None, refl, sym, ◌∙◌, ap, arith, length-drop}
use Rattle.std.proofs.lemmas.Bool.Decides.{nat_tests}
use Rattle.std.proofs.lemmas.List.{drop-drop}
use Rattle.std.specs.Char.{is_ascii_digit}
use Rattle.std.specs.List.{prefix_len}
use Rattle.spec_run_text.specs.Reading.{numeral}
use Rattle.spec_certificate_text.specs.Terms.{Syntax, Number, Count}
use Rattle.spec_certificate_text.specs.Outcomes.{Outcome, Found, Faulty, next, Reader, front, ended, read_fixed, as_number, number_before, read_number, things_from, things, lines_from}
use Rattle.spec_certificate_text.proofs.Things.{lines_full}
use Rattle.spec_reading_faults.proofs.Shared.{Shares, shares_less, shares_drop, shares_some, Passed, IsLocal, Moves, passed_on, as_told, next_local, choice_local, found_local, never_local, other_local, ended_local}

-- a reader that answers the same is as local
pub same_local : {A : Type 0} (r s : Reader A) → ((bytes : List ℕ) (at : ℕ) → r bytes at ≡ s bytes at) → IsLocal s → IsLocal r
same_local r s same of_s = record {
  fault = λ bytes others at n place shares there e. same others at ∙ of_s.fault bytes others at n place shares there (sym (same bytes at) ∙ e);
  found = λ bytes others at n place x rest shares there e. same others at ∙ of_s.found bytes others at n place x rest shares there (sym (same bytes at) ∙ e);
  passed = λ bytes at place x rest e. of_s.passed bytes at place x rest (sym (same bytes at) ∙ e);
  later = λ bytes at place e. of_s.later bytes at place (sym (same bytes at) ∙ e);
}

pub either_local : {A : Type 0} (t : Bool) (a b : Reader A) → IsLocal a → IsLocal b → IsLocal (λ bytes at. if t then a bytes at else b bytes at)
either_local true a b of_a of_b = of_a
either_local false a b of_a of_b = of_b

-- Fixed bytes.

fixed_later : (ws bytes : List ℕ) (at place : ℕ) → read_fixed ws bytes at ≡ Faulty place Syntax → at ≤ place
unfolding read_fixed
fixed_later [] bytes at place e = absurd (cc)
fixed_later (w ∷ ws) [] at place e = let places : at ≡ place = cc in omega (arith, places)
fixed_later (w ∷ ws) (b ∷ bytes) at place e = by (b == w) e (fixed_later ws bytes (at + 1) place)
  where
    by : (t : Bool) → (if t then read_fixed ws bytes (at + 1) else Faulty at Syntax) ≡ Faulty place Syntax → (read_fixed ws bytes (at + 1) ≡ Faulty place Syntax → at + 1 ≤ place) → at ≤ place
    by true told again = omega (arith, again told)
    by false told again = let places : at ≡ place = cc in omega (arith, places)

fixed_passed : (ws bytes : List ℕ) (at place : ℕ) (u : Unit {0}) (rest : List ℕ) → read_fixed ws bytes at ≡ Found u place rest → Passed bytes at place rest
unfolding read_fixed
fixed_passed [] bytes at place u rest e = let places : at ≡ place = cc in let rests : bytes ≡ rest = cc in record { count = 0; there = omega (arith, places); is = sym rests }
fixed_passed (w ∷ ws) [] at place u rest e = absurd (cc)
fixed_passed (w ∷ ws) (b ∷ bytes) at place u rest e = by (b == w) e (fixed_passed ws bytes (at + 1) place u rest)
  where
    by : (t : Bool) → (if t then read_fixed ws bytes (at + 1) else Faulty at Syntax) ≡ Found u place rest → (read_fixed ws bytes (at + 1) ≡ Found u place rest → Passed bytes (at + 1) place rest) → Passed (b ∷ bytes) at place rest
    by true told again = let cut = again told in record { count = suc cut.count; there = omega (arith, cut.there); is = cut.is }
    by false told again = absurd (cc)

fixed_fault : (ws : List ℕ) (n : ℕ) (bytes others : List ℕ) (at place : ℕ) → Shares n bytes others → place ≡ at + n → read_fixed ws bytes at ≡ Faulty place Syntax → read_fixed ws others at ≡ Faulty place Syntax
unfolding read_fixed Shares
fixed_fault [] n bytes others at place shares there e = absurd (cc)
fixed_fault (w ∷ ws) n [] others at place shares there e = absurd shares
fixed_fault (w ∷ ws) n (b ∷ bytes) [] at place shares there e = absurd shares
fixed_fault (w ∷ ws) zero (b ∷ bytes) (c ∷ others) at place shares there e = ap (λ d. if d == w then read_fixed ws others (at + 1) else Faulty at Syntax) (sym shares) ∙ by (b == w) e
  where
    by : (t : Bool) → (if t then read_fixed ws bytes (at + 1) else Faulty at Syntax) ≡ Faulty place Syntax → (if t then read_fixed ws others (at + 1) else Faulty at Syntax) ≡ Faulty place Syntax
    by true told = absurd (omega (arith, fixed_later ws bytes (at + 1) place told, there))
    by false told = told
fixed_fault (w ∷ ws) (suc n) (b ∷ bytes) (c ∷ others) at place shares there e =
    ap (λ d. if d == w then read_fixed ws others (at + 1) else Faulty at Syntax) (sym shares.0) ∙ by (b == w) e (fixed_fault ws n bytes others (at + 1) place shares.1 (omega (arith, there)))
  where
    by : (t : Bool) → (if t then read_fixed ws bytes (at + 1) else Faulty at Syntax) ≡ Faulty place Syntax
        → (read_fixed ws bytes (at + 1) ≡ Faulty place Syntax → read_fixed ws others (at + 1) ≡ Faulty place Syntax)
        → (if t then read_fixed ws others (at + 1) else Faulty at Syntax) ≡ Faulty place Syntax
    by true told again = again told
    by false told again = told

fixed_found : (ws : List ℕ) (n : ℕ) (bytes others : List ℕ) (at place : ℕ) (u : Unit {0}) (rest : List ℕ) → Shares n bytes others → place ≡ at + n → read_fixed ws bytes at ≡ Found u place rest → read_fixed ws others at ≡ Found u place (drop n others)
unfolding read_fixed Shares
fixed_found [] n bytes others at place u rest shares there e = (found_local tt).found bytes others at n place u rest shares there e
fixed_found (w ∷ ws) n [] others at place u rest shares there e = absurd shares
fixed_found (w ∷ ws) n (b ∷ bytes) [] at place u rest shares there e = absurd shares
fixed_found (w ∷ ws) zero (b ∷ bytes) (c ∷ others) at place u rest shares there e = absurd (by (b == w) e)
  where
    by : (t : Bool) → (if t then read_fixed ws bytes (at + 1) else Faulty at Syntax) ≡ Found u place rest → ⊥
    by true told = let cut = fixed_passed ws bytes (at + 1) place u rest told in absurd (omega (arith, cut.there, there))
    by false told = absurd (cc)
fixed_found (w ∷ ws) (suc n) (b ∷ bytes) (c ∷ others) at place u rest shares there e =
    ap (λ d. if d == w then read_fixed ws others (at + 1) else Faulty at Syntax) (sym shares.0) ∙ by (b == w) e (fixed_found ws n bytes others (at + 1) place u rest shares.1 (omega (arith, there)))
  where
    by : (t : Bool) → (if t then read_fixed ws bytes (at + 1) else Faulty at Syntax) ≡ Found u place rest
        → (read_fixed ws bytes (at + 1) ≡ Found u place rest → read_fixed ws others (at + 1) ≡ Found u place (drop n others))
        → (if t then read_fixed ws others (at + 1) else Faulty at Syntax) ≡ Found u place (drop n others)
    by true told again = again told
    by false told again = absurd (cc)

pub fixed_local : (ws : List ℕ) → IsLocal (read_fixed ws)
fixed_local ws = record {
  fault = λ bytes others at n place shares there e. fixed_fault ws n bytes others at place shares there e;
  found = λ bytes others at n place u rest shares there e. fixed_found ws n bytes others at place u rest shares there e;
  passed = λ bytes at place u rest e. fixed_passed ws bytes at place u rest e;
  later = λ bytes at place e. fixed_later ws bytes at place e;
}

pub fixed_moves : (w : ℕ) (ws : List ℕ) → Moves (read_fixed (w ∷ ws))
unfolding read_fixed
fixed_moves w ws [] at place u rest e = absurd (cc)
fixed_moves w ws (b ∷ bytes) at place u rest e = by (b == w) e
  where
    by : (t : Bool) → (if t then read_fixed ws bytes (at + 1) else Faulty at Syntax) ≡ Found u place rest → at + 1 ≤ place
    by true told = let cut = fixed_passed ws bytes (at + 1) place u rest told in omega (arith, cut.there)
    by false told = absurd (cc)

-- Runs of bytes of a kind, and numbers.

unfoldable pub run : (ℕ → Bool) → Reader (List ℕ)
run test bytes at = Found (take (prefix_len test bytes) bytes) (at + prefix_len test bytes) (drop (prefix_len test bytes) bytes)

run_shared : (test : ℕ → Bool) (n : ℕ) (bytes others : List ℕ) → Shares n bytes others → prefix_len test bytes ≤ n
    → (prefix_len test others ≡ prefix_len test bytes) × (take (prefix_len test bytes) bytes ≡ take (prefix_len test bytes) others)
unfolding Shares
run_shared test n [] others shares few = absurd shares
run_shared test n (b ∷ bytes) [] shares few = absurd shares
run_shared test zero (b ∷ bytes) (c ∷ others) shares few = by (test b) refl (ap test (sym shares)) few
  where
    by : (t : Bool) → test b ≡ t → test c ≡ test b → cond t (1 + prefix_len test bytes) 0 ≤ 0
        → (cond (test c) (1 + prefix_len test others) 0 ≡ cond (test b) (1 + prefix_len test bytes) 0) × (take (cond (test b) (1 + prefix_len test bytes) 0) (b ∷ bytes) ≡ take (cond (test b) (1 + prefix_len test bytes) 0) (c ∷ others))
    by true is same room = absurd (omega (arith, room))
    by false is same room = (ap (λ t. cond t (1 + prefix_len test others) 0) (same ∙ is) ∙ ap (λ t. cond t (1 + prefix_len test bytes) 0) (sym is), ap (λ t. take (cond t (1 + prefix_len test bytes) 0) (b ∷ bytes)) is ∙ ap (λ t. take (cond t (1 + prefix_len test bytes) 0) (c ∷ others)) (sym is))
run_shared test (suc n) (b ∷ bytes) (c ∷ others) shares few = by (test b) refl (ap test (sym shares.0)) few (run_shared test n bytes others shares.1)
  where
    by : (t : Bool) → test b ≡ t → test c ≡ test b → cond t (1 + prefix_len test bytes) 0 ≤ suc n
        → (prefix_len test bytes ≤ n → (prefix_len test others ≡ prefix_len test bytes) × (take (prefix_len test bytes) bytes ≡ take (prefix_len test bytes) others))
        → (cond (test c) (1 + prefix_len test others) 0 ≡ cond (test b) (1 + prefix_len test bytes) 0) × (take (cond (test b) (1 + prefix_len test bytes) 0) (b ∷ bytes) ≡ take (cond (test b) (1 + prefix_len test bytes) 0) (c ∷ others))
    by true is same room again =
        let behind = again (omega (arith, room)) in (
          ap (λ t. cond t (1 + prefix_len test others) 0) (same ∙ is) ∙ (ap (λ k. 1 + k) behind.0 ∙ ap (λ t. cond t (1 + prefix_len test bytes) 0) (sym is)),
          ap (λ t. take (cond t (1 + prefix_len test bytes) 0) (b ∷ bytes)) is ∙ (ap (λ d. take (1 + prefix_len test bytes) (d ∷ bytes)) shares.0 ∙ (longer (prefix_len test bytes) behind.1 ∙ ap (λ t. take (cond t (1 + prefix_len test bytes) 0) (c ∷ others)) (sym is))),
        )
      where
        longer : (k : ℕ) → take k bytes ≡ take k others → take (1 + k) (c ∷ bytes) ≡ take (1 + k) (c ∷ others)
        longer k also = let next_one : 1 + k ≡ suc k = omega arith in ap (λ j. take j (c ∷ bytes)) next_one ∙ (ap (λ bs. c ∷ bs) also ∙ ap (λ j. take j (c ∷ others)) (sym next_one))
    by false is same room again = (ap (λ t. cond t (1 + prefix_len test others) 0) (same ∙ is) ∙ ap (λ t. cond t (1 + prefix_len test bytes) 0) (sym is), ap (λ t. take (cond t (1 + prefix_len test bytes) 0) (b ∷ bytes)) is ∙ ap (λ t. take (cond t (1 + prefix_len test bytes) 0) (c ∷ others)) (sym is))

pub run_local : (test : ℕ → Bool) → IsLocal (run test)
unfolding run
run_local test = record {
  fault = λ bytes others at n place shares there e. absurd (cc);
  found = λ bytes others at n place x rest shares there e. by bytes others at n place x rest shares there e;
  passed = λ bytes at place x rest e. let places : at + prefix_len test bytes ≡ place = cc in let rests : drop (prefix_len test bytes) bytes ≡ rest = cc in record { count = prefix_len test bytes; there = sym places; is = sym rests };
  later = λ bytes at place e. absurd (cc);
}
  where
    by : (bytes others : List ℕ) (at n place : ℕ) (x rest : List ℕ) → Shares n bytes others → place ≡ at + n
        → Found (take (prefix_len test bytes) bytes) (at + prefix_len test bytes) (drop (prefix_len test bytes) bytes) ≡ Found x place rest
        → Found (take (prefix_len test others) others) (at + prefix_len test others) (drop (prefix_len test others) others) ≡ Found x place (drop n others)
    by bytes others at n place x rest shares there e =
        let words : take (prefix_len test bytes) bytes ≡ x = cc in
        let places : at + prefix_len test bytes ≡ place = cc in
        let long : prefix_len test bytes ≡ n = omega (arith, places, there) in
        let same = run_shared test n bytes others shares (omega (arith, long)) in
        ap (λ k. Found (take k others) (at + k) (drop k others)) same.0 ∙ (ap (λ w. Found w (at + prefix_len test bytes) (drop (prefix_len test bytes) others)) (sym same.1 ∙ words) ∙ (ap (λ p. Found x p (drop (prefix_len test bytes) others)) places ∙ ap (λ k. Found x place (drop k others)) long))

number_as : ℕ → Option ℕ → Reader ℕ
number_as from o bytes at = as_number from o at bytes

number_as-local : (from : ℕ) (o : Option ℕ) → IsLocal (number_as from o)
unfolding number_as
number_as-local from None = other_local from Number (λ e. cc)
number_as-local from (Some n) = found_local n

number_or : ℕ → Option ℕ → Reader ℕ
number_or from o bytes at = ended at bytes (number_as from o bytes at)

number_or-local : (from : ℕ) (o : Option ℕ) → IsLocal (number_or from o)
unfolding number_or
number_or-local from o = ended_local (number_as from o) (number_as-local from o)

number_is : (bytes : List ℕ) (at : ℕ) → read_number bytes at ≡ (if is_ascii_digit (front bytes) then next (run is_ascii_digit bytes at) (λ ds p k. number_or at (numeral ds) k p) else Faulty at Syntax)
unfolding run number_or number_as
number_is [] at = refl
number_is (b ∷ bytes) at = by (is_ascii_digit b)
  where
    none : (k : ℕ) → (1 + k == 0) ≡ false
    none k = grind (arith, nat_tests)

    by : (t : Bool) → (if cond t (1 + prefix_len is_ascii_digit bytes) 0 == 0 then Faulty at Syntax else number_before at (numeral (take (cond t (1 + prefix_len is_ascii_digit bytes) 0) (b ∷ bytes))) (at + cond t (1 + prefix_len is_ascii_digit bytes) 0) (drop (cond t (1 + prefix_len is_ascii_digit bytes) 0) (b ∷ bytes)))
        ≡ (if t then number_before at (numeral (take (cond t (1 + prefix_len is_ascii_digit bytes) 0) (b ∷ bytes))) (at + cond t (1 + prefix_len is_ascii_digit bytes) 0) (drop (cond t (1 + prefix_len is_ascii_digit bytes) 0) (b ∷ bytes)) else Faulty at Syntax)
    by true = let k = 1 + prefix_len is_ascii_digit bytes in ap (λ t. if t then Faulty at Syntax else number_before at (numeral (take k (b ∷ bytes))) (at + k) (drop k (b ∷ bytes))) (none (prefix_len is_ascii_digit bytes))
    by false = refl

digits : Reader ℕ
digits bytes at = next (run is_ascii_digit bytes at) (λ ds p k. number_or at (numeral ds) k p)

digits_local : IsLocal digits
unfolding digits
digits_local = next_local (run is_ascii_digit) (λ at ds. number_or at (numeral ds)) (run_local is_ascii_digit) (λ at ds. number_or-local at (numeral ds))

as_digits : (bytes : List ℕ) (at : ℕ) → read_number bytes at ≡ (if is_ascii_digit (front bytes) then digits bytes at else Faulty at Syntax)
unfolding digits
as_digits bytes at = number_is bytes at

pub number_local : IsLocal read_number
number_local = same_local read_number (λ bytes at. if is_ascii_digit (front bytes) then digits bytes at else Faulty at Syntax) as_digits (choice_local is_ascii_digit digits (λ bytes at. Faulty at Syntax) digits_local never_local)

-- Rows of things.

pub things_more : {A : Type 0} (r : Reader (A × Bool)) (most : ℕ) (xs : List A) (bytes : List ℕ) (at : ℕ) → things_from r (suc most) xs bytes at ≡ next (r bytes at) (λ x p k. if x.1 then things_from r most (xs ++ x.0 ∷ []) k p else Found (xs ++ x.0 ∷ []) p k)
unfolding things_from
things_more r most xs bytes at = refl

pub things_none : {A : Type 0} (r : Reader (A × Bool)) (xs : List A) (bytes : List ℕ) (at : ℕ) → things_from r 0 xs bytes at ≡ Faulty at Syntax
unfolding things_from
things_none r xs bytes at = refl

things_later : {A : Type 0} (r : Reader (A × Bool)) → IsLocal r → (most : ℕ) (xs : List A) (bytes : List ℕ) (at place : ℕ) → things_from r most xs bytes at ≡ Faulty place Syntax → at ≤ place
things_later {A} r local zero xs bytes at place e = let told : Faulty at Syntax ≡ Faulty place Syntax = sym (things_none r xs bytes at) ∙ e in let places : at ≡ place = cc in omega (arith, places)
things_later {A} r local (suc most) xs bytes at place e = by (r bytes at) refl (sym (things_more r most xs bytes at) ∙ e) (λ ys k p. things_later r local most ys k p place)
  where
    by : (o : Outcome (A × Bool)) → r bytes at ≡ o → next o (λ x p k. if x.1 then things_from r most (xs ++ x.0 ∷ []) k p else Found (xs ++ x.0 ∷ []) p k) ≡ Faulty place Syntax
        → ((ys : List A) (k : List ℕ) (p : ℕ) → things_from r most ys k p ≡ Faulty place Syntax → p ≤ place) → at ≤ place
    by (Faulty p c) is told again = let places : p ≡ place = cc in let codes : c ≡ Syntax = cc in local.later bytes at place (as_told r bytes at place p c is places codes)
    by (Found (x, true) p k) is told again = let cut = local.passed bytes at p (x, true) k is in omega (arith, cut.there, again (xs ++ x ∷ []) k p told)
    by (Found (x, false) p k) is told again = absurd (cc)

things_passed : {A : Type 0} (r : Reader (A × Bool)) → IsLocal r → (most : ℕ) (xs : List A) (bytes : List ℕ) (at place : ℕ) (ys : List A) (rest : List ℕ) → things_from r most xs bytes at ≡ Found ys place rest → Passed bytes at place rest
things_passed {A} r local zero xs bytes at place ys rest e = let never : Faulty at Syntax ≡ Found ys place rest = sym (things_none r xs bytes at) ∙ e in absurd (cc)
things_passed {A} r local (suc most) xs bytes at place ys rest e = by (r bytes at) refl (sym (things_more r most xs bytes at) ∙ e) (λ zs k p. things_passed r local most zs k p place ys rest)
  where
    by : (o : Outcome (A × Bool)) → r bytes at ≡ o → next o (λ x p k. if x.1 then things_from r most (xs ++ x.0 ∷ []) k p else Found (xs ++ x.0 ∷ []) p k) ≡ Found ys place rest
        → ((zs : List A) (k : List ℕ) (p : ℕ) → things_from r most zs k p ≡ Found ys place rest → Passed k p place rest) → Passed bytes at place rest
    by (Faulty p c) is told again = absurd (cc)
    by (Found (x, true) p k) is told again =
        passed_on bytes at p place k rest (local.passed bytes at p (x, true) k is) (again (xs ++ x ∷ []) k p told)
    by (Found (x, false) p k) is told again = let places : p ≡ place = cc in let rests : k ≡ rest = cc in let cut = local.passed bytes at p (x, false) k is in record { count = cut.count; there = omega (arith, cut.there, places); is = sym rests ∙ cut.is }

-- bytes behind others that something was found of
pub fewer : (bytes : List ℕ) (n most : ℕ) → 1 ≤ n → length bytes ≤ suc most → length (drop n bytes) ≤ most
fewer bytes n most some few = omega (arith, length-drop n bytes, some, few)

no_room : (n most : ℕ) (bytes others : List ℕ) → Shares n bytes others → (length bytes ≤ 0 → ⊥) × (length others ≤ 0 → ⊥)
no_room n most bytes others shares = let some = shares_some n bytes others shares in (λ few. omega (arith, some.0, few), λ few. omega (arith, some.1, few))

-- what stands behind the first things, as it is shared
record Behind (bytes others : List ℕ) (n place p : ℕ) (k : List ℕ) : Type 0 where
  count : ℕ
  sooner : count ≤ n
  some : 1 ≤ count
  rest : k ≡ drop count bytes
  left : n - count + count ≡ n
  shares : Shares (n - count) (drop count bytes) (drop count others)
  there : place ≡ p + (n - count)

behind_by : (bytes others : List ℕ) (at n place p : ℕ) (k : List ℕ) → Shares n bytes others → place ≡ at + n → Passed bytes at p k → at + 1 ≤ p → p ≤ place → Behind bytes others n place p k
behind_by bytes others at n place p k shares there cut moves le =
    let sooner : cut.count ≤ n = omega (arith, cut.there, there, le) in
    record {
      count = cut.count;
      sooner = sooner;
      some = omega (arith, cut.there, moves);
      rest = cut.is;
      left = omega (arith, sooner);
      shares = shares_drop cut.count (n - cut.count) n bytes others (omega (arith, sooner)) shares;
      there = omega (arith, sooner, cut.there, there);
    }

things_fault : {A : Type 0} (r : Reader (A × Bool)) → IsLocal r → Moves r → (most most' : ℕ) (xs : List A) (bytes others : List ℕ) (at n place : ℕ) → length bytes ≤ most → length others ≤ most' → Shares n bytes others → place ≡ at + n
    → things_from r most xs bytes at ≡ Faulty place Syntax → things_from r most' xs others at ≡ Faulty place Syntax
things_fault {A} r local moves zero most' xs bytes others at n place few few' shares there e = absurd ((no_room n 0 bytes others shares).0 few)
things_fault {A} r local moves (suc most) zero xs bytes others at n place few few' shares there e = absurd ((no_room n 0 bytes others shares).1 few')
things_fault {A} r local moves (suc most) (suc most') xs bytes others at n place few few' shares there e =
    things_more r most' xs others at ∙ by (r bytes at) refl (sym (things_more r most xs bytes at) ∙ e) (λ ys k l p m. things_fault r local moves most most' ys k l p m place)
  where
    by : (o : Outcome (A × Bool)) → r bytes at ≡ o → next o (λ x p k. if x.1 then things_from r most (xs ++ x.0 ∷ []) k p else Found (xs ++ x.0 ∷ []) p k) ≡ Faulty place Syntax
        → ((ys : List A) (k l : List ℕ) (p m : ℕ) → length k ≤ most → length l ≤ most' → Shares m k l → place ≡ p + m → things_from r most ys k p ≡ Faulty place Syntax → things_from r most' ys l p ≡ Faulty place Syntax)
        → next (r others at) (λ x p k. if x.1 then things_from r most' (xs ++ x.0 ∷ []) k p else Found (xs ++ x.0 ∷ []) p k) ≡ Faulty place Syntax
    by (Faulty p c) is told again =
        let places : p ≡ place = cc in
        let codes : c ≡ Syntax = cc in
        ap (λ q. next q (λ x p k. if x.1 then things_from r most' (xs ++ x.0 ∷ []) k p else Found (xs ++ x.0 ∷ []) p k)) (local.fault bytes others at n place shares there (as_told r bytes at place p c is places codes))
    by (Found (x, true) p k) is told again =
        let on = behind_by bytes others at n place p k shares there (local.passed bytes at p (x, true) k is) (moves bytes at p (x, true) k is) (things_later r local most (xs ++ x ∷ []) k p place told) in
        let found = local.found bytes others at on.count p (x, true) k (shares_less on.count n bytes others on.sooner shares) (omega (arith, on.there, on.left, there)) is in
        ap (λ q. next q (λ x p k. if x.1 then things_from r most' (xs ++ x.0 ∷ []) k p else Found (xs ++ x.0 ∷ []) p k)) found
        ∙ again (xs ++ x ∷ []) (drop on.count bytes) (drop on.count others) p (n - on.count) (fewer bytes on.count most on.some few) (fewer others on.count most' on.some few') on.shares on.there (ap (λ j. things_from r most (xs ++ x ∷ []) j p) (sym on.rest) ∙ told)
    by (Found (x, false) p k) is told again = absurd (cc)

things_found : {A : Type 0} (r : Reader (A × Bool)) → IsLocal r → Moves r → (most most' : ℕ) (xs : List A) (bytes others : List ℕ) (at n place : ℕ) (ys : List A) (rest : List ℕ) → length bytes ≤ most → length others ≤ most' → Shares n bytes others → place ≡ at + n
    → things_from r most xs bytes at ≡ Found ys place rest → things_from r most' xs others at ≡ Found ys place (drop n others)
things_found {A} r local moves zero most' xs bytes others at n place ys rest few few' shares there e = absurd ((no_room n 0 bytes others shares).0 few)
things_found {A} r local moves (suc most) zero xs bytes others at n place ys rest few few' shares there e = absurd ((no_room n 0 bytes others shares).1 few')
things_found {A} r local moves (suc most) (suc most') xs bytes others at n place ys rest few few' shares there e =
    things_more r most' xs others at ∙ by (r bytes at) refl (sym (things_more r most xs bytes at) ∙ e) (λ zs k l p m. things_found r local moves most most' zs k l p m place ys rest)
  where
    by : (o : Outcome (A × Bool)) → r bytes at ≡ o → next o (λ x p k. if x.1 then things_from r most (xs ++ x.0 ∷ []) k p else Found (xs ++ x.0 ∷ []) p k) ≡ Found ys place rest
        → ((zs : List A) (k l : List ℕ) (p m : ℕ) → length k ≤ most → length l ≤ most' → Shares m k l → place ≡ p + m → things_from r most zs k p ≡ Found ys place rest → things_from r most' zs l p ≡ Found ys place (drop m l))
        → next (r others at) (λ x p k. if x.1 then things_from r most' (xs ++ x.0 ∷ []) k p else Found (xs ++ x.0 ∷ []) p k) ≡ Found ys place (drop n others)
    by (Faulty p c) is told again = absurd (cc)
    by (Found (x, true) p k) is told again =
        let ended = things_passed r local most (xs ++ x ∷ []) k p place ys rest told in
        let on = behind_by bytes others at n place p k shares there (local.passed bytes at p (x, true) k is) (moves bytes at p (x, true) k is) (omega (arith, ended.there)) in
        let found = local.found bytes others at on.count p (x, true) k (shares_less on.count n bytes others on.sooner shares) (omega (arith, on.there, on.left, there)) is in
        let whole : on.count + (n - on.count) ≡ n = omega (arith, on.sooner) in
        ap (λ q. next q (λ x p k. if x.1 then things_from r most' (xs ++ x.0 ∷ []) k p else Found (xs ++ x.0 ∷ []) p k)) found
        ∙ (again (xs ++ x ∷ []) (drop on.count bytes) (drop on.count others) p (n - on.count) (fewer bytes on.count most on.some few) (fewer others on.count most' on.some few') on.shares on.there (ap (λ j. things_from r most (xs ++ x ∷ []) j p) (sym on.rest) ∙ told)
        ∙ ap (Found ys place) (drop-drop (n - on.count) on.count others ∙ ap (λ j. drop j others) whole))
    by (Found (x, false) p k) is told again =
        let words : xs ++ x ∷ [] ≡ ys = cc in
        let places : p ≡ place = cc in
        let found = local.found bytes others at n p (x, false) k shares (omega (arith, places, there)) is in
        ap (λ q. next q (λ x p k. if x.1 then things_from r most' (xs ++ x.0 ∷ []) k p else Found (xs ++ x.0 ∷ []) p k)) found ∙ (ap (λ w. Found w p (drop n others)) words ∙ ap (λ q. Found ys q (drop n others)) places)

pub things_local : {A : Type 0} (r : Reader (A × Bool)) → IsLocal r → Moves r → IsLocal (things r)
things_local r local moves = record {
  fault = λ bytes others at n place shares there e. things_fault r local moves (length bytes) (length others) [] bytes others at n place (omega arith) (omega arith) shares there e;
  found = λ bytes others at n place ys rest shares there e. things_found r local moves (length bytes) (length others) [] bytes others at n place ys rest (omega arith) (omega arith) shares there e;
  passed = λ bytes at place ys rest e. things_passed r local (length bytes) [] bytes at place ys rest e;
  later = λ bytes at place e. things_later r local (length bytes) [] bytes at place e;
}

-- Lines that begin with a letter.

pub lines_more : {A : Type 0} (letter : ℕ) (r : Reader A) (most : ℕ) (xs : List A) (bytes : List ℕ) (at : ℕ)
    → lines_from letter r (suc most) xs bytes at ≡ (if front bytes == letter then next (r bytes at) (λ x p k. lines_from letter r most (xs ++ x ∷ []) k p) else Found xs at bytes)
unfolding lines_from
lines_more letter r most xs bytes at = refl

lines_by : {A : Type 0} (letter : ℕ) (r : Reader A) → IsLocal r → (most : ℕ) (xs : List A) → ((ys : List A) → IsLocal (lines_from letter r most ys)) → IsLocal (lines_from letter r (suc most) xs)
lines_by letter r local most xs again =
    same_local (lines_from letter r (suc most) xs) (λ bytes at. if front bytes == letter then next (r bytes at) (λ x p k. lines_from letter r most (xs ++ x ∷ []) k p) else Found xs at bytes) (lines_more letter r most xs)
    (choice_local (λ b. b == letter) (λ bytes at. next (r bytes at) (λ x p k. lines_from letter r most (xs ++ x ∷ []) k p)) (λ bytes at. Found xs at bytes)
    (next_local r (λ at x. lines_from letter r most (xs ++ x ∷ [])) local (λ at x. again (xs ++ x ∷ [])))
    (found_local xs))

-- so many lines are as local as one
pub lines_local : {A : Type 0} (letter : ℕ) (r : Reader A) → IsLocal r → (most : ℕ) (xs : List A) → IsLocal (lines_from letter r most xs)
lines_local {A} letter r local zero xs =
    same_local (lines_from letter r 0 xs) (λ bytes at. if front bytes == letter then Faulty at Count else Found xs at bytes) (lines_full letter r xs)
    (choice_local (λ b. b == letter) (λ bytes at. Faulty at Count) (λ bytes at. Found xs at bytes) too_many (found_local xs))
  where
    too_many : IsLocal {A = List A} (λ bytes at. Faulty at Count)
    too_many = record {
      fault = λ bytes others at n place shares there e. absurd (cc);
      found = λ bytes others at n place x rest shares there e. absurd (cc);
      passed = λ bytes at place x rest e. absurd (cc);
      later = λ bytes at place e. absurd (cc);
    }
lines_local {A} letter r local (suc most) xs = lines_by letter r local most xs (λ ys. lines_local letter r local most ys)

-- lines of which there is room for all are the same with more room
lines_room : {A : Type 0} (letter : ℕ) (r : Reader A) → (0 == letter) ≡ false → IsLocal r → Moves r → (most most' : ℕ) (xs : List A) (bytes : List ℕ) (at : ℕ) → length bytes ≤ most → length bytes ≤ most'
    → lines_from letter r most xs bytes at ≡ lines_from letter r most' xs bytes at
lines_room {A} letter r other local moves zero zero xs bytes at few few' = refl
lines_room {A} letter r other local moves zero (suc most') xs [] at few few' =
    lines_full letter r xs [] at ∙ (ap (λ t. if t then Faulty at Count else Found xs at []) other ∙ (ap (λ t. if t then next (r [] at) (λ x p k. lines_from letter r most' (xs ++ x ∷ []) k p) else Found xs at []) (sym other) ∙ sym (lines_more letter r most' xs [] at)))
lines_room {A} letter r other local moves zero (suc most') xs (b ∷ bytes) at few few' = absurd (omega (arith, few))
lines_room {A} letter r other local moves (suc most) zero xs [] at few few' =
    lines_more letter r most xs [] at ∙ (ap (λ t. if t then next (r [] at) (λ x p k. lines_from letter r most (xs ++ x ∷ []) k p) else Found xs at []) other ∙ (ap (λ t. if t then Faulty at Count else Found xs at []) (sym other) ∙ sym (lines_full letter r xs [] at)))
lines_room {A} letter r other local moves (suc most) zero xs (b ∷ bytes) at few few' = absurd (omega (arith, few'))
lines_room {A} letter r other local moves (suc most) (suc most') xs bytes at few few' =
    lines_more letter r most xs bytes at ∙ (ap (λ o. if front bytes == letter then o else Found xs at bytes) (by (r bytes at) refl (λ ys k p. lines_room letter r other local moves most most' ys k p)) ∙ sym (lines_more letter r most' xs bytes at))
  where
    by : (o : Outcome A) → r bytes at ≡ o → ((ys : List A) (k : List ℕ) (p : ℕ) → length k ≤ most → length k ≤ most' → lines_from letter r most ys k p ≡ lines_from letter r most' ys k p)
        → next o (λ x p k. lines_from letter r most (xs ++ x ∷ []) k p) ≡ next o (λ x p k. lines_from letter r most' (xs ++ x ∷ []) k p)
    by (Faulty p c) is again = refl
    by (Found x p k) is again =
        let cut = local.passed bytes at p x k is in
        let some : 1 ≤ cut.count = omega (arith, cut.there, moves bytes at p x k is) in
        let short : length k ≡ length (drop cut.count bytes) = ap length cut.is in
        again (xs ++ x ∷ []) k p (omega (arith, short, fewer bytes cut.count most some few)) (omega (arith, short, fewer bytes cut.count most' some few'))

-- what is local with any room, and the same with more room than it needs, is local with room for all bytes
pub within_room : {A : Type 0} (r : ℕ → Reader A) → ((most most' : ℕ) (bytes : List ℕ) (at : ℕ) → length bytes ≤ most → length bytes ≤ most' → r most bytes at ≡ r most' bytes at) → ((most : ℕ) → IsLocal (r most)) → IsLocal (λ bytes at. r (length bytes) bytes at)
within_room r room local = record {
  fault = λ bytes others at n place shares there e.
      let most = length bytes + length others in
      room (length others) most others at (omega arith) (omega arith) ∙ (local most).fault bytes others at n place shares there (room most (length bytes) bytes at (omega arith) (omega arith) ∙ e);
  found = λ bytes others at n place x rest shares there e.
      let most = length bytes + length others in
      room (length others) most others at (omega arith) (omega arith) ∙ (local most).found bytes others at n place x rest shares there (room most (length bytes) bytes at (omega arith) (omega arith) ∙ e);
  passed = λ bytes at place x rest e. (local (length bytes)).passed bytes at place x rest e;
  later = λ bytes at place e. (local (length bytes)).later bytes at place e;
}

-- all lines that begin with the letter, of which there are no more than bytes
pub all_lines_local : {A : Type 0} (letter : ℕ) (r : Reader A) → (0 == letter) ≡ false → IsLocal r → Moves r → IsLocal (λ bytes at. lines_from letter r (length bytes) [] bytes at)
all_lines_local letter r other local moves =
    within_room (λ most. lines_from letter r most []) (λ most most' bytes at few few'. lines_room letter r other local moves most most' [] bytes at few few') (λ most. lines_local letter r local most [])
