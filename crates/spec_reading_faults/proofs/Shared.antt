-- Bytes that are the same up to a place and with it, and readers that tell a fault of syntax, and what they find, by these.
use Rattle.std.proofs.Common.{◌≡◌, ℕ, zero, suc, ◌+◌, ◌-◌, ◌≤◌, Bool, true, false, if◌then◌else◌, List, [], ◌∷◌, ◌++◌, length, drop, refl, sym, ◌∙◌, ap, subst, arith}
use Rattle.std.proofs.lemmas.List.{drop-drop}
use Rattle.spec_certificate_text.specs.Terms.{Code, Syntax}
use Rattle.spec_certificate_text.specs.Outcomes.{Outcome, Found, Faulty, next, Reader, front, ended}

-- so many bytes and one more are there, and the same
unfoldable pub Shares : ℕ → List ℕ → List ℕ → Type 0
Shares n [] others = ⊥
Shares n (b ∷ bytes) [] = ⊥
Shares zero (b ∷ bytes) (c ∷ others) = b ≡ c
Shares (suc n) (b ∷ bytes) (c ∷ others) = (b ≡ c) × Shares n bytes others

pub shares_behind : (w : List ℕ) (b : ℕ) (rest other : List ℕ) → Shares (length w) (w ++ b ∷ rest) (w ++ b ∷ other)
unfolding Shares
shares_behind [] b rest other = refl
shares_behind (c ∷ w) b rest other = (refl, shares_behind w b rest other)

pub shares_less : (m n : ℕ) (bytes others : List ℕ) → m ≤ n → Shares n bytes others → Shares m bytes others
unfolding Shares
shares_less m n [] others le shares = absurd shares
shares_less m n (b ∷ bytes) [] le shares = absurd shares
shares_less zero zero (b ∷ bytes) (c ∷ others) le shares = shares
shares_less zero (suc n) (b ∷ bytes) (c ∷ others) le shares = shares.0
shares_less (suc m) zero (b ∷ bytes) (c ∷ others) le shares = absurd (omega (arith, le))
shares_less (suc m) (suc n) (b ∷ bytes) (c ∷ others) le shares = (shares.0, shares_less m n bytes others (omega (arith, le)) shares.1)

pub shares_drop : (m n k : ℕ) (bytes others : List ℕ) → k ≡ m + n → Shares k bytes others → Shares n (drop m bytes) (drop m others)
unfolding Shares
shares_drop zero n k bytes others is shares = let same : k ≡ n = omega (arith, is) in subst (λ j. Shares j bytes others) same shares
shares_drop (suc m) n k [] others is shares = absurd shares
shares_drop (suc m) n k (b ∷ bytes) [] is shares = absurd shares
shares_drop (suc m) n zero (b ∷ bytes) (c ∷ others) is shares = absurd (omega (arith, is))
shares_drop (suc m) n (suc k) (b ∷ bytes) (c ∷ others) is shares = shares_drop m n k bytes others (omega (arith, is)) shares.1

pub shares_front : (n : ℕ) (bytes others : List ℕ) → Shares n bytes others → front bytes ≡ front others
unfolding Shares
shares_front n [] others shares = absurd shares
shares_front n (b ∷ bytes) [] shares = absurd shares
shares_front zero (b ∷ bytes) (c ∷ others) shares = shares
shares_front (suc n) (b ∷ bytes) (c ∷ others) shares = shares.0

pub shares_some : (n : ℕ) (bytes others : List ℕ) → Shares n bytes others → (1 ≤ length bytes) × (1 ≤ length others)
unfolding Shares
shares_some n [] others shares = absurd shares
shares_some n (b ∷ bytes) [] shares = absurd shares
shares_some n (b ∷ bytes) (c ∷ others) shares = (omega arith, omega arith)

-- what was found ends so many bytes on
pub record Passed (bytes : List ℕ) (at place : ℕ) (rest : List ℕ) : Type 0 where
  pub count : ℕ
  pub there : place ≡ at + count
  pub is : rest ≡ drop count bytes

pub record IsLocal {A : Type 0} (r : Reader A) : Type 0 where
  pub fault : (bytes others : List ℕ) (at n place : ℕ) → Shares n bytes others → place ≡ at + n → r bytes at ≡ Faulty place Syntax → r others at ≡ Faulty place Syntax
  pub found : (bytes others : List ℕ) (at n place : ℕ) (x : A) (rest : List ℕ) → Shares n bytes others → place ≡ at + n → r bytes at ≡ Found x place rest → r others at ≡ Found x place (drop n others)
  pub passed : (bytes : List ℕ) (at place : ℕ) (x : A) (rest : List ℕ) → r bytes at ≡ Found x place rest → Passed bytes at place rest
  pub later : (bytes : List ℕ) (at place : ℕ) → r bytes at ≡ Faulty place Syntax → at ≤ place

-- what is found has one byte at least
abbrev pub Moves : {A : Type 0} → Reader A → Type 0
Moves {A} r = (bytes : List ℕ) (at place : ℕ) (x : A) (rest : List ℕ) → r bytes at ≡ Found x place rest → at + 1 ≤ place

pub passed_on : (bytes : List ℕ) (at p place : ℕ) (k rest : List ℕ) → Passed bytes at p k → Passed k p place rest → Passed bytes at place rest
passed_on bytes at p place k rest cut behind = record {
  count = cut.count + behind.count;
  there = omega (arith, cut.there, behind.there);
  is = behind.is ∙ (ap (drop behind.count) cut.is ∙ drop-drop behind.count cut.count bytes);
}

-- One reader behind another.

-- a fault of the first one is a fault of both
pub as_told : {A : Type 0} (r : Reader A) (bytes : List ℕ) (at place p : ℕ) (c : Code) → r bytes at ≡ Faulty p c → p ≡ place → c ≡ Syntax → r bytes at ≡ Faulty place Syntax
as_told r bytes at place p c is places codes = is ∙ (ap (λ q. Faulty q c) places ∙ ap (Faulty place) codes)

next_fault : {A B : Type 0} (r : Reader A) (m : ℕ → A → Reader B) → IsLocal r → ((at : ℕ) (x : A) → IsLocal (m at x)) → (bytes others : List ℕ) (at n place : ℕ) → Shares n bytes others → place ≡ at + n
    → (o : Outcome A) → r bytes at ≡ o → next o (λ x p k. m at x k p) ≡ Faulty place Syntax → next (r others at) (λ x p k. m at x k p) ≡ Faulty place Syntax
next_fault {A} {B} r m first second bytes others at n place shares there (Faulty p c) is e =
    let places : p ≡ place = cc in
    let codes : c ≡ Syntax = cc in
    let told = first.fault bytes others at n place shares there (as_told r bytes at place p c is places codes) in
    ap (λ q. next q (λ x p k. m at x k p)) told
next_fault {A} {B} r m first second bytes others at n place shares there (Found x p k) is e =
    let cut = first.passed bytes at p x k is in
    let le = (second at x).later k p place e in
    let sooner : cut.count ≤ n = omega (arith, le, cut.there, there) in
    let again = first.found bytes others at cut.count p x k (shares_less cut.count n bytes others sooner shares) cut.there is in
    let told = (second at x).fault (drop cut.count bytes) (drop cut.count others) p (n - cut.count) place (shares_drop cut.count (n - cut.count) n bytes others (omega (arith, sooner)) shares) (omega (arith, sooner, cut.there, there)) (ap (λ j. m at x j p) (sym cut.is) ∙ e) in
    ap (λ q. next q (λ x p k. m at x k p)) again ∙ told

next_found : {A B : Type 0} (r : Reader A) (m : ℕ → A → Reader B) → IsLocal r → ((at : ℕ) (x : A) → IsLocal (m at x)) → (bytes others : List ℕ) (at n place : ℕ) (y : B) (rest : List ℕ) → Shares n bytes others → place ≡ at + n
    → (o : Outcome A) → r bytes at ≡ o → next o (λ x p k. m at x k p) ≡ Found y place rest → next (r others at) (λ x p k. m at x k p) ≡ Found y place (drop n others)
next_found {A} {B} r m first second bytes others at n place y rest shares there (Faulty p c) is e = absurd (cc)
next_found {A} {B} r m first second bytes others at n place y rest shares there (Found x p k) is e =
    let cut = first.passed bytes at p x k is in
    let behind = (second at x).passed k p place y rest e in
    let sooner : cut.count ≤ n = omega (arith, cut.there, behind.there, there) in
    let again = first.found bytes others at cut.count p x k (shares_less cut.count n bytes others sooner shares) cut.there is in
    let told = (second at x).found (drop cut.count bytes) (drop cut.count others) p (n - cut.count) place y rest (shares_drop cut.count (n - cut.count) n bytes others (omega (arith, sooner)) shares) (omega (arith, sooner, cut.there, there)) (ap (λ j. m at x j p) (sym cut.is) ∙ e) in
    let whole : cut.count + (n - cut.count) ≡ n = omega (arith, sooner) in
    ap (λ q. next q (λ x p k. m at x k p)) again ∙ (told ∙ ap (Found y place) (drop-drop (n - cut.count) cut.count others ∙ ap (λ j. drop j others) whole))

next_passed : {A B : Type 0} (r : Reader A) (m : ℕ → A → Reader B) → IsLocal r → ((at : ℕ) (x : A) → IsLocal (m at x)) → (bytes : List ℕ) (at place : ℕ) (y : B) (rest : List ℕ)
    → (o : Outcome A) → r bytes at ≡ o → next o (λ x p k. m at x k p) ≡ Found y place rest → Passed bytes at place rest
next_passed {A} {B} r m first second bytes at place y rest (Faulty p c) is e = absurd (cc)
next_passed {A} {B} r m first second bytes at place y rest (Found x p k) is e =
    passed_on bytes at p place k rest (first.passed bytes at p x k is) ((second at x).passed k p place y rest e)

next_later : {A B : Type 0} (r : Reader A) (m : ℕ → A → Reader B) → IsLocal r → ((at : ℕ) (x : A) → IsLocal (m at x)) → (bytes : List ℕ) (at place : ℕ)
    → (o : Outcome A) → r bytes at ≡ o → next o (λ x p k. m at x k p) ≡ Faulty place Syntax → at ≤ place
next_later {A} {B} r m first second bytes at place (Faulty p c) is e =
    let places : p ≡ place = cc in
    let codes : c ≡ Syntax = cc in
    first.later bytes at place (as_told r bytes at place p c is places codes)
next_later {A} {B} r m first second bytes at place (Found x p k) is e =
    let cut = first.passed bytes at p x k is in
    omega (arith, cut.there, (second at x).later k p place e)

pub next_local : {A B : Type 0} (r : Reader A) (m : ℕ → A → Reader B) → IsLocal r → ((at : ℕ) (x : A) → IsLocal (m at x)) → IsLocal (λ bytes at. next (r bytes at) (λ x p k. m at x k p))
next_local r m first second = record {
  fault = λ bytes others at n place shares there e. next_fault r m first second bytes others at n place shares there (r bytes at) refl e;
  found = λ bytes others at n place y rest shares there e. next_found r m first second bytes others at n place y rest shares there (r bytes at) refl e;
  passed = λ bytes at place y rest e. next_passed r m first second bytes at place y rest (r bytes at) refl e;
  later = λ bytes at place e. next_later r m first second bytes at place (r bytes at) refl e;
}

-- where the second one passes over a byte, or the first one does
moves_by : {A B : Type 0} (r : Reader A) (m : ℕ → A → Reader B) → IsLocal r → ((at : ℕ) (x : A) → Moves (m at x)) → (bytes : List ℕ) (at place : ℕ) (y : B) (rest : List ℕ)
    → (o : Outcome A) → r bytes at ≡ o → next o (λ x p k. m at x k p) ≡ Found y place rest → at + 1 ≤ place
moves_by {A} {B} r m first second bytes at place y rest (Faulty p c) is e = absurd (cc)
moves_by {A} {B} r m first second bytes at place y rest (Found x p k) is e =
    let cut = first.passed bytes at p x k is in
    omega (arith, cut.there, second at x k p place y rest e)

pub moves_second : {A B : Type 0} (r : Reader A) (m : ℕ → A → Reader B) → IsLocal r → ((at : ℕ) (x : A) → Moves (m at x)) → Moves (λ bytes at. next (r bytes at) (λ x p k. m at x k p))
moves_second r m first second bytes at place y rest e = moves_by r m first second bytes at place y rest (r bytes at) refl e

moves_from : {A B : Type 0} (r : Reader A) (m : ℕ → A → Reader B) → Moves r → ((at : ℕ) (x : A) → IsLocal (m at x)) → (bytes : List ℕ) (at place : ℕ) (y : B) (rest : List ℕ)
    → (o : Outcome A) → r bytes at ≡ o → next o (λ x p k. m at x k p) ≡ Found y place rest → at + 1 ≤ place
moves_from {A} {B} r m first second bytes at place y rest (Faulty p c) is e = absurd (cc)
moves_from {A} {B} r m first second bytes at place y rest (Found x p k) is e =
    let behind = (second at x).passed k p place y rest e in
    omega (arith, behind.there, first bytes at p x k is)

pub moves_first : {A B : Type 0} (r : Reader A) (m : ℕ → A → Reader B) → Moves r → ((at : ℕ) (x : A) → IsLocal (m at x)) → Moves (λ bytes at. next (r bytes at) (λ x p k. m at x k p))
moves_first r m first second bytes at place y rest e = moves_from r m first second bytes at place y rest (r bytes at) refl e

-- A choice by the first byte.

choice_fault : {A : Type 0} (a b : Reader A) → IsLocal a → IsLocal b → (bytes others : List ℕ) (at n place : ℕ) → Shares n bytes others → place ≡ at + n
    → (t : Bool) → (if t then a bytes at else b bytes at) ≡ Faulty place Syntax → (if t then a others at else b others at) ≡ Faulty place Syntax
choice_fault a b of_a of_b bytes others at n place shares there true e = of_a.fault bytes others at n place shares there e
choice_fault a b of_a of_b bytes others at n place shares there false e = of_b.fault bytes others at n place shares there e

choice_found : {A : Type 0} (a b : Reader A) → IsLocal a → IsLocal b → (bytes others : List ℕ) (at n place : ℕ) (x : A) (rest : List ℕ) → Shares n bytes others → place ≡ at + n
    → (t : Bool) → (if t then a bytes at else b bytes at) ≡ Found x place rest → (if t then a others at else b others at) ≡ Found x place (drop n others)
choice_found a b of_a of_b bytes others at n place x rest shares there true e = of_a.found bytes others at n place x rest shares there e
choice_found a b of_a of_b bytes others at n place x rest shares there false e = of_b.found bytes others at n place x rest shares there e

choice_passed : {A : Type 0} (a b : Reader A) → IsLocal a → IsLocal b → (bytes : List ℕ) (at place : ℕ) (x : A) (rest : List ℕ) → (t : Bool) → (if t then a bytes at else b bytes at) ≡ Found x place rest → Passed bytes at place rest
choice_passed a b of_a of_b bytes at place x rest true e = of_a.passed bytes at place x rest e
choice_passed a b of_a of_b bytes at place x rest false e = of_b.passed bytes at place x rest e

choice_later : {A : Type 0} (a b : Reader A) → IsLocal a → IsLocal b → (bytes : List ℕ) (at place : ℕ) → (t : Bool) → (if t then a bytes at else b bytes at) ≡ Faulty place Syntax → at ≤ place
choice_later a b of_a of_b bytes at place true e = of_a.later bytes at place e
choice_later a b of_a of_b bytes at place false e = of_b.later bytes at place e

pub choice_local : {A : Type 0} (test : ℕ → Bool) (a b : Reader A) → IsLocal a → IsLocal b → IsLocal (λ bytes at. if test (front bytes) then a bytes at else b bytes at)
choice_local test a b of_a of_b = record {
  fault = λ bytes others at n place shares there e. ap (λ c. if test c then a others at else b others at) (sym (shares_front n bytes others shares)) ∙ choice_fault a b of_a of_b bytes others at n place shares there (test (front bytes)) e;
  found = λ bytes others at n place x rest shares there e. ap (λ c. if test c then a others at else b others at) (sym (shares_front n bytes others shares)) ∙ choice_found a b of_a of_b bytes others at n place x rest shares there (test (front bytes)) e;
  passed = λ bytes at place x rest e. choice_passed a b of_a of_b bytes at place x rest (test (front bytes)) e;
  later = λ bytes at place e. choice_later a b of_a of_b bytes at place (test (front bytes)) e;
}

choice_moves_by : {A : Type 0} (a b : Reader A) → Moves a → Moves b → (bytes : List ℕ) (at place : ℕ) (x : A) (rest : List ℕ) → (t : Bool) → (if t then a bytes at else b bytes at) ≡ Found x place rest → at + 1 ≤ place
choice_moves_by a b of_a of_b bytes at place x rest true e = of_a bytes at place x rest e
choice_moves_by a b of_a of_b bytes at place x rest false e = of_b bytes at place x rest e

pub choice_moves : {A : Type 0} (test : ℕ → Bool) (a b : Reader A) → Moves a → Moves b → Moves (λ bytes at. if test (front bytes) then a bytes at else b bytes at)
choice_moves test a b of_a of_b bytes at place x rest e = choice_moves_by a b of_a of_b bytes at place x rest (test (front bytes)) e

-- What ends before another byte, and not at the end of the bytes.

cut_fault : {A : Type 0} (r : Reader A) → IsLocal r → (bytes others : List ℕ) (at n place : ℕ) → Shares n bytes others → place ≡ at + n → ended at bytes (r bytes at) ≡ Faulty place Syntax → ended at others (r others at) ≡ Faulty place Syntax
unfolding Shares
cut_fault r local [] others at n place shares there e = absurd shares
cut_fault r local (b ∷ bytes) [] at n place shares there e = absurd shares
cut_fault r local (b ∷ bytes) (c ∷ others) at n place shares there e = local.fault (b ∷ bytes) (c ∷ others) at n place shares there e

cut_found : {A : Type 0} (r : Reader A) → IsLocal r → (bytes others : List ℕ) (at n place : ℕ) (x : A) (rest : List ℕ) → Shares n bytes others → place ≡ at + n → ended at bytes (r bytes at) ≡ Found x place rest → ended at others (r others at) ≡ Found x place (drop n others)
unfolding Shares
cut_found r local [] others at n place x rest shares there e = absurd shares
cut_found r local (b ∷ bytes) [] at n place x rest shares there e = absurd shares
cut_found r local (b ∷ bytes) (c ∷ others) at n place x rest shares there e = local.found (b ∷ bytes) (c ∷ others) at n place x rest shares there e

cut_passed : {A : Type 0} (r : Reader A) → IsLocal r → (bytes : List ℕ) (at place : ℕ) (x : A) (rest : List ℕ) → ended at bytes (r bytes at) ≡ Found x place rest → Passed bytes at place rest
cut_passed r local [] at place x rest e = absurd (cc)
cut_passed r local (b ∷ bytes) at place x rest e = local.passed (b ∷ bytes) at place x rest e

cut_later : {A : Type 0} (r : Reader A) → IsLocal r → (bytes : List ℕ) (at place : ℕ) → ended at bytes (r bytes at) ≡ Faulty place Syntax → at ≤ place
cut_later r local [] at place e = let places : at ≡ place = cc in omega (arith, places)
cut_later r local (b ∷ bytes) at place e = local.later (b ∷ bytes) at place e

pub ended_local : {A : Type 0} (r : Reader A) → IsLocal r → IsLocal (λ bytes at. ended at bytes (r bytes at))
ended_local r local = record {
  fault = λ bytes others at n place shares there e. cut_fault r local bytes others at n place shares there e;
  found = λ bytes others at n place x rest shares there e. cut_found r local bytes others at n place x rest shares there e;
  passed = λ bytes at place x rest e. cut_passed r local bytes at place x rest e;
  later = λ bytes at place e. cut_later r local bytes at place e;
}

-- What reads no byte, and what passes over one.

pub found_local : {A : Type 0} (x : A) → IsLocal (λ bytes at. Found x at bytes)
found_local {A} x = record {
  fault = λ bytes others at n place shares there e. absurd (cc);
  found = λ bytes others at n place y rest shares there e. by bytes others at n place y rest there e;
  passed = λ bytes at place y rest e. let places : at ≡ place = cc in let rests : bytes ≡ rest = cc in record { count = 0; there = omega (arith, places); is = sym rests };
  later = λ bytes at place e. absurd (cc);
}
  where
    by : (bytes others : List ℕ) (at n place : ℕ) (y : A) (rest : List ℕ) → place ≡ at + n → Found x at bytes ≡ Found y place rest → Found x at others ≡ Found y place (drop n others)
    by bytes others at n place y rest there e =
        let same : x ≡ y = cc in
        let places : at ≡ place = cc in
        let none : 0 ≡ n = omega (arith, places, there) in
        ap (λ z. Found z at others) same ∙ (ap (λ p. Found y p others) places ∙ ap (λ k. Found y place (drop k others)) none)

pub skip_local : {A : Type 0} (x : A) → IsLocal (λ bytes at. Found x (at + 1) (drop 1 bytes))
skip_local {A} x = record {
  fault = λ bytes others at n place shares there e. absurd (cc);
  found = λ bytes others at n place y rest shares there e. by bytes others at n place y rest there e;
  passed = λ bytes at place y rest e. let places : at + 1 ≡ place = cc in let rests : drop 1 bytes ≡ rest = cc in record { count = 1; there = omega (arith, places); is = sym rests };
  later = λ bytes at place e. absurd (cc);
}
  where
    by : (bytes others : List ℕ) (at n place : ℕ) (y : A) (rest : List ℕ) → place ≡ at + n → Found x (at + 1) (drop 1 bytes) ≡ Found y place rest → Found x (at + 1) (drop 1 others) ≡ Found y place (drop n others)
    by bytes others at n place y rest there e =
        let same : x ≡ y = cc in
        let places : at + 1 ≡ place = cc in
        let one : 1 ≡ n = omega (arith, places, there) in
        ap (λ z. Found z (at + 1) (drop 1 others)) same ∙ (ap (λ p. Found y p (drop 1 others)) places ∙ ap (λ k. Found y place (drop k others)) one)

pub skip_moves : {A : Type 0} (x : A) → Moves (λ bytes at. Found x (at + 1) (drop 1 bytes))
skip_moves x bytes at place y rest e = let places : at + 1 ≡ place = cc in omega (arith, places)

pub never_local : {A : Type 0} → IsLocal {A = A} (λ bytes at. Faulty at Syntax)
never_local = record {
  fault = λ bytes others at n place shares there e. e;
  found = λ bytes others at n place x rest shares there e. absurd (cc);
  passed = λ bytes at place x rest e. absurd (cc);
  later = λ bytes at place e. let places : at ≡ place = cc in omega (arith, places);
}

pub never_moves : {A : Type 0} (p : ℕ) (c : Code) → Moves {A = A} (λ bytes at. Faulty p c)
never_moves p c bytes at place x rest e = absurd (cc)

-- a fault of another kind
pub other_local : {A : Type 0} (p : ℕ) (c : Code) → (c ≡ Syntax → ⊥) → IsLocal {A = A} (λ bytes at. Faulty p c)
other_local p c other = record {
  fault = λ bytes others at n place shares there e. e;
  found = λ bytes others at n place x rest shares there e. absurd (cc);
  passed = λ bytes at place x rest e. absurd (cc);
  later = λ bytes at place e. let same : c ≡ Syntax = cc in absurd (other same);
}
