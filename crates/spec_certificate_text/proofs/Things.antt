-- Rows of things: what was found is there, and what is there is found.
use Rattle.std.proofs.Common.{◌≡◌, ℕ, zero, suc, ◌+◌, ◌≤◌, ◌==◌, if◌then◌else◌, Bool, true, false, List, [], ◌∷◌, ◌++◌, length, refl, sym, ◌∙◌, ap, subst, arith, append_assoc}
use Rattle.std.proofs.lemmas.List.{append-nil}
use Rattle.std.specs.List.{AllByRecursion}
use Rattle.spec_certificate_text.specs.Terms.{Syntax, Count}
use Rattle.spec_certificate_text.specs.Outcomes.{Outcome, Found, Faulty, next, Reader, front, things_from, lines_from}
use Rattle.spec_certificate_text.proofs.Parts.{Sound, Finds, parts, joined, chosen, when_true, when_false, same_byte}

-- a thing and others behind it
abbrev pub things_text : {A : Type 0} → (A × Bool → List ℕ → List ℕ) → A → List A → List ℕ → List ℕ
things_text one x [] rest = one (x, false) rest
things_text one x (y ∷ ys) rest = one (x, true) (things_text one y ys rest)

-- what holds of a thing, whatever follows
abbrev pub IsOne : {A : Type 0} → (A → Type 0) → A × Bool → Type 0
IsOne Is x = Is x.0

-- behind these things others were found, one at least
pub record Behind {A : Type 0} (one : A × Bool → List ℕ → List ℕ) (Is : A → Type 0) (bytes : List ℕ) (xs ys : List A) (rest : List ℕ) : Type 0 where
  pub first : A
  pub others : List A
  pub is : ys ≡ xs ++ first ∷ others
  pub text : bytes ≡ things_text one first others rest
  pub each : AllByRecursion Is (first ∷ others)

pub none_left : {A : Type 0} (r : Reader (A × Bool)) (xs : List A) (bytes : List ℕ) (at : ℕ) → things_from r 0 xs bytes at ≡ Faulty at Syntax
unfolding things_from
none_left r xs bytes at = refl

abbrev pub behind_one : {A : Type 0} → Reader (A × Bool) → ℕ → List A → A × Bool → ℕ → List ℕ → Outcome (List A)
behind_one r most xs x place rest = if x.1 then things_from r most (xs ++ x.0 ∷ []) rest place else Found (xs ++ x.0 ∷ []) place rest

pub one_more : {A : Type 0} (r : Reader (A × Bool)) (most : ℕ) (xs : List A) (bytes : List ℕ) (at : ℕ) → things_from r (suc most) xs bytes at ≡ next (r bytes at) (behind_one r most xs)
unfolding things_from
one_more r most xs bytes at = refl

pub things_there : {A : Type 0} (one : A × Bool → List ℕ → List ℕ) (Is : A → Type 0) (r : Reader (A × Bool)) → Sound one (IsOne Is) r
    → (most : ℕ) (xs : List A) (bytes : List ℕ) (at : ℕ) (ys : List A) (place : ℕ) (rest : List ℕ) → things_from r most xs bytes at ≡ Found ys place rest → Behind one Is bytes xs ys rest
things_there {A} one Is r sound zero xs bytes at ys place rest e = let never : Faulty at Syntax ≡ Found ys place rest = sym (none_left r xs bytes at) ∙ e in absurd (cc)
things_there {A} one Is r sound (suc most) xs bytes at ys place rest e =
    let cut = parts (r bytes at) (behind_one r most xs) ys place rest (sym (one_more r most xs bytes at) ∙ e) in
    let here = sound bytes at cut.value cut.place cut.rest cut.first in
    by cut.value cut.place cut.rest here.text here.is cut.later (things_there one Is r sound most (xs ++ cut.value.0 ∷ []) cut.rest cut.place ys place rest)
  where
    by : (x : A × Bool) (p : ℕ) (k : List ℕ) → bytes ≡ one x k → Is x.0 → behind_one r most xs x p k ≡ Found ys place rest
        → (things_from r most (xs ++ x.0 ∷ []) k p ≡ Found ys place rest → Behind one Is k (xs ++ x.0 ∷ []) ys rest) → Behind one Is bytes xs ys rest
    by (x, true) p k text is found later =
        let behind = later found in
        record {
          first = x;
          others = behind.first ∷ behind.others;
          is = behind.is ∙ append_assoc xs (x ∷ []) (behind.first ∷ behind.others);
          text = text ∙ ap (one (x, true)) behind.text;
          each = (is, behind.each);
        }
    by (x, false) p k text is found later =
        let same : xs ++ x ∷ [] ≡ ys = cc in
        let rests : k ≡ rest = cc in
        record { first = x; others = []; is = sym same; text = text ∙ ap (one (x, false)) rests; each = (is, tt) }

-- a thing of this kind is found, where what follows it is as it should be
abbrev pub Complete : {A : Type 0} → (A → List ℕ → List ℕ) → (A → Type 0) → Reader A → Type 0
Complete {A} text Is r = (x : A) (rest : List ℕ) (at : ℕ) → Is x → Finds (r (text x rest) at) x rest

-- the same, where what follows may follow: one thing behind another, and what stands behind the last
pub record CompleteBefore {A : Type 0} (one : A × Bool → List ℕ → List ℕ) (Is : A → Type 0) (May : Bool → List ℕ → Type 0) (r : Reader (A × Bool)) : Type 0 where
  pub found : (x : A × Bool) (rest : List ℕ) (at : ℕ) → Is x.0 → May x.1 rest → Finds (r (one x rest) at) x rest
  pub follows : (x : A × Bool) (rest : List ℕ) → Is x.0 → May true (one x rest)

pub things_found_before : {A : Type 0} (one : A × Bool → List ℕ → List ℕ) (Is : A → Type 0) (May : Bool → List ℕ → Type 0) (r : Reader (A × Bool)) → CompleteBefore one Is May r
    → (most : ℕ) (xs : List A) (x : A) (ys : List A) (rest : List ℕ) (at : ℕ) → length ys + 1 ≤ most → AllByRecursion Is (x ∷ ys) → May false rest
    → Finds (things_from r most xs (things_text one x ys rest) at) (xs ++ x ∷ ys) rest
things_found_before one Is May r complete zero xs x ys rest at room each may = absurd (omega (arith, room))
things_found_before {A} one Is May r complete (suc most) xs x [] rest at room each may =
    let text = one (x, false) rest in
    let found = joined (r text at) (behind_one r most xs) (x, false) rest (xs ++ x ∷ []) rest (complete.found (x, false) rest at each.0 may) (λ p. record { place = p; is = refl }) in
    record { place = found.place; is = one_more r most xs text at ∙ found.is }
things_found_before {A} one Is May r complete (suc most) xs x (y ∷ ys) rest at room each may =
    let later = things_text one y ys rest in
    let text = one (x, true) later in
    let same : (xs ++ x ∷ []) ++ y ∷ ys ≡ xs ++ x ∷ y ∷ ys = append_assoc xs (x ∷ []) (y ∷ ys) in
    let found = joined (r text at) (behind_one r most xs) (x, true) later (xs ++ x ∷ y ∷ ys) rest (complete.found (x, true) later at each.0 (next_may y ys each.1))
    (λ p. subst (λ zs. Finds (things_from r most (xs ++ x ∷ []) later p) zs rest) same (things_found_before one Is May r complete most (xs ++ x ∷ []) y ys rest p (omega (arith, room)) each.1 may)) in
    record { place = found.place; is = one_more r most xs text at ∙ found.is }
  where
    next_may : (z : A) (zs : List A) → AllByRecursion Is (z ∷ zs) → May true (things_text one z zs rest)
    next_may z [] are = complete.follows (z, false) rest are.0
    next_may z (w ∷ ws) are = complete.follows (z, true) (things_text one w ws rest) are.0

pub things_found : {A : Type 0} (one : A × Bool → List ℕ → List ℕ) (Is : A → Type 0) (r : Reader (A × Bool)) → Complete one (IsOne Is) r
    → (most : ℕ) (xs : List A) (x : A) (ys : List A) (rest : List ℕ) (at : ℕ) → length ys + 1 ≤ most → AllByRecursion Is (x ∷ ys)
    → Finds (things_from r most xs (things_text one x ys rest) at) (xs ++ x ∷ ys) rest
things_found one Is r complete most xs x ys rest at room each =
    things_found_before one Is (λ b k. Unit {0}) r record { found = λ y k p is may. complete y k p is; follows = λ y k is. tt } most xs x ys rest at room each tt

-- where nothing is read of no bytes, and each thing takes a byte at least, as many rounds as bytes are enough
pub things_enough : {A : Type 0} (r : Reader (A × Bool)) → ((at : ℕ) → r [] at ≡ Faulty at Syntax) → ((bytes : List ℕ) (at : ℕ) (x : A × Bool) (place : ℕ) (rest : List ℕ) → r bytes at ≡ Found x place rest → length rest + 1 ≤ length bytes)
    → (most : ℕ) (xs : List A) (bytes : List ℕ) (at : ℕ) → length bytes ≤ most → things_from r most xs bytes at ≡ things_from r (suc most) xs bytes at
things_enough {A} r none takes zero xs [] at within = none_left r xs [] at ∙ sym (one_more r 0 xs [] at ∙ ap (λ (o : Outcome (A × Bool)). next o (behind_one r 0 xs)) (none at))
things_enough r none takes zero xs (b ∷ bytes) at within = absurd (omega (arith, within))
things_enough {A} r none takes (suc m) xs bytes at within = one_more r m xs bytes at ∙ (by (r bytes at) refl (λ ys behind place less. things_enough r none takes m ys behind place less) ∙ sym (one_more r (suc m) xs bytes at))
  where
    by : (o : Outcome (A × Bool)) → r bytes at ≡ o → ((ys : List A) (behind : List ℕ) (place : ℕ) → length behind ≤ m → things_from r m ys behind place ≡ things_from r (suc m) ys behind place)
        → next o (behind_one r m xs) ≡ next o (behind_one r (suc m) xs)
    by (Faulty place code) e later = refl
    by (Found x place rest) e later =
        let less : length rest ≤ m = omega (arith, within, takes bytes at x place rest e) in
        ap (λ (o : Outcome (List A)). if x.1 then o else Found (xs ++ x.0 ∷ []) place rest) (later (xs ++ x.0 ∷ []) rest place less)

-- Lines that begin with a letter.

abbrev pub lines_text : {A : Type 0} → (A → List ℕ → List ℕ) → List A → List ℕ → List ℕ
lines_text one [] rest = rest
lines_text one (x ∷ xs) rest = one x (lines_text one xs rest)

-- behind these lines others were found
pub record LinesBehind {A : Type 0} (one : A → List ℕ → List ℕ) (Is : A → Type 0) (most : ℕ) (bytes : List ℕ) (xs ys : List A) (rest : List ℕ) : Type 0 where
  pub others : List A
  pub is : ys ≡ xs ++ others
  pub text : bytes ≡ lines_text one others rest
  pub each : AllByRecursion Is others
  pub few : length others ≤ most

pub lines_full : {A : Type 0} (letter : ℕ) (r : Reader A) (xs : List A) (bytes : List ℕ) (at : ℕ) → lines_from letter r 0 xs bytes at ≡ (if front bytes == letter then Faulty at Count else Found xs at bytes)
unfolding lines_from
lines_full letter r xs bytes at = refl

abbrev pub behind_line : {A : Type 0} → ℕ → Reader A → ℕ → List A → A → ℕ → List ℕ → Outcome (List A)
behind_line letter r most xs x place rest = lines_from letter r most (xs ++ x ∷ []) rest place

pub line_more : {A : Type 0} (letter : ℕ) (r : Reader A) (most : ℕ) (xs : List A) (bytes : List ℕ) (at : ℕ)
    → lines_from letter r (suc most) xs bytes at ≡ (if front bytes == letter then next (r bytes at) (behind_line letter r most xs) else Found xs at bytes)
unfolding lines_from
line_more letter r most xs bytes at = refl

no_line : {A : Type 0} (one : A → List ℕ → List ℕ) (Is : A → Type 0) (most : ℕ) (bytes : List ℕ) (at : ℕ) (xs ys : List A) (place : ℕ) (rest : List ℕ) → Found xs at bytes ≡ Found ys place rest → LinesBehind one Is most bytes xs ys rest
no_line one Is most bytes at xs ys place rest e =
    let same : xs ≡ ys = cc in
    let rests : bytes ≡ rest = cc in
    record { others = []; is = sym same ∙ sym (append-nil xs); text = rests; each = tt; few = omega arith }

pub lines_there : {A : Type 0} (one : A → List ℕ → List ℕ) (Is : A → Type 0) (letter : ℕ) (r : Reader A) → Sound one Is r
    → (most : ℕ) (xs : List A) (bytes : List ℕ) (at : ℕ) (ys : List A) (place : ℕ) (rest : List ℕ) → lines_from letter r most xs bytes at ≡ Found ys place rest → LinesBehind one Is most bytes xs ys rest
lines_there {A} one Is letter r sound zero xs bytes at ys place rest e =
    chosen (front bytes == letter) (Faulty at Count) (Found xs at bytes) ys place rest (LinesBehind one Is 0 bytes xs ys rest) (sym (lines_full letter r xs bytes at) ∙ e)
    (λ is never. absurd (cc))
    (λ isnt found. no_line one Is 0 bytes at xs ys place rest found)
lines_there {A} one Is letter r sound (suc most) xs bytes at ys place rest e =
    chosen (front bytes == letter) (next (r bytes at) (behind_line letter r most xs)) (Found xs at bytes) ys place rest (LinesBehind one Is (suc most) bytes xs ys rest) (sym (line_more letter r most xs bytes at) ∙ e)
    (λ is found.
    let cut = parts (r bytes at) (behind_line letter r most xs) ys place rest found in
    let here = sound bytes at cut.value cut.place cut.rest cut.first in
    let behind = lines_there one Is letter r sound most (xs ++ cut.value ∷ []) cut.rest cut.place ys place rest cut.later in
    record {
      others = cut.value ∷ behind.others;
      is = behind.is ∙ append_assoc xs (cut.value ∷ []) behind.others;
      text = here.text ∙ ap (one cut.value) behind.text;
      each = (here.is, behind.each);
      few = omega (arith, behind.few);
    })
    (λ isnt found. no_line one Is (suc most) bytes at xs ys place rest found)

pub lines_found : {A : Type 0} (one : A → List ℕ → List ℕ) (Is : A → Type 0) (letter : ℕ) (r : Reader A) → Complete one Is r → ((x : A) (rest : List ℕ) → front (one x rest) ≡ letter)
    → (most : ℕ) (xs ys : List A) (rest : List ℕ) (at : ℕ) → length ys ≤ most → AllByRecursion Is ys → (front rest == letter) ≡ false
    → Finds (lines_from letter r most xs (lines_text one ys rest) at) (xs ++ ys) rest
lines_found {A} one Is letter r complete begins zero xs [] rest at room each other =
    let found = when_false (front rest == letter) (Faulty at Count) (Found xs at rest) xs rest other record { place = at; is = refl } in
    subst (λ zs. Finds (lines_from letter r 0 xs rest at) zs rest) (sym (append-nil xs)) record { place = found.place; is = lines_full letter r xs rest at ∙ found.is }
lines_found one Is letter r complete begins zero xs (y ∷ ys) rest at room each other = absurd (omega (arith, room))
lines_found {A} one Is letter r complete begins (suc most) xs [] rest at room each other =
    let found = when_false (front rest == letter) (next (r rest at) (behind_line letter r most xs)) (Found xs at rest) xs rest other record { place = at; is = refl } in
    subst (λ zs. Finds (lines_from letter r (suc most) xs rest at) zs rest) (sym (append-nil xs)) record { place = found.place; is = line_more letter r most xs rest at ∙ found.is }
lines_found {A} one Is letter r complete begins (suc most) xs (y ∷ ys) rest at room each other =
    let later = lines_text one ys rest in
    let text = one y later in
    let same : (xs ++ y ∷ []) ++ ys ≡ xs ++ y ∷ ys = append_assoc xs (y ∷ []) ys in
    let is : (front text == letter) ≡ true = ap (λ b. b == letter) (begins y later) ∙ same_byte letter in
    let found = when_true (front text == letter) (next (r text at) (behind_line letter r most xs)) (Found xs at text) (xs ++ y ∷ ys) rest is
    (joined (r text at) (behind_line letter r most xs) y later (xs ++ y ∷ ys) rest (complete y later at each.0)
    (λ p. subst (λ zs. Finds (lines_from letter r most (xs ++ y ∷ []) later p) zs rest) same (lines_found one Is letter r complete begins most (xs ++ y ∷ []) ys rest p (omega (arith, room)) each.1 other))) in
    record { place = found.place; is = line_more letter r most xs text at ∙ found.is }
