-- Rows: one thing at least, behind each but the last the same bytes, and others behind the last.
use Rattle.std.proofs.Common.{◌≡◌, ℕ, zero, suc, ◌+◌, ◌≤◌, ◌==◌, inl, inr, if◌then◌else◌, Bool, true, false, List, [], ◌∷◌, ◌++◌, length, refl, sym, ◌∙◌, ap, subst, arith, length-append}
use Rattle.spec_certificate_text.specs.Terms.{Code, Syntax}
use Rattle.spec_certificate_text.specs.Outcomes.{Outcome, Found, Faulty, next, Reader, front, read_fixed, things_from, things}
use Rattle.spec_certificate_text.proofs.Parts.{same_byte}
use Rattle.spec_reading_faults.proofs.Shared.{IsLocal, choice_local, never_local}
use Rattle.spec_reading_faults.proofs.Parts.{things_more, things_none}
use Rattle.spec_certificate_faults.specs.First.{Kind}
use Rattle.spec_first_faults.specs.Kinds.{fixed, behind, one_of, last, further, in_last, in_one, later, row_of}
use Rattle.spec_first_faults.proofs.Tells.{Anything, GoesPastIt, Forms, Tells, IsSameKind, shorter, goes_past, same_tells, kind_tells, tells_of, each_length_tells}
use Rattle.spec_first_faults.proofs.Behind.{then_read, both_tell}
use Rattle.spec_first_faults.proofs.OneOf.{chosen, one_of_forms, one_of_tells, told_by_fixed, told_alone}
use Rattle.spec_first_faults.proofs.Small.{fixed_forms, fixed_tells}
use Rattle.spec_first_faults.proofs.Closed.{closed_by, closed_tells, behind_fixed-forms, closed_forms}
use Rattle.spec_first_faults.proofs.Many.{next_both, next_twice, many_forms}

-- a thing, and what stands behind it: the one where another follows, or the other
abbrev pub separated : {A : Type 0} → Reader A → ℕ → List ℕ → List ℕ → Reader (A × Bool)
separated item c cs close bytes at =
    next (item bytes at) (λ t p k. if front k == c then next (read_fixed (c ∷ cs) k p) (λ _ q r. Found (t, true) q r) else next (read_fixed close k p) (λ _ q r. Found (t, false) q r))

-- it was found, and this says whether another follows
abbrev pub found_one : {A : Type 0} → A → Bool → ℕ → List ℕ → Outcome (A × Bool)
found_one t more place rest = Found (t, more) place rest

-- A thing, and then a comma and a row, or the end.

abbrev ended_or_more : Kind → List ℕ → List ℕ → Kind
ended_or_more K comma close = one_of (behind (fixed comma) (row_of K comma close)) (fixed close)

abbrev one_and_more : Kind → List ℕ → List ℕ → Kind
one_and_more K comma close = behind K (ended_or_more K comma close)

row_text : (K : Kind) (comma close bytes rest : List ℕ) → (one_and_more K comma close).Text bytes rest → (row_of K comma close).Text bytes rest
row_text K comma close bytes rest (mid, one, inl (inner, text, more)) = further inner (mid, one, text) more
row_text K comma close bytes rest (mid, one, inr text) = last (mid, one, text)

row_text-back : (K : Kind) (comma close bytes rest : List ℕ) → (row_of K comma close).Text bytes rest → (one_and_more K comma close).Text bytes rest
row_text-back K comma close bytes rest (last (mid, one, text)) = (mid, one, inr text)
row_text-back K comma close bytes rest (further inner (mid, one, text) more) = (mid, one, inl (inner, text, more))

row_fault : (K : Kind) (comma close : List ℕ) (code : Code) (bytes there : List ℕ) → (one_and_more K comma close).Fault code bytes there → (row_of K comma close).Fault code bytes there
row_fault K comma close code bytes there (inl fault) = in_one (inl fault)
row_fault K comma close code bytes there (inr (mid, one, inl (inl none))) = absurd none
row_fault K comma close code bytes there (inr (mid, one, inl (inr (inner, text, fault)))) = later inner (mid, one, text) fault
row_fault K comma close code bytes there (inr (mid, one, inr none)) = absurd none

row_fault-back : (K : Kind) (comma close : List ℕ) (code : Code) (bytes there : List ℕ) → (row_of K comma close).Fault code bytes there → (one_and_more K comma close).Fault code bytes there
row_fault-back K comma close code bytes there (in_last (inl fault)) = inl fault
row_fault-back K comma close code bytes there (in_last (inr (mid, one, none))) = absurd none
row_fault-back K comma close code bytes there (in_one (inl fault)) = inl fault
row_fault-back K comma close code bytes there (in_one (inr (mid, one, none))) = absurd none
row_fault-back K comma close code bytes there (later inner (mid, one, text) fault) = inr (mid, one, inl (inr (inner, text, fault)))

row_is : (K : Kind) (comma close : List ℕ) → IsSameKind (one_and_more K comma close) (row_of K comma close)
row_is K comma close = record { text = row_text K comma close; text_back = row_text-back K comma close; fault = row_fault K comma close; fault_back = row_fault-back K comma close }

-- what stands behind a thing of a row: the one begins otherwise than the other, and both may follow it
pub record AreBehind (May : List ℕ → Type 0) (c : ℕ) (cs : List ℕ) (z : ℕ) (zs : List ℕ) : Type 0 where
  pub apart : (z == c) ≡ false
  pub comma : (rest : List ℕ) → May ((c ∷ cs) ++ rest)
  pub close : (rest : List ℕ) → May ((z ∷ zs) ++ rest)

pub row_forms : (K : Kind) (May : List ℕ → Type 0) (c : ℕ) (cs : List ℕ) (z : ℕ) (zs : List ℕ) → Forms ⊥ K May → AreBehind May c cs z zs → Forms ⊥ (row_of K (c ∷ cs) (z ∷ zs)) Anything
row_forms K May c cs z zs forms marks =
    many_forms (behind K (fixed (c ∷ cs))) (behind K (fixed (z ∷ zs))) Anything Anything (closed_forms K May (c ∷ cs) forms marks.comma) (closed_forms K May (z ∷ zs) forms marks.close)
    record { one = λ bytes rest text. tt; other = λ bytes rest text. tt }

pub thing_long : (K : Kind) (May : List ℕ → Type 0) (w : ℕ) (ws bytes rest : List ℕ) → Forms ⊥ K May → (behind K (fixed (w ∷ ws))).Text bytes rest → length rest + 1 ≤ length bytes
thing_long K May w ws bytes rest forms (mid, one, text) = omega (arith, shorter K May bytes mid (forms.moved bytes mid one), ap length text, length-append ws rest)

pub row_long : (K : Kind) (May : List ℕ → Type 0) (c : ℕ) (cs : List ℕ) (z : ℕ) (zs bytes rest : List ℕ) → Forms ⊥ K May → Forms ⊥ (row_of K (c ∷ cs) (z ∷ zs)) Anything → (row_of K (c ∷ cs) (z ∷ zs)).Text bytes rest → length rest + 1 ≤ length bytes
row_long K May c cs z zs bytes rest forms row (last one) = thing_long K May z zs bytes rest forms one
row_long K May c cs z zs bytes rest forms row (further mid one more) = omega (arith, thing_long K May c cs bytes mid forms one, shorter (row_of K (c ∷ cs) (z ∷ zs)) Anything mid rest (row.moved mid rest more))

-- The reader.

pub next_same : {A B : Type 0} (o : Outcome A) (f g : A → ℕ → List ℕ → Outcome B) → ((x : A) (p : ℕ) (k : List ℕ) → f x p k ≡ g x p k) → next o f ≡ next o g
next_same (Faulty p c) f g same = refl
next_same (Found x p k) f g same = same x p k

abbrev behind_thing : {A : Type 0} → Reader (A × Bool) → ℕ → List ℕ → List ℕ → ℕ → List A → ℕ → A → Reader (List A)
behind_thing one c cs close most xs at t = chosen (λ bs. front bs == c) (then_read (read_fixed (c ∷ cs)) (λ _ _. things_from one most (xs ++ t ∷ []))) (closed_by close (xs ++ t ∷ []))

one_thing : {A : Type 0} (item : Reader A) (c : ℕ) (cs close : List ℕ) (most : ℕ) (xs : List A) (bytes : List ℕ) (at : ℕ)
    → things_from (separated item c cs close) (suc most) xs bytes at ≡ then_read item (behind_thing (separated item c cs close) c cs close most xs) bytes at
one_thing {A} item c cs close most xs bytes at =
    things_more (separated item c cs close) most xs bytes at
    ∙ (next_twice (item bytes at) marked on ∙ next_same (item bytes at) (λ t p k. next (marked t p k) on) (λ t p k. behind_thing (separated item c cs close) c cs close most xs at t k p) same)
  where
    marked : A → ℕ → List ℕ → Outcome (A × Bool)
    marked t p k = if front k == c then next (read_fixed (c ∷ cs) k p) (λ _ q r. Found (t, true) q r) else next (read_fixed close k p) (λ _ q r. Found (t, false) q r)

    on : A × Bool → ℕ → List ℕ → Outcome (List A)
    on x p k = if x.1 then things_from (separated item c cs close) most (xs ++ x.0 ∷ []) k p else Found (xs ++ x.0 ∷ []) p k

    same : (t : A) (p : ℕ) (k : List ℕ) → next (marked t p k) on ≡ behind_thing (separated item c cs close) c cs close most xs at t k p
    same t p k =
        next_both (front k == c) (next (read_fixed (c ∷ cs) k p) (λ _ q r. Found (t, true) q r)) (next (read_fixed close k p) (λ _ q r. Found (t, false) q r)) on
        ∙ (ap (λ o. if front k == c then o else next (next (read_fixed close k p) (λ _ q r. Found (t, false) q r)) on) (next_twice (read_fixed (c ∷ cs) k p) (λ _ q r. Found (t, true) q r) on)
        ∙ ap (λ o. if front k == c then next (read_fixed (c ∷ cs) k p) (λ _ q r. things_from (separated item c cs close) most (xs ++ t ∷ []) r q) else o) (next_twice (read_fixed close k p) (λ _ q r. Found (t, false) q r) on))

-- nothing is read of no bytes, where each text has some
pub none_tells : {A : Type 0} (K : Kind) → Forms ⊥ K Anything → ((bytes rest : List ℕ) → K.Text bytes rest → length rest + 1 ≤ length bytes) → Tells {A = A} ⊥ K (λ bytes. length bytes ≤ 0) Anything (λ bytes at. Faulty at Syntax)
none_tells {A} K forms long = record {
  forms = forms;
  local = never_local;
  found = λ bytes at place x rest of e. absurd (cc);
  counted = λ bytes at place x rest of e. absurd (cc);
  right = λ bytes at place code of e.
      let places : at ≡ place = cc in
      let codes : Syntax ≡ code = cc in
      inl (
        sym codes,
        record {
          there = bytes;
          to = record {
            before = [];
            text = refl;
            extends = record { other = forms.some.front ++ forms.some.follows; rest = forms.some.follows; long = omega (arith, length-append forms.some.front forms.some.follows); is = forms.some.each forms.some.follows forms.some.may };
          };
          counted = omega (arith, places);
        },
      );
  texts = λ bytes rest at of text. absurd (omega (arith, of, long bytes rest text));
  told = λ code bytes there at of fault. absurd (none bytes there of (goes_past K bytes there (forms.past code bytes there fault)));
}
  where
    none : (bytes there : List ℕ) → length bytes ≤ 0 → GoesPastIt K bytes there → ⊥
    none bytes there few past = omega (arith, few, ap length past.text, length-append past.before there, ap length past.begins)

row_tells-within : {A : Type 0} (K : Kind) (May : List ℕ → Type 0) (c : ℕ) (cs : List ℕ) (z : ℕ) (zs : List ℕ) (item : Reader A) → Tells ⊥ K Anything May item → AreBehind May c cs z zs
    → (most : ℕ) (xs : List A) → Tells ⊥ (row_of K (c ∷ cs) (z ∷ zs)) (λ bytes. length bytes ≤ most) Anything (things_from (separated item c cs (z ∷ zs)) most xs)
row_tells-within {A} K May c cs z zs item first marks zero xs =
    same_tells (row_of K (c ∷ cs) (z ∷ zs)) (λ bytes. length bytes ≤ 0) Anything (things_from (separated item c cs (z ∷ zs)) 0 xs) (λ bytes at. Faulty at Syntax) (things_none (separated item c cs (z ∷ zs)) xs)
    (let row = row_forms K May c cs z zs first.forms marks in none_tells {A = List A} (row_of K (c ∷ cs) (z ∷ zs)) row (λ bytes rest text. row_long K May c cs z zs bytes rest first.forms row text))
row_tells-within {A} K May c cs z zs item first marks (suc most) xs =
    let R = row_of K (c ∷ cs) (z ∷ zs) in
    let one = separated item c cs (z ∷ zs) in
    let row = row_forms K May c cs z zs first.forms marks in
    kind_tells (one_and_more K (c ∷ cs) (z ∷ zs)) R (λ bytes. length bytes ≤ suc most) Anything (things_from one (suc most) xs) (row_is K (c ∷ cs) (z ∷ zs))
    (same_tells (one_and_more K (c ∷ cs) (z ∷ zs)) (λ bytes. length bytes ≤ suc most) Anything (things_from one (suc most) xs) (then_read item (behind_thing one c cs (z ∷ zs) most xs)) (one_thing item c cs (z ∷ zs) most xs)
    (both_tell K (ended_or_more K (c ∷ cs) (z ∷ zs)) (λ bytes. length bytes ≤ suc most) (λ bytes. length bytes ≤ suc most) May Anything item (behind_thing one c cs (z ∷ zs) most xs)
    (tells_of K Anything (λ bytes. length bytes ≤ suc most) May item (λ bytes of. tt) first)
    (λ at t. ends_or_goes (xs ++ t ∷ []) (row_tells-within K May c cs z zs item first marks most (xs ++ t ∷ [])))
    (one_of_forms (behind (fixed (c ∷ cs)) R) (fixed (z ∷ zs)) Anything (behind_fixed-forms (c ∷ cs) R Anything row) (fixed_forms (z ∷ zs)))
    may (λ bs mid of text. omega (arith, of, shorter K May bs mid (first.forms.moved bs mid text)))))
  where
    may : (bs rest : List ℕ) → (ended_or_more K (c ∷ cs) (z ∷ zs)).Text bs rest → May bs
    may bs rest (inl (mid, text, more)) = subst May (sym text) (marks.comma mid)
    may bs rest (inr text) = subst May (sym text) (marks.close rest)

    ends_or_goes : (ys : List A) → Tells ⊥ (row_of K (c ∷ cs) (z ∷ zs)) (λ bytes. length bytes ≤ most) Anything (things_from (separated item c cs (z ∷ zs)) most ys)
        → Tells ⊥ (ended_or_more K (c ∷ cs) (z ∷ zs)) (λ bytes. length bytes ≤ suc most) Anything (chosen (λ bs. front bs == c) (then_read (read_fixed (c ∷ cs)) (λ _ _. things_from (separated item c cs (z ∷ zs)) most ys)) (closed_by (z ∷ zs) ys))
    ends_or_goes ys again =
        let R = row_of K (c ∷ cs) (z ∷ zs) in
        let test = λ (bs : List ℕ). front bs == c in
        let goes = then_read (read_fixed (c ∷ cs)) (λ _ _. things_from (separated item c cs (z ∷ zs)) most ys) in
        let goes_tells = both_tell (fixed (c ∷ cs)) R (λ bytes. (length bytes ≤ suc most) × (test bytes ≡ true)) (λ bytes. length bytes ≤ most) Anything Anything (read_fixed (c ∷ cs)) (λ _ _. things_from (separated item c cs (z ∷ zs)) most ys)
        (tells_of (fixed (c ∷ cs)) Anything (λ bytes. (length bytes ≤ suc most) × (test bytes ≡ true)) Anything (read_fixed (c ∷ cs)) (λ bytes of. tt) (fixed_tells (c ∷ cs))) (λ at u. again) again.forms (λ bs rest text. tt)
        (λ bs mid of text. omega (arith, of.0, ap length text, length-append cs mid)) in
        one_of_tells (behind (fixed (c ∷ cs)) R) (fixed (z ∷ zs)) (λ bytes. length bytes ≤ suc most) Anything test goes (closed_by (z ∷ zs) ys) goes_tells
        (tells_of (fixed (z ∷ zs)) Anything (λ bytes. (length bytes ≤ suc most) × (test bytes ≡ false)) Anything (closed_by (z ∷ zs) ys) (λ bytes of. tt) (closed_tells (z ∷ zs) ys))
        (told_by_fixed (c ∷ cs) R test true (λ rest. same_byte c)) (told_alone (z ∷ zs) test false (λ rest. marks.apart))
        (choice_local (λ b. b == c) goes (closed_by (z ∷ zs) ys) goes_tells.local (closed_tells (z ∷ zs) ys).local)

-- a reader that reads things so tells the first fault of their row
pub row_tells : {A : Type 0} (K : Kind) (May : List ℕ → Type 0) (c : ℕ) (cs : List ℕ) (z : ℕ) (zs : List ℕ) (item : Reader A) (one : Reader (A × Bool)) → ((bytes : List ℕ) (at : ℕ) → one bytes at ≡ separated item c cs (z ∷ zs) bytes at) → IsLocal (things one)
    → Tells ⊥ K Anything May item → AreBehind May c cs z zs → Tells ⊥ (row_of K (c ∷ cs) (z ∷ zs)) Anything Anything (things one)
row_tells {A} K May c cs z zs item one same local first marks =
    each_length_tells (row_of K (c ∷ cs) (z ∷ zs)) Anything (λ most. things_from one most []) local
    (λ most. same_tells (row_of K (c ∷ cs) (z ∷ zs)) (λ bytes. length bytes ≤ most) Anything (things_from one most []) (things_from (separated item c cs (z ∷ zs)) most []) (same_things most []) (row_tells-within K May c cs z zs item first marks most []))
  where
    same_things : (most : ℕ) (xs : List A) (bytes : List ℕ) (at : ℕ) → things_from one most xs bytes at ≡ things_from (separated item c cs (z ∷ zs)) most xs bytes at
    same_things zero xs bytes at = things_none one xs bytes at ∙ sym (things_none (separated item c cs (z ∷ zs)) xs bytes at)
    same_things (suc most) xs bytes at =
        things_more one most xs bytes at
        ∙ (ap (λ o. next o (λ x p k. if x.1 then things_from one most (xs ++ x.0 ∷ []) k p else Found (xs ++ x.0 ∷ []) p k)) (same bytes at)
        ∙ (next_same (separated item c cs (z ∷ zs) bytes at) (λ x p k. if x.1 then things_from one most (xs ++ x.0 ∷ []) k p else Found (xs ++ x.0 ∷ []) p k)
        (λ x p k. if x.1 then things_from (separated item c cs (z ∷ zs)) most (xs ++ x.0 ∷ []) k p else Found (xs ++ x.0 ∷ []) p k)
        (λ x p k. ap (λ o. if x.1 then o else Found (xs ++ x.0 ∷ []) p k) (same_things most (xs ++ x.0 ∷ []) k p))
        ∙ sym (things_more (separated item c cs (z ∷ zs)) most xs bytes at)))
