-- Faults that the whole of a thing makes, and that stand where it begins: a reader that judges what it found tells them.
use Rattle.std.proofs.Common.{◌≡◌, ◌≢◌, ℕ, ◌+◌, ◌≤◌, ◌⊎◌, inl, inr, List, length, refl, sym, ◌∙◌, ap, subst, arith}
use Rattle.spec_certificate_text.specs.Terms.{Code, Syntax}
use Rattle.spec_certificate_text.specs.Outcomes.{Outcome, Found, Faulty, next, Reader}
use Rattle.spec_reading_faults.proofs.Shared.{IsLocal, next_local, found_local, other_local}
use Rattle.spec_certificate_faults.specs.First.{Kind}
use Rattle.spec_certificate_faults.proofs.Comes.{either}
use Rattle.spec_first_faults.specs.Kinds.{marked}
use Rattle.spec_first_faults.proofs.Tells.{GoesPastIt, IsPassed, IsRight, TextRead, Forms, Tells, past_to, moved_to, some_to, right_to}
use Rattle.spec_first_faults.proofs.Behind.{same_fault}

-- a fault where the thing began, or what was found
abbrev pub judged : {B : Type 0} → Code ⊎ B → ℕ → ℕ → List ℕ → Outcome B
judged (inl code) from place rest = Faulty from code
judged (inr y) from place rest = Found y place rest

abbrev pub checked : {A B : Type 0} → (A → Code ⊎ B) → Reader A → Reader B
checked judge r bytes at = next (r bytes at) (λ x p k. judged (judge x) at p k)

-- the thing is found, and judged so
pub record IsJudged {A B : Type 0} (judge : A → Code ⊎ B) (o : Outcome A) (code : Code) : Type 0 where
  pub value : A
  pub place : ℕ
  pub rest : List ℕ
  pub is : o ≡ Found value place rest
  pub so : judge value ≡ inl code

-- the faults there are those that are judged
pub record Judges {A B : Type 0} (K : Kind) (Of : List ℕ → Type 0) (r : Reader A) (judge : A → Code ⊎ B) (Here : Code → List ℕ → Type 0) : Type 0 where
  pub text_long : (bytes rest : List ℕ) → K.Text bytes rest → length rest + 1 ≤ length bytes
  pub judged_so : (code : Code) (bytes : List ℕ) (at : ℕ) → Of bytes → Here code bytes → IsJudged judge (r bytes at) code
  pub is_here : (code : Code) (bytes : List ℕ) (at place : ℕ) (x : A) (rest : List ℕ) → Of bytes → r bytes at ≡ Found x place rest → judge x ≡ inl code → Here code bytes
  pub past : (code : Code) (bytes : List ℕ) → Here code bytes → GoesPastIt K bytes bytes
  pub other : (bytes : List ℕ) → Here Syntax bytes → ⊥
  pub never : (x : A) (code : Code) → judge x ≡ inl code → code ≢ Syntax

judged_local : {A B : Type 0} (judge : A → Code ⊎ B) → ((x : A) (code : Code) → judge x ≡ inl code → code ≢ Syntax) → (from : ℕ) (x : A) → IsLocal (λ bytes at. judged (judge x) from at bytes)
judged_local {A} {B} judge never from x = by (judge x) (λ code e. never x code e)
  where
    by : (j : Code ⊎ B) → ((code : Code) → j ≡ inl code → code ≢ Syntax) → IsLocal (λ bytes at. judged j from at bytes)
    by (inl code) other = other_local from code (other code refl)
    by (inr y) other = found_local y

pub marked_forms : (K : Kind) (May : List ℕ → Type 0) (Here : Code → List ℕ → Type 0) → Forms ⊥ K May → ((code : Code) (bytes : List ℕ) → Here code bytes → GoesPastIt K bytes bytes) → ((bytes : List ℕ) → Here Syntax bytes → ⊥) → Forms ⊥ (marked K Here) May
marked_forms K May Here forms past other = record {
  moved = λ bytes rest text. moved_to K (marked K Here) May bytes rest (λ bs r t. t) (forms.moved bytes rest text);
  some = some_to K (marked K Here) May (λ bs r t. t) forms.some;
  past = λ code bytes there fault. either fault
      (λ k. past_to ⊥ K (marked K Here) bytes there (λ bs r t. t) (forms.past code bytes there k))
      (λ here. subst (IsPassed ⊥ (marked K Here) bytes) (sym here.0) (past_to ⊥ K (marked K Here) bytes bytes (λ bs r t. t) (inl (past code bytes here.1))));
  other_codes = λ bytes there fault. either fault (λ k. forms.other_codes bytes there k) (λ here. other bytes here.1);
}

pub marked_tells : {A B : Type 0} (K : Kind) (Of May : List ℕ → Type 0) (r : Reader A) (judge : A → Code ⊎ B) (Here : Code → List ℕ → Type 0) → Tells ⊥ K Of May r → Judges K Of r judge Here → Tells ⊥ (marked K Here) Of May (checked judge r)
marked_tells {A} {B} K Of May r judge Here tells judges = record {
  forms = marked_forms K May Here tells.forms judges.past judges.other;
  local = next_local r (λ at x bytes p. judged (judge x) at p bytes) tells.local (λ at x. judged_local judge judges.never at x);
  found = λ bytes at place y rest of e. let cut = found_by (r bytes at) at y place rest e in tells.found bytes at place cut.0 rest of cut.1;
  counted = λ bytes at place y rest of e. let cut = found_by (r bytes at) at y place rest e in tells.counted bytes at place cut.0 rest of cut.1;
  right = λ bytes at place code of e. right_by bytes at place code of (r bytes at) refl e;
  texts = λ bytes rest at of text. texts_by bytes rest at of text (tells.texts bytes rest at of text);
  told = λ code bytes there at of fault. either fault
      (λ k. let one = tells.told code bytes there at of k in record { place = one.place; told = one.told; is = ap (λ o. next o (λ x p k. judged (judge x) at p k)) one.is; not_after = one.not_after })
      (λ here. let so = judges.judged_so code bytes at of here.1 in record {
        place = at;
        told = code;
        is = ap (λ o. next o (λ x p k. judged (judge x) at p k)) so.is ∙ ap (λ j. judged j at so.place so.rest) so.so;
        not_after = inr (omega (arith, ap length here.0), omega arith);
      });
}
  where
    found_by : (o : Outcome A) (at : ℕ) (y : B) (place : ℕ) (rest : List ℕ) → next o (λ x p k. judged (judge x) at p k) ≡ Found y place rest → (x : A) × (o ≡ Found x place rest)
    found_by (Faulty p c) at y place rest e = absurd (cc)
    found_by (Found x p k) at y place rest e = by (judge x) e
      where
        by : (j : Code ⊎ B) → judged j at p k ≡ Found y place rest → (z : A) × (Found x p k ≡ Found z place rest)
        by (inl code) told = absurd (cc)
        by (inr z) told =
            let places : p ≡ place = cc in
            let rests : k ≡ rest = cc in
            (x, ap (λ q. Found x q k) places ∙ ap (Found x place) rests)

    right_by : (bytes : List ℕ) (at place : ℕ) (code : Code) → Of bytes → (o : Outcome A) → r bytes at ≡ o → next o (λ x p k. judged (judge x) at p k) ≡ Faulty place code → IsRight (marked K Here) bytes (at + length bytes) place code
    right_by bytes at place code of (Faulty p c) is e =
        let places : p ≡ place = cc in
        let codes : c ≡ code = cc in
        right_to K (marked K Here) bytes (at + length bytes) place code (λ bs k t. t) (λ there f. inl f) (tells.right bytes at place code of (same_fault (r bytes at) p place c code is places codes))
    right_by bytes at place code of (Found x p k) is e = by (judge x) refl e
      where
        by : (j : Code ⊎ B) → judge x ≡ j → judged j at p k ≡ Faulty place code → IsRight (marked K Here) bytes (at + length bytes) place code
        by (inl c) so told =
            let places : at ≡ place = cc in
            let codes : c ≡ code = cc in
            inr record { there = bytes; is = inr (refl, judges.is_here code bytes at p x k of is (so ∙ ap (λ d. inl d) codes)); counted = omega (arith, places) }
        by (inr y) so told = absurd (cc)

    texts_by : (bytes rest : List ℕ) (at : ℕ) → Of bytes → K.Text bytes rest → TextRead ⊥ (r bytes at) bytes at rest → TextRead ⊥ (checked judge r bytes at) bytes at rest
    texts_by bytes rest at of text (inr stops) = inr record { place = stops.place; code = stops.code; is = ap (λ o. next o (λ x p k. judged (judge x) at p k)) stops.is; early = stops.early; other = stops.other }
    texts_by bytes rest at of text (inl finds) = by (judge finds.value) refl
      where
        by : (j : Code ⊎ B) → judge finds.value ≡ j → TextRead ⊥ (checked judge r bytes at) bytes at rest
        by (inl code) so = inr record {
          place = at;
          code = code;
          is = ap (λ o. next o (λ x p k. judged (judge x) at p k)) finds.is ∙ ap (λ j. judged j at finds.place rest) so;
          early = inl (omega (arith, judges.text_long bytes rest text));
          other = judges.never finds.value code so;
        }
        by (inr y) so = inl record { value = y; place = finds.place; is = ap (λ o. next o (λ x p k. judged (judge x) at p k)) finds.is ∙ ap (λ j. judged j at finds.place rest) so }
