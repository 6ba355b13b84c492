-- Faults that the whole of a thing makes, and that stand so many bytes behind its beginning: a reader that judges what it found tells them.
use Rattle.std.proofs.Common.{◌≡◌, ◌≢◌, ℕ, ◌+◌, ◌≤◌, ◌⊎◌, inl, inr, List, length, refl, ◌∙◌, ap, subst, arith}
use Rattle.spec_certificate_text.specs.Terms.{Code, Syntax}
use Rattle.spec_certificate_text.specs.Outcomes.{Outcome, Found, Faulty, next, Reader}
use Rattle.spec_certificate_text.proofs.Parts.{parts}
use Rattle.spec_reading_faults.proofs.Shared.{IsLocal, next_local, found_local}
use Rattle.spec_certificate_faults.specs.First.{Kind}
use Rattle.spec_certificate_faults.proofs.Comes.{either}
use Rattle.spec_first_faults.proofs.Tells.{GoesPastIt, IsRight, TextRead, Forms, Tells, past_to, moved_to, some_to, right_to}
use Rattle.spec_first_faults.proofs.Behind.{same_fault}

-- a fault of the code, so many bytes behind the beginning
pub record Within : Type 0 where
  pub count : ℕ
  pub code : Code

-- such a fault, or what was found
abbrev pub judged_within : {B : Type 0} → Within ⊎ B → ℕ → ℕ → List ℕ → Outcome B
judged_within (inl w) from place rest = Faulty (from + w.count) w.code
judged_within (inr y) from place rest = Found y place rest

abbrev pub checked_within : {A B : Type 0} → (A → Within ⊎ B) → Reader A → Reader B
checked_within judge r bytes at = next (r bytes at) (λ x p k. judged_within (judge x) at p k)

-- the kind, with further faults
abbrev pub with_faults : Kind → (Code → List ℕ → List ℕ → Type 0) → Kind
with_faults K More = record { Text = K.Text; Fault = λ code bytes there. K.Fault code bytes there ⊎ More code bytes there }

-- the thing is found, and judged so
pub record IsJudgedWithin {A B : Type 0} (judge : A → Within ⊎ B) (o : Outcome A) (bytes there : List ℕ) (code : Code) : Type 0 where
  pub value : A
  pub place : ℕ
  pub rest : List ℕ
  pub is : o ≡ Found value place rest
  pub count : ℕ
  pub so : judge value ≡ inl record { count = count; code = code }
  pub counted : count + length there ≡ length bytes

pub record StandsWithin (More : Code → List ℕ → List ℕ → Type 0) (bytes : List ℕ) (w : Within) : Type 0 where
  pub there : List ℕ
  pub is : More w.code bytes there
  pub counted : w.count + length there ≡ length bytes

-- the faults there are those that are judged
pub record JudgesWithin {A B : Type 0} (K : Kind) (Of : List ℕ → Type 0) (r : Reader A) (judge : A → Within ⊎ B) (More : Code → List ℕ → List ℕ → Type 0) : Type 0 where
  pub early : (bytes rest : List ℕ) (at place : ℕ) (x : A) (w : Within) → Of bytes → r bytes at ≡ Found x place rest → judge x ≡ inl w → w.count + length rest + 1 ≤ length bytes
  pub judged_so : (code : Code) (bytes there : List ℕ) (at : ℕ) → Of bytes → More code bytes there → IsJudgedWithin judge (r bytes at) bytes there code
  pub stands : (bytes : List ℕ) (at place : ℕ) (x : A) (rest : List ℕ) (w : Within) → Of bytes → r bytes at ≡ Found x place rest → judge x ≡ inl w → StandsWithin More bytes w
  pub past : (code : Code) (bytes there : List ℕ) → More code bytes there → GoesPastIt K bytes there
  pub other : (bytes there : List ℕ) → More Syntax bytes there → ⊥
  pub never : (x : A) (w : Within) → judge x ≡ inl w → w.code ≢ Syntax

within_local : {A B : Type 0} (judge : A → Within ⊎ B) → ((x : A) (w : Within) → judge x ≡ inl w → w.code ≢ Syntax) → (from : ℕ) (x : A) → IsLocal (λ bytes at. judged_within (judge x) from at bytes)
within_local {A} {B} judge never from x = by (judge x) (λ w e. never x w e)
  where
    by : (j : Within ⊎ B) → ((w : Within) → j ≡ inl w → w.code ≢ Syntax) → IsLocal (λ bytes at. judged_within j from at bytes)
    by (inl w) other = record {
      fault = λ bytes others at n place shares there e. let codes : w.code ≡ Syntax = cc in absurd (other w refl codes);
      found = λ bytes others at n place y rest shares there e. absurd (cc);
      passed = λ bytes at place y rest e. absurd (cc);
      later = λ bytes at place e. let codes : w.code ≡ Syntax = cc in absurd (other w refl codes);
    }
    by (inr y) other = found_local y

with_faults-forms : (K : Kind) (May : List ℕ → Type 0) (More : Code → List ℕ → List ℕ → Type 0) → Forms ⊥ K May → ((code : Code) (bytes there : List ℕ) → More code bytes there → GoesPastIt K bytes there) → ((bytes there : List ℕ) → More Syntax bytes there → ⊥) → Forms ⊥ (with_faults K More) May
with_faults-forms K May More forms past other = record {
  moved = λ bytes rest text. moved_to K (with_faults K More) May bytes rest (λ bs r t. t) (forms.moved bytes rest text);
  some = some_to K (with_faults K More) May (λ bs r t. t) forms.some;
  past = λ code bytes there fault. past_to ⊥ K (with_faults K More) bytes there (λ bs r t. t) (either fault (λ k. forms.past code bytes there k) (λ more. inl (past code bytes there more)));
  other_codes = λ bytes there fault. either fault (λ k. forms.other_codes bytes there k) (λ more. other bytes there more);
}

pub within_tells : {A B : Type 0} (K : Kind) (Of May : List ℕ → Type 0) (r : Reader A) (judge : A → Within ⊎ B) (More : Code → List ℕ → List ℕ → Type 0) → Tells ⊥ K Of May r → JudgesWithin K Of r judge More → Tells ⊥ (with_faults K More) Of May (checked_within judge r)
within_tells {A} {B} K Of May r judge More tells judges = record {
  forms = with_faults-forms K May More tells.forms judges.past judges.other;
  local = next_local r (λ at x bytes p. judged_within (judge x) at p bytes) tells.local (λ at x. within_local judge judges.never at x);
  found = λ bytes at place y rest of e. let cut = parts (r bytes at) (λ x p k. judged_within (judge x) at p k) y place rest e in subst (K.Text bytes) (same_rest at y place rest cut.value cut.place cut.rest (judge cut.value) cut.later) (tells.found bytes at cut.place cut.value cut.rest of cut.first);
  counted = λ bytes at place y rest of e.
      let cut = parts (r bytes at) (λ x p k. judged_within (judge x) at p k) y place rest e in
      let one = tells.counted bytes at cut.place cut.value cut.rest of cut.first in
      omega (arith, one, ap length (same_rest at y place rest cut.value cut.place cut.rest (judge cut.value) cut.later), same_place at y place rest cut.value cut.place cut.rest (judge cut.value) cut.later);
  right = λ bytes at place code of e. right_by bytes at place code of (r bytes at) refl e;
  texts = λ bytes rest at of text. texts_by bytes rest at of (tells.texts bytes rest at of text);
  told = λ code bytes there at of fault. either fault
      (λ k. let one = tells.told code bytes there at of k in record { place = one.place; told = one.told; is = ap (λ o. next o (λ x p k. judged_within (judge x) at p k)) one.is; not_after = one.not_after })
      (λ more. let so = judges.judged_so code bytes there at of more in record {
        place = at + so.count;
        told = code;
        is = ap (λ o. next o (λ x p k. judged_within (judge x) at p k)) so.is ∙ ap (λ j. judged_within j at so.place so.rest) so.so;
        not_after = inr (omega (arith, so.counted), omega arith);
      });
}
  where
    same_rest : (at : ℕ) (y : B) (place : ℕ) (rest : List ℕ) (x : A) (p : ℕ) (k : List ℕ) (j : Within ⊎ B) → judged_within j at p k ≡ Found y place rest → k ≡ rest
    same_rest at y place rest x p k (inl w) e = absurd (cc)
    same_rest at y place rest x p k (inr z) e = cc

    same_place : (at : ℕ) (y : B) (place : ℕ) (rest : List ℕ) (x : A) (p : ℕ) (k : List ℕ) (j : Within ⊎ B) → judged_within j at p k ≡ Found y place rest → p ≡ place
    same_place at y place rest x p k (inl w) e = absurd (cc)
    same_place at y place rest x p k (inr z) e = cc

    right_by : (bytes : List ℕ) (at place : ℕ) (code : Code) → Of bytes → (o : Outcome A) → r bytes at ≡ o → next o (λ x p k. judged_within (judge x) at p k) ≡ Faulty place code → IsRight (with_faults K More) bytes (at + length bytes) place code
    right_by bytes at place code of (Faulty p c) is e =
        let places : p ≡ place = cc in
        let codes : c ≡ code = cc in
        right_to K (with_faults K More) bytes (at + length bytes) place code (λ bs k t. t) (λ there f. inl f) (tells.right bytes at place code of (same_fault (r bytes at) p place c code is places codes))
    right_by bytes at place code of (Found x p k) is e = by (judge x) refl e
      where
        by : (j : Within ⊎ B) → judge x ≡ j → judged_within j at p k ≡ Faulty place code → IsRight (with_faults K More) bytes (at + length bytes) place code
        by (inl w) so told =
            let places : at + w.count ≡ place = cc in
            let codes : w.code ≡ code = cc in
            let here = judges.stands bytes at p x k w of is so in
            inr record { there = here.there; is = inr (subst (λ c. More c bytes here.there) codes here.is); counted = omega (arith, places, here.counted) }
        by (inr y) so told = absurd (cc)

    texts_by : (bytes rest : List ℕ) (at : ℕ) → Of bytes → TextRead ⊥ (r bytes at) bytes at rest → TextRead ⊥ (checked_within judge r bytes at) bytes at rest
    texts_by bytes rest at of (inr stops) = inr record { place = stops.place; code = stops.code; is = ap (λ o. next o (λ x p k. judged_within (judge x) at p k)) stops.is; early = stops.early; other = stops.other }
    texts_by bytes rest at of (inl finds) = by (judge finds.value) refl
      where
        by : (j : Within ⊎ B) → judge finds.value ≡ j → TextRead ⊥ (checked_within judge r bytes at) bytes at rest
        by (inl w) so =
            let early = judges.early bytes rest at finds.place finds.value w of finds.is so in
            inr record {
              place = at + w.count;
              code = w.code;
              is = ap (λ o. next o (λ x p k. judged_within (judge x) at p k)) finds.is ∙ ap (λ j. judged_within j at finds.place rest) so;
              early = inl (omega (arith, early));
              other = judges.never finds.value w so;
            }
        by (inr y) so = inl record { value = y; place = finds.place; is = ap (λ o. next o (λ x p k. judged_within (judge x) at p k)) finds.is ∙ ap (λ j. judged_within j at finds.place rest) so }
