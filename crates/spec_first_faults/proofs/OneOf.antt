-- One of two kinds, told apart by the bytes: a reader of either tells the first fault.
use Rattle.std.proofs.Common.{◌≡◌, ℕ, ◌+◌, inl, inr, Bool, true, false, if◌then◌else◌, List, [], ◌∷◌, ◌++◌, length, refl, sym, ◌∙◌, ap, subst}
use Rattle.spec_certificate_text.specs.Terms.{Code}
use Rattle.spec_certificate_text.specs.Outcomes.{Outcome, Found, Faulty, Reader, front}
use Rattle.spec_reading_faults.proofs.Shared.{IsLocal}
use Rattle.spec_certificate_faults.specs.First.{Kind}
use Rattle.spec_certificate_faults.proofs.Comes.{either}
use Rattle.spec_first_faults.specs.Kinds.{fixed, behind, one_of}
use Rattle.spec_first_faults.proofs.Tells.{GoesPastIt, IsRight, TextRead, ToldIt, Forms, Tells, goes_past, past_to, moved_to, some_to, right_to}

abbrev pub chosen : {A : Type 0} → (List ℕ → Bool) → Reader A → Reader A → Reader A
chosen test r s bytes at = if test bytes then r bytes at else s bytes at

-- of the texts and the faults of a kind the bytes tell
pub record IsToldBy (K : Kind) (test : List ℕ → Bool) (is : Bool) : Type 0 where
  pub texts : (bytes rest : List ℕ) → K.Text bytes rest → test bytes ≡ is
  pub faults : (code : Code) (bytes there : List ℕ) → K.Fault code bytes there → test bytes ≡ is

-- by the first byte, where the texts are told by it
pub told_by_front : (K : Kind) (May : List ℕ → Type 0) (test : ℕ → Bool) (is : Bool) → Forms ⊥ K May → ((bytes rest : List ℕ) → K.Text bytes rest → test (front bytes) ≡ is) → IsToldBy K (λ bytes. test (front bytes)) is
told_by_front K May test is forms texts = record { texts = texts; faults = λ code bytes there fault. by bytes there (goes_past K bytes there (forms.past code bytes there fault)) }
  where
    same_front : (before : List ℕ) (first : ℕ) (later other : List ℕ) → front (before ++ first ∷ later) ≡ front ((before ++ first ∷ []) ++ other)
    same_front [] first later other = refl
    same_front (b ∷ before) first later other = refl

    by : (bytes there : List ℕ) → GoesPastIt K bytes there → test (front bytes) ≡ is
    by bytes there past =
        let whole : bytes ≡ past.before ++ past.first ∷ past.later = past.text ∙ ap (λ bs. past.before ++ bs) past.begins in
        ap (λ bs. test (front bs)) whole ∙ (ap test (same_front past.before past.first past.later past.extends.other) ∙ texts ((past.before ++ past.first ∷ []) ++ past.extends.other) past.extends.rest past.extends.is)

-- by fixed bytes that stand before all else
pub told_by_fixed : (w : List ℕ) (L : Kind) (test : List ℕ → Bool) (is : Bool) → ((rest : List ℕ) → test (w ++ rest) ≡ is) → IsToldBy (behind (fixed w) L) test is
told_by_fixed w L test is told = record { texts = λ bytes rest text. ap test text.1 ∙ told text.0; faults = λ code bytes there fault. by bytes (either fault (λ none. absurd none) (λ later. (later.0, later.1))) }
  where
    by : (bytes : List ℕ) → (mid : List ℕ) × (bytes ≡ w ++ mid) → test bytes ≡ is
    by bytes (mid, text) = ap test text ∙ told mid

pub told_alone : (w : List ℕ) (test : List ℕ → Bool) (is : Bool) → ((rest : List ℕ) → test (w ++ rest) ≡ is) → IsToldBy (fixed w) test is
told_alone w test is told = record { texts = λ bytes rest text. ap test text ∙ told rest; faults = λ code bytes there fault. absurd fault }

pub either_told : (K L : Kind) (test : List ℕ → Bool) (is : Bool) → IsToldBy K test is → IsToldBy L test is → IsToldBy (one_of K L) test is
either_told K L test is first second = record {
  texts = λ bytes rest text. either text (λ k. first.texts bytes rest k) (λ l. second.texts bytes rest l);
  faults = λ code bytes there fault. either fault (λ k. first.faults code bytes there k) (λ l. second.faults code bytes there l);
}

pub one_of_forms : {Last : Type 0} (K L : Kind) (May : List ℕ → Type 0) → Forms Last K May → Forms Last L May → Forms Last (one_of K L) May
one_of_forms {Last} K L May first second = record {
  moved = λ bytes rest text. either text (λ k. moved_to K (one_of K L) May bytes rest (λ bs r t. inl t) (first.moved bytes rest k)) (λ l. moved_to L (one_of K L) May bytes rest (λ bs r t. inr t) (second.moved bytes rest l));
  some = some_to K (one_of K L) May (λ bs r t. inl t) first.some;
  past = λ code bytes there fault. either fault (λ k. past_to Last K (one_of K L) bytes there (λ bs r t. inl t) (first.past code bytes there k)) (λ l. past_to Last L (one_of K L) bytes there (λ bs r t. inr t) (second.past code bytes there l));
  other_codes = λ bytes there fault. either fault (λ k. first.other_codes bytes there k) (λ l. second.other_codes bytes there l);
}

if_true : {A : Type 0} (t : Bool) (o q : Outcome A) → t ≡ true → (if t then o else q) ≡ o
if_true true o q e = refl
if_true false o q e = absurd (cc)

if_false : {A : Type 0} (t : Bool) (o q : Outcome A) → t ≡ false → (if t then o else q) ≡ q
if_false true o q e = absurd (cc)
if_false false o q e = refl

same_read : {A : Type 0} (Last : Type 0) (o q : Outcome A) (bytes : List ℕ) (at : ℕ) (rest : List ℕ) → o ≡ q → TextRead Last q bytes at rest → TextRead Last o bytes at rest
same_read Last o q bytes at rest e read = subst (λ x. TextRead Last x bytes at rest) (sym e) read

same_told : {A : Type 0} (o q : Outcome A) (bytes : List ℕ) (at : ℕ) (there : List ℕ) (code : Code) → o ≡ q → ToldIt q bytes at there code → ToldIt o bytes at there code
same_told o q bytes at there code e told = subst (λ x. ToldIt x bytes at there code) (sym e) told

pub one_of_tells : {A : Type 0} {Last : Type 0} (K L : Kind) (Of May : List ℕ → Type 0) (test : List ℕ → Bool) (r s : Reader A) → Tells Last K (λ bs. Of bs × (test bs ≡ true)) May r → Tells Last L (λ bs. Of bs × (test bs ≡ false)) May s
    → IsToldBy K test true → IsToldBy L test false → IsLocal (chosen test r s) → Tells Last (one_of K L) Of May (chosen test r s)
one_of_tells {A} {Last} K L Of May test r s first second of_first of_second local = record {
  forms = one_of_forms K L May first.forms second.forms;
  local = local;
  found = λ bytes at place x rest of e. found_by bytes at place x rest of (test bytes) refl e;
  counted = λ bytes at place x rest of e. counted_by bytes at place x rest of (test bytes) refl e;
  right = λ bytes at place code of e. right_by bytes at place code of (test bytes) refl e;
  texts = λ bytes rest at of text. either text
      (λ k. let so = of_first.texts bytes rest k in same_read Last (chosen test r s bytes at) (r bytes at) bytes at rest (if_true (test bytes) (r bytes at) (s bytes at) so) (first.texts bytes rest at (of, so) k))
      (λ l. let so = of_second.texts bytes rest l in same_read Last (chosen test r s bytes at) (s bytes at) bytes at rest (if_false (test bytes) (r bytes at) (s bytes at) so) (second.texts bytes rest at (of, so) l));
  told = λ code bytes there at of fault. either fault
      (λ k. let so = of_first.faults code bytes there k in same_told (chosen test r s bytes at) (r bytes at) bytes at there code (if_true (test bytes) (r bytes at) (s bytes at) so) (first.told code bytes there at (of, so) k))
      (λ l. let so = of_second.faults code bytes there l in same_told (chosen test r s bytes at) (s bytes at) bytes at there code (if_false (test bytes) (r bytes at) (s bytes at) so) (second.told code bytes there at (of, so) l));
}
  where
    found_by : (bytes : List ℕ) (at place : ℕ) (x : A) (rest : List ℕ) → Of bytes → (t : Bool) → test bytes ≡ t → (if t then r bytes at else s bytes at) ≡ Found x place rest → (one_of K L).Text bytes rest
    found_by bytes at place x rest of true so e = inl (first.found bytes at place x rest (of, so) e)
    found_by bytes at place x rest of false so e = inr (second.found bytes at place x rest (of, so) e)

    counted_by : (bytes : List ℕ) (at place : ℕ) (x : A) (rest : List ℕ) → Of bytes → (t : Bool) → test bytes ≡ t → (if t then r bytes at else s bytes at) ≡ Found x place rest → place + length rest ≡ at + length bytes
    counted_by bytes at place x rest of true so e = first.counted bytes at place x rest (of, so) e
    counted_by bytes at place x rest of false so e = second.counted bytes at place x rest (of, so) e

    right_by : (bytes : List ℕ) (at place : ℕ) (code : Code) → Of bytes → (t : Bool) → test bytes ≡ t → (if t then r bytes at else s bytes at) ≡ Faulty place code → IsRight (one_of K L) bytes (at + length bytes) place code
    right_by bytes at place code of true so e = right_to K (one_of K L) bytes (at + length bytes) place code (λ bs k t. inl t) (λ there f. inl f) (first.right bytes at place code (of, so) e)
    right_by bytes at place code of false so e = right_to L (one_of K L) bytes (at + length bytes) place code (λ bs k t. inr t) (λ there f. inr f) (second.right bytes at place code (of, so) e)
