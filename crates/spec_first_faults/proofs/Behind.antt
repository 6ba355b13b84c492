-- One kind behind another, and one of two: readers of both tell the first fault.
use Rattle.std.proofs.Common.{◌≡◌, ℕ, ◌+◌, ◌≤◌, inl, inr, List, [], ◌∷◌, ◌++◌, length, refl, sym, ◌∙◌, ap, subst, arith, append_assoc, length-append}
use Rattle.spec_certificate_text.specs.Terms.{Code}
use Rattle.spec_certificate_text.specs.Outcomes.{Outcome, Found, Faulty, next, Reader}
use Rattle.spec_reading_faults.proofs.Shared.{next_local}
use Rattle.spec_certificate_faults.specs.First.{Kind}
use Rattle.spec_certificate_faults.proofs.Comes.{either}
use Rattle.spec_first_faults.specs.Kinds.{behind}
use Rattle.spec_first_faults.proofs.Tells.{Extends, IsPassed, IsRight, IsEarly, TextRead, ToldIt, IsMoved, HasSome, Forms, Tells, shorter, there_shorter, goes_past, is_early}

split : (before other front rest : List ℕ) → before ++ other ≡ front ++ rest → length rest ≤ length other → (o : List ℕ) × (front ≡ before ++ o)
split [] other front rest e long = (front, refl)
split (b ∷ before) other [] rest e long = absurd (let same = ap length e in omega (arith, same, long, length-append before other))
split (b ∷ before) other (c ∷ front) rest e long =
    let first : b ≡ c = cc in
    let later : before ++ other ≡ front ++ rest = cc in
    let cut = split before other front rest later long in
    (cut.0, ap (λ fs. c ∷ fs) cut.1 ∙ ap (λ d. d ∷ (before ++ cut.0)) (sym first))

-- a text of the first that begins with these bytes, and so one of both
pub first_extends : (K L : Kind) (May Must : List ℕ → Type 0) (before : List ℕ) → ((bs rest : List ℕ) → K.Text bs rest → IsMoved K May bs rest) → ((bs rest : List ℕ) → L.Text bs rest → May bs) → HasSome L Must → Extends K before → Extends (behind K L) before
first_extends K L May Must before moved may some to =
    let m = moved (before ++ to.other) to.rest to.is in
    let cut = split before to.other m.front to.rest m.text to.long in
    let second = some.front ++ some.follows in
    let is = some.each some.follows some.may in
    let whole : m.front ++ second ≡ before ++ (cut.0 ++ second) = ap (λ f. f ++ second) cut.1 ∙ append_assoc before cut.0 second in
    record {
      other = cut.0 ++ second;
      rest = some.follows;
      long = omega (arith, length-append cut.0 second, length-append some.front some.follows);
      is = (second, subst (λ bs. K.Text bs second) whole (m.each second (may second some.follows is)), is);
    }

-- behind a text of the first a text of the second that begins with these bytes
pub second_extends : (K L : Kind) (May : List ℕ → Type 0) (front before : List ℕ) → ((other : List ℕ) → May other → K.Text (front ++ other) other) → ((bs rest : List ℕ) → L.Text bs rest → May bs) → Extends L before → Extends (behind K L) (front ++ before)
second_extends K L May front before each may to =
    let second = before ++ to.other in
    record {
      other = to.other;
      rest = to.rest;
      long = to.long;
      is = (second, subst (λ bs. K.Text bs second) (sym (append_assoc front before to.other)) (each second (may second to.rest to.is)), to.is);
    }

-- The kinds.

pub past_both : (Last : Type 0) (K L : Kind) (May Must : List ℕ → Type 0) → Forms ⊥ K May → Forms Last L Must → ((bs rest : List ℕ) → L.Text bs rest → May bs) → (code : Code) (bytes there : List ℕ) → (behind K L).Fault code bytes there → IsPassed Last (behind K L) bytes there
past_both Last K L May Must first second may code bytes there (inl fault) =
    let past = goes_past K bytes there (first.past code bytes there fault) in
    inl record { before = past.before; text = past.text; first = past.first; later = past.later; begins = past.begins; extends = first_extends K L May Must (past.before ++ past.first ∷ []) first.moved may second.some past.extends }
past_both Last K L May Must first second may code bytes there (inr (mid, one, fault)) = by (second.past code mid there fault)
  where
    by : IsPassed Last L mid there → IsPassed Last (behind K L) bytes there
    by (inl past) =
        let moved = first.moved bytes mid one in
        inl record {
          before = moved.front ++ past.before;
          text = moved.text ∙ (ap (λ bs. moved.front ++ bs) past.text ∙ sym (append_assoc moved.front past.before there));
          first = past.first;
          later = past.later;
          begins = past.begins;
          extends = subst (Extends (behind K L)) (sym (append_assoc moved.front past.before (past.first ∷ []))) (second_extends K L May moved.front (past.before ++ past.first ∷ []) moved.each may past.extends);
        }
    by (inr ends) = inr (ends.0, record { none = ends.1.none; rest = ends.1.rest; is = (mid, one, ends.1.is) })

pub moved_both : (K L : Kind) (May Must : List ℕ → Type 0) → ((bs rest : List ℕ) → K.Text bs rest → IsMoved K May bs rest) → ((bs rest : List ℕ) → L.Text bs rest → IsMoved L Must bs rest) → ((bs rest : List ℕ) → L.Text bs rest → May bs) → (bytes mid rest : List ℕ) → K.Text bytes mid → L.Text mid rest → IsMoved (behind K L) Must bytes rest
moved_both K L May Must first second may bytes mid rest one two =
    let a = first bytes mid one in
    let b = second mid rest two in
    record {
      front = a.front ++ b.front;
      text = a.text ∙ (ap (λ bs. a.front ++ bs) b.text ∙ sym (append_assoc a.front b.front rest));
      each = λ other must.
          let l = b.each other must in
          (b.front ++ other, subst (λ bs. K.Text bs (b.front ++ other)) (sym (append_assoc a.front b.front other)) (a.each (b.front ++ other) (may (b.front ++ other) other l)), l);
    }

pub some_both : (K L : Kind) (May Must : List ℕ → Type 0) → HasSome K May → HasSome L Must → ((bs rest : List ℕ) → L.Text bs rest → May bs) → HasSome (behind K L) Must
some_both K L May Must first second may = record {
  front = first.front ++ second.front;
  each = λ other must.
      let l = second.each other must in
      (second.front ++ other, subst (λ bs. K.Text bs (second.front ++ other)) (sym (append_assoc first.front second.front other)) (first.each (second.front ++ other) (may (second.front ++ other) other l)), l);
  follows = second.follows;
  may = second.may;
}

pub both_forms : {Last : Type 0} (K L : Kind) (May Must : List ℕ → Type 0) → Forms ⊥ K May → Forms Last L Must → ((bs rest : List ℕ) → L.Text bs rest → May bs) → Forms Last (behind K L) Must
both_forms {Last} K L May Must first second may = record {
  moved = λ bytes rest text. moved_both K L May Must first.moved second.moved may bytes text.0 rest text.1 text.2;
  some = some_both K L May Must first.some second.some may;
  past = λ code bytes there fault. past_both Last K L May Must first second may code bytes there fault;
  other_codes = λ bytes there fault. either fault (λ k. first.other_codes bytes there k) (λ l. second.other_codes l.0 there l.2);
}

-- The readers.

pub same_fault : {A : Type 0} (o : Outcome A) (p q : ℕ) (c d : Code) → o ≡ Faulty p c → p ≡ q → c ≡ d → o ≡ Faulty q d
same_fault o p q c d is places codes = is ∙ (ap (λ r. Faulty r c) places ∙ ap (Faulty q) codes)

-- the second reader, behind what the first one found
abbrev pub then_read : {A B : Type 0} → Reader A → (ℕ → A → Reader B) → Reader B
then_read r m bytes at = next (r bytes at) (λ x p k. m at x k p)

pub found_both : {A B : Type 0} (Last : Type 0) (K L : Kind) (Of On May Must : List ℕ → Type 0) (r : Reader A) (m : ℕ → A → Reader B) → Tells ⊥ K Of May r → ((at : ℕ) (x : A) → Tells Last L On Must (m at x)) → ((bs mid : List ℕ) → Of bs → K.Text bs mid → On mid)
    → (bytes : List ℕ) (at place : ℕ) (y : B) (rest : List ℕ) → Of bytes → (o : Outcome A) → r bytes at ≡ o → next o (λ x p k. m at x k p) ≡ Found y place rest
    → (behind K L).Text bytes rest × (place + length rest ≡ at + length bytes)
found_both Last K L Of On May Must r m first second on bytes at place y rest of (Faulty p c) is told = absurd (cc)
found_both Last K L Of On May Must r m first second on bytes at place y rest of (Found x p k) is told =
    let one = first.found bytes at p x k of is in
    let so = on bytes k of one in
    ((k, one, (second at x).found k p place y rest so told), (second at x).counted k p place y rest so told ∙ first.counted bytes at p x k of is)

pub right_first : (K L : Kind) (May Must : List ℕ → Type 0) → ((bs rest : List ℕ) → K.Text bs rest → IsMoved K May bs rest) → ((bs rest : List ℕ) → L.Text bs rest → May bs) → HasSome L Must → (bytes : List ℕ) (total place : ℕ) (code : Code) → IsRight K bytes total place code → IsRight (behind K L) bytes total place code
right_first K L May Must moved may some bytes total place code (inl syntax) =
    let to = syntax.1.to in
    inl (syntax.0, record { there = syntax.1.there; to = record { before = to.before; text = to.text; extends = first_extends K L May Must to.before moved may some to.extends }; counted = syntax.1.counted })
right_first K L May Must moved may some bytes total place code (inr stands) = inr record { there = stands.there; is = inl stands.is; counted = stands.counted }

pub right_second : (K L : Kind) (May : List ℕ → Type 0) → ((bs rest : List ℕ) → K.Text bs rest → IsMoved K May bs rest) → ((bs rest : List ℕ) → L.Text bs rest → May bs) → (bytes mid : List ℕ) (total place : ℕ) (code : Code) → K.Text bytes mid → IsRight L mid total place code → IsRight (behind K L) bytes total place code
right_second K L May moves may bytes mid total place code text (inl syntax) =
    let to = syntax.1.to in
    let moved = moves bytes mid text in
    inl (
      syntax.0,
      record {
        there = syntax.1.there;
        to = record {
          before = moved.front ++ to.before;
          text = moved.text ∙ (ap (λ bs. moved.front ++ bs) to.text ∙ sym (append_assoc moved.front to.before syntax.1.there));
          extends = second_extends K L May moved.front to.before moved.each may to.extends;
        };
        counted = syntax.1.counted;
      },
    )
right_second K L May moves may bytes mid total place code text (inr stands) = inr record { there = stands.there; is = inr (mid, text, stands.is); counted = stands.counted }

right_both : {A B : Type 0} (Last : Type 0) (K L : Kind) (Of On May Must : List ℕ → Type 0) (r : Reader A) (m : ℕ → A → Reader B) → Tells ⊥ K Of May r → ((at : ℕ) (x : A) → Tells Last L On Must (m at x)) → Forms Last L Must → ((bs rest : List ℕ) → L.Text bs rest → May bs) → ((bs mid : List ℕ) → Of bs → K.Text bs mid → On mid)
    → (bytes : List ℕ) (at place : ℕ) (code : Code) → Of bytes → (o : Outcome A) → r bytes at ≡ o → next o (λ x p k. m at x k p) ≡ Faulty place code → IsRight (behind K L) bytes (at + length bytes) place code
right_both {A} {B} Last K L Of On May Must r m first second forms may on bytes at place code of (Faulty p c) is told =
    let places : p ≡ place = cc in
    let codes : c ≡ code = cc in
    right_first K L May Must first.forms.moved may forms.some bytes (at + length bytes) place code (first.right bytes at place code of (same_fault (r bytes at) p place c code is places codes))
right_both {A} {B} Last K L Of On May Must r m first second forms may on bytes at place code of (Found x p k) is told =
    let one = first.found bytes at p x k of is in
    subst (λ total. IsRight (behind K L) bytes total place code) (first.counted bytes at p x k of is)
    (right_second K L May first.forms.moved may bytes k (p + length k) place code one ((second at x).right k p place code (on bytes k of one) told))

pub later_early : (Last : Type 0) (place q : ℕ) (rest mid : List ℕ) (total : ℕ) → q + length mid ≡ total → IsEarly Last place rest (q + length mid) → IsEarly Last place rest total
later_early Last place q rest mid total e (inl early) = inl (omega (arith, early, e))
later_early Last place q rest mid total e (inr last) = inr (last.0, omega (arith, last.1, e))

pub texts_both : {A B : Type 0} (Last : Type 0) (K L : Kind) (Of On May Must : List ℕ → Type 0) (r : Reader A) (m : ℕ → A → Reader B) → Tells ⊥ K Of May r → ((at : ℕ) (x : A) → Tells Last L On Must (m at x)) → Forms Last L Must → ((bs mid : List ℕ) → Of bs → K.Text bs mid → On mid)
    → (bytes mid rest : List ℕ) (at : ℕ) → Of bytes → K.Text bytes mid → L.Text mid rest → TextRead Last (then_read r m bytes at) bytes at rest
texts_both {A} {B} Last K L Of On May Must r m first second forms on bytes mid rest at of one two =
    either (first.texts bytes mid at of one)
    (λ finds.
    let counted = first.counted bytes at finds.place finds.value mid of finds.is in
    either ((second at finds.value).texts mid rest finds.place (on bytes mid of one) two)
    (λ again. inl record { value = again.value; place = again.place; is = ap (λ o. next o (λ x p k. m at x k p)) finds.is ∙ again.is })
    (λ stops. inr record { place = stops.place; code = stops.code; is = ap (λ o. next o (λ x p k. m at x k p)) finds.is ∙ stops.is; early = later_early Last stops.place finds.place rest mid (at + length bytes) counted stops.early; other = stops.other }))
    (λ stops. inr record {
      place = stops.place;
      code = stops.code;
      is = ap (λ o. next o (λ x p k. m at x k p)) stops.is;
      early = inl (omega (arith, is_early stops.place mid (at + length bytes) stops.early, shorter L Must mid rest (forms.moved mid rest two)));
      other = stops.other;
    })

pub told_both : {A B : Type 0} (Last : Type 0) (K L : Kind) (Of On May Must : List ℕ → Type 0) (r : Reader A) (m : ℕ → A → Reader B) → Tells ⊥ K Of May r → ((at : ℕ) (x : A) → Tells Last L On Must (m at x)) → Forms Last L Must → ((bs mid : List ℕ) → Of bs → K.Text bs mid → On mid)
    → (code : Code) (bytes there : List ℕ) (at : ℕ) → Of bytes → (behind K L).Fault code bytes there → ToldIt (then_read r m bytes at) bytes at there code
told_both {A} {B} Last K L Of On May Must r m first second forms on code bytes there at of (inl fault) =
    let told = first.told code bytes there at of fault in
    record { place = told.place; told = told.told; is = ap (λ o. next o (λ x p k. m at x k p)) told.is; not_after = told.not_after }
told_both {A} {B} Last K L Of On May Must r m first second forms on code bytes there at of (inr (mid, one, fault)) =
    either (first.texts bytes mid at of one)
    (λ finds.
    let counted = first.counted bytes at finds.place finds.value mid of finds.is in
    let told = (second at finds.value).told code mid there finds.place (on bytes mid of one) fault in
    record {
      place = told.place;
      told = told.told;
      is = ap (λ o. next o (λ x p k. m at x k p)) finds.is ∙ told.is;
      not_after = either told.not_after (λ early. inl (omega (arith, early, counted))) (λ same. inr (same.0 ∙ counted, same.1));
    })
    (λ stops. record {
      place = stops.place;
      told = stops.code;
      is = ap (λ o. next o (λ x p k. m at x k p)) stops.is;
      not_after = inl (omega (arith, is_early stops.place mid (at + length bytes) stops.early, there_shorter Last L mid there (forms.past code mid there fault)));
    })

-- a reader behind another tells the first fault of the one kind behind the other
pub both_tell : {A B : Type 0} {Last : Type 0} (K L : Kind) (Of On May Must : List ℕ → Type 0) (r : Reader A) (m : ℕ → A → Reader B) → Tells ⊥ K Of May r → ((at : ℕ) (x : A) → Tells Last L On Must (m at x)) → Forms Last L Must
    → ((bs rest : List ℕ) → L.Text bs rest → May bs) → ((bs mid : List ℕ) → Of bs → K.Text bs mid → On mid) → Tells Last (behind K L) Of Must (then_read r m)
both_tell {A} {B} {Last} K L Of On May Must r m first second forms may on = record {
  forms = both_forms K L May Must first.forms forms may;
  local = next_local r m first.local (λ at x. (second at x).local);
  found = λ bytes at place y rest of e. (found_both Last K L Of On May Must r m first second on bytes at place y rest of (r bytes at) refl e).0;
  counted = λ bytes at place y rest of e. (found_both Last K L Of On May Must r m first second on bytes at place y rest of (r bytes at) refl e).1;
  right = λ bytes at place code of e. right_both Last K L Of On May Must r m first second forms may on bytes at place code of (r bytes at) refl e;
  texts = λ bytes rest at of text. texts_both Last K L Of On May Must r m first second forms on bytes text.0 rest at of text.1 text.2;
  told = λ code bytes there at of fault. told_both Last K L Of On May Must r m first second forms on code bytes there at of fault;
}
