-- One kind behind another, where not all that may be a text of the second may stand behind one of the first: what stands behind a text of the first may change where its first byte stays.
use Rattle.std.proofs.Common.{◌≡◌, ℕ, ◌+◌, inl, inr, Bool, List, [], ◌∷◌, ◌++◌, length, refl, sym, ◌∙◌, ap, subst, arith, append_assoc}
use Rattle.spec_certificate_text.specs.Terms.{Code}
use Rattle.spec_certificate_text.specs.Outcomes.{Outcome, Found, Faulty, next, Reader}
use Rattle.spec_reading_faults.proofs.Shared.{next_local}
use Rattle.spec_certificate_faults.specs.Grammar.{EndsAt}
use Rattle.spec_certificate_faults.specs.First.{Kind}
use Rattle.spec_certificate_faults.proofs.Comes.{either}
use Rattle.spec_first_faults.specs.Kinds.{fixed, runs, nothing_before, behind, one_of}
use Rattle.spec_first_faults.proofs.Tells.{Extends, GoesOnTo, GoesPastIt, IsRight, IsMoved, Forms, Tells, goes_past, extends_to, moved_to}
use Rattle.spec_first_faults.proofs.Behind.{first_extends, same_fault, then_read, found_both, texts_both, told_both}
use Rattle.spec_first_faults.proofs.Small.{nothing_forms}

-- some bytes stand there, and others that begin with the same
abbrev pub SameFirst : List ℕ → List ℕ → Type 0
SameFirst [] others = ⊥
SameFirst (b ∷ bytes) [] = ⊥
SameFirst (b ∷ bytes) (c ∷ others) = b ≡ c

ends_same : (passes : ℕ → Bool) (rest other : List ℕ) → SameFirst rest other → EndsAt passes rest → EndsAt passes other
ends_same passes [] other same ends = absurd ends
ends_same passes (b ∷ rest) [] same ends = absurd same
ends_same passes (b ∷ rest) (c ∷ other) same ends = ap passes (sym same) ∙ ends

same_behind : (front rest other : List ℕ) → SameFirst rest other → SameFirst (front ++ rest) (front ++ other)
same_behind [] rest other same = same
same_behind (b ∷ front) rest other same = refl

abbrev pub IsSteady : Kind → Type 0
IsSteady K = (bytes rest : List ℕ) → K.Text bytes rest → IsMoved K (SameFirst rest) bytes rest

pub fixed_steady : (w : List ℕ) → IsSteady (fixed w)
fixed_steady w bytes rest text = record { front = w; text = text; each = λ other same. refl }

pub runs_steady : (begins passes : ℕ → Bool) → IsSteady (runs begins passes)
runs_steady begins passes bytes rest text = record {
  front = text.run;
  text = text.text;
  each = λ other same. record { run = text.run; some = text.some; begin = text.begin; all = text.all; ends = ends_same passes rest other same text.ends; text = refl };
}

pub nothing_steady : (passes : ℕ → Bool) → IsSteady (nothing_before (EndsAt passes))
nothing_steady passes bytes rest text = record { front = []; text = text.0; each = λ other same. (refl, ends_same passes rest other same text.1) }

pub behind_steady : (K L : Kind) → IsSteady K → IsSteady L → IsSteady (behind K L)
behind_steady K L first second bytes rest (mid, one, two) =
    let a = first bytes mid one in
    let b = second mid rest two in
    record {
      front = a.front ++ b.front;
      text = a.text ∙ (ap (λ bs. a.front ++ bs) b.text ∙ sym (append_assoc a.front b.front rest));
      each = λ other same.
          let later = b.front ++ other in
          let as_mid : SameFirst mid later = subst (λ bs. SameFirst bs later) (sym b.text) (same_behind b.front rest other same) in
          (later, subst (λ bs. K.Text bs later) (sym (append_assoc a.front b.front other)) (a.each later as_mid), b.each other same);
    }

pub one_of_steady : (K L : Kind) → IsSteady K → IsSteady L → IsSteady (one_of K L)
one_of_steady K L first second bytes rest text =
    either text
    (λ k. moved_to K (one_of K L) (SameFirst rest) bytes rest (λ bs r t. inl t) (first bytes rest k))
    (λ l. moved_to L (one_of K L) (SameFirst rest) bytes rest (λ bs r t. inr t) (second bytes rest l))

-- The second kind may be nothing, where what follows may stand behind the first.

module _ (K L : Kind) (May Must : List ℕ → Type 0) (first_forms : Forms ⊥ K May) (forms : Forms ⊥ L Must) (steady : IsSteady K) (less : (other : List ℕ) → Must other → May other) (nothing : (other : List ℕ) → Must other → L.Text other other) where
  abbrev follows : List ℕ
  follows = forms.some.follows

  abbrev none_behind : Kind
  none_behind = nothing_before Must

  with_none : (bytes rest : List ℕ) → (behind K none_behind).Text bytes rest → (behind K L).Text bytes rest
  with_none bytes rest (mid, one, (same, must)) = (mid, one, subst (λ l. L.Text l rest) (sym same) (nothing rest must))

  none_forms : Forms ⊥ none_behind Must
  none_forms = nothing_forms Must follows forms.some.may

  -- a text of the first that begins with these bytes, and so one of both
  first_goes : (before : List ℕ) → Extends K before → Extends (behind K L) before
  first_goes before to =
      extends_to (behind K none_behind) (behind K L) before with_none
      (first_extends K none_behind May Must before first_forms.moved (λ bs rest text. subst May (sym text.0) (less rest text.1)) none_forms.some to)

  -- behind a text of the first a text of the second that begins with these bytes, of which there is one at least
  second_goes : (bytes mid : List ℕ) → (text : K.Text bytes mid) → (before : List ℕ) (b : ℕ) (later more : List ℕ) → mid ≡ b ∷ later → before ≡ b ∷ more → Extends L before → Extends (behind K L) ((steady bytes mid text).front ++ before)
  second_goes bytes mid text before b later more is begins to =
      let moved = steady bytes mid text in
      let second = before ++ to.other in
      let same : SameFirst mid second = subst (λ l. SameFirst l second) (sym is) (subst (λ l. SameFirst (b ∷ later) (l ++ to.other)) (sym begins) refl) in
      record {
        other = to.other;
        rest = to.rest;
        long = to.long;
        is = (second, subst (λ bs. K.Text bs second) (sym (append_assoc moved.front before to.other)) (moved.each second same), to.is);
      }

  past_behind : (bytes mid there : List ℕ) → K.Text bytes mid → GoesPastIt L mid there → GoesPastIt (behind K L) bytes there
  past_behind bytes mid there text past =
      let moved = steady bytes mid text in
      record {
        before = moved.front ++ past.before;
        text = moved.text ∙ (ap (λ bs. moved.front ++ bs) past.text ∙ sym (append_assoc moved.front past.before there));
        first = past.first;
        later = past.later;
        begins = past.begins;
        extends = subst (Extends (behind K L)) (sym (append_assoc moved.front past.before (past.first ∷ []))) (by past.before past.text past.extends);
      }
    where
      by : (before : List ℕ) → mid ≡ before ++ there → Extends L (before ++ past.first ∷ []) → Extends (behind K L) ((steady bytes mid text).front ++ (before ++ past.first ∷ []))
      by [] is to = second_goes bytes mid text (past.first ∷ []) past.first past.later [] (is ∙ past.begins) refl to
      by (b ∷ before) is to = second_goes bytes mid text (b ∷ (before ++ past.first ∷ [])) b (before ++ there) (before ++ past.first ∷ []) is refl to

  goes_behind : (bytes mid there : List ℕ) → K.Text bytes mid → GoesOnTo L mid there → GoesOnTo (behind K L) bytes there
  goes_behind bytes mid there text on = by on.before on.text on.extends
    where
      by : (before : List ℕ) → mid ≡ before ++ there → Extends L before → GoesOnTo (behind K L) bytes there
      by [] is to =
          let moved = first_forms.moved bytes mid text in
          let after = follows in
          let must = forms.some.may in
          record {
            before = moved.front;
            text = moved.text ∙ ap (λ bs. moved.front ++ bs) is;
            extends = record { other = after; rest = after; long = omega arith; is = (after, moved.each after (less after must), nothing after must) };
          }
      by (b ∷ before) is to =
          let moved = steady bytes mid text in
          record {
            before = moved.front ++ (b ∷ before);
            text = moved.text ∙ (ap (λ bs. moved.front ++ bs) is ∙ sym (append_assoc moved.front (b ∷ before) there));
            extends = second_goes bytes mid text (b ∷ before) b (before ++ there) before is refl to;
          }

  both_moved : (bytes mid rest : List ℕ) → K.Text bytes mid → IsMoved L Must mid rest → IsMoved (behind K L) Must bytes rest
  both_moved bytes mid rest text behind_it = by behind_it.front behind_it.text behind_it.each
    where
      by : (front : List ℕ) → mid ≡ front ++ rest → ((other : List ℕ) → Must other → L.Text (front ++ other) other) → IsMoved (behind K L) Must bytes rest
      by [] is each =
          let moved = first_forms.moved bytes mid text in
          record { front = moved.front; text = moved.text ∙ ap (λ bs. moved.front ++ bs) is; each = λ other must. (other, moved.each other (less other must), each other must) }
      by (b ∷ front) is each =
          let moved = steady bytes mid text in
          record {
            front = moved.front ++ (b ∷ front);
            text = moved.text ∙ (ap (λ bs. moved.front ++ bs) is ∙ sym (append_assoc moved.front (b ∷ front) rest));
            each = λ other must.
                let later = b ∷ (front ++ other) in
                let same : SameFirst mid later = subst (λ l. SameFirst l later) (sym is) refl in
                (later, subst (λ bs. K.Text bs later) (sym (append_assoc moved.front (b ∷ front) other)) (moved.each later same), each other must);
          }

  pub steady_forms : Forms ⊥ (behind K L) Must
  steady_forms = record {
    moved = λ bytes rest text. both_moved bytes text.0 rest text.1 (forms.moved text.0 rest text.2);
    some = record { front = first_forms.some.front; each = λ other must. (other, first_forms.some.each other (less other must), nothing other must); follows = follows; may = forms.some.may };
    past = λ code bytes there fault. inl (by code bytes there fault);
    other_codes = λ bytes there fault. either fault (λ k. first_forms.other_codes bytes there k) (λ l. forms.other_codes l.0 there l.2);
  }
    where
      by : (code : Code) (bytes there : List ℕ) → (behind K L).Fault code bytes there → GoesPastIt (behind K L) bytes there
      by code bytes there (inl fault) =
          let past = goes_past K bytes there (first_forms.past code bytes there fault) in
          record { before = past.before; text = past.text; first = past.first; later = past.later; begins = past.begins; extends = first_goes (past.before ++ past.first ∷ []) past.extends }
      by code bytes there (inr (mid, one, fault)) = past_behind bytes mid there one (goes_past L mid there (forms.past code mid there fault))

  right_behind : (bytes mid : List ℕ) (total place : ℕ) (code : Code) → K.Text bytes mid → IsRight L mid total place code → IsRight (behind K L) bytes total place code
  right_behind bytes mid total place code text (inl syntax) = inl (syntax.0, record { there = syntax.1.there; to = goes_behind bytes mid syntax.1.there text syntax.1.to; counted = syntax.1.counted })
  right_behind bytes mid total place code text (inr stands) = inr record { there = stands.there; is = inr (mid, text, stands.is); counted = stands.counted }

  right_before : (bytes : List ℕ) (total place : ℕ) (code : Code) → IsRight K bytes total place code → IsRight (behind K L) bytes total place code
  right_before bytes total place code (inl syntax) =
      let to = syntax.1.to in
      inl (syntax.0, record { there = syntax.1.there; to = record { before = to.before; text = to.text; extends = first_goes to.before to.extends }; counted = syntax.1.counted })
  right_before bytes total place code (inr stands) = inr record { there = stands.there; is = inl stands.is; counted = stands.counted }

  -- a reader behind another tells the first fault of the one kind behind the other
  pub steady_tells : {A B : Type 0} (Of On : List ℕ → Type 0) (r : Reader A) (m : ℕ → A → Reader B) → Tells ⊥ K Of May r → ((at : ℕ) (x : A) → Tells ⊥ L On Must (m at x)) → ((bs mid : List ℕ) → Of bs → K.Text bs mid → On mid) → Tells ⊥ (behind K L) Of Must (then_read r m)
  steady_tells {A} {B} Of On r m first second on = record {
    forms = steady_forms;
    local = next_local r m first.local (λ at x. (second at x).local);
    found = λ bytes at place y rest of e. (found_both ⊥ K L Of On May Must r m first second on bytes at place y rest of (r bytes at) refl e).0;
    counted = λ bytes at place y rest of e. (found_both ⊥ K L Of On May Must r m first second on bytes at place y rest of (r bytes at) refl e).1;
    right = λ bytes at place code of e. right_by bytes at place code of (r bytes at) refl e;
    texts = λ bytes rest at of text. texts_both ⊥ K L Of On May Must r m first second forms on bytes text.0 rest at of text.1 text.2;
    told = λ code bytes there at of fault. told_both ⊥ K L Of On May Must r m first second forms on code bytes there at of fault;
  }
    where
      right_by : (bytes : List ℕ) (at place : ℕ) (code : Code) → Of bytes → (o : Outcome A) → r bytes at ≡ o → next o (λ x p k. m at x k p) ≡ Faulty place code → IsRight (behind K L) bytes (at + length bytes) place code
      right_by bytes at place code of (Faulty p c) is told =
          let places : p ≡ place = cc in
          let codes : c ≡ code = cc in
          right_before bytes (at + length bytes) place code (first.right bytes at place code of (same_fault (r bytes at) p place c code is places codes))
      right_by bytes at place code of (Found x p k) is told =
          let one = first.found bytes at p x k of is in
          subst (λ total. IsRight (behind K L) bytes total place code) (first.counted bytes at p x k of is) (right_behind bytes k (p + length k) place code one ((second at x).right k p place code (on bytes k of one) told))
