-- Readers that tell the first fault of a kind of texts.
use Rattle.std.proofs.Common.{◌≡◌, ◌≢◌, ℕ, ◌+◌, ◌≤◌, ◌⊎◌, inl, inr, List, [], ◌∷◌, ◌++◌, length, sym, ◌∙◌, ap, arith, length-append}
use Rattle.spec_certificate_text.specs.Terms.{Code, Syntax}
use Rattle.spec_certificate_text.specs.Outcomes.{Outcome, Found, Faulty, next, Reader}
use Rattle.spec_reading_faults.proofs.Shared.{IsLocal, next_local, found_local}
use Rattle.spec_reading_faults.proofs.Parts.{same_local}
use Rattle.spec_certificate_faults.specs.First.{Kind, code_number}
use Rattle.spec_certificate_faults.proofs.Comes.{either}

abbrev pub Anything : List ℕ → Type 0
Anything other = Unit {0}

-- some text of the kind begins with these bytes, and ends no sooner
pub record Extends (K : Kind) (before : List ℕ) : Type 0 where
  pub other : List ℕ
  pub rest : List ℕ
  pub long : length rest ≤ length other
  pub is : K.Text (before ++ other) rest

-- some text goes on with the bytes up to there
pub record GoesOnTo (K : Kind) (bytes there : List ℕ) : Type 0 where
  pub before : List ℕ
  pub text : bytes ≡ before ++ there
  pub extends : Extends K before

-- and with the byte there
pub record GoesPastIt (K : Kind) (bytes there : List ℕ) : Type 0 where
  pub before : List ℕ
  pub text : bytes ≡ before ++ there
  pub first : ℕ
  pub later : List ℕ
  pub begins : there ≡ first ∷ later
  pub extends : Extends K (before ++ first ∷ [])

-- the bytes are a text, and end there
pub record EndsThere (K : Kind) (bytes there : List ℕ) : Type 0 where
  pub none : there ≡ []
  pub rest : List ℕ
  pub is : K.Text bytes rest

-- Some kinds are the last of all: with their texts all bytes end.

abbrev pub IsLast : Type 0
IsLast = Unit {0}

abbrev pub IsPassed : Type 0 → Kind → List ℕ → List ℕ → Type 0
IsPassed Last K bytes there = GoesPastIt K bytes there ⊎ (Last × EndsThere K bytes there)

-- what is told is of syntax, where some text goes on; or it stands there
pub record SyntaxIn (K : Kind) (bytes : List ℕ) (total place : ℕ) : Type 0 where
  pub there : List ℕ
  pub to : GoesOnTo K bytes there
  pub counted : place + length there ≡ total

pub record StandsIn (K : Kind) (bytes : List ℕ) (total place : ℕ) (code : Code) : Type 0 where
  pub there : List ℕ
  pub is : K.Fault code bytes there
  pub counted : place + length there ≡ total

abbrev pub IsRight : Kind → List ℕ → ℕ → ℕ → Code → Type 0
IsRight K bytes total place code = ((code ≡ Syntax) × SyntaxIn K bytes total place) ⊎ StandsIn K bytes total place code

-- of a text something is found, or a fault is told before its end; of the last of all, at its end at most
pub record FindsIt {A : Type 0} (o : Outcome A) (rest : List ℕ) : Type 0 where
  pub value : A
  pub place : ℕ
  pub is : o ≡ Found value place rest

abbrev pub IsEarly : Type 0 → ℕ → List ℕ → ℕ → Type 0
IsEarly Last place rest total = (place + length rest + 1 ≤ total) ⊎ (Last × (place + length rest ≤ total))

pub record StopsIt {A : Type 0} (Last : Type 0) (o : Outcome A) (bytes : List ℕ) (at : ℕ) (rest : List ℕ) : Type 0 where
  pub place : ℕ
  pub code : Code
  pub is : o ≡ Faulty place code
  pub early : IsEarly Last place rest (at + length bytes)
  pub other : code ≢ Syntax

abbrev pub TextRead : {A : Type 0} → Type 0 → Outcome A → List ℕ → ℕ → List ℕ → Type 0
TextRead Last o bytes at rest = FindsIt o rest ⊎ StopsIt Last o bytes at rest

-- a fault is told that does not stand after one that stands there
pub record ToldIt {A : Type 0} (o : Outcome A) (bytes : List ℕ) (at : ℕ) (there : List ℕ) (code : Code) : Type 0 where
  pub place : ℕ
  pub told : Code
  pub is : o ≡ Faulty place told
  pub not_after : (place + length there + 1 ≤ at + length bytes) ⊎ ((place + length there ≡ at + length bytes) × (code_number told ≤ code_number code))

-- a text before its rest, in place of which any other may stand that may follow
pub record IsMoved (K : Kind) (May : List ℕ → Type 0) (bytes rest : List ℕ) : Type 0 where
  pub front : List ℕ
  pub text : bytes ≡ front ++ rest
  pub each : (other : List ℕ) → May other → K.Text (front ++ other) other

-- some text
pub record HasSome (K : Kind) (May : List ℕ → Type 0) : Type 0 where
  pub front : List ℕ
  pub each : (other : List ℕ) → May other → K.Text (front ++ other) other
  pub follows : List ℕ
  pub may : May follows

-- what is so of a kind, however it is read
pub record Forms (Last : Type 0) (K : Kind) (May : List ℕ → Type 0) : Type 0 where
  pub moved : (bytes rest : List ℕ) → K.Text bytes rest → IsMoved K May bytes rest
  pub some : HasSome K May
  pub past : (code : Code) (bytes there : List ℕ) → K.Fault code bytes there → IsPassed Last K bytes there
  pub other_codes : (bytes there : List ℕ) → K.Fault Syntax bytes there → ⊥

-- the reader tells the first fault of bytes of which this is so
pub record Tells {A : Type 0} (Last : Type 0) (K : Kind) (Of May : List ℕ → Type 0) (r : Reader A) : Type 0 where
  pub forms : Forms Last K May
  pub local : IsLocal r
  pub found : (bytes : List ℕ) (at place : ℕ) (x : A) (rest : List ℕ) → Of bytes → r bytes at ≡ Found x place rest → K.Text bytes rest
  pub counted : (bytes : List ℕ) (at place : ℕ) (x : A) (rest : List ℕ) → Of bytes → r bytes at ≡ Found x place rest → place + length rest ≡ at + length bytes
  pub right : (bytes : List ℕ) (at place : ℕ) (code : Code) → Of bytes → r bytes at ≡ Faulty place code → IsRight K bytes (at + length bytes) place code
  pub texts : (bytes rest : List ℕ) (at : ℕ) → Of bytes → K.Text bytes rest → TextRead Last (r bytes at) bytes at rest
  pub told : (code : Code) (bytes there : List ℕ) (at : ℕ) → Of bytes → K.Fault code bytes there → ToldIt (r bytes at) bytes at there code

pub shorter : (K : Kind) (May : List ℕ → Type 0) (bytes rest : List ℕ) → IsMoved K May bytes rest → length rest ≤ length bytes
shorter K May bytes rest moved = omega (arith, ap length moved.text, length-append moved.front rest)

pub there_shorter : (Last : Type 0) (K : Kind) (bytes there : List ℕ) → IsPassed Last K bytes there → length there ≤ length bytes
there_shorter Last K bytes there (inl past) = omega (arith, ap length past.text, length-append past.before there)
there_shorter Last K bytes there (inr ends) = omega (arith, ap length ends.1.none)

-- where a kind is not the last of all

pub goes_past : (K : Kind) (bytes there : List ℕ) → IsPassed ⊥ K bytes there → GoesPastIt K bytes there
goes_past K bytes there (inl past) = past
goes_past K bytes there (inr ends) = absurd ends.0

pub is_early : (place : ℕ) (rest : List ℕ) (total : ℕ) → IsEarly ⊥ place rest total → place + length rest + 1 ≤ total
is_early place rest total (inl early) = early
is_early place rest total (inr last) = absurd last.0

-- it may stand before the last of all
pub as_before : (Last : Type 0) (K : Kind) (May : List ℕ → Type 0) → Forms ⊥ K May → Forms Last K May
as_before Last K May forms = record { moved = forms.moved; some = forms.some; past = λ code bytes there fault. inl (goes_past K bytes there (forms.past code bytes there fault)); other_codes = forms.other_codes }

-- The same reader of something else, and readers that answer the same.

abbrev pub mapped : {A B : Type 0} → (A → B) → Reader A → Reader B
mapped f r bytes at = next (r bytes at) (λ x p k. Found (f x) p k)

mapped_found : {A B : Type 0} (f : A → B) (o : Outcome A) (y : B) (place : ℕ) (rest : List ℕ) → next o (λ x p k. Found (f x) p k) ≡ Found y place rest → (x : A) × (o ≡ Found x place rest)
mapped_found f (Faulty p c) y place rest e = absurd (cc)
mapped_found f (Found x p k) y place rest e =
    let places : p ≡ place = cc in
    let rests : k ≡ rest = cc in
    (x, ap (λ q. Found x q k) places ∙ ap (Found x place) rests)

mapped_fault : {A B : Type 0} (f : A → B) (o : Outcome A) (place : ℕ) (code : Code) → next o (λ x p k. Found (f x) p k) ≡ Faulty place code → o ≡ Faulty place code
mapped_fault f (Faulty p c) place code e =
    let places : p ≡ place = cc in
    let codes : c ≡ code = cc in
    ap (λ q. Faulty q c) places ∙ ap (Faulty place) codes
mapped_fault f (Found x p k) place code e = absurd (cc)

pub mapped_tells : {A B : Type 0} {Last : Type 0} (K : Kind) (Of May : List ℕ → Type 0) (r : Reader A) (f : A → B) → Tells Last K Of May r → Tells Last K Of May (mapped f r)
mapped_tells {A} {B} K Of May r f tells = record {
  forms = tells.forms;
  local = next_local r (λ at x bytes p. Found (f x) p bytes) tells.local (λ at x. found_local (f x));
  found = λ bytes at place y rest of e. let one = mapped_found f (r bytes at) y place rest e in tells.found bytes at place one.0 rest of one.1;
  counted = λ bytes at place y rest of e. let one = mapped_found f (r bytes at) y place rest e in tells.counted bytes at place one.0 rest of one.1;
  right = λ bytes at place code of e. tells.right bytes at place code of (mapped_fault f (r bytes at) place code e);
  texts = λ bytes rest at of text. either (tells.texts bytes rest at of text)
      (λ finds. inl record { value = f finds.value; place = finds.place; is = ap (λ o. next o (λ x p k. Found (f x) p k)) finds.is })
      (λ stops. inr record { place = stops.place; code = stops.code; is = ap (λ o. next o (λ x p k. Found (f x) p k)) stops.is; early = stops.early; other = stops.other });
  told = λ code bytes there at of fault. let one = tells.told code bytes there at of fault in record { place = one.place; told = one.told; is = ap (λ o. next o (λ x p k. Found (f x) p k)) one.is; not_after = one.not_after };
}

pub same_tells : {A : Type 0} {Last : Type 0} (K : Kind) (Of May : List ℕ → Type 0) (r s : Reader A) → ((bytes : List ℕ) (at : ℕ) → r bytes at ≡ s bytes at) → Tells Last K Of May s → Tells Last K Of May r
same_tells {A} {Last} K Of May r s same tells = record {
  forms = tells.forms;
  local = same_local r s same tells.local;
  found = λ bytes at place x rest of e. tells.found bytes at place x rest of (sym (same bytes at) ∙ e);
  counted = λ bytes at place x rest of e. tells.counted bytes at place x rest of (sym (same bytes at) ∙ e);
  right = λ bytes at place code of e. tells.right bytes at place code of (sym (same bytes at) ∙ e);
  texts = λ bytes rest at of text. either (tells.texts bytes rest at of text)
      (λ finds. inl record { value = finds.value; place = finds.place; is = same bytes at ∙ finds.is })
      (λ stops. inr record { place = stops.place; code = stops.code; is = same bytes at ∙ stops.is; early = stops.early; other = stops.other });
  told = λ code bytes there at of fault. let one = tells.told code bytes there at of fault in record { place = one.place; told = one.told; is = same bytes at ∙ one.is; not_after = one.not_after };
}

-- The same kind in other words.

pub record IsSameKind (K L : Kind) : Type 0 where
  pub text : (bytes rest : List ℕ) → K.Text bytes rest → L.Text bytes rest
  pub text_back : (bytes rest : List ℕ) → L.Text bytes rest → K.Text bytes rest
  pub fault : (code : Code) (bytes there : List ℕ) → K.Fault code bytes there → L.Fault code bytes there
  pub fault_back : (code : Code) (bytes there : List ℕ) → L.Fault code bytes there → K.Fault code bytes there

pub extends_to : (K L : Kind) (before : List ℕ) → ((bytes rest : List ℕ) → K.Text bytes rest → L.Text bytes rest) → Extends K before → Extends L before
extends_to K L before to is = record { other = is.other; rest = is.rest; long = is.long; is = to (before ++ is.other) is.rest is.is }

pub past_to : (Last : Type 0) (K L : Kind) (bytes there : List ℕ) → ((bytes rest : List ℕ) → K.Text bytes rest → L.Text bytes rest) → IsPassed Last K bytes there → IsPassed Last L bytes there
past_to Last K L bytes there to (inl past) = inl record { before = past.before; text = past.text; first = past.first; later = past.later; begins = past.begins; extends = extends_to K L (past.before ++ past.first ∷ []) to past.extends }
past_to Last K L bytes there to (inr ends) = inr (ends.0, record { none = ends.1.none; rest = ends.1.rest; is = to bytes ends.1.rest ends.1.is })

pub moved_to : (K L : Kind) (May : List ℕ → Type 0) (bytes rest : List ℕ) → ((bytes rest : List ℕ) → K.Text bytes rest → L.Text bytes rest) → IsMoved K May bytes rest → IsMoved L May bytes rest
moved_to K L May bytes rest to moved = record { front = moved.front; text = moved.text; each = λ other may. to (moved.front ++ other) other (moved.each other may) }

pub some_to : (K L : Kind) (May : List ℕ → Type 0) → ((bytes rest : List ℕ) → K.Text bytes rest → L.Text bytes rest) → HasSome K May → HasSome L May
some_to K L May to some = record { front = some.front; each = λ other may. to (some.front ++ other) other (some.each other may); follows = some.follows; may = some.may }

pub right_to : (K L : Kind) (bytes : List ℕ) (total place : ℕ) (code : Code) → ((bytes rest : List ℕ) → K.Text bytes rest → L.Text bytes rest) → ((there : List ℕ) → K.Fault code bytes there → L.Fault code bytes there) → IsRight K bytes total place code → IsRight L bytes total place code
right_to K L bytes total place code to fault (inl syntax) =
    let on = syntax.1.to in
    inl (syntax.0, record { there = syntax.1.there; to = record { before = on.before; text = on.text; extends = extends_to K L on.before to on.extends }; counted = syntax.1.counted })
right_to K L bytes total place code to fault (inr stands) = inr record { there = stands.there; is = fault stands.there stands.is; counted = stands.counted }

pub kind_forms : {Last : Type 0} (K L : Kind) (May : List ℕ → Type 0) → IsSameKind K L → Forms Last K May → Forms Last L May
kind_forms {Last} K L May same forms = record {
  moved = λ bytes rest text. moved_to K L May bytes rest same.text (forms.moved bytes rest (same.text_back bytes rest text));
  some = some_to K L May same.text forms.some;
  past = λ code bytes there fault. past_to Last K L bytes there same.text (forms.past code bytes there (same.fault_back code bytes there fault));
  other_codes = λ bytes there fault. forms.other_codes bytes there (same.fault_back Syntax bytes there fault);
}

pub kind_tells : {A : Type 0} {Last : Type 0} (K L : Kind) (Of May : List ℕ → Type 0) (r : Reader A) → IsSameKind K L → Tells Last K Of May r → Tells Last L Of May r
kind_tells {A} {Last} K L Of May r same tells = record {
  forms = kind_forms K L May same tells.forms;
  local = tells.local;
  found = λ bytes at place x rest of e. same.text bytes rest (tells.found bytes at place x rest of e);
  counted = tells.counted;
  right = λ bytes at place code of e. right_to K L bytes (at + length bytes) place code same.text (same.fault code bytes) (tells.right bytes at place code of e);
  texts = λ bytes rest at of text. tells.texts bytes rest at of (same.text_back bytes rest text);
  told = λ code bytes there at of fault. tells.told code bytes there at of (same.fault_back code bytes there fault);
}

-- Of fewer bytes, where less may follow, and before the last of all.

pub tells_last : {A : Type 0} (Last : Type 0) (K : Kind) (Of May : List ℕ → Type 0) (r : Reader A) → Tells ⊥ K Of May r → Tells Last K Of May r
tells_last Last K Of May r tells = record {
  forms = as_before Last K May tells.forms;
  local = tells.local;
  found = tells.found;
  counted = tells.counted;
  right = tells.right;
  texts = λ bytes rest at of text. either (tells.texts bytes rest at of text) (λ finds. inl finds) (λ stops. inr record { place = stops.place; code = stops.code; is = stops.is; early = inl (is_early stops.place rest (at + length bytes) stops.early); other = stops.other });
  told = tells.told;
}

pub tells_of : {A : Type 0} {Last : Type 0} (K : Kind) (Of On May : List ℕ → Type 0) (r : Reader A) → ((bytes : List ℕ) → On bytes → Of bytes) → Tells Last K Of May r → Tells Last K On May r
tells_of K Of On May r fewer tells = record {
  forms = tells.forms;
  local = tells.local;
  found = λ bytes at place x rest of e. tells.found bytes at place x rest (fewer bytes of) e;
  counted = λ bytes at place x rest of e. tells.counted bytes at place x rest (fewer bytes of) e;
  right = λ bytes at place code of e. tells.right bytes at place code (fewer bytes of) e;
  texts = λ bytes rest at of text. tells.texts bytes rest at (fewer bytes of) text;
  told = λ code bytes there at of fault. tells.told code bytes there at (fewer bytes of) fault;
}

pub tells_before : {A : Type 0} {Last : Type 0} (K : Kind) (Of May Must : List ℕ → Type 0) (r : Reader A) (follows : List ℕ) → ((other : List ℕ) → Must other → May other) → Must follows → Tells Last K Of May r → Tells Last K Of Must r
tells_before K Of May Must r follows less must tells = record {
  forms = record {
    moved = λ bytes rest text. let moved = tells.forms.moved bytes rest text in record { front = moved.front; text = moved.text; each = λ other is. moved.each other (less other is) };
    some = record { front = tells.forms.some.front; each = λ other is. tells.forms.some.each other (less other is); follows = follows; may = must };
    past = tells.forms.past;
    other_codes = tells.forms.other_codes;
  };
  local = tells.local;
  found = tells.found;
  counted = tells.counted;
  right = tells.right;
  texts = tells.texts;
  told = tells.told;
}

-- of no bytes
pub never_tells : {A : Type 0} {Last : Type 0} (K : Kind) (Of May : List ℕ → Type 0) (r : Reader A) → Forms Last K May → IsLocal r → ((bytes : List ℕ) → Of bytes → ⊥) → Tells Last K Of May r
never_tells K Of May r forms local never = record {
  forms = forms;
  local = local;
  found = λ bytes at place x rest of e. absurd (never bytes of);
  counted = λ bytes at place x rest of e. absurd (never bytes of);
  right = λ bytes at place code of e. absurd (never bytes of);
  texts = λ bytes rest at of text. absurd (never bytes of);
  told = λ code bytes there at of fault. absurd (never bytes of);
}

-- a reader that looks at the number of the bytes
pub each_length_tells : {A : Type 0} {Last : Type 0} (K : Kind) (May : List ℕ → Type 0) (r : ℕ → Reader A) → IsLocal (λ bytes at. r (length bytes) bytes at) → ((most : ℕ) → Tells Last K (λ bytes. length bytes ≤ most) May (r most)) → Tells Last K Anything May (λ bytes at. r (length bytes) bytes at)
each_length_tells K May r local each = record {
  forms = (each 0).forms;
  local = local;
  found = λ bytes at place x rest of e. (each (length bytes)).found bytes at place x rest (omega arith) e;
  counted = λ bytes at place x rest of e. (each (length bytes)).counted bytes at place x rest (omega arith) e;
  right = λ bytes at place code of e. (each (length bytes)).right bytes at place code (omega arith) e;
  texts = λ bytes rest at of text. (each (length bytes)).texts bytes rest at (omega arith) text;
  told = λ code bytes there at of fault. (each (length bytes)).told code bytes there at (omega arith) fault;
}
