-- So many of one kind and one of another behind them, as lines are: readers of them tell the first fault.
use Rattle.std.proofs.Common.{◌≡◌, ℕ, zero, suc, ◌+◌, ◌≤◌, ◌==◌, ◌⊎◌, inl, inr, if◌then◌else◌, Bool, true, false, List, [], ◌∷◌, ◌++◌, length, refl, sym, ◌∙◌, ap, subst, arith, append_assoc}
use Rattle.spec_certificate_text.specs.Terms.{Code, Syntax, Count}
use Rattle.spec_certificate_text.specs.Outcomes.{Outcome, Found, Faulty, next, Reader, front, lines_from}
use Rattle.spec_certificate_text.proofs.Parts.{equal_byte, same_byte}
use Rattle.spec_certificate_text.proofs.Things.{lines_full}
use Rattle.spec_reading_faults.proofs.Shared.{IsLocal, Moves, next_local, choice_local}
use Rattle.spec_reading_faults.proofs.Parts.{lines_more, all_lines_local}
use Rattle.spec_certificate_faults.specs.First.{Kind, code_number}
use Rattle.spec_certificate_faults.proofs.Comes.{either}
use Rattle.spec_first_faults.specs.Kinds.{behind, one_of, TextOfMany, last, further, FaultAmong, in_last, in_one, later, many, IsOneTooMany, at_most}
use Rattle.spec_first_faults.proofs.Tells.{Anything, Extends, IsPassed, IsMoved, Forms, Tells, IsSameKind, shorter, goes_past, there_shorter, extends_to, past_to, moved_to, some_to, same_tells, kind_tells, tells_of, never_tells, each_length_tells}
use Rattle.spec_first_faults.proofs.Behind.{first_extends, second_extends, then_read, both_forms, both_tell}
use Rattle.spec_first_faults.proofs.OneOf.{chosen, IsToldBy, one_of_tells}

-- One of the first kind and many behind it, or one of the other.

many_text : (K L : Kind) (bytes rest : List ℕ) → (one_of (behind K (many K L)) L).Text bytes rest → TextOfMany K L bytes rest
many_text K L bytes rest (inl (mid, one, more)) = further mid one more
many_text K L bytes rest (inr one) = last one

many_text-back : (K L : Kind) (bytes rest : List ℕ) → TextOfMany K L bytes rest → (one_of (behind K (many K L)) L).Text bytes rest
many_text-back K L bytes rest (last one) = inr one
many_text-back K L bytes rest (further mid one more) = inl (mid, one, more)

many_fault : (K L : Kind) (code : Code) (bytes there : List ℕ) → (one_of (behind K (many K L)) L).Fault code bytes there → FaultAmong K L code bytes there
many_fault K L code bytes there (inl (inl fault)) = in_one fault
many_fault K L code bytes there (inl (inr (mid, one, fault))) = later mid one fault
many_fault K L code bytes there (inr fault) = in_last fault

many_fault-back : (K L : Kind) (code : Code) (bytes there : List ℕ) → FaultAmong K L code bytes there → (one_of (behind K (many K L)) L).Fault code bytes there
many_fault-back K L code bytes there (in_one fault) = inl (inl fault)
many_fault-back K L code bytes there (later mid one fault) = inl (inr (mid, one, fault))
many_fault-back K L code bytes there (in_last fault) = inr fault

pub many_is : (K L : Kind) → IsSameKind (one_of (behind K (many K L)) L) (many K L)
many_is K L = record { text = many_text K L; text_back = many_text-back K L; fault = many_fault K L; fault_back = many_fault-back K L }

-- The kind.

many_moved : (K L : Kind) (May Must : List ℕ → Type 0) → Forms ⊥ K May → Forms ⊥ L Must → ((bytes rest : List ℕ) → TextOfMany K L bytes rest → May bytes) → (bytes rest : List ℕ) → TextOfMany K L bytes rest → IsMoved (many K L) Must bytes rest
many_moved K L May Must first second may bytes rest (last one) = moved_to L (many K L) Must bytes rest (λ bs r t. last t) (second.moved bytes rest one)
many_moved K L May Must first second may bytes rest (further mid one more) =
    let a = first.moved bytes mid one in
    let b = many_moved K L May Must first second may mid rest more in
    record {
      front = a.front ++ b.front;
      text = a.text ∙ (ap (λ bs. a.front ++ bs) b.text ∙ sym (append_assoc a.front b.front rest));
      each = λ other must.
          let l = b.each other must in
          further (b.front ++ other) (subst (λ bs. K.Text bs (b.front ++ other)) (sym (append_assoc a.front b.front other)) (a.each (b.front ++ other) (may (b.front ++ other) other l))) l;
    }

many_past : (K L : Kind) (May Must : List ℕ → Type 0) → Forms ⊥ K May → Forms ⊥ L Must → ((bytes rest : List ℕ) → TextOfMany K L bytes rest → May bytes) → (code : Code) (bytes there : List ℕ) → FaultAmong K L code bytes there → IsPassed ⊥ (many K L) bytes there
many_past K L May Must first second may code bytes there (in_last fault) = past_to ⊥ L (many K L) bytes there (λ bs r t. last t) (second.past code bytes there fault)
many_past K L May Must first second may code bytes there (in_one fault) =
    let past = goes_past K bytes there (first.past code bytes there fault) in
    let some = some_to L (many K L) Must (λ bs r t. last t) second.some in
    inl record {
      before = past.before;
      text = past.text;
      first = past.first;
      later = past.later;
      begins = past.begins;
      extends = extends_to (behind K (many K L)) (many K L) (past.before ++ past.first ∷ []) (λ bs r t. further t.0 t.1 t.2) (first_extends K (many K L) May Must (past.before ++ past.first ∷ []) first.moved may some past.extends);
    }
many_past K L May Must first second may code bytes there (later mid one fault) =
    let past = goes_past (many K L) mid there (many_past K L May Must first second may code mid there fault) in
    let moved = first.moved bytes mid one in
    inl record {
      before = moved.front ++ past.before;
      text = moved.text ∙ (ap (λ bs. moved.front ++ bs) past.text ∙ sym (append_assoc moved.front past.before there));
      first = past.first;
      later = past.later;
      begins = past.begins;
      extends = subst (Extends (many K L)) (sym (append_assoc moved.front past.before (past.first ∷ [])))
          (extends_to (behind K (many K L)) (many K L) (moved.front ++ (past.before ++ past.first ∷ [])) (λ bs r t. further t.0 t.1 t.2) (second_extends K (many K L) May moved.front (past.before ++ past.first ∷ []) moved.each may past.extends));
    }

many_other : (K L : Kind) (May Must : List ℕ → Type 0) → Forms ⊥ K May → Forms ⊥ L Must → (bytes there : List ℕ) → FaultAmong K L Syntax bytes there → ⊥
many_other K L May Must first second bytes there (in_last fault) = second.other_codes bytes there fault
many_other K L May Must first second bytes there (in_one fault) = first.other_codes bytes there fault
many_other K L May Must first second bytes there (later mid one fault) = many_other K L May Must first second mid there fault

-- what may stand behind one of the first kind: another, or one of the other kind
pub record MayFollow (K L : Kind) (May : List ℕ → Type 0) : Type 0 where
  pub one : (bytes rest : List ℕ) → K.Text bytes rest → May bytes
  pub other : (bytes rest : List ℕ) → L.Text bytes rest → May bytes

pub many_may : (K L : Kind) (May : List ℕ → Type 0) → MayFollow K L May → (bytes rest : List ℕ) → TextOfMany K L bytes rest → May bytes
many_may K L May follow bytes rest (last one) = follow.other bytes rest one
many_may K L May follow bytes rest (further mid one more) = follow.one bytes mid one

pub many_forms : (K L : Kind) (May Must : List ℕ → Type 0) → Forms ⊥ K May → Forms ⊥ L Must → MayFollow K L May → Forms ⊥ (many K L) Must
many_forms K L May Must first second follow = record {
  moved = λ bytes rest text. many_moved K L May Must first second (many_may K L May follow) bytes rest text;
  some = some_to L (many K L) Must (λ bs r t. last t) second.some;
  past = λ code bytes there fault. many_past K L May Must first second (many_may K L May follow) code bytes there fault;
  other_codes = λ bytes there fault. many_other K L May Must first second bytes there fault;
}

-- Lines that begin with a letter, and what stands behind them.

-- what lines are: each begins with the letter, what stands behind them doesn't, and within a line faults stand behind its beginning
pub record AreLines (K L : Kind) (letter : ℕ) : Type 0 where
  pub begins : IsToldBy K (λ bytes. front bytes == letter) true
  pub ends : IsToldBy L (λ bytes. front bytes == letter) false
  pub letter_is : (0 == letter) ≡ false
  pub long : (bytes rest : List ℕ) → K.Text bytes rest → length rest + 1 ≤ length bytes
  pub within : (code : Code) (bytes there : List ℕ) → K.Fault code bytes there → length there + 1 ≤ length bytes

-- lines, at most so many, and what is read behind them
abbrev pub lines_then : {A B : Type 0} → ℕ → Reader A → ℕ → List A → (List A → Reader B) → Reader B
lines_then letter one most xs m = then_read (lines_from letter one most xs) (λ at ys. m ys)

pub next_both : {A B : Type 0} (t : Bool) (o q : Outcome A) (f : A → ℕ → List ℕ → Outcome B) → next (if t then o else q) f ≡ (if t then next o f else next q f)
next_both true o q f = refl
next_both false o q f = refl

pub next_twice : {A B C : Type 0} (o : Outcome A) (f : A → ℕ → List ℕ → Outcome B) (g : B → ℕ → List ℕ → Outcome C) → next (next o f) g ≡ next o (λ x p k. next (f x p k) g)
next_twice (Faulty p c) f g = refl
next_twice (Found x p k) f g = refl

one_line : {A B : Type 0} (letter : ℕ) (one : Reader A) (most : ℕ) (xs : List A) (m : List A → Reader B) (bytes : List ℕ) (at : ℕ)
    → lines_then letter one (suc most) xs m bytes at ≡ chosen (λ bs. front bs == letter) (then_read one (λ at x. lines_then letter one most (xs ++ x ∷ []) m)) (m xs) bytes at
one_line {A} {B} letter one most xs m bytes at =
    let read = λ (ys : List A) (p : ℕ) (k : List ℕ). m ys k p in
    let more = λ (x : A) (p : ℕ) (k : List ℕ). lines_from letter one most (xs ++ x ∷ []) k p in
    ap (λ o. next o read) (lines_more letter one most xs bytes at)
    ∙ (next_both (front bytes == letter) (next (one bytes at) more) (Found xs at bytes) read
    ∙ ap (λ o. if front bytes == letter then o else m xs bytes at) (next_twice (one bytes at) more read))

no_line : {A B : Type 0} (letter : ℕ) (one : Reader A) (xs : List A) (m : List A → Reader B) (bytes : List ℕ) (at : ℕ)
    → lines_then letter one 0 xs m bytes at ≡ chosen (λ bs. front bs == letter) (λ bs p. Faulty p Count) (m xs) bytes at
no_line letter one xs m bytes at = ap (λ o. next o (λ ys p k. m ys k p)) (lines_full letter one xs bytes at) ∙ next_both (front bytes == letter) (Faulty at Count) (Found xs at bytes) (λ ys p k. m ys k p)

pub count_local : {A : Type 0} → IsLocal {A = A} (λ bytes at. Faulty at Count)
count_local = record {
  fault = λ bytes others at n place shares there e. absurd (cc);
  found = λ bytes others at n place x rest shares there e. absurd (cc);
  passed = λ bytes at place x rest e. absurd (cc);
  later = λ bytes at place e. absurd (cc);
}

-- one line more than the kind that the others are of
line_tells : {A B : Type 0} (K L N : Kind) (On Of May Must : List ℕ → Type 0) (letter : ℕ) (one : Reader A) (most : ℕ) (xs : List A) (m : List A → Reader B) → Tells ⊥ K Anything May one → AreLines K L letter → IsToldBy (behind K N) (λ bytes. front bytes == letter) true
    → ((ys : List A) → Tells ⊥ L Anything Must (m ys)) → ((x : A) → Tells ⊥ N On Must (lines_then letter one most (xs ++ x ∷ []) m)) → Forms ⊥ N Must → ((bytes rest : List ℕ) → N.Text bytes rest → May bytes) → ((bs mid : List ℕ) → Of bs → K.Text bs mid → On mid)
    → Tells ⊥ (one_of (behind K N) L) Of Must (lines_then letter one (suc most) xs m)
line_tells {A} {B} K L N On Of May Must letter one most xs m first lines told behind_lines again forms may on =
    let test = λ (bs : List ℕ). front bs == letter in
    let further = then_read one (λ at x. lines_then letter one most (xs ++ x ∷ []) m) in
    let local = next_local one (λ at x. lines_then letter one most (xs ++ x ∷ []) m) first.local (λ at x. (again x).local) in
    same_tells (one_of (behind K N) L) Of Must (lines_then letter one (suc most) xs m) (chosen test further (m xs)) (one_line letter one most xs m)
    (one_of_tells (behind K N) L Of Must test further (m xs)
    (both_tell K N (λ bs. Of bs × (test bs ≡ true)) On May Must one (λ at x. lines_then letter one most (xs ++ x ∷ []) m) (tells_of K Anything (λ bs. Of bs × (test bs ≡ true)) May one (λ bs of. tt) first) (λ at x. again x) forms may (λ bs mid of text. on bs mid of.0 text))
    (tells_of L Anything (λ bs. Of bs × (test bs ≡ false)) Must (m xs) (λ bs of. tt) (behind_lines xs))
    told lines.ends (choice_local (λ b. b == letter) further (m xs) local (behind_lines xs).local))

pub behind_told : (K N : Kind) (test : List ℕ → Bool) (is : Bool) → IsToldBy K test is → IsToldBy (behind K N) test is
behind_told K N test is told = record {
  texts = λ bytes rest text. told.texts bytes text.0 text.1;
  faults = λ code bytes there fault. either fault (λ k. told.faults code bytes there k) (λ l. told.texts bytes l.0 l.1);
}

-- as many lines as there are
lines_tell-within : {A B : Type 0} (K L : Kind) (May Must : List ℕ → Type 0) (letter : ℕ) (one : Reader A) (m : List A → Reader B) → Tells ⊥ K Anything May one → AreLines K L letter → MayFollow K L May → ((ys : List A) → Tells ⊥ L Anything Must (m ys))
    → (most : ℕ) (xs : List A) → Tells ⊥ (many K L) (λ bytes. length bytes ≤ most) Must (lines_then letter one most xs m)
lines_tell-within {A} {B} K L May Must letter one m first lines follow behind_lines zero xs =
    let test = λ (bs : List ℕ). front bs == letter in
    let of = λ (bs : List ℕ). length bs ≤ 0 in
    let forms = many_forms K L May Must first.forms (behind_lines xs).forms follow in
    let none : (bs : List ℕ) → (length bs ≤ 0) × ((front bs == letter) ≡ true) → ⊥ = λ bs both. no_byte bs both.0 both.1 in
    kind_tells (one_of (behind K (many K L)) L) (many K L) (λ bs. length bs ≤ 0) Must (lines_then letter one 0 xs m) (many_is K L)
    (same_tells (one_of (behind K (many K L)) L) (λ bs. length bs ≤ 0) Must (lines_then letter one 0 xs m) (chosen test (λ bs p. Faulty p Count) (m xs)) (no_line letter one xs m)
    (one_of_tells (behind K (many K L)) L (λ bs. length bs ≤ 0) Must test (λ bs p. Faulty p Count) (m xs)
    (never_tells (behind K (many K L)) (λ bs. (length bs ≤ 0) × (test bs ≡ true)) Must (λ bs p. Faulty p Count) (both_forms K (many K L) May Must first.forms forms (many_may K L May follow)) count_local none)
    (tells_of L Anything (λ bs. (length bs ≤ 0) × (test bs ≡ false)) Must (m xs) (λ bs of. tt) (behind_lines xs))
    (behind_told K (many K L) test true lines.begins) lines.ends (choice_local (λ b. b == letter) (λ bs p. Faulty p Count) (m xs) count_local (behind_lines xs).local)))
  where
    no_byte : (bs : List ℕ) → length bs ≤ 0 → (front bs == letter) ≡ true → ⊥
    no_byte [] few is = absurd (let never : false ≡ true = sym lines.letter_is ∙ is in cc)
    no_byte (b ∷ bs) few is = absurd (omega (arith, few))
lines_tell-within {A} {B} K L May Must letter one m first lines follow behind_lines (suc most) xs =
    kind_tells (one_of (behind K (many K L)) L) (many K L) (λ bs. length bs ≤ suc most) Must (lines_then letter one (suc most) xs m) (many_is K L)
    (line_tells K L (many K L) (λ bs. length bs ≤ most) (λ bs. length bs ≤ suc most) May Must letter one most xs m first lines (behind_told K (many K L) (λ bs. front bs == letter) true lines.begins) behind_lines
    (λ x. lines_tell-within K L May Must letter one m first lines follow behind_lines most (xs ++ x ∷ []))
    (many_forms K L May Must first.forms (behind_lines xs).forms follow) (many_may K L May follow) (λ bs mid of text. omega (arith, lines.long bs mid text, of)))

pub lines_tell : {A B : Type 0} (K L : Kind) (May Must : List ℕ → Type 0) (letter : ℕ) (one : Reader A) (m : List A → Reader B) → Tells ⊥ K Anything May one → Moves one → AreLines K L letter → MayFollow K L May → ((ys : List A) → Tells ⊥ L Anything Must (m ys))
    → Tells ⊥ (many K L) Anything Must (then_read (λ bytes at. lines_from letter one (length bytes) [] bytes at) (λ at ys. m ys))
lines_tell {A} {B} K L May Must letter one m first moves lines follow behind_lines =
    each_length_tells (many K L) Must (λ most. lines_then letter one most [] m)
    (next_local (λ bytes at. lines_from letter one (length bytes) [] bytes at) (λ at ys. m ys) (all_lines_local letter one lines.letter_is first.local moves) (λ at ys. (behind_lines ys).local))
    (λ most. lines_tell-within K L May Must letter one m first lines follow behind_lines most [])

-- so many lines at most: another begins where one is too many

abbrev over : Kind → Kind → ℕ → Kind
over K L letter = record {
  Text = (behind K (many K L)).Text;
  Fault = λ code bytes there. (behind K (many K L)).Fault code bytes there ⊎ ((code ≡ Count) × ((there ≡ bytes) × (front there ≡ letter)));
}

over_long : (K L : Kind) (May Must : List ℕ → Type 0) (letter : ℕ) → AreLines K L letter → Forms ⊥ (many K L) Must → (bytes rest : List ℕ) → (behind K (many K L)).Text bytes rest → length rest + 1 ≤ length bytes
over_long K L May Must letter lines forms bytes rest (mid, one, more) = omega (arith, lines.long bytes mid one, shorter (many K L) Must mid rest (forms.moved mid rest more))

over_within : (K L : Kind) (Must : List ℕ → Type 0) (letter : ℕ) → AreLines K L letter → Forms ⊥ (many K L) Must → (code : Code) (bytes there : List ℕ) → (behind K (many K L)).Fault code bytes there → length there + 1 ≤ length bytes
over_within K L Must letter lines forms code bytes there (inl fault) = lines.within code bytes there fault
over_within K L Must letter lines forms code bytes there (inr (mid, one, fault)) = omega (arith, lines.long bytes mid one, there_shorter ⊥ (many K L) mid there (forms.past code mid there fault))

over_past : (K L : Kind) (May Must : List ℕ → Type 0) (letter : ℕ) → AreLines K L letter → Forms ⊥ (many K L) Must → Forms ⊥ (behind K (many K L)) Must → (code : Code) (bytes there : List ℕ) → (over K L letter).Fault code bytes there → IsPassed ⊥ (over K L letter) bytes there
over_past K L May Must letter lines inner forms code bytes there (inl fault) = past_to ⊥ (behind K (many K L)) (over K L letter) bytes there (λ bs r t. t) (forms.past code bytes there fault)
over_past K L May Must letter lines inner forms code bytes there (inr (codes, (here, begins))) = by there here begins (forms.some.front ++ forms.some.follows) (forms.some.each forms.some.follows forms.some.may)
  where
    by : (k : List ℕ) → k ≡ bytes → front k ≡ letter → (text : List ℕ) → (behind K (many K L)).Text text forms.some.follows → IsPassed ⊥ (over K L letter) bytes k
    by [] same is text some = absurd (let never : false ≡ true = sym lines.letter_is ∙ (ap (λ d. d == letter) is ∙ same_byte letter) in cc)
    by (b ∷ more) same is [] some = absurd (let never : false ≡ true = sym lines.letter_is ∙ lines.begins.texts [] some.0 some.1 in cc)
    by (b ∷ more) same is (c ∷ k) some =
        let first : c ≡ b = equal_byte c letter (lines.begins.texts (c ∷ k) some.0 some.1) ∙ sym is in
        inl record {
          before = [];
          text = sym same;
          first = b;
          later = more;
          begins = refl;
          extends = record {
            other = k;
            rest = forms.some.follows;
            long = omega (arith, over_long K L May Must letter lines inner (c ∷ k) forms.some.follows some);
            is = subst (λ d. (behind K (many K L)).Text (d ∷ k) forms.some.follows) first some;
          };
        }

over_forms : (K L : Kind) (May Must : List ℕ → Type 0) (letter : ℕ) → AreLines K L letter → Forms ⊥ K May → Forms ⊥ L Must → MayFollow K L May → Forms ⊥ (over K L letter) Must
over_forms K L May Must letter lines first second follow =
    let inner = many_forms K L May Must first second follow in
    let forms = both_forms K (many K L) May Must first inner (many_may K L May follow) in
    record {
      moved = λ bytes rest text. moved_to (behind K (many K L)) (over K L letter) Must bytes rest (λ bs r t. t) (forms.moved bytes rest text);
      some = some_to (behind K (many K L)) (over K L letter) Must (λ bs r t. t) forms.some;
      past = λ code bytes there fault. over_past K L May Must letter lines inner forms code bytes there fault;
      other_codes = λ bytes there fault. either fault (λ k. forms.other_codes bytes there k) (λ one. let codes : Syntax ≡ Count = one.0 in absurd (cc));
    }

over_tells : {B : Type 0} (K L : Kind) (May Must : List ℕ → Type 0) (letter : ℕ) → AreLines K L letter → Forms ⊥ K May → Forms ⊥ L Must → MayFollow K L May
    → Tells {A = B} ⊥ (over K L letter) (λ bytes. Anything bytes × ((front bytes == letter) ≡ true)) Must (λ bytes at. Faulty at Count)
over_tells {B} K L May Must letter lines first second follow =
    let inner = many_forms K L May Must first second follow in
    record {
      forms = over_forms K L May Must letter lines first second follow;
      local = count_local;
      found = λ bytes at place x rest of e. absurd (cc);
      counted = λ bytes at place x rest of e. absurd (cc);
      right = λ bytes at place code of e.
          let places : at ≡ place = cc in
          let codes : Count ≡ code = cc in
          inr record { there = bytes; is = inr (sym codes, (refl, equal_byte (front bytes) letter of.1)); counted = omega (arith, places) };
      texts = λ bytes rest at of text. inr record { place = at; code = Count; is = refl; early = inl (omega (arith, over_long K L May Must letter lines inner bytes rest text)); other = λ e. cc };
      told = λ code bytes there at of fault. record {
        place = at;
        told = Count;
        is = refl;
        not_after = either fault (λ k. inl (omega (arith, over_within K L Must letter lines inner code bytes there k))) (λ one. inr (omega (arith, ap length one.1.0), omega (arith, ap code_number one.0)));
      };
    }

-- none more, and one more

over_told : (K L : Kind) (letter : ℕ) → AreLines K L letter → IsToldBy (over K L letter) (λ bytes. front bytes == letter) true
over_told K L letter lines =
    let inner = behind_told K (many K L) (λ bytes. front bytes == letter) true lines.begins in
    record {
      texts = λ bytes rest text. inner.texts bytes rest text;
      faults = λ code bytes there fault. either fault (λ k. inner.faults code bytes there k) (λ one. ap (λ bs. front bs == letter) (sym one.1.0) ∙ (ap (λ b. b == letter) one.1.1 ∙ same_byte letter));
    }

none_is : (K L : Kind) (letter : ℕ) → IsSameKind (one_of (over K L letter) L) (at_most 0 letter K L)
unfolding IsOneTooMany
none_is K L letter = record {
  text = λ bytes rest text. many_text K L bytes rest text;
  text_back = λ bytes rest text. many_text-back K L bytes rest text;
  fault = λ code bytes there fault. either fault (λ o. either o (λ k. inl (many_fault K L code bytes there (inl k))) (λ one. inr one)) (λ l. inl (in_last l));
  fault_back = λ code bytes there fault. either fault (λ among. back code bytes there (many_fault-back K L code bytes there among)) (λ one. inl (inr one));
}
  where
    back : (code : Code) (bytes there : List ℕ) → (one_of (behind K (many K L)) L).Fault code bytes there → (one_of (over K L letter) L).Fault code bytes there
    back code bytes there (inl k) = inl (inl k)
    back code bytes there (inr l) = inr l

more_is : (K L : Kind) (letter most : ℕ) → IsSameKind (one_of (behind K (at_most most letter K L)) L) (at_most (suc most) letter K L)
unfolding IsOneTooMany
more_is K L letter most = record {
  text = λ bytes rest text. many_text K L bytes rest text;
  text_back = λ bytes rest text. many_text-back K L bytes rest text;
  fault = λ code bytes there fault. to code bytes there fault;
  fault_back = λ code bytes there fault. either fault (λ among. back code bytes there (many_fault-back K L code bytes there among)) (λ one. inl (inr (one.1.0, one.1.1, inr (one.0, one.1.2))));
}
  where
    to : (code : Code) (bytes there : List ℕ) → (one_of (behind K (at_most most letter K L)) L).Fault code bytes there → (at_most (suc most) letter K L).Fault code bytes there
    to code bytes there (inl (inl k)) = inl (in_one k)
    to code bytes there (inl (inr (mid, one, inl among))) = inl (later mid one among)
    to code bytes there (inl (inr (mid, one, inr (codes, too_many)))) = inr (codes, (mid, one, too_many))
    to code bytes there (inr l) = inl (in_last l)

    back : (code : Code) (bytes there : List ℕ) → (one_of (behind K (many K L)) L).Fault code bytes there → (one_of (behind K (at_most most letter K L)) L).Fault code bytes there
    back code bytes there (inl (inl k)) = inl (inl k)
    back code bytes there (inl (inr (mid, one, among))) = inl (inr (mid, one, inl among))
    back code bytes there (inr l) = inr l

pub at_most-tells : {A B : Type 0} (K L : Kind) (May Must : List ℕ → Type 0) (letter : ℕ) (one : Reader A) (m : List A → Reader B) → Tells ⊥ K Anything May one → AreLines K L letter → MayFollow K L May → ((ys : List A) → Tells ⊥ L Anything Must (m ys))
    → (most : ℕ) (xs : List A) → Tells ⊥ (at_most most letter K L) Anything Must (lines_then letter one most xs m)
at_most-tells {A} {B} K L May Must letter one m first lines follow behind_lines zero xs =
    let test = λ (bs : List ℕ). front bs == letter in
    kind_tells (one_of (over K L letter) L) (at_most 0 letter K L) Anything Must (lines_then letter one 0 xs m) (none_is K L letter)
    (same_tells (one_of (over K L letter) L) Anything Must (lines_then letter one 0 xs m) (chosen test (λ bs p. Faulty p Count) (m xs)) (no_line letter one xs m)
    (one_of_tells (over K L letter) L Anything Must test (λ bs p. Faulty p Count) (m xs)
    (over_tells K L May Must letter lines first.forms (behind_lines xs).forms follow)
    (tells_of L Anything (λ bs. Anything bs × (test bs ≡ false)) Must (m xs) (λ bs of. tt) (behind_lines xs))
    (over_told K L letter lines) lines.ends (choice_local (λ b. b == letter) (λ bs p. Faulty p Count) (m xs) count_local (behind_lines xs).local)))
at_most-tells {A} {B} K L May Must letter one m first lines follow behind_lines (suc most) xs =
    kind_tells (one_of (behind K (at_most most letter K L)) L) (at_most (suc most) letter K L) Anything Must (lines_then letter one (suc most) xs m) (more_is K L letter most)
    (line_tells K L (at_most most letter K L) Anything Anything May Must letter one most xs m first lines (behind_told K (at_most most letter K L) (λ bs. front bs == letter) true lines.begins) behind_lines
    (λ x. at_most-tells K L May Must letter one m first lines follow behind_lines most (xs ++ x ∷ []))
    (at_most-tells K L May Must letter one m first lines follow behind_lines most []).forms (many_may K L May follow) (λ bs mid of text. tt))
