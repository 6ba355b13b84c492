-- So many of one kind and one of another behind them, as lines are: readers that go through them tell the first fault.
use Rattle.std.proofs.Common.{◌≡◌, ℕ, zero, suc, ◌+◌, ◌≤◌, ◌==◌, ◌⊎◌, inl, inr, if◌then◌else◌, Bool, true, false, List, [], ◌∷◌, ◌++◌, length, refl, sym, ◌∙◌, ap, subst, arith, append_assoc}
use Rattle.spec_certificate_text.specs.Terms.{Code, Syntax, Count}
use Rattle.spec_certificate_text.specs.Outcomes.{Outcome, Found, Faulty, next, Reader, front}
use Rattle.spec_certificate_text.proofs.Parts.{equal_byte, same_byte}
use Rattle.spec_reading_faults.proofs.Shared.{IsLocal, next_local, choice_local, found_local}
use Rattle.spec_reading_faults.proofs.Parts.{same_local}
use Rattle.spec_certificate_faults.specs.First.{Kind, code_number}
use Rattle.spec_certificate_faults.proofs.Comes.{either}
use Rattle.spec_first_faults.specs.Kinds as plain
use Rattle.spec_first_faults.specs.Kinds.{last, further}
use Rattle.spec_first_faults.proofs.Tells.{Anything, Extends, GoesPastIt, IsPassed, Forms, shorter, there_shorter, goes_past, extends_to, past_to, moved_to, some_to, never_tells, each_length_tells}
use Rattle.spec_first_faults.proofs.Behind.{first_extends, second_extends, then_read}
use Rattle.spec_first_faults.proofs.OneOf.{chosen, IsToldBy}
use Rattle.spec_first_faults.proofs.Many.{AreLines, MayFollow, many_may, many_forms, next_both, next_twice, count_local}
use Rattle.spec_node_reading.specs.Kinds.{KindIn, in_state, behind, one_of, texts_of, LeadsThrough, FaultThrough, many, IsOneTooMany, at_most}
use Rattle.spec_node_reading.specs.Kinds as kinds
use Rattle.spec_node_reading.specs.Loops.{lines_through}
use Rattle.spec_node_first_faults.proofs.InState.{FormsIn, TellsIn, IsSameIn, same_tells-in, tells_of-in, kind_tells-in, kind_forms-in, one_of_forms-in, one_of_tells-in, both_forms-in, both_tell-in}

-- The kind.

texts_forms : {S : Type 0} (K : KindIn S) (s : S) (May : List ℕ → Type 0) → Forms ⊥ (in_state K s) May → Forms ⊥ (texts_of K) May
texts_forms K s May forms = record {
  moved = λ bytes rest text. moved_to (in_state K s) (texts_of K) May bytes rest (λ bs r t. t) (forms.moved bytes rest text);
  some = some_to (in_state K s) (texts_of K) May (λ bs r t. t) forms.some;
  past = λ code bytes there fault. absurd fault;
  other_codes = λ bytes there fault. fault;
}

abbrev plain_many : {S : Type 0} → KindIn S → KindIn S → Kind
plain_many K L = plain.many (texts_of K) (texts_of L)

many_past-in : {S : Type 0} (K L : KindIn S) (May Must : List ℕ → Type 0) → FormsIn K May → FormsIn L Must → ((bytes rest : List ℕ) → (plain_many K L).Text bytes rest → May bytes) → (code : Code) (s : S) (bytes there : List ℕ) → FaultThrough K L code s bytes there → GoesPastIt (plain_many K L) bytes there
many_past-in K L May Must first second may code s bytes there (kinds.in_last fault) =
    let past = goes_past (in_state L s) bytes there ((second.each s).past code bytes there fault) in
    record { before = past.before; text = past.text; first = past.first; later = past.later; begins = past.begins; extends = extends_to (in_state L s) (plain_many K L) (past.before ++ past.first ∷ []) (λ bs r t. last t) past.extends }
many_past-in K L May Must first second may code s bytes there (kinds.in_one fault) =
    let past = goes_past (in_state K s) bytes there ((first.each s).past code bytes there fault) in
    let some = some_to (in_state L s) (plain_many K L) Must (λ bs r t. last t) (second.each s).some in
    record {
      before = past.before;
      text = past.text;
      first = past.first;
      later = past.later;
      begins = past.begins;
      extends = extends_to (plain.behind (in_state K s) (plain_many K L)) (plain_many K L) (past.before ++ past.first ∷ []) (λ bs r t. further t.0 t.1 t.2)
          (first_extends (in_state K s) (plain_many K L) May Must (past.before ++ past.first ∷ []) (first.each s).moved may some past.extends);
    }
many_past-in K L May Must first second may code s bytes there (kinds.later mid t leads fault) =
    let past = many_past-in K L May Must first second may code t mid there fault in
    let moved = (first.each s).moved bytes mid (first.text s bytes mid t leads) in
    record {
      before = moved.front ++ past.before;
      text = moved.text ∙ (ap (λ bs. moved.front ++ bs) past.text ∙ sym (append_assoc moved.front past.before there));
      first = past.first;
      later = past.later;
      begins = past.begins;
      extends = subst (Extends (plain_many K L)) (sym (append_assoc moved.front past.before (past.first ∷ [])))
          (extends_to (plain.behind (in_state K s) (plain_many K L)) (plain_many K L) (moved.front ++ (past.before ++ past.first ∷ [])) (λ bs r t. further t.0 t.1 t.2)
          (second_extends (in_state K s) (plain_many K L) May moved.front (past.before ++ past.first ∷ []) moved.each may past.extends));
    }

many_other-in : {S : Type 0} (K L : KindIn S) (May Must : List ℕ → Type 0) → FormsIn K May → FormsIn L Must → (s : S) (bytes there : List ℕ) → FaultThrough K L Syntax s bytes there → ⊥
many_other-in K L May Must first second s bytes there (kinds.in_last fault) = (second.each s).other_codes bytes there fault
many_other-in K L May Must first second s bytes there (kinds.in_one fault) = (first.each s).other_codes bytes there fault
many_other-in K L May Must first second s bytes there (kinds.later mid t leads fault) = many_other-in K L May Must first second t mid there fault

many_leads-text : {S : Type 0} (K L : KindIn S) (May Must : List ℕ → Type 0) → FormsIn K May → FormsIn L Must → (s : S) (bytes rest : List ℕ) (u : S) → LeadsThrough K L s bytes rest u → (plain_many K L).Text bytes rest
many_leads-text K L May Must first second s bytes rest u (kinds.last leads) = last (second.text s bytes rest u leads)
many_leads-text K L May Must first second s bytes rest u (kinds.further mid t leads more) = further mid (first.text s bytes mid t leads) (many_leads-text K L May Must first second t mid rest u more)

pub many_forms-in : {S : Type 0} (K L : KindIn S) (May Must : List ℕ → Type 0) → FormsIn K May → FormsIn L Must → MayFollow (texts_of K) (texts_of L) May → FormsIn (many K L) Must
many_forms-in {S} K L May Must first second follow = record { each = forms_at; text = λ s bytes rest u leads. many_leads-text K L May Must first second s bytes rest u leads }
  where
    forms_at : (s : S) → Forms ⊥ (in_state (many K L) s) Must
    forms_at s =
        let forms = many_forms (texts_of K) (texts_of L) May Must (texts_forms K s May (first.each s)) (texts_forms L s Must (second.each s)) follow in
        record {
          moved = λ bytes rest text. moved_to (plain_many K L) (in_state (many K L) s) Must bytes rest (λ bs r t. t) (forms.moved bytes rest text);
          some = some_to (plain_many K L) (in_state (many K L) s) Must (λ bs r t. t) forms.some;
          past = λ code bytes there fault. past_to ⊥ (plain_many K L) (in_state (many K L) s) bytes there (λ bs r t. t) (inl (many_past-in K L May Must first second (many_may (texts_of K) (texts_of L) May follow) code s bytes there fault));
          other_codes = λ bytes there fault. many_other-in K L May Must first second s bytes there fault;
        }

-- One of the first kind and many behind it, or one of the other.

module _ {S : Type 0} (K L : KindIn S) where
  abbrev one_and_many : KindIn S
  one_and_many = one_of (behind K (many K L)) L

  many_text : (bytes rest : List ℕ) → one_and_many.Text bytes rest → (many K L).Text bytes rest
  many_text bytes rest (inl (mid, one, more)) = further mid one more
  many_text bytes rest (inr one) = last one

  many_text-back : (bytes rest : List ℕ) → (many K L).Text bytes rest → one_and_many.Text bytes rest
  many_text-back bytes rest (last one) = inr one
  many_text-back bytes rest (further mid one more) = inl (mid, one, more)

  many_fault : (s : S) (code : Code) (bytes there : List ℕ) → one_and_many.Fault s code bytes there → FaultThrough K L code s bytes there
  many_fault s code bytes there (inl (inl fault)) = kinds.in_one fault
  many_fault s code bytes there (inl (inr (mid, t, leads, fault))) = kinds.later mid t leads fault
  many_fault s code bytes there (inr fault) = kinds.in_last fault

  many_fault-back : (s : S) (code : Code) (bytes there : List ℕ) → FaultThrough K L code s bytes there → one_and_many.Fault s code bytes there
  many_fault-back s code bytes there (kinds.in_one fault) = inl (inl fault)
  many_fault-back s code bytes there (kinds.later mid t leads fault) = inl (inr (mid, t, leads, fault))
  many_fault-back s code bytes there (kinds.in_last fault) = inr fault

  many_leads : (s : S) (bytes rest : List ℕ) (u : S) → one_and_many.Leads s bytes rest u → LeadsThrough K L s bytes rest u
  many_leads s bytes rest u (inl (mid, t, leads, more)) = kinds.further mid t leads more
  many_leads s bytes rest u (inr leads) = kinds.last leads

  many_leads-back : (s : S) (bytes rest : List ℕ) (u : S) → LeadsThrough K L s bytes rest u → one_and_many.Leads s bytes rest u
  many_leads-back s bytes rest u (kinds.further mid t leads more) = inl (mid, t, leads, more)
  many_leads-back s bytes rest u (kinds.last leads) = inr leads

  many_is : IsSameIn one_and_many (many K L)
  many_is = record {
    same = λ s. record { text = many_text; text_back = many_text-back; fault = many_fault s; fault_back = many_fault-back s };
    to = many_leads;
    back = many_leads-back;
  }

pub behind_told-in : {S : Type 0} (K N : KindIn S) (s : S) (test : List ℕ → Bool) (is : Bool) → ((bytes rest : List ℕ) (t : S) → K.Leads s bytes rest t → K.Text bytes rest) → IsToldBy (in_state K s) test is → IsToldBy (in_state (behind K N) s) test is
behind_told-in K N s test is text told = record {
  texts = λ bytes rest t. told.texts bytes t.0 t.1;
  faults = λ code bytes there fault. either fault (λ k. told.faults code bytes there k) (λ l. told.texts bytes l.0 (text bytes l.0 l.1 l.2));
}

-- Lines, and what is read behind them.

abbrev pub through_then : {A B : Type 0} → ℕ → (A → Reader A) → ℕ → A → (A → Reader B) → Reader B
through_then letter one most x m = then_read (lines_through letter one most x) (λ at y. m y)

pub through_more : {A : Type 0} (letter : ℕ) (one : A → Reader A) (most : ℕ) (x : A) (bytes : List ℕ) (at : ℕ)
    → lines_through letter one (suc most) x bytes at ≡ (if front bytes == letter then next (one x bytes at) (λ y p k. lines_through letter one most y k p) else Found x at bytes)
unfolding lines_through
through_more letter one most x bytes at = refl

pub through_full : {A : Type 0} (letter : ℕ) (one : A → Reader A) (x : A) (bytes : List ℕ) (at : ℕ) → lines_through letter one 0 x bytes at ≡ (if front bytes == letter then Faulty at Count else Found x at bytes)
unfolding lines_through
through_full letter one x bytes at = refl

pub one_line : {A B : Type 0} (letter : ℕ) (one : A → Reader A) (most : ℕ) (x : A) (m : A → Reader B) (bytes : List ℕ) (at : ℕ)
    → through_then letter one (suc most) x m bytes at ≡ chosen (λ bs. front bs == letter) (then_read (one x) (λ at y. through_then letter one most y m)) (m x) bytes at
one_line {A} {B} letter one most x m bytes at =
    let read = λ (y : A) (p : ℕ) (k : List ℕ). m y k p in
    let more = λ (y : A) (p : ℕ) (k : List ℕ). lines_through letter one most y k p in
    ap (λ o. next o read) (through_more letter one most x bytes at)
    ∙ (next_both (front bytes == letter) (next (one x bytes at) more) (Found x at bytes) read
    ∙ ap (λ o. if front bytes == letter then o else m x bytes at) (next_twice (one x bytes at) more read))

pub no_line : {A B : Type 0} (letter : ℕ) (one : A → Reader A) (x : A) (m : A → Reader B) (bytes : List ℕ) (at : ℕ)
    → through_then letter one 0 x m bytes at ≡ chosen (λ bs. front bs == letter) (λ bs p. Faulty p Count) (m x) bytes at
no_line letter one x m bytes at = ap (λ o. next o (λ y p k. m y k p)) (through_full letter one x bytes at) ∙ next_both (front bytes == letter) (Faulty at Count) (Found x at bytes) (λ y p k. m y k p)

-- Which fault of syntax is told, and what is found, is told by the bytes up to there.

pub through_local : {A : Type 0} (letter : ℕ) (one : A → Reader A) → ((y : A) → IsLocal (one y)) → (most : ℕ) (x : A) → IsLocal (lines_through letter one most x)
through_local letter one local zero x =
    same_local (lines_through letter one 0 x) (λ bytes at. if front bytes == letter then Faulty at Count else Found x at bytes) (through_full letter one x) (choice_local (λ b. b == letter) (λ bs p. Faulty p Count) (λ bs p. Found x p bs) count_local (found_local x))
through_local letter one local (suc most) x =
    let further = λ (bs : List ℕ) (p : ℕ). next (one x bs p) (λ y q k. lines_through letter one most y k q) in
    same_local (lines_through letter one (suc most) x) (λ bytes at. if front bytes == letter then further bytes at else Found x at bytes) (through_more letter one most x)
    (choice_local (λ b. b == letter) further (λ bs p. Found x p bs) (next_local (one x) (λ at y. lines_through letter one most y) (local x) (λ at y. through_local letter one local most y)) (found_local x))

-- each line has a byte at least
abbrev pub Shrinks : {A : Type 0} → (A → Reader A) → Type 0
Shrinks {A} one = (y : A) (bytes : List ℕ) (at place : ℕ) (z : A) (rest : List ℕ) → one y bytes at ≡ Found z place rest → length rest + 1 ≤ length bytes

through_nothing : {A : Type 0} (letter : ℕ) (one : A → Reader A) → (0 == letter) ≡ false → (most : ℕ) (x : A) (at : ℕ) → lines_through letter one most x [] at ≡ Found x at []
through_nothing letter one other zero x at = through_full letter one x [] at ∙ ap (λ t. if t then Faulty at Count else Found x at []) other
through_nothing letter one other (suc most) x at = through_more letter one most x [] at ∙ ap (λ t. if t then next (one x [] at) (λ y p k. lines_through letter one most y k p) else Found x at []) other

-- what is read behind what was found is the same
pub later_same : {A B : Type 0} (o : Outcome A) (f g : A → Reader B) → ((y : A) (p : ℕ) (k : List ℕ) → o ≡ Found y p k → f y k p ≡ g y k p) → next o (λ y p k. f y k p) ≡ next o (λ y p k. g y k p)
later_same (Faulty p c) f g same = refl
later_same (Found y p k) f g same = same y p k refl

through_room : {A : Type 0} (letter : ℕ) (one : A → Reader A) → (0 == letter) ≡ false → Shrinks one → (most more : ℕ) (x : A) (bytes : List ℕ) (at : ℕ) → length bytes ≤ most → length bytes ≤ more → lines_through letter one most x bytes at ≡ lines_through letter one more x bytes at
through_room letter one other shrinks most more x [] at room wide = through_nothing letter one other most x at ∙ sym (through_nothing letter one other more x at)
through_room letter one other shrinks zero more x (b ∷ bytes) at room wide = absurd (omega (arith, room))
through_room letter one other shrinks (suc most) zero x (b ∷ bytes) at room wide = absurd (omega (arith, wide))
through_room {A} letter one other shrinks (suc most) (suc more) x (b ∷ bytes) at room wide =
    through_more letter one most x (b ∷ bytes) at
    ∙ (ap (λ o. if b == letter then o else Found x at (b ∷ bytes)) (later_same (one x (b ∷ bytes) at) (λ y k p. lines_through letter one most y k p) (λ y k p. lines_through letter one more y k p)
    (λ y p k is. let less = shrinks x (b ∷ bytes) at p y k is in through_room letter one other shrinks most more y k p (omega (arith, less, room)) (omega (arith, less, wide))))
    ∙ sym (through_more letter one more x (b ∷ bytes) at))

pub all_through_local : {A : Type 0} (letter : ℕ) (one : A → Reader A) → (0 == letter) ≡ false → Shrinks one → ((y : A) → IsLocal (one y)) → (x : A) → IsLocal (λ bytes at. lines_through letter one (length bytes) x bytes at)
all_through_local letter one other shrinks local x = record {
  fault = λ bytes others at n place shares there e.
      let most = length bytes + length others in
      through_room letter one other shrinks (length others) most x others at (omega arith) (omega arith)
      ∙ (through_local letter one local most x).fault bytes others at n place shares there (through_room letter one other shrinks most (length bytes) x bytes at (omega arith) (omega arith) ∙ e);
  found = λ bytes others at n place y rest shares there e.
      let most = length bytes + length others in
      through_room letter one other shrinks (length others) most x others at (omega arith) (omega arith)
      ∙ (through_local letter one local most x).found bytes others at n place y rest shares there (through_room letter one other shrinks most (length bytes) x bytes at (omega arith) (omega arith) ∙ e);
  passed = λ bytes at place y rest e. (through_local letter one local (length bytes) x).passed bytes at place y rest e;
  later = λ bytes at place e. (through_local letter one local (length bytes) x).later bytes at place e;
}

-- Lines of kinds in states.

module _ {S A B : Type 0} (K L : KindIn S) (May Must : List ℕ → Type 0) (letter : ℕ) (state : A → S) (state_behind : B → S) (one : A → Reader A) (m : A → Reader B)
    (first : (y : A) → TellsIn K (state y) Anything May state (one y)) (behind_lines : (y : A) → TellsIn L (state y) (λ bs. (front bs == letter) ≡ false) Must state_behind (m y)) (forms : FormsIn K May) (forms_behind : FormsIn L Must)
    (lines : (s : S) → AreLines (in_state K s) (in_state L s) letter) (follow : MayFollow (texts_of K) (texts_of L) May) where
  local : (y : A) → IsLocal (one y)
  local y = (first y).tells.local

  may : (bytes rest : List ℕ) → (many K L).Text bytes rest → May bytes
  may = many_may (texts_of K) (texts_of L) May follow

  -- one line more than the kind that the others are of
  line_tells-in : (N : KindIn S) (On Of : List ℕ → Type 0) (most : ℕ) (x : A) → ((y : A) → TellsIn N (state y) On Must state_behind (through_then letter one most y m)) → FormsIn N Must → ((bytes rest : List ℕ) → N.Text bytes rest → May bytes) → ((bs mid : List ℕ) → Of bs → K.Text bs mid → On mid)
      → TellsIn (one_of (behind K N) L) (state x) Of Must state_behind (through_then letter one (suc most) x m)
  line_tells-in N On Of most x again forms_again may_again on =
      let s = state x in
      let test = λ (bs : List ℕ). front bs == letter in
      let further = then_read (one x) (λ at y. through_then letter one most y m) in
      let more = next_local (one x) (λ at y. through_then letter one most y m) (local x) (λ at y. (again y).tells.local) in
      same_tells-in (one_of (behind K N) L) s Of Must state_behind (through_then letter one (suc most) x m) (chosen test further (m x)) (one_line letter one most x m)
      (one_of_tells-in (behind K N) L s Of Must test state_behind further (m x) ((both_forms-in K N May Must forms forms_again may_again).text s) (forms_behind.text s)
      (both_tell-in K N s (λ bs. Of bs × (test bs ≡ true)) On May Must state state_behind (one x) (λ at y. through_then letter one most y m) (tells_of-in K s Anything (λ bs. Of bs × (test bs ≡ true)) May state (one x) (λ bs of. tt) (first x)) (λ at y. again y) forms forms_again may_again
      (λ bs mid of text. on bs mid of.0 text))
      (tells_of-in L s (λ bs. (front bs == letter) ≡ false) (λ bs. Of bs × (test bs ≡ false)) Must state_behind (m x) (λ bs of. of.1) (behind_lines x))
      (behind_told-in K N s test true (forms.text s) (lines s).begins) (lines s).ends (choice_local (λ b. b == letter) further (m x) more (behind_lines x).tells.local))

  never_in : (N : KindIn S) (s : S) (Of : List ℕ → Type 0) (r : Reader B) → FormsIn N Must → IsLocal r → ((bytes : List ℕ) → Of bytes → ⊥) → TellsIn N s Of Must state_behind r
  never_in N s Of r forms_of local_of never = record {
    tells = never_tells (in_state N s) Of Must r (forms_of.each s) local_of never;
    leads = λ bytes at place x rest of e. absurd (never bytes of);
    read = λ t bytes rest at of leads. absurd (never bytes of);
  }

  many_of_lines : FormsIn (many K L) Must
  many_of_lines = many_forms-in K L May Must forms forms_behind follow

  -- as many lines as there are
  lines_within : (most : ℕ) (x : A) → TellsIn (many K L) (state x) (λ bytes. length bytes ≤ most) Must state_behind (through_then letter one most x m)
  lines_within zero x =
      let s = state x in
      let test = λ (bs : List ℕ). front bs == letter in
      let none : (bs : List ℕ) → (length bs ≤ 0) × ((front bs == letter) ≡ true) → ⊥ = λ bs both. no_byte s bs both.0 both.1 in
      kind_tells-in (one_and_many K L) (many K L) s (λ bs. length bs ≤ 0) Must state_behind (through_then letter one 0 x m) (many_is K L)
      (same_tells-in (one_and_many K L) s (λ bs. length bs ≤ 0) Must state_behind (through_then letter one 0 x m) (chosen test (λ bs p. Faulty p Count) (m x)) (no_line letter one x m)
      (one_of_tells-in (behind K (many K L)) L s (λ bs. length bs ≤ 0) Must test state_behind (λ bs p. Faulty p Count) (m x) ((both_forms-in K (many K L) May Must forms many_of_lines may).text s) (forms_behind.text s)
      (never_in (behind K (many K L)) s (λ bs. (length bs ≤ 0) × (test bs ≡ true)) (λ bs p. Faulty p Count) (both_forms-in K (many K L) May Must forms many_of_lines may) count_local none)
      (tells_of-in L s (λ bs. (front bs == letter) ≡ false) (λ bs. (length bs ≤ 0) × (test bs ≡ false)) Must state_behind (m x) (λ bs of. of.1) (behind_lines x))
      (behind_told-in K (many K L) s test true (forms.text s) (lines s).begins) (lines s).ends (choice_local (λ b. b == letter) (λ bs p. Faulty p Count) (m x) count_local (behind_lines x).tells.local)))
    where
      no_byte : (s : S) (bs : List ℕ) → length bs ≤ 0 → (front bs == letter) ≡ true → ⊥
      no_byte s [] few is = absurd (let never : false ≡ true = sym (lines s).letter_is ∙ is in cc)
      no_byte s (b ∷ bs) few is = absurd (omega (arith, few))
  lines_within (suc most) x =
      kind_tells-in (one_and_many K L) (many K L) (state x) (λ bs. length bs ≤ suc most) Must state_behind (through_then letter one (suc most) x m) (many_is K L)
      (line_tells-in (many K L) (λ bs. length bs ≤ most) (λ bs. length bs ≤ suc most) most x (λ y. lines_within most y) many_of_lines may (λ bs mid of text. omega (arith, (lines (state x)).long bs mid text, of)))

  pub all_lines-in : (x : A) → TellsIn (many K L) (state x) Anything Must state_behind (then_read (λ bytes at. lines_through letter one (length bytes) x bytes at) (λ at y. m y))
  all_lines-in x =
      let s = state x in
      let shrinks : Shrinks one = λ y bytes at place z rest e. (lines (state y)).long bytes rest ((first y).tells.found bytes at place z rest tt e) in
      record {
        tells = each_length_tells (in_state (many K L) s) Must (λ most. through_then letter one most x m)
            (next_local (λ bytes at. lines_through letter one (length bytes) x bytes at) (λ at y. m y) (all_through_local letter one (lines s).letter_is shrinks local x) (λ at y. (behind_lines y).tells.local))
            (λ most. (lines_within most x).tells);
        leads = λ bytes at place y rest of e. (lines_within (length bytes) x).leads bytes at place y rest (omega arith) e;
        read = λ t bytes rest at of leads. (lines_within (length bytes) x).read t bytes rest at (omega arith) leads;
      }

  -- So many lines at most: another begins where one is too many.

  abbrev over : KindIn S
  over = record {
    Text = (behind K (many K L)).Text;
    Leads = (behind K (many K L)).Leads;
    Fault = λ s code bytes there. (behind K (many K L)).Fault s code bytes there ⊎ ((code ≡ Count) × ((there ≡ bytes) × (front there ≡ letter)));
  }

  behind_forms : FormsIn (behind K (many K L)) Must
  behind_forms = both_forms-in K (many K L) May Must forms many_of_lines may

  over_long : (s : S) (bytes rest : List ℕ) → (behind K (many K L)).Text bytes rest → length rest + 1 ≤ length bytes
  over_long s bytes rest (mid, text, more) = omega (arith, (lines s).long bytes mid text, shorter (in_state (many K L) s) Must mid rest ((many_of_lines.each s).moved mid rest more))

  over_within : (s : S) (code : Code) (bytes there : List ℕ) → (behind K (many K L)).Fault s code bytes there → length there + 1 ≤ length bytes
  over_within s code bytes there (inl fault) = (lines s).within code bytes there fault
  over_within s code bytes there (inr (mid, t, leads, fault)) = omega (arith, (lines s).long bytes mid (forms.text s bytes mid t leads), there_shorter ⊥ (in_state (many K L) t) mid there ((many_of_lines.each t).past code mid there fault))

  over_past : (s : S) (code : Code) (bytes there : List ℕ) → over.Fault s code bytes there → IsPassed ⊥ (in_state over s) bytes there
  over_past s code bytes there (inl fault) = past_to ⊥ (in_state (behind K (many K L)) s) (in_state over s) bytes there (λ bs r t. t) ((behind_forms.each s).past code bytes there fault)
  over_past s code bytes there (inr (codes, (here, begins))) = by there here begins ((behind_forms.each s).some.front ++ (behind_forms.each s).some.follows) ((behind_forms.each s).some.each (behind_forms.each s).some.follows (behind_forms.each s).some.may)
    where
      follows : List ℕ
      follows = (behind_forms.each s).some.follows

      by : (k : List ℕ) → k ≡ bytes → front k ≡ letter → (text : List ℕ) → (behind K (many K L)).Text text (behind_forms.each s).some.follows → IsPassed ⊥ (in_state over s) bytes k
      by [] same is text some = absurd (let never : false ≡ true = sym (lines s).letter_is ∙ (ap (λ d. d == letter) is ∙ same_byte letter) in cc)
      by (b ∷ more) same is [] some = absurd (let never : false ≡ true = sym (lines s).letter_is ∙ (lines s).begins.texts [] some.0 some.1 in cc)
      by (b ∷ more) same is (c ∷ k) some =
          let found : c ≡ b = equal_byte c letter ((lines s).begins.texts (c ∷ k) some.0 some.1) ∙ sym is in
          inl record {
            before = [];
            text = sym same;
            first = b;
            later = more;
            begins = refl;
            extends = record {
              other = k;
              rest = (behind_forms.each s).some.follows;
              long = omega (arith, over_long s (c ∷ k) (behind_forms.each s).some.follows some);
              is = subst (λ d. (behind K (many K L)).Text (d ∷ k) (behind_forms.each s).some.follows) found some;
            };
          }

  over_forms : FormsIn over Must
  over_forms = record {
    each = λ s. record {
      moved = λ bytes rest text. moved_to (in_state (behind K (many K L)) s) (in_state over s) Must bytes rest (λ bs r t. t) ((behind_forms.each s).moved bytes rest text);
      some = some_to (in_state (behind K (many K L)) s) (in_state over s) Must (λ bs r t. t) (behind_forms.each s).some;
      past = λ code bytes there fault. over_past s code bytes there fault;
      other_codes = λ bytes there fault. either fault (λ k. (behind_forms.each s).other_codes bytes there k) (λ found. let codes : Syntax ≡ Count = found.0 in absurd (cc));
    };
    text = λ s bytes rest u leads. behind_forms.text s bytes rest u leads;
  }

  over_tells : (s : S) → TellsIn over s (λ bytes. Anything bytes × ((front bytes == letter) ≡ true)) Must state_behind (λ bytes at. Faulty at Count)
  over_tells s = record {
    tells = record {
      forms = over_forms.each s;
      local = count_local;
      found = λ bytes at place x rest of e. absurd (cc);
      counted = λ bytes at place x rest of e. absurd (cc);
      right = λ bytes at place code of e.
          let places : at ≡ place = cc in
          let codes : Count ≡ code = cc in
          inr record { there = bytes; is = inr (sym codes, (refl, equal_byte (front bytes) letter of.1)); counted = omega (arith, places) };
      texts = λ bytes rest at of text. inr record { place = at; code = Count; is = refl; early = inl (omega (arith, over_long s bytes rest text)); other = λ e. cc };
      told = λ code bytes there at of fault. record {
        place = at;
        told = Count;
        is = refl;
        not_after = either fault (λ k. inl (omega (arith, over_within s code bytes there k))) (λ found. inr (omega (arith, ap length found.1.0), omega (arith, ap code_number found.0)));
      };
    };
    leads = λ bytes at place x rest of e. absurd (cc);
    read = λ t bytes rest at of leads. inr record { place = at; code = Count; is = refl; early = inl (omega (arith, over_long s bytes rest (behind_forms.text s bytes rest t leads))); other = λ e. cc };
  }

  over_told : (s : S) → IsToldBy (in_state over s) (λ bytes. front bytes == letter) true
  over_told s =
      let inner = behind_told-in K (many K L) s (λ bytes. front bytes == letter) true (forms.text s) (lines s).begins in
      record {
        texts = λ bytes rest text. inner.texts bytes rest text;
        faults = λ code bytes there fault. either fault (λ k. inner.faults code bytes there k) (λ found. ap (λ bs. front bs == letter) (sym found.1.0) ∙ (ap (λ b. b == letter) found.1.1 ∙ same_byte letter));
      }

  none_is : IsSameIn (one_of over L) (at_most 0 letter K L)
  unfolding IsOneTooMany
  none_is = record {
    same = λ s. record {
      text = λ bytes rest text. many_text K L bytes rest text;
      text_back = λ bytes rest text. many_text-back K L bytes rest text;
      fault = λ code bytes there fault. either fault (λ o. either o (λ k. inl (many_fault K L s code bytes there (inl k))) (λ found. inr found)) (λ l. inl (kinds.in_last l));
      fault_back = λ code bytes there fault. either fault (λ among. back s code bytes there (many_fault-back K L s code bytes there among)) (λ found. inl (inr found));
    };
    to = λ s bytes rest u leads. many_leads K L s bytes rest u leads;
    back = λ s bytes rest u leads. many_leads-back K L s bytes rest u leads;
  }
    where
      back : (s : S) (code : Code) (bytes there : List ℕ) → (one_and_many K L).Fault s code bytes there → (one_of over L).Fault s code bytes there
      back s code bytes there (inl k) = inl (inl k)
      back s code bytes there (inr l) = inr l

  more_is : (most : ℕ) → IsSameIn (one_of (behind K (at_most most letter K L)) L) (at_most (suc most) letter K L)
  unfolding IsOneTooMany
  more_is most = record {
    same = λ s. record {
      text = λ bytes rest text. many_text K L bytes rest text;
      text_back = λ bytes rest text. many_text-back K L bytes rest text;
      fault = λ code bytes there fault. to s code bytes there fault;
      fault_back = λ code bytes there fault. from s code bytes there fault;
    };
    to = λ s bytes rest u leads. many_leads K L s bytes rest u leads;
    back = λ s bytes rest u leads. many_leads-back K L s bytes rest u leads;
  }
    where
      to : (s : S) (code : Code) (bytes there : List ℕ) → (one_of (behind K (at_most most letter K L)) L).Fault s code bytes there → (at_most (suc most) letter K L).Fault s code bytes there
      to s code bytes there (inl (inl k)) = inl (kinds.in_one k)
      to s code bytes there (inl (inr (mid, t, leads, inl among))) = inl (kinds.later mid t leads among)
      to s code bytes there (inl (inr (mid, t, leads, inr (codes, too_many)))) = inr (codes, (mid, t, leads, too_many))
      to s code bytes there (inr l) = inl (kinds.in_last l)

      from : (s : S) (code : Code) (bytes there : List ℕ) → (at_most (suc most) letter K L).Fault s code bytes there → (one_of (behind K (at_most most letter K L)) L).Fault s code bytes there
      from s code bytes there (inl (kinds.in_one k)) = inl (inl k)
      from s code bytes there (inl (kinds.later mid t leads among)) = inl (inr (mid, t, leads, inl among))
      from s code bytes there (inl (kinds.in_last l)) = inr l
      from s code bytes there (inr (codes, (mid, t, leads, too_many))) = inl (inr (mid, t, leads, inr (codes, too_many)))

  at_most_forms : (most : ℕ) → FormsIn (at_most most letter K L) Must
  at_most_forms zero = kind_forms-in (one_of over L) (at_most 0 letter K L) Must none_is (one_of_forms-in over L Must over_forms forms_behind)
  at_most_forms (suc most) =
      kind_forms-in (one_of (behind K (at_most most letter K L)) L) (at_most (suc most) letter K L) Must (more_is most)
      (one_of_forms-in (behind K (at_most most letter K L)) L Must (both_forms-in K (at_most most letter K L) May Must forms (at_most_forms most) may) forms_behind)

  pub at_most-tells-in : (most : ℕ) (x : A) → TellsIn (at_most most letter K L) (state x) Anything Must state_behind (through_then letter one most x m)
  at_most-tells-in zero x =
      let s = state x in
      let test = λ (bs : List ℕ). front bs == letter in
      kind_tells-in (one_of over L) (at_most 0 letter K L) s Anything Must state_behind (through_then letter one 0 x m) none_is
      (same_tells-in (one_of over L) s Anything Must state_behind (through_then letter one 0 x m) (chosen test (λ bs p. Faulty p Count) (m x)) (no_line letter one x m)
      (one_of_tells-in over L s Anything Must test state_behind (λ bs p. Faulty p Count) (m x) (over_forms.text s) (forms_behind.text s) (over_tells s)
      (tells_of-in L s (λ bs. (front bs == letter) ≡ false) (λ bs. Anything bs × (test bs ≡ false)) Must state_behind (m x) (λ bs of. of.1) (behind_lines x))
      (over_told s) (lines s).ends (choice_local (λ b. b == letter) (λ bs p. Faulty p Count) (m x) count_local (behind_lines x).tells.local)))
  at_most-tells-in (suc most) x =
      kind_tells-in (one_of (behind K (at_most most letter K L)) L) (at_most (suc most) letter K L) (state x) Anything Must state_behind (through_then letter one (suc most) x m) (more_is most)
      (line_tells-in (at_most most letter K L) Anything Anything most x (λ y. at_most-tells-in most y) (at_most_forms most) may (λ bs mid of text. tt))
