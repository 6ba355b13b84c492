-- Readers that go from a state to others, and tell the first fault of a kind in that state.
use Rattle.std.proofs.Common.{◌≡◌, ◌⊎◌, inl, inr, ℕ, ◌+◌, Bool, true, false, if◌then◌else◌, List, length, refl, sym, ◌∙◌, ap, subst, arith}
use Rattle.spec_certificate_text.specs.Terms.{Code}
use Rattle.spec_certificate_text.specs.Outcomes.{Outcome, Found, Faulty, next, Reader}
use Rattle.spec_reading_faults.proofs.Shared.{IsLocal, next_local}
use Rattle.spec_certificate_faults.specs.First.{Kind}
use Rattle.spec_certificate_faults.proofs.Comes.{either}
use Rattle.spec_first_faults.specs.Kinds as plain
use Rattle.spec_first_faults.specs.Kinds.{fixed}
use Rattle.spec_first_faults.proofs.Tells.{Anything, IsRight, TextRead, StopsIt, ToldIt, HasSome, Forms, Tells, IsSameKind, shorter, there_shorter, is_early, extends_to, past_to, moved_to, some_to, right_to, kind_forms, kind_tells, same_tells, tells_of}
use Rattle.spec_first_faults.proofs.Behind.{past_both, moved_both, some_both, right_first, right_second, later_early, same_fault, then_read}
use Rattle.spec_first_faults.proofs.OneOf.{chosen, IsToldBy, one_of_forms, one_of_tells}
use Rattle.spec_node_reading.specs.Kinds.{KindIn, in_state, kept, changing, behind, one_of, texts_of}

-- what is so of a kind in each state, however it is read
pub record FormsIn {S : Type 0} (K : KindIn S) (May : List ℕ → Type 0) : Type 0 where
  pub each : (s : S) → Forms ⊥ (in_state K s) May
  pub text : (s : S) (bytes rest : List ℕ) (t : S) → K.Leads s bytes rest t → K.Text bytes rest

-- of a text that leads to a state something is found, with this state behind it, or a fault is told before its end
pub record FindsState {S A : Type 0} (state : A → S) (o : Outcome A) (rest : List ℕ) (t : S) : Type 0 where
  pub value : A
  pub place : ℕ
  pub is : o ≡ Found value place rest
  pub so : state value ≡ t

abbrev pub LeadRead : {S A : Type 0} → (A → S) → Outcome A → List ℕ → ℕ → List ℕ → S → Type 0
LeadRead state o bytes at rest t = FindsState state o rest t ⊎ StopsIt ⊥ o bytes at rest

-- the reader tells the first fault of bytes of which this is so, in this state, and leads to the states that the kind leads to
pub record TellsIn {S A : Type 0} (K : KindIn S) (s : S) (Of May : List ℕ → Type 0) (state : A → S) (r : Reader A) : Type 0 where
  pub tells : Tells ⊥ (in_state K s) Of May r
  pub leads : (bytes : List ℕ) (at place : ℕ) (x : A) (rest : List ℕ) → Of bytes → r bytes at ≡ Found x place rest → K.Leads s bytes rest (state x)
  pub read : (t : S) (bytes rest : List ℕ) (at : ℕ) → Of bytes → K.Leads s bytes rest t → LeadRead state (r bytes at) bytes at rest t

-- Readers that answer the same, and bytes of which more is so.

pub same_tells-in : {S A : Type 0} (K : KindIn S) (s : S) (Of May : List ℕ → Type 0) (state : A → S) (r q : Reader A) → ((bytes : List ℕ) (at : ℕ) → r bytes at ≡ q bytes at) → TellsIn K s Of May state q → TellsIn K s Of May state r
same_tells-in K s Of May state r q same tells = record {
  tells = same_tells (in_state K s) Of May r q same tells.tells;
  leads = λ bytes at place x rest of e. tells.leads bytes at place x rest of (sym (same bytes at) ∙ e);
  read = λ t bytes rest at of leads. subst (λ o. LeadRead state o bytes at rest t) (sym (same bytes at)) (tells.read t bytes rest at of leads);
}

pub tells_of-in : {S A : Type 0} (K : KindIn S) (s : S) (Of On May : List ℕ → Type 0) (state : A → S) (r : Reader A) → ((bytes : List ℕ) → On bytes → Of bytes) → TellsIn K s Of May state r → TellsIn K s On May state r
tells_of-in K s Of On May state r more tells = record {
  tells = tells_of (in_state K s) Of On May r more tells.tells;
  leads = λ bytes at place x rest on e. tells.leads bytes at place x rest (more bytes on) e;
  read = λ t bytes rest at on leads. tells.read t bytes rest at (more bytes on) leads;
}

-- Two kinds with the same texts, faults and states.

pub record IsSameIn {S : Type 0} (K L : KindIn S) : Type 0 where
  pub same : (s : S) → IsSameKind (in_state K s) (in_state L s)
  pub to : (s : S) (bytes rest : List ℕ) (t : S) → K.Leads s bytes rest t → L.Leads s bytes rest t
  pub back : (s : S) (bytes rest : List ℕ) (t : S) → L.Leads s bytes rest t → K.Leads s bytes rest t

pub kind_tells-in : {S A : Type 0} (K L : KindIn S) (s : S) (Of May : List ℕ → Type 0) (state : A → S) (r : Reader A) → IsSameIn K L → TellsIn K s Of May state r → TellsIn L s Of May state r
kind_tells-in K L s Of May state r is tells = record {
  tells = kind_tells (in_state K s) (in_state L s) Of May r (is.same s) tells.tells;
  leads = λ bytes at place x rest of e. is.to s bytes rest (state x) (tells.leads bytes at place x rest of e);
  read = λ t bytes rest at of leads. tells.read t bytes rest at of (is.back s bytes rest t leads);
}

pub kind_forms-in : {S : Type 0} (K L : KindIn S) (May : List ℕ → Type 0) → IsSameIn K L → FormsIn K May → FormsIn L May
kind_forms-in K L May is forms = record {
  each = λ s. kind_forms (in_state K s) (in_state L s) May (is.same s) (forms.each s);
  text = λ s bytes rest t leads. (is.same s).text bytes rest (forms.text s bytes rest t (is.back s bytes rest t leads));
}

-- A kind in which the state does not count; and fixed bytes that change it.

pub kept_forms : {S : Type 0} (K : Kind) (May : List ℕ → Type 0) → Forms ⊥ K May → FormsIn {S = S} (kept K) May
kept_forms K May forms = record { each = λ s. forms; text = λ s bytes rest t leads. leads.0 }

pub kept_tells : {S A : Type 0} (K : Kind) (s : S) (Of May : List ℕ → Type 0) (state : A → S) (r : Reader A) → Tells ⊥ K Of May r → ((bytes : List ℕ) (at place : ℕ) (x : A) (rest : List ℕ) → r bytes at ≡ Found x place rest → state x ≡ s) → TellsIn (kept K) s Of May state r
kept_tells K s Of May state r tells stays = record {
  tells = tells;
  leads = λ bytes at place x rest of e. (tells.found bytes at place x rest of e, stays bytes at place x rest e);
  read = λ t bytes rest at of leads. either (tells.texts bytes rest at of leads.0)
      (λ finds. inl record { value = finds.value; place = finds.place; is = finds.is; so = stays bytes at finds.place finds.value rest finds.is ∙ sym leads.1 })
      (λ stops. inr stops);
}

pub changing_forms : {S : Type 0} (word : List ℕ) (change : S → S) → Forms ⊥ (fixed word) Anything → FormsIn (changing word change) Anything
changing_forms word change forms = record { each = λ s. forms; text = λ s bytes rest t leads. leads.0 }

pub changing_tells : {S A : Type 0} (word : List ℕ) (change : S → S) (s : S) (state : A → S) (r : Reader A) → Tells ⊥ (fixed word) Anything Anything r → ((bytes : List ℕ) (at place : ℕ) (x : A) (rest : List ℕ) → r bytes at ≡ Found x place rest → state x ≡ change s)
    → TellsIn (changing word change) s Anything Anything state r
changing_tells word change s state r tells changes = record {
  tells = tells;
  leads = λ bytes at place x rest of e. (tells.found bytes at place x rest of e, changes bytes at place x rest e);
  read = λ t bytes rest at of leads. either (tells.texts bytes rest at of leads.0)
      (λ finds. inl record { value = finds.value; place = finds.place; is = finds.is; so = changes bytes at finds.place finds.value rest finds.is ∙ sym leads.1 })
      (λ stops. inr stops);
}

-- One of two.

pub one_of_forms-in : {S : Type 0} (K L : KindIn S) (May : List ℕ → Type 0) → FormsIn K May → FormsIn L May → FormsIn (one_of K L) May
one_of_forms-in K L May first second = record {
  each = λ s. one_of_forms (in_state K s) (in_state L s) May (first.each s) (second.each s);
  text = λ s bytes rest t leads. either leads (λ k. inl (first.text s bytes rest t k)) (λ l. inr (second.text s bytes rest t l));
}

pub one_of_tells-in : {S A : Type 0} (K L : KindIn S) (s : S) (Of May : List ℕ → Type 0) (test : List ℕ → Bool) (state : A → S) (r q : Reader A)
    → ((bytes rest : List ℕ) (t : S) → K.Leads s bytes rest t → K.Text bytes rest) → ((bytes rest : List ℕ) (t : S) → L.Leads s bytes rest t → L.Text bytes rest)
    → TellsIn K s (λ bs. Of bs × (test bs ≡ true)) May state r → TellsIn L s (λ bs. Of bs × (test bs ≡ false)) May state q
    → IsToldBy (in_state K s) test true → IsToldBy (in_state L s) test false → IsLocal (chosen test r q) → TellsIn (one_of K L) s Of May state (chosen test r q)
one_of_tells-in {S} {A} K L s Of May test state r q text_of_first text_of_second first second of_first of_second local = record {
  tells = one_of_tells (in_state K s) (in_state L s) Of May test r q first.tells second.tells of_first of_second local;
  leads = λ bytes at place x rest of e. leads_by bytes at place x rest of (test bytes) refl e;
  read = λ t bytes rest at of leads. either leads
      (λ k. let so = of_first.texts bytes rest (text_of_first bytes rest t k) in subst (λ o. LeadRead state o bytes at rest t) (sym (if_true (test bytes) (r bytes at) (q bytes at) so)) (first.read t bytes rest at (of, so) k))
      (λ l. let so = of_second.texts bytes rest (text_of_second bytes rest t l) in subst (λ o. LeadRead state o bytes at rest t) (sym (if_false (test bytes) (r bytes at) (q bytes at) so)) (second.read t bytes rest at (of, so) l));
}
  where
    if_true : (b : Bool) (o p : Outcome A) → b ≡ true → (if b then o else p) ≡ o
    if_true true o p e = refl
    if_true false o p e = absurd (cc)

    if_false : (b : Bool) (o p : Outcome A) → b ≡ false → (if b then o else p) ≡ p
    if_false true o p e = absurd (cc)
    if_false false o p e = refl

    leads_by : (bytes : List ℕ) (at place : ℕ) (x : A) (rest : List ℕ) → Of bytes → (b : Bool) → test bytes ≡ b → (if b then r bytes at else q bytes at) ≡ Found x place rest → (one_of K L).Leads s bytes rest (state x)
    leads_by bytes at place x rest of true so e = inl (first.leads bytes at place x rest (of, so) e)
    leads_by bytes at place x rest of false so e = inr (second.leads bytes at place x rest (of, so) e)

-- One behind another.

-- the texts of both, without faults
some_texts : {S : Type 0} (L : KindIn S) (s : S) (Must : List ℕ → Type 0) → HasSome (in_state L s) Must → HasSome (texts_of L) Must
some_texts L s Must some = some_to (in_state L s) (texts_of L) Must (λ bs r t. t) some

pub both_forms-in : {S : Type 0} (K L : KindIn S) (May Must : List ℕ → Type 0) → FormsIn K May → FormsIn L Must → ((bs rest : List ℕ) → L.Text bs rest → May bs) → FormsIn (behind K L) Must
both_forms-in {S} K L May Must first second may = record { each = forms_at; text = λ s bytes rest u leads. (leads.0, first.text s bytes leads.0 leads.1 leads.2, second.text leads.1 leads.0 rest u leads.3) }
  where
    forms_at : (s : S) → Forms ⊥ (in_state (behind K L) s) Must
    forms_at s =
        let one = in_state K s in
        let B = in_state (behind K L) s in
        record {
          moved = λ bytes rest text.
              moved_to (plain.behind one (in_state L s)) B Must bytes rest (λ bs r t. t) (moved_both one (in_state L s) May Must (first.each s).moved (second.each s).moved may bytes text.0 rest text.1 text.2);
          some = some_to (plain.behind one (in_state L s)) B Must (λ bs r t. t) (some_both one (in_state L s) May Must (first.each s).some (second.each s).some may);
          past = λ code bytes there fault. either fault
              (λ k. past_to ⊥ (plain.behind one (in_state L s)) B bytes there (λ bs r t. t) (past_both ⊥ one (in_state L s) May Must (first.each s) (second.each s) may code bytes there (inl k)))
              (λ l. let (mid, t, leads, f) = l in
              past_to ⊥ (plain.behind one (in_state L t)) B bytes there (λ bs r t. t) (past_both ⊥ one (in_state L t) May Must (first.each s) (second.each t) may code bytes there (inr (mid, first.text s bytes mid t leads, f))));
          other_codes = λ bytes there fault. either fault (λ k. (first.each s).other_codes bytes there k) (λ l. (second.each l.1).other_codes l.0 there l.3);
        }

module _ {S A B : Type 0} (K L : KindIn S) (s : S) (Of On May Must : List ℕ → Type 0) (state : A → S) (state_behind : B → S) (r : Reader A) (m : ℕ → A → Reader B)
    (first : TellsIn K s Of May state r) (second : (at : ℕ) (x : A) → TellsIn L (state x) On Must state_behind (m at x)) (first_forms : FormsIn K May) (forms : FormsIn L Must)
    (may : (bs rest : List ℕ) → L.Text bs rest → May bs) (on : (bs mid : List ℕ) → Of bs → K.Text bs mid → On mid) where
  -- what was found of both
  record FoundBoth (bytes : List ℕ) (at place : ℕ) (y : B) (rest : List ℕ) : Type 0 where
    mid : List ℕ
    value : A
    leads : K.Leads s bytes mid (state value)
    text : K.Text bytes mid
    later : L.Text mid rest
    leads_on : L.Leads (state value) mid rest (state_behind y)
    counted : place + length rest ≡ at + length bytes

  found_both : (bytes : List ℕ) (at place : ℕ) (y : B) (rest : List ℕ) → Of bytes → (o : Outcome A) → r bytes at ≡ o → next o (λ x p k. m at x k p) ≡ Found y place rest → FoundBoth bytes at place y rest
  found_both bytes at place y rest of (Faulty p c) is told = absurd (cc)
  found_both bytes at place y rest of (Found x p k) is told =
      let one = first.tells.found bytes at p x k of is in
      let so = on bytes k of one in
      record {
        mid = k;
        value = x;
        leads = first.leads bytes at p x k of is;
        text = one;
        later = (second at x).tells.found k p place y rest so told;
        leads_on = (second at x).leads k p place y rest so told;
        counted = (second at x).tells.counted k p place y rest so told ∙ first.tells.counted bytes at p x k of is;
      }

  right_of_first : (bytes : List ℕ) (total place : ℕ) (code : Code) → IsRight (in_state K s) bytes total place code → IsRight (in_state (behind K L) s) bytes total place code
  right_of_first bytes total place code right =
      right_to (plain.behind (in_state K s) (texts_of L)) (in_state (behind K L) s) bytes total place code (λ bs k t. t) (λ there fault. either fault (λ f. inl f) (λ l. absurd l.2))
      (right_first (in_state K s) (texts_of L) May Must (first_forms.each s).moved may (some_texts L s Must (forms.each s).some) bytes total place code right)

  right_of_second : (bytes mid : List ℕ) (t : S) (total place : ℕ) (code : Code) → K.Leads s bytes mid t → IsRight (in_state L t) mid total place code → IsRight (in_state (behind K L) s) bytes total place code
  right_of_second bytes mid t total place code leads (inl syntax) =
      let to = syntax.1.to in
      right_to (plain.behind (in_state K s) (texts_of L)) (in_state (behind K L) s) bytes total place code (λ bs k t. t) (λ there fault. either fault (λ f. inl f) (λ l. absurd l.2))
      (right_second (in_state K s) (texts_of L) May (first_forms.each s).moved may bytes mid total place code (first_forms.text s bytes mid t leads)
      (inl (syntax.0, record { there = syntax.1.there; to = record { before = to.before; text = to.text; extends = extends_to (in_state L t) (texts_of L) to.before (λ bs r t. t) to.extends }; counted = syntax.1.counted })))
  right_of_second bytes mid t total place code leads (inr stands) = inr record { there = stands.there; is = inr (mid, t, leads, stands.is); counted = stands.counted }

  right_in : (bytes : List ℕ) (at place : ℕ) (code : Code) → Of bytes → (o : Outcome A) → r bytes at ≡ o → next o (λ x p k. m at x k p) ≡ Faulty place code → IsRight (in_state (behind K L) s) bytes (at + length bytes) place code
  right_in bytes at place code of (Faulty p c) is told =
      let places : p ≡ place = cc in
      let codes : c ≡ code = cc in
      right_of_first bytes (at + length bytes) place code (first.tells.right bytes at place code of (same_fault (r bytes at) p place c code is places codes))
  right_in bytes at place code of (Found x p k) is told =
      subst (λ total. IsRight (in_state (behind K L) s) bytes total place code) (first.tells.counted bytes at p x k of is)
      (right_of_second bytes k (state x) (p + length k) place code (first.leads bytes at p x k of is) ((second at x).tells.right k p place code (on bytes k of (first.tells.found bytes at p x k of is)) told))

  texts_in : (bytes mid rest : List ℕ) (at : ℕ) → Of bytes → K.Text bytes mid → L.Text mid rest → TextRead ⊥ (then_read r m bytes at) bytes at rest
  texts_in bytes mid rest at of one two =
      either (first.tells.texts bytes mid at of one)
      (λ finds.
      let counted = first.tells.counted bytes at finds.place finds.value mid of finds.is in
      either ((second at finds.value).tells.texts mid rest finds.place (on bytes mid of one) two)
      (λ again. inl record { value = again.value; place = again.place; is = ap (λ o. next o (λ x p k. m at x k p)) finds.is ∙ again.is })
      (λ stops. inr record { place = stops.place; code = stops.code; is = ap (λ o. next o (λ x p k. m at x k p)) finds.is ∙ stops.is; early = later_early ⊥ stops.place finds.place rest mid (at + length bytes) counted stops.early; other = stops.other }))
      (λ stops. inr record {
        place = stops.place;
        code = stops.code;
        is = ap (λ o. next o (λ x p k. m at x k p)) stops.is;
        early = inl (omega (arith, is_early stops.place mid (at + length bytes) stops.early, shorter (in_state L s) Must mid rest ((forms.each s).moved mid rest two)));
        other = stops.other;
      })

  read_in : (u : S) (bytes rest : List ℕ) (at : ℕ) → Of bytes → (behind K L).Leads s bytes rest u → LeadRead state_behind (then_read r m bytes at) bytes at rest u
  read_in u bytes rest at of (mid, t, leads, later) =
      let one = first_forms.text s bytes mid t leads in
      let two = forms.text t mid rest u later in
      either (first.read t bytes mid at of leads)
      (λ finds.
      let counted = first.tells.counted bytes at finds.place finds.value mid of finds.is in
      either ((second at finds.value).read u mid rest finds.place (on bytes mid of one) (subst (λ v. L.Leads v mid rest u) (sym finds.so) later))
      (λ again. inl record { value = again.value; place = again.place; is = ap (λ o. next o (λ x p k. m at x k p)) finds.is ∙ again.is; so = again.so })
      (λ stops. inr record { place = stops.place; code = stops.code; is = ap (λ o. next o (λ x p k. m at x k p)) finds.is ∙ stops.is; early = later_early ⊥ stops.place finds.place rest mid (at + length bytes) counted stops.early; other = stops.other }))
      (λ stops. inr record {
        place = stops.place;
        code = stops.code;
        is = ap (λ o. next o (λ x p k. m at x k p)) stops.is;
        early = inl (omega (arith, is_early stops.place mid (at + length bytes) stops.early, shorter (in_state L s) Must mid rest ((forms.each s).moved mid rest two)));
        other = stops.other;
      })

  told_in : (code : Code) (bytes there : List ℕ) (at : ℕ) → Of bytes → (behind K L).Fault s code bytes there → ToldIt (then_read r m bytes at) bytes at there code
  told_in code bytes there at of (inl fault) =
      let told = first.tells.told code bytes there at of fault in
      record { place = told.place; told = told.told; is = ap (λ o. next o (λ x p k. m at x k p)) told.is; not_after = told.not_after }
  told_in code bytes there at of (inr (mid, t, leads, fault)) =
      either (first.read t bytes mid at of leads)
      (λ finds.
      let counted = first.tells.counted bytes at finds.place finds.value mid of finds.is in
      let told = (second at finds.value).tells.told code mid there finds.place (on bytes mid of (first_forms.text s bytes mid t leads)) (subst (λ v. L.Fault v code mid there) (sym finds.so) fault) in
      record {
        place = told.place;
        told = told.told;
        is = ap (λ o. next o (λ x p k. m at x k p)) finds.is ∙ told.is;
        not_after = either told.not_after (λ early. inl (omega (arith, early, counted))) (λ same. inr (same.0 ∙ counted, same.1));
      })
      (λ stops. record {
        place = stops.place;
        told = stops.code;
        is = ap (λ o. next o (λ x p k. m at x k p)) stops.is;
        not_after = inl (omega (arith, is_early stops.place mid (at + length bytes) stops.early, there_shorter ⊥ (in_state L t) mid there ((forms.each t).past code mid there fault)));
      })

  -- a reader behind another tells the first fault of the one kind behind the other
  pub both_tell-in : TellsIn (behind K L) s Of Must state_behind (then_read r m)
  both_tell-in = record {
    tells = record {
      forms = (both_forms-in K L May Must first_forms forms may).each s;
      local = next_local r m first.tells.local (λ at x. (second at x).tells.local);
      found = λ bytes at place y rest of e. let both = found_both bytes at place y rest of (r bytes at) refl e in (both.mid, both.text, both.later);
      counted = λ bytes at place y rest of e. (found_both bytes at place y rest of (r bytes at) refl e).counted;
      right = λ bytes at place code of e. right_in bytes at place code of (r bytes at) refl e;
      texts = λ bytes rest at of text. texts_in bytes text.0 rest at of text.1 text.2;
      told = λ code bytes there at of fault. told_in code bytes there at of fault;
    };
    leads = λ bytes at place y rest of e. let both = found_both bytes at place y rest of (r bytes at) refl e in (both.mid, state both.value, both.leads, both.leads_on);
    read = read_in;
  }
