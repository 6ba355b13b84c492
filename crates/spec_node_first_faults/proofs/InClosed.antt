-- Fixed bytes before a thing and behind it, one of two things, and faults that the whole of a thing makes: readers that go from a state to others tell the first fault.
use Rattle.std.proofs.Common.{◌≡◌, ℕ, ◌+◌, ◌≤◌, ◌==◌, ◌⊎◌, inl, inr, Bool, true, false, List, length, ◌++◌, refl, sym, ◌∙◌, ap, subst, arith}
use Rattle.spec_certificate_text.specs.Terms.{Code, Syntax}
use Rattle.spec_certificate_text.specs.Outcomes.{Outcome, Found, Faulty, next, front, Reader, read_fixed}
use Rattle.spec_certificate_text.proofs.Parts.{parts}
use Rattle.spec_reading_faults.proofs.Shared.{IsLocal, choice_local}
use Rattle.spec_certificate_faults.specs.First.{Kind, code_number}
use Rattle.spec_certificate_faults.proofs.Comes.{either}
use Rattle.spec_first_faults.specs.Kinds as plain
use Rattle.spec_first_faults.specs.Kinds.{fixed}
use Rattle.spec_first_faults.proofs.Tells.{Anything, GoesPastIt, Tells, mapped, mapped_tells, past_to, moved_to, some_to, right_to, tells_before}
use Rattle.spec_first_faults.proofs.Behind.{then_read}
use Rattle.spec_first_faults.proofs.OneOf.{chosen, IsToldBy}
use Rattle.spec_first_faults.proofs.Small.{fixed_forms, fixed_tells}
use Rattle.spec_first_faults.proofs.Closed.{closed_by, closed_tells}
use Rattle.spec_first_faults.proofs.Marked.{judged, checked, Judges, marked_forms, marked_tells}
use Rattle.spec_node_reading.specs.Kinds.{KindIn, in_state, kept, changing, behind, one_of, marked}
use Rattle.spec_node_first_faults.proofs.InState.{FormsIn, LeadRead, TellsIn, tells_of-in, kept_forms, kept_tells, changing_forms, changing_tells, one_of_tells-in, both_forms-in, both_tell-in}

-- Fixed bytes.

-- what is found behind them
pub closed_is : {A : Type 0} (ws : List ℕ) (y : A) (bytes : List ℕ) (at place : ℕ) (x : A) (rest : List ℕ) → closed_by ws y bytes at ≡ Found x place rest → x ≡ y
closed_is {A} ws y bytes at place x rest e = by (read_fixed ws bytes at) e
  where
    by : (o : Outcome (Unit {0})) → next o (λ _ p k. Found y p k) ≡ Found x place rest → x ≡ y
    by (Faulty p code) told = absurd (cc)
    by (Found u p k) told = let same : y ≡ x = cc in sym same

pub closes_in : {S B : Type 0} (ws : List ℕ) (s : S) (state : B → S) (y : B) → state y ≡ s → TellsIn (kept (fixed ws)) s Anything Anything state (closed_by ws y)
closes_in ws s state y stays = kept_tells (fixed ws) s Anything Anything state (closed_by ws y) (closed_tells ws y) (λ bytes at place x rest e. ap state (closed_is ws y bytes at place x rest e) ∙ stays)

-- a thing, and fixed bytes behind it that may follow it
pub closed_thing-forms : {S : Type 0} (K : KindIn S) (May : List ℕ → Type 0) (ws : List ℕ) → FormsIn K May → ((rest : List ℕ) → May (ws ++ rest)) → FormsIn (behind K (kept (fixed ws))) Anything
closed_thing-forms K May ws forms may = both_forms-in K (kept (fixed ws)) May Anything forms (kept_forms (fixed ws) Anything (fixed_forms ws)) (λ bs rest text. subst May (sym text) (may rest))

pub closed_thing-in : {S A B : Type 0} (K : KindIn S) (s : S) (May : List ℕ → Type 0) (ws : List ℕ) (state : A → S) (state_behind : B → S) (r : Reader A) (f : A → B) → TellsIn K s Anything May state r → FormsIn K May → ((rest : List ℕ) → May (ws ++ rest)) → ((x : A) → state_behind (f x) ≡ state x)
    → TellsIn (behind K (kept (fixed ws))) s Anything Anything state_behind (then_read r (λ at x. closed_by ws (f x)))
closed_thing-in K s May ws state state_behind r f first forms may stays =
    both_tell-in K (kept (fixed ws)) s Anything Anything May Anything state state_behind r (λ at x. closed_by ws (f x)) first (λ at x. closes_in ws (state x) state_behind (f x) (stays x)) forms (kept_forms (fixed ws) Anything (fixed_forms ws))
    (λ bs rest text. subst May (sym text) (may rest)) (λ bs mid of text. tt)

-- fixed bytes that change the state, and what follows them
pub opened_forms : {S : Type 0} (word : List ℕ) (change : S → S) (L : KindIn S) (Must : List ℕ → Type 0) → FormsIn L Must → FormsIn (behind (changing word change) L) Must
opened_forms word change L Must forms = both_forms-in (changing word change) L Anything Must (changing_forms word change (fixed_forms word)) forms (λ bs rest text. tt)

pub opened_tells : {S B : Type 0} (word : List ℕ) (change : S → S) (s : S) (L : KindIn S) (Must : List ℕ → Type 0) (state : B → S) (m : Reader B) → TellsIn L (change s) Anything Must state m → FormsIn L Must → TellsIn (behind (changing word change) L) s Anything Must state (then_read (read_fixed word) (λ _ _. m))
opened_tells word change s L Must state m second forms =
    both_tell-in (changing word change) L s Anything Anything Anything Must (λ (u : Unit {0}). change s) state (read_fixed word) (λ _ _. m)
    (changing_tells word change s (λ (u : Unit {0}). change s) (read_fixed word) (fixed_tells word) (λ bytes at place x rest e. refl)) (λ at u. second) (changing_forms word change (fixed_forms word)) forms (λ bs rest text. tt) (λ bs mid of text. tt)

-- fixed bytes, and what follows them
pub behind_fixed-in : {S B : Type 0} (ws : List ℕ) (s : S) (L : KindIn S) (Must : List ℕ → Type 0) (state : B → S) (m : Reader B) → TellsIn L s Anything Must state m → FormsIn L Must → TellsIn (behind (kept (fixed ws)) L) s Anything Must state (then_read (read_fixed ws) (λ _ _. m))
behind_fixed-in ws s L Must state m second forms =
    both_tell-in (kept (fixed ws)) L s Anything Anything Anything Must (λ (u : Unit {0}). s) state (read_fixed ws) (λ _ _. m)
    (kept_tells (fixed ws) s Anything Anything (λ (u : Unit {0}). s) (read_fixed ws) (fixed_tells ws) (λ bytes at place x rest e. refl)) (λ at u. second) (kept_forms (fixed ws) Anything (fixed_forms ws)) forms (λ bs rest text. tt) (λ bs mid of text. tt)

pub behind_fixed-forms : {S : Type 0} (ws : List ℕ) (L : KindIn S) (Must : List ℕ → Type 0) → FormsIn L Must → FormsIn (behind (kept (fixed ws)) L) Must
behind_fixed-forms ws L Must forms = both_forms-in (kept (fixed ws)) L Anything Must (kept_forms (fixed ws) Anything (fixed_forms ws)) forms (λ bs rest text. tt)

-- The same reader of something else, and a kind behind which less may stand.

pub mapped_tells-in : {S A B : Type 0} (K : KindIn S) (s : S) (Of May : List ℕ → Type 0) (state : A → S) (state_mapped : B → S) (r : Reader A) (f : A → B) → ((x : A) → state_mapped (f x) ≡ state x) → TellsIn K s Of May state r → TellsIn K s Of May state_mapped (mapped f r)
mapped_tells-in K s Of May state state_mapped r f stays tells = record {
  tells = mapped_tells (in_state K s) Of May r f tells.tells;
  leads = λ bytes at place y rest of e.
      let cut = parts (r bytes at) (λ x p k. Found (f x) p k) y place rest e in
      let same : f cut.value ≡ y = cc in
      let rests : cut.rest ≡ rest = cc in
      subst (λ t. K.Leads s bytes rest t) (sym (stays cut.value) ∙ ap state_mapped same) (subst (λ l. K.Leads s bytes l (state cut.value)) rests (tells.leads bytes at cut.place cut.value cut.rest of cut.first));
  read = λ t bytes rest at of leads. either (tells.read t bytes rest at of leads)
      (λ finds. inl record { value = f finds.value; place = finds.place; is = ap (λ o. next o (λ x p k. Found (f x) p k)) finds.is; so = stays finds.value ∙ finds.so })
      (λ stops. inr record { place = stops.place; code = stops.code; is = ap (λ o. next o (λ x p k. Found (f x) p k)) stops.is; early = stops.early; other = stops.other });
}

pub forms_before : {S : Type 0} (K : KindIn S) (May Must : List ℕ → Type 0) (follows : List ℕ) → ((other : List ℕ) → Must other → May other) → Must follows → FormsIn K May → FormsIn K Must
forms_before K May Must follows less must forms = record {
  each = λ s. record {
    moved = λ bytes rest text. let moved = (forms.each s).moved bytes rest text in record { front = moved.front; text = moved.text; each = λ other is. moved.each other (less other is) };
    some = record { front = (forms.each s).some.front; each = λ other is. (forms.each s).some.each other (less other is); follows = follows; may = must };
    past = (forms.each s).past;
    other_codes = (forms.each s).other_codes;
  };
  text = forms.text;
}

pub tells_before-in : {S A : Type 0} (K : KindIn S) (s : S) (Of May Must : List ℕ → Type 0) (state : A → S) (r : Reader A) (follows : List ℕ) → ((other : List ℕ) → Must other → May other) → Must follows → TellsIn K s Of May state r → TellsIn K s Of Must state r
tells_before-in K s Of May Must state r follows less must tells = record { tells = tells_before (in_state K s) Of May Must r follows less must tells.tells; leads = tells.leads; read = tells.read }

-- One of two, of any bytes; and by the first byte.

pub choice_tells-in : {S A : Type 0} (K L : KindIn S) (s : S) (May : List ℕ → Type 0) (test : List ℕ → Bool) (state : A → S) (r q : Reader A) → TellsIn K s Anything May state r → TellsIn L s Anything May state q → FormsIn K May → FormsIn L May
    → IsToldBy (in_state K s) test true → IsToldBy (in_state L s) test false → IsLocal (chosen test r q) → TellsIn (one_of K L) s Anything May state (chosen test r q)
choice_tells-in K L s May test state r q first second first_forms forms of_first of_second local =
    one_of_tells-in K L s Anything May test state r q (first_forms.text s) (forms.text s)
    (tells_of-in K s Anything (λ bs. Anything bs × (test bs ≡ true)) May state r (λ bs of. tt) first)
    (tells_of-in L s Anything (λ bs. Anything bs × (test bs ≡ false)) May state q (λ bs of. tt) second) of_first of_second local

pub front_tells-in : {S A : Type 0} (K L : KindIn S) (s : S) (May : List ℕ → Type 0) (b : ℕ) (state : A → S) (r q : Reader A) → TellsIn K s Anything May state r → TellsIn L s Anything May state q → FormsIn K May → FormsIn L May
    → IsToldBy (in_state K s) (λ bs. front bs == b) true → IsToldBy (in_state L s) (λ bs. front bs == b) false → TellsIn (one_of K L) s Anything May state (chosen (λ bs. front bs == b) r q)
front_tells-in K L s May b state r q first second first_forms forms of_first of_second =
    choice_tells-in K L s May (λ bs. front bs == b) state r q first second first_forms forms of_first of_second (choice_local (λ c. c == b) r q first.tells.local second.tells.local)

-- Faults that the whole of a thing makes.

pub marked_forms-in : {S : Type 0} (K : KindIn S) (May : List ℕ → Type 0) (Here : S → Code → List ℕ → Type 0) → FormsIn K May → ((s : S) (code : Code) (bytes : List ℕ) → Here s code bytes → GoesPastIt (in_state K s) bytes bytes) → ((s : S) (bytes : List ℕ) → Here s Syntax bytes → ⊥) → FormsIn (marked K Here) May
marked_forms-in K May Here forms past other = record { each = λ s. marked_forms (in_state K s) May (Here s) (forms.each s) (past s) (other s); text = forms.text }

pub marked_tells-in : {S A B : Type 0} (K : KindIn S) (s : S) (Of May : List ℕ → Type 0) (state : A → S) (state_judged : B → S) (r : Reader A) (judge : A → Code ⊎ B) (Here : S → Code → List ℕ → Type 0) → FormsIn K May → TellsIn K s Of May state r → Judges (in_state K s) Of r judge (Here s)
    → ((x : A) (y : B) → judge x ≡ inr y → state_judged y ≡ state x) → TellsIn (marked K Here) s Of May state_judged (checked judge r)
marked_tells-in {S} {A} {B} K s Of May state state_judged r judge Here forms tells judges stays = record {
  tells = marked_tells (in_state K s) Of May r judge (Here s) tells.tells judges;
  leads = λ bytes at place y rest of e. let cut = parts (r bytes at) (λ x p k. judged (judge x) at p k) y place rest e in leads_by bytes at place y rest of cut.value cut.place cut.rest cut.first (judge cut.value) refl cut.later;
  read = λ t bytes rest at of leads. read_by t bytes rest at (judges.text_long bytes rest (forms.text s bytes rest t leads)) (tells.read t bytes rest at of leads);
}
  where
    leads_by : (bytes : List ℕ) (at place : ℕ) (y : B) (rest : List ℕ) → Of bytes → (x : A) (p : ℕ) (k : List ℕ) → r bytes at ≡ Found x p k → (j : Code ⊎ B) → judge x ≡ j → judged j at p k ≡ Found y place rest → K.Leads s bytes rest (state_judged y)
    leads_by bytes at place y rest of x p k is (inl code) so told = absurd (cc)
    leads_by bytes at place y rest of x p k is (inr z) so told =
        let same : z ≡ y = cc in
        let rests : k ≡ rest = cc in
        subst (λ t. K.Leads s bytes rest t) (sym (stays x z so) ∙ ap state_judged same) (subst (λ l. K.Leads s bytes l (state x)) rests (tells.leads bytes at p x k of is))

    read_by : (t : S) (bytes rest : List ℕ) (at : ℕ) → length rest + 1 ≤ length bytes → LeadRead state (r bytes at) bytes at rest t → LeadRead state_judged (checked judge r bytes at) bytes at rest t
    read_by t bytes rest at long (inr stops) = inr record { place = stops.place; code = stops.code; is = ap (λ o. next o (λ x p k. judged (judge x) at p k)) stops.is; early = stops.early; other = stops.other }
    read_by t bytes rest at long (inl finds) = by (judge finds.value) refl
      where
        by : (j : Code ⊎ B) → judge finds.value ≡ j → LeadRead state_judged (checked judge r bytes at) bytes at rest t
        by (inl code) so = inr record {
          place = at;
          code = code;
          is = ap (λ o. next o (λ x p k. judged (judge x) at p k)) finds.is ∙ ap (λ j. judged j at finds.place rest) so;
          early = inl (omega (arith, long));
          other = judges.never finds.value code so;
        }
        by (inr y) so = inl record {
          value = y;
          place = finds.place;
          is = ap (λ o. next o (λ x p k. judged (judge x) at p k)) finds.is ∙ ap (λ j. judged j at finds.place rest) so;
          so = stays finds.value y so ∙ finds.so;
        }

-- where a fault stands, one is judged that has no greater number
pub record IsFirstHere (Exact : Code → List ℕ → Type 0) (code : Code) (bytes : List ℕ) : Type 0 where
  pub told : Code
  pub is : Exact told bytes
  pub less : code_number told ≤ code_number code

-- more faults, which reading does not tell first
pub marked_more : {A : Type 0} (K : Kind) (Of May : List ℕ → Type 0) (r : Reader A) (Exact Here : Code → List ℕ → Type 0) → ((code : Code) (bytes : List ℕ) → Exact code bytes → Here code bytes) → ((code : Code) (bytes : List ℕ) → Here code bytes → IsFirstHere Exact code bytes) → ((bytes : List ℕ) → Here Syntax bytes → ⊥)
    → Tells ⊥ (plain.marked K Exact) Of May r → Tells ⊥ (plain.marked K Here) Of May r
marked_more K Of May r Exact Here exact first other tells =
    let E = plain.marked K Exact in
    let H = plain.marked K Here in
    record {
      forms = record {
        moved = λ bytes rest text. moved_to E H May bytes rest (λ bs k t. t) (tells.forms.moved bytes rest text);
        some = some_to E H May (λ bs k t. t) tells.forms.some;
        past = λ code bytes there fault. either fault
            (λ k. past_to ⊥ E H bytes there (λ bs k t. t) (tells.forms.past code bytes there (inl k)))
            (λ here. let one = first code bytes here.1 in past_to ⊥ E H bytes there (λ bs k t. t) (tells.forms.past one.told bytes there (inr (here.0, one.is))));
        other_codes = λ bytes there fault. either fault (λ k. tells.forms.other_codes bytes there (inl k)) (λ here. other bytes here.1);
      };
      local = tells.local;
      found = tells.found;
      counted = tells.counted;
      right = λ bytes at place code of e. right_to E H bytes (at + length bytes) place code (λ bs k t. t) (λ there fault. either fault (λ k. inl k) (λ here. inr (here.0, exact code bytes here.1))) (tells.right bytes at place code of e);
      texts = tells.texts;
      told = λ code bytes there at of fault. either fault
          (λ k. tells.told code bytes there at of (inl k))
          (λ here. let one = first code bytes here.1 in let told = tells.told one.told bytes there at of (inr (here.0, one.is)) in record {
            place = told.place;
            told = told.told;
            is = told.is;
            not_after = either told.not_after (λ early. inl early) (λ same. inr (same.0, omega (arith, same.1, one.less)));
          });
    }
