-- Steps one after the other: what they reach, and which of them is refused.
use Rattle.std.proofs.Common.{◌≡◌, ℕ, zero, suc, ◌+◌, ◌-◌, ◌<◌, ◌≤◌, List, [], ◌∷◌, ◌++◌, length, map, take, get_or, refl, sym, ◌∙◌, ap, subst, arith, add-one, inl, inr, Option, Some, None}
use Rattle.std.proofs.lemmas.Bool.{cases_lt}
use Rattle.std.proofs.lemmas.List.{take_all}
use Rattle.std.proofs.lemmas.Option.{slice_get_within, slice_get-map, slice_get-get_or}
use Rattle.spec_calculus.proofs.Points.{numbered-there}
use Rattle.std.specs.Prelude.{option_and_then, option_map, slice_get}
use Rattle.spec_calculus.specs.Syntax.{Protocol}
use Rattle.spec_calculus.specs.Points.{numbered}
use Rattle.spec_calculus.specs.Runs.{Configuration, Step, start, after_step, after_steps, run}
use Rattle.spec_calculus.specs.Refusals.{Refusal}
use Rattle.spec_calculus.specs.Limits.{limited_refusal}
use Rattle.run_replay.specs.Replay.{IsRefusedAt, IsFirstRefused, IsDone}

-- two values of one option
pub some_one : {A : Type 0} (o : Option A) (x y : A) → o ≡ Some x → o ≡ Some y → x ≡ y
some_one o x y p q = let e = sym p ∙ q in cc e

-- the steps before the first few reach something, where all do
pub record Reaches (P : Protocol) (c : Configuration) (steps : List Step) : Type 0 where
  pub end : Configuration
  pub reached : after_steps P c steps ≡ Some end

front_by : (P : Protocol) (step : Step) (steps : List Step) (n : ℕ) (o : Option Configuration) (end : Configuration) → option_and_then (λ d. after_steps P d steps) o ≡ Some end → ((d : Configuration) → after_steps P d steps ≡ Some end → Reaches P d (take n steps)) → (e : Configuration) × (option_and_then (λ d. after_steps P d (take n steps)) o ≡ Some e)
front_by P step steps n None end all rest = absurd (cc all)
front_by P step steps n (Some d) end all rest = let r = rest d all in (r.end, r.reached)

pub fronts_reach : (P : Protocol) (steps : List Step) (n : ℕ) (c end : Configuration) → after_steps P c steps ≡ Some end → Reaches P c (take n steps)
fronts_reach P [] zero c end all = record { end = c; reached = refl }
fronts_reach P [] (suc n) c end all = record { end = c; reached = refl }
fronts_reach P (step ∷ steps) zero c end all = record { end = c; reached = refl }
fronts_reach P (step ∷ steps) (suc n) c end all =
    let r = front_by P step steps n (after_step P c step) end all (λ d later. fronts_reach P steps n d end later) in
    record { end = r.0; reached = r.1 }

-- steps, and then others
pub after_steps-append : (P : Protocol) (xs ys : List Step) (c : Configuration) → after_steps P c (xs ++ ys) ≡ option_and_then (λ d. after_steps P d ys) (after_steps P c xs)
after_steps-append P [] ys c = refl
after_steps-append P (x ∷ xs) ys c = by (after_step P c x) (λ d. after_steps-append P xs ys d)
  where
    by : (o : Option Configuration) → ((d : Configuration) → after_steps P d (xs ++ ys) ≡ option_and_then (λ e. after_steps P e ys) (after_steps P d xs)) → option_and_then (λ d. after_steps P d (xs ++ ys)) o ≡ option_and_then (λ e. after_steps P e ys) (option_and_then (λ d. after_steps P d xs) o)
    by None rest = refl
    by (Some d) rest = rest d

-- a step is refused for one cause at most
pub refused_once : (P : Protocol) (steps : List Step) (number : ℕ) (r s : Refusal) → IsRefusedAt P steps number r → IsRefusedAt P steps number s → r ≡ s
refused_once P steps number r s a b =
    let before = some_one _ _ _ a.reached b.reached in
    let step = some_one _ _ _ a.next b.next in
    some_one (limited_refusal P b.before b.step) r s (sym (λ i. limited_refusal P (before i) (step i)) ∙ a.refused) b.refused

-- the items of a front are those of the whole
slice_get-front : {A : Type 0} (xs : List A) (n i : ℕ) (x : A) → slice_get (take n xs) i ≡ Some x → (i < n) × (slice_get xs i ≡ Some x)
slice_get-front [] zero i x e = absurd (cc e)
slice_get-front [] (suc n) i x e = absurd (cc e)
slice_get-front (y ∷ ys) zero i x e = absurd (cc e)
slice_get-front (y ∷ ys) (suc n) zero x e = (omega arith, e)
slice_get-front (y ∷ ys) (suc n) (suc i) x e = let later = slice_get-front ys n i x e in (omega (arith, later.0), later.1)

numbered-front : {A : Type 0} (xs : List A) (n number : ℕ) (x : A) → numbered (take n xs) number ≡ Some x → (number ≤ n) × (numbered xs number ≡ Some x)
numbered-front xs n zero x e = absurd (cc e)
numbered-front xs n (suc index) x e = let found = slice_get-front xs n index x e in (omega (arith, found.0), found.1)

-- the front of a front is a front
pub take_front : {A : Type 0} (xs : List A) (n m : ℕ) → m ≤ n → take m (take n xs) ≡ take m xs
take_front [] zero zero le = refl
take_front [] zero (suc m) le = refl
take_front [] (suc n) zero le = refl
take_front [] (suc n) (suc m) le = refl
take_front (x ∷ xs) zero zero le = refl
take_front (x ∷ xs) zero (suc m) le = absurd (omega arith)
take_front (x ∷ xs) (suc n) zero le = refl
take_front (x ∷ xs) (suc n) (suc m) le = ap (λ ys. x ∷ ys) (take_front xs n m (omega arith))

pub take_all_of : {A : Type 0} (xs : List A) (n : ℕ) → length xs ≤ n → take n xs ≡ xs
take_all_of xs n le = take_all n xs le

pub take_next : {A : Type 0} (xs : List A) (i : ℕ) (x : A) → slice_get xs i ≡ Some x → take (i + 1) xs ≡ take i xs ++ x ∷ []
take_next xs i x found = rw add-one (by xs i x found)
  where
    by : {A : Type 0} (xs : List A) (i : ℕ) (x : A) → slice_get xs i ≡ Some x → take (suc i) xs ≡ take i xs ++ x ∷ []
    by [] i x found = absurd (cc found)
    by (y ∷ ys) zero x found = let same : y ≡ x = cc in ap (λ z. z ∷ []) same
    by (y ∷ ys) (suc i) x found = ap (λ zs. y ∷ zs) (by ys i x found)

-- a step that is refused in a front is refused in the whole
pub refused_in_front : (P : Protocol) (steps : List Step) (n number : ℕ) (r : Refusal) → IsRefusedAt P (take n steps) number r → IsRefusedAt P steps number r
refused_in_front P steps n number r refused =
    let next = numbered-front steps n number refused.step refused.next in
    record {
      before = refused.before;
      step = refused.step;
      reached = ap (run P) (sym (take_front steps n (number - 1) (omega (arith, next.0)))) ∙ refused.reached;
      next = next.1;
      refused = refused.refused;
    }

-- the first i steps are applied, and reach this
pub record IsSoFar (P : Protocol) (steps : List Step) (i : ℕ) (c : Configuration) : Type 0 where
  pub within : i ≤ length steps
  pub reached : run P (take i steps) ≡ Some c
  pub none_refused : (number : ℕ) (r : Refusal) → number ≤ i → ¬ IsRefusedAt P steps number r

-- no step has the number 0
no_zeroth : (P : Protocol) (steps : List Step) (number : ℕ) (r : Refusal) → number ≤ 0 → ¬ IsRefusedAt P steps number r
no_zeroth P steps zero r le refused = cc (refused.next)
no_zeroth P steps (suc number) r le refused = omega (arith, le)

take_none : {A : Type 0} (xs : List A) → take 0 xs ≡ []
take_none [] = refl
take_none (x ∷ xs) = refl

pub IsSoFar-none : (P : Protocol) (steps : List Step) → IsSoFar P steps 0 (start P)
IsSoFar-none P steps = record {
  within = omega arith;
  reached = ap (run P) (take_none steps);
  none_refused = λ number r le. no_zeroth P steps number r le;
}

-- the step that is next is refused, then
pub refused_next : (P : Protocol) (steps : List Step) (i : ℕ) (c : Configuration) (step : Step) (r : Refusal) → IsSoFar P steps i c → slice_get steps i ≡ Some step → limited_refusal P c step ≡ Some r → IsRefusedAt P steps (i + 1) r
refused_next P steps i c step r so_far next refused = record {
  before = c;
  step = step;
  reached = (let e : i + 1 - 1 ≡ i = omega arith in rw e so_far.reached);
  next = rw add-one next;
  refused = refused;
}

-- the step with the next number is the next step, in what the steps so far reach
not_refused_next : (P : Protocol) (steps : List Step) (i : ℕ) (c : Configuration) (step : Step) (r : Refusal) → IsSoFar P steps i c → slice_get steps i ≡ Some step → limited_refusal P c step ≡ None → ¬ IsRefusedAt P steps (i + 1) r
not_refused_next P steps i c step r so_far next allowed refused =
    let e : i + 1 - 1 ≡ i = omega arith in
    let there : run P (take i steps) ≡ Some refused.before = rw e at refused.reached in
    let here : slice_get steps i ≡ Some refused.step = rw add-one at refused.next in
    let before = some_one _ _ _ so_far.reached there in
    let same = some_one _ _ _ next here in
    let no = sym allowed ∙ (λ k. limited_refusal P (before k) (same k)) ∙ refused.refused in
    cc no

pub IsSoFar-push : (P : Protocol) (steps : List Step) (i : ℕ) (c d : Configuration) (step : Step) → IsSoFar P steps i c → slice_get steps i ≡ Some step → limited_refusal P c step ≡ None → after_step P c step ≡ Some d → IsSoFar P steps (i + 1) d
IsSoFar-push P steps i c d step so_far next allowed applied = record {
  within = (let inside = slice_get_within steps i step next in omega (arith, inside));
  reached = ap (run P) (take_next steps i step next) ∙ after_steps-append P (take i steps) (step ∷ []) (start P)
      ∙ ap (option_and_then (λ e. after_steps P e (step ∷ []))) so_far.reached ∙ ap (option_and_then (λ e. after_steps P e [])) applied;
  none_refused = λ number r le refused. elim (cases_lt i number) [
    | inl above ↦ (let e : number ≡ i + 1 = omega (arith, le, above) in not_refused_next P steps i c step r so_far next allowed (subst (λ n. IsRefusedAt P steps n r) e refused))
    | inr below ↦ so_far.none_refused number r below refused
  ];
}

-- all steps are applied
pub IsSoFar-end : (P : Protocol) (steps : List Step) (i : ℕ) (c : Configuration) → IsSoFar P steps i c → length steps ≤ i → IsDone P steps c
IsSoFar-end P steps i c so_far all = record {
  ends = ap (run P) (sym (take_all_of steps i all)) ∙ so_far.reached;
  none_refused = λ number r refused. (let within = numbered-there steps number refused.step refused.next in so_far.none_refused number r (omega (arith, within.1, all)) refused);
}

-- the next step is the first that is refused
pub IsSoFar-stop : (P : Protocol) (steps : List Step) (i : ℕ) (c : Configuration) (step : Step) (r : Refusal) → IsSoFar P steps i c → slice_get steps i ≡ Some step → limited_refusal P c step ≡ Some r → IsFirstRefused P steps (i + 1) r
IsSoFar-stop P steps i c step r so_far next refused = record {
  refused = refused_next P steps i c step r so_far next refused;
  first = λ earlier other before. so_far.none_refused earlier other (omega (arith, before));
}

-- the item at an index, as contracts see it
pub item_at : {A B : Type 0} (f : A → B) (xs : List A) (i : ℕ) (x : A) → i < length xs → x ≡ get_or xs i x → slice_get (map f xs) i ≡ Some (f x)
item_at f xs i x within is = slice_get-map f xs i ∙ ap (option_map f) (slice_get-get_or xs i x within ∙ ap Some (sym is))
