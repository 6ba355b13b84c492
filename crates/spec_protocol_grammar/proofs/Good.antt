-- What a reader has to be, and how readers are put together.
use Rattle.std.proofs.Common.{◌≡◌, ◌≢◌, ℕ, ◌<◌, ◌≤◌, Bool, true, false, List, refl, sym, ap, subst, inl, inr, ◌∙◌, arith}
use Rattle.std.proofs.lemmas.Bool.{cases_lt}
use Rattle.spec_protocol_grammar.specs.declared.class.Class.{Class}
use Rattle.spec_protocol_grammar.specs.declared.class.Class.TheVariants as w
use Rattle.spec_protocol_grammar.specs.Classes.{Source}
use Rattle.spec_protocol_grammar.specs.Spelling.{Item, Words, IsShallow, IsGreedy}
use Rattle.spec_protocol_grammar.specs.Refusals.{LeadsTo, DeepAt}
use Rattle.spec_protocol_grammar.specs.Reading.{Read, Found, Unexpected, TooDeep, Tired, Reader, step}
use Rattle.spec_protocol_grammar.proofs.Items.{words_later, leads_later, deep_later}

-- the file does not end between these places
abbrev pub Inside : Source → ℕ → ℕ → Type 0
Inside s at i = (k : ℕ) → at ≤ k → k < i → (s k).class ≢ w.End

-- the same, but for what ends the file
abbrev pub InsideUnless : Bool → Source → ℕ → ℕ → Type 0
InsideUnless true s at i = Unit {0}
InsideUnless false s at i = Inside s at i

-- what may stand in front of these classes
abbrev pub Firm : (Class → Type 0) → List Item → Type 0
Firm C items = (c : Class) → C c → IsGreedy items c

-- what was found is spelled there
pub record IsFound {X : Type 0} (last : Bool) (sp : X → List Item) (C : Class → Type 0) (s : Source) (at : ℕ) (x : X) (end : ℕ) : Type 0 where
  pub words : Words s at (sp x) end
  pub shallow : IsShallow (sp x)
  pub greedy : IsGreedy (sp x) (s end).class
  pub firm : Firm C (sp x)
  pub inside : InsideUnless last s at end

-- something goes on from the words before a fault
pub record IsFault {X : Type 0} (sp : X → List Item) (C : Class → Type 0) (s : Source) (at i : ℕ) : Type 0 where
  pub other : X
  pub leads : LeadsTo s at (sp other) i
  pub firm : Firm C (sp other)
  pub inside : Inside s at i

-- something goes too deep here
pub record IsDeep {X : Type 0} (sp : X → List Item) (C : Class → Type 0) (s : Source) (at i : ℕ) : Type 0 where
  pub other : X
  pub deep : DeepAt s at (sp other) i
  pub firm : Firm C (sp other)

abbrev pub IsRight : {X : Type 0} → Bool → (X → List Item) → (Class → Type 0) → Source → ℕ → Read X → Type 0
IsRight last sp C s at (Found x e) = IsFound last sp C s at x e
IsRight last sp C s at (Unexpected i) = IsFault sp C s at i
IsRight last sp C s at (TooDeep i) = IsDeep sp C s at i
IsRight last sp C s at (Tired i) = at ≤ i

-- what reading gives where these items are spelled: what they are, or the first of them that stands too deep
pub data Outcome {X : Type 0} (most : ℕ) (s : Source) (at : ℕ) (items : List Item) (x : X) (end : ℕ) (read : Read X) : Type 0 where
  finds : read ≡ Found x end → IsShallow items → Outcome most s at items x end read
  sinks : (i : ℕ) → read ≡ TooDeep i → DeepAt s at items i → Outcome most s at items x end read
  tires : (i : ℕ) → read ≡ Tired i → most ≤ i → i ≤ end → Outcome most s at items x end read

-- the files are the same up to this place
abbrev pub Agree : Source → Source → ℕ → Type 0
Agree s t k = (n : ℕ) → n ≤ k → t n ≡ s n

-- reading has looked no further
abbrev pub Within : {X : Type 0} → ℕ → Read X → Type 0
Within k (Found x e) = e ≤ k
Within k (Unexpected i) = i ≤ k
Within k (TooDeep i) = i ≤ k
Within k (Tired i) = i ≤ k

abbrev pub IsLocal : {X : Type 0} → Reader X → Type 0
IsLocal r = (s t : Source) (at k : ℕ) → Agree s t k → Within k (r s at) → r t at ≡ r s at

-- what it reads is right, whatever it reads
pub record Sound {X : Type 0} (last : Bool) (sp : X → List Item) (C : Class → Type 0) (r : Reader X) : Type 0 where
  pub right : (s : Source) (at : ℕ) → IsRight last sp C s at (r s at)
  pub local : IsLocal r

abbrev pub IsComplete : {X : Type 0} → ℕ → (ℕ → Type 0) → (X → List Item) → Reader X → Type 0
IsComplete {X} most Low sp r =
    (s : Source) (at : ℕ) (x : X) (end : ℕ) → Low at → Words s at (sp x) end → IsGreedy (sp x) (s end).class → Outcome most s at (sp x) x end (r s at)

-- it reads what is spelled so in front of these classes, and all of it from these places on
pub record Good {X : Type 0} (most : ℕ) (Low : ℕ → Type 0) (last : Bool) (sp : X → List Item) (C : Class → Type 0) (r : Reader X) : Type 0 where
  pub some : X
  pub some_firm : Firm C (sp some)
  pub sound : Sound last sp C r
  pub complete : IsComplete most Low sp r

-- no place is before the one where reading began
abbrev pub Later : {X : Type 0} → ℕ → Read X → Type 0
Later at (Found x e) = at ≤ e
Later at (Unexpected i) = at ≤ i
Later at (TooDeep i) = at ≤ i
Later at (Tired i) = at ≤ i

pub right_later : {X : Type 0} (last : Bool) (sp : X → List Item) (C : Class → Type 0) (s : Source) (at : ℕ) (o : Read X) → IsRight last sp C s at o → Later at o
right_later last sp C s at (Found x e) h = words_later s (sp x) at e h.words
right_later last sp C s at (Unexpected i) h = leads_later s (sp h.other) at i h.leads
right_later last sp C s at (TooDeep i) h = deep_later s (sp h.other) at i h.deep
right_later last sp C s at (Tired i) h = h

pub later_within : {X : Type 0} (at k : ℕ) (o : Read X) → Later at o → Within k o → at ≤ k
later_within at k (Found x e) l h = omega arith
later_within at k (Unexpected i) l h = omega arith
later_within at k (TooDeep i) l h = omega arith
later_within at k (Tired i) l h = omega arith

pub inside_append : (s : Source) (at mid end : ℕ) → Inside s at mid → Inside s mid end → Inside s at end
inside_append s at mid end g h k a b = elim (cases_lt k mid) [ inl before ↦ g k a before | inr behind ↦ h k behind b ]

-- a step whose first part begins at `start`, behind words that are right
pub step_right : {X Y : Type 0} (last last' : Bool) (sp : X → List Item) (C : Class → Type 0) (sp' : Y → List Item) (C' : Class → Type 0) (s : Source) (at start : ℕ) (o : Read X) (f : X → ℕ → Read Y)
    → IsRight last sp C s start o → at ≤ start → Inside s at start → (y : X → Y)
    → ((x : X) (i : ℕ) → LeadsTo s start (sp x) i → LeadsTo s at (sp' (y x)) i)
    → ((x : X) (i : ℕ) → DeepAt s start (sp x) i → DeepAt s at (sp' (y x)) i)
    → ((x : X) → Firm C (sp x) → Firm C' (sp' (y x)))
    → ((x : X) (e : ℕ) → IsFound last sp C s start x e → IsRight last' sp' C' s at (f x e))
    → IsRight last' sp' C' s at (step o f)
step_right last last' sp C sp' C' s at start (Found x e) f h l n y leads deep firm found = found x e h
step_right last last' sp C sp' C' s at start (Unexpected i) f h l n y leads deep firm found =
    record { other = y h.other; leads = leads h.other i h.leads; firm = firm h.other h.firm; inside = inside_append s at start i n h.inside }
step_right last last' sp C sp' C' s at start (TooDeep i) f h l n y leads deep firm found =
    record { other = y h.other; deep = deep h.other i h.deep; firm = firm h.other h.firm }
step_right last last' sp C sp' C' s at start (Tired i) f h l n y leads deep firm found = omega arith

pub step_local : {X Y : Type 0} (k : ℕ) (o o' : Read X) (f g : X → ℕ → Read Y) → (Within k o → o' ≡ o)
    → ((x : X) (e : ℕ) → o ≡ Found x e → Later e (f x e))
    → ((x : X) (e : ℕ) → o ≡ Found x e → e ≤ k → Within k (f x e) → g x e ≡ f x e)
    → Within k (step o f) → step o' g ≡ step o f
step_local k (Found x e) o' f g same later next h =
    let near : e ≤ k = later_within e k (f x e) (later x e refl) h in
    ap (λ p. step p g) (same near) ∙ next x e refl near h
step_local k (Unexpected i) o' f g same later next h = ap (λ p. step p g) (same h)
step_local k (TooDeep i) o' f g same later next h = ap (λ p. step p g) (same h)
step_local k (Tired i) o' f g same later next h = ap (λ p. step p g) (same h)

pub outcome_step : {X Y : Type 0} {most : ℕ} {s : Source} {at start : ℕ} {a items : List Item} {x : X} {y : Y} {mid end : ℕ} (o : Read X) (f : X → ℕ → Read Y)
    → Outcome most s start a x mid o
    → (IsShallow a → Outcome most s at items y end (f x mid))
    → ((i : ℕ) → DeepAt s start a i → DeepAt s at items i) → mid ≤ end
    → Outcome most s at items y end (step o f)
outcome_step {X} {Y} {most} {s} {at} {start} {a} {items} {x} {y} {mid} {end} o f (finds e d) found deep l =
    subst (λ (p : Read X). Outcome most s at items y end (step p f)) (sym e) (found d)
outcome_step o f (sinks i e d) found deep l = sinks i (ap (λ p. step p f) e) (deep i d)
outcome_step o f (tires i e m n) found deep l = tires i (ap (λ p. step p f) e) m (omega arith)
