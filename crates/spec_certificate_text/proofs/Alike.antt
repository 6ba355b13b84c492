-- Two readers that go on alike: each finds what the other finds, and tells the same faults.
use Rattle.std.proofs.Common.{◌≡◌, ℕ, if◌then◌else◌, Bool, true, false, List, refl, sym, subst}
use Rattle.spec_certificate_text.specs.Terms.{Code}
use Rattle.spec_certificate_text.specs.Outcomes.{Outcome, Found, Faulty, next}

pub data Alike {X Y : Type 0} (R : X → Y → Type 0) : Outcome X → Outcome Y → Type 0 where
  found : (x : X) → (y : Y) → (place : ℕ) → (rest : List ℕ) → R x y → Alike R (Found x place rest) (Found y place rest)
  faulty : (place : ℕ) → (code : Code) → Alike R (Faulty place code) (Faulty place code)

pub next_alike : {X Y V W : Type 0} (R : X → Y → Type 0) (Q : V → W → Type 0) (o : Outcome X) (p : Outcome Y) (f : X → ℕ → List ℕ → Outcome V) (g : Y → ℕ → List ℕ → Outcome W)
    → Alike R o p → ((x : X) (y : Y) (place : ℕ) (rest : List ℕ) → R x y → Alike Q (f x place rest) (g y place rest)) → Alike Q (next o f) (next p g)
next_alike R Q _ _ f g (found x y place rest is) more = more x y place rest is
next_alike R Q _ _ f g (faulty place code) more = faulty place code

-- behind what both read
pub same_alike : {X V W : Type 0} (Q : V → W → Type 0) (o : Outcome X) (f : X → ℕ → List ℕ → Outcome V) (g : X → ℕ → List ℕ → Outcome W)
    → ((x : X) (place : ℕ) (rest : List ℕ) → Alike Q (f x place rest) (g x place rest)) → Alike Q (next o f) (next o g)
same_alike Q (Found x place rest) f g more = more x place rest
same_alike Q (Faulty place code) f g more = faulty place code

pub if_alike : {V W : Type 0} (Q : V → W → Type 0) (b : Bool) (o p : Outcome V) (q r : Outcome W) → Alike Q o q → Alike Q p r → Alike Q (if b then o else p) (if b then q else r)
if_alike Q true o p q r first second = first
if_alike Q false o p q r first second = second

pub next_next : {X Y V : Type 0} (o : Outcome X) (f : X → ℕ → List ℕ → Outcome Y) (g : Y → ℕ → List ℕ → Outcome V) → next (next o f) g ≡ next o (λ x place rest. next (f x place rest) g)
next_next (Found x place rest) f g = refl
next_next (Faulty place code) f g = refl

-- the second goes on within what it reads
pub within_alike : {X Y V W : Type 0} (Q : V → W → Type 0) (o : Outcome V) (p : Outcome X) (f : X → ℕ → List ℕ → Outcome Y) (g : Y → ℕ → List ℕ → Outcome W)
    → Alike Q o (next p (λ x place rest. next (f x place rest) g)) → Alike Q o (next (next p f) g)
within_alike Q o p f g alike = subst (λ q. Alike Q o q) (sym (next_next p f g)) alike

pub both : {X Y : Type 0} (R : X → Y → Type 0) (o p : Outcome X) (q r : Outcome Y) → o ≡ p → q ≡ r → Alike R p r → Alike R o q
both R o p q r one two alike = subst (λ x. Alike R x q) (sym one) (subst (λ y. Alike R p y) (sym two) alike)
