-- Things in a row, of which some are read already.
use Rattle.std.proofs.Common.{◌≡◌, ℕ, suc, ◌+◌, ◌-◌, ◌<◌, ◌≤◌, if◌then◌else◌, Bool, true, false, List, [], ◌∷◌, ◌++◌, length, drop, refl, sym, ap, subst, ◌∙◌, arith, length-drop}
use Rattle.spec_certificate_text.specs.Terms as terms
use Rattle.spec_certificate_text.specs.Outcomes.{Outcome, Found, Faulty, next, Reader, things_from, things}
use Rattle.fact_reader.specs.declared.error.CertError.{CertError}
use Rattle.fact_reader.specs.declared.error.CertError.TheVariants.{Syntax, Number, Symbol, Arity, Count, NodeOrder, NodeLarge, Memory}
use Rattle.fact_reader.specs.Gives.{HasFault}

-- a fault of the first part is the fault of the whole
pub next_fault : {A B : Type 0} (e : CertError) (o : Outcome A) (f : A → ℕ → List ℕ → Outcome B) → HasFault e o → HasFault e (next o f)
next_fault (Syntax p) o f h = ap (λ x. next x f) h
next_fault (Number p) o f h = ap (λ x. next x f) h
next_fault (Symbol p) o f h = ap (λ x. next x f) h
next_fault (Arity p) o f h = ap (λ x. next x f) h
next_fault (Count p) o f h = ap (λ x. next x f) h
next_fault (NodeOrder p) o f h = ap (λ x. next x f) h
next_fault (NodeLarge p) o f h = ap (λ x. next x f) h
next_fault (Memory m) o f h = tt

-- these things are read, and reading of so many more goes on with the rest
pub record IsGoing {A : Type 0} (one : Reader (A × Bool)) (whole : Outcome (List A)) (most : ℕ) (rest : List ℕ) (place : ℕ) (xs : List A) : Type 0 where
  pub read : things_from one most xs rest place ≡ whole

abbrev behind_thing : {A : Type 0} → Reader (A × Bool) → ℕ → List A → A × Bool → ℕ → List ℕ → Outcome (List A)
behind_thing one most xs x place rest = if x.1 then things_from one most (xs ++ x.0 ∷ []) rest place else Found (xs ++ x.0 ∷ []) place rest

pub things_start : {A : Type 0} (one : Reader (A × Bool)) (bytes : List ℕ) (at : ℕ) (xs : List A) → xs ≡ [] → IsGoing one (things one (drop at bytes) at) (length bytes - at) (drop at bytes) at xs
things_start {A} one bytes at xs none =
    subst (λ (ys : List A). IsGoing one (things one (drop at bytes) at) (length bytes - at) (drop at bytes) at ys) (sym none)
    record { read = ap (λ n. things_from one n [] (drop at bytes) at) (sym (length-drop at bytes)) }

one_more : {A : Type 0} (one : Reader (A × Bool)) (m : ℕ) (xs : List A) (bytes : List ℕ) (at : ℕ) → things_from one (suc m) xs bytes at ≡ next (one bytes at) (behind_thing one m xs)
unfolding things_from
one_more one m xs bytes at = refl

more : {A : Type 0} (one : Reader (A × Bool)) (whole : Outcome (List A)) (most round : ℕ) (rest : List ℕ) (place : ℕ) (xs : List A) → IsGoing one whole (most - round) rest place xs → round < most
    → whole ≡ next (one rest place) (behind_thing one (most - (round + 1)) xs)
more one whole most round rest place xs going below =
    let left : suc (most - (round + 1)) ≡ most - round = omega arith in
    sym going.read ∙ (ap (λ n. things_from one n xs rest place) (sym left) ∙ one_more one (most - (round + 1)) xs rest place)

pub things_on : {A : Type 0} (one : Reader (A × Bool)) (whole : Outcome (List A)) (most round : ℕ) (rest : List ℕ) (place : ℕ) (xs : List A) (behind : List ℕ) (at : ℕ) (ys : List A) (x : A) (goes : Bool)
    → ys ≡ xs ++ x ∷ [] → goes ≡ true → IsGoing one whole (most - round) rest place xs → round < most → one rest place ≡ Found (x, goes) at behind → IsGoing one whole (most - (round + 1)) behind at ys
things_on {A} one whole most round rest place xs behind at ys x goes is on going below found =
    subst (λ (zs : List A). IsGoing one whole (most - (round + 1)) behind at zs) (sym is)
    record { read = sym (more one whole most round rest place xs going below ∙ ap (λ o. next o (behind_thing one (most - (round + 1)) xs)) (found ∙ ap (λ b. Found (x, b) at behind) on)) }

pub things_end : {A : Type 0} (one : Reader (A × Bool)) (whole : Outcome (List A)) (most round : ℕ) (rest : List ℕ) (place : ℕ) (xs : List A) (behind : List ℕ) (at : ℕ) (ys : List A) (x : A) (goes : Bool)
    → ys ≡ xs ++ x ∷ [] → goes ≡ false → IsGoing one whole (most - round) rest place xs → round < most → one rest place ≡ Found (x, goes) at behind → whole ≡ Found ys at behind
things_end one whole most round rest place xs behind at ys x goes is ends going below found =
    more one whole most round rest place xs going below
    ∙ (ap (λ o. next o (behind_thing one (most - (round + 1)) xs)) (found ∙ ap (λ b. Found (x, b) at behind) ends)
    ∙ ap (λ zs. Found zs at behind) (sym is))

pub things_fault : {A : Type 0} (one : Reader (A × Bool)) (whole : Outcome (List A)) (most round : ℕ) (rest : List ℕ) (place : ℕ) (xs : List A) (e : CertError) → IsGoing one whole (most - round) rest place xs → round < most
    → HasFault e (one rest place) → HasFault e whole
things_fault {A} one whole most round rest place xs e going below fault =
    subst (λ (o : Outcome (List A)). HasFault e o) (sym (more one whole most round rest place xs going below))
    (next_fault {B = List A} e (one rest place) (behind_thing one (most - (round + 1)) xs) fault)

none_left : {A : Type 0} (one : Reader (A × Bool)) (xs : List A) (bytes : List ℕ) (at : ℕ) → things_from one 0 xs bytes at ≡ Faulty at terms.Syntax
unfolding things_from
none_left one xs bytes at = refl

pub things_out : {A : Type 0} (one : Reader (A × Bool)) (whole : Outcome (List A)) (most round : ℕ) (rest : List ℕ) (place : ℕ) (xs : List A) → IsGoing one whole (most - round) rest place xs → most ≤ round → whole ≡ Faulty place terms.Syntax
things_out one whole most round rest place xs going past =
    let left : most - round ≡ 0 = omega arith in
    sym going.read ∙ (ap (λ n. things_from one n xs rest place) left ∙ none_left one xs rest place)

pub ruleset going = (things_start, things_fault)
