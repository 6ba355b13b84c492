-- Rounds of which some are read already.
use Rattle.std.proofs.Common.{◌≡◌, ℕ, suc, ◌+◌, ◌-◌, ◌<◌, ◌≤◌, if◌then◌else◌, Bool, true, false, List, [], ◌∷◌, ◌++◌, length, map, drop, sym, ap, subst, ◌∙◌, arith, length-drop}
use Rattle.std.specs.List.{AllByRecursion}
use Rattle.std.proofs.lemmas.List.{map-append}
use Rattle.spec_calculus.proofs.Items.{each-append}
use Rattle.spec_certificate_text.specs.Terms as terms
use Rattle.spec_certificate_text.specs.Outcomes.{Outcome, Found, Faulty, next, Reader}
use Rattle.spec_certificate_text.specs.Rounds.{rounds, collects}
use Rattle.spec_certificate_text.proofs.Rounds.{behind_round, one_more, none_left}
use Rattle.fact_reader.specs.declared.error.CertError.{CertError}
use Rattle.fact_reader.specs.Gives.{HasFault}
use Rattle.fact_reader.proofs.Things.{next_fault}

-- these rounds have come to the state, and so many more go on with the rest
pub record AreGoing {S : Type 0} (one : S → Reader (S × Bool)) (whole : Outcome S) (most : ℕ) (rest : List ℕ) (place : ℕ) (s : S) : Type 0 where
  pub read : rounds one most s rest place ≡ whole

more : {S : Type 0} (one : S → Reader (S × Bool)) (whole : Outcome S) (most round : ℕ) (rest : List ℕ) (place : ℕ) (s : S) → AreGoing one whole (most - round) rest place s → round < most
    → whole ≡ next (one s rest place) (behind_round one (most - (round + 1)))
more one whole most round rest place s going below =
    let left : suc (most - (round + 1)) ≡ most - round = omega arith in
    sym going.read ∙ (ap (λ n. rounds one n s rest place) (sym left) ∙ one_more one (most - (round + 1)) s rest place)

-- from the first on
pub row_start : {S A : Type 0} (one : S → Reader ((A × Bool) × S)) (bytes : List ℕ) (at : ℕ) (xs : List A) (s : S) → at ≤ length bytes → xs ≡ []
    → AreGoing (collects one) (rounds (collects one) (suc (length (drop at bytes))) ([], s) (drop at bytes) at) (length bytes + 1 - at) (drop at bytes) at (xs, s)
row_start {S} {A} one bytes at xs s within none =
    subst (λ (ys : List A). AreGoing (collects one) (rounds (collects one) (suc (length (drop at bytes))) ([], s) (drop at bytes) at) (length bytes + 1 - at) (drop at bytes) at (ys, s)) (sym none)
    (let all : length bytes + 1 - at ≡ suc (length (drop at bytes)) = omega (arith, length-drop at bytes, within) in record { read = ap (λ n. rounds (collects one) n ([], s) (drop at bytes) at) all })

abbrev put_behind : {S A : Type 0} → List A → (A × Bool) × S → ℕ → List ℕ → Outcome ((List A × S) × Bool)
put_behind xs x place rest = Found ((xs ++ x.0.0 ∷ [], x.1), x.0.1) place rest

-- a fault of a round is the fault of all
pub row_fault : {S A : Type 0} (one : S → Reader ((A × Bool) × S)) (whole : Outcome (List A × S)) (most round : ℕ) (rest : List ℕ) (place : ℕ) (xs : List A) (s : S) (e : CertError)
    → AreGoing (collects one) whole (most - round) rest place (xs, s) → round < most → HasFault e (one s rest place) → HasFault e whole
row_fault {S} {A} one whole most round rest place xs s e going below fault =
    subst (λ (o : Outcome (List A × S)). HasFault e o) (sym (more (collects one) whole most round rest place (xs, s) going below))
    (next_fault {B = List A × S} e (collects one (xs, s) rest place) (behind_round (collects one) (most - (round + 1))) (next_fault {B = (List A × S) × Bool} e (one s rest place) (put_behind xs) fault))

collected : {S A : Type 0} (one : S → Reader ((A × Bool) × S)) (rest : List ℕ) (place : ℕ) (xs : List A) (s : S) (behind : List ℕ) (at : ℕ) (ys : List A) (x : A) (goes : Bool) (v : S)
    → ys ≡ xs ++ x ∷ [] → one s rest place ≡ Found ((x, goes), v) at behind → collects one (xs, s) rest place ≡ Found ((ys, v), goes) at behind
collected one rest place xs s behind at ys x goes v is found =
    ap (λ o. next o (put_behind xs)) found ∙ ap (λ zs. Found ((zs, v), goes) at behind) (sym is)

row_goes : {S A : Type 0} (one : S → Reader ((A × Bool) × S)) (whole : Outcome (List A × S)) (most round : ℕ) (rest : List ℕ) (place : ℕ) (xs : List A) (s : S) (behind : List ℕ) (at : ℕ) (ys : List A) (x : A) (goes which : Bool) (v : S)
    → ys ≡ xs ++ x ∷ [] → goes ≡ which → AreGoing (collects one) whole (most - round) rest place (xs, s) → round < most → one s rest place ≡ Found ((x, goes), v) at behind
    → whole ≡ (if which then rounds (collects one) (most - (round + 1)) (ys, v) behind at else Found (ys, v) at behind)
row_goes one whole most round rest place xs s behind at ys x goes which v is on going below found =
    more (collects one) whole most round rest place (xs, s) going below
    ∙ (ap (λ o. next o (behind_round (collects one) (most - (round + 1)))) (collected one rest place xs s behind at ys x goes v is found)
    ∙ ap (λ b. if b then rounds (collects one) (most - (round + 1)) (ys, v) behind at else Found (ys, v) at behind) on)

-- the same of what is seen as something else

pub viewed_on : {S T A : Type 0} (f : T → A) (one : S → Reader ((A × Bool) × S)) (whole : Outcome (List A × S)) (most round : ℕ) (rest : List ℕ) (place : ℕ) (ts : List T) (s : S) (behind : List ℕ) (at : ℕ) (us : List T) (t : T) (goes : Bool) (v : S)
    → us ≡ ts ++ t ∷ [] → goes ≡ true → AreGoing (collects one) whole (most - round) rest place (map f ts, s) → round < most → one s rest place ≡ Found ((f t, goes), v) at behind
    → AreGoing (collects one) whole (most - (round + 1)) behind at (map f us, v)
viewed_on f one whole most round rest place ts s behind at us t goes v is on going below found =
    record { read = sym (row_goes one whole most round rest place (map f ts) s behind at (map f us) (f t) goes true v (ap (map f) is ∙ map-append f ts (t ∷ [])) on going below found) }

pub viewed_end : {S T A : Type 0} (f : T → A) (one : S → Reader ((A × Bool) × S)) (whole : Outcome (List A × S)) (most round : ℕ) (rest : List ℕ) (place : ℕ) (ts : List T) (s : S) (behind : List ℕ) (at : ℕ) (us : List T) (t : T) (goes : Bool) (v : S)
    → us ≡ ts ++ t ∷ [] → goes ≡ false → AreGoing (collects one) whole (most - round) rest place (map f ts, s) → round < most → one s rest place ≡ Found ((f t, goes), v) at behind
    → whole ≡ Found (map f us, v) at behind
viewed_end f one whole most round rest place ts s behind at us t goes v is ends going below found =
    row_goes one whole most round rest place (map f ts) s behind at (map f us) (f t) goes false v (ap (map f) is ∙ map-append f ts (t ∷ [])) ends going below found

pub row_out : {S : Type 0} (one : S → Reader (S × Bool)) (whole : Outcome S) (most round : ℕ) (rest : List ℕ) (place : ℕ) (s : S) → AreGoing one whole (most - round) rest place s → most ≤ round → whole ≡ Faulty place terms.Syntax
row_out one whole most round rest place s going past =
    let left : most - round ≡ 0 = omega arith in
    sym going.read ∙ (ap (λ n. rounds one n s rest place) left ∙ none_left one s rest place)

-- one more of which something is told
pub told_on : {T : Type 0} (Is : T → Type 0) (ts us : List T) (t : T) → us ≡ ts ++ t ∷ [] → AllByRecursion Is ts → Is t → AllByRecursion Is us
told_on {T} Is ts us t is told one = subst (λ (l : List T). AllByRecursion Is l) (sym is) (each-append Is ts (t ∷ []) told (one, tt))

pub ruleset rows = (row_start, row_fault)
