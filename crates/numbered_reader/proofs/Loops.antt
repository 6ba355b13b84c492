-- Lines of which some are read already.
use Rattle.std.proofs.Common.{◌≡◌, ◌≢◌, ℕ, ◌+◌, ◌-◌, ◌<◌, ◌≤◌, List, [], ◌∷◌, ◌++◌, sym, ap, subst, ◌∙◌, arith}
use Rattle.spec_certificate_text.specs.Terms as terms
use Rattle.spec_certificate_text.specs.Outcomes.{Outcome, Found, Faulty, next, front, Reader}
use Rattle.spec_node_reading.specs.Loops.{lines_through}
use Rattle.spec_certificate_text.specs.Rounds.{puts}
use Rattle.fact_reader.specs.declared.error.CertError.{CertError}
use Rattle.fact_reader.specs.Gives.{HasFault}
use Rattle.fact_reader.proofs.Things.{next_fault}
use Rattle.node_reader.proofs.Loops.{AreThrough, lines_on, lines_fault, lines_end, lines_over}

-- Lines that put what they have behind what was read.

-- these lines have come to what was read and to the state, and at most so many more go on with the rest
pub record AreLined {S A : Type 0} (letter : ℕ) (one : S → Reader (A × S)) (whole : Outcome (List A × S)) (most : ℕ) (rest : List ℕ) (place : ℕ) (xs : List A) (s : S) : Type 0 where
  pub read : lines_through letter (puts one) most (xs, s) rest place ≡ whole

through : {S A : Type 0} (letter : ℕ) (one : S → Reader (A × S)) (whole : Outcome (List A × S)) (most : ℕ) (rest : List ℕ) (place : ℕ) (xs : List A) (s : S) → AreLined letter one whole most rest place xs s
    → AreThrough letter (puts one) whole most rest place (xs, s)
through letter one whole most rest place xs s going = record { read = going.read }

pub lined_start : {S A : Type 0} (letter : ℕ) (one : S → Reader (A × S)) (most : ℕ) (rest : List ℕ) (place : ℕ) (xs : List A) (s : S) → xs ≡ []
    → AreLined letter one (lines_through letter (puts one) most ([], s) rest place) (most - 0) rest place xs s
lined_start {S} {A} letter one most rest place xs s none =
    let all : most - 0 ≡ most = omega arith in
    subst (λ (ys : List A). AreLined letter one (lines_through letter (puts one) most ([], s) rest place) (most - 0) rest place ys s) (sym none)
    record { read = ap (λ n. lines_through letter (puts one) n ([], s) rest place) all }

abbrev line_behind : {S A : Type 0} → List A → A × S → ℕ → List ℕ → Outcome (List A × S)
line_behind xs x place rest = Found (xs ++ x.0 ∷ [], x.1) place rest

puts_on : {S A : Type 0} (one : S → Reader (A × S)) (rest : List ℕ) (place : ℕ) (xs : List A) (s : S) (behind : List ℕ) (at : ℕ) (ys : List A) (x : A) (v : S)
    → ys ≡ xs ++ x ∷ [] → one s rest place ≡ Found (x, v) at behind → puts one (xs, s) rest place ≡ Found (ys, v) at behind
puts_on one rest place xs s behind at ys x v is found = ap (λ o. next o (line_behind xs)) found ∙ ap (λ zs. Found (zs, v) at behind) (sym is)

pub lined_on : {S A : Type 0} (letter : ℕ) (one : S → Reader (A × S)) (whole : Outcome (List A × S)) (most round : ℕ) (rest : List ℕ) (place : ℕ) (xs : List A) (s : S) (b : ℕ) (behind : List ℕ) (at : ℕ) (ys : List A) (x : A) (v : S)
    → ys ≡ xs ++ x ∷ [] → AreLined letter one whole (most - round) rest place xs s → round < most → b ≡ front rest → b ≡ letter → one s rest place ≡ Found (x, v) at behind
    → AreLined letter one whole (most - (round + 1)) behind at ys v
lined_on letter one whole most round rest place xs s b behind at ys x v is going below byte begins found =
    let more = lines_on letter (puts one) whole most round rest place (xs, s) b behind at (ys, v) (through letter one whole (most - round) rest place xs s going) below byte begins
    (puts_on one rest place xs s behind at ys x v is found) in
    record { read = more.read }

pub lined_fault : {S A : Type 0} (letter : ℕ) (one : S → Reader (A × S)) (whole : Outcome (List A × S)) (most round : ℕ) (rest : List ℕ) (place : ℕ) (xs : List A) (s : S) (b : ℕ) (e : CertError)
    → AreLined letter one whole (most - round) rest place xs s → round < most → b ≡ front rest → b ≡ letter → HasFault e (one s rest place) → HasFault e whole
lined_fault {S} {A} letter one whole most round rest place xs s b e going below byte begins fault =
    lines_fault letter (puts one) whole most round rest place (xs, s) b e (through letter one whole (most - round) rest place xs s going) below byte begins
    (next_fault {B = List A × S} e (one s rest place) (line_behind xs) fault)

pub lined_end : {S A : Type 0} (letter : ℕ) (one : S → Reader (A × S)) (whole : Outcome (List A × S)) (most : ℕ) (rest : List ℕ) (place : ℕ) (xs : List A) (s : S) (b : ℕ) → AreLined letter one whole most rest place xs s
    → b ≡ front rest → b ≢ letter → whole ≡ Found (xs, s) place rest
lined_end letter one whole most rest place xs s b going byte other = lines_end letter (puts one) whole most rest place (xs, s) b (through letter one whole most rest place xs s going) byte other

pub lined_over : {S A : Type 0} (letter : ℕ) (one : S → Reader (A × S)) (whole : Outcome (List A × S)) (most round : ℕ) (rest : List ℕ) (place : ℕ) (xs : List A) (s : S) (b : ℕ)
    → AreLined letter one whole (most - round) rest place xs s → most ≤ round → b ≡ front rest → b ≡ letter → whole ≡ Faulty place terms.Count
lined_over letter one whole most round rest place xs s b going past byte begins =
    lines_over letter (puts one) whole most round rest place (xs, s) b (through letter one whole (most - round) rest place xs s going) past byte begins

pub ruleset going = (lined_start)
