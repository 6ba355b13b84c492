-- Lines of which some are read already.
use Rattle.std.proofs.Common.{◌≡◌, ◌≢◌, ℕ, zero, suc, ◌+◌, ◌-◌, ◌<◌, ◌≤◌, ◌==◌, if◌then◌else◌, true, false, List, length, drop, sym, ap, subst, ◌∙◌, arith, length-drop}
use Rattle.std.proofs.lemmas.Bool.Decides.{nat_tests}
use Rattle.spec_certificate_text.specs.Terms as terms
use Rattle.spec_certificate_text.specs.Outcomes.{Outcome, Found, Faulty, next, front, Reader}
use Rattle.spec_node_reading.specs.Loops.{lines_through}
use Rattle.spec_node_counts.proofs.Steps.{behind_line, line_more, line_full}
use Rattle.fact_reader.specs.declared.error.CertError.{CertError}
use Rattle.fact_reader.specs.Gives.{HasFault}
use Rattle.fact_reader.proofs.Things.{next_fault}

-- these lines have come to the state, and at most so many more go on with the rest
pub record AreThrough {S : Type 0} (letter : ℕ) (one : S → Reader S) (whole : Outcome S) (most : ℕ) (rest : List ℕ) (place : ℕ) (s : S) : Type 0 where
  pub read : lines_through letter one most s rest place ≡ whole

is_letter : (a b c : ℕ) → c ≡ a → c ≡ b → (a == b) ≡ true
is_letter a b c e f = grind (arith, nat_tests)

is_other : (a b c : ℕ) → c ≡ a → c ≢ b → (a == b) ≡ false
is_other a b c e f = grind (arith, nat_tests)

-- from the first line on, of no more lines than bytes
pub lines_start : {S : Type 0} (letter : ℕ) (one : S → Reader S) (bytes : List ℕ) (at : ℕ) (s t : S) → t ≡ s → AreThrough letter one (lines_through letter one (length (drop at bytes)) s (drop at bytes) at) (length bytes - at) (drop at bytes) at t
lines_start {S} letter one bytes at s t is =
    subst (λ (u : S). AreThrough letter one (lines_through letter one (length (drop at bytes)) s (drop at bytes) at) (length bytes - at) (drop at bytes) at u) (sym is)
    record { read = ap (λ n. lines_through letter one n s (drop at bytes) at) (sym (length-drop at bytes)) }

one_line : {S : Type 0} (letter : ℕ) (one : S → Reader S) (whole : Outcome S) (most round : ℕ) (rest : List ℕ) (place : ℕ) (s : S) (b : ℕ) → AreThrough letter one whole (most - round) rest place s → round < most
    → b ≡ front rest → b ≡ letter → whole ≡ next (one s rest place) (behind_line letter one (most - (round + 1)))
one_line letter one whole most round rest place s b going below is begins =
    let left : most - round ≡ suc (most - (round + 1)) = omega arith in
    sym going.read ∙ (ap (λ n. lines_through letter one n s rest place) left
    ∙ (line_more letter one (most - (round + 1)) s rest place
    ∙ ap (λ t. if t then next (one s rest place) (behind_line letter one (most - (round + 1))) else Found s place rest) (is_letter (front rest) letter b is begins)))

pub lines_on : {S : Type 0} (letter : ℕ) (one : S → Reader S) (whole : Outcome S) (most round : ℕ) (rest : List ℕ) (place : ℕ) (s : S) (b : ℕ) (behind : List ℕ) (at : ℕ) (t : S) → AreThrough letter one whole (most - round) rest place s → round < most
    → b ≡ front rest → b ≡ letter → one s rest place ≡ Found t at behind → AreThrough letter one whole (most - (round + 1)) behind at t
lines_on letter one whole most round rest place s b behind at t going below byte begins found =
    record { read = sym (one_line letter one whole most round rest place s b going below byte begins ∙ ap (λ o. next o (behind_line letter one (most - (round + 1)))) found) }

pub lines_fault : {S : Type 0} (letter : ℕ) (one : S → Reader S) (whole : Outcome S) (most round : ℕ) (rest : List ℕ) (place : ℕ) (s : S) (b : ℕ) (e : CertError) → AreThrough letter one whole (most - round) rest place s → round < most
    → b ≡ front rest → b ≡ letter → HasFault e (one s rest place) → HasFault e whole
lines_fault {S} letter one whole most round rest place s b e going below byte begins fault =
    subst (λ (o : Outcome S). HasFault e o) (sym (one_line letter one whole most round rest place s b going below byte begins))
    (next_fault {B = S} e (one s rest place) (behind_line letter one (most - (round + 1))) fault)

pub lines_end : {S : Type 0} (letter : ℕ) (one : S → Reader S) (whole : Outcome S) (most : ℕ) (rest : List ℕ) (place : ℕ) (s : S) (b : ℕ) → AreThrough letter one whole most rest place s
    → b ≡ front rest → b ≢ letter → whole ≡ Found s place rest
lines_end letter one whole most rest place s b going byte other = sym going.read ∙ by most
  where
    by : (n : ℕ) → lines_through letter one n s rest place ≡ Found s place rest
    by zero = line_full letter one s rest place ∙ ap (λ t. if t then Faulty place terms.Count else Found s place rest) (is_other (front rest) letter b byte other)
    by (suc m) = line_more letter one m s rest place ∙ ap (λ t. if t then next (one s rest place) (behind_line letter one m) else Found s place rest) (is_other (front rest) letter b byte other)

pub lines_over : {S : Type 0} (letter : ℕ) (one : S → Reader S) (whole : Outcome S) (most round : ℕ) (rest : List ℕ) (place : ℕ) (s : S) (b : ℕ) → AreThrough letter one whole (most - round) rest place s → most ≤ round
    → b ≡ front rest → b ≡ letter → whole ≡ Faulty place terms.Count
lines_over letter one whole most round rest place s b going past byte begins =
    let none : most - round ≡ 0 = omega arith in
    sym going.read ∙ (ap (λ n. lines_through letter one n s rest place) none
    ∙ (line_full letter one s rest place ∙ ap (λ t. if t then Faulty place terms.Count else Found s place rest) (is_letter (front rest) letter b byte begins)))

pub ruleset going = (lines_start)
