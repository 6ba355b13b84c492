-- Texts that are put one behind the other.
use Rattle.std.proofs.Common.{◌≡◌, ◌∙◌, ℕ, List, ◌++◌, ap, append_assoc}
use Rattle.std.specs.Prelude.{Result, Ok, Err, OnOk, is_ok, if◌then◌else◌}

-- words, and others behind them
pub behind : (start one two a b : List ℕ) → one ≡ start ++ a → two ≡ one ++ b → two ≡ start ++ (a ++ b)
behind start one two a b first second = second ∙ (ap (λ w. w ++ b) first ∙ append_assoc start a b)

-- words are there where putting them did not fail
pub where_put : {T E : Type 0} (r : Result T E) (was now words : List ℕ) → now ≡ (if is_ok r then was ++ words else was) → OnOk r (now ≡ was ++ words)
where_put (Ok x) was now words is = is
where_put (Err e) was now words is = tt
