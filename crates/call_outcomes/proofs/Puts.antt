-- Texts that are put one behind the other.
use Rattle.std.proofs.Common.{◌≡◌, List, ℕ, ◌++◌, codes, ap, ◌∙◌, append_assoc}
use Rattle.std.specs.Prelude.{Result, Ok, Err, OnOk, is_ok, if◌then◌else◌}
use Rattle.spec_calculus.specs.Runs.{Step}
use Rattle.call_outcomes.specs.VerdictText.{line, step_lines, run_lines}

-- words, and others behind them
pub two_put : (start one two a b : List ℕ) → one ≡ start ++ a → two ≡ one ++ b → two ≡ start ++ (a ++ b)
two_put start one two a b first second = second ∙ (ap (λ w. w ++ b) first ∙ append_assoc start a b)

-- words behind others, and then the line's end
pub ended_put : (start one two three a b : List ℕ) → one ≡ start ++ a → two ≡ one ++ b → three ≡ two ++ codes "\n" → three ≡ start ++ line (a ++ b)
ended_put start one two three a b first second third = two_put start two three (a ++ b) (codes "\n") (two_put start one two a b first second) third

-- words are there where putting them did not fail
pub where_put : {T E : Type 0} (r : Result T E) (was now words : List ℕ) → now ≡ (if is_ok r then was ++ words else was) → OnOk r (now ≡ was ++ words)
where_put (Ok x) was now words is = is
where_put (Err e) was now words is = tt

-- the steps of a run behind the line of an attack, and then its end
pub run_put : (start one two three : List ℕ) (steps : List Step) → one ≡ start ++ codes "attack\n" → two ≡ one ++ step_lines steps → three ≡ two ++ codes "end\n" → three ≡ start ++ (line (codes "attack") ++ run_lines steps)
run_put start one two three steps first second third =
    two_put start one three (line (codes "attack")) (run_lines steps) first (two_put one two three (step_lines steps) (line (codes "end")) second third)
