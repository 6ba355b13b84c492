-- What is written so far, and what is left.
use Rattle.std.proofs.Common.{◌≡◌, ℕ, ◌+◌, ◌<◌, ◌≤◌, List, [], ◌∷◌, ◌++◌, length, get_or, append_assoc, refl, sym, ◌∙◌, ap, arith, Option}
use Rattle.choice_text.specs.Lines.{whole_lines}
use Rattle.choice_text.specs.Choices.{line_text, left_behind, heads_in, choices_text, chosen_lines, chosen_text}

-- what is written, and the lines that are left, make the whole text
pub record IsWrittenSoFar (whole plain : List ℕ) (said : List (List (Option ℕ))) (out : List ℕ) (before : ℕ) (left : List (Option ℕ)) (rest : List ℕ) : Type 0 where
  pub is : out ++ chosen_lines said before left (whole_lines rest) ≡ whole
  pub few : before + length rest ≤ length plain

-- one more line is written
pub IsWrittenSoFar-line : (whole plain : List ℕ) (said : List (List (Option ℕ))) (out more : List ℕ) (before heads : ℕ) (next left behind : List (Option ℕ)) (rest line later : List ℕ) → IsWrittenSoFar whole plain said out before left rest → whole_lines rest ≡ line ∷ whole_lines later → length later < length rest → next ≡ get_or said before [] → more ≡ out ++ line_text next left line → behind ≡ left_behind next left line → heads ≡ heads_in line → heads ≤ 1 → IsWrittenSoFar whole plain said more (before + heads) behind later
IsWrittenSoFar-line whole plain said out more before heads next left behind rest line later so_far cut shorter is put goes begun few = record {
  is = ap (λ o. o ++ chosen_lines said (before + heads) behind (whole_lines later)) put
      ∙ append_assoc out (line_text next left line) (chosen_lines said (before + heads) behind (whole_lines later))
      ∙ ap (λ b. out ++ (line_text next left line ++ chosen_lines said (before + heads) b (whole_lines later))) goes
      ∙ ap (λ n. out ++ (line_text next left line ++ chosen_lines said (before + n) (left_behind next left line) (whole_lines later))) begun
      ∙ ap (λ n. out ++ (line_text n left line ++ chosen_lines said (before + heads_in line) (left_behind n left line) (whole_lines later))) is
      ∙ ap (λ lines. out ++ chosen_lines said before left lines) (sym cut) ∙ so_far.is;
  few = omega (arith, so_far.few, shorter, few);
}

-- all lines are written
pub IsWrittenSoFar-end : (whole plain : List ℕ) (said : List (List (Option ℕ))) (out : List ℕ) (before : ℕ) (left : List (Option ℕ)) (rest : List ℕ) → IsWrittenSoFar whole plain said out before left rest → rest ≡ [] → out ++ choices_text 1 left ≡ whole
IsWrittenSoFar-end whole plain said out before left rest all none = ap (λ r. out ++ chosen_lines said before left (whole_lines r)) (sym none) ∙ all.is

-- nothing is written yet
pub none_written : (plain : List ℕ) (said : List (List (Option ℕ))) (out : List ℕ) → IsWrittenSoFar (out ++ chosen_text plain said) plain said out 0 [] plain
unfolding chosen_text
none_written plain said out = record { is = refl; few = omega arith }
