-- Choices that are added to those of a certificate, and how a line of one is read.
use Rattle.std.proofs.Common.{◌≡◌, ℕ, ◌<◌, false, List, [], ◌∷◌, ◌++◌, length, take, drop, length-drop, refl, sym, ◌∙◌, ap, arith, Option, None, Err}
use Rattle.std.proofs.lemmas.Bool.Decides.{nat_tests}
use Rattle.std.specs.Prelude.{◌==◌}
use Rattle.std.specs.Char.{is_ascii_digit}
use Rattle.std.specs.List.{prefix_len}
use Rattle.spec_run_text.specs.Reading.{numeral}
use Rattle.spec_certificate_text.specs.Terms.{Number}
use Rattle.spec_certificate_text.specs.Outcomes.{front}
use Rattle.choice_text.specs.Lines.{number_before, front_number, choice_of, choice_line}
use Rattle.choice_text.specs.Splitting.{with_choice, with_said}

-- the choice of the last certificate
pub with_said_last : (before : List (List (Option ℕ))) (last : List (Option ℕ)) (clause hypothesis : ℕ) → with_said (before ++ last ∷ []) clause hypothesis ≡ before ++ with_choice last clause hypothesis ∷ []
with_said_last [] last clause hypothesis = refl
with_said_last (first ∷ []) last clause hypothesis = refl
with_said_last (first ∷ next ∷ more) last clause hypothesis = ap (λ l. first ∷ l) (with_said_last (next ∷ more) last clause hypothesis)

no_number_by : (rest : List ℕ) → 0 < length rest → number_before None rest ≡ Err Number
no_number_by [] some = absurd (omega arith)
no_number_by (b ∷ rest) some = refl

-- digits that are no number
pub no_number : (bytes : List ℕ) (size : ℕ) → size ≡ prefix_len is_ascii_digit bytes → 0 < size → size < length bytes → numeral (take size bytes) ≡ None → front_number bytes ≡ Err Number
no_number bytes size is some within none =
    let test : (prefix_len is_ascii_digit bytes == 0) ≡ false = positive (prefix_len is_ascii_digit bytes) (omega (arith, is, some)) in
    let digits : numeral (take (prefix_len is_ascii_digit bytes) bytes) ≡ None = ap (λ n. numeral (take n bytes)) (sym is) ∙ none in
    let left : 0 < length (drop (prefix_len is_ascii_digit bytes) bytes) = omega (arith, is, within, length-drop (prefix_len is_ascii_digit bytes) bytes) in
    rw (test, digits) (no_number_by (drop (prefix_len is_ascii_digit bytes) bytes) left)
  where
    positive : (n : ℕ) → 0 < n → (n == 0) ≡ false
    positive n some = grind (arith, nat_tests)

-- a line of a choice, by what stands behind its space
pub choice_by_number : (clauses last : ℕ) (line : List ℕ) → front (drop 1 line) ≡ 32 → choice_line clauses last line ≡ choice_of clauses last (front_number (drop 2 line))
choice_by_number clauses last line space = rw space refl
