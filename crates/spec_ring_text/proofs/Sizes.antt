-- How many bytes the text of a ring has, and how many points its protocol.
use Rattle.std.proofs.Common.{◌≡◌, ℕ, ◌+◌, ◌-◌, ◌*◌, ◌<◌, ◌≤◌, true, false, List, [], ◌∷◌, ◌++◌, length, inl, inr, refl, ap, ◌∙◌, arith, length-append}
use Rattle.std.specs.Prelude.{◌≢◌, zero, suc, ◌==◌, codes}
use Rattle.std.specs.Fmt.{decimal}
use Rattle.std.proofs.lemmas.Bool.Decides.{eqb_tells}
use Rattle.std.proofs.lemmas.Fmt.{decimal_digit, length-decimal-le}
use Rattle.spec_calculus.specs.Bounds.{most_bytes}
use Rattle.spec_calculus.specs.Points.{nodes}
use Rattle.spec_ring_text.specs.Text.{successor, key_line, key_lines, middle_lines, pass_line, pass_lines, ring_text}
use Rattle.spec_ring_text.specs.Meaning.{passes, ring_protocol}
use Rattle.spec_ring_text.specs.Size.{digit_count}

one_digit : length (decimal 1) ≡ 1
one_digit = ap length (decimal_digit 1 (omega arith))

key_line_size : (i : ℕ) (rest : List ℕ) → length (key_line i rest) ≡ 16 + length (decimal i) + length rest
key_line_size i rest = let e = length-append (decimal i) (46 ∷ 10 ∷ rest) in omega arith

key_lines_size : (i m : ℕ) (rest : List ℕ) → length (key_lines i m rest) ≡ 16 * m + digit_count i m + length rest
key_lines_size i zero rest = omega arith
key_lines_size i (suc m) rest =
    let first = key_line_size i (key_lines (i + 1) m rest) in
    let others = key_lines_size (i + 1) m rest in
    omega arith

middle_size : (rest : List ℕ) → length (middle_lines rest) ≡ 44 + length rest
middle_size rest = let e = length-append (decimal 1) (41 ∷ 41 ∷ 10 ∷ rest) in omega (arith, one_digit)

pass_line_size : (i j : ℕ) (rest : List ℕ) → length (pass_line i j rest) ≡ 48 + length (decimal i) + length (decimal j) + length rest
pass_line_size i j rest =
    let second = length-append (decimal j) (codes "))\n" ++ rest) in
    let first = length-append (decimal i) (codes ") in out(c,enc(y,k" ++ (decimal j ++ (codes "))\n" ++ rest))) in
    omega arith

-- the last key is handed on under the first
pub last_successor : (n i : ℕ) → i ≡ n → successor n i ≡ 1
last_successor n i e =
    elim (eqb_tells i n) [
      | inl h ↦ (let same : (i == n) ≡ true = h.0 in rw same refl)
      | inr h ↦ (let other : i ≢ n = h.1 in absurd (other e))
    ]

-- any other under the one behind it
pub next_successor : (n i : ℕ) → i < n → successor n i ≡ i + 1
next_successor n i low =
    elim (eqb_tells i n) [
      | inl h ↦ (let same : i ≡ n = h.1 in absurd (omega arith))
      | inr h ↦ (let other : (i == n) ≡ false = h.0 in rw other refl)
    ]

pass_lines_size : (n i m : ℕ) (rest : List ℕ) → i + m ≡ n → length (pass_lines n i (suc m) rest) ≡ 48 * suc m + digit_count i (suc m) + digit_count (i + 1) m + 1 + length rest
pass_lines_size n i zero rest last =
    let first = pass_line_size i (successor n i) rest in
    let one : length (decimal (successor n i)) ≡ 1 = ap (λ (k : ℕ). length (decimal k)) (last_successor n i (omega arith)) ∙ one_digit in
    omega arith
pass_lines_size n i (suc m) rest last =
    let first = pass_line_size i (successor n i) (pass_lines n (i + 1) (suc m) rest) in
    let next : length (decimal (successor n i)) ≡ length (decimal (i + 1)) = ap (λ (k : ℕ). length (decimal k)) (next_successor n i (omega arith)) in
    let others = pass_lines_size n (i + 1) m rest (omega arith) in
    omega arith

-- how many bytes a ring has
pub ring_size : (m : ℕ) → length (ring_text (suc m)) ≡ 107 + 64 * suc m + 3 * digit_count 1 (suc m)
ring_size m =
    let keys = key_lines_size 1 (suc m) (middle_lines (pass_lines (suc m) 1 (suc m) [])) in
    let middle = middle_size (pass_lines (suc m) 1 (suc m) []) in
    let behind = pass_lines_size (suc m) 1 m [] (omega arith) in
    omega (arith, one_digit)

few_digits : (i m : ℕ) → i + m ≤ 1000 → digit_count i m ≤ 3 * m
few_digits i zero small = omega arith
few_digits i (suc m) small =
    let first = length-decimal-le 3 i (omega arith) (omega arith) (omega arith) in
    let others = few_digits (i + 1) m (omega arith) in
    omega arith

-- they are few
pub ring_short : (m : ℕ) → m < 500 → length (ring_text (suc m)) ≤ most_bytes
ring_short m small = omega (arith, ring_size m, few_digits 1 (suc m) (omega arith))

passes_points : (n i v m : ℕ) → length (nodes (passes n i v m)) ≡ 7 * m + 6
passes_points n i v zero = refl
passes_points n i v (suc m) = omega (arith, passes_points n (i + 1) (v + 2) m)

-- how many points a ring has
pub ring_points : (m : ℕ) → length (nodes (ring_protocol (suc m)).main) ≡ 7 * suc m + 2
ring_points m =
    let same : suc m - 1 ≡ m = omega arith in
    let points = passes_points (suc m) 1 1 (suc m - 1) in
    omega arith

-- a ring of one key at least
pub with_keys : (P : ℕ → Type 0) → ((m : ℕ) → P (suc m)) → (n : ℕ) → 1 ≤ n → P n
with_keys P each zero low = absurd (omega arith)
with_keys P each (suc m) low = each m
