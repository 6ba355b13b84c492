-- Where the first line of a text ends.
use Rattle.std.proofs.Common.{◌≡◌, ℕ, suc, ◌+◌, ◌-◌, ◌<◌, ◌≤◌, Bool, true, false, List, [], ◌∷◌, length, take, drop, length-drop, refl, sym, ◌∙◌, ap, arith}
use Rattle.std.proofs.Math.Seq.{take-length}
use Rattle.std.proofs.lemmas.Bool.{eqb-true}
use Rattle.std.specs.Prelude.{◌==◌}
use Rattle.std.specs.List.{position_or_len}
use Rattle.spec_run_text.specs.Lines.{onto_first}
use Rattle.choice_text.specs.Lines.{whole_lines, line_size}

with_end_by : (b : ℕ) (bytes : List ℕ) (ends : Bool) → (b == 10) ≡ ends → (position_or_len (λ x. x == 10) bytes < length bytes → line_size bytes ≡ suc (position_or_len (λ x. x == 10) bytes)) → position_or_len (λ x. x == 10) (b ∷ bytes) < length (b ∷ bytes) → line_size (b ∷ bytes) ≡ suc (position_or_len (λ x. x == 10) (b ∷ bytes))
with_end_by b bytes true here later within = rw here refl
with_end_by b bytes false here later within =
    let is : position_or_len (λ x. x == 10) (b ∷ bytes) ≡ 1 + position_or_len (λ x. x == 10) bytes = rw here refl in
    let size : line_size (b ∷ bytes) ≡ suc (line_size bytes) = rw here refl in
    omega (arith, is, size, later (omega (arith, is, within)))

-- the first line has one byte more than stand before the line feed
pub size_is : (bytes : List ℕ) → position_or_len (λ x. x == 10) bytes < length bytes → line_size bytes ≡ suc (position_or_len (λ x. x == 10) bytes)
size_is [] within = absurd (omega arith)
size_is (b ∷ bytes) within = with_end_by b bytes (b == 10) refl (size_is bytes) within

pub size_with_end : (bytes : List ℕ) (size : ℕ) → size ≡ position_or_len (λ x. x == 10) bytes → size < length bytes → size + 1 ≡ line_size bytes
size_with_end bytes size is within = omega (arith, is, size_is bytes (omega (arith, is, within)))

without_by : (b : ℕ) (bytes : List ℕ) (ends : Bool) → (b == 10) ≡ ends → (length bytes ≤ position_or_len (λ x. x == 10) bytes → line_size bytes ≡ position_or_len (λ x. x == 10) bytes) → length (b ∷ bytes) ≤ position_or_len (λ x. x == 10) (b ∷ bytes) → line_size (b ∷ bytes) ≡ position_or_len (λ x. x == 10) (b ∷ bytes)
without_by b bytes true here later behind =
    let is : position_or_len (λ x. x == 10) (b ∷ bytes) ≡ 0 = rw here refl in
    absurd (omega (arith, is, behind))
without_by b bytes false here later behind =
    let is : position_or_len (λ x. x == 10) (b ∷ bytes) ≡ 1 + position_or_len (λ x. x == 10) bytes = rw here refl in
    let size : line_size (b ∷ bytes) ≡ suc (line_size bytes) = rw here refl in
    omega (arith, is, size, later (omega (arith, is, behind)))

all_is : (bytes : List ℕ) → length bytes ≤ position_or_len (λ x. x == 10) bytes → line_size bytes ≡ position_or_len (λ x. x == 10) bytes
all_is [] behind = refl
all_is (b ∷ bytes) behind = without_by b bytes (b == 10) refl (all_is bytes) behind

-- a line without line feed is all bytes
pub size_without : (bytes : List ℕ) (size : ℕ) → size ≡ position_or_len (λ x. x == 10) bytes → length bytes ≤ size → size ≡ line_size bytes
size_without bytes size is behind = omega (arith, is, all_is bytes (omega (arith, is, behind)))

positive_by : (b : ℕ) (bytes : List ℕ) (ends : Bool) → (b == 10) ≡ ends → 0 < line_size (b ∷ bytes)
positive_by b bytes true here = rw here (omega arith)
positive_by b bytes false here = rw here (omega arith)

-- a line isn't empty
pub size_positive : (bytes : List ℕ) → 0 < length bytes → 0 < line_size bytes
size_positive [] some = absurd (omega arith)
size_positive (b ∷ bytes) some = positive_by b bytes (b == 10) refl

cut_by : (b : ℕ) (bytes : List ℕ) (ends : Bool) → (b == 10) ≡ ends → (0 < length bytes → whole_lines bytes ≡ take (line_size bytes) bytes ∷ whole_lines (drop (line_size bytes) bytes)) → whole_lines (b ∷ bytes) ≡ take (line_size (b ∷ bytes)) (b ∷ bytes) ∷ whole_lines (drop (line_size (b ∷ bytes)) (b ∷ bytes))
cut_by b bytes true here later = rw here (ap (λ n. (n ∷ []) ∷ whole_lines bytes) (sym (eqb-true b 10 here)))
cut_by b [] false here later = rw here refl
cut_by b (next ∷ bytes) false here later = rw here (ap (onto_first b) (later (omega arith)))

-- the lines of a text are its first line and those behind it
pub lines_at_size : (bytes : List ℕ) → 0 < length bytes → whole_lines bytes ≡ take (line_size bytes) bytes ∷ whole_lines (drop (line_size bytes) bytes)
lines_at_size [] some = absurd (omega arith)
lines_at_size (b ∷ bytes) some = cut_by b bytes (b == 10) refl (lines_at_size bytes)

pub lines_cut : (bytes : List ℕ) (size : ℕ) → size ≡ line_size bytes → 0 < length bytes → whole_lines bytes ≡ take size bytes ∷ whole_lines (take (length bytes - size) (drop size bytes))
lines_cut bytes size is some =
    let rest = ap (λ n. take n (drop size bytes)) (sym (length-drop size bytes)) ∙ take-length (drop size bytes) in
    lines_at_size bytes some ∙ ap (λ n. take n bytes ∷ whole_lines (drop n bytes)) (sym is) ∙ ap (λ l. take size bytes ∷ whole_lines l) (sym rest)
