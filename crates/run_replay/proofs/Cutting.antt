-- Where bytes are cut.
use Rattle.std.proofs.Common.{◌≡◌, ℕ, suc, ◌+◌, ◌<◌, ◌≤◌, Bool, true, false, List, [], ◌∷◌, length, take, drop, ◌-◌, length-drop, refl, sym, ◌∙◌, ap, arith, Some, None}
use Rattle.std.proofs.Math.Seq.{take-length}
use Rattle.std.specs.List.{position_or_len}
use Rattle.run_replay.specs.Cut.{behind_first}

behind_by : (test : ℕ → Bool) (b : ℕ) (bytes : List ℕ) (passes : Bool) → test b ≡ passes → (position_or_len test bytes < length bytes → behind_first test bytes ≡ Some (drop (position_or_len test bytes + 1) bytes)) → position_or_len test (b ∷ bytes) < length (b ∷ bytes) → behind_first test (b ∷ bytes) ≡ Some (drop (position_or_len test (b ∷ bytes) + 1) (b ∷ bytes))
behind_by test b bytes true here later within = rw here refl
behind_by test b bytes false here later within =
    let n = position_or_len test bytes in
    let is : position_or_len test (b ∷ bytes) ≡ 1 + n = rw here refl in
    let more : 1 + n + 1 ≡ suc (n + 1) = omega arith in
    rw (here, more) (later (omega (arith, is, within)))

-- behind the first byte that passes stands the rest
pub behind_some : (test : ℕ → Bool) (bytes : List ℕ) → position_or_len test bytes < length bytes → behind_first test bytes ≡ Some (drop (position_or_len test bytes + 1) bytes)
behind_some test [] within = absurd (omega arith)
behind_some test (b ∷ bytes) within = behind_by test b bytes (test b) refl (behind_some test bytes) within

none_by : (test : ℕ → Bool) (b : ℕ) (bytes : List ℕ) (passes : Bool) → test b ≡ passes → (length bytes ≤ position_or_len test bytes → behind_first test bytes ≡ None) → length (b ∷ bytes) ≤ position_or_len test (b ∷ bytes) → behind_first test (b ∷ bytes) ≡ None
none_by test b bytes true here later behind =
    let is : position_or_len test (b ∷ bytes) ≡ 0 = rw here refl in
    absurd (omega (arith, is, behind))
none_by test b bytes false here later behind =
    let is : position_or_len test (b ∷ bytes) ≡ 1 + position_or_len test bytes = rw here refl in
    rw here (later (omega (arith, is, behind)))

-- the same as a slice
pub behind_slice : (test : ℕ → Bool) (bytes : List ℕ) (size : ℕ) → size ≡ position_or_len test bytes → size < length bytes → Some (take (length bytes - (size + 1)) (drop (size + 1) bytes)) ≡ behind_first test bytes
behind_slice test bytes size is within =
    let rest = ap (λ n. take n (drop (size + 1) bytes)) (sym (length-drop (size + 1) bytes)) ∙ take-length (drop (size + 1) bytes) in
    ap Some rest ∙ ap (λ n. Some (drop (n + 1) bytes)) is ∙ sym (behind_some test bytes (omega (arith, is, within)))

-- where none passes, nothing stands behind
pub behind_none : (test : ℕ → Bool) (bytes : List ℕ) → length bytes ≤ position_or_len test bytes → behind_first test bytes ≡ None
behind_none test [] behind = refl
behind_none test (b ∷ bytes) behind = none_by test b bytes (test b) refl (behind_none test bytes) behind
