-- The lines of a ring, one behind the other.
use Rattle.std.proofs.Common.{◌≡◌, ℕ, ◌+◌, ◌-◌, ◌≤◌, List, [], ◌++◌, refl, ap, sym, ◌∙◌, arith, append_assoc}
use Rattle.std.specs.Prelude.{zero, suc, codes}
use Rattle.std.specs.Fmt.{decimal}
use Rattle.spec_ring_text.specs.Text.{key_line, key_lines, middle_lines, pass_line, pass_lines, first_lines, ring_text, successor}

-- three texts were put
pub three_put : (start one two three a b c : List ℕ) → one ≡ start ++ a → two ≡ one ++ b → three ≡ two ++ c → three ≡ start ++ (a ++ (b ++ c))
three_put start one two three a b c first second third =
    third ∙ (ap (λ w. w ++ c) (second ∙ ap (λ w. w ++ b) first) ∙ (append_assoc (start ++ a) b c ∙ append_assoc start a (b ++ c)))

-- what stands behind lines stands behind them whole
key_line-append : (i : ℕ) (a b : List ℕ) → key_line i a ++ b ≡ key_line i (a ++ b)
key_line-append i a b = ap (λ w. codes "private free k" ++ w) (append_assoc (decimal i) (codes ".\n" ++ a) b)

key_lines-append : (i m : ℕ) (a b : List ℕ) → key_lines i m a ++ b ≡ key_lines i m (a ++ b)
key_lines-append i zero a b = refl
key_lines-append i (suc m) a b = key_line-append i (key_lines (i + 1) m a) b ∙ ap (key_line i) (key_lines-append (i + 1) m a b)

middle_lines-append : (a b : List ℕ) → middle_lines a ++ b ≡ middle_lines (a ++ b)
middle_lines-append a b = ap (λ w. codes "query attacker(s).\nprocess\nout(c,enc(s,k" ++ w) (append_assoc (decimal 1) (codes "))\n" ++ a) b)

pass_line-append : (i j : ℕ) (a b : List ℕ) → pass_line i j a ++ b ≡ pass_line i j (a ++ b)
pass_line-append i j a b = ap (λ w. codes "| !in(c,x); let y = dec(x,k" ++ w)
    (append_assoc (decimal i) (codes ") in out(c,enc(y,k" ++ (decimal j ++ (codes "))\n" ++ a))) b
    ∙ ap (λ w. decimal i ++ (codes ") in out(c,enc(y,k" ++ w)) (append_assoc (decimal j) (codes "))\n" ++ a) b))

-- lines and one more
key_lines_last : (i m : ℕ) → key_lines i m [] ++ key_line (i + m) [] ≡ key_lines i (suc m) []
key_lines_last i zero = ap (λ k. key_line k []) (omega arith)
key_lines_last i (suc m) =
    let same : i + suc m ≡ i + 1 + m = omega arith in
    key_line-append i (key_lines (i + 1) m []) (key_line (i + suc m) [])
    ∙ ap (key_line i) (ap (λ k. key_lines (i + 1) m [] ++ key_line k []) same ∙ key_lines_last (i + 1) m)

pass_lines_last : (n i m : ℕ) → pass_lines n i m [] ++ pass_line (i + m) (successor n (i + m)) [] ≡ pass_lines n i (suc m) []
pass_lines_last n i zero = ap (λ k. pass_line k (successor n k) []) (omega arith)
pass_lines_last n i (suc m) =
    let same : i + suc m ≡ i + 1 + m = omega arith in
    pass_line-append i (successor n i) (pass_lines n (i + 1) m []) (pass_line (i + suc m) (successor n (i + suc m)) [])
    ∙ ap (pass_line i (successor n i)) (ap (λ k. pass_lines n (i + 1) m [] ++ pass_line k (successor n k) []) same ∙ pass_lines_last n (i + 1) m)

-- the lines of the numbers before this one were put, and then its own
one_more : (lines : ℕ → List ℕ) (line : ℕ → List ℕ) → ((m : ℕ) → lines m ++ line (1 + m) ≡ lines (suc m)) → (number : ℕ) (start now next : List ℕ) → 1 ≤ number
    → now ≡ start ++ lines (number - 1) → next ≡ now ++ line number → next ≡ start ++ lines (number + 1 - 1)
one_more lines line last number start now next low before here =
    let same : 1 + (number - 1) ≡ number = omega arith in
    let after : suc (number - 1) ≡ number + 1 - 1 = omega arith in
    here ∙ (ap (λ w. w ++ line number) before ∙ (append_assoc start (lines (number - 1)) (line number)
    ∙ ap (λ w. start ++ w) (ap (λ k. lines (number - 1) ++ line k) (sym same) ∙ (last (number - 1) ∙ ap lines after))))

pub key_put : (number : ℕ) (start now next : List ℕ) → 1 ≤ number → now ≡ start ++ key_lines 1 (number - 1) [] → next ≡ now ++ key_line number [] → next ≡ start ++ key_lines 1 (number + 1 - 1) []
key_put number start now next = one_more (λ m. key_lines 1 m []) (λ i. key_line i []) (key_lines_last 1) number start now next

pub pass_put : (n number : ℕ) (start now next : List ℕ) → 1 ≤ number → now ≡ start ++ pass_lines n 1 (number - 1) [] → next ≡ now ++ pass_line number (successor n number) [] → next ≡ start ++ pass_lines n 1 (number + 1 - 1) []
pass_put n number start now next = one_more (λ m. pass_lines n 1 m []) (λ i. pass_line i (successor n i) []) (pass_lines_last n 1) number start now next

-- the parts of the whole text were put
pub ring_put : (n : ℕ) (start first keys middle passes : List ℕ) → start ≡ [] → first ≡ start ++ first_lines [] → keys ≡ first ++ key_lines 1 n [] → middle ≡ keys ++ middle_lines [] → passes ≡ middle ++ pass_lines n 1 n [] → passes ≡ ring_text n
ring_put n start first keys middle passes none put_first put_keys put_middle put_passes =
    let firsts : first ≡ first_lines [] = put_first ∙ ap (λ w. w ++ first_lines []) none in
    put_passes ∙ (ap (λ w. w ++ pass_lines n 1 n []) (put_middle ∙ ap (λ w. w ++ middle_lines []) (put_keys ∙ ap (λ w. w ++ key_lines 1 n []) firsts))
    ∙ (append_assoc (first_lines (key_lines 1 n [])) (middle_lines []) (pass_lines n 1 n [])
    ∙ ap first_lines (ap (λ w. key_lines 1 n [] ++ w) (middle_lines-append [] (pass_lines n 1 n [])) ∙ key_lines-append 1 n [] (middle_lines (pass_lines n 1 n [])))))
