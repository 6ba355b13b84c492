-- The line of a word and of numbers in two lists.
use Rattle.std.proofs.Common.{◌≡◌, ◌∙◌, ℕ, List, [], ◌∷◌, ◌++◌, map, refl, ap, sym, append_assoc}
use Rattle.std.specs.List.{concat}
use Rattle.spec_run_text.specs.Spelling.{spaced}

-- numbers, a space before each
abbrev spaces : List ℕ → List ℕ
spaces numbers = concat (map spaced numbers)

spaces-append : (xs ys : List ℕ) → spaces (xs ++ ys) ≡ spaces xs ++ spaces ys
spaces-append [] ys = refl
spaces-append (x ∷ xs) ys = ap (λ l. spaced x ++ l) (spaces-append xs ys) ∙ sym (append_assoc (spaced x) (spaces xs) (spaces ys))

pub line_put : (start a b c d word first others : List ℕ) → a ≡ start ++ word → b ≡ a ++ concat (map spaced first) → c ≡ b ++ concat (map spaced others) → d ≡ c ++ 10 ∷ []
    → d ≡ start ++ ((word ++ concat (map spaced (first ++ others))) ++ 10 ∷ [])
line_put start a b c d word first others ea eb ec ed =
    let end : List ℕ = 10 ∷ [] in
    ed
    ∙ (ap (λ l. l ++ end) (ec ∙ (ap (λ l. l ++ spaces others) (eb ∙ (ap (λ l. l ++ spaces first) ea ∙ append_assoc start word (spaces first)))
    ∙ (append_assoc start (word ++ spaces first) (spaces others)
    ∙ ap (λ l. start ++ l) (append_assoc word (spaces first) (spaces others) ∙ ap (λ l. word ++ l) (sym (spaces-append first others))))))
    ∙ append_assoc start (word ++ spaces (first ++ others)) end)
