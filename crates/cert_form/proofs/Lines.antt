-- The lines of rows are put one by one.
use Rattle.std.proofs.Common.{◌≡◌, ℕ, ◌+◌, ◌<◌, List, ◌∷◌, length, map, get_or, refl, subst}
use Rattle.spec_certificate_text.specs.Text.{numbers_text}
use Rattle.cert_form.specs.Appends.{Appends}
use Rattle.cert_form.specs.Remaining.{HasPut, rows_from}
use Rattle.cert_form.proofs.Items.{then, GoesOn, one_more}

-- the line of a row
row_text : ℕ → ℕ → List ℕ → List ℕ → List ℕ
row_text letter n row rest = letter ∷ numbers_text row (10 ∷ rest)

rows_go_on : (letter : ℕ) → GoesOn (rows_from letter) (row_text letter)
unfolding row_text
rows_go_on letter = record { is = λ n row rows rest. refl }

-- one more line was put, of a row whose numbers are told as ns
pub row_put : {A : Type 0} (f : A → List ℕ) (letter : ℕ) (rows : List (List ℕ)) (items : List A) (n : ℕ) (x : A) (ns : List ℕ) (start before headed counted after : List ℕ) → map f items ≡ rows → HasPut (rows_from letter) n rows start before → n < length items → x ≡ get_or items n x → ns ≡ f x → Appends (λ rest. letter ∷ rest) before headed → Appends (numbers_text ns) headed counted → Appends (λ rest. 10 ∷ rest) counted after → HasPut (rows_from letter) (n + 1) rows start after
unfolding row_text
row_put f letter rows items n x ns start before headed counted after are has below is told head numbers end =
    let counted_so = subst (λ ms. Appends (numbers_text ms) headed counted) told numbers in
    one_more f (rows_from letter) (row_text letter) (rows_go_on letter) rows items n x start before after are has below is
    (then (λ rest. letter ∷ rest) (λ rest. numbers_text (f x) (10 ∷ rest)) before headed after head (then (numbers_text (f x)) (λ rest. 10 ∷ rest) headed counted after counted_so end))
