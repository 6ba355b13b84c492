-- The rows and the last line of a certificate are read.
use Rattle.std.proofs.Common.{◌≡◌, ℕ, ◌+◌, ◌≤◌, ◌==◌, if◌then◌else◌, Bool, true, false, List, [], ◌∷◌, ◌++◌, length, drop, codes, refl, ap, subst, arith, length-append}
use Rattle.std.specs.Fmt.{decimal}
use Rattle.std.specs.List.{AllByRecursion}
use Rattle.spec_terms.specs.Term.{Term}
use Rattle.spec_clauses.specs.Fact.{Clause}
use Rattle.spec_certificates.specs.Certificate.{Certificate}
use Rattle.spec_certificate_text.specs.OfProtocol.{IsShort}
use Rattle.spec_certificate_text.specs.Text.{numbers_text, row_lines}
use Rattle.spec_certificate_text.specs.Outcomes.{Outcome, Found, next, front, read_fixed, read_number, things}
use Rattle.spec_certificate_text.specs.Certificates.{one_number, row_line, read_rows, certificate_end}
use Rattle.spec_certificate_text.specs.Readable.{IsRow}
use Rattle.spec_certificate_text.proofs.Parts.{Finds, joined, fixed_found, number_text, number_found}
use Rattle.spec_certificate_text.proofs.Things.{things_text, IsOne, Complete, things_found, lines_text, lines_found}
use Rattle.spec_certificate_text.proofs.Long.{things_long, lines_long}

abbrev one_number_text : ℕ × Bool → List ℕ → List ℕ
one_number_text (n, true) rest = number_text n (32 ∷ rest)
one_number_text (n, false) rest = number_text n (10 ∷ rest)

abbrev behind_number : ℕ → ℕ → List ℕ → Outcome (ℕ × Bool)
behind_number n place rest =
    if front rest == 32 then Found (n, true) (place + 1) (drop 1 rest)
    else next (read_fixed (codes "\n") rest place) (λ _ p r. Found (n, false) p r)

one_number_found : Complete one_number_text (IsOne IsShort) one_number
one_number_found (n, true) rest at short =
    joined (read_number (number_text n (32 ∷ rest)) at) behind_number n (32 ∷ rest) (n, true) rest (number_found n 32 rest at short refl) (λ p. record { place = p + 1; is = refl })
one_number_found (n, false) rest at short =
    joined (read_number (number_text n (10 ∷ rest)) at) behind_number n (10 ∷ rest) (n, false) rest (number_found n 10 rest at short refl)
    (λ p. joined (read_fixed (codes "\n") (10 ∷ rest) p) (λ _ q r. Found (n, false) q r) tt rest (n, false) rest (fixed_found (codes "\n") rest p) (λ q. record { place = q; is = refl }))

one_number_long : (x : ℕ × Bool) (k : List ℕ) → length k + 1 ≤ length (one_number_text x k)
one_number_long (n, true) k = omega (arith, length-append (decimal n) (32 ∷ k))
one_number_long (n, false) k = omega (arith, length-append (decimal n) (10 ∷ k))

numbers_are : (n : ℕ) (ns : List ℕ) (rest : List ℕ) → things_text one_number_text n ns rest ≡ number_text n (numbers_text ns (10 ∷ rest))
numbers_are n [] rest = refl
numbers_are n (m ∷ ms) rest = ap (λ k. number_text n (32 ∷ k)) (numbers_are m ms rest)

abbrev row_text : ℕ → List ℕ → List ℕ → List ℕ
row_text letter ns rest = letter ∷ numbers_text ns (10 ∷ rest)

row_found : (letter : ℕ) → Complete (row_text letter) IsRow (row_line letter)
row_found letter [] rest at is = absurd is
row_found letter (n ∷ ns) rest at is =
    let behind = number_text n (numbers_text ns (10 ∷ rest)) in
    joined (read_fixed (letter ∷ 32 ∷ []) (row_text letter (n ∷ ns) rest) at) (λ _ p r. things one_number r p) tt behind (n ∷ ns) rest (fixed_found (letter ∷ 32 ∷ []) behind at)
    (λ p. subst (λ bs. Finds (things one_number bs p) (n ∷ ns) rest) (numbers_are n ns rest)
    (things_found one_number_text IsShort one_number one_number_found (length (things_text one_number_text n ns rest)) [] n ns rest p (things_long one_number_text one_number_long n ns rest) is))

rows_are : (letter : ℕ) (rows : List (List ℕ)) (rest : List ℕ) → lines_text (row_text letter) rows rest ≡ row_lines letter rows rest
rows_are letter [] rest = refl
rows_are letter (ns ∷ rows) rest = ap (λ k. letter ∷ numbers_text ns (10 ∷ k)) (rows_are letter rows rest)

numbers_long : (ns k : List ℕ) → length k ≤ length (numbers_text ns k)
numbers_long [] k = omega arith
numbers_long (n ∷ ns) k = omega (arith, length-append (decimal n) (numbers_text ns k), numbers_long ns k)

row_long : (letter : ℕ) (ns k : List ℕ) → length k + 1 ≤ length (row_text letter ns k)
row_long letter ns k = omega (arith, numbers_long ns (10 ∷ k))

rows_found : (letter : ℕ) (rows : List (List ℕ)) (rest : List ℕ) (at : ℕ) → AllByRecursion IsRow rows → (front rest == letter) ≡ false → Finds (read_rows letter (row_lines letter rows rest) at) rows rest
rows_found letter rows rest at each other =
    subst (λ bs. Finds (read_rows letter bs at) rows rest) (rows_are letter rows rest)
    (lines_found (row_text letter) IsRow letter (row_line letter) (row_found letter) (λ ns k. refl) (length (lines_text (row_text letter) rows rest)) [] rows rest at (lines_long (row_text letter) (row_long letter) rows rest) each other)

-- the rows and the last line
abbrev pub end_text : Certificate → List ℕ → List ℕ
end_text c rest = row_lines 114 c.rows (row_lines 103 c.goals (codes "end\n" ++ rest))

abbrev made : List (Clause Term) → List (List ℕ) → List (List ℕ) → Certificate
made cs rows goals = record { clauses = cs; rows = rows; goals = goals }

goals_front : (goals : List (List ℕ)) (rest : List ℕ) → (front (row_lines 103 goals (codes "end\n" ++ rest)) == 114) ≡ false
goals_front [] rest = refl
goals_front (ns ∷ goals) rest = refl

pub end_found : (c : Certificate) (rest : List ℕ) (at : ℕ) → AllByRecursion IsRow c.rows → AllByRecursion IsRow c.goals → Finds (certificate_end c.clauses (end_text c rest) at) c rest
end_found c rest at rows goals =
    let last = codes "end\n" ++ rest in
    joined (read_rows 114 (end_text c rest) at) (λ rows p r. next (read_rows 103 r p) (λ goals p r. next (read_fixed (codes "end\n") r p) (λ _ p r. Found (made c.clauses rows goals) p r))) c.rows (row_lines 103 c.goals last) c rest
    (rows_found 114 c.rows (row_lines 103 c.goals last) at rows (goals_front c.goals rest)) (λ p.
    joined (read_rows 103 (row_lines 103 c.goals last) p) (λ goals p r. next (read_fixed (codes "end\n") r p) (λ _ p r. Found (made c.clauses c.rows goals) p r)) c.goals last c rest
    (rows_found 103 c.goals last p goals refl) (λ q.
    joined (read_fixed (codes "end\n") last q) (λ _ p r. Found (made c.clauses c.rows c.goals) p r) tt rest c rest (fixed_found (codes "end\n") rest q) (λ z. record { place = z; is = refl })))
