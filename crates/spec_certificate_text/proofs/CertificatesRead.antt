-- Certificates that were read are what the bytes begin with, and texts of certificates are read as these.
use Rattle.std.proofs.Common.{◌≡◌, ℕ, ◌+◌, ◌≤◌, ◌==◌, if◌then◌else◌, Bool, true, false, List, [], ◌∷◌, ◌++◌, length, drop, refl, sym, ◌∙◌, ap, subst, arith, codes, length-append}
use Rattle.std.specs.Fmt.{decimal}
use Rattle.std.specs.List.{AllByRecursion}
use Rattle.spec_calculus.specs.Bounds.{most_clauses}
use Rattle.spec_calculus.specs.Syntax.{Protocol}
use Rattle.spec_terms.specs.Term.{Term}
use Rattle.spec_clauses.specs.Fact.{Clause}
use Rattle.spec_certificates.specs.Certificate.{Certificate}
use Rattle.spec_certificate_text.specs.OfProtocol.{IsShort, HasNames}
use Rattle.spec_certificate_text.specs.Text.{clause_text, clause_lines, numbers_text, row_lines, certificate_text}
use Rattle.spec_certificate_text.specs.Terms.{Code}
use Rattle.spec_certificate_text.specs.Outcomes.{Outcome, Found, Faulty, next, front, read_fixed, read_number, things, lines_from}
use Rattle.spec_certificate_text.specs.Clauses.{read_clause}
use Rattle.spec_certificate_text.specs.Certificates.{clause_line, one_number, row_line, read_rows, certificate_end, certificate_within, read_certificate}
use Rattle.spec_certificate_text.specs.Readable.{IsReadable, IsRow, IsReadableWithin, IsReadableCertificate}
use Rattle.spec_certificate_text.proofs.Parts.{IsThere, Sound, Finds, parts, joined, chosen, equal_byte, front_is, fixed_there, fixed_found, number_text, number_there, number_found}
use Rattle.spec_certificate_text.proofs.Things.{things_text, IsOne, Complete, things_there, things_found, lines_text, lines_there, lines_found}
use Rattle.spec_certificate_text.proofs.Long.{things_long, lines_long}
use Rattle.spec_certificate_text.proofs.ClausesRead.{clause_there, clause_found}

-- Lines of clauses.

abbrev line_text : Protocol → Clause Term → List ℕ → List ℕ
line_text P c rest = 99 ∷ 32 ∷ clause_text P c (10 ∷ rest)

line_there : (P : Protocol) → Sound (line_text P) (IsReadable P) (clause_line P)
line_there P bytes at c p r e =
    let begin = parts (read_fixed (codes "c ") bytes at) (λ _ p r. next (read_clause P r p) (λ d p r. next (read_fixed (codes "\n") r p) (λ _ p r. Found d p r))) c p r e in
    let opens = fixed_there (codes "c ") bytes at begin.value begin.place begin.rest begin.first in
    let one = parts (read_clause P begin.rest begin.place) (λ d p r. next (read_fixed (codes "\n") r p) (λ _ p r. Found d p r)) c p r begin.later in
    let there = clause_there P begin.rest begin.place one.value one.place one.rest one.first in
    let end = parts (read_fixed (codes "\n") one.rest one.place) (λ _ p r. Found one.value p r) c p r one.later in
    let closes = fixed_there (codes "\n") one.rest one.place end.value end.place end.rest end.first in
    let same : one.value ≡ c = cc in
    let rests : end.rest ≡ r = cc in
    subst (λ d. IsThere (line_text P) (IsReadable P) bytes d r) same record { text = opens ∙ ap (λ k. 99 ∷ 32 ∷ k) (there.text ∙ ap (clause_text P one.value) (closes ∙ ap (λ k. 10 ∷ k) rests)); is = there.is }

line_found : (P : Protocol) → HasNames P → Complete (line_text P) (IsReadable P) (clause_line P)
line_found P names c rest at is =
    joined (read_fixed (codes "c ") (line_text P c rest) at) (λ _ p r. next (read_clause P r p) (λ d p r. next (read_fixed (codes "\n") r p) (λ _ p r. Found d p r))) tt (clause_text P c (10 ∷ rest)) c rest (fixed_found (codes "c ") (clause_text P c (10 ∷ rest)) at) (λ p.
    joined (read_clause P (clause_text P c (10 ∷ rest)) p) (λ d p r. next (read_fixed (codes "\n") r p) (λ _ p r. Found d p r)) c (10 ∷ rest) c rest (clause_found P names c (10 ∷ rest) p is) (λ q.
    joined (read_fixed (codes "\n") (10 ∷ rest) q) (λ _ p r. Found c p r) tt rest c rest (fixed_found (codes "\n") rest q) (λ z. record { place = z; is = refl })))

lines_are : (P : Protocol) (cs : List (Clause Term)) (rest : List ℕ) → lines_text (line_text P) cs rest ≡ clause_lines P cs rest
lines_are P [] rest = refl
lines_are P (c ∷ cs) rest = ap (λ k. 99 ∷ 32 ∷ clause_text P c (10 ∷ k)) (lines_are P cs rest)

-- Rows of numbers.

abbrev one_number_text : ℕ × Bool → List ℕ → List ℕ
one_number_text (n, true) rest = number_text n (32 ∷ rest)
one_number_text (n, false) rest = number_text n (10 ∷ rest)

abbrev behind_number : ℕ → ℕ → List ℕ → Outcome (ℕ × Bool)
behind_number n place rest =
    if front rest == 32 then Found (n, true) (place + 1) (drop 1 rest)
    else next (read_fixed (codes "\n") rest place) (λ _ p r. Found (n, false) p r)

one_number_there : Sound one_number_text (IsOne IsShort) one_number
one_number_there bytes at x p r e =
    let cut = parts (read_number bytes at) behind_number x p r e in
    by cut.value cut.place cut.rest (number_there bytes at cut.value cut.place cut.rest cut.first) cut.later
  where
    by : (n q : ℕ) (k : List ℕ) → IsThere number_text IsShort bytes n k → behind_number n q k ≡ Found x p r → IsThere one_number_text (IsOne IsShort) bytes x r
    by n q k here found =
        chosen (front k == 32) (Found (n, true) (q + 1) (drop 1 k)) (next (read_fixed (codes "\n") k q) (λ _ p r. Found (n, false) p r)) x p r (IsThere one_number_text (IsOne IsShort) bytes x r) found
        (λ space more.
        let stands : k ≡ 32 ∷ drop 1 k = front_is k 32 (equal_byte (front k) 32 space) (λ never. absurd (cc)) in
        let same : (n, true) ≡ x = cc in
        let rests : drop 1 k ≡ r = cc in
        subst (λ y. IsThere one_number_text (IsOne IsShort) bytes y r) same record { text = here.text ∙ ap (number_text n) (stands ∙ ap (λ s. 32 ∷ s) rests); is = here.is })
        (λ no_space end.
        let mark = parts (read_fixed (codes "\n") k q) (λ _ p r. Found (n, false) p r) x p r end in
        let stands = fixed_there (codes "\n") k q mark.value mark.place mark.rest mark.first in
        let same : (n, false) ≡ x = cc in
        let rests : mark.rest ≡ r = cc in
        subst (λ y. IsThere one_number_text (IsOne IsShort) bytes y r) same record { text = here.text ∙ ap (number_text n) (stands ∙ ap (λ s. 10 ∷ s) rests); is = here.is })

one_number_found : Complete one_number_text (IsOne IsShort) one_number
one_number_found (n, true) rest at short =
    joined (read_number (number_text n (32 ∷ rest)) at) behind_number n (32 ∷ rest) (n, true) rest (number_found n 32 rest at short refl) (λ p. record { place = p + 1; is = refl })
one_number_found (n, false) rest at short =
    joined (read_number (number_text n (10 ∷ rest)) at) behind_number n (10 ∷ rest) (n, false) rest (number_found n 10 rest at short refl)
    (λ p. joined (read_fixed (codes "\n") (10 ∷ rest) p) (λ _ q r. Found (n, false) q r) tt rest (n, false) rest (fixed_found (codes "\n") rest p) (λ q. record { place = q; is = refl }))

one_number_long : (x : ℕ × Bool) (k : List ℕ) → length k + 1 ≤ length (one_number_text x k)
one_number_long (n, true) k = omega (arith, length-append (decimal n) (32 ∷ k))
one_number_long (n, false) k = omega (arith, length-append (decimal n) (10 ∷ k))

numbers_are : (n : ℕ) (ns : List ℕ) (rest : List ℕ) → things_text one_number_text n ns rest ≡ number_text n (numbers_text ns (10 ∷ rest))
numbers_are n [] rest = refl
numbers_are n (m ∷ ms) rest = ap (λ k. number_text n (32 ∷ k)) (numbers_are m ms rest)

abbrev row_text : ℕ → List ℕ → List ℕ → List ℕ
row_text letter ns rest = letter ∷ numbers_text ns (10 ∷ rest)

row_there : (letter : ℕ) → Sound (row_text letter) IsRow (row_line letter)
row_there letter bytes at ns p r e =
    let begin = parts (read_fixed (letter ∷ 32 ∷ []) bytes at) (λ _ p r. things one_number r p) ns p r e in
    let opens = fixed_there (letter ∷ 32 ∷ []) bytes at begin.value begin.place begin.rest begin.first in
    let all = things_there one_number_text IsShort one_number one_number_there (length begin.rest) [] begin.rest begin.place ns p r begin.later in
    let there : IsThere (row_text letter) IsRow bytes (all.first ∷ all.others) r = record { text = opens ∙ ap (λ k. letter ∷ 32 ∷ k) (all.text ∙ numbers_are all.first all.others r); is = all.each } in
    subst (λ ms. IsThere (row_text letter) IsRow bytes ms r) (sym all.is) there

row_found : (letter : ℕ) → Complete (row_text letter) IsRow (row_line letter)
row_found letter [] rest at is = absurd is
row_found letter (n ∷ ns) rest at is =
    let behind = number_text n (numbers_text ns (10 ∷ rest)) in
    joined (read_fixed (letter ∷ 32 ∷ []) (row_text letter (n ∷ ns) rest) at) (λ _ p r. things one_number r p) tt behind (n ∷ ns) rest (fixed_found (letter ∷ 32 ∷ []) behind at)
    (λ p. subst (λ bs. Finds (things one_number bs p) (n ∷ ns) rest) (numbers_are n ns rest)
    (things_found one_number_text IsShort one_number one_number_found (length (things_text one_number_text n ns rest)) [] n ns rest p (things_long one_number_text one_number_long n ns rest) is))

rows_are : (letter : ℕ) (rows : List (List ℕ)) (rest : List ℕ) → lines_text (row_text letter) rows rest ≡ row_lines letter rows rest
rows_are letter [] rest = refl
rows_are letter (ns ∷ rows) rest = ap (λ k. letter ∷ numbers_text ns (10 ∷ k)) (rows_are letter rows rest)

numbers_long : (ns k : List ℕ) → length k ≤ length (numbers_text ns k)
numbers_long [] k = omega arith
numbers_long (n ∷ ns) k = omega (arith, length-append (decimal n) (numbers_text ns k), numbers_long ns k)

row_long : (letter : ℕ) (ns k : List ℕ) → length k + 1 ≤ length (row_text letter ns k)
row_long letter ns k = omega (arith, numbers_long ns (10 ∷ k))

pub rows_there : (letter : ℕ) → Sound (row_lines letter) (AllByRecursion IsRow) (read_rows letter)
rows_there letter bytes at rows p r e =
    let all = lines_there (row_text letter) IsRow letter (row_line letter) (row_there letter) (length bytes) [] bytes at rows p r e in
    let there : IsThere (row_lines letter) (AllByRecursion IsRow) bytes all.others r = record { text = all.text ∙ rows_are letter all.others r; is = all.each } in
    subst (λ rs. IsThere (row_lines letter) (AllByRecursion IsRow) bytes rs r) (sym all.is) there

rows_found : (letter : ℕ) (rows : List (List ℕ)) (rest : List ℕ) (at : ℕ) → AllByRecursion IsRow rows → (front rest == letter) ≡ false → Finds (read_rows letter (row_lines letter rows rest) at) rows rest
rows_found letter rows rest at each other =
    subst (λ bs. Finds (read_rows letter bs at) rows rest) (rows_are letter rows rest)
    (lines_found (row_text letter) IsRow letter (row_line letter) (row_found letter) (λ ns k. refl) (length (lines_text (row_text letter) rows rest)) [] rows rest at (lines_long (row_text letter) (row_long letter) rows rest) each other)

-- Certificates.

abbrev end_text : Certificate → List ℕ → List ℕ
end_text c rest = row_lines 114 c.rows (row_lines 103 c.goals (codes "end\n" ++ rest))

abbrev made : List (Clause Term) → List (List ℕ) → List (List ℕ) → Certificate
made cs rows goals = record { clauses = cs; rows = rows; goals = goals }

pub certificate_there : (most : ℕ) (P : Protocol) → Sound (certificate_text P) (IsReadableWithin most P) (certificate_within most P)
certificate_there most P bytes at c p r e =
    let begin = parts (read_fixed (codes "cert 1\n") bytes at) (λ _ p r. next (lines_from 99 (clause_line P) most [] r p) (λ cs p r. certificate_end cs r p)) c p r e in
    let opens = fixed_there (codes "cert 1\n") bytes at begin.value begin.place begin.rest begin.first in
    let lines = parts (lines_from 99 (clause_line P) most [] begin.rest begin.place) (λ cs p r. certificate_end cs r p) c p r begin.later in
    let clauses = lines_there (line_text P) (IsReadable P) 99 (clause_line P) (line_there P) most [] begin.rest begin.place lines.value lines.place lines.rest lines.first in
    let cover = parts (read_rows 114 lines.rest lines.place) (λ rows p r. next (read_rows 103 r p) (λ goals p r. next (read_fixed (codes "end\n") r p) (λ _ p r. Found (made lines.value rows goals) p r))) c p r lines.later in
    let rows = rows_there 114 lines.rest lines.place cover.value cover.place cover.rest cover.first in
    let goal = parts (read_rows 103 cover.rest cover.place) (λ goals p r. next (read_fixed (codes "end\n") r p) (λ _ p r. Found (made lines.value cover.value goals) p r)) c p r cover.later in
    let goals = rows_there 103 cover.rest cover.place goal.value goal.place goal.rest goal.first in
    let end = parts (read_fixed (codes "end\n") goal.rest goal.place) (λ _ p r. Found (made lines.value cover.value goal.value) p r) c p r goal.later in
    let closes = fixed_there (codes "end\n") goal.rest goal.place end.value end.place end.rest end.first in
    let same : made lines.value cover.value goal.value ≡ c = cc in
    let rests : end.rest ≡ r = cc in
    let ended : goal.rest ≡ codes "end\n" ++ r = closes ∙ ap (λ k. codes "end\n" ++ k) rests in
    subst (λ d. IsThere (certificate_text P) (IsReadableWithin most P) bytes d r) same record {
      text = opens ∙ ap (λ k. codes "cert 1\n" ++ k)
          (clauses.text ∙ (lines_are P clauses.others lines.rest ∙ (ap (λ cs. clause_lines P cs lines.rest) (sym clauses.is)
          ∙ ap (clause_lines P lines.value) (rows.text ∙ ap (row_lines 114 cover.value) (goals.text ∙ ap (row_lines 103 goal.value) ended)))));
      is = record {
        clauses = subst (AllByRecursion (IsReadable P)) (sym clauses.is) clauses.each;
        few = subst (λ cs. length cs ≤ most) (sym clauses.is) clauses.few;
        rows = rows.is;
        goals = goals.is;
      };
    }

rows_front : (c : Certificate) (rest : List ℕ) → (front (end_text c rest) == 99) ≡ false
rows_front c rest = by c.rows c.goals
  where
    by : (rows goals : List (List ℕ)) → (front (row_lines 114 rows (row_lines 103 goals (codes "end\n" ++ rest))) == 99) ≡ false
    by [] [] = refl
    by [] (ns ∷ goals) = refl
    by (ns ∷ rows) goals = refl

goals_front : (goals : List (List ℕ)) (rest : List ℕ) → (front (row_lines 103 goals (codes "end\n" ++ rest)) == 114) ≡ false
goals_front [] rest = refl
goals_front (ns ∷ goals) rest = refl

end_found : (c : Certificate) (rest : List ℕ) (at : ℕ) → AllByRecursion IsRow c.rows → AllByRecursion IsRow c.goals → Finds (certificate_end c.clauses (end_text c rest) at) c rest
end_found c rest at rows goals =
    let last = codes "end\n" ++ rest in
    joined (read_rows 114 (end_text c rest) at) (λ rows p r. next (read_rows 103 r p) (λ goals p r. next (read_fixed (codes "end\n") r p) (λ _ p r. Found (made c.clauses rows goals) p r))) c.rows (row_lines 103 c.goals last) c rest
    (rows_found 114 c.rows (row_lines 103 c.goals last) at rows (goals_front c.goals rest)) (λ p.
    joined (read_rows 103 (row_lines 103 c.goals last) p) (λ goals p r. next (read_fixed (codes "end\n") r p) (λ _ p r. Found (made c.clauses c.rows goals) p r)) c.goals last c rest
    (rows_found 103 c.goals last p goals refl) (λ q.
    joined (read_fixed (codes "end\n") last q) (λ _ p r. Found (made c.clauses c.rows c.goals) p r) tt rest c rest (fixed_found (codes "end\n") rest q) (λ z. record { place = z; is = refl })))

pub certificate_found : (most : ℕ) (P : Protocol) → HasNames P → Complete (certificate_text P) (IsReadableWithin most P) (certificate_within most P)
certificate_found most P names c rest at is =
    let lines = clause_lines P c.clauses (end_text c rest) in
    joined (read_fixed (codes "cert 1\n") (certificate_text P c rest) at) (λ _ p r. next (lines_from 99 (clause_line P) most [] r p) (λ cs p r. certificate_end cs r p)) tt lines c rest (fixed_found (codes "cert 1\n") lines at) (λ p.
    joined (lines_from 99 (clause_line P) most [] lines p) (λ cs p r. certificate_end cs r p) c.clauses (end_text c rest) c rest
    (subst (λ bs. Finds (lines_from 99 (clause_line P) most [] bs p) c.clauses (end_text c rest)) (lines_are P c.clauses (end_text c rest))
    (lines_found (line_text P) (IsReadable P) 99 (clause_line P) (line_found P names) (λ d k. refl) most [] c.clauses (end_text c rest) p is.few is.clauses (rows_front c rest)))
    (λ q. end_found c rest q is.rows is.goals))

pub read_certificate-there : (P : Protocol) → Sound (certificate_text P) (IsReadableCertificate P) (read_certificate P)
read_certificate-there P = certificate_there most_clauses P

pub read_certificate-found : (P : Protocol) → HasNames P → Complete (certificate_text P) (IsReadableCertificate P) (read_certificate P)
read_certificate-found P names = certificate_found most_clauses P names

-- bytes that are refused begin with no certificate's text
pub refused_is_none : (P : Protocol) → HasNames P → (bytes : List ℕ) (at place : ℕ) (code : Code) (c : Certificate) (rest : List ℕ) → read_certificate P bytes at ≡ Faulty place code → IsReadableCertificate P c → bytes ≡ certificate_text P c rest → ⊥
refused_is_none P names bytes at place code c rest e is text =
    let found = read_certificate-found P names c rest at is in
    let never : Faulty place code ≡ Found c found.place rest = sym e ∙ (ap (λ bs. read_certificate P bs at) text ∙ found.is) in
    cc

-- no certificate's text is the front of another's
pub one_certificate : (P : Protocol) → HasNames P → (c d : Certificate) (k l : List ℕ) → IsReadableCertificate P c → IsReadableCertificate P d → certificate_text P c k ≡ certificate_text P d l → (c ≡ d) × (k ≡ l)
one_certificate P names c d k l is also same =
    let first = read_certificate-found P names c k 0 is in
    let second = read_certificate-found P names d l 0 also in
    let both : Found c first.place k ≡ Found d second.place l = sym first.is ∙ (ap (λ bs. read_certificate P bs 0) same ∙ second.is) in
    (cc, cc)
