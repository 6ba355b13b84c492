-- Clauses and certificates: a fault of syntax is told by the bytes up to its place, and so no text goes on with these.
use Rattle.std.proofs.Common.{◌≡◌, ℕ, ◌+◌, ◌==◌, if◌then◌else◌, Bool, true, false, List, [], ◌∷◌, ◌++◌, length, drop, codes, refl, sym, ◌∙◌, ap}
use Rattle.spec_calculus.specs.Bounds.{most_clauses}
use Rattle.spec_calculus.specs.Syntax.{Protocol}
use Rattle.spec_terms.specs.Term.{Term}
use Rattle.spec_clauses.specs.Fact.{Fact, Clause}
use Rattle.spec_certificates.specs.Certificate.{Certificate}
use Rattle.spec_certificate_text.specs.OfProtocol.{HasNames}
use Rattle.spec_certificate_text.specs.Sides.{SpelledClause, meant_clause}
use Rattle.spec_certificate_text.specs.Text.{fact_text, clause_text, certificate_text}
use Rattle.spec_certificate_text.specs.Terms.{Syntax}
use Rattle.spec_certificate_text.specs.Outcomes.{Found, Faulty, next, front, read_fixed, read_number, Reader, things, lines_from}
use Rattle.spec_certificate_text.specs.Facts.{read_hypothesis, read_conclusion}
use Rattle.spec_certificate_text.specs.Clauses.{Premises, read_premises, read_spelled_clause, read_clause}
use Rattle.spec_certificate_text.specs.Certificates.{clause_line, one_number, row_line, read_rows, certificate_end, certificate_within, read_certificate}
use Rattle.spec_certificate_text.specs.Readable.{IsHypothesisOf, IsConclusionOf, IsReadable, IsReadableCertificate}
use Rattle.spec_certificate_text.proofs.Things.{Complete}
use Rattle.spec_certificate_text.proofs.FactsFound.{hypothesis_found, conclusion_found}
use Rattle.spec_certificate_text.proofs.ClausesRead.{clause_found}
use Rattle.spec_certificate_text.proofs.CertificatesRead.{read_certificate-found}
use Rattle.spec_reading_faults.proofs.Shared.{shares_behind, IsLocal, Moves, next_local, moves_first, moves_second, choice_local, choice_moves, found_local, skip_local, skip_moves}
use Rattle.spec_reading_faults.proofs.Parts.{fixed_moves, number_local, things_local, lines_local, all_lines_local}
use Rattle.spec_reading_faults.proofs.Facts.{behind_fixed, closing_local, hypothesis_local, conclusion_local}
use Rattle.spec_reading_faults.proofs.Premises.{premises_local}

-- fixed bytes behind which a thing is there pass over some
closing_moves : {A : Type 0} (w : ℕ) (ws : List ℕ) (x : A) → Moves (λ bytes at. next (read_fixed (w ∷ ws) bytes at) (λ _ p k. Found x p k))
closing_moves w ws x = moves_first (read_fixed (w ∷ ws)) (λ at u bytes p. Found x p bytes) (fixed_moves w ws) (λ at u. found_local x)

with_conclusion : Protocol → Premises → Reader (SpelledClause Term)
with_conclusion P ps bytes at = next (read_conclusion P bytes at) (λ c p r. Found (record { hypotheses = ps.hypotheses; diffs = ps.diffs; conclusion = c }) p r)

with_conclusion-local : (P : Protocol) (ps : Premises) → IsLocal (with_conclusion P ps)
unfolding with_conclusion
with_conclusion-local P ps =
    next_local (read_conclusion P) (λ at c bytes p. Found (record { hypotheses = ps.hypotheses; diffs = ps.diffs; conclusion = c }) p bytes) (conclusion_local P)
    (λ at c. found_local (record { hypotheses = ps.hypotheses; diffs = ps.diffs; conclusion = c }))

concluded : Protocol → Premises → Reader (SpelledClause Term)
concluded P ps bytes at = next (read_fixed (codes "=> ") bytes at) (λ _ p r. with_conclusion P ps r p)

concluded_local : (P : Protocol) (ps : Premises) → IsLocal (concluded P ps)
unfolding concluded
concluded_local P ps = behind_fixed (codes "=> ") (with_conclusion P ps) (with_conclusion-local P ps)

spelled_local : (P : Protocol) → IsLocal (read_spelled_clause P)
unfolding concluded with_conclusion
spelled_local P = next_local (read_premises P) (λ at ps. concluded P ps) (premises_local P) (λ at ps. concluded_local P ps)

pub clause_local : (P : Protocol) → IsLocal (read_clause P)
clause_local P = next_local (read_spelled_clause P) (λ at c bytes p. Found (meant_clause c) p bytes) (spelled_local P) (λ at c. found_local (meant_clause c))

-- Lines.

to_line_end : Protocol → Reader (Clause Term)
to_line_end P bytes at = next (read_clause P bytes at) (λ c p r. next (read_fixed (codes "\n") r p) (λ _ p r. Found c p r))

to_line_end-local : (P : Protocol) → IsLocal (to_line_end P)
unfolding to_line_end
to_line_end-local P = next_local (read_clause P) (λ at c bytes p. next (read_fixed (codes "\n") bytes p) (λ _ p r. Found c p r)) (clause_local P) (λ at c. closing_local (codes "\n") c)

clause_line-local : (P : Protocol) → IsLocal (clause_line P)
unfolding to_line_end
clause_line-local P = behind_fixed (codes "c ") (to_line_end P) (to_line_end-local P)

behind_number : ℕ → Reader (ℕ × Bool)
behind_number n bytes at = if front bytes == 32 then Found (n, true) (at + 1) (drop 1 bytes) else next (read_fixed (codes "\n") bytes at) (λ _ p r. Found (n, false) p r)

behind_number-local : (n : ℕ) → IsLocal (behind_number n)
unfolding behind_number
behind_number-local n = choice_local (λ b. b == 32) (λ bytes at. Found (n, true) (at + 1) (drop 1 bytes)) (λ bytes at. next (read_fixed (codes "\n") bytes at) (λ _ p r. Found (n, false) p r)) (skip_local (n, true)) (closing_local (codes "\n") (n, false))

behind_number-moves : (n : ℕ) → Moves (behind_number n)
unfolding behind_number
behind_number-moves n = choice_moves (λ b. b == 32) (λ bytes at. Found (n, true) (at + 1) (drop 1 bytes)) (λ bytes at. next (read_fixed (codes "\n") bytes at) (λ _ p r. Found (n, false) p r)) (skip_moves (n, true)) (closing_moves 10 [] (n, false))

one_number-local : IsLocal one_number
unfolding behind_number
one_number-local = next_local read_number (λ at n. behind_number n) number_local (λ at n. behind_number-local n)

one_number-moves : Moves one_number
unfolding behind_number
one_number-moves = moves_second read_number (λ at n. behind_number n) number_local (λ at n. behind_number-moves n)

pub numbers_local : IsLocal (things one_number)
numbers_local = things_local one_number one_number-local one_number-moves

row_line-local : (letter : ℕ) → IsLocal (row_line letter)
row_line-local letter = behind_fixed (letter ∷ 32 ∷ []) (things one_number) numbers_local

pub row_line-moves : (letter : ℕ) → Moves (row_line letter)
row_line-moves letter = moves_first (read_fixed (letter ∷ 32 ∷ [])) (λ at u. things one_number) (fixed_moves letter (32 ∷ [])) (λ at u. numbers_local)

rows_local : (letter : ℕ) → (0 == letter) ≡ false → IsLocal (read_rows letter)
rows_local letter other = all_lines_local letter (row_line letter) other (row_line-local letter) (row_line-moves letter)

-- Certificates.

with_goals : List (Clause Term) → List (List ℕ) → Reader Certificate
with_goals cs rows bytes at = next (read_rows 103 bytes at) (λ goals p r. next (read_fixed (codes "end\n") r p) (λ _ p r. Found (record { clauses = cs; rows = rows; goals = goals }) p r))

with_goals-local : (cs : List (Clause Term)) (rows : List (List ℕ)) → IsLocal (with_goals cs rows)
unfolding with_goals
with_goals-local cs rows =
    next_local (read_rows 103) (λ at goals bytes p. next (read_fixed (codes "end\n") bytes p) (λ _ p r. Found (record { clauses = cs; rows = rows; goals = goals }) p r)) (rows_local 103 refl)
    (λ at goals. closing_local (codes "end\n") (record { clauses = cs; rows = rows; goals = goals }))

end_local : (cs : List (Clause Term)) → IsLocal (certificate_end cs)
unfolding with_goals
end_local cs = next_local (read_rows 114) (λ at rows. with_goals cs rows) (rows_local 114 refl) (λ at rows. with_goals-local cs rows)

with_clauses : Protocol → ℕ → Reader Certificate
with_clauses P most bytes at = next (lines_from 99 (clause_line P) most [] bytes at) (λ cs p r. certificate_end cs r p)

with_clauses-local : (P : Protocol) (most : ℕ) → IsLocal (with_clauses P most)
unfolding with_clauses
with_clauses-local P most = next_local (lines_from 99 (clause_line P) most []) (λ at cs. certificate_end cs) (lines_local 99 (clause_line P) (clause_line-local P) most []) (λ at cs. end_local cs)

within_local : (most : ℕ) (P : Protocol) → IsLocal (certificate_within most P)
unfolding with_clauses
within_local most P = behind_fixed (codes "cert 1\n") (with_clauses P most) (with_clauses-local P most)

pub certificate_local : (P : Protocol) → IsLocal (read_certificate P)
certificate_local P = within_local most_clauses P

-- No text goes on.

pub same_fault : {A : Type 0} (r : Reader A) → IsLocal r → (w : List ℕ) (b : ℕ) (rest other : List ℕ) (at : ℕ) → r (w ++ b ∷ rest) at ≡ Faulty (at + length w) Syntax → r (w ++ b ∷ other) at ≡ Faulty (at + length w) Syntax
same_fault r local w b rest other at e = local.fault (w ++ b ∷ rest) (w ++ b ∷ other) at (length w) (at + length w) (shares_behind w b rest other) refl e

no_text : {A : Type 0} (spell : A → List ℕ → List ℕ) (Is : A → Type 0) (r : Reader A) → IsLocal r → Complete spell Is r → (w : List ℕ) (b : ℕ) (rest other : List ℕ) (at : ℕ) (x : A) (k : List ℕ)
    → r (w ++ b ∷ rest) at ≡ Faulty (at + length w) Syntax → Is x → w ++ b ∷ other ≡ spell x k → ⊥
no_text spell Is r local complete w b rest other at x k e is text =
    let found = complete x k at is in
    let told : Faulty (at + length w) Syntax ≡ Found x found.place k = sym (same_fault r local w b rest other at e) ∙ (ap (λ bytes. r bytes at) text ∙ found.is) in
    cc

pub no_hypothesis : (P : Protocol) (w : List ℕ) (b : ℕ) (rest other : List ℕ) (at : ℕ) (f : Fact Term) (k : List ℕ) → HasNames P → read_hypothesis P (w ++ b ∷ rest) at ≡ Faulty (at + length w) Syntax → IsHypothesisOf P f → w ++ b ∷ other ≡ fact_text P f k → ⊥
no_hypothesis P w b rest other at f k names = no_text (fact_text P) (IsHypothesisOf P) (read_hypothesis P) (hypothesis_local P) (hypothesis_found P names) w b rest other at f k

pub no_conclusion : (P : Protocol) (w : List ℕ) (b : ℕ) (rest other : List ℕ) (at : ℕ) (f : Fact Term) (k : List ℕ) → HasNames P → read_conclusion P (w ++ b ∷ rest) at ≡ Faulty (at + length w) Syntax → IsConclusionOf P f → w ++ b ∷ other ≡ fact_text P f k → ⊥
no_conclusion P w b rest other at f k names = no_text (fact_text P) (IsConclusionOf P) (read_conclusion P) (conclusion_local P) (conclusion_found P names) w b rest other at f k

pub no_clause : (P : Protocol) (w : List ℕ) (b : ℕ) (rest other : List ℕ) (at : ℕ) (c : Clause Term) (k : List ℕ) → HasNames P → read_clause P (w ++ b ∷ rest) at ≡ Faulty (at + length w) Syntax → IsReadable P c → w ++ b ∷ other ≡ clause_text P c k → ⊥
no_clause P w b rest other at c k names = no_text (clause_text P) (IsReadable P) (read_clause P) (clause_local P) (clause_found P names) w b rest other at c k

pub no_certificate : (P : Protocol) (w : List ℕ) (b : ℕ) (rest other : List ℕ) (at : ℕ) (c : Certificate) (k : List ℕ) → HasNames P → read_certificate P (w ++ b ∷ rest) at ≡ Faulty (at + length w) Syntax → IsReadableCertificate P c → w ++ b ∷ other ≡ certificate_text P c k → ⊥
no_certificate P w b rest other at c k names = no_text (certificate_text P) (IsReadableCertificate P) (read_certificate P) (certificate_local P) (read_certificate-found P names) w b rest other at c k
