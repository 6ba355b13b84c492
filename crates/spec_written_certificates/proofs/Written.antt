-- What is written of a certificate where a format is wanted.
use Rattle.std.proofs.Common.{◌≡◌, ◌⊎◌, inl, inr, ℕ, nat_eq, ◌&&◌, cond, Bool, true, false, List, [], ◌++◌, refl, ap, ◌∙◌}
use Rattle.std.proofs.lemmas.Bool.Decides.{eqb_tells}
use Rattle.spec_calculus.specs.Syntax.{Protocol}
use Rattle.spec_terms.specs.Term.{Term}
use Rattle.spec_clauses.specs.Fact.{Clause}
use Rattle.spec_certificates.specs.Certificate.{Certificate}
use Rattle.spec_certificate_text.specs.Text.{certificate_text}
use Rattle.spec_certificate_text.proofs.Followed.{certificate_followed}
use Rattle.spec_certificate_text.specs.Readable.{IsReadableCertificate}
use Rattle.spec_node_tables.specs.Large.{FitsInNodes, is_large_in_nodes}
use Rattle.spec_node_tables.specs.Text.{text_with_nodes}
use Rattle.spec_node_reading.specs.Readable.{SpellsNumbered, SpellsPlain, SpellsCertificate}
use Rattle.cert_form.specs.Writing.{format_for, text_in}
use Rattle.spec_written_certificates.proofs.Followed.{with_nodes_followed}
use Rattle.spec_written_certificates.proofs.Numberable.{numberable}

-- the format in which it is written: the one that is wanted, or 1
kept : (wanted : ℕ) (cs : List (Clause Term)) → (nat_eq wanted 2 && is_large_in_nodes cs) ≡ false → format_for wanted cs ≡ wanted
kept wanted cs e = ap (λ b. cond b 1 wanted) e

lost : (wanted : ℕ) (cs : List (Clause Term)) → (nat_eq wanted 2 && is_large_in_nodes cs) ≡ true → format_for wanted cs ≡ 1
lost wanted cs e = ap (λ b. cond b 1 wanted) e

without : (format : ℕ) (P : Protocol) (c : Certificate) → nat_eq format 2 ≡ false → text_in format P c [] ≡ certificate_text P c []
without format P c e = ap (λ b. cond b (text_with_nodes P c []) (certificate_text P c [])) e

by_table : (format : ℕ) (P : Protocol) (c : Certificate) → nat_eq format 2 ≡ true → text_in format P c [] ≡ text_with_nodes P c []
by_table format P c e = ap (λ b. cond b (text_with_nodes P c []) (certificate_text P c [])) e

-- its text in that format spells it

as_it_stands : (format : ℕ) (P : Protocol) (c : Certificate) (rest : List ℕ) → IsReadableCertificate P c → text_in format P c [] ≡ certificate_text P c [] → SpellsPlain P (text_in format P c [] ++ rest) c rest
as_it_stands format P c rest is e = record { may = is; text = ap (λ k. k ++ rest) e ∙ certificate_followed P c [] rest }

by_its_table : (format : ℕ) (P : Protocol) (c : Certificate) (rest : List ℕ) → IsReadableCertificate P c → FitsInNodes c.clauses → text_in format P c [] ≡ text_with_nodes P c []
    → SpellsNumbered P (text_in format P c [] ++ rest) c rest
by_its_table format P c rest is fits e = record { may = numberable P c is fits; text = ap (λ k. k ++ rest) e ∙ with_nodes_followed P c [] rest }

-- whether 2 is wanted, and whether the clauses are too large for a table, tells how it is written

pub written_otherwise : (P : Protocol) (c : Certificate) (format : ℕ) (rest : List ℕ) → IsReadableCertificate P c → nat_eq format 2 ≡ false → SpellsPlain P (text_in (format_for format c.clauses) P c [] ++ rest) c rest
written_otherwise P c format rest is e =
    let same = kept format c.clauses (ap (λ b. b && is_large_in_nodes c.clauses) e) in
    as_it_stands (format_for format c.clauses) P c rest is (ap (λ n. text_in n P c []) same ∙ without format P c e)

pub written_large : (P : Protocol) (c : Certificate) (format : ℕ) (rest : List ℕ) → IsReadableCertificate P c → is_large_in_nodes c.clauses ≡ true → SpellsPlain P (text_in (format_for format c.clauses) P c [] ++ rest) c rest
written_large P c format rest is l = by_test (nat_eq format 2) refl
  where
    by_test : (two : Bool) → nat_eq format 2 ≡ two → SpellsPlain P (text_in (format_for format c.clauses) P c [] ++ rest) c rest
    by_test false e = written_otherwise P c format rest is e
    by_test true e =
        let same = lost format c.clauses (ap (λ b. b && is_large_in_nodes c.clauses) e ∙ l) in
        as_it_stands (format_for format c.clauses) P c rest is (ap (λ n. text_in n P c []) same)

pub written_by_table : (P : Protocol) (c : Certificate) (format : ℕ) (rest : List ℕ) → IsReadableCertificate P c → FitsInNodes c.clauses → nat_eq format 2 ≡ true → is_large_in_nodes c.clauses ≡ false
    → SpellsNumbered P (text_in (format_for format c.clauses) P c [] ++ rest) c rest
written_by_table P c format rest is fits e l =
    let same = kept format c.clauses (ap (λ b. b && is_large_in_nodes c.clauses) e ∙ l) in
    by_its_table (format_for format c.clauses) P c rest is fits (ap (λ n. text_in n P c []) same ∙ by_table format P c e)

pub written_spelled : ((cs : List (Clause Term)) → is_large_in_nodes cs ≡ false → FitsInNodes cs)
    → (P : Protocol) (c : Certificate) (format : ℕ) (rest : List ℕ) → IsReadableCertificate P c → SpellsCertificate P (text_in (format_for format c.clauses) P c [] ++ rest) c rest
written_spelled fits P c format rest is = by_tests (nat_eq format 2) (is_large_in_nodes c.clauses) refl refl
  where
    by_tests : (two large : Bool) → nat_eq format 2 ≡ two → is_large_in_nodes c.clauses ≡ large → SpellsCertificate P (text_in (format_for format c.clauses) P c [] ++ rest) c rest
    by_tests false large e l = inl (written_otherwise P c format rest is e)
    by_tests true true e l = inl (written_large P c format rest is l)
    by_tests true false e l = inr (written_by_table P c format rest is (fits c.clauses l) e l)

pub written_unfit : ((cs : List (Clause Term)) → is_large_in_nodes cs ≡ false → FitsInNodes cs)
    → (P : Protocol) (c : Certificate) (format : ℕ) (rest : List ℕ) → IsReadableCertificate P c → (FitsInNodes c.clauses → ⊥) → SpellsPlain P (text_in (format_for format c.clauses) P c [] ++ rest) c rest
written_unfit fits P c format rest is unfit = by_test (is_large_in_nodes c.clauses) refl
  where
    by_test : (large : Bool) → is_large_in_nodes c.clauses ≡ large → SpellsPlain P (text_in (format_for format c.clauses) P c [] ++ rest) c rest
    by_test true l = written_large P c format rest is l
    by_test false l = absurd (unfit (fits c.clauses l))

-- a number that isn't 2 is told from it
pub no_two : (format : ℕ) → (format ≡ 2 → ⊥) → nat_eq format 2 ≡ false
no_two format other = by_cases (eqb_tells format 2)
  where
    by_cases : ((nat_eq format 2 ≡ true) × (format ≡ 2)) ⊎ ((nat_eq format 2 ≡ false) × (format ≡ 2 → ⊥)) → nat_eq format 2 ≡ false
    by_cases (inl both) = absurd (other both.1)
    by_cases (inr both) = both.0
