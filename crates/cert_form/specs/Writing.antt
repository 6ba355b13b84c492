-- How a certificate writes its terms: each as it stands, or by its number in a table of what was written so far and of what follows.
use Rattle.std.specs.Prelude.{◌≡◌, ℕ, nat_eq, ◌&&◌, cond, List, ◌++◌, map, codes}
use Rattle.spec_calculus.specs.Syntax.{Protocol}
use Rattle.spec_terms.specs.Term.{Term}
use Rattle.spec_clauses.specs.Fact.{Clause}
use Rattle.spec_certificates.specs.Certificate.{Certificate}
use Rattle.spec_certificate_text.specs.Sides.{spelled_clause, map_spelled}
use Rattle.spec_certificate_text.specs.Text.{clause_lines, certificate_text}
use Rattle.spec_node_tables.specs.Table.{table, number_in}
use Rattle.spec_node_tables.specs.Nodes.{node_of}
use Rattle.spec_node_tables.specs.Large.{is_large_in_nodes}
use Rattle.spec_node_tables.specs.Text.{number_text, node_lines, clause_lines_over, text_with_nodes}
use Rattle.cert_form.specs.Appends.{Appends}

-- A text with these terms was put behind the earlier bytes. `kept_of` is what a writer keeps of terms that it wrote, in order, and `one`
-- the text of a term among all terms of a certificate, in order.
pub record Writes (kept_of : List Term → List Term) (one : List Term → Term → List ℕ → List ℕ) (ts : List Term) (text : (Term → List ℕ → List ℕ) → List ℕ → List ℕ)
    (kept now : List Term) (before after : List ℕ) : Type 0 where
  -- the writer keeps what it keeps of the earlier terms and these
  pub keeps : (earlier : List Term) → kept ≡ kept_of earlier → now ≡ kept_of (earlier ++ ts)
  -- and whatever terms follow, the text is that of a certificate with all of them
  pub puts : (earlier later : List Term) → kept ≡ kept_of earlier → Appends (text (one (earlier ++ (ts ++ later)))) before after

-- The formats: 2 is that by a table of nodes, and in 1 each term is written as it stands.

abbrev pub text_in : ℕ → Protocol → Certificate → List ℕ → List ℕ
text_in format P c rest = cond (nat_eq format 2) (text_with_nodes P c rest) (certificate_text P c rest)

-- the first line and the clauses in each, and in the one that is wanted

abbrev pub spelled_clauses : Protocol → List (Clause Term) → List ℕ → List ℕ
spelled_clauses P cs rest = codes "cert 1\n" ++ clause_lines P cs rest

abbrev pub numbered_clauses : Protocol → List (Clause Term) → List ℕ → List ℕ
numbered_clauses P cs rest = let ts = table cs in
    codes "cert 2\n" ++ node_lines P (map (node_of ts) ts) (clause_lines_over number_text P (map (λ c. map_spelled (number_in ts) (spelled_clause c)) cs) rest)

abbrev pub clauses_in : ℕ → Protocol → List (Clause Term) → List ℕ → List ℕ
clauses_in format P cs rest = cond (nat_eq format 2) (numbered_clauses P cs rest) (spelled_clauses P cs rest)

-- the format in which clauses are written, where one is wanted: what is too large for a table is written without one
abbrev pub format_for : ℕ → List (Clause Term) → ℕ
format_for wanted cs = cond (nat_eq wanted 2 && is_large_in_nodes cs) 1 wanted
