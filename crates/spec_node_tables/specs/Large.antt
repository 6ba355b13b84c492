-- Which certificates may be written by a table: a few nodes can stand for many symbols, so what they stand for is limited.
use Rattle.std.specs.Prelude.{ℕ, ◌+◌, ◌≤◌, nat_le, Bool, not, ◌||◌, List, [], ◌∷◌, ◌++◌, map}
use Rattle.std.specs.List.{AllByRecursion, list_any}
use Rattle.spec_trees.specs.Tree.{size}
use Rattle.spec_calculus.specs.Bounds.{most_symbols}
use Rattle.spec_terms.specs.Term.{Term}
use Rattle.spec_clauses.specs.Fact.{Fact, Clause, terms_of, total, clause_size}
use Rattle.spec_clauses.specs.Diff.{Diff}
use Rattle.spec_clauses.specs.Head.{head_of, head_size}
use Rattle.spec_certificate_text.specs.Sides.{spelled_diff, sides_in_order}
use Rattle.spec_node_tables.specs.Table.{table}

-- symbols of all clauses of a certificate that is written by a table: as many as a report has bytes at most
abbrev pub most_certificate_symbols : ℕ
most_certificate_symbols = 67108864

-- How many symbols there are up to and with each term, where so many stand before: of terms, of facts, of constraints, and of clauses.

abbrev pub up_to_terms : ℕ → List Term → List ℕ
up_to_terms before [] = []
up_to_terms before (t ∷ ts) = (before + size t) ∷ up_to_terms (before + size t) ts

-- a part of a clause: how many symbols stand before its terms, and these
pub record Piece : Type 0 where
  pub signs : ℕ
  pub terms : List Term

abbrev pub fact_piece : Fact Term → Piece
fact_piece f = record { signs = head_size (head_of f); terms = terms_of f }

abbrev pub diff_piece : Diff → Piece
diff_piece d = record { signs = 1; terms = sides_in_order (spelled_diff d) }

-- the parts of a clause as they are written
abbrev pub pieces : Clause Term → List Piece
pieces c = map fact_piece c.hypotheses ++ (map diff_piece c.diffs ++ (fact_piece c.conclusion ∷ []))

abbrev pub piece_size : Piece → ℕ
piece_size p = p.signs + total size p.terms

abbrev pub up_to_piece : ℕ → Piece → List ℕ
up_to_piece before p = up_to_terms (before + p.signs) p.terms

abbrev pub up_to_pieces : ℕ → List Piece → List ℕ
up_to_pieces before [] = []
up_to_pieces before (p ∷ ps) = up_to_piece before p ++ up_to_pieces (before + piece_size p) ps

abbrev pub up_to_clause : ℕ → Clause Term → List ℕ
up_to_clause before c = up_to_pieces before (pieces c)

abbrev pub up_to_clauses : ℕ → List (Clause Term) → List ℕ
up_to_clauses before [] = []
up_to_clauses before (c ∷ cs) = up_to_clause before c ++ up_to_clauses (before + clause_size c) cs

abbrev pub AreUpTo : ℕ → List ℕ → Type 0
AreUpTo most ns = AllByRecursion (λ n. n ≤ most) ns

-- No node has more symbols than the limit of size, no clause has up to one of its terms, and all clauses together have no more up to one
-- of theirs than the limit of all.
pub record FitsInNodes (cs : List (Clause Term)) : Type 0 where
  pub nodes : AllByRecursion (λ t. size t ≤ most_symbols) (table cs)
  pub clauses : AllByRecursion (λ c. AreUpTo most_symbols (up_to_clause 0 c)) cs
  pub together : AreUpTo most_certificate_symbols (up_to_clauses 0 cs)

-- whether a number is over the limit; and whether one of these numbers is
abbrev pub is_over : ℕ → ℕ → Bool
is_over most n = not (nat_le n most)

abbrev pub some_over : ℕ → List ℕ → Bool
some_over most ns = list_any (is_over most) ns

-- whether the clauses are too large for a table
abbrev pub is_large_in_nodes : List (Clause Term) → Bool
is_large_in_nodes cs =
    list_any (λ t. is_over most_symbols (size t)) (table cs)
    || (list_any (λ c. some_over most_symbols (up_to_clause 0 c)) cs
    || some_over most_certificate_symbols (up_to_clauses 0 cs))
