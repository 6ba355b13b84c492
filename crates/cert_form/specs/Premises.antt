-- The hypotheses and the constraints of a clause, and what stands between and behind them.
use Rattle.std.specs.Prelude.{ℕ, suc, Bool, true, false, List, [], ◌∷◌, ◌++◌, flat_map}
use Rattle.spec_calculus.specs.Syntax.{Protocol}
use Rattle.spec_terms.specs.Term.{Term}
use Rattle.spec_clauses.specs.Diff.{Diff}
use Rattle.spec_clauses.specs.Fact.{Fact, Clause, terms_of}
use Rattle.spec_certificate_text.specs.Sides.{sides_in_order, spelled_diff}
use Rattle.spec_node_tables.specs.Text.{fact_over, sides_over}
use Rattle.cert_form.specs.Parts.{gap_at}

-- before a constraint of that place, from 0: a comma and a space, but before the first where no hypothesis stands before it
abbrev pub gap_behind : Bool → ℕ → List ℕ → List ℕ
gap_behind true place rest = 44 ∷ 32 ∷ rest
gap_behind false place rest = gap_at place rest

-- a space, where one is wanted
abbrev pub space_where : Bool → List ℕ → List ℕ
space_where true rest = 32 ∷ rest
space_where false rest = rest

-- whether there are any
abbrev pub are_any : {X : Type 0} → List X → Bool
are_any [] = false
are_any (x ∷ xs) = true

-- hypotheses, and constraints, from a place on, with nothing behind them

abbrev pub hypotheses_from : (Term → List ℕ → List ℕ) → Protocol → ℕ → List (Fact Term) → List ℕ → List ℕ
hypotheses_from one P n [] rest = rest
hypotheses_from one P n (h ∷ hs) rest = gap_at n (fact_over one P h (hypotheses_from one P (suc n) hs rest))

abbrev pub diffs_from : (Term → List ℕ → List ℕ) → Protocol → Bool → ℕ → List Diff → List ℕ → List ℕ
diffs_from one P behind n [] rest = rest
diffs_from one P behind n (d ∷ ds) rest = gap_behind behind n (sides_over one P (spelled_diff d) (diffs_from one P behind (suc n) ds rest))

abbrev pub hypotheses_alone : (Term → List ℕ → List ℕ) → Protocol → List (Fact Term) → List ℕ → List ℕ
hypotheses_alone one P hs rest = hypotheses_from one P 0 hs rest

abbrev pub diffs_alone : (Term → List ℕ → List ℕ) → Protocol → Bool → List Diff → List ℕ → List ℕ
diffs_alone one P behind ds rest = diffs_from one P behind 0 ds rest

-- the terms of both as they are written
abbrev pub premise_terms : Clause Term → List Term
premise_terms c = flat_map terms_of c.hypotheses ++ flat_map (λ d. sides_in_order (spelled_diff d)) c.diffs
