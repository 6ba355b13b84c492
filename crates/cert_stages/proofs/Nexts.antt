-- The next row, if there is one.
use Rattle.std.proofs.Common.{◌≡◌, ◌↔◌, ℕ, zero, suc, false, Some, None, List, [], ◌∷◌, drop, sym, subst}
use Rattle.std.specs.Prelude.{slice_get, IsTrue}
use Rattle.std.proofs.lemmas.Bool.{false≢true}
use Rattle.spec_calculus.specs.Syntax.{Query, Secret, SecretNew, Correspondence, Protocol}
use Rattle.spec_terms.specs.Term.{Term}
use Rattle.spec_clauses.specs.Fact.{Clause}
use Rattle.spec_certificates.specs.Certificate.{CoverRowHolds, GoalHolds}
use Rattle.cert_stages.specs.Stages.{Shows, NextShows}

-- a row at the place shows what it shows
pub next_at : (S : Shows) (rows : List (List ℕ)) (next : ℕ) (row : List ℕ) (c : Clause Term) → slice_get rows next ≡ Some row → S row c ↔ NextShows S (drop next rows) c
next_at S [] next row c e = cc
next_at S (r ∷ rows) zero row c e = let same : r ≡ row = cc in (λ x. subst (λ l. S l c) (sym same) x, λ x. subst (λ l. S l c) same x)
next_at S (r ∷ rows) (suc next) row c e = next_at S rows next row c e

-- past the rows there is none
pub next_past : (S : Shows) (rows : List (List ℕ)) (next : ℕ) (c : Clause Term) → slice_get rows next ≡ None → NextShows S (drop next rows) c → ⊥
next_past S [] zero c e x = x
next_past S [] (suc next) c e x = x
next_past S (r ∷ rows) zero c e x = cc
next_past S (r ∷ rows) (suc next) c e x = next_past S rows next c e x

-- nothing follows from what isn't true
pub never_told : (Q : Type 0) → (Q → ⊥) → IsTrue false ↔ Q
never_told Q never = (λ e. absurd (false≢true e), λ x. absurd (never x))

-- an empty row shows nothing
pub no_goal_row : (P : Protocol) (q : Query) (c : Clause Term) → GoalHolds P q [] c → ⊥
no_goal_row P (Secret message phase) c h = h
no_goal_row P (SecretNew point phase) c h = h
no_goal_row P (Correspondence left alternatives) c h = h

pub no_cover_row : (clauses : List (Clause Term)) (c : Clause Term) → CoverRowHolds clauses [] c → ⊥
no_cover_row clauses c h = h
