-- What is ruled where all obligations are met.
use Rattle.std.proofs.Common.{◌≡◌, ℕ, ◌+◌, ◌-◌, ◌<◌, ◌≤◌, List, [], ◌∷◌, length, drop, refl, ap, sym, subst, arith}
use Rattle.std.proofs.lemmas.List.{length-drop, drop_all}
use Rattle.spec_certificates.specs.Certificate.{Certificate}
use Rattle.spec_certificates.specs.Ruling.{Accepted, Extra, NoneLeft}

-- a cover row is left over
pub row_left : (cert : Certificate) (row : ℕ) (goals : List (List ℕ)) → row < length cert.rows → NoneLeft cert (drop row cert.rows) goals (Extra (row + 1))
row_left cert row goals within = go (drop row cert.rows) (length-drop row cert.rows) where
  go : (left : List (List ℕ)) → length left ≡ length cert.rows - row → NoneLeft cert left goals (Extra (row + 1))
  go [] e = absurd (omega (arith, within, e))
  go (r ∷ left) e = ap Extra (omega (arith, within, e))

-- none is, but a goal row
pub goal_left : (cert : Certificate) (row goal : ℕ) → length cert.rows ≤ row → goal < length cert.goals → NoneLeft cert (drop row cert.rows) (drop goal cert.goals) (Extra (length cert.rows + goal + 1))
goal_left cert row goal past within =
    subst (λ rows. NoneLeft cert rows (drop goal cert.goals) (Extra (length cert.rows + goal + 1))) (sym (drop_all row cert.rows past))
    (go (drop goal cert.goals) (length-drop goal cert.goals)) where
      go : (left : List (List ℕ)) → length left ≡ length cert.goals - goal → NoneLeft cert [] left (Extra (length cert.rows + goal + 1))
      go [] e = absurd (omega (arith, within, e))
      go (r ∷ left) e = ap Extra (omega (arith, within, e))

-- none is
pub none_left : (cert : Certificate) (row goal : ℕ) → length cert.rows ≤ row → length cert.goals ≤ goal → NoneLeft cert (drop row cert.rows) (drop goal cert.goals) Accepted
none_left cert row goal past goals_past =
    subst (λ rows. NoneLeft cert rows (drop goal cert.goals) Accepted) (sym (drop_all row cert.rows past))
    (subst (λ goals. NoneLeft cert [] goals Accepted) (sym (drop_all goal cert.goals goals_past)) refl)
