-- What has a goal row is satisfied.
use Rattle.std.proofs.Common.{◌≡◌, ◌∙◌, ℕ, zero, suc, true, ◌&&◌, List, [], ◌∷◌, refl, ap, sym, subst, inl, inr}
use Rattle.spec_calculus.specs.Syntax.{Query, Secret, SecretNew, Correspondence, Protocol}
use Rattle.spec_terms.specs.Term.{Term}
use Rattle.spec_clauses.specs.Fact.{Clause}
use Rattle.spec_clauses.specs.Selection.{is_solved}
use Rattle.spec_clauses.specs.Inclusion.{Picks, here, there, Has}
use Rattle.spec_clauses.proofs.Inclusion.{Has-filter}
use Rattle.spec_translation.specs.Satisfied.{is_bad, IsSatisfied}
use Rattle.spec_soundness.proofs.GoalRows.{rows_tell}
use Rattle.spec_certificates.specs.Certificate.{GoalHolds}
use Rattle.spec_saturation.specs.Key.{Entry}
use Rattle.spec_saturation.specs.Log.{IsBeaten, IsLive}
use Rattle.spec_saturation.specs.Live.{AreLive}
use Rattle.spec_verdicts.specs.FirstRows.{AreFirstGoals, bad_clauses}

-- a row that holds shows that the clause is satisfied
pub goal_satisfies : (P : Protocol) (q : Query) (row : List ℕ) (c : Clause Term) → GoalHolds P q row c → IsSatisfied P q c
goal_satisfies P (Secret message phase) row c h = h
goal_satisfies P (SecretNew point phase) row c h = h
goal_satisfies P (Correspondence left alternatives) [] c h = absurd h
goal_satisfies P (Correspondence left alternatives) (n ∷ positions) c h = (rows_tell P left alternatives c).1 (n, positions, h)

-- each of the clauses that have rows is satisfied
goals_satisfy : (P : Protocol) (q : Query) (cs : List (Clause Term)) (rows : List (List ℕ)) → AreFirstGoals P q cs rows → (c : Clause Term) → Has cs c → IsSatisfied P q c
goals_satisfy P q cs rows are c h = of_pick rows h.1 are
  where
    of_pick : {ds rest : List (Clause Term)} {d : Clause Term} (rows : List (List ℕ)) → Picks ds d rest → AreFirstGoals P q ds rows → IsSatisfied P q d
    of_pick [] (here {x = d}) a = absurd a
    of_pick (row ∷ rows) (here {x = d}) a = goal_satisfies P q row d a.0.holds
    of_pick [] (there {y = e} p) a = absurd a
    of_pick (row ∷ rows) (there {y = e} p) a = of_pick rows p a.1

-- and so is each solved clause that concludes `bad`
pub bad_satisfied : (P : Protocol) (q : Query) (cs : List (Clause Term)) (rows : List (List ℕ)) → AreFirstGoals P q (bad_clauses cs) rows → (c : Clause Term) → Has cs c → is_solved c.hypotheses ≡ true → is_bad c.conclusion ≡ true → IsSatisfied P q c
bad_satisfied P q cs rows are c h solved bad =
    goals_satisfy P q (bad_clauses cs) rows are c (Has-filter (λ c. is_solved c.hypotheses && is_bad c.conclusion) cs c h (rw solved (rw bad refl)))

-- the clause of a live entry is among the live ones
pub live_listed : (es : List Entry) (cs : List (Clause Term)) → AreLive es cs → (n : ℕ) (c : Clause Term) → IsLive es n c → Has cs c
live_listed es cs live zero c l = let none = l.at in cc
live_listed [] cs live (suc n) c l = let none = l.at in cc
live_listed (e ∷ es) cs live (suc zero) c l = go live
  where
    same : e.clause ≡ c
    same = let at = l.at in let is : e ≡ l.entry = cc in ap (λ x. x.clause) is ∙ l.clause

    go : AreLive (e ∷ es) cs → Has cs c
    go (inl x) = absurd (l.unbeaten (subst (IsBeaten es) same x.0))
    go (inr x) = let (u, (rest, is, more)) = x in subst (λ ds. Has ds c) (sym is) (subst (λ d. Has (d ∷ rest) c) (sym same) (rest, here))
live_listed (e ∷ es) cs live (suc (suc n)) c l =
    go live (λ rest more. live_listed es rest more (suc n) c (record { entry = l.entry; at = l.at; clause = l.clause; unbeaten = l.unbeaten }))
  where
    go : AreLive (e ∷ es) cs → ((rest : List (Clause Term)) → AreLive es rest → Has rest c) → Has cs c
    go (inl x) further = further cs x.1
    go (inr x) further =
        let (u, (rest, is, more)) = x in
        let found = further rest more in
        subst (λ ds. Has ds c) (sym is) (e.clause ∷ found.0, there found.1)
