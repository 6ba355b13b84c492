-- First certificates are accepted.
use Rattle.std.proofs.Common.{◌≡◌, ℕ, ◌+◌, Bool, true, false, ◌&&◌, cond, Some, List, [], ◌∷◌, ◌++◌, refl, sym, subst, inl, inr}
use Rattle.spec_calculus.specs.Syntax.{Query, Protocol}
use Rattle.spec_well_formed.specs.Limits.{IsSmallQuery, IsWithinLimits}
use Rattle.spec_terms.specs.Term.{Term}
use Rattle.spec_clauses.specs.Fact.{Clause}
use Rattle.spec_clauses.specs.Selection.{is_solved}
use Rattle.spec_clauses.specs.Resolvents.{Answer, NoUnifier, Large, Resolvents}
use Rattle.spec_clauses.specs.Inclusion.{here, there, Has}
use Rattle.spec_translation.specs.Satisfied.{is_bad}
use Rattle.spec_translation.specs.Translation.{Clauses, IsTranslation}
use Rattle.spec_certificates.specs.Certificate.{Certificate, IsInShape, numbered_from, Pair}
use Rattle.spec_certificates.specs.Ruling.{Ruling, Accepted, Cover, Closure, Rest, Shapes, Covers, Answered, Closures, Goals, NoneLeft, bad_ones, Obliged, IsRuled}
use Rattle.spec_verdicts.specs.FirstRows.{AreFirstCovers, AreFirstGoals, bad_clauses}
use Rattle.spec_verdicts.specs.First.{resolvents_of, AllGive, all_pairs, IsFirstCertificate}
use Rattle.spec_verdicts.specs.Verdict.{Proved, IsVerdict}
use Rattle.spec_verdicts.proofs.Entries.{live_shape}

module _ (clauses : List (Clause Term)) where
  -- clauses that have their rows are covered, and what follows them is ruled of the rows that are left
  covers_accept : (failure : ℕ → Ruling) (n : ℕ) (cs more : List (Clause Term)) (rows : List (List ℕ)) (R : Rest) → AreFirstCovers clauses (cs ++ more) rows → ((rest : List (List ℕ)) → AreFirstCovers clauses more rest → R rest Accepted) → Covers clauses failure (numbered_from n cs) R rows Accepted
  covers_accept failure n [] more rows R are next = next rows are
  covers_accept failure n (c ∷ cs) more [] R are next = absurd are
  covers_accept failure n (c ∷ cs) more (row ∷ rows) R are next = inl (are.0.holds, covers_accept failure (n + 1) cs more rows R are.1 next)

  answered_accept : (pair : Pair) (answer : Answer) (made more : List (Clause Term)) (rows : List (List ℕ)) (R : Rest) → resolvents_of answer ≡ Some made → AreFirstCovers clauses (made ++ more) rows → ((rest : List (List ℕ)) → AreFirstCovers clauses more rest → R rest Accepted) → Answered clauses pair answer R rows Accepted
  answered_accept pair NoUnifier made more rows R has are next =
      let none : made ≡ [] = cc in next rows (subst (λ ms. AreFirstCovers clauses (ms ++ more) rows) none are)
  answered_accept pair Large made more rows R has are next = cc
  answered_accept pair (Resolvents cs) made more rows R has are next =
      let same : made ≡ cs = cc in
      covers_accept (λ k. Closure pair.solved.number pair.unsolved.number k) 1 cs more rows R (subst (λ ms. AreFirstCovers clauses (ms ++ more) rows) same are) next

  -- where no clause is left, no row is
  none_left : (rows : List (List ℕ)) → AreFirstCovers clauses [] rows → rows ≡ []
  none_left [] are = refl
  none_left (row ∷ rows) are = absurd are

  closures_accept : (pairs : List Pair) (made : List (Clause Term)) (rows : List (List ℕ)) (R : Rest) → AllGive pairs made → AreFirstCovers clauses made rows → R [] Accepted → Closures clauses pairs R rows Accepted
  closures_accept [] made rows R gives are next =
      subst (λ left. R left Accepted) (sym (none_left rows (subst (λ ms. AreFirstCovers clauses ms rows) gives are))) next
  closures_accept (pair ∷ pairs) made rows R gives are next =
      let (first, rest, g, more, is) = gives in
      (g.answer, g.resolves, answered_accept pair g.answer first rest rows (Closures clauses pairs R) g.has (subst (λ ms. AreFirstCovers clauses ms rows) is are) (λ left h. closures_accept pairs rest left R more h next))

goals_accept : (P : Protocol) (q : Query) (n : ℕ) (cs : List (Clause Term)) (goals : List (List ℕ)) (R : Rest) → AreFirstGoals P q (bad_clauses cs) goals → R [] Accepted → Goals P q (bad_ones (numbered_from n cs)) R goals Accepted
goals_accept P q n [] [] R are next = next
goals_accept P q n [] (goal ∷ goals) R are next = absurd are
goals_accept P q n (c ∷ cs) goals R are next = go (is_solved c.hypotheses && is_bad c.conclusion) goals (λ rest h. goals_accept P q (n + 1) cs rest R h next) are
  where
    go : (b : Bool) (goals : List (List ℕ)) → ((rest : List (List ℕ)) → AreFirstGoals P q (bad_clauses cs) rest → Goals P q (bad_ones (numbered_from (n + 1) cs)) R rest Accepted)
        → AreFirstGoals P q (cond b (c ∷ bad_clauses cs) (bad_clauses cs)) goals → Goals P q (cond b (record { number = n; clause = c } ∷ bad_ones (numbered_from (n + 1) cs)) (bad_ones (numbered_from (n + 1) cs))) R goals Accepted
    go true [] further are = absurd are
    go true (goal ∷ goals) further are = inl (are.0.holds, further goals are.1)
    go false goals further are = further goals are

shapes_accept : (q : Query) (n : ℕ) (cs : List (Clause Term)) (R : Ruling → Type 0) → ((c : Clause Term) → Has cs c → IsInShape q c) → R Accepted → Shapes q (numbered_from n cs) R Accepted
shapes_accept q n [] R each next = next
shapes_accept q n (c ∷ cs) R each next = inl (each c (cs, here), shapes_accept q (n + 1) cs R (λ d h. each d (c ∷ h.0, there h.1)) next)

-- A first certificate of clauses in shape is accepted.
pub first_accepted : (P : Protocol) (q : Query) (given : List (Clause Term)) (cert : Certificate) → IsTranslation P q (Clauses given) → ((c : Clause Term) → Has cert.clauses c → IsInShape q c) → IsFirstCertificate P q given cert → IsRuled P q cert Accepted
first_accepted P q given cert translated shape f =
    let all = numbered_from 1 cert.clauses in
    let goals : Goals P q (bad_ones all) (λ goals. NoneLeft cert [] goals) cert.goals Accepted = goals_accept P q 1 cert.clauses cert.goals (λ goals. NoneLeft cert [] goals) f.goals refl in
    let behind : Rest = Closures cert.clauses (all_pairs cert.clauses) (λ rows. Goals P q (bad_ones all) (λ goals. NoneLeft cert rows goals) cert.goals) in
    shapes_accept q 1 cert.clauses (Obliged P q cert) shape (inr (
      given,
      translated,
      covers_accept cert.clauses Cover 1 given f.made cert.rows behind f.covers
          (λ rest h. closures_accept cert.clauses (all_pairs cert.clauses) f.made rest (λ rows. Goals P q (bad_ones all) (λ goals. NoneLeft cert rows goals) cert.goals) f.give h goals),
    ))

pub proved_accepted : (P : Protocol) (q : Query) (budget : ℕ) (cert : Certificate) → IsWithinLimits P → IsSmallQuery q → IsVerdict P q budget (Proved cert) → IsRuled P q cert Accepted
proved_accepted P q budget cert limits small (inl x) = let wrong = x.2 in cc
proved_accepted P q budget cert limits small (inr x) =
    let (given, translated, p) = x in
    first_accepted P q given cert translated (live_shape P q given translated limits small budget p.log cert.clauses p.is_log p.live) p.certificate
