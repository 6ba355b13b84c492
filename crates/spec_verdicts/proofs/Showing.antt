-- What is proved is shown: the clauses of a first certificate close the translation, and show the query.
use Rattle.std.proofs.Common.{◌≡◌, ℕ, ◌+◌, Some, List, [], ◌∷◌, ◌++◌, sym, subst, inl, inr}
use Rattle.std.specs.List.{list_all}
use Rattle.spec_trees.proofs.Equality.{and_true}
use Rattle.spec_calculus.specs.Syntax.{Query, Protocol}
use Rattle.spec_terms.specs.Term.{Term}
use Rattle.spec_clauses.specs.Fact.{Clause}
use Rattle.spec_clauses.specs.Flat.{is_flat}
use Rattle.spec_clauses.specs.Norm.{IsNormal}
use Rattle.spec_clauses.specs.Resolvents.{Answer, NoUnifier, Large, Resolvents, Resolves}
use Rattle.spec_clauses.specs.Inclusion.{Picks, here, there, Has}
use Rattle.spec_clauses.specs.Subsumption.{IsCovered}
use Rattle.spec_clauses.proofs.Inclusion.{Has-append_left, Has-append_right}
use Rattle.spec_clauses.proofs.Selection.{select-none}
use Rattle.spec_clauses.proofs.Subsumption.{row_subsumes}
use Rattle.spec_derivations.specs.Closed.{IsPairClosed}
use Rattle.spec_derivations.proofs.Choosing.{closed_by_selection}
use Rattle.spec_derivations.proofs.Closing.{none_closes, resolvents_close}
use Rattle.spec_translation.specs.Translation.{Clauses, IsTranslation}
use Rattle.spec_translation.proofs.Goal.{clauses_normal}
use Rattle.spec_certificates.specs.Shown.{IsShown}
use Rattle.spec_certificates.specs.Certificate.{Certificate, CoverRowHolds, numbered_from, by_selection, Pair}
use Rattle.spec_certificates.proofs.Accepting.{pair_listed}
use Rattle.spec_certificates.proofs.Selected.{shown_by_selection}
use Rattle.spec_saturation.proofs.Pairs.{has_numbered, closed_covers}
use Rattle.spec_verdicts.specs.FirstRows.{AreFirstCovers}
use Rattle.spec_verdicts.specs.First.{resolvents_of, AllGive, all_pairs}
use Rattle.spec_verdicts.specs.Verdict.{Proved, IsVerdict, IsProved}
use Rattle.spec_verdicts.proofs.Goals.{bad_satisfied}

-- a numbered clause of a list
listed_numbered : (n : ℕ) (cs : List (Clause Term)) (c : Clause Term) → Has cs c → (k : ℕ) × Has (numbered_from n cs) (record { number = k; clause = c })
listed_numbered n cs c h = of_pick n h.1 where
  of_pick : (n : ℕ) {ds rest : List (Clause Term)} {d : Clause Term} → Picks ds d rest → (k : ℕ) × Has (numbered_from n ds) (record { number = k; clause = d })
  of_pick n (here {xs = ds}) = (n, (numbered_from (n + 1) ds, here))
  of_pick n (there {y = d} p) = let (k, found) = of_pick (n + 1) p in (k, (record { number = n; clause = d } ∷ found.0, there found.1))

module _ (clauses : List (Clause Term)) (normal : (c : Clause Term) → Has clauses c → IsNormal c) where
  -- a row that holds shows that the clause is covered
  row_covers : (row : List ℕ) (c : Clause Term) → CoverRowHolds clauses row c → IsCovered clauses c
  row_covers [] c h = absurd h
  row_covers (n ∷ positions) c h =
      let listed = has_numbered clauses n h.0 h.1 in
      let flat_all = (and_true (is_flat h.0.conclusion) (list_all is_flat h.0.hypotheses) (normal h.0 listed).flat).1 in
      (h.0, listed, row_subsumes h.0 c positions flat_all h.2)

  rows_cover : (cs : List (Clause Term)) (rows : List (List ℕ)) → AreFirstCovers clauses cs rows → (c : Clause Term) → Has cs c → IsCovered clauses c
  rows_cover cs rows are c h = of_pick rows h.1 are
    where
      of_pick : {ds rest : List (Clause Term)} {d : Clause Term} (rows : List (List ℕ)) → Picks ds d rest → AreFirstCovers clauses ds rows → IsCovered clauses d
      of_pick [] (here {x = d}) a = absurd a
      of_pick (row ∷ rows) (here {x = d}) a = row_covers row d a.0.holds
      of_pick [] (there {y = e} p) a = absurd a
      of_pick (row ∷ rows) (there {y = e} p) a = of_pick rows p a.1

  -- a pair whose resolvents are covered is closed
  pair_closed : (pair : Pair) (answer : Answer) (made : List (Clause Term)) → Resolves pair.solved.clause pair.unsolved.clause pair.at answer → resolvents_of answer ≡ Some made → ((c : Clause Term) → Has made c → IsCovered clauses c) → IsPairClosed clauses pair.solved.clause pair.unsolved.clause pair.at
  pair_closed pair NoUnifier made resolves has covered = none_closes clauses pair.solved.clause pair.unsolved.clause pair.at resolves
  pair_closed pair Large made resolves has covered = cc
  pair_closed pair (Resolvents cs) made resolves has covered =
      let same : made ≡ cs = cc in
      resolvents_close clauses pair.solved.clause pair.unsolved.clause pair.at cs resolves (λ c h. covered c (subst (λ ms. Has ms c) (sym same) h))

  pairs_closed : (pairs : List Pair) (made : List (Clause Term)) → AllGive pairs made → ((c : Clause Term) → Has made c → IsCovered clauses c) → (pair : Pair) → Has pairs pair → IsPairClosed clauses pair.solved.clause pair.unsolved.clause pair.at
  pairs_closed pairs made gives covered pair h = of_pick made h.1 gives covered
    where
      of_pick : {ps rest : List Pair} {p : Pair} (made : List (Clause Term)) → Picks ps p rest → AllGive ps made → ((c : Clause Term) → Has made c → IsCovered clauses c) → IsPairClosed clauses p.solved.clause p.unsolved.clause p.at
      of_pick made (here {x = p}) gives covered =
          let (first, rest, g, more, is) = gives in
          pair_closed p g.answer first g.resolves g.has (λ c h. covered c (subst (λ ms. Has ms c) (sym is) (Has-append_left first rest c h)))
      of_pick made (there {y = l} p) gives covered =
          let (first, rest, g, more, is) = gives in
          of_pick rest p more (λ c h. covered c (subst (λ ms. Has ms c) (sym is) (Has-append_right first rest c h)))

-- The clauses of a first certificate of a closed log show the query.
pub proved_shows : (P : Protocol) (q : Query) (given : List (Clause Term)) (budget : ℕ) (cert : Certificate) → IsTranslation P q (Clauses given) → IsProved P q given budget cert → IsShown P q given cert.clauses
proved_shows P q given budget cert translated p =
    let normal = (closed_covers given (clauses_normal P q given translated) budget p.log cert.clauses p.is_log p.live).normal in
    let f = p.certificate in
    let covered = rows_cover cert.clauses normal (given ++ f.made) cert.rows f.covers in
    shown_by_selection P q given cert.clauses translated
    (closed_by_selection given cert.clauses normal (λ c h. covered c (Has-append_left given f.made c h))
    (λ i j at hi hj solved some.
    let (k, ni) = listed_numbered 1 cert.clauses i hi in
    let (l, nj) = listed_numbered 1 cert.clauses j hj in
    let all = numbered_from 1 cert.clauses in
    let pair : Pair = record { solved = record { number = k; clause = i }; unsolved = record { number = l; clause = j }; at = at } in
    pairs_closed cert.clauses normal (all_pairs cert.clauses) f.made f.give (λ c h. covered c (Has-append_right given f.made c h)) pair
    (pair_listed by_selection.chosen all all (record { number = k; clause = i }) (record { number = l; clause = j }) at ni nj ((select-none i.hypotheses).1 solved) some)))
    (bad_satisfied P q cert.clauses cert.goals f.goals)

pub verdict_shows : (P : Protocol) (q : Query) (budget : ℕ) (cert : Certificate) → IsVerdict P q budget (Proved cert) → (given : List (Clause Term)) × IsShown P q given cert.clauses
verdict_shows P q budget cert (inl x) = let wrong = x.2 in cc
verdict_shows P q budget cert (inr x) = let (given, translated, p) = x in (given, proved_shows P q given budget cert translated p)
