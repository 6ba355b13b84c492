-- What an accepted certificate shows: its clauses close the translation, and those that rest and conclude `bad` are satisfied.
use Rattle.std.proofs.Common.{◌≡◌, ℕ, zero, suc, ◌+◌, true, ◌&&◌, Some, None, List, [], ◌∷◌, map, refl, sym, subst, inl, inr}
use Rattle.std.specs.Prelude.{Option, slice_get}
use Rattle.std.specs.List.{list_all, AllByRecursion}
use Rattle.spec_trees.proofs.Equality.{and_true}
use Rattle.spec_calculus.specs.Syntax.{EventTerm, Query, Secret, SecretNew, Correspondence, Protocol}
use Rattle.spec_calculus.specs.Points.{numbered}
use Rattle.spec_terms.specs.Term.{Term, Subst}
use Rattle.spec_clauses.specs.Fact.{Fact, Clause, fact_under}
use Rattle.spec_clauses.specs.Flat.{is_flat}
use Rattle.spec_clauses.specs.Selection.{Selection}
use Rattle.spec_clauses.specs.Norm.{IsNormal}
use Rattle.spec_clauses.specs.Resolvents.{Answer, NoUnifier, Large, Resolvents, Resolves}
use Rattle.spec_clauses.specs.Inclusion.{Picks, here, there, Has}
use Rattle.spec_clauses.specs.Subsumption.{IsCovered, hypothesis_at}
use Rattle.spec_clauses.proofs.Inclusion.{Has-append_left, Has-append_right, Has-flat_map, Has-filter}
use Rattle.spec_clauses.proofs.Selection.{select-none}
use Rattle.spec_clauses.proofs.Subsumption.{row_subsumes}
use Rattle.spec_derivations.specs.Closed.{IsPairClosed, Closes}
use Rattle.spec_derivations.proofs.Choosing.{closed_by_selection}
use Rattle.spec_derivations.proofs.Closing.{none_closes, resolvents_close}
use Rattle.spec_translation.specs.Goal.{required}
use Rattle.spec_translation.specs.Satisfied.{is_bad, IsSatisfied, AreSatisfied}
use Rattle.spec_translation.specs.Translation.{Clauses, IsTranslation}
use Rattle.spec_certificates.specs.Shown.{IsShown}
use Rattle.spec_certificates.specs.Certificate.{Certificate, IsInShape, CoverRowHolds, GoalHolds, Numbered, numbered_from, Choice, by_selection, Pair, pairs_with, pairs_of_resting, pairs_by}
use Rattle.spec_certificates.specs.Ruling.{Ruling, Accepted, Shape, Cover, Closure, Goal, Rest, Or, Each, Covers, Answered, Closures, Goals, NoneLeft, resting_bad, ObligedBy, Obliged, IsRuled}
use Rattle.spec_certificates.proofs.Selected.{shown_by_selection}

-- a failure that is no acceptance
abbrev NoAcceptance : Ruling → Type 0
NoAcceptance failure = Accepted ≡ failure → ⊥

accepted_or : (H N : Type 0) (failure : Ruling) → NoAcceptance failure → Or H failure N Accepted → H × N
accepted_or H N failure differs (inl x) = x
accepted_or H N failure differs (inr x) = absurd (differs x.1)

-- a numbered clause of a list, and back
has_numbered : (n : ℕ) (cs : List (Clause Term)) (c : Clause Term) → Has cs c → (k : ℕ) × Has (numbered_from n cs) (record { number = k; clause = c })
has_numbered n cs c h = of_pick n h.1 where
  of_pick : (n : ℕ) {ds rest : List (Clause Term)} {d : Clause Term} → Picks ds d rest → (k : ℕ) × Has (numbered_from n ds) (record { number = k; clause = d })
  of_pick n (here {xs = ds}) = (n, (numbered_from (n + 1) ds, here))
  of_pick n (there {y = d} p) = let (k, found) = of_pick (n + 1) p in (k, (record { number = n; clause = d } ∷ found.0, there found.1))

-- an item at a place is in the list
at_index : {X : Type 0} (xs : List X) (k : ℕ) (x : X) → slice_get xs k ≡ Some x → Has xs x
at_index [] k x e = cc
at_index (y ∷ ys) zero x e = let same : y ≡ x = cc in subst (Has (y ∷ ys)) same (ys, here)
at_index (y ∷ ys) (suc k) x e = let h = at_index ys k x e in (y ∷ h.0, there h.1)

at_position : (hs : List (Fact Term)) (n : ℕ) (h : Fact Term) → hypothesis_at hs n ≡ Some h → Has hs h
at_position hs zero h e = cc
at_position hs (suc k) h e = at_index hs k h e

-- what holds of each item holds of one that the list has
all_of : {X : Type 0} (P : X → Type 0) (xs : List X) (x : X) → AllByRecursion P xs → Has xs x → P x
all_of {X} P xs x all h = of_pick h.1 all where
  of_pick : {ys rest : List X} {y : X} → Picks ys y rest → AllByRecursion P ys → P y
  of_pick here all = all.0
  of_pick (there p) all = of_pick p all.1

numbered_has : (cs : List (Clause Term)) (n : ℕ) (c : Clause Term) → numbered cs n ≡ Some c → Has cs c
numbered_has cs zero c e = cc
numbered_has cs (suc k) c e = at_index cs k c e

all_numbered : (P : Clause Term → Type 0) (cs : List (Clause Term)) (n : ℕ) → AllByRecursion (λ d. P d.clause) (numbered_from n cs) → (c : Clause Term) → Has cs c → P c
all_numbered P cs n all c h = of_pick n h.1 all where
  of_pick : (n : ℕ) {ds rest : List (Clause Term)} {d : Clause Term} → Picks ds d rest → AllByRecursion (λ d. P d.clause) (numbered_from n ds) → P d
  of_pick n here all = all.0
  of_pick n (there p) all = of_pick (n + 1) p all.1

-- shapes, and numbers
pub each_accepted : (IsSo : Numbered → Type 0) (cs : List Numbered) (R : Ruling → Type 0) → Each IsSo cs R Accepted → AllByRecursion IsSo cs × R Accepted
each_accepted IsSo [] R x = (tt, x)
each_accepted IsSo (c ∷ cs) R x =
    let both = accepted_or (IsSo c) (Each IsSo cs R Accepted) (Shape c.number) (λ e. cc) x in
    let more = each_accepted IsSo cs R both.1 in ((both.0, more.0), more.1)

module _ (clauses : List (Clause Term)) (normal : (c : Clause Term) → Has clauses c → IsNormal c) where
  -- a row that holds shows that the clause is covered
  row_covers : (row : List ℕ) (c : Clause Term) → CoverRowHolds clauses row c → IsCovered clauses c
  row_covers [] c h = absurd h
  row_covers (n ∷ positions) c h =
      let listed = numbered_has clauses n h.0 h.1 in
      let flat_all = (and_true (is_flat h.0.conclusion) (list_all is_flat h.0.hypotheses) (normal h.0 listed).flat).1 in
      (h.0, listed, row_subsumes h.0 c positions flat_all h.2)

  covers_accepted : (failure : ℕ → Ruling) → ((n : ℕ) → NoAcceptance (failure n)) → (cs : List Numbered) (R : Rest) (rows : List (List ℕ)) → Covers clauses failure cs R rows Accepted → AllByRecursion (λ c. IsCovered clauses c.clause) cs × ((rest : List (List ℕ)) × R rest Accepted)
  covers_accepted failure differs [] R rows x = (tt, (rows, x))
  covers_accepted failure differs (c ∷ cs) R [] x = absurd (differs c.number x)
  covers_accepted failure differs (c ∷ cs) R (row ∷ rows) x =
      let both = accepted_or (CoverRowHolds clauses row c.clause) (Covers clauses failure cs R rows Accepted) (failure c.number) (differs c.number) x in
      let more = covers_accepted failure differs cs R rows both.1 in
      ((row_covers row c.clause both.0, more.0), more.1)

  -- a pair whose answer is covered is closed
  answered_accepted : (p : Pair) (answer : Answer) (R : Rest) (rows : List (List ℕ)) → Resolves p.solved.clause p.unsolved.clause p.at answer → Answered clauses p answer R rows Accepted → IsPairClosed clauses p.solved.clause p.unsolved.clause p.at × ((rest : List (List ℕ)) × R rest Accepted)
  answered_accepted p NoUnifier R rows resolves x = (none_closes clauses p.solved.clause p.unsolved.clause p.at resolves, (rows, x))
  answered_accepted p Large R rows resolves x = cc
  answered_accepted p (Resolvents cs) R rows resolves x =
      let both = covers_accepted (λ k. Closure p.solved.number p.unsolved.number k) (λ k e. cc) (numbered_from 1 cs) R rows x in
      (resolvents_close clauses p.solved.clause p.unsolved.clause p.at cs resolves (all_numbered (IsCovered clauses) cs 1 both.0), both.1)

  closures_accepted : (ps : List Pair) (R : Rest) (rows : List (List ℕ)) → Closures clauses ps R rows Accepted → AllByRecursion (λ p. IsPairClosed clauses p.solved.clause p.unsolved.clause p.at) ps × ((rest : List (List ℕ)) × R rest Accepted)
  closures_accepted [] R rows x = (tt, (rows, x))
  closures_accepted (p ∷ ps) R rows x =
      let first = answered_accepted p x.0 (Closures clauses ps R) rows x.1 x.2 in
      let more = closures_accepted ps R first.1.0 first.1.1 in
      ((first.0, more.0), more.1)

-- the pair of a clause that rests and one with a chosen hypothesis is among all pairs
module _ (chosen : Numbered → Option Selection) where
  pub pair_listed : (all : List Numbered) (is : List Numbered) (i j : Numbered) (at : Selection) → Has is i → Has all j → chosen i ≡ None → chosen j ≡ Some at → Has (pairs_by chosen is all) (record { solved = i; unsolved = j; at = at })
  pair_listed all is i j at hi hj none some = of_pick hi.1 none where
    with_one : (i : Numbered) → chosen i ≡ None → Has (pairs_of_resting chosen (chosen i) i all) (record { solved = i; unsolved = j; at = at })
    with_one i none =
        let one : Has (pairs_with i (chosen j) j) (record { solved = i; unsolved = j; at = at }) = rw some ([], here) in
        rw none (Has-flat_map (λ k. pairs_with i (chosen k) k) all j (record { solved = i; unsolved = j; at = at }) hj one)

    of_pick : {ks rest : List Numbered} {k : Numbered} → Picks ks k rest → chosen k ≡ None → Has (pairs_by chosen ks all) (record { solved = k; unsolved = j; at = at })
    of_pick (here {x = k} {xs = ks}) none = Has-append_left (pairs_of_resting chosen (chosen k) k all) (pairs_by chosen ks all) (record { solved = k; unsolved = j; at = at }) (with_one k none)
    of_pick (there {x = k} {y = l} {xs = ks} p) none = Has-append_right (pairs_of_resting chosen (chosen l) l all) (pairs_by chosen ks all) (record { solved = k; unsolved = j; at = at }) (of_pick p none)

-- goal rows
required_listed : (P : Protocol) (by : Subst) (hs : List (Fact Term)) (events : List EventTerm) (row : List ℕ) → map (λ e. Some (fact_under by (required P e))) events ≡ map (hypothesis_at hs) row → AllByRecursion (λ e. Has hs (fact_under by (required P e))) events
required_listed P by hs [] row same = tt
required_listed P by hs (e ∷ events) [] same = cc
required_listed P by hs (e ∷ events) (n ∷ row) same =
    let first : Some (fact_under by (required P e)) ≡ hypothesis_at hs n = cc in
    let others : map (λ e. Some (fact_under by (required P e))) events ≡ map (hypothesis_at hs) row = cc in
    (at_position hs n (fact_under by (required P e)) (sym first), required_listed P by hs events row others)

alternative_listed : (alternatives : List (List EventTerm)) (n : ℕ) (alternative : List EventTerm) → numbered alternatives n ≡ Some alternative → Has alternatives alternative
alternative_listed alternatives zero alternative e = cc
alternative_listed alternatives (suc k) alternative e = at_index alternatives k alternative e

goal_satisfies : (P : Protocol) (q : Query) (row : List ℕ) (c : Clause Term) → GoalHolds P q row c → IsSatisfied P q c
goal_satisfies P (Secret message phase) row c h = h
goal_satisfies P (SecretNew point phase) row c h = h
goal_satisfies P (Correspondence left alternatives) [] c h = absurd h
goal_satisfies P (Correspondence left alternatives) (n ∷ positions) c h = record {
  by = h.by;
  conclusion = h.conclusion;
  alternative = h.alternative;
  listed = alternative_listed alternatives n h.alternative h.numbered_so;
  events = required_listed P h.by c.hypotheses h.alternative positions h.events;
}

goals_accepted : (P : Protocol) (q : Query) (cs : List Numbered) (R : Rest) (rows : List (List ℕ)) → Goals P q cs R rows Accepted → AllByRecursion (λ c. IsSatisfied P q c.clause) cs
goals_accepted P q [] R rows x = tt
goals_accepted P q (c ∷ cs) R [] x = cc
goals_accepted P q (c ∷ cs) R (row ∷ rows) x =
    let both = accepted_or (GoalHolds P q row c.clause) (Goals P q cs R rows Accepted) (Goal c.number) (λ e. cc) x in
    (goal_satisfies P q row c.clause both.0, goals_accepted P q cs R rows both.1)

module _ (P : Protocol) (q : Query) (cert : Certificate) where
  abbrev pub AllNumbered : List Numbered
  AllNumbered = numbered_from 1 cert.clauses

  -- Whatever is chosen, the rows of clauses in shape show that the given ones are covered and what the pairs give, and that clauses that
  -- rest and conclude `bad` are satisfied.
  pub record IsCoveredBy (choice : Choice) (given : List (Clause Term)) : Type 0 where
    pub normal : (c : Clause Term) → Has cert.clauses c → IsNormal c
    pub covers : (c : Clause Term) → Has given c → IsCovered cert.clauses c
    pub closed : (i j : Numbered) (at : Selection) → Has AllNumbered i → Has AllNumbered j → choice.chosen i ≡ None → choice.chosen j ≡ Some at → IsPairClosed cert.clauses i.clause j.clause at
    pub satisfied : (c : Numbered) → Has AllNumbered c → choice.rests c ≡ true → is_bad c.clause.conclusion ≡ true → IsSatisfied P q c.clause

  module _ (choice : Choice) where
    -- the rows behind those of the given clauses
    abbrev BehindCovers : Rest
    BehindCovers = Closures cert.clauses (pairs_by choice.chosen AllNumbered AllNumbered) (λ rows. Goals P q (resting_bad choice.rests AllNumbered) (λ goals. NoneLeft cert rows goals) cert.goals)

    covers_show : (given : List (Clause Term)) → AllByRecursion (λ c. IsInShape q c.clause) AllNumbered → Covers cert.clauses Cover (numbered_from 1 given) BehindCovers cert.rows Accepted → IsCoveredBy choice given
    covers_show given shapes x =
        let normal = all_numbered IsNormal cert.clauses 1 (normals AllNumbered shapes) in
        let covered = covers_accepted cert.clauses normal Cover (λ k e. cc) (numbered_from 1 given) BehindCovers cert.rows x in
        let closed = closures_accepted cert.clauses normal (pairs_by choice.chosen AllNumbered AllNumbered) (λ rows. Goals P q (resting_bad choice.rests AllNumbered) (λ goals. NoneLeft cert rows goals) cert.goals) covered.1.0 covered.1.1 in
        let goals = goals_accepted P q (resting_bad choice.rests AllNumbered) (λ goals. NoneLeft cert closed.1.0 goals) cert.goals closed.1.1 in
        record {
          normal = normal;
          covers = all_numbered (IsCovered cert.clauses) given 1 covered.0;
          closed = λ i j at hi hj none some.
              all_of (λ p. IsPairClosed cert.clauses p.solved.clause p.unsolved.clause p.at) (pairs_by choice.chosen AllNumbered AllNumbered) (record { solved = i; unsolved = j; at = at }) closed.0
              (pair_listed choice.chosen AllNumbered AllNumbered i j at hi hj none some);
          satisfied = λ c hc rests bad.
              all_of (λ d. IsSatisfied P q d.clause) (resting_bad choice.rests AllNumbered) c goals
              (Has-filter (λ d. choice.rests d && is_bad d.clause.conclusion) AllNumbered c hc (rw rests (rw bad refl)));
        }
      where
        normals : (cs : List Numbered) → AllByRecursion (λ c. IsInShape q c.clause) cs → AllByRecursion (λ c. IsNormal c.clause) cs
        normals [] a = tt
        normals (c ∷ cs) a = (a.0.normal, normals cs a.1)

    -- where it is accepted, some translation is covered so
    pub obliged_accepted : AllByRecursion (λ c. IsInShape q c.clause) AllNumbered → ObligedBy choice P q cert Accepted → (given : List (Clause Term)) × IsTranslation P q (Clauses given) × IsCoveredBy choice given
    obliged_accepted shapes (inl y) = cc
    obliged_accepted shapes (inr y) = (y.0, y.1, covers_show y.0 shapes y.2)

  -- By selection they close the translation, and show the query.
  selection_closes : (given : List (Clause Term)) → IsCoveredBy by_selection given → Closes given cert.clauses
  selection_closes given shown = closed_by_selection given cert.clauses shown.normal shown.covers
      (λ i j at hi hj solved some.
      let (k, ni) = has_numbered 1 cert.clauses i hi in
      let (l, nj) = has_numbered 1 cert.clauses j hj in
      shown.closed (record { number = k; clause = i }) (record { number = l; clause = j }) at ni nj ((select-none i.hypotheses).1 solved) some)

  selection_satisfies : (given : List (Clause Term)) → IsCoveredBy by_selection given → AreSatisfied P q cert.clauses
  selection_satisfies given shown c hc solved bad = let (k, nc) = has_numbered 1 cert.clauses c hc in shown.satisfied (record { number = k; clause = c }) nc solved bad

  -- An accepted certificate shows the query.
  pub accepted_shows : IsRuled P q cert Accepted → (given : List (Clause Term)) × IsShown P q given cert.clauses
  accepted_shows x =
      let (shapes, obliged) = each_accepted (λ c. IsInShape q c.clause) AllNumbered (Obliged P q cert) x in
      let (given, translated, shown) = obliged_accepted by_selection shapes obliged in
      (given, shown_by_selection P q given cert.clauses translated (selection_closes given shown) (selection_satisfies given shown))
