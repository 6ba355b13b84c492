-- Goal rows: from positions under bindings to rows of a clause, of what is sought, and of the query.
use Rattle.std.proofs.Common.{◌≡◌, ◌↔◌, ◌⊎◌, inl, inr, ℕ, zero, suc, ◌+◌, ◌<◌, ◌≤◌, Option, Some, None, List, [], ◌∷◌, length, map, slice_get, option_map, add-one, refl, ap, sym, ◌∙◌, subst, arith}
use Rattle.std.specs.Prelude.{Bool, true, false, Result, Ok, Err, IfOk, IsTrue}
use Rattle.std.specs.List.{AllByRecursion}
use Rattle.std.proofs.lemmas.Bool.{cases_order, cases_lt}
use Rattle.std.proofs.lemmas.List.{length-map}
use Rattle.std.proofs.lemmas.Option.{slice_get_past, slice_get-map}
use Rattle.std.proofs.lemmas.Simd.{map-map}
use Rattle.spec_calculus.specs.Bounds.{most_alternatives, most_symbols}
use Rattle.spec_calculus.specs.Syntax.{EventTerm, Query, Secret, SecretNew, Correspondence, Protocol}
use Rattle.spec_calculus.specs.Points.{numbered}
use Rattle.spec_well_formed.specs.Limits.{IsSmallQuery, IsWithinLimits}
use Rattle.spec_terms.specs.Term.{Term, Subst}
use Rattle.spec_terms.proofs.Replace.{some_same}
use Rattle.spec_clauses.specs.Fact.{Fact, Att, Mess, Tab, Ev, Mev, Bad, Clause, total, fact_size, fact_under}
use Rattle.spec_clauses.specs.Limits.{IsWithinLimit}
use Rattle.spec_clauses.specs.Subsumption.{ComesBefore}
use Rattle.spec_translation.specs.Goal.{required}
use Rattle.spec_translation.specs.Satisfied.{IsSatisfied, GoalRowHolds}
use Rattle.spec_certificates.specs.Certificate.{GoalHolds}
use Rattle.spec_soundness.proofs.GoalRows.{rows_tell}
use Rattle.unify_match.specs.declared.bound.Bound.{Bound}
use Rattle.query_derive.specs.Sought.{Sought, sought_for, all_sought, IsRowFor, IsFirstRowFor, HoldsAmong, IsFirstAmong}
use Rattle.query_derive.specs.Narrowing.{Narrows, Excludes, ArePlaced, AreFirstPlaced}
use Rattle.query_derive.specs.GoalRows.{IsFirstGoalRow, OfQuery}
use Rattle.query_derive.proofs.Searching.{at_lengths}

-- rows for what is sought, under bindings that make the conclusion so
module _ (all : List Term) (new : List Bound) (sought : Sought) (c : Clause Term) where
  Concludes : Subst → Type 0
  Concludes s = fact_under s sought.conclusion ≡ c.conclusion

  pub row_for : (row : List ℕ) → Narrows all [] new (λ s. fact_under s sought.conclusion ≡ c.conclusion) → ArePlaced all new sought.events c.hypotheses row → IsRowFor sought c row
  row_for row h placed = record { by = placed.by; conclusion = ((h.only placed.by).0 placed.agrees).1; events = placed.events_at }

  pub placed_for : (row : List ℕ) → Narrows all [] new (λ s. fact_under s sought.conclusion ≡ c.conclusion) → IsRowFor sought c row → ArePlaced all new sought.events c.hypotheses row
  placed_for row h holds = record { by = holds.by; agrees = (h.only holds.by).1 (tt, holds.conclusion); events_at = holds.events }

  pub first_for : (row : List ℕ) → Narrows all [] new (λ s. fact_under s sought.conclusion ≡ c.conclusion) → AreFirstPlaced all new sought.events c.hypotheses row → IsFirstRowFor sought c row
  first_for row h first = record { holds = row_for row h first.placed; first = λ other holds less. first.first other (placed_for other h holds) less }

  pub no_row_for : Excludes all [] (λ s. fact_under s sought.conclusion ≡ c.conclusion) → (row : List ℕ) → IsRowFor sought c row → ⊥
  no_row_for never row holds = never holds.by tt holds.conclusion

-- rows of what is sought, one after the other
module _ (all : List Sought) (c : Clause Term) where
  -- no row has a number up to i
  pub record NoneUpTo (i : ℕ) : Type 0 where
    pub none : (number : ℕ) (row : List ℕ) → number < i + 1 → HoldsAmong all c (number ∷ row) → ⊥

  pub none_yet : NoneUpTo 0
  none_yet = record { none = no_number } where
    no_number : (number : ℕ) (row : List ℕ) → number < 0 + 1 → HoldsAmong all c (number ∷ row) → ⊥
    no_number zero row below (one, is, h) = cc
    no_number (suc n) row below h = absurd (omega arith)

  pub none_next : (i : ℕ) (one : Sought) → NoneUpTo i → numbered all (i + 1) ≡ Some one → ((row : List ℕ) → IsRowFor one c row → ⊥) → NoneUpTo (i + 1)
  none_next i one was there never = record { none = λ number row below h. at number row h below (cases_order number (i + 1)) } where
    at : (number : ℕ) (row : List ℕ) → HoldsAmong all c (number ∷ row) → number < i + 1 + 1 → (number ≡ i + 1) ⊎ ((number < i + 1) ⊎ (i + 1 < number)) → ⊥
    at number row (other, is, h) below (inl same) =
        let one_is : other ≡ one = some_same (sym is ∙ (ap (numbered all) same ∙ there)) in
        never row (subst (λ (o : Sought). IsRowFor o c row) one_is h)
    at number row h below (inr (inl less)) = was.none number row less h
    at number row h below (inr (inr more)) = absurd (omega arith)

  past : (number : ℕ) → length all < number → numbered all number ≡ None
  past zero more = refl
  past (suc n) more = slice_get_past all n (omega arith)

  pub none_at_end : (i : ℕ) → length all ≤ i → NoneUpTo i → (row : List ℕ) → HoldsAmong all c row → ⊥
  none_at_end i end was [] h = h
  none_at_end i end was (number ∷ row) h = go (cases_lt number (i + 1)) h where
    go : (number < i + 1) ⊎ (i + 1 ≤ number) → HoldsAmong all c (number ∷ row) → ⊥
    go (inl less) k = was.none number row less k
    go (inr more) (one, is, k) = let none = past number (omega arith) in cc

  pub first_among : (i : ℕ) (one : Sought) (row : List ℕ) → NoneUpTo i → numbered all (i + 1) ≡ Some one → IsFirstRowFor one c row → IsFirstAmong all c ((i + 1) ∷ row)
  first_among i one row was there h = record { holds = (one, there, h.holds); first = before } where
    before : (other : List ℕ) → HoldsAmong all c other → ComesBefore other ((i + 1) ∷ row) → ⊥
    before [] k less = k
    before (number ∷ others) k (inl less) = was.none number others less k
    before (number ∷ others) (o, is, k) (inr (same, less)) =
        let one_is : o ≡ one = some_same (sym is ∙ (ap (numbered all) same ∙ there)) in
        h.first others (subst (λ (x : Sought). IsRowFor x c others) one_is k) less

-- the item of the number after an index
pub numbered-at : {X Y : Type 0} (f : X → Y) (xs : List X) (i : ℕ) (x : X) → slice_get xs i ≡ Some x → numbered (map f xs) (i + 1) ≡ Some (f x)
numbered-at f xs i x there = rw add-one (slice_get-map f xs i ∙ ap (option_map f) there)

numbered-mapped : {X Y : Type 0} (f : X → Y) (xs : List X) (n : ℕ) → numbered (map f xs) n ≡ option_map f (numbered xs n)
numbered-mapped f xs zero = refl
numbered-mapped f xs (suc n) = slice_get-map f xs n

found_there : {X Y : Type 0} (f : X → Y) (o : Option X) (y : Y) → option_map f o ≡ Some y → (x : X) × (o ≡ Some x) × (f x ≡ y)
found_there f None y e = cc
found_there f (Some x) y e = (x, refl, some_same e)

-- a goal row holds exactly where it does for what is sought
pub goal_holds : (P : Protocol) (q : Query) (c : Clause Term) (row : List ℕ) → GoalHolds P q row c ↔ HoldsAmong (all_sought P q) c row
goal_holds P (Secret message phase) c [] = (λ h. h, λ h. h)
goal_holds P (Secret message phase) c (n ∷ row) = (λ h. absurd h, λ h. none n h.0 h.1) where
  none : (n : ℕ) (one : Sought) → numbered {A = Sought} [] n ≡ Some one → ⊥
  none zero one e = cc
  none (suc n) one e = cc
goal_holds P (SecretNew point phase) c [] = (λ h. h, λ h. h)
goal_holds P (SecretNew point phase) c (n ∷ row) = (λ h. absurd h, λ h. none n h.0 h.1) where
  none : (n : ℕ) (one : Sought) → numbered {A = Sought} [] n ≡ Some one → ⊥
  none zero one e = cc
  none (suc n) one e = cc
goal_holds P (Correspondence left alternatives) c [] = (λ h. h, λ h. h)
goal_holds P (Correspondence left alternatives) c (n ∷ row) = (there, back) where
  there : GoalRowHolds P left alternatives c n row → HoldsAmong (all_sought P (Correspondence left alternatives)) c (n ∷ row)
  there h = (
    sought_for P left h.alternative,
    numbered-mapped (sought_for P left) alternatives n ∙ ap (option_map (sought_for P left)) h.numbered_so,
    record { by = h.by; conclusion = sym h.conclusion; events = map-map (λ e. Some (fact_under h.by e)) (required P) h.alternative ∙ h.events },
  )

  back : HoldsAmong (all_sought P (Correspondence left alternatives)) c (n ∷ row) → GoalRowHolds P left alternatives c n row
  back (one, is, h) = go (found_there (sought_for P left) (numbered alternatives n) one (sym (numbered-mapped (sought_for P left) alternatives n) ∙ is)) where
    go : (alternative : List EventTerm) × (numbered alternatives n ≡ Some alternative) × (sought_for P left alternative ≡ one) → GoalRowHolds P left alternatives c n row
    go (alternative, so, same) =
        let k : IsRowFor (sought_for P left alternative) c row = subst (λ (o : Sought). IsRowFor o c row) (sym same) h in
        record { by = k.by; conclusion = sym k.conclusion; alternative = alternative; numbered_so = so; events = sym (map-map (λ e. Some (fact_under k.by e)) (required P) alternative) ∙ k.events }

pub first_goal_row : (P : Protocol) (q : Query) (c : Clause Term) (row : List ℕ) → IsFirstAmong (all_sought P q) c row → IsFirstGoalRow P q c row
first_goal_row P q c row h = record { holds = (goal_holds P q c row).1 h.holds; first = λ other k less. h.first other ((goal_holds P q c other).0 k) less }

-- a clause satisfies a query exactly where some row holds
pub satisfied_by_rows : (P : Protocol) (q : Query) (c : Clause Term) → IsSatisfied P q c ↔ ((row : List ℕ) × GoalHolds P q row c)
satisfied_by_rows P (Secret message phase) c = (λ h. absurd h, λ (row, h). h)
satisfied_by_rows P (SecretNew point phase) c = (λ h. absurd h, λ (row, h). h)
satisfied_by_rows P (Correspondence left alternatives) c = (there, back) where
  there : IsSatisfied P (Correspondence left alternatives) c → (row : List ℕ) × GoalHolds P (Correspondence left alternatives) row c
  there met = let found = (rows_tell P left alternatives c).0 met in (found.0 ∷ found.1, found.2)

  back : (row : List ℕ) × GoalHolds P (Correspondence left alternatives) row c → IsSatisfied P (Correspondence left alternatives) c
  back ([], h) = absurd h
  back (n ∷ row, h) = (rows_tell P left alternatives c).1 (n, row, h)

-- one row at most is the first: of two rows one comes before the other, or they are the same
Order : List ℕ → List ℕ → Type 0
Order ps qs = (ps ≡ qs) ⊎ (ComesBefore ps qs ⊎ ComesBefore qs ps)

order : (ps qs : List ℕ) → length ps ≡ length qs → (ps ≡ qs) ⊎ (ComesBefore ps qs ⊎ ComesBefore qs ps)
order [] [] e = inl refl
order [] (q ∷ qs) e = absurd (omega arith)
order (p ∷ ps) [] e = absurd (omega arith)
order (p ∷ ps) (q ∷ qs) e = go (cases_order p q) (order ps qs (omega arith)) where
  go : (p ≡ q) ⊎ ((p < q) ⊎ (q < p)) → (ps ≡ qs) ⊎ (ComesBefore ps qs ⊎ ComesBefore qs ps) → (p ∷ ps ≡ q ∷ qs) ⊎ (ComesBefore (p ∷ ps) (q ∷ qs) ⊎ ComesBefore (q ∷ qs) (p ∷ ps))
  go (inr (inl less)) others = inr (inl (inl less))
  go (inr (inr more)) others = inr (inr (inl more))
  go (inl same) (inl rest) = inl (λ i. same i ∷ rest i)
  go (inl same) (inr (inl before)) = inr (inl (inr (same, before)))
  go (inl same) (inr (inr after)) = inr (inr (inr (sym same, after)))

-- rows with one number have as many positions
even_rows : (all : List Sought) (c : Clause Term) (n : ℕ) (row other : List ℕ) → HoldsAmong all c (n ∷ row) → HoldsAmong all c (n ∷ other) → length row ≡ length other
even_rows all c n row other (one, is, h) (two, also, k) =
    let same : one ≡ two = some_same (sym is ∙ also) in
    omega (arith, at_lengths h.by one.events c.hypotheses row h.events, at_lengths k.by two.events c.hypotheses other k.events, ap (λ (o : Sought). length o.events) same)

ordered : (all : List Sought) (c : Clause Term) (row other : List ℕ) → HoldsAmong all c row → HoldsAmong all c other → (row ≡ other) ⊎ (ComesBefore row other ⊎ ComesBefore other row)
ordered all c [] other h k = absurd h
ordered all c (n ∷ row) [] h k = absurd k
ordered all c (n ∷ row) (m ∷ other) h k = go (cases_order n m) where
  go : (n ≡ m) ⊎ ((n < m) ⊎ (m < n)) → (n ∷ row ≡ m ∷ other) ⊎ (ComesBefore (n ∷ row) (m ∷ other) ⊎ ComesBefore (m ∷ other) (n ∷ row))
  go (inr (inl less)) = inr (inl (inl less))
  go (inr (inr more)) = inr (inr (inl more))
  go (inl same) =
      let here : HoldsAmong all c (n ∷ other) = subst (λ x. HoldsAmong all c (x ∷ other)) (sym same) k in
      order (n ∷ row) (m ∷ other) (omega (arith, even_rows all c n row other h here))

pub one_first_row : (P : Protocol) (q : Query) (c : Clause Term) (row other : List ℕ) → IsFirstGoalRow P q c row → IsFirstGoalRow P q c other → row ≡ other
one_first_row P q c row other a b = elim (ordered (all_sought P q) c row other ((goal_holds P q c row).0 a.holds) ((goal_holds P q c other).0 b.holds)) as (λ _. row ≡ other) [
  | inl same ↦ same
  | inr (inl before) ↦ absurd (b.first row a.holds before)
  | inr (inr after) ↦ absurd (a.first other b.holds after)
]

-- what is so of the query that stands there is so of the query of that number
pub of_query : (P : Protocol) (number : ℕ) (q : Query) (Q : Query → Type 0) → numbered P.queries number ≡ Some q → Q q → OfQuery P number Q
of_query P number q Q there h other also = subst Q (some_same (sym there ∙ also)) h

-- the limits
all_numbered : {X : Type 0} (Q : X → Type 0) (xs : List X) (n : ℕ) (x : X) → AllByRecursion Q xs → numbered xs n ≡ Some x → Q x
all_numbered Q [] zero x each e = cc
all_numbered Q [] (suc n) x each e = cc
all_numbered Q (y ∷ ys) zero x each e = cc
all_numbered Q (y ∷ ys) (suc zero) x each e = let same : y ≡ x = some_same e in subst Q same each.0
all_numbered Q (y ∷ ys) (suc (suc n)) x each e = all_numbered Q ys (suc n) x each.1 e

pub small_query : (P : Protocol) (number : ℕ) (q : Query) → IsWithinLimits P → numbered P.queries number ≡ Some q → IsSmallQuery q
small_query P number q limits there = all_numbered IsSmallQuery P.queries number q limits.asked there

pub query_has : (Q : Query → Type 0) (P : Protocol) (number : ℕ) (q : Query) → AllByRecursion Q P.queries → numbered P.queries number ≡ Some q → Q q
query_has Q P number q each there = all_numbered Q P.queries number q each there

pub few_sought : (P : Protocol) (q : Query) → IsSmallQuery q → length (all_sought P q) ≤ most_alternatives
few_sought P (Secret message phase) small = omega arith
few_sought P (SecretNew point phase) small = omega arith
few_sought P (Correspondence left alternatives) small = omega (arith, length-map alternatives (sought_for P left), small.1)

some_size : (h : Fact Term) → 1 ≤ fact_size h
some_size (Att k t) = omega arith
some_size (Mess k t u) = omega arith
some_size (Tab n ts) = omega arith
some_size (Ev e ts) = omega arith
some_size (Mev e ts) = omega arith
some_size (Bad ts) = omega arith

few_facts : (hs : List (Fact Term)) → length hs ≤ total fact_size hs
few_facts [] = omega arith
few_facts (h ∷ hs) = omega (arith, some_size h, few_facts hs)

pub few_hypotheses : (c : Clause Term) → IsWithinLimit c → length c.hypotheses ≤ most_symbols
few_hypotheses c small = omega (arith, few_facts c.hypotheses, small)

-- from the lists that a search goes along to what is sought and the clause
module _ (all : List Term) (sought : Sought) (c : Clause Term) where
  pub concluded : (old new : List Bound) (concl : Fact Term) → old ≡ [] → concl ≡ c.conclusion → Narrows all old new (λ s. fact_under s sought.conclusion ≡ concl) → Narrows all [] new (λ s. fact_under s sought.conclusion ≡ c.conclusion)
  concluded old new concl none is h =
      subst (λ (f : Fact Term). Narrows all [] new (λ s. fact_under s sought.conclusion ≡ f)) is
      (subst (λ (bs : List Bound). Narrows all bs new (λ s. fact_under s sought.conclusion ≡ concl)) none h)

  pub unconcluded : (old : List Bound) (concl : Fact Term) → old ≡ [] → concl ≡ c.conclusion → Excludes all old (λ s. fact_under s sought.conclusion ≡ concl) → Excludes all [] (λ s. fact_under s sought.conclusion ≡ c.conclusion)
  unconcluded old concl none is h =
      subst (λ (f : Fact Term). Excludes all [] (λ s. fact_under s sought.conclusion ≡ f)) is
      (subst (λ (bs : List Bound). Excludes all bs (λ s. fact_under s sought.conclusion ≡ concl)) none h)

  pub first_seen : (new : List Bound) (es hs : List (Fact Term)) (row : List ℕ) → es ≡ sought.events → hs ≡ c.hypotheses → AreFirstPlaced all new es hs row → AreFirstPlaced all new sought.events c.hypotheses row
  first_seen new es hs row events_are hyps_are h =
      subst (λ (fs : List (Fact Term)). AreFirstPlaced all new fs c.hypotheses row) events_are (subst (λ (fs : List (Fact Term)). AreFirstPlaced all new es fs row) hyps_are h)

  pub placed_seen : (new : List Bound) (es hs : List (Fact Term)) (row : List ℕ) → es ≡ sought.events → hs ≡ c.hypotheses → ArePlaced all new es hs row → ArePlaced all new sought.events c.hypotheses row
  placed_seen new es hs row events_are hyps_are h =
      subst (λ (fs : List (Fact Term)). ArePlaced all new fs c.hypotheses row) events_are (subst (λ (fs : List (Fact Term)). ArePlaced all new es fs row) hyps_are h)

-- an answer that is told on both sides, under another name
pub told_both : {E : Type 0} (r : Result Bool E) (P Q : Type 0) → (P → Q) → (Q → P) → IfOk r (λ yes. yes ≡ true → P) → IfOk r (λ yes. yes ≡ false → P → ⊥) → IfOk r (λ yes. IsTrue yes ↔ Q)
told_both (Ok true) P Q there back told denied = (λ e. there (told refl), λ h. refl)
told_both (Ok false) P Q there back told denied = (λ e. cc, λ h. absurd (denied refl (back h)))
told_both (Err e) P Q there back told denied = told

pub told_same : {E : Type 0} (r : Result Bool E) (P Q : Type 0) → (P → Q) → (Q → P) → IfOk r (λ yes. IsTrue yes ↔ P) → IfOk r (λ yes. IsTrue yes ↔ Q)
told_same (Ok b) P Q there back told = (λ e. there (told.0 e), λ h. told.1 (back h))
told_same (Err e) P Q there back told = told

-- a row of the number of what is sought there, and of a number where nothing is
pub holds_there : (all : List Sought) (c : Clause Term) (n : ℕ) (one : Sought) (row : List ℕ) → numbered all n ≡ Some one → IsRowFor one c row ↔ HoldsAmong all c (n ∷ row)
holds_there all c n one row there = (λ h. (one, there, h), λ (other, is, h). subst (λ (o : Sought). IsRowFor o c row) (some_same (sym is ∙ there)) h)

pub holds_nowhere : (all : List Sought) (c : Clause Term) (n : ℕ) (row : List ℕ) → numbered all n ≡ None → HoldsAmong all c (n ∷ row) → ⊥
holds_nowhere all c n row none (one, is, h) = cc
