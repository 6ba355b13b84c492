-- The live clauses of a closed log have to cover all that is offered: the given clauses, the goal, and what their pairs give.
use Rattle.std.proofs.Common.{◌≡◌, ◌⊎◌, ◌∙◌, ℕ, zero, suc, ◌+◌, ◌<◌, ◌≤◌, Bool, true, false, cond, Some, None, List, [], ◌∷◌, length, refl, ap, sym, subst, inl, inr, arith}
use Rattle.std.specs.Prelude.{slice_get}
use Rattle.std.proofs.lemmas.Bool.{cases_lt}
use Rattle.std.proofs.lemmas.Bool.Decides.{nat_tests}
use Rattle.spec_terms.specs.Term.{Term}
use Rattle.spec_calculus.specs.Points.{numbered}
use Rattle.spec_clauses.specs.Fact.{Clause}
use Rattle.spec_clauses.specs.Norm.{IsNormal}
use Rattle.spec_clauses.specs.Inclusion.{Picks, here, there, Has}
use Rattle.spec_clauses.specs.Subsumption.{Subsumes, IsCovered}
use Rattle.spec_clauses.proofs.Inclusion.{Has-filter_source}
use Rattle.spec_clauses.proofs.Subsumption.{subsumes_itself, subsumption-trans}
use Rattle.spec_saturation.specs.Key.{Key, key, is_before, Entry, below}
use Rattle.spec_saturation.specs.Log.{IsCoveredBy, IsOffered, IsNew, goal_key}
use Rattle.spec_saturation.specs.End.{IsLogUpTo}
use Rattle.spec_saturation.specs.Live.{AreLive, MustBeCovered}
use Rattle.spec_saturation.proofs.Keys.{before_trans}
use Rattle.spec_saturation.proofs.Cuts.{below_below}

-- an entry of the list covers what it subsumes
covered_by_entry : (clauses : List (Clause Term)) (d c : Clause Term) → IsCovered clauses d → Subsumes d c → IsCovered clauses c
covered_by_entry clauses d c (general, listed, subsumes) h = (general, listed, subsumption-trans general d c subsumes h)

-- an item more in front
covered_more : (clauses : List (Clause Term)) (d c : Clause Term) → IsCovered clauses c → IsCovered (d ∷ clauses) c
covered_more clauses d c (general, listed, subsumes) = (general, (d ∷ listed.0, there listed.1), subsumes)

-- each entry of a list is covered by the live clauses
pub entries_covered : (es : List Entry) (cs : List (Clause Term)) → AreLive es cs → ((e : Entry) → Has es e → IsNormal e.clause) → (e : Entry) → Has es e → IsCovered cs e.clause
entries_covered [] cs live normal e h = elim h.1 [ ]
entries_covered (d ∷ es) cs live normal e h = go live (λ ds l f k. entries_covered es ds l (λ g m. normal g (d ∷ m.0, there m.1)) f k)
  where
    among : {ds rest : List Entry} {f : Entry} → Picks ds f rest → ds ≡ d ∷ es → (f ≡ d) ⊎ Has es f
    among here same = inl cc
    among (there {x = f} {xs = ds} {rest = rest} p) same = let tails : ds ≡ es = cc in inr (subst (λ xs. Has xs f) tails (rest, p))

    go : AreLive (d ∷ es) cs → ((ds : List (Clause Term)) → AreLive es ds → (f : Entry) → Has es f → IsCovered ds f.clause) → IsCovered cs e.clause
    go (inl (beaten, l)) later = elim (among h.1 refl) as (λ _. IsCovered cs e.clause) [
      | inl same ↦ subst (λ f. IsCovered cs f.clause) (sym same) (covered_by_entry cs beaten.0.clause d.clause (later cs l beaten.0 beaten.1) beaten.2)
      | inr k ↦ later cs l e k
    ]
    go (inr (unbeaten, (rest, is, l))) later =
        let whole : IsCovered (d.clause ∷ rest) e.clause = elim (among h.1 refl) as (λ _. IsCovered (d.clause ∷ rest) e.clause) [
          | inl same ↦ subst (λ f. IsCovered (d.clause ∷ rest) f.clause) (sym same) (d.clause, (rest, here), subsumes_itself d.clause (normal d (es, here)))
          | inr k ↦ covered_more rest d.clause e.clause (later rest l e k)
        ] in
        subst (λ xs. IsCovered xs e.clause) (sym is) whole

at_index : (es : List Entry) (k : ℕ) (e : Entry) → slice_get es k ≡ Some e → Has es e
at_index [] k e at = cc
at_index (d ∷ es) zero e at = let same : d ≡ e = cc in subst (Has (d ∷ es)) same (es, here)
at_index (d ∷ es) (suc k) e at = let h = at_index es k e at in (d ∷ h.0, there h.1)

-- fewer stand below a key than there are at most
pub below_length : (k : Key) (es : List Entry) → length (below k es) ≤ length es
below_length k [] = omega arith
below_length k (x ∷ xs) = go (is_before x.key k) (below_length k xs) where
  go : (b : Bool) → length (below k xs) ≤ length xs → length (cond b (x ∷ below k xs) (below k xs)) ≤ length (x ∷ xs)
  go true h = omega arith
  go false h = omega arith

nothing_less : (m : ℕ) → m < 0 → ⊥
nothing_less m lt = omega (arith, lt)

-- the goal's key of a turn is before that of a later turn
pub goal_before : (given : List (Clause Term)) (n m : ℕ) → n < m → is_before (goal_key given n) (goal_key given m) ≡ true
goal_before given n m lt = grind (arith, nat_tests)

goal_later : (given : List (Clause Term)) (n : ℕ) → is_before (goal_key given n) (goal_key given (suc n)) ≡ true
goal_later given n = goal_before given n (suc n) (omega arith)

-- an item of a number is in the list
numbered_has : (es : List Entry) (n : ℕ) (e : Entry) → numbered es n ≡ Some e → Has es e
numbered_has es zero e at = cc
numbered_has es (suc k) e at = at_index es k e at

module _ (given : List (Clause Term)) (log : List Entry) (up_to : IsLogUpTo given None log) (cs : List (Clause Term)) (live : AreLive log cs) (normal : (e : Entry) → Has log e → IsNormal e.clause) where
  -- what is live among what comes before is an entry, and so covered
  before_covered : (k : Key) (c : Clause Term) → IsCoveredBy (below k log) c → IsCovered cs c
  before_covered k c (number, general, is_live, subsumes) =
      let listed : Has (below k log) is_live.entry = numbered_has (below k log) number is_live.entry is_live.at in
      let there_too : Has log is_live.entry = (Has-filter_source (λ x. is_before x.key k) log is_live.entry listed).0 in
      covered_by_entry cs general c (subst (IsCovered cs) is_live.clause (entries_covered log cs live normal is_live.entry there_too)) subsumes

  -- What is offered must be covered: else it would be new, and so an entry.
  pub offers_covered : (e : Entry) → IsOffered given (below e.key log) e → MustBeCovered cs e.clause
  offers_covered e offered uncovered =
      let new : IsNew given log e = record { offered = offered; uncovered = λ h. uncovered (before_covered e.key e.clause h) } in
      uncovered (entries_covered log cs live normal e (up_to.complete e tt new))

  -- the given clauses but the goal
  pub given_covered : (n : ℕ) (c : Clause Term) → n < length given → numbered given n ≡ Some c → MustBeCovered cs c
  given_covered n c few at = offers_covered (record { key = key 0 0 n; clause = c }) (inl (record { number = n; no_goal = few; at = refl; clause = at }))

  -- how many entries stand below the goal's key of a turn
  abbrev ends : ℕ → ℕ
  ends n = length (below (goal_key given n) log)

  -- more stand below a later turn's
  ends_grow : (n : ℕ) → ends n ≤ ends (suc n)
  ends_grow n =
      let part = below_below (goal_key given n) (goal_key given (suc n)) log (λ k h. before_trans k (goal_key given n) (goal_key given (suc n)) h (goal_later given n)) in
      let few = below_length (goal_key given n) (below (goal_key given (suc n)) log) in
      let same : length (below (goal_key given n) (below (goal_key given (suc n)) log)) ≡ ends n = ap length part in
      omega (arith, few, same)

  -- the first turn that has no more entries before it than its number
  record FirstEnd : Type 0 where
    pub turn : ℕ
    pub few : ends turn ≤ turn
    pub first : (n : ℕ) → n < turn → n < ends n

  first_end_from : (most n : ℕ) → ((m : ℕ) → m < n → m < ends m) → length log ≤ n + most → FirstEnd
  first_end_from zero n before enough =
      let few = below_length (goal_key given n) log in record { turn = n; few = omega (arith, few, enough); first = before }
  first_end_from (suc most) n before enough = elim (cases_lt n (ends n)) as (λ _. FirstEnd) [
    | inl more ↦ first_end_from most (suc n) (λ m lt. elim (cases_lt m n) as (λ _. m < ends m) [ inl l ↦ before m l | inr g ↦ (let e : m ≡ n = omega (arith, lt, g) in subst (λ k. k < ends k) (sym e) more) ]) (omega (arith, enough))
    | inr few ↦ record { turn = n; few = few; first = before }
  ]

  -- at that turn the entries end
  ends_there : (f : FirstEnd) → ends f.turn ≡ f.turn
  ends_there f = go f.turn f.few f.first
    where
      go : (n : ℕ) → ends n ≤ n → ((m : ℕ) → m < n → m < ends m) → ends n ≡ n
      go zero few first = omega (arith, few)
      go (suc n) few first = let before = first n (omega arith) in let grow = ends_grow n in omega (arith, few, before, grow)

  -- so the goal is offered, and must be covered
  pub goal_covered : (goal : Clause Term) → numbered given (length given) ≡ Some goal → MustBeCovered cs goal
  goal_covered goal at =
      let f = first_end_from (length log) 0 (λ m lt. absurd (nothing_less m lt)) (omega arith) in
      let there_ends = ends_there f in
      let k = goal_key given f.turn in
      let same : length (below k (below k log)) ≡ f.turn = ap length (below_below k k log (λ j h. h)) ∙ there_ends in
      offers_covered (record { key = k; clause = goal })
      (inr (inr (record {
        turn = f.turn;
        at = refl;
        ends = same;
        first = λ n lt e.
            let part = below_below (goal_key given n) k log (λ j h. before_trans j (goal_key given n) k h (goal_before given n f.turn lt)) in
            let count : ends n ≡ n = ap length (sym part) ∙ e in
            let more = f.first n lt in omega (arith, count, more);
        clause = at;
      })))
