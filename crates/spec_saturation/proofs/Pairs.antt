-- A solved and an unsolved live clause of a closed log are a due pair of it, so the live clauses cover what they give.
use Rattle.std.proofs.Common.{◌≡◌, ◌⊎◌, ◌∙◌, ℕ, zero, suc, ◌<◌, ◌≤◌, Bool, true, false, Some, None, List, [], ◌∷◌, ◌++◌, length, drop, refl, ap, sym, subst, inl, inr, true≢false, arith}
use Rattle.std.specs.Prelude.{slice_get}
use Rattle.std.proofs.lemmas.Bool.{cases_lt}
use Rattle.std.proofs.lemmas.Bool.Decides.{nat_tests}
use Rattle.std.proofs.lemmas.List.Elements.{filter-append}
use Rattle.spec_terms.specs.Term.{Term}
use Rattle.spec_calculus.specs.Points.{numbered}
use Rattle.spec_clauses.specs.Fact.{Fact, Clause}
use Rattle.spec_clauses.specs.Selection.{Selection, select, is_solved}
use Rattle.spec_clauses.specs.Norm.{IsNormal}
use Rattle.spec_clauses.specs.Resolvents.{Answer, NoUnifier, Large, Resolvents, Resolves}
use Rattle.spec_clauses.specs.Inclusion.{Picks, here, there, Has}
use Rattle.spec_clauses.proofs.Inclusion.{Has-filter_source}
use Rattle.spec_clauses.proofs.Selection.{select-none}
use Rattle.spec_clauses.proofs.Made.{made_normal}
use Rattle.spec_saturation.specs.Key.{Key, key, is_before, Entry, below}
use Rattle.spec_saturation.specs.Log.{IsBeaten, IsLive, Gives, IsOffered}
use Rattle.spec_saturation.specs.End.{AreSorted, Closed, IsLogUpTo, IsLog}
use Rattle.spec_saturation.specs.Live.{AreLive, MustBeCovered, MustBeAnswered, MeetsCovers}
use Rattle.spec_saturation.proofs.Keys.{before_trans}
use Rattle.spec_saturation.proofs.Cuts.{AreBefore, below_before, below_below, sorted_front}
use Rattle.spec_saturation.proofs.Places.{at_place, major_early}
use Rattle.spec_saturation.proofs.Uniqueness.{gives_moved}
use Rattle.spec_saturation.proofs.Closing.{offers_covered, goal_covered, given_covered}

-- an item that is picked stands at some index
pub index_of : {X : Type 0} {xs rest : List X} {x : X} → Picks xs x rest → (k : ℕ) × (slice_get xs k ≡ Some x)
index_of here = (0, refl)
index_of (there p) = let found = index_of p in (suc found.0, found.1)

-- and so at some number
pub number_of : {X : Type 0} (xs : List X) (x : X) → Has xs x → (k : ℕ) × (numbered xs (suc k) ≡ Some x)
number_of xs x h = index_of h.1

-- what stands at an index, or has a number, is in the list
pub has_index : {X : Type 0} (xs : List X) (k : ℕ) (x : X) → slice_get xs k ≡ Some x → Has xs x
has_index [] k x at = cc
has_index (y ∷ xs) zero x at = let same : y ≡ x = cc in subst (λ z. Has (y ∷ xs) z) same (xs, here)
has_index (y ∷ xs) (suc k) x at = let h = has_index xs k x at in (y ∷ h.0, there h.1)

pub has_numbered : {X : Type 0} (xs : List X) (n : ℕ) (x : X) → numbered xs n ≡ Some x → Has xs x
has_numbered xs zero x at = cc
has_numbered xs (suc k) x at = has_index xs k x at

index_within : {X : Type 0} (xs : List X) (k : ℕ) (x : X) → slice_get xs k ≡ Some x → k < length xs
index_within [] k x at = cc
index_within (y ∷ xs) zero x at = omega arith
index_within (y ∷ xs) (suc k) x at = let h = index_within xs k x at in omega arith

-- an entry more in front
pub live_behind : (d : Entry) (es : List Entry) (n : ℕ) (c : Clause Term) → IsLive es n c → IsLive (d ∷ es) (suc n) c
live_behind d es zero c live = let at = live.at in cc
live_behind d es (suc k) c live = record { entry = live.entry; at = live.at; clause = live.clause; unbeaten = live.unbeaten }

-- each live clause is that of a live entry
pub live_number : (es : List Entry) (cs : List (Clause Term)) → AreLive es cs → (c : Clause Term) → Has cs c → (n : ℕ) × IsLive es n c
live_number [] cs live c h = none cs live c h.1
  where
    none : (cs : List (Clause Term)) → cs ≡ [] → (c : Clause Term) {rest : List (Clause Term)} → Picks cs c rest → (n : ℕ) × IsLive [] n c
    none [] e c p = elim p [ ]
    none (d ∷ ds) e c p = cc
live_number (d ∷ es) cs live c h = go live (λ ds l g. live_number es ds l c g)
  where
    later : (n : ℕ) × IsLive es n c → (n : ℕ) × IsLive (d ∷ es) n c
    later found = (suc found.0, live_behind d es found.0 c found.1)

    among : {ds rest : List (Clause Term)} {b : Clause Term} → Picks ds b rest → (others : List (Clause Term)) → ds ≡ d.clause ∷ others → (b ≡ d.clause) ⊎ Has others b
    among here others same = inl cc
    among (there {x = b} {xs = ds} {rest = rest} p) others same = let tails : ds ≡ others = cc in inr (subst (λ xs. Has xs b) tails (rest, p))

    go : AreLive (d ∷ es) cs → ((ds : List (Clause Term)) → AreLive es ds → Has ds c → (n : ℕ) × IsLive es n c) → (n : ℕ) × IsLive (d ∷ es) n c
    go (inl (beaten, l)) further = later (further cs l h)
    go (inr (unbeaten, (rest, is, l))) further = elim (among h.1 rest is) as (λ _. (n : ℕ) × IsLive (d ∷ es) n c) [
      | inl same ↦ (1, record { entry = d; at = refl; clause = sym same; unbeaten = λ b. unbeaten (subst (IsBeaten es) same b) })
      | inr k ↦ later (further rest l k)
    ]

-- what stands in front of an entry and behind it
get_behind : {X : Type 0} (front : List X) (x : X) (rest : List X) (k : ℕ) → length front ≡ k → slice_get (front ++ x ∷ rest) k ≡ Some x
get_behind [] x rest zero count = refl
get_behind [] x rest (suc k) count = absurd (omega (arith, count))
get_behind (y ∷ front) x rest zero count = absurd (omega (arith, count))
get_behind (y ∷ front) x rest (suc k) count = get_behind front x rest k (omega (arith, count))

drop_behind : {X : Type 0} (front : List X) (x : X) (rest : List X) (k : ℕ) → length front ≡ k → drop (suc k) (front ++ x ∷ rest) ≡ rest
drop_behind [] x rest zero count = refl
drop_behind [] x rest (suc k) count = absurd (omega (arith, count))
drop_behind (y ∷ front) x rest zero count = absurd (omega (arith, count))
drop_behind (y ∷ front) x rest (suc k) count = drop_behind front x rest k (omega (arith, count))

-- below a later key an entry keeps its number, and stands before fewer
record Kept (k : Key) (log : List Entry) (n : ℕ) (e : Entry) : Type 0 where
  at : numbered (below k log) n ≡ Some e
  fewer : (d : Entry) → Has (drop n (below k log)) d → Has (drop n log) d

kept_below : (k : Key) (log : List Entry) → AreSorted log → (n : ℕ) (e : Entry) → numbered log n ≡ Some e → is_before e.key k ≡ true → Kept k log n e
kept_below k log sorted zero e at before = cc
kept_below k log sorted (suc n) e at before =
    let a = at_place log n e at in
    let earlier = sorted_front a.front e a.rest (subst AreSorted a.is sorted) in
    let front : below k a.front ≡ a.front = below_before k a.front (all_earlier a.front earlier) in
    let tail : below k (e ∷ a.rest) ≡ e ∷ below k a.rest = rw before refl in
    let split : below k log ≡ a.front ++ e ∷ below k a.rest =
    ap (below k) a.is ∙ (filter-append (λ x. is_before x.key k) a.front (e ∷ a.rest) ∙ (ap (λ xs. xs ++ below k (e ∷ a.rest)) front ∙ ap (λ ys. a.front ++ ys) tail)) in
    record {
      at = ap (λ xs. slice_get xs n) split ∙ get_behind a.front e (below k a.rest) n a.count;
      fewer = λ d h. (
          let moved : Has (below k a.rest) d = subst (λ xs. Has xs d) (ap (drop (suc n)) split ∙ drop_behind a.front e (below k a.rest) n a.count) h in
          subst (λ xs. Has xs d) (sym (ap (drop (suc n)) a.is ∙ drop_behind a.front e a.rest n a.count)) (Has-filter_source (λ x. is_before x.key k) a.rest d moved).0);
    }
  where
    all_earlier : (xs : List Entry) → AreBefore e.key xs → AreBefore k xs
    all_earlier [] h = tt
    all_earlier (x ∷ xs) h = (before_trans x.key e.key k h.0 before, all_earlier xs h.1)

-- what is live is live below a key behind its entry
live_below : (k : Key) (log : List Entry) → AreSorted log → (n : ℕ) (c : Clause Term) (live : IsLive log n c) → is_before live.entry.key k ≡ true → IsLive (below k log) n c
live_below k log sorted n c live before =
    let kept = kept_below k log sorted n live.entry live.at before in
    record {
      entry = live.entry;
      at = kept.at;
      clause = live.clause;
      unbeaten = λ b. live.unbeaten (b.0, kept.fewer b.0 b.1, b.2);
    }

-- a clause of which a hypothesis is selected isn't solved
unsolved_selected : (hs : List (Fact Term)) (at : Selection) → select hs ≡ Some at → is_solved hs ≡ false
unsolved_selected hs at chosen = go (is_solved hs) refl
  where
    go : (b : Bool) → is_solved hs ≡ b → b ≡ false
    go true e = let none = (select-none hs).1 e in let wrong : Some at ≡ None = sym chosen ∙ none in cc
    go false e = refl

one_number_apart : (es : List Entry) (n m : ℕ) (c d : Clause Term) → IsLive es n c → IsLive es m d → n ≡ m → is_solved c.hypotheses ≡ true → is_solved d.hypotheses ≡ false → ⊥
one_number_apart es n m c d a b same solved unsolved =
    let entries : Some a.entry ≡ Some b.entry = sym a.at ∙ (ap (numbered es) same ∙ b.at) in
    let one : a.entry ≡ b.entry = cc in
    let clauses : c ≡ d = sym a.clause ∙ (ap (λ e. e.clause) one ∙ b.clause) in
    true≢false (sym solved ∙ (ap (λ c. is_solved c.hypotheses) clauses ∙ unsolved))

-- keys of a lesser major
major_before : (e : Key) (m i n : ℕ) → e.major < m → is_before e (key m i n) ≡ true
major_before e m i n lt = grind (arith, nat_tests)

first_before : (m i k : ℕ) (j : Key) → is_before j (key m i 1) ≡ true → is_before j (key m i (suc k)) ≡ true
first_before m i k j h = grind (arith, nat_tests)

module _ (given : List (Clause Term)) (normal : (c : Clause Term) → Has given c → IsNormal c) where
  given_has : (n : ℕ) (c : Clause Term) → numbered given n ≡ Some c → IsNormal c
  given_has zero c at = cc
  given_has (suc k) c at = normal c (has_index given k c at)

  -- what is offered is normal
  pub offers_normal : (log : List Entry) (e : Entry) → IsOffered given log e → IsNormal e.clause
  offers_normal log e (inl x) = given_has x.number e.clause x.clause
  offers_normal log e (inr (inl x)) =
      let listed : Has x.resolvents e.clause = has_numbered x.resolvents e.key.number e.clause x.clause in
      made_normal x.gives.gives.0 x.resolvents e.clause x.gives.gives.2 listed
  offers_normal log e (inr (inr x)) = given_has (length given) e.clause x.clause

module _ (given : List (Clause Term)) (normal : (c : Clause Term) → Has given c → IsNormal c) (log : List Entry) (up_to : IsLogUpTo given None log) (cs : List (Clause Term)) (live : AreLive log cs) where
  entries_normal : (e : Entry) → Has log e → IsNormal e.clause
  entries_normal e h = offers_normal given normal (below e.key log) e (up_to.sound e h).offered

  -- a live entry's major is less than its number
  early : (n : ℕ) (c : Clause Term) (l : IsLive log n c) → l.entry.key.major < n
  early n c l = major_early given log up_to.sorted up_to.sound n l.entry l.at

  -- a live entry is live below the key of a pair that it is in
  live_in_pair : (m i n : ℕ) (c : Clause Term) → IsLive log n c → n ≤ m → IsLive (below (key m i 1) log) n c
  live_in_pair m i n c l within =
      let first = early n c l in
      live_below (key m i 1) log up_to.sorted n c l (major_before l.entry.key m i 1 (omega (arith, first, within)))

  -- a resolvent of a pair must be covered
  pair_covered : (m i : ℕ) (made : List (Clause Term)) → Gives log m i (Resolvents made) → (c : Clause Term) → Has made c → MustBeCovered cs c
  pair_covered m i made g c h =
      let found = number_of made c h in
      let k = found.0 in
      let same : below (key m i 1) log ≡ below (key m i 1) (below (key m i (suc k)) log) = sym (below_below (key m i 1) (key m i (suc k)) log (first_before m i k)) in
      let there_too : Gives (below (key m i (suc k)) log) m i (Resolvents made) = gives_moved log (below (key m i (suc k)) log) m i (Resolvents made) same g in
      offers_covered given log up_to cs live entries_normal (record { key = key m i (suc k); clause = c }) (inr (inl (record { resolvents = made; gives = there_too; clause = found.1 })))

  -- what a pair that gives an answer has to be answered with
  pair_answered : (m i : ℕ) (answer : Answer) → Gives log m i answer → MustBeAnswered cs answer
  pair_answered m i NoUnifier g = tt
  pair_answered m i Large g = up_to.no_large m i tt g
  pair_answered m i (Resolvents made) g = pair_covered m i made g

  -- a solved and an unsolved live clause are a due pair when the later of them is reached
  pair_due : (n m : ℕ) (i j : Clause Term) (at : Selection) (answer : Answer) → IsLive log n i → IsLive log m j → is_solved i.hypotheses ≡ true → select j.hypotheses ≡ Some at → Resolves i j at answer → MustBeAnswered cs answer
  pair_due n m i j at answer a b solved chosen gives =
      let unsolved = unsolved_selected j.hypotheses at chosen in
      elim (cases_lt n m) as (λ _. MustBeAnswered cs answer) [
        | inl lt ↦ pair_answered m n answer (record {
          solved = i;
          unsolved = j;
          at = at;
          is_due = record { order = lt; left_solved = solved; right_unsolved = unsolved; live = inl (live_in_pair m n n i a (omega (arith, lt)), live_in_pair m n m j b (omega arith)) };
          selected = chosen;
          gives = gives;
        })
        | inr ge ↦ elim (cases_lt m n) as (λ _. MustBeAnswered cs answer) [
          | inl lt ↦ pair_answered n m answer (record {
            solved = i;
            unsolved = j;
            at = at;
            is_due = record { order = lt; left_solved = solved; right_unsolved = unsolved; live = inr (live_in_pair n m n i a (omega arith), live_in_pair n m m j b (omega (arith, lt))) };
            selected = chosen;
            gives = gives;
          })
          | inr le ↦ absurd (one_number_apart log n m i j a b (omega (arith, ge, le)) solved unsolved)
        ]
      ]

  -- the given clauses, the goal among them
  all_given_covered : (c : Clause Term) → Has given c → MustBeCovered cs c
  all_given_covered c h =
      let found = number_of given c h in
      let within = index_within given found.0 c found.1 in
      elim (cases_lt (suc found.0) (length given)) as (λ _. MustBeCovered cs c) [
        | inl few ↦ given_covered given log up_to cs live entries_normal (suc found.0) c few found.1
        | inr all ↦ (
            let last : suc found.0 ≡ length given = omega (arith, within, all) in
            goal_covered given log up_to cs live entries_normal c (subst (λ n. numbered given n ≡ Some c) last found.1))
      ]

  live_normal : (c : Clause Term) → Has cs c → IsNormal c
  live_normal c h =
      let found = live_number log cs live c h in
      let listed = has_numbered log found.0 found.1.entry found.1.at in
      subst IsNormal found.1.clause (entries_normal found.1.entry listed)

  -- the live clauses of a closed log meet what a closed list has to
  pub covers_met : MeetsCovers given cs
  covers_met = record {
    normal = live_normal;
    covers = all_given_covered;
    closed = λ i j at answer a b solved chosen gives. (
        let n = live_number log cs live i a in
        let m = live_number log cs live j b in
        pair_due n.0 m.0 i j at answer n.1 m.1 solved chosen gives);
  }

pub closed_covers : (given : List (Clause Term)) → ((c : Clause Term) → Has given c → IsNormal c) → (budget : ℕ) (log : List Entry) (cs : List (Clause Term)) → IsLog given budget log Closed → AreLive log cs → MeetsCovers given cs
closed_covers given normal budget log cs is live = covers_met given normal log is.up_to cs live
