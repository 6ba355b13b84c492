-- Where threads may come: a thread reaches a point below its own, with its copies followed by copies that are taken later. How often a
-- point is reached with the same copies, by threads and by names that were made there.
use Rattle.std.proofs.Common.{◌≡◌, ℕ, zero, suc, ◌+◌, ◌≤◌, Bool, true, false, ◌&&◌, cond, nat_eq, nat_le, Some, List, [], ◌∷◌, ◌++◌, length, refl, ap, arith}
use Rattle.std.specs.Prelude.{unwrap_or, slice_get, slice_set}
use Rattle.std.specs.Option.{option_map_or}
use Rattle.std.proofs.lemmas.Bool.Decides.{nat_tests}
use Rattle.spec_calculus.specs.Syntax.{Process}
use Rattle.spec_calculus.specs.Points.{numbered, replaced, nodes}
use Rattle.spec_calculus.specs.Values.{Environment}
use Rattle.spec_calculus.specs.Runs.{Thread, At, Ended}
use Rattle.spec_abstraction.specs.Trace.{Past, nothing_past, MadeAt}
use Rattle.spec_abstraction.proofs.Pairs.{SideBySide}

-- whether the numbers are the sessions, followed by numbers from that of the next copy on
abbrev pub continues : ℕ → List ℕ → List ℕ → Bool
continues copies [] [] = true
continues copies [] (n ∷ ns) = continues copies [] ns && nat_le copies n
continues copies (s ∷ ss) [] = false
continues copies (s ∷ ss) (n ∷ ns) = nat_eq s n && continues copies ss ns

-- whether two lists have the same numbers
abbrev pub same_numbers : List ℕ → List ℕ → Bool
same_numbers [] [] = true
same_numbers [] (n ∷ ns) = false
same_numbers (m ∷ ms) [] = false
same_numbers (m ∷ ms) (n ∷ ns) = nat_eq m n && same_numbers ms ns

-- one, where the test holds
abbrev pub weight : Bool → ℕ
weight b = cond b 1 0

-- how many points the process at a point has
abbrev pub extent : Process → ℕ → ℕ
extent main point = option_map_or (λ process. length (nodes process)) (numbered (nodes main) point) 0

-- whether q is one of so many points from there on
abbrev pub is_below : ℕ → ℕ → ℕ → Bool
is_below point count q = nat_le point q && nat_le (q + 1) (point + count)

-- one, where a thread with these sessions may come to the point q with the sessions u
abbrev pub reached : Process → ℕ → ℕ → List ℕ → Thread → List ℕ → ℕ
reached main copies q u (At point environment) sessions = weight (continues copies sessions u && is_below point (extent main point) q)
reached main copies q u Ended sessions = 0

-- how many threads may
abbrev pub threads_reach : Process → ℕ → ℕ → List ℕ → List Thread → List Past → ℕ
threads_reach main copies q u [] pasts = 0
threads_reach main copies q u (thread ∷ threads) [] = 0
threads_reach main copies q u (thread ∷ threads) (past ∷ pasts) = reached main copies q u thread past.sessions + threads_reach main copies q u threads pasts

-- how many names were made at that point with these sessions
abbrev pub is_made_at : ℕ → List ℕ → MadeAt → Bool
is_made_at q u e = same_numbers e.past.sessions u && nat_eq e.point q

abbrev pub made_at : ℕ → List ℕ → List MadeAt → ℕ
made_at q u [] = 0
made_at q u (e ∷ es) = weight (is_made_at q u e) + made_at q u es

pub weight_small : (b : Bool) → weight b ≤ 1
weight_small true = omega arith
weight_small false = omega arith

-- Points: a part of the points below is no more, nor are two parts apart, nor the first point and those after it.
point_within : (p n r m q : ℕ) → p ≤ r → r + m ≤ p + n → weight (is_below r m q) ≤ weight (is_below p n q)
point_within p n r m q after before = grind (arith, nat_tests)

points_apart : (p n r m t k q : ℕ) → p ≤ r → r + m ≤ t → t + k ≤ p + n → weight (is_below r m q) + weight (is_below t k q) ≤ weight (is_below p n q)
points_apart p n r m t k q first second third = grind (arith, nat_tests)

first_point : (p n m q : ℕ) → 1 + m ≤ n → weight (is_below (p + 1) m q) + weight (nat_eq p q) ≤ weight (is_below p n q)
first_point p n m q fits = grind (arith, nat_tests)

-- the same beside a test
within_tested : (z : Bool) (p n r m q : ℕ) → p ≤ r → r + m ≤ p + n → weight (z && is_below r m q) ≤ weight (z && is_below p n q)
within_tested true p n r m q after before = point_within p n r m q after before
within_tested false p n r m q after before = omega arith

apart_tested : (z : Bool) (p n r m t k q : ℕ) → p ≤ r → r + m ≤ t → t + k ≤ p + n → weight (z && is_below r m q) + weight (z && is_below t k q) ≤ weight (z && is_below p n q)
apart_tested true p n r m t k q first second third = points_apart p n r m t k q first second third
apart_tested false p n r m t k q first second third = omega arith

-- a copy is taken: the thread that stays and the copy reach no more than the thread did
copied_tested : (x y z : Bool) (p n m q : ℕ) → weight x + weight y ≤ weight z → 1 + m ≤ n → weight (x && is_below p n q) + weight (y && is_below (p + 1) m q) ≤ weight (z && is_below p n q)
copied_tested true true true p n m q h fits = absurd (omega (arith, h))
copied_tested true true false p n m q h fits = absurd (omega (arith, h))
copied_tested true false true p n m q h fits = omega arith
copied_tested true false false p n m q h fits = absurd (omega (arith, h))
copied_tested false true true p n m q h fits = let within = point_within p n (p + 1) m q (omega arith) (omega (arith, fits)) in omega (arith, within)
copied_tested false true false p n m q h fits = absurd (omega (arith, h))
copied_tested false false true p n m q h fits = omega arith
copied_tested false false false p n m q h fits = omega arith

-- a name is made: the thread that goes on and the name reach no more than the thread did
made_tested : (y z : Bool) (p n m q : ℕ) → weight y ≤ weight z → 1 + m ≤ n → weight (z && is_below (p + 1) m q) + weight (y && nat_eq p q) ≤ weight (z && is_below p n q)
made_tested true true p n m q h fits = first_point p n m q fits
made_tested true false p n m q h fits = absurd (omega (arith, h))
made_tested false true p n m q h fits = let within = point_within p n (p + 1) m q (omega arith) (omega (arith, fits)) in omega (arith, within)
made_tested false false p n m q h fits = omega arith

-- Sessions: what continues a copy's sessions, and what continues those of the thread once the copy is taken, continued them before.
one_number : (a b : Bool) (copies n : ℕ) → weight a ≤ weight b → weight (a && nat_le (copies + 1) n) + weight (nat_eq copies n && a) ≤ weight (b && nat_le copies n)
one_number true true copies n h = grind (arith, nat_tests)
one_number true false copies n h = absurd (omega (arith, h))
one_number false b copies n h = elim (nat_eq copies n) as (λ t. 0 + weight (t && false) ≤ weight (b && nat_le copies n)) [ true ↦ omega arith | false ↦ omega arith ]

pub copied_continues : (copies : ℕ) (ss u : List ℕ) → weight (continues (copies + 1) ss u) + weight (continues (copies + 1) (ss ++ copies ∷ []) u) ≤ weight (continues copies ss u)
copied_continues copies [] [] = omega arith
copied_continues copies [] (n ∷ ns) =
    let others = copied_continues copies [] ns in
    let less : weight (continues (copies + 1) [] ns) ≤ weight (continues copies [] ns) = omega (arith, others) in
    one_number (continues (copies + 1) [] ns) (continues copies [] ns) copies n less
copied_continues copies (s ∷ ss) [] = omega arith
copied_continues copies (s ∷ ss) (n ∷ ns) =
    let others = copied_continues copies ss ns in
    elim (nat_eq s n) as (λ t. weight (t && continues (copies + 1) ss ns) + weight (t && continues (copies + 1) (ss ++ copies ∷ []) ns) ≤ weight (t && continues copies ss ns)) [
      | true ↦ others
      | false ↦ omega arith
    ]

pub later_continues : (copies : ℕ) (ss u : List ℕ) → weight (continues (copies + 1) ss u) ≤ weight (continues copies ss u)
later_continues copies ss u = let h = copied_continues copies ss u in omega (arith, h)

same_continues : (copies : ℕ) (ss u : List ℕ) → weight (same_numbers ss u) ≤ weight (continues copies ss u)
same_continues copies [] [] = omega arith
same_continues copies [] (n ∷ ns) = omega arith
same_continues copies (s ∷ ss) [] = omega arith
same_continues copies (s ∷ ss) (n ∷ ns) =
    let others = same_continues copies ss ns in
    elim (nat_eq s n) as (λ t. weight (t && same_numbers ss ns) ≤ weight (t && continues copies ss ns)) [ true ↦ others | false ↦ omega arith ]

-- One thread: what it reaches once it has gone on, and what it leaves to others.
later_tested : (x z r : Bool) → weight x ≤ weight z → weight (x && r) ≤ weight (z && r)
later_tested true true r h = omega arith
later_tested true false r h = absurd (omega (arith, h))
later_tested false z r h = omega arith

module _ (main : Process) (q : ℕ) (u : List ℕ) where
  -- fewer points are reached below
  pub goes_within : (copies point next : ℕ) (environment bound : Environment) (ss : List ℕ) → point ≤ next → next + extent main next ≤ point + extent main point → reached main copies q u (At next bound) ss ≤ reached main copies q u (At point environment) ss
  goes_within copies point next environment bound ss after before = within_tested (continues copies ss u) point (extent main point) next (extent main next) q after before

  -- two threads that stand in parts of the points that are apart
  pub goes_apart : (copies point left right : ℕ) (environment : Environment) (ss : List ℕ) → point ≤ left → left + extent main left ≤ right → right + extent main right ≤ point + extent main point → reached main copies q u (At left environment) ss + reached main copies q u (At right environment) ss ≤ reached main copies q u (At point environment) ss
  goes_apart copies point left right environment ss first second third = apart_tested (continues copies ss u) point (extent main point) left (extent main left) right (extent main right) q first second third

  -- a thread and its copy, once one more copy is taken
  pub goes_copied : (copies point : ℕ) (environment : Environment) (ss : List ℕ) → 1 + extent main (point + 1) ≤ extent main point → reached main (copies + 1) q u (At point environment) ss + reached main (copies + 1) q u (At (point + 1) environment) (ss ++ copies ∷ []) ≤ reached main copies q u (At point environment) ss
  goes_copied copies point environment ss fits = copied_tested (continues (copies + 1) ss u) (continues (copies + 1) (ss ++ copies ∷ []) u) (continues copies ss u) point (extent main point) (extent main (point + 1)) q (copied_continues copies ss u) fits

  -- a thread and the name that it made
  pub goes_made : (copies point number : ℕ) (environment bound : Environment) (past : Past) → 1 + extent main (point + 1) ≤ extent main point → reached main copies q u (At (point + 1) bound) past.sessions + weight (is_made_at q u (record { number = number; point = point; past = past })) ≤ reached main copies q u (At point environment) past.sessions
  goes_made copies point number environment bound past fits = made_tested (same_numbers past.sessions u) (continues copies past.sessions u) point (extent main point) (extent main (point + 1)) q (same_continues copies past.sessions u) fits

  -- what is reached once one more copy is taken was reached before
  pub reached_later : (copies : ℕ) (thread : Thread) (ss : List ℕ) → reached main (copies + 1) q u thread ss ≤ reached main copies q u thread ss
  reached_later copies (At point environment) ss = later_tested (continues (copies + 1) ss u) (continues copies ss u) (is_below point (extent main point) q) (later_continues copies ss u)
  reached_later copies Ended ss = omega arith

  pub threads_later : (copies : ℕ) (threads : List Thread) (pasts : List Past) → threads_reach main (copies + 1) q u threads pasts ≤ threads_reach main copies q u threads pasts
  threads_later copies [] pasts = omega arith
  threads_later copies (thread ∷ threads) [] = omega arith
  threads_later copies (thread ∷ threads) (past ∷ pasts) = let first = reached_later copies thread past.sessions in let others = threads_later copies threads pasts in omega (arith, first, others)

  -- All threads: one that goes on, a new last one, and one whose past gets a message.
  module _ (copies : ℕ) where
    set_reach : (threads : List Thread) (pasts : List Past) (k : ℕ) (old new : Thread) (R : Thread → Past → Type 0) → SideBySide R threads pasts → slice_get threads k ≡ Some old → threads_reach main copies q u (slice_set threads k new) pasts + reached main copies q u old (unwrap_or (slice_get pasts k) nothing_past).sessions ≡ threads_reach main copies q u threads pasts + reached main copies q u new (unwrap_or (slice_get pasts k) nothing_past).sessions
    set_reach [] pasts k old new R a e = cc
    set_reach (thread ∷ threads) [] k old new R a e = absurd a
    set_reach (thread ∷ threads) (past ∷ pasts) zero old new R a e =
        let same : reached main copies q u thread past.sessions ≡ reached main copies q u old past.sessions = ap (λ o. reached main copies q u (unwrap_or o Ended) past.sessions) e in omega (arith, same)
    set_reach (thread ∷ threads) (past ∷ pasts) (suc k) old new R a e = let others = set_reach threads pasts k old new R a.1 e in omega (arith, others)

    pub replaced_reach : (threads : List Thread) (pasts : List Past) (n : ℕ) (old new : Thread) (R : Thread → Past → Type 0) → SideBySide R threads pasts → numbered threads n ≡ Some old → threads_reach main copies q u (replaced threads n new) pasts + reached main copies q u old (unwrap_or (numbered pasts n) nothing_past).sessions ≡ threads_reach main copies q u threads pasts + reached main copies q u new (unwrap_or (numbered pasts n) nothing_past).sessions
    replaced_reach threads pasts zero old new R a e = cc
    replaced_reach threads pasts (suc k) old new R a e = set_reach threads pasts k old new R a e

    pub begun_reach : (threads : List Thread) (pasts : List Past) (thread : Thread) (past : Past) (R : Thread → Past → Type 0) → SideBySide R threads pasts → threads_reach main copies q u (threads ++ thread ∷ []) (pasts ++ past ∷ []) ≡ threads_reach main copies q u threads pasts + reached main copies q u thread past.sessions
    begun_reach [] [] thread past R a = omega arith
    begun_reach [] (p ∷ pasts) thread past R a = absurd a
    begun_reach (t ∷ threads) [] thread past R a = absurd a
    begun_reach (t ∷ threads) (p ∷ pasts) thread past R a = let others = begun_reach threads pasts thread past R a.1 in omega (arith, others)

    set_heard : (threads : List Thread) (pasts : List Past) (k : ℕ) (past : Past) → past.sessions ≡ (unwrap_or (slice_get pasts k) nothing_past).sessions → threads_reach main copies q u threads (slice_set pasts k past) ≡ threads_reach main copies q u threads pasts
    set_heard [] pasts k past e = refl
    set_heard (thread ∷ threads) [] k past e = refl
    set_heard (thread ∷ threads) (p ∷ pasts) zero past e = ap (λ ss. reached main copies q u thread ss + threads_reach main copies q u threads pasts) e
    set_heard (thread ∷ threads) (p ∷ pasts) (suc k) past e = ap (λ n. reached main copies q u thread p.sessions + n) (set_heard threads pasts k past e)

    pub heard_reach : (threads : List Thread) (pasts : List Past) (n : ℕ) (past : Past) → past.sessions ≡ (unwrap_or (numbered pasts n) nothing_past).sessions → threads_reach main copies q u threads (replaced pasts n past) ≡ threads_reach main copies q u threads pasts
    heard_reach threads pasts zero past e = refl
    heard_reach threads pasts (suc k) past e = set_heard threads pasts k past e
