-- What covers a clause: live entries by their numbers, and by the lists of them.
use Rattle.std.proofs.Common.{◌≡◌, ◌⊎◌, ℕ, zero, suc, ◌+◌, ◌-◌, ◌<◌, ◌≤◌, Bool, true, false, Some, List, [], ◌∷◌, length, drop, get_or, MatchBool, refl, sym, subst, inl, inr, arith}
use Rattle.std.specs.Prelude.{slice_get}
use Rattle.spec_terms.specs.Term.{Term}
use Rattle.spec_calculus.specs.Points.{numbered}
use Rattle.spec_clauses.specs.Fact.{Clause}
use Rattle.spec_clauses.specs.Selection.{is_solved}
use Rattle.spec_saturation.proofs.Places.{numbered_within}
use Rattle.clause_form.specs.Seen.{clause_at}
use Rattle.log_entries.specs.declared.log.Entry.{Entry}
use Rattle.log_entries.specs.declared.walk.Live.{Live}
use Rattle.log_entries.specs.Beating.{LiveCovers, SomeLiveCovers}
use Rattle.log_entries.specs.Live.{AreNumbersOf, AreListed, NumberCovers, CoversAmong}
use Rattle.log_entries.specs.Numbers.{IsAmong}
use Rattle.log_entries.proofs.Placing.{numbered_at, one_entry}

-- an entry of a number that covers is one that does
some_there : (all : List Term) (es : List Entry) (k : ℕ) (x : Entry) (c : Clause Term) → slice_get es k ≡ Some x → LiveCovers all x c → SomeLiveCovers all es c
some_there all [] k x c at h = cc
some_there all (e ∷ es) zero x c at h = let same : e ≡ x = cc in inl (subst (λ (y : Entry). LiveCovers all y c) (sym same) h)
some_there all (e ∷ es) (suc k) x c at h = inr (some_there all es k x c at h)

pub some_among : (all : List Term) (es : List Entry) (ns : List ℕ) (c : Clause Term) → CoversAmong all es ns c → SomeLiveCovers all es c
some_among all es ns c h = go h.number h.covers.at
  where
    go : (n : ℕ) → numbered es n ≡ Some h.covers.entry → SomeLiveCovers all es c
    go zero at = cc
    go (suc k) at = some_there all es k h.covers.entry c at h.covers.covers

-- what covers is listed as solved or as unsolved
pub record CoversAt (all : List Term) (es : List Entry) (c : Clause Term) : Type 0 where
  pub place : ℕ
  pub entry : Entry
  pub at : slice_get es place ≡ Some entry
  pub covers : LiveCovers all entry c

pub covers_there : (all : List Term) (es : List Entry) (c : Clause Term) → SomeLiveCovers all es c → CoversAt all es c
covers_there all [] c h = absurd h
covers_there all (e ∷ es) c (inl h) = record { place = zero; entry = e; at = refl; covers = h }
covers_there all (e ∷ es) c (inr h) = let later = covers_there all es c h in record { place = suc later.place; entry = later.entry; at = later.at; covers = later.covers }

listed_covers : (all : List Term) (es : List Entry) (live : Live) (c : Clause Term) → AreListed all es live → SomeLiveCovers all es c → CoversAmong all es live.solved.items c ⊎ CoversAmong all es live.unsolved.items c
listed_covers all es live c listed h =
    let there = covers_there all es c h in
    go there.place there.entry there.at there.covers (is_solved (clause_at all there.entry.clause).hypotheses) refl
  where
    go : (place : ℕ) (x : Entry) → slice_get es place ≡ Some x → LiveCovers all x c → (b : Bool) → is_solved (clause_at all x.clause).hypotheses ≡ b → CoversAmong all es live.solved.items c ⊎ CoversAmong all es live.unsolved.items c
    go place x at covers true kind = inl (record { number = suc place; among = listed.solved.every (suc place) (record { entry = x; at = at; live = covers.0; kind = kind }); covers = record { entry = x; at = at; covers = covers } })
    go place x at covers false kind = inr (record { number = suc place; among = listed.unsolved.every (suc place) (record { entry = x; at = at; live = covers.0; kind = kind }); covers = record { entry = x; at = at; covers = covers } })

-- what both lists tell
pub covers_told : (all : List Term) (es : List Entry) (live : Live) (c : Clause Term) (found : Bool) → AreListed all es live → (CoversAmong all es live.solved.items c → ⊥) → MatchBool found (CoversAmong all es live.unsolved.items c) (CoversAmong all es live.unsolved.items c → ⊥) → MatchBool found (SomeLiveCovers all es c) (SomeLiveCovers all es c → ⊥)
covers_told all es live c true listed none h = some_among all es live.unsolved.items c h
covers_told all es live c false listed none h = λ some. elim (listed_covers all es live c listed some) as (λ _. ⊥) [
  | inl first ↦ none first
  | inr second ↦ h second
]

-- the entry of a number covers where what stands at its place does
pub number_covers : (all : List Term) (es : List Entry) (c : Clause Term) (number : ℕ) (x : Entry) (found : Bool) → x ≡ get_or es (number - 1) x → 0 < number → number ≤ length es → MatchBool found (LiveCovers all x c) (LiveCovers all x c → ⊥) → MatchBool found (NumberCovers all es c number) (NumberCovers all es c number → ⊥)
number_covers all es c number x true is some within h = record { entry = x; at = numbered_at es number x is some within; covers = h }
number_covers all es c number x false is some within h = λ k. h (subst (λ (y : Entry). LiveCovers all y c) (one_entry es number k.entry x k.at (numbered_at es number x is some within)) k.covers)

-- what covers among the numbers from a place on covers behind it, where the entry of that number doesn't
among_later : (all : List Term) (es : List Entry) (ns : List ℕ) (i : ℕ) (c : Clause Term) → i < length ns → (NumberCovers all es c (get_or ns i 0) → ⊥) → (number : ℕ) → NumberCovers all es c number → IsAmong (drop i ns) number → IsAmong (drop (suc i) ns) number
among_later all es [] i c within none number covers among = absurd (omega arith)
among_later all es (m ∷ ns) zero c within none number covers (inl same) = absurd (none (subst (λ k. NumberCovers all es c k) (sym same) covers))
among_later all es (m ∷ ns) zero c within none number covers (inr rest) = rest
among_later all es (m ∷ ns) (suc i) c within none number covers among = among_later all es ns i c (omega arith) none number covers among

pub covers_behind : (all : List Term) (es : List Entry) (ns : List ℕ) (i : ℕ) (c : Clause Term) → i < length ns → (NumberCovers all es c (get_or ns i 0) → ⊥) → CoversAmong all es (drop i ns) c → CoversAmong all es (drop (i + 1) ns) c
covers_behind all es ns i c within none h =
    let next : suc i ≡ i + 1 = omega arith in
    subst (λ k. CoversAmong all es (drop k ns) c) next
    (record { number = h.number; among = among_later all es ns i c within none h.number h.covers h.among; covers = h.covers })

pub covers_none : (all : List Term) (es : List Entry) (ns : List ℕ) (i : ℕ) (c : Clause Term) → length ns ≤ i → CoversAmong all es (drop i ns) c → ⊥
covers_none all es ns i c past h = go ns i past h.among
  where
    go : (ns : List ℕ) (i : ℕ) → length ns ≤ i → IsAmong (drop i ns) h.number → ⊥
    go [] zero past among = among
    go [] (suc i) past among = among
    go (m ∷ ns) zero past among = omega arith
    go (m ∷ ns) (suc i) past among = go ns i (omega arith) among

-- the numbers of the lists are those of entries
pub listed_within : (all : List Term) (es : List Entry) (b : Bool) (ns ms : List ℕ) → ms ≡ ns → AreNumbersOf all es b ns → (n : ℕ) → IsAmong ms n → (0 < n) × (n ≤ length es)
listed_within all es b ns ms same numbers n among =
    let there = numbers.live n (subst (λ (l : List ℕ). IsAmong l n) same among) in
    numbered_within es n there.entry there.at

-- what is told of the same numbers
pub covers_seen : (all : List Term) (es : List Entry) (ns ms : List ℕ) (c : Clause Term) (found : Bool) → ms ≡ ns → MatchBool found (CoversAmong all es ms c) (CoversAmong all es ms c → ⊥) → MatchBool found (CoversAmong all es ns c) (CoversAmong all es ns c → ⊥)
covers_seen all es ns ms c found numbers h = subst (λ (l : List ℕ). MatchBool found (CoversAmong all es l c) (CoversAmong all es l c → ⊥)) numbers h
