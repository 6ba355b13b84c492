-- Premises: behind a hypothesis two bytes are looked at ahead. A reader that passes over `, ` first, and then tells a constraint from a
-- hypothesis by its first byte, reads the same, and is local.
use Rattle.std.proofs.Common.{◌≡◌, ℕ, zero, suc, ◌≤◌, ◌==◌, ◌&&◌, not, if◌then◌else◌, Bool, true, false, List, [], ◌∷◌, ◌++◌, length, drop, codes, refl, sym, ◌∙◌, ap, arith}
use Rattle.spec_calculus.specs.Syntax.{Protocol}
use Rattle.spec_terms.specs.Term.{Term}
use Rattle.spec_clauses.specs.Fact.{Fact}
use Rattle.spec_certificate_text.specs.Sides.{SidesOf}
use Rattle.spec_certificate_text.specs.Terms.{Syntax}
use Rattle.spec_certificate_text.specs.Outcomes.{Outcome, Found, Faulty, next, Reader, front, read_fixed, things_from, things}
use Rattle.spec_certificate_text.specs.Facts.{read_hypothesis, read_diff}
use Rattle.spec_certificate_text.specs.Clauses.{has_next_hypothesis, one_hypothesis, one_diff, read_diffs, Premises, spaced, some_premises, read_premises}
use Rattle.spec_certificate_text.proofs.Parts.{fixed_there}
use Rattle.spec_reading_faults.proofs.Shared.{IsLocal, Moves, next_local, moves_first, choice_local, found_local, never_local}
use Rattle.spec_reading_faults.proofs.Parts.{same_local, things_local, within_room, fewer}
use Rattle.spec_reading_faults.proofs.Facts.{behind_fixed, closing_local, hypothesis_local, hypothesis_moves, diff_local, diff_moves}

-- Constraints in a row.

behind_diff : SidesOf Term → Reader (SidesOf Term × Bool)
behind_diff d bytes at = if front bytes == 44 then next (read_fixed (codes ", ") bytes at) (λ _ p r. Found (d, true) p r) else Found (d, false) at bytes

behind_diff-local : (d : SidesOf Term) → IsLocal (behind_diff d)
unfolding behind_diff
behind_diff-local d =
    choice_local (λ b. b == 44) (λ bytes at. next (read_fixed (codes ", ") bytes at) (λ _ p r. Found (d, true) p r)) (λ bytes at. Found (d, false) at bytes)
    (closing_local (codes ", ") (d, true)) (found_local (d, false))

one_diff-local : (P : Protocol) → IsLocal (one_diff P)
unfolding behind_diff
one_diff-local P = next_local (read_diff P) (λ at d. behind_diff d) (diff_local P) (λ at d. behind_diff-local d)

one_diff-moves : (P : Protocol) → Moves (one_diff P)
unfolding behind_diff
one_diff-moves P = moves_first (read_diff P) (λ at d. behind_diff d) (diff_moves P) (λ at d. behind_diff-local d)

some_diffs-local : (P : Protocol) → IsLocal (things (one_diff P))
some_diffs-local P = things_local (one_diff P) (one_diff-local P) (one_diff-moves P)

-- Premises.

abbrev pub made_of : List (Fact Term) → List (SidesOf Term) → Premises
made_of hs ds = record { hypotheses = hs; diffs = ds }

-- constraints, and the space behind them
unfoldable pub spaced_diffs : Protocol → List (Fact Term) → Reader Premises
spaced_diffs P hs bytes at = spaced hs (things (one_diff P) bytes at)

pub spaced_diffs-local : (P : Protocol) (hs : List (Fact Term)) → IsLocal (spaced_diffs P hs)
unfolding spaced_diffs
spaced_diffs-local P hs = next_local (things (one_diff P)) (λ at ds bytes p. next (read_fixed (codes " ") bytes p) (λ _ q r. Found (made_of hs ds) q r)) (some_diffs-local P) (λ at ds. closing_local (codes " ") (made_of hs ds))

-- no constraint follows, but the space
unfoldable pub no_diffs : List (Fact Term) → Reader Premises
no_diffs hs bytes at = next (read_fixed (codes " ") bytes at) (λ _ p r. Found (made_of hs []) p r)

-- behind `, `: constraints, or what else is read behind these hypotheses
unfoldable pub diffs_or : Protocol → (List (Fact Term) → Reader Premises) → List (Fact Term) → Reader Premises
diffs_or P again hs bytes at = if front bytes == 100 then spaced_diffs P hs bytes at else again hs bytes at

-- behind a hypothesis
unfoldable pub behind_hypothesis : Protocol → (List (Fact Term) → Reader Premises) → List (Fact Term) → Reader Premises
behind_hypothesis P again hs bytes at =
    if front bytes == 44 then next (read_fixed (codes ", ") bytes at) (λ _ p k. diffs_or P again hs k p) else no_diffs hs bytes at

-- behind these hypotheses, at most so many others
unfoldable pub premises_from : Protocol → ℕ → List (Fact Term) → Reader Premises
premises_from P zero hs bytes at = Faulty at Syntax
premises_from P (suc most) hs bytes at = next (read_hypothesis P bytes at) (λ h p k. behind_hypothesis P (premises_from P most) (hs ++ h ∷ []) k p)

-- They are local.

diffs_or-local : (P : Protocol) (again : List (Fact Term) → Reader Premises) (hs : List (Fact Term)) → IsLocal (again hs) → IsLocal (diffs_or P again hs)
unfolding diffs_or
diffs_or-local P again hs local = choice_local (λ b. b == 100) (spaced_diffs P hs) (again hs) (spaced_diffs-local P hs) local

behind_hypothesis-local : (P : Protocol) (again : List (Fact Term) → Reader Premises) (hs : List (Fact Term)) → IsLocal (again hs) → IsLocal (behind_hypothesis P again hs)
unfolding behind_hypothesis no_diffs
behind_hypothesis-local P again hs local =
    choice_local (λ b. b == 44) (λ bytes at. next (read_fixed (codes ", ") bytes at) (λ _ p k. diffs_or P again hs k p)) (λ bytes at. next (read_fixed (codes " ") bytes at) (λ _ p r. Found (made_of hs []) p r))
    (behind_fixed (codes ", ") (diffs_or P again hs) (diffs_or-local P again hs local)) (closing_local (codes " ") (made_of hs []))

pub premises_from-local : (P : Protocol) (most : ℕ) (hs : List (Fact Term)) → IsLocal (premises_from P most hs)
unfolding premises_from
premises_from-local P zero hs = never_local
premises_from-local P (suc most) hs =
    next_local (read_hypothesis P) (λ at h. behind_hypothesis P (premises_from P most) (hs ++ h ∷ [])) (hypothesis_local P)
    (λ at h. behind_hypothesis-local P (premises_from P most) (hs ++ h ∷ []) (premises_from-local P most (hs ++ h ∷ [])))

-- With room for all they are the same.

-- what reads the same behind `, ` reads the same
same_behind : (P : Protocol) (again other : List (Fact Term) → Reader Premises) (hs : List (Fact Term)) (k : List ℕ) (p : ℕ) → ((j : List ℕ) (q : ℕ) → length j ≤ length k → again hs j q ≡ other hs j q) → behind_hypothesis P again hs k p ≡ behind_hypothesis P other hs k p
unfolding behind_hypothesis diffs_or
same_behind P again other hs k p same = ap (λ o. if front k == 44 then o else no_diffs hs k p) (by (read_fixed (codes ", ") k p) refl)
  where
    by : (o : Outcome (Unit {0})) → read_fixed (codes ", ") k p ≡ o → next o (λ _ q j. if front j == 100 then spaced_diffs P hs j q else again hs j q) ≡ next o (λ _ q j. if front j == 100 then spaced_diffs P hs j q else other hs j q)
    by (Faulty q c) is = refl
    by (Found u q j) is =
        let shorter : length j ≤ length k = omega (arith, ap length (fixed_there (codes ", ") k p u q j is)) in
        ap (λ o. if front j == 100 then spaced_diffs P hs j q else o) (same j q shorter)

premises_room : (P : Protocol) (most most' : ℕ) (hs : List (Fact Term)) (bytes : List ℕ) (at : ℕ) → length bytes ≤ most → length bytes ≤ most' → premises_from P most hs bytes at ≡ premises_from P most' hs bytes at
unfolding premises_from read_fixed
premises_room P zero zero hs bytes at few few' = refl
premises_room P zero (suc most') hs [] at few few' = refl
premises_room P zero (suc most') hs (b ∷ bytes) at few few' = absurd (omega (arith, few))
premises_room P (suc most) zero hs [] at few few' = refl
premises_room P (suc most) zero hs (b ∷ bytes) at few few' = absurd (omega (arith, few'))
premises_room P (suc most) (suc most') hs bytes at few few' = by (read_hypothesis P bytes at) refl (λ gs k p. premises_room P most most' gs k p)
  where
    by : (o : Outcome (Fact Term)) → read_hypothesis P bytes at ≡ o → ((gs : List (Fact Term)) (k : List ℕ) (p : ℕ) → length k ≤ most → length k ≤ most' → premises_from P most gs k p ≡ premises_from P most' gs k p)
        → next o (λ h p k. behind_hypothesis P (premises_from P most) (hs ++ h ∷ []) k p) ≡ next o (λ h p k. behind_hypothesis P (premises_from P most') (hs ++ h ∷ []) k p)
    by (Faulty p c) is again = refl
    by (Found h p k) is again =
        let cut = (hypothesis_local P).passed bytes at p h k is in
        let some : 1 ≤ cut.count = omega (arith, cut.there, hypothesis_moves P bytes at p h k is) in
        let short : length k ≡ length (drop cut.count bytes) = ap length cut.is in
        let less = fewer bytes cut.count most some few in
        let less' = fewer bytes cut.count most' some few' in
        same_behind P (premises_from P most) (premises_from P most') (hs ++ h ∷ []) k p (λ j q shorter. again (hs ++ h ∷ []) j q (omega (arith, shorter, short, less)) (omega (arith, shorter, short, less')))

-- Looking ahead reads the same.

-- what is looked at behind two bytes stands behind `, `
looked_at : (k : List ℕ) (p : ℕ) (u : Unit {0}) (q : ℕ) (j : List ℕ) → read_fixed (codes ", ") k p ≡ Found u q j → front (drop 2 k) ≡ front j
looked_at k p u q j is = ap (λ bytes. front (drop 2 bytes)) (fixed_there (codes ", ") k p u q j is)

module _ (P : Protocol) where
  abbrev pub then_diffs : List (Fact Term) → ℕ → List ℕ → Outcome Premises
  then_diffs hs p r = spaced hs (read_diffs P r p)

  -- what comes of a hypothesis behind these
  abbrev taken_on : ℕ → List (Fact Term) → Fact Term × Bool → ℕ → List ℕ → Outcome (List (Fact Term))
  taken_on most hs x p k = if x.1 then things_from (one_hypothesis P) most (hs ++ x.0 ∷ []) k p else Found (hs ++ x.0 ∷ []) p k

  abbrev pub IsAhead : ℕ → List (Fact Term) → Type 0
  IsAhead most hs = (k : List ℕ) (p : ℕ) → next (things_from (one_hypothesis P) most hs k p) then_diffs ≡ premises_from P most hs k p

  abbrev looking : Fact Term → List ℕ → ℕ → Bool → Outcome (Fact Term × Bool)
  looking h k p another = if another then next (read_fixed (codes ", ") k p) (λ _ q j. Found (h, true) q j) else Found (h, false) p k

  -- no hypothesis and no constraint follows
  ahead_none : (most : ℕ) (hs : List (Fact Term)) (h : Fact Term) (k : List ℕ) (p : ℕ) → (front k == 44) ≡ false
      → next (next (looking h k p (has_next_hypothesis k)) (taken_on most hs)) then_diffs ≡ behind_hypothesis P (premises_from P most) (hs ++ h ∷ []) k p
  unfolding behind_hypothesis no_diffs
  ahead_none most hs h k p none =
      let all = hs ++ h ∷ [] in
      ap (λ t. next (next (looking h k p t) (taken_on most hs)) then_diffs) (ap (λ t. t && not (front (drop 2 k) == 100)) none)
      ∙ (ap (λ t. spaced all (if t then next (read_fixed (codes ", ") k p) (λ _ q j. things (one_diff P) j q) else Found [] p k)) none
      ∙ sym (ap (λ t. if t then next (read_fixed (codes ", ") k p) (λ _ q j. diffs_or P (premises_from P most) all j q) else no_diffs all k p) none))

  -- a constraint follows
  ahead_diff : (most : ℕ) (hs : List (Fact Term)) (h : Fact Term) (k : List ℕ) (p : ℕ) → (front k == 44) ≡ true → (front (drop 2 k) == 100) ≡ true
      → next (next (looking h k p (has_next_hypothesis k)) (taken_on most hs)) then_diffs ≡ behind_hypothesis P (premises_from P most) (hs ++ h ∷ []) k p
  unfolding behind_hypothesis diffs_or spaced_diffs
  ahead_diff most hs h k p comma diff =
      let all = hs ++ h ∷ [] in
      ap (λ t. next (next (looking h k p t) (taken_on most hs)) then_diffs) (ap (λ t. t && not (front (drop 2 k) == 100)) comma ∙ ap not diff)
      ∙ (ap (λ t. spaced all (if t then next (read_fixed (codes ", ") k p) (λ _ q j. things (one_diff P) j q) else Found [] p k)) comma
      ∙ (by all (read_fixed (codes ", ") k p) refl
      ∙ sym (ap (λ t. if t then next (read_fixed (codes ", ") k p) (λ _ q j. diffs_or P (premises_from P most) all j q) else no_diffs all k p) comma)))
    where
      by : (all : List (Fact Term)) (o : Outcome (Unit {0})) → read_fixed (codes ", ") k p ≡ o
          → spaced all (next o (λ _ q j. things (one_diff P) j q)) ≡ next o (λ _ q j. if front j == 100 then spaced all (things (one_diff P) j q) else premises_from P most all j q)
      by all (Faulty q c) is = refl
      by all (Found u q j) is =
          sym (ap (λ t. if t then spaced all (things (one_diff P) j q) else premises_from P most all j q) (ap (λ b. b == 100) (sym (looked_at k p u q j is)) ∙ diff))

  -- another hypothesis follows
  ahead_other : (most : ℕ) (hs : List (Fact Term)) (h : Fact Term) (k : List ℕ) (p : ℕ) → IsAhead most (hs ++ h ∷ []) → (front k == 44) ≡ true → (front (drop 2 k) == 100) ≡ false
      → next (next (looking h k p (has_next_hypothesis k)) (taken_on most hs)) then_diffs ≡ behind_hypothesis P (premises_from P most) (hs ++ h ∷ []) k p
  unfolding behind_hypothesis diffs_or
  ahead_other most hs h k p again comma other =
      let all = hs ++ h ∷ [] in
      ap (λ t. next (next (looking h k p t) (taken_on most hs)) then_diffs) (ap (λ t. t && not (front (drop 2 k) == 100)) comma ∙ ap not other)
      ∙ (by (read_fixed (codes ", ") k p) refl
      ∙ sym (ap (λ t. if t then next (read_fixed (codes ", ") k p) (λ _ q j. diffs_or P (premises_from P most) all j q) else no_diffs all k p) comma))
    where
      by : (o : Outcome (Unit {0})) → read_fixed (codes ", ") k p ≡ o
          → next (next (next o (λ _ q j. Found (h, true) q j)) (taken_on most hs)) then_diffs ≡ next o (λ _ q j. if front j == 100 then spaced_diffs P (hs ++ h ∷ []) j q else premises_from P most (hs ++ h ∷ []) j q)
      by (Faulty q c) is = refl
      by (Found u q j) is =
          again j q ∙ sym (ap (λ t. if t then spaced_diffs P (hs ++ h ∷ []) j q else premises_from P most (hs ++ h ∷ []) j q) (ap (λ b. b == 100) (sym (looked_at k p u q j is)) ∙ other))

  ahead : (most : ℕ) (hs : List (Fact Term)) (h : Fact Term) (k : List ℕ) (p : ℕ) → IsAhead most (hs ++ h ∷ [])
      → next (next (looking h k p (has_next_hypothesis k)) (taken_on most hs)) then_diffs ≡ behind_hypothesis P (premises_from P most) (hs ++ h ∷ []) k p
  ahead most hs h k p again = by (front k == 44) refl (front (drop 2 k) == 100) refl
    where
      by : (comma : Bool) → (front k == 44) ≡ comma → (diff : Bool) → (front (drop 2 k) == 100) ≡ diff
          → next (next (looking h k p (has_next_hypothesis k)) (taken_on most hs)) then_diffs ≡ behind_hypothesis P (premises_from P most) (hs ++ h ∷ []) k p
      by false none diff is = ahead_none most hs h k p none
      by true comma true diff = ahead_diff most hs h k p comma diff
      by true comma false other = ahead_other most hs h k p again comma other

  pub premises_ahead : (most : ℕ) (hs : List (Fact Term)) → IsAhead most hs
  unfolding things_from premises_from
  premises_ahead zero hs k p = refl
  premises_ahead (suc most) hs bytes at = by (read_hypothesis P bytes at) (λ gs. premises_ahead most gs)
    where
      by : (o : Outcome (Fact Term)) → ((gs : List (Fact Term)) → IsAhead most gs)
          → next (next (next o (λ h p k. looking h k p (has_next_hypothesis k))) (taken_on most hs)) then_diffs ≡ next o (λ h p k. behind_hypothesis P (premises_from P most) (hs ++ h ∷ []) k p)
      by (Faulty p c) again = refl
      by (Found h p k) again = ahead most hs h k p (again (hs ++ h ∷ []))

  -- Both ways are one.

  pub hypotheses_first : Reader Premises
  hypotheses_first bytes at = next (things (one_hypothesis P) bytes at) then_diffs

  hypotheses_first-local : IsLocal hypotheses_first
  unfolding hypotheses_first
  hypotheses_first-local =
      same_local (λ bytes at. next (things (one_hypothesis P) bytes at) then_diffs) (λ bytes at. premises_from P (length bytes) [] bytes at) (λ bytes at. premises_ahead (length bytes) [] bytes at)
      (within_room (λ most. premises_from P most []) (λ most most' bytes at few few'. premises_room P most most' [] bytes at few few') (λ most. premises_from-local P most []))

  pub some_premises-local : IsLocal (some_premises P)
  unfolding spaced_diffs hypotheses_first
  some_premises-local = choice_local (λ b. b == 100) (spaced_diffs P []) hypotheses_first (spaced_diffs-local P []) hypotheses_first-local

  pub premises_local : IsLocal (read_premises P)
  premises_local = choice_local (λ b. b == 61) (λ bytes at. Found (made_of [] []) at bytes) (some_premises P) (found_local (made_of [] [])) some_premises-local
