-- What is taken apart so far, and what is left.
use Rattle.std.proofs.Common.{◌≡◌, ℕ, ◌+◌, ◌-◌, ◌<◌, ◌≤◌, Bool, true, false, List, [], ◌∷◌, length, refl, sym, ◌∙◌, ap, arith}
use Rattle.std.specs.Prelude.{◌==◌, nat_le}
use Rattle.std.proofs.lemmas.Bool.{eqb-true}
use Rattle.std.proofs.lemmas.Bool.Decides.{nat_tests}
use Rattle.choice_text.specs.Lines.{whole_lines, Place, Elsewhere, Line, line_of, behind, clauses_before, lines_left}
use Rattle.choice_text.specs.Splitting.{Splitting, with_line, with_lines, splitting, line_among, line_before, nothing_split}

-- bytes that are not empty
pub some_left : (rest : List ℕ) (empty : Bool) → empty ≡ (length rest == 0) → empty ≡ false → 0 < length rest
some_left rest empty is false_is = let h : (length rest == 0) ≡ false = sym is ∙ false_is in grind (arith, nat_tests)

-- bytes that are
pub none_left : (rest : List ℕ) (empty : Bool) → empty ≡ (length rest == 0) → empty ≡ true → rest ≡ []
none_left [] empty is true_is = refl
none_left (b ∷ rest) empty is true_is = absurd (omega (arith, eqb-true (length (b ∷ rest)) 0 (sym is ∙ true_is)))

-- so many lines stand before the rest at most, and so many clauses
pub record IsWithin (bytes : List ℕ) (place : Place) (number : ℕ) (rest : List ℕ) : Type 0 where
  pub few : clauses_before place + length rest ≤ length bytes
  pub counts : number + length rest ≤ length bytes + 1

pub IsWithin-line : (bytes : List ℕ) (place next : Place) (number : ℕ) (rest later : List ℕ) → IsWithin bytes place number rest → length later < length rest → clauses_before next ≤ clauses_before place + 1 → IsWithin bytes next (number + 1) later
IsWithin-line bytes place next number rest later within shorter few = record { few = omega (arith, within.few, shorter, few); counts = omega (arith, within.counts, shorter) }

-- the lines that are left make the whole of what was taken apart
pub record IsSplitSoFar (whole : Splitting) (bytes : List ℕ) (so_far : Splitting) (place : Place) (number : ℕ) (rest : List ℕ) : Type 0 where
  pub is : with_lines so_far place number (whole_lines rest) ≡ whole
  pub within : IsWithin bytes place number rest

-- one more line is taken apart
pub IsSplitSoFar-line : (whole : Splitting) (bytes : List ℕ) (so_far more : Splitting) (place next : Place) (number : ℕ) (rest text later : List ℕ) (line : Line) → IsSplitSoFar whole bytes so_far place number rest → whole_lines rest ≡ text ∷ whole_lines later → length later < length rest → line ≡ line_of place text → more ≡ with_line so_far number text line → next ≡ behind place line → clauses_before next ≤ clauses_before place + 1 → IsSplitSoFar whole bytes more next (number + 1) later
IsSplitSoFar-line whole bytes so_far more place next number rest text later line before cut shorter is added goes few = record {
  is = ap (λ s. with_lines s next (number + 1) (whole_lines later)) added
      ∙ ap (λ p. with_lines (with_line so_far number text line) p (number + 1) (whole_lines later)) goes
      ∙ ap (λ l. with_lines (with_line so_far number text l) (behind place l) (number + 1) (whole_lines later)) is
      ∙ ap (with_lines so_far place number) (sym cut) ∙ before.is;
  within = IsWithin-line bytes place next number rest later before.within shorter few;
}

-- all lines are
pub IsSplitSoFar-end : (whole : Splitting) (bytes : List ℕ) (so_far : Splitting) (place : Place) (number : ℕ) (rest : List ℕ) → IsSplitSoFar whole bytes so_far place number rest → rest ≡ [] → so_far ≡ whole
IsSplitSoFar-end whole bytes so_far place number rest all none = ap (λ r. with_lines so_far place number (whole_lines r)) (sym none) ∙ all.is

-- the line that is wanted is the same among those that are left
pub record IsWantedSoFar (found : ℕ) (bytes : List ℕ) (place : Place) (number wanted : ℕ) (rest : List ℕ) : Type 0 where
  pub is : line_among place number wanted (whole_lines rest) ≡ found
  pub within : IsWithin bytes place number rest

among_here : (place : Place) (number wanted : ℕ) (text : List ℕ) (lines : List (List ℕ)) → nat_le wanted (lines_left (line_of place text)) ≡ true → line_among place number wanted (text ∷ lines) ≡ number
among_here place number wanted text lines here = rw here refl

among_later : (place : Place) (number wanted : ℕ) (text : List ℕ) (lines : List (List ℕ)) → nat_le wanted (lines_left (line_of place text)) ≡ false → line_among place number wanted (text ∷ lines) ≡ line_among (behind place (line_of place text)) (number + 1) (wanted - lines_left (line_of place text)) lines
among_later place number wanted text lines later = rw later refl

-- it is the next
pub IsWantedSoFar-here : (found : ℕ) (bytes : List ℕ) (place : Place) (number wanted : ℕ) (rest text later : List ℕ) (line : Line) (left : ℕ) → IsWantedSoFar found bytes place number wanted rest → whole_lines rest ≡ text ∷ whole_lines later → line ≡ line_of place text → left ≡ lines_left line → wanted ≤ left → number ≡ found
IsWantedSoFar-here found bytes place number wanted rest text later line left before cut is lefts here =
    let same : left ≡ lines_left (line_of place text) = lefts ∙ ap lines_left is in
    let below : wanted ≤ lines_left (line_of place text) = omega (arith, same, here) in
    let passes : nat_le wanted (lines_left (line_of place text)) ≡ true = grind (arith, nat_tests) in
    sym (among_here place number wanted text (whole_lines later) passes) ∙ ap (line_among place number wanted) (sym cut) ∙ before.is

-- it is a later one
pub IsWantedSoFar-line : (found : ℕ) (bytes : List ℕ) (place next : Place) (number wanted : ℕ) (rest text later : List ℕ) (line : Line) (left : ℕ) → IsWantedSoFar found bytes place number wanted rest → whole_lines rest ≡ text ∷ whole_lines later → length later < length rest → line ≡ line_of place text → left ≡ lines_left line → left < wanted → next ≡ behind place line → clauses_before next ≤ clauses_before place + 1 → IsWantedSoFar found bytes next (number + 1) (wanted - left) later
IsWantedSoFar-line found bytes place next number wanted rest text later line left before cut shorter is lefts beyond goes few =
    let same : left ≡ lines_left (line_of place text) = lefts ∙ ap lines_left is in
    let above : lines_left (line_of place text) < wanted = omega (arith, same, beyond) in
    let fails : nat_le wanted (lines_left (line_of place text)) ≡ false = grind (arith, nat_tests) in
    record {
      is = ap (λ p. line_among p (number + 1) (wanted - left) (whole_lines later)) (goes ∙ ap (behind place) is)
          ∙ ap (λ n. line_among (behind place (line_of place text)) (number + 1) (wanted - n) (whole_lines later)) same
          ∙ sym (among_later place number wanted text (whole_lines later) fails)
          ∙ ap (line_among place number wanted) (sym cut) ∙ before.is;
      within = IsWithin-line bytes place next number rest later before.within shorter few;
    }

-- it is none
pub IsWantedSoFar-end : (found : ℕ) (bytes : List ℕ) (place : Place) (number wanted : ℕ) (rest : List ℕ) → IsWantedSoFar found bytes place number wanted rest → rest ≡ [] → number ≡ found
IsWantedSoFar-end found bytes place number wanted rest all none = ap (λ r. line_among place number wanted (whole_lines r)) (sym none) ∙ all.is

-- all lines, taken apart, are the whole
pub all_lines : (bytes : List ℕ) → with_lines nothing_split Elsewhere 1 (whole_lines bytes) ≡ splitting bytes
unfolding splitting
all_lines bytes = refl

-- no line is passed yet
pub none_passed : (bytes : List ℕ) (line : ℕ) → IsWantedSoFar (line_before bytes line) bytes Elsewhere 1 line bytes
unfolding line_before
none_passed bytes line = record { is = refl; within = record { few = omega arith; counts = omega arith } }
