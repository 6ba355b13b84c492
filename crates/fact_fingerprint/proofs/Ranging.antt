-- The ranges at the positions so far.
use Rattle.std.proofs.Common.{◌≡◌, ℕ, ◌+◌, ◌<◌, ◌≤◌, List, [], ◌∷◌, ◌++◌, length, map, take, get_or, slice_set, refl, ap, sym, ◌∙◌, arith}
use Rattle.std.specs.Borrow.{Bor}
use Rattle.std.proofs.lemmas.List.{length-set, take_all, take_more_set, map_more}
use Rattle.spec_terms.specs.Term.{Term}
use Rattle.spec_fingerprints.specs.Fingerprints.{Root, root_among, roots_among}
use Rattle.fact_fingerprint.specs.Ranges.{ways_of}

-- what stands at a position of a table
abbrev pub root_at : List Term → Bor (List ℕ) → Root
root_at ts way = root_among way.now ts

-- so many numbers are those of what stands at the first positions
pub record AreSoFar (number : Root → ℕ) (ts : List Term) (ways : List (Bor (List ℕ))) (i : ℕ) (numbers : List ℕ) : Type 0 where
  pub many : length numbers ≡ 32
  pub are : take i numbers ≡ map (λ way. number (root_at ts way)) (take i ways)

pub one_more : (number : Root → ℕ) (ts : List Term) (ways : List (Bor (List ℕ))) (i n : ℕ) (d : Bor (List ℕ)) (numbers : List ℕ) → AreSoFar number ts ways i numbers → length ways ≡ 32 → i < 32 → n ≡ number (root_at ts (get_or ways i d))
    → AreSoFar number ts ways (i + 1) (slice_set numbers i n)
one_more number ts ways i n d numbers was many within e = record {
  many = length-set numbers i n ∙ was.many;
  are = take_more_set numbers i n (omega (arith, was.many, within))
      ∙ ((λ j. was.are j ++ e j ∷ [])
      ∙ sym (map_more (λ way. number (root_at ts way)) ways i d (omega (arith, many, within))));
}

roots_of_table : (number : Root → ℕ) (ts : List Term) (ways : List (Bor (List ℕ))) → map (λ way. number (root_at ts way)) ways ≡ map number (roots_among (ways_of ways) ts)
roots_of_table number ts [] = refl
roots_of_table number ts (way ∷ ways) = ap (λ ns. number (root_at ts way) ∷ ns) (roots_of_table number ts ways)

pub at_all : (number : Root → ℕ) (ts : List Term) (ways : List (Bor (List ℕ))) (i : ℕ) (numbers : List ℕ) → AreSoFar number ts ways i numbers → length ways ≡ 32 → 32 ≤ i → numbers ≡ map number (roots_among (ways_of ways) ts)
at_all number ts ways i numbers was many past =
    sym (take_all i numbers (omega (arith, was.many, past)))
    ∙ (was.are ∙ (ap (map (λ way. number (root_at ts way))) (take_all i ways (omega (arith, many, past))) ∙ roots_of_table number ts ways))
