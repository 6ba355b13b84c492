-- Constraints over owned trees with their variables numbered, and what raw clauses tell when they are.
use Rattle.std.proofs.Common.{◌≡◌, ◌∙◌, ℕ, suc, ◌+◌, ◌-◌, ◌<◌, ◌≤◌, Bool, true, false, not, cond, nat_lt, filter, List, [], ◌∷◌, ◌++◌, length, map, flat_map, filter_map, Some, None, is_some, refl, ap, sym, arith, nat_eq}
use Rattle.std.specs.List.{AllByRecursion, enumerate_from, cons_option}
use Rattle.spec_terms.specs.Term.{Term}
use Rattle.spec_clauses.specs.Diff.{Diff, diff_under, diff_variables, bound_variables, numbered_diff}
use Rattle.spec_clauses.specs.Distinct.{distinct, place_of}
use Rattle.spec_clauses.specs.Fact.{Fact, Clause}
use Rattle.spec_clauses.specs.Flat.{flat, flat_parts}
use Rattle.spec_clauses.specs.Shown.{Shown, diff_shown, shown_variables}
use Rattle.spec_clauses.specs.Variables.{leaves, clause_variables}
use Rattle.spec_clauses.proofs.DiffNumbering.{numbered-under, numbered-numbered, own-numbered}
use Rattle.spec_clauses.proofs.NormTidied.{same_norm}
use Rattle.clause_diffs.specs.Numbers.{placed}
use Rattle.clause_diffs.proofs.Numbered.{numbered_shown, shown-numbered}
use Rattle.clause_diffs.proofs.Shown.{shown-own, shown-bound}
use Rattle.spec_attack_runs.specs.Source.{Action, action_terms, source_variables}
use Rattle.clause_sources.specs.Bound.{numbered_in_bound}
use Rattle.clause_sources.specs.Listed.{told_number, told_numbers}

-- a place is no further than the list's length
place_most : (x : ℕ) (xs : List ℕ) → place_of x xs ≤ length xs
place_most x [] = omega arith
place_most x (y ∷ ys) = go (nat_eq x y) (place_most x ys) where
  go : (b : Bool) → place_of x ys ≤ length ys → cond b 0 (suc (place_of x ys)) ≤ suc (length ys)
  go true h = omega arith
  go false h = omega arith

all_below : (own : List ℕ) (first next : ℕ) → length own < next → (xs : List ℕ) → AllByRecursion (λ x. x < first → place_of x own < next) xs
all_below own first next above [] = tt
all_below own first next above (x ∷ xs) = ((λ within. let most = place_most x own in omega arith), all_below own first next above xs)

-- the variables of a constraint as it is written
pub own_of_shown : (d : Shown) (e : Diff) (all kept : List ℕ) → diff_shown d ≡ e → all ≡ shown_variables d → kept ≡ filter (λ x. nat_lt x d.first) all → kept ≡ diff_variables e
own_of_shown d e all kept same are is = is ∙ (ap (filter (λ x. nat_lt x d.first)) are ∙ (sym (shown-own d) ∙ ap diff_variables same))

pub bound_of_shown : (d : Shown) (e : Diff) (all : List ℕ) → diff_shown d ≡ e → all ≡ shown_variables d → map (λ x. x - d.first) (filter (λ x. not (nat_lt x d.first)) all) ≡ bound_variables e
bound_of_shown d e all same are = ap (λ l. map (λ x. x - d.first) (filter (λ x. not (nat_lt x d.first)) l)) are ∙ (sym (shown-bound d) ∙ ap bound_variables same)

-- A constraint as it is written with its variables numbered, where bound ones come above all places.
pub sides_numbered : (own bound : List ℕ) (next : ℕ) (d : Shown) → bound ≡ distinct nat_eq (bound_variables (diff_shown d)) → length own < next
    → diff_shown (numbered_shown own bound next d) ≡ diff_under (placed own) (numbered_diff (diff_shown d))
sides_numbered own bound next d is above =
    shown-numbered own bound next d is (all_below own d.first next above (shown_variables d)) ∙ numbered-under (placed own) (diff_shown d)

-- The numbering of bound variables changes neither the variables of a source, ..
constrained_same : (ds : List Diff) → flat_map diff_variables ds ≡ flat_map diff_variables (map numbered_diff ds)
constrained_same [] = refl
constrained_same (d ∷ ds) = λ i. sym (own-numbered d) i ++ constrained_same ds i

pub variables_same : (raw : Clause Term) (action : Action) → source_variables (record { raw = raw; part = 1; action = action }) ≡ source_variables (record { raw = numbered_in_bound raw; part = 1; action = action })
variables_same raw action = ap (λ l. clause_variables raw ++ (l ++ flat_map leaves (action_terms action))) (constrained_same raw.diffs)

-- .. nor which flat parts say something.
numbered_twice : (ds : List Diff) → map numbered_diff ds ≡ map numbered_diff (map numbered_diff ds)
numbered_twice [] = refl
numbered_twice (d ∷ ds) = λ i. sym (numbered-numbered d) i ∷ numbered_twice ds i

abbrev part : List (Fact Term) → List Diff → Fact Term → Clause Term
part hs ds f = record { hypotheses = hs; diffs = ds; conclusion = f }

told_alike : (n : ℕ) (hs : List (Fact Term)) (ds : List Diff) (fs : List (Fact Term)) → filter_map told_number (enumerate_from n (map (part hs ds) fs)) ≡ filter_map told_number (enumerate_from n (map (part hs (map numbered_diff ds)) fs))
told_alike n hs ds [] = refl
told_alike n hs ds (f ∷ fs) =
    let same = same_norm (part hs ds f) (part hs (map numbered_diff ds) f) (record { hypotheses = refl; diffs = numbered_twice ds; conclusion = refl }) in
    λ i. cons_option (cond (is_some (same i)) (Some n) None) (told_alike (n + 1) hs ds fs i)

pub told_same : (raw : Clause Term) → told_numbers (flat_parts raw) ≡ told_numbers (flat_parts (numbered_in_bound raw))
told_same raw = told_alike 1 (flat_map flat raw.hypotheses) raw.diffs (flat raw.conclusion)
