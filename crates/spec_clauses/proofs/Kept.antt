-- Constraints that are kept: they are met where those are that keep them, and keeping is reflexive and transitive.
use Rattle.std.proofs.Common.{◌≡◌, ◌↔◌, ◌⊎◌, Bool, true, false, not, List, [], ◌∷◌, map, refl, ap, sym, ◌∙◌, subst, inl, inr}
use Rattle.std.specs.Prelude.{flat_map}
use Rattle.std.specs.List.{AllByRecursion, list_any}
use Rattle.spec_trees.specs.Tree.{Leaf, after}
use Rattle.spec_trees.proofs.Occurrence.{or_true}
use Rattle.spec_terms.specs.Term.{Subst}
use Rattle.spec_clauses.specs.Diff.{Diff, slot_under, diff_under, diff_variables, numbered_diff, same_diff, IsMetBy, CanBeEqual}
use Rattle.spec_clauses.specs.DiffDecision.{can_be_equal, is_never_met}
use Rattle.spec_clauses.specs.Distinct.{distinct}
use Rattle.spec_clauses.specs.Inclusion.{here, there, Has}
use Rattle.spec_clauses.specs.Kept.{AreMetBy, IsKeptIn, AreKeptIn}
use Rattle.spec_clauses.proofs.Inclusion.{all_has}
use Rattle.spec_clauses.proofs.Lists.{all_first, all_second, all_filter}
use Rattle.spec_clauses.proofs.Diffs.{can_be_equal-decides, is_never_met-decides, unequal_met, never_unmet, diff_under-diff_under, diff_under-Leaf, diff_under-agree, equal_bound, met_under, met-alike}
use Rattle.spec_clauses.proofs.DiffNumbering.{numbered-under, numbered-numbered, met-numbered, equality-numbered}

-- What is kept is met.
one_met : (diffs : List Diff) (r s : Subst) (d : Diff) → AreMetBy r diffs → IsKeptIn diffs s d → IsMetBy (after r s) d
one_met diffs r s d met (inl e) = (met_under r s d).0 (unequal_met (diff_under s d) e r)
one_met diffs r s d met (inr has) = (met_under r s d).0 ((met-numbered r (diff_under s d)).0 (all_has (IsMetBy r) diffs (numbered_diff (diff_under s d)) met has))

pub kept_met : (diffs general : List Diff) (r s : Subst) → AreMetBy r diffs → AreKeptIn diffs s general → AreMetBy (after r s) general
kept_met diffs [] r s met kept = tt
kept_met diffs (d ∷ general) r s met kept = (one_met diffs r s d met kept.0, kept_met diffs general r s met kept.1)

-- Constraints under s are met by r exactly where they are met by s and then r; and what they are under s is all that counts.
pub all_met_under : (r s : Subst) (diffs : List Diff) → AreMetBy r (map (diff_under s) diffs) ↔ AreMetBy (after r s) diffs
all_met_under r s diffs = (forth diffs, back diffs) where
  forth : (ds : List Diff) → AreMetBy r (map (diff_under s) ds) → AreMetBy (after r s) ds
  forth [] met = tt
  forth (d ∷ ds) met = ((met_under r s d).0 met.0, forth ds met.1)

  back : (ds : List Diff) → AreMetBy (after r s) ds → AreMetBy r (map (diff_under s) ds)
  back [] met = tt
  back (d ∷ ds) met = ((met_under r s d).1 met.0, back ds met.1)

pub all_met-alike : (s t : Subst) (diffs : List Diff) → map (diff_under s) diffs ≡ map (diff_under t) diffs → AreMetBy s diffs → AreMetBy t diffs
all_met-alike s t [] e met = tt
all_met-alike s t (d ∷ diffs) e met =
    let first : diff_under s d ≡ diff_under t d = cc in
    let others : map (diff_under s) diffs ≡ map (diff_under t) diffs = cc in
    (met-alike s t d first met.0, all_met-alike s t diffs others met.1)

-- Numbered, without repeats, they are met where they were.
pub all_met-tidied : (s : Subst) (diffs : List Diff) → AreMetBy s diffs → AreMetBy s (distinct same_diff (map numbered_diff diffs))
all_met-tidied s diffs met = left (map numbered_diff diffs) (numbered diffs met) where
  numbered : (ds : List Diff) → AreMetBy s ds → AreMetBy s (map numbered_diff ds)
  numbered [] met = tt
  numbered (d ∷ ds) met = ((met-numbered s d).1 met.0, numbered ds met.1)

  left : (ds : List Diff) → AreMetBy s ds → AreMetBy s (distinct same_diff ds)
  left [] met = tt
  left (d ∷ ds) met = (met.0, all_filter (IsMetBy s) (λ e. not (same_diff d e)) (distinct same_diff ds) (left ds met.1))

-- Where one is never met, no substitution meets all.
pub void_unmet : (s : Subst) (diffs : List Diff) → list_any is_never_met diffs ≡ true → AreMetBy s diffs → ⊥
void_unmet s [] e met = cc
void_unmet s (d ∷ diffs) e met = elim (or_true (is_never_met d) (list_any is_never_met diffs) e) as (λ _. ⊥) [
  | inl first ↦ never_unmet d ((is_never_met-decides d).0 first) s met.0
  | inr later ↦ void_unmet s diffs later met.1
]

-- Numbered constraints keep themselves.
kept_more : (e : Diff) (diffs general : List Diff) → AreKeptIn diffs Leaf general → AreKeptIn (e ∷ diffs) Leaf general
kept_more e diffs [] kept = tt
kept_more e diffs (d ∷ general) kept = (more kept.0, kept_more e diffs general kept.1) where
  more : IsKeptIn diffs Leaf d → IsKeptIn (e ∷ diffs) Leaf d
  more (inl k) = inl k
  more (inr has) = inr (e ∷ has.0, there has.1)

pub kept_itself : (diffs : List Diff) → AllByRecursion (λ d. numbered_diff d ≡ d) diffs → AreKeptIn diffs Leaf diffs
kept_itself [] a = tt
kept_itself (d ∷ diffs) a =
    let same : d ≡ numbered_diff (diff_under Leaf d) = sym (ap numbered_diff (diff_under-Leaf d) ∙ a.0) in
    (inr (subst (λ (e : Diff). Has (d ∷ diffs) e) same (diffs, here)), kept_more d diffs diffs (kept_itself diffs a.1))

-- A constraint whose sides can't be equal is none that can under a substitution.
unequal_under : (t : Subst) (d : Diff) → can_be_equal d ≡ false → can_be_equal (diff_under t d) ≡ false
unequal_under t d e = go (can_be_equal (diff_under t d)) (λ k. (can_be_equal-decides (diff_under t d)).0 k) where
  below : CanBeEqual (diff_under t d) → CanBeEqual d
  below h = (after h.0 (slot_under t), (equal_bound h.0 (slot_under t) d).0 h.1)

  go : (b : Bool) → (b ≡ true → CanBeEqual (diff_under t d)) → b ≡ false
  go true can = let yes : can_be_equal d ≡ true = (can_be_equal-decides d).1 (below (can refl)) in sym yes ∙ e
  go false can = refl

one_through : (middle diffs : List Diff) (s t : Subst) (d : Diff) → AreKeptIn diffs t middle → IsKeptIn middle s d → IsKeptIn diffs (after t s) d
one_through middle diffs s t d kept (inl e) = inl (ap can_be_equal (sym (diff_under-diff_under t s d)) ∙ unequal_under t (diff_under s d) e)
one_through middle diffs s t d kept (inr has) = go (all_has (IsKeptIn diffs t) middle (numbered_diff (diff_under s d)) kept has) where
  same : diff_under t (numbered_diff (diff_under s d)) ≡ numbered_diff (diff_under (after t s) d)
  same = sym (numbered-under t (diff_under s d)) ∙ ap numbered_diff (diff_under-diff_under t s d)

  go : IsKeptIn diffs t (numbered_diff (diff_under s d)) → IsKeptIn diffs (after t s) d
  go (inl e) = inl (sym (equality-numbered (diff_under (after t s) d)) ∙ (ap can_be_equal (sym same) ∙ e))
  go (inr k) = inr (subst (λ (e : Diff). Has diffs e) (ap numbered_diff same ∙ numbered-numbered (diff_under (after t s) d)) k)

pub kept_through : (general middle diffs : List Diff) (s t : Subst) → AreKeptIn middle s general → AreKeptIn diffs t middle → AreKeptIn diffs (after t s) general
kept_through [] middle diffs s t first second = tt
kept_through (d ∷ general) middle diffs s t first second = (one_through middle diffs s t d second first.0, kept_through general middle diffs s t first.1 second)

-- Only what a substitution has for the variables at hand counts.
pub kept-agree : (diffs : List Diff) (s t : Subst) (general : List Diff) → AllByRecursion (λ x. s x ≡ t x) (flat_map diff_variables general) → AreKeptIn diffs s general → AreKeptIn diffs t general
kept-agree diffs s t [] a kept = tt
kept-agree diffs s t (d ∷ general) a kept =
    let same = diff_under-agree s t d (all_first (λ x. s x ≡ t x) (diff_variables d) (flat_map diff_variables general) a) in
    let one = λ (e : Diff). (can_be_equal e ≡ false) ⊎ Has diffs (numbered_diff e) in
    (subst one same kept.0, kept-agree diffs s t general (all_second (λ x. s x ≡ t x) (diff_variables d) (flat_map diff_variables general) a) kept.1)
