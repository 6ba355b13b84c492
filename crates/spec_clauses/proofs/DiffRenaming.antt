-- What a renaming of a clause's variables that has a way back does to constraints: the tests answer as before, sizes stay, and the
-- variables are the renamed ones.
use Rattle.std.proofs.Common.{◌≡◌, ◌↔◌, ℕ, map, refl, ap, sym, ◌∙◌, subst}
use Rattle.std.specs.List.{AllByRecursion}
use mathlib.Core.Path.{fun_ext}
use Rattle.spec_trees.specs.Tree.{Leaf, bind, after}
use Rattle.spec_terms.specs.Term.{Term, Subst}
use Rattle.spec_clauses.specs.Diff.{Slot, Own, Bound, Diff, sides, slot_under, diff_under, slot_value, AreEqual, CanBeEqual, IsNeverMet, side_slots, diff_variables}
use Rattle.spec_clauses.specs.DiffDecision.{can_be_equal, is_never_met}
use Rattle.spec_clauses.specs.Renaming.{renaming}
use Rattle.spec_clauses.proofs.Equality.{tests_same}
use Rattle.spec_clauses.proofs.Diffs.{maps_after, all_own, equal_bound, can_be_equal-decides, is_never_met-decides}
use Rattle.spec_clauses.proofs.DiffNumbering.{equal-alike}

-- what makes sides equal does so with a substitution after it
equal_after : (s : Subst) (e : Slot → Term) (d : Diff) → AreEqual e d → AreEqual (after s e) d
equal_after s e d same = sym (maps_after s e d.left) ∙ (ap (map (bind s)) same ∙ maps_after s e d.right)

module _ (q r : ℕ → ℕ) (d : Diff) (back : AllByRecursion (λ x. q (r x) ≡ x) (diff_variables d)) where
  abbrev renamed : Diff
  renamed = diff_under (renaming r) d

  -- terms for all variables, by the names from before
  abbrev by_old_names : (Slot → Term) → Slot → Term
  by_old_names e (Own y) = e (Own (q y))
  by_old_names e (Bound i) = e (Bound i)

  equal-renamed : CanBeEqual renamed ↔ CanBeEqual d
  equal-renamed = (
    λ h. (after h.0 (slot_under (renaming r)), (equal_bound h.0 (slot_under (renaming r)) d).0 h.1),
    λ h. (by_old_names h.0, (equal_bound (by_old_names h.0) (slot_under (renaming r)) d).1 (equal-alike h.0 (after (by_old_names h.0) (slot_under (renaming r))) d (returns h.0) h.1)),
  ) where
    returns : (e : Slot → Term) → AllByRecursion (λ k. e k ≡ after (by_old_names e) (slot_under (renaming r)) k) (side_slots (sides d))
    returns e = all_own (λ x. q (r x) ≡ x) (λ k. e k ≡ after (by_old_names e) (slot_under (renaming r)) k) (λ x b. ap (λ y. e (Own y)) (sym b)) (λ i. refl) (side_slots (sides d)) back

  -- terms for the bound variables alone, with their variables renamed too
  abbrev bound_under : (ℕ → ℕ) → Subst → Subst
  bound_under p b = after (renaming p) b

  never-renamed : IsNeverMet renamed ↔ IsNeverMet d
  never-renamed = (
    λ h.
        let values = after (slot_value Leaf h.0) (slot_under (renaming r)) in
        let same = equal_after (renaming q) values d ((equal_bound (slot_value Leaf h.0) (slot_under (renaming r)) d).0 h.1) in
        (bound_under q h.0, equal-alike (after (renaming q) values) (slot_value Leaf (bound_under q h.0)) d (returns h.0) same),
    λ h. (bound_under r h.0, (equal_bound (slot_value Leaf (bound_under r h.0)) (slot_under (renaming r)) d).1 (subst (λ (e : Slot → Term). AreEqual e d) (fun_ext (goes h.0)) (equal_after (renaming r) (slot_value Leaf h.0) d h.1))),
  ) where
    returns : (b : Subst) → AllByRecursion (λ k. after (renaming q) (after (slot_value Leaf b) (slot_under (renaming r))) k ≡ slot_value Leaf (bound_under q b) k) (side_slots (sides d))
    returns b = all_own (λ x. q (r x) ≡ x) (λ k. after (renaming q) (after (slot_value Leaf b) (slot_under (renaming r))) k ≡ slot_value Leaf (bound_under q b) k) (λ x e. ap Leaf e) (λ i. refl) (side_slots (sides d)) back

    goes : (b : Subst) (k : Slot) → after (renaming r) (slot_value Leaf b) k ≡ after (slot_value Leaf (bound_under r b)) (slot_under (renaming r)) k
    goes b (Own x) = refl
    goes b (Bound i) = refl

  pub can_be_equal-renamed : can_be_equal renamed ≡ can_be_equal d
  can_be_equal-renamed = tests_same (can_be_equal renamed) (can_be_equal d)
      (λ e. (can_be_equal-decides d).1 (equal-renamed.0 ((can_be_equal-decides renamed).0 e)))
      (λ e. (can_be_equal-decides renamed).1 (equal-renamed.1 ((can_be_equal-decides d).0 e)))

  pub is_never_met-renamed : is_never_met renamed ≡ is_never_met d
  is_never_met-renamed = tests_same (is_never_met renamed) (is_never_met d)
      (λ e. (is_never_met-decides d).1 (never-renamed.0 ((is_never_met-decides renamed).0 e)))
      (λ e. (is_never_met-decides renamed).1 (never-renamed.1 ((is_never_met-decides d).0 e)))
