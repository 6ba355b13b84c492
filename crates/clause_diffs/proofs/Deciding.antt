-- What unification tells of a constraint: its sides can be equal exactly where its lists of terms unify, and it is never met exactly
-- where what unifies them tells the clause's variables apart.
use Rattle.std.proofs.Common.{◌≡◌, ◌↔◌, Bool, true, false, List, map, sym, subst, Result, Ok, Err, IfOk, IsTrue, MatchBool}
use Rattle.std.specs.declared.alloc.AllocError.{AllocError}
use Rattle.spec_trees.specs.Tree.{Leaf}
use Rattle.spec_terms.specs.Term.{Term, Subst}
use Rattle.spec_clauses.specs.Diff.{slot_value}
use Rattle.spec_clauses.specs.DiffDecision.{can_be_equal, is_never_met}
use Rattle.spec_clauses.specs.Shown.{Shown, diff_shown, TellsApart}
use Rattle.spec_clauses.proofs.Equality.{tests_same}
use Rattle.spec_clauses.proofs.Diffs.{can_be_equal-decides, is_never_met-decides}
use Rattle.spec_clauses.proofs.Shown.{shown-can, never_apart, apart_never}
use Rattle.term_tree.specs.Bank.{tree_at}
use Rattle.term_tree.specs.declared.bank.Id.{Id}
use Rattle.clause_diffs.specs.Diffs.{DiffOf, shown_at, diff_at}
use Rattle.clause_diffs.specs.Meeting.{IsMguOfAll, HaveNoUnifierOfAll}

module _ (d : Shown) where
  unified_can : (s : Subst) → IsMguOfAll d.left d.right s → true ≡ can_be_equal (diff_shown d)
  unified_can s most = sym ((can_be_equal-decides (diff_shown d)).1 ((shown-can d).1 (s, most.accepted)))

  apart_can : HaveNoUnifierOfAll d.left d.right → false ≡ can_be_equal (diff_shown d)
  apart_can none =
      tests_same false (can_be_equal (diff_shown d)) (λ e. absurd (let clash = e in cc))
      (λ e. absurd (let found = (shown-can d).0 ((can_be_equal-decides (diff_shown d)).0 e) in none found.0 found.1))

  -- terms for the bound variables that make the sides equal unify them
  apart_not : HaveNoUnifierOfAll d.left d.right → false ≡ is_never_met (diff_shown d)
  apart_not none =
      tests_same false (is_never_met (diff_shown d)) (λ e. absurd (let clash = e in cc))
      (λ e. absurd (
      let never = (is_never_met-decides (diff_shown d)).0 e in
      let found = (shown-can d).0 (slot_value Leaf never.0, never.1) in none found.0 found.1))

  told_never : (s : Subst) (b : Bool) → IsMguOfAll d.left d.right s → (IsTrue b ↔ TellsApart s d) → b ≡ is_never_met (diff_shown d)
  told_never s b most told =
      tests_same b (is_never_met (diff_shown d))
      (λ e. (is_never_met-decides (diff_shown d)).1 (apart_never d s most (told.0 e)))
      (λ e. told.1 (never_apart d s most ((is_never_met-decides (diff_shown d)).0 e)))

-- The same of a constraint over ids, whose lists are handed to unification.
module _ (all : List Term) (d : DiffOf Id) (lefts rights : List Id) (s : Subst) where
  module _ (is_left : lefts ≡ d.left) (is_right : rights ≡ d.right) where
    mgu_of : IsMguOfAll (map (tree_at all) lefts) (map (tree_at all) rights) s → IsMguOfAll (map (tree_at all) d.left) (map (tree_at all) d.right) s
    mgu_of m = subst (λ ids. IsMguOfAll (map (tree_at all) ids) (map (tree_at all) d.right) s) is_left (subst (λ ids. IsMguOfAll (map (tree_at all) lefts) (map (tree_at all) ids) s) is_right m)

    none_of : HaveNoUnifierOfAll (map (tree_at all) lefts) (map (tree_at all) rights) → HaveNoUnifierOfAll (map (tree_at all) d.left) (map (tree_at all) d.right)
    none_of m = subst (λ ids. HaveNoUnifierOfAll (map (tree_at all) ids) (map (tree_at all) d.right)) is_left (subst (λ ids. HaveNoUnifierOfAll (map (tree_at all) lefts) (map (tree_at all) ids)) is_right m)

pub can_told : (all : List Term) (d : DiffOf Id) (lefts rights : List Id) (s : Subst) (r : Result Bool AllocError) → lefts ≡ d.left → rights ≡ d.right
    → IfOk r (λ b. MatchBool b (IsMguOfAll (map (tree_at all) lefts) (map (tree_at all) rights) s) (HaveNoUnifierOfAll (map (tree_at all) lefts) (map (tree_at all) rights))) → IfOk r (λ b. b ≡ can_be_equal (diff_at all d))
can_told all d lefts rights s (Ok true) l r told = unified_can (shown_at all d) s (mgu_of all d lefts rights s l r told)
can_told all d lefts rights s (Ok false) l r told = apart_can (shown_at all d) (none_of all d lefts rights s l r told)
can_told all d lefts rights s (Err e) l r told = tt

pub never_not : (all : List Term) (d : DiffOf Id) (lefts rights : List Id) (s : Subst) (passed : Bool) → lefts ≡ d.left → rights ≡ d.right → passed ≡ false
    → MatchBool passed (IsMguOfAll (map (tree_at all) lefts) (map (tree_at all) rights) s) (HaveNoUnifierOfAll (map (tree_at all) lefts) (map (tree_at all) rights)) → false ≡ is_never_met (diff_at all d)
never_not all d lefts rights s true l r e told = absurd (let clash = e in cc)
never_not all d lefts rights s false l r e told = apart_not (shown_at all d) (none_of all d lefts rights s l r told)

pub never_told : (all : List Term) (d : DiffOf Id) (lefts rights : List Id) (s : Subst) (passed : Bool) (r : Result Bool AllocError) → lefts ≡ d.left → rights ≡ d.right → passed ≡ true
    → MatchBool passed (IsMguOfAll (map (tree_at all) lefts) (map (tree_at all) rights) s) (HaveNoUnifierOfAll (map (tree_at all) lefts) (map (tree_at all) rights))
    → IfOk r (λ b. IsTrue b ↔ TellsApart s (shown_at all d)) → IfOk r (λ b. b ≡ is_never_met (diff_at all d))
never_told all d lefts rights s false r is_left is_right e told apart = absurd (let clash = e in cc)
never_told all d lefts rights s true (Ok b) is_left is_right e told apart = told_never (shown_at all d) s b (mgu_of all d lefts rights s is_left is_right told) apart
never_told all d lefts rights s true (Err x) is_left is_right e told apart = tt
