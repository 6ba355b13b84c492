-- Pairs that are remembered.
use Rattle.std.proofs.Common.{◌≡◌, ℕ, ◌⊎◌, inl, inr, Bool, true, false, cond, nat_eq, refl, sym, ap, ◌∙◌, eqb-true}
use Rattle.spec_trees.proofs.Equality.{and_true}
use Rattle.unify_match.specs.declared.memo.Memo.{Memo}
use Rattle.unify_match.specs.Memo.{same_pair, is_remembered}

pub pair_same : (p q : ℕ × ℕ) → same_pair p q ≡ true → q ≡ p
pair_same p q same =
    let parts = and_true (nat_eq p.0 q.0) (nat_eq p.1 q.1) same in
    let first : q.0 ≡ p.0 = sym (eqb-true p.0 q.0 parts.0) in
    let second : q.1 ≡ p.1 = sym (eqb-true p.1 q.1 parts.1) in
    λ i. (first i, second i)

-- what is remembered after one more pair
pub remembered_more : (old new : Memo) (p q : ℕ × ℕ) → is_remembered new q ≡ cond (same_pair p q) true (is_remembered old q) → is_remembered new q ≡ true → (is_remembered old q ≡ true) ⊎ (q ≡ p)
remembered_more old new p q updates remembered = go (same_pair p q) refl where
  go : (b : Bool) → same_pair p q ≡ b → (is_remembered old q ≡ true) ⊎ (q ≡ p)
  go true same = inr (pair_same p q same)
  go false other = inl (sym (updates ∙ ap (λ b. cond b true (is_remembered old q)) other) ∙ remembered)
