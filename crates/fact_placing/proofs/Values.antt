-- What stands for a variable of a constraint under bindings.
use Rattle.std.proofs.Common.{◌≡◌, ℕ, ◌<◌, Bool, true, false, nat_eq, nat_lt, Option, Some, None, cond, List, [], ◌∷◌, length, refl, ap, sym, ◌∙◌}
use Rattle.spec_trees.specs.Tree.{Leaf}
use Rattle.spec_trees.specs.Same.{same_tree}
use Rattle.spec_terms.specs.Term.{Term, same_symbol}
use Rattle.spec_terms.specs.Binding.{Binding, bound_to, replaced_once}
use Rattle.spec_terms.proofs.Replace.{some_none, some_same}
use Rattle.spec_clauses.specs.Diff.{Side, own, slot_under, same_slot}
use Rattle.spec_clauses.specs.Shown.{slot_shown}
use Rattle.term_tree.specs.Bank.{tree_at}
use Rattle.term_tree.specs.declared.bank.Id.{Id}
use Rattle.unify_match.specs.declared.bound.Bound.{Bound}
use Rattle.unify_match.specs.Trail.{id_of}
use Rattle.unify_match.specs.Seen.{seen, AreInBank}
use Rattle.unify_match.proofs.SeenLemmas.{AreInBank-at, bound_to-seen, bound_to-seen_none}
use Rattle.clause_diffs.specs.Diffs.{side_shown}
use Rattle.fact_placing.specs.Matched.{slot_matched, side_matched, value_side}

-- It is the term that is found for it, or itself.
replaced_some : (bs : List Binding) (x : ℕ) (t : Term) → bound_to bs x ≡ Some t → replaced_once bs x ≡ t
replaced_some [] x t e = cc
replaced_some (b ∷ bs) x t e = go (nat_eq x b.var) (replaced_some bs x t) e where
  go : (c : Bool) → (bound_to bs x ≡ Some t → replaced_once bs x ≡ t) → cond c (Some b.to) (bound_to bs x) ≡ Some t → cond c b.to (replaced_once bs x) ≡ t
  go true older same = some_same same
  go false older same = older same

replaced_none : (bs : List Binding) (x : ℕ) → bound_to bs x ≡ None → replaced_once bs x ≡ Leaf x
replaced_none [] x e = refl
replaced_none (b ∷ bs) x e = go (nat_eq x b.var) (replaced_none bs x) e where
  go : (c : Bool) → (bound_to bs x ≡ None → replaced_once bs x ≡ Leaf x) → cond c (Some b.to) (bound_to bs x) ≡ None → cond c b.to (replaced_once bs x) ≡ Leaf x
  go true older same = absurd (some_none same)
  go false older same = older same

module _ (all : List Term) (pairs : List Bound) (first x : ℕ) where
  pub value_matched : (o : Option Id) → o ≡ cond (nat_lt x first) (id_of pairs x) None → slot_matched all pairs first x ≡ value_side all first x o
  value_matched o e = go (nat_lt x first) refl o e where
    go : (c : Bool) → nat_lt x first ≡ c → (o : Option Id) → o ≡ cond c (id_of pairs x) None → slot_under (replaced_once (seen all pairs)) (slot_shown first x) ≡ value_side all first x o
    go true below None e =
        let stays : replaced_once (seen all pairs) x ≡ Leaf x = replaced_none (seen all pairs) x (bound_to-seen_none all pairs x (sym e)) in
        rw below (ap own stays)
    go true below (Some id) e =
        let found : replaced_once (seen all pairs) x ≡ tree_at all id = replaced_some (seen all pairs) x (tree_at all id) (bound_to-seen all pairs x id (sym e)) in
        rw below (ap own found)
    go false above None e = rw above refl
    go false above (Some id) e = absurd (some_none e)

  -- what is found is in the bank
  pub value_known : (id : Id) → AreInBank all pairs → Some id ≡ cond (nat_lt x first) (id_of pairs x) None → id.index < length all
  value_known id known e = go (nat_lt x first) e where
    go : (c : Bool) → Some id ≡ cond c (id_of pairs x) None → id.index < length all
    go true at = AreInBank-at all pairs x id known (sym at)
    go false at = absurd (some_none at)

  -- so a test of what is found tests the variable
  pub variable_told : (left : Id) (o : Option Id) (other : Side) (b : Bool) → tree_at all left ≡ Leaf x → o ≡ cond (nat_lt x first) (id_of pairs x) None → b ≡ same_tree same_slot same_symbol (value_side all first x o) other → b ≡ same_tree same_slot same_symbol (side_matched all pairs first (tree_at all left)) other
  variable_told left o other b is at told =
      let here : side_matched all pairs first (tree_at all left) ≡ value_side all first x o = ap (side_matched all pairs first) is ∙ value_matched o at in
      told ∙ sym (ap (λ s. same_tree same_slot same_symbol s other) here)

  pub shown_told : (left : Id) (other : Side) (b : Bool) → tree_at all left ≡ Leaf x → None ≡ cond (nat_lt x first) (id_of pairs x) None → b ≡ same_tree same_slot same_symbol (side_shown first (tree_at all left)) other → b ≡ same_tree same_slot same_symbol (side_matched all pairs first (tree_at all left)) other
  shown_told left other b is at told = variable_told left None other b is at (told ∙ ap (λ t. same_tree same_slot same_symbol (side_shown first t) other) is)
