-- Leaves that pass a test.
use Rattle.std.proofs.Common.{◌≡◌, Bool, true, false, ◌||◌, refl, inl, inr}
use Rattle.std.proofs.lemmas.Bool.{or_left, or_right}
use Rattle.spec_trees.specs.Tree.{Tree, Trees, Leaf, Node, none, more, some_leaf, some_leaves}
use Rattle.spec_trees.proofs.Occurrence.{or_false, or_true}

pub or_false-both : (a b : Bool) → a ≡ false → b ≡ false → (a || b) ≡ false
or_false-both a b h k = cc

-- a test that passes no more than another finds none where the other finds none
mutual
  pub some_leaf-weaker : {L S : Type 0} (p q : L → Bool) → ((x : L) → p x ≡ false → q x ≡ false) → (t : Tree L S) → some_leaf p t ≡ false → some_leaf q t ≡ false
  some_leaf-weaker p q weaker (Leaf x) h = weaker x h
  some_leaf-weaker p q weaker (Node f args) h = some_leaves-weaker p q weaker args h

  pub some_leaves-weaker : {L S : Type 0} (p q : L → Bool) → ((x : L) → p x ≡ false → q x ≡ false) → (ts : Trees L S) → some_leaves p ts ≡ false → some_leaves q ts ≡ false
  some_leaves-weaker p q weaker none h = refl
  some_leaves-weaker p q weaker (more t ts) h =
      let parts = or_false (some_leaf p t) (some_leaves p ts) h in
      cc (some_leaf-weaker p q weaker t parts.0, some_leaves-weaker p q weaker ts parts.1)

-- a leaf stands in the tree: each test that it passes finds one
abbrev pub StandsIn : {L S : Type 0} → L → Tree L S → Type 0
StandsIn {L} x t = (q : L → Bool) → q x ≡ true → some_leaf q t ≡ true

abbrev pub StandsAmong : {L S : Type 0} → L → Trees L S → Type 0
StandsAmong {L} x ts = (q : L → Bool) → q x ≡ true → some_leaves q ts ≡ true

-- where a test finds a leaf, a leaf that passes it stands in the tree
mutual
  pub leaf_found : {L S : Type 0} (p : L → Bool) (t : Tree L S) → some_leaf p t ≡ true → (x : L) × (p x ≡ true) × StandsIn x t
  leaf_found p (Leaf x) h = (x, h, λ q k. k)
  leaf_found p (Node f args) h = leaf_found_among p args h

  pub leaf_found_among : {L S : Type 0} (p : L → Bool) (ts : Trees L S) → some_leaves p ts ≡ true → (x : L) × (p x ≡ true) × StandsAmong x ts
  leaf_found_among p none h = cc
  leaf_found_among {L} {S} p (more t ts) h =
      elim (or_true (some_leaf p t) (some_leaves p ts) h) as (λ _. (x : L) × (p x ≡ true) × StandsAmong x (more t ts)) [
        | inl here ↦ (let found = leaf_found p t here in (found.0, found.1, λ q k. or_left (some_leaf q t) (some_leaves q ts) (found.2 q k)))
        | inr there ↦ (let found = leaf_found_among p ts there in (found.0, found.1, λ q k. or_right (some_leaf q t) (some_leaves q ts) (found.2 q k)))
      ]

-- a test that no leaf that stands in the tree passes finds none
mutual
  pub some_leaf-stands : {L S : Type 0} (p : L → Bool) (t : Tree L S) → ((x : L) → StandsIn x t → p x ≡ false) → some_leaf p t ≡ false
  some_leaf-stands p (Leaf x) h = h x (λ q k. k)
  some_leaf-stands p (Node f args) h = some_leaves-stands p args h

  pub some_leaves-stands : {L S : Type 0} (p : L → Bool) (ts : Trees L S) → ((x : L) → StandsAmong x ts → p x ≡ false) → some_leaves p ts ≡ false
  some_leaves-stands p none h = refl
  some_leaves-stands p (more t ts) h =
      or_false-both (some_leaf p t) (some_leaves p ts)
      (some_leaf-stands p t (λ x stands. h x (λ q k. or_left (some_leaf q t) (some_leaves q ts) (stands q k))))
      (some_leaves-stands p ts (λ x stands. h x (λ q k. or_right (some_leaf q t) (some_leaves q ts) (stands q k))))
