-- Variables that are numbered by first occurrence: from so many, some leaves lead to so many.
use Rattle.std.proofs.Common.{◌≡◌, ℕ, ◌+◌, ◌<◌, ◌≤◌, max, Bool, true, false, not, ◌||◌, nat_eq, List, [], ◌∷◌, ◌++◌, inl, inr, refl, ap, subst, ◌∙◌, sym, arith}
use Rattle.std.specs.List.{AllByRecursion, list_any}
use Rattle.std.proofs.lemmas.List.Folds.{list_any-append}
use Rattle.std.proofs.lemmas.Bool.Decides.{eqb_tells}
use Rattle.spec_trees.specs.Tree.{Tree, Trees, Leaf, Node, none, more, trees, some_leaf, some_leaves}
use Rattle.spec_calculus.specs.Syntax.{Name, Free, Made, Variable, Rule}
use Rattle.spec_calculus.specs.Values.{same_name}
use Rattle.spec_calculus.specs.Matching.{IsClosedRule}
use Rattle.spec_well_formed.specs.Leaves.{leaves, row_leaves, leaves_of, AreNumberedBehind}
use Rattle.spec_well_formed.specs.Rules.{IsVariable}

abbrev pub Leads : ℕ → List Name → ℕ → Type 0
Leads n [] m = n ≡ m
Leads n (Variable i ∷ xs) m = (0 < i) × (i ≤ n + 1) × Leads (max n i) xs m
Leads n (Free k ∷ xs) m = Leads n xs m
Leads n (Made p ∷ xs) m = Leads n xs m

pub leads-append : (xs ys : List Name) (n k m : ℕ) → Leads n xs k → Leads k ys m → Leads n (xs ++ ys) m
leads-append [] ys n k m a b = subst (λ (j : ℕ). Leads j ys m) (sym a) b
leads-append (Variable i ∷ xs) ys n k m a b = (a.0, a.1, leads-append xs ys (max n i) k m a.2 b)
leads-append (Free i ∷ xs) ys n k m a b = leads-append xs ys n k m a b
leads-append (Made p ∷ xs) ys n k m a b = leads-append xs ys n k m a b

pub leads_numbered : (xs : List Name) (n m : ℕ) → Leads n xs m → AreNumberedBehind n xs
leads_numbered [] n m a = tt
leads_numbered (Variable i ∷ xs) n m a = (a.0, a.1, leads_numbered xs (max n i) m a.2)
leads_numbered (Free i ∷ xs) n m a = leads_numbered xs n m a
leads_numbered (Made p ∷ xs) n m a = leads_numbered xs n m a

leads_up : (xs : List Name) (n m : ℕ) → Leads n xs m → n ≤ m
leads_up [] n m a = omega (arith, a)
leads_up (Variable i ∷ xs) n m a = let up = leads_up xs (max n i) m a.2 in omega arith
leads_up (Free i ∷ xs) n m a = leads_up xs n m a
leads_up (Made p ∷ xs) n m a = leads_up xs n m a

-- the leaf is a variable of a number up to m
abbrev pub IsUpTo : ℕ → Name → Type 0
IsUpTo m (Variable i) = (0 < i) × (i ≤ m)
IsUpTo m (Free n) = Unit {0}
IsUpTo m (Made p) = Unit {0}

pub leads_up_to : (xs : List Name) (n m : ℕ) → Leads n xs m → AllByRecursion (IsUpTo m) xs
leads_up_to [] n m a = tt
leads_up_to (Variable i ∷ xs) n m a = let up = leads_up xs (max n i) m a.2 in ((a.0, omega arith), leads_up_to xs (max n i) m a.2)
leads_up_to (Free i ∷ xs) n m a = (tt, leads_up_to xs n m a)
leads_up_to (Made p ∷ xs) n m a = (tt, leads_up_to xs n m a)

or_first : (b c : Bool) → b ≡ true → (b || c) ≡ true
or_first true c e = refl
or_first false c e = absurd (let same = e in cc)

or_second : (b c : Bool) → c ≡ true → (b || c) ≡ true
or_second true c e = refl
or_second false c e = e

-- each number that leaves lead to occurs among them
pub leads_through : (xs : List Name) (n m i : ℕ) → Leads n xs m → n < i → i ≤ m → list_any (same_name (Variable i)) xs ≡ true
leads_through [] n m i a low high = absurd (omega (arith, a))
leads_through (Variable j ∷ xs) n m i a low high =
    elim (eqb_tells i j) [
      | inl h ↦ or_first (nat_eq i j) (list_any (same_name (Variable i)) xs) h.0
      | inr h ↦ or_second (nat_eq i j) (list_any (same_name (Variable i)) xs) (leads_through xs (max n j) m i a.2 (let apart = h.1 in omega (arith, a.1)) high)
    ]
leads_through (Free j ∷ xs) n m i a low high = leads_through xs n m i a low high
leads_through (Made p ∷ xs) n m i a low high = leads_through xs n m i a low high

-- whether a leaf passes, by the list of leaves
mutual
  pub some_leaf-leaves : {L S : Type 0} (p : L → Bool) (t : Tree L S) → some_leaf p t ≡ list_any p (leaves t)
  some_leaf-leaves p (Leaf x) = one (p x)
    where
      one : (b : Bool) → b ≡ (b || false)
      one true = refl
      one false = refl
  some_leaf-leaves p (Node f ts) = some_leaves-leaves p ts

  pub some_leaves-leaves : {L S : Type 0} (p : L → Bool) (ts : Trees L S) → some_leaves p ts ≡ list_any p (row_leaves ts)
  some_leaves-leaves p none = refl
  some_leaves-leaves p (more t ts) =
      ap (λ (b : Bool). b || some_leaves p ts) (some_leaf-leaves p t) ∙ (ap (λ (b : Bool). list_any p (leaves t) || b) (some_leaves-leaves p ts) ∙ sym (list_any-append p (leaves t) (row_leaves ts)))

pub none_passes : {A : Type 0} (p : A → Bool) (xs : List A) → AllByRecursion (λ x. p x ≡ false) xs → list_any p xs ≡ false
none_passes p [] h = refl
none_passes p (x ∷ xs) h = let e : p x ≡ false = h.0 in rw e (none_passes p xs h.1)

-- where the left side leads to m, and the right side has variables up to m alone, the rule is closed
pub closed_up_to : (rule : Rule) (m : ℕ) → Leads 0 (leaves_of rule.left) m → AllByRecursion IsVariable (leaves rule.right) → AllByRecursion (IsUpTo m) (leaves rule.right) → IsClosedRule rule
closed_up_to rule m left variables up =
    some_leaf-leaves (λ x. not (some_leaves (same_name x) (trees rule.left))) rule.right ∙ none_passes _ (leaves rule.right) (each (leaves rule.right) variables up)
  where
    each : (xs : List Name) → AllByRecursion IsVariable xs → AllByRecursion (IsUpTo m) xs → AllByRecursion (λ x. not (some_leaves (same_name x) (trees rule.left)) ≡ false) xs
    each [] v u = tt
    each (Variable i ∷ xs) v u =
        (ap not (some_leaves-leaves (same_name (Variable i)) (trees rule.left) ∙ leads_through (leaves_of rule.left) 0 m i left u.0.0 u.0.1), each xs v.1 u.1)
    each (Free i ∷ xs) v u = absurd v.0
    each (Made p ∷ xs) v u = absurd v.0
