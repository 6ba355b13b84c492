-- Whether a constraint's sides can be equal, and whether terms for its bound variables alone make them so: both are decided by
-- unification (Robinson 1965), once with all its variables, and once with the clause's variables as constants.
use Rattle.std.proofs.Common.{◌≡◌, ◌⊎◌, ℕ, zero, suc, ◌+◌, Bool, true, false, List, [], ◌∷◌, map, refl, ap, sym, ◌∙◌, inl, inr, arith}
use mathlib.Core.Path.{fun_ext}
use Rattle.spec_trees.specs.Tree.{Tree, Trees, Leaf, Node, none, more, bind, binds, after, node}
use Rattle.spec_trees.proofs.Substitution.{bind-bind}
use Rattle.spec_terms.specs.Term.{Sym, Free, Attacker, Term, Subst}
use Rattle.spec_terms.specs.Unifier.{UnifiesAll, IsMgu, Unifies}
use Rattle.spec_terms.proofs.Decision.{unification_decided}
use Rattle.spec_terms.proofs.Equations.{all_unified}
use Rattle.spec_clauses.specs.Diff.{Slot, Own, Bound, Side, Diff, own, slot_value, CanBeEqual, IsNeverMet}

-- two lists of terms unify, or don't
lists_decided : (xs ys : List Term) → ((s : Subst) × UnifiesAll s xs ys) ⊎ ((s : Subst) → UnifiesAll s xs ys → ⊥)
lists_decided xs ys = go (unification_decided (node Attacker xs) (node Attacker ys)) where
  go : ((s : Subst) × IsMgu (node Attacker xs) (node Attacker ys) s) ⊎ ((s : Subst) → Unifies s (node Attacker xs) (node Attacker ys) → ⊥) → ((s : Subst) × UnifiesAll s xs ys) ⊎ ((s : Subst) → UnifiesAll s xs ys → ⊥)
  go (inl h) = inl (h.0, (all_unified h.0 Attacker xs ys).1 h.1.accepted)
  go (inr never) = inr (λ s e. never s ((all_unified s Attacker xs ys).0 e))

maps_bind : {L M N : Type 0} (s : M → Tree N Sym) (t : L → Tree M Sym) (xs : List (Tree L Sym)) → map (bind s) (map (bind t) xs) ≡ map (bind (after s t)) xs
maps_bind s t [] = refl
maps_bind s t (x ∷ xs) = let first = bind-bind s t x in let others = maps_bind s t xs in λ i. first i ∷ others i

-- Variables of both kinds as numbers: even ones for the clause's, odd ones for bound ones.
abbrev slot_number : Slot → ℕ
slot_number (Own x) = x + x
slot_number (Bound i) = suc (i + i)

abbrev following : Slot → Slot
following (Own x) = Bound x
following (Bound i) = Own (suc i)

abbrev slot_of : ℕ → Slot
slot_of zero = Own 0
slot_of (suc n) = following (slot_of n)

own_back : (x : ℕ) → slot_of (x + x) ≡ Own x
own_back zero = refl
own_back (suc x) =
    let twice : suc x + suc x ≡ suc (suc (x + x)) = omega arith in
    ap slot_of twice ∙ ap (λ k. following (following k)) (own_back x)

slot_back : (k : Slot) → slot_of (slot_number k) ≡ k
slot_back (Own x) = own_back x
slot_back (Bound i) = ap following (own_back i)

abbrev as_variable : Slot → Term
as_variable k = Leaf (slot_number k)

pub equality_decided : (d : Diff) → CanBeEqual d ⊎ (CanBeEqual d → ⊥)
equality_decided d = go (lists_decided (map (bind as_variable) d.left) (map (bind as_variable) d.right)) where
  values : (s : Subst) (ts : List Side) → map (bind s) (map (bind as_variable) ts) ≡ map (bind (λ k. s (slot_number k))) ts
  values s ts = maps_bind s as_variable ts

  back : (e : Slot → Term) (ts : List Side) → map (bind (λ n. e (slot_of n))) (map (bind as_variable) ts) ≡ map (bind e) ts
  back e ts = values (λ n. e (slot_of n)) ts ∙ ap (λ (g : Slot → Term). map (bind g) ts) (fun_ext (λ k. ap e (slot_back k)))

  go : ((s : Subst) × UnifiesAll s (map (bind as_variable) d.left) (map (bind as_variable) d.right)) ⊎ ((s : Subst) → UnifiesAll s (map (bind as_variable) d.left) (map (bind as_variable) d.right) → ⊥) → CanBeEqual d ⊎ (CanBeEqual d → ⊥)
  go (inl h) = inl (λ k. h.0 (slot_number k), sym (values h.0 d.left) ∙ (h.1 ∙ values h.0 d.right))
  go (inr never) = inr (λ h. never (λ n. h.0 (slot_of n)) (back h.0 d.left ∙ (h.1 ∙ sym (back h.0 d.right))))

-- A side with the clause's variables as constants, which are told from its symbols: each of these stands below one more.
abbrev mutual
  constants : Side → Term
  constants (Leaf (Own x)) = Node (Free x) none
  constants (Leaf (Bound i)) = Leaf i
  constants (Node f args) = Node Attacker (more (Node f (row_constants args)) none)

  row_constants : Trees Slot Sym → Trees ℕ Sym
  row_constants none = none
  row_constants (more t ts) = more (constants t) (row_constants ts)

-- and back
abbrev mutual
  read : Term → Term
  read (Node (Free x) none) = Leaf x
  read (Node Attacker (more (Node f args) none)) = Node f (row_read args)
  read _ = Leaf 0

  row_read : Trees ℕ Sym → Trees ℕ Sym
  row_read none = none
  row_read (more t ts) = more (read t) (row_read ts)

module _ (s : Subst) where
  mutual
    read_under : (t : Side) → read (bind s (constants t)) ≡ bind (slot_value Leaf (λ i. read (s i))) t
    read_under (Leaf (Own x)) = refl
    read_under (Leaf (Bound i)) = refl
    read_under (Node f args) = ap (Node f) (row_read_under args)

    row_read_under : (ts : Trees Slot Sym) → row_read (binds s (row_constants ts)) ≡ binds (slot_value Leaf (λ i. read (s i))) ts
    row_read_under none = refl
    row_read_under (more t ts) = cc (read_under t, row_read_under ts)

  all_read : (ts : List Side) → map read (map (bind s) (map constants ts)) ≡ map (bind (slot_value Leaf (λ i. read (s i)))) ts
  all_read [] = refl
  all_read (t ∷ ts) = cc (read_under t, all_read ts)

module _ (b : Subst) where
  mutual
    constants_under : (t : Side) → bind (λ i. constants (own (b i))) (constants t) ≡ constants (own (bind (slot_value Leaf b) t))
    constants_under (Leaf (Own x)) = refl
    constants_under (Leaf (Bound i)) = refl
    constants_under (Node f args) = ap (λ ts. Node Attacker (more (Node f ts) none)) (row_constants_under args)

    row_constants_under : (ts : Trees Slot Sym) → binds (λ i. constants (own (b i))) (row_constants ts) ≡ row_constants (binds (λ x. Leaf (Own x)) (binds (slot_value Leaf b) ts))
    row_constants_under none = refl
    row_constants_under (more t ts) = cc (constants_under t, row_constants_under ts)

  all_constants : (ts : List Side) → map (bind (λ i. constants (own (b i)))) (map constants ts) ≡ map (λ t. constants (own t)) (map (bind (slot_value Leaf b)) ts)
  all_constants [] = refl
  all_constants (t ∷ ts) = cc (constants_under t, all_constants ts)

pub never_decided : (d : Diff) → IsNeverMet d ⊎ (IsNeverMet d → ⊥)
never_decided d = go (lists_decided (map constants d.left) (map constants d.right)) where
  go : ((s : Subst) × UnifiesAll s (map constants d.left) (map constants d.right)) ⊎ ((s : Subst) → UnifiesAll s (map constants d.left) (map constants d.right) → ⊥) → IsNeverMet d ⊎ (IsNeverMet d → ⊥)
  go (inl h) = inl (λ i. read (h.0 i), sym (all_read h.0 d.left) ∙ (ap (map read) h.1 ∙ all_read h.0 d.right))
  go (inr never) = inr (λ h. never (λ i. constants (own (h.0 i))) (all_constants h.0 d.left ∙ (ap (map (λ t. constants (own t))) h.1 ∙ sym (all_constants h.0 d.right))))

-- the answer of a decision
abbrev pub is_yes : {A B : Type 0} → A ⊎ B → Bool
is_yes (inl a) = true
is_yes (inr b) = false

-- whether the sides can be equal
abbrev pub can_be_equal : Diff → Bool
can_be_equal d = is_yes (equality_decided d)

-- whether no substitution meets the constraint
abbrev pub is_never_met : Diff → Bool
is_never_met d = is_yes (never_decided d)
