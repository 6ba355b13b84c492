-- Matching is decided, by going through the general term with the bindings made so far.
use Rattle.std.proofs.Common.{◌≡◌, ℕ, ◌⊎◌, Bool, true, false, cond, nat_eq, Option, Some, None, List, [], ◌∷◌, refl, sym, ap, ◌∙◌, inl, inr, eqb-true}
use Rattle.spec_trees.specs.Tree.{Trees, Leaf, Node, none, more, bind, binds}
use Rattle.spec_trees.specs.Same.{same_tree}
use Rattle.spec_trees.proofs.Equality.{same_tree-sound, same_tree-refl}
use Rattle.spec_terms.specs.Term.{Sym, Term, Subst, Ctor, Data, Tuple, Free, Point, Attacker, same_symbol}
use Rattle.spec_terms.specs.Unifier.{Matches}
use Rattle.spec_terms.specs.Binding.{Binding, bound_to, AreDistinct, Agrees, replaced_once}
use Rattle.spec_terms.proofs.Replace.{some_none, some_same, eqb_self, eqb_sym, is_there}
use Rattle.spec_terms.proofs.Resolve.{bound_to-newest, bound_to-other}

-- what has the bindings has at a bound variable the term of its binding
pub Agrees-at : (s : Subst) (bs : List Binding) (x : ℕ) (t : Term) → Agrees s bs → bound_to bs x ≡ Some t → s x ≡ t
Agrees-at s [] x t h e = absurd (some_none (sym e))
Agrees-at s (b ∷ bs) x t h e = go (Agrees-at s bs x t h.1) (nat_eq x b.var) refl where
  go : (bound_to bs x ≡ Some t → s x ≡ t) → (c : Bool) → nat_eq x b.var ≡ c → s x ≡ t
  go older true same = ap s (eqb-true x b.var same) ∙ (h.0 ∙ some_same (sym (bound_to-newest b bs x same) ∙ e))
  go older false other = older (sym (bound_to-other b bs x other) ∙ e)

-- each variable replaced by its binding has the bindings
other_agrees : (s : Subst) (b : Binding) (bs : List Binding) → bound_to bs b.var ≡ None → Agrees s bs → Agrees (λ x. cond (nat_eq x b.var) b.to (s x)) bs
other_agrees s b [] new h = tt
other_agrees s b (a ∷ later) new h = go (other_agrees s b later) (nat_eq b.var a.var) refl where
  go : (bound_to later b.var ≡ None → Agrees s later → Agrees (λ x. cond (nat_eq x b.var) b.to (s x)) later) → (c : Bool) → nat_eq b.var a.var ≡ c → Agrees (λ x. cond (nat_eq x b.var) b.to (s x)) (a ∷ later)
  go older true same = absurd (some_none (sym (bound_to-newest a later b.var same) ∙ new))
  go older false other = (ap (λ c. cond c b.to (s a.var)) (eqb_sym b.var a.var other) ∙ h.0, older (sym (bound_to-other a later b.var other) ∙ new) h.1)

pub replaced-agrees : (bs : List Binding) → AreDistinct bs → Agrees (replaced_once bs) bs
replaced-agrees [] once = tt
replaced-agrees (b ∷ bs) once = (ap (λ c. cond c b.to (replaced_once bs b.var)) (eqb_self b.var), other_agrees (replaced_once bs) b bs once.0 (replaced-agrees bs once.1))

-- two symbols are the same or not
pub same_symbol-sound : (f g : Sym) → same_symbol f g ≡ true → f ≡ g
same_symbol-sound (Ctor f) (Ctor g) h = ap Ctor (eqb-true f g h)
same_symbol-sound (Data f) (Data g) h = ap Data (eqb-true f g h)
same_symbol-sound (Tuple f) (Tuple g) h = ap Tuple (eqb-true f g h)
same_symbol-sound (Free f) (Free g) h = ap Free (eqb-true f g h)
same_symbol-sound (Point f) (Point g) h = ap Point (eqb-true f g h)
same_symbol-sound Attacker Attacker h = refl
same_symbol-sound _ _ h = cc

pub same_symbol-refl : (f : Sym) → same_symbol f f ≡ true
same_symbol-refl (Ctor f) = eqb_self f
same_symbol-refl (Data f) = eqb_self f
same_symbol-refl (Tuple n) = eqb_self n
same_symbol-refl (Free a) = eqb_self a
same_symbol-refl (Point p) = eqb_self p
same_symbol-refl Attacker = refl

pub term_decided : (a b : Term) → (a ≡ b) ⊎ (a ≡ b → ⊥)
term_decided a b = go (is_there (same_tree nat_eq same_symbol a b)) where
  go : (same_tree nat_eq same_symbol a b ≡ true) ⊎ (same_tree nat_eq same_symbol a b ≡ false) → (a ≡ b) ⊎ (a ≡ b → ⊥)
  go (inl same) = inl (same_tree-sound nat_eq same_symbol eqb-true same_symbol-sound a b same)
  go (inr other) = inr (λ e. let self : same_tree nat_eq same_symbol a b ≡ true = ap (same_tree nat_eq same_symbol a) (sym e) ∙ same_tree-refl nat_eq same_symbol eqb_self same_symbol-refl a in cc)

symbol_decided : (f g : Sym) → (f ≡ g) ⊎ (f ≡ g → ⊥)
symbol_decided f g = go (is_there (same_symbol f g)) where
  go : (same_symbol f g ≡ true) ⊎ (same_symbol f g ≡ false) → (f ≡ g) ⊎ (f ≡ g → ⊥)
  go (inl same) = inl (same_symbol-sound f g same)
  go (inr other) = inr (λ e. let self : same_symbol f g ≡ true = ap (same_symbol f) (sym e) ∙ same_symbol-refl f in cc)

-- the bindings that a match adds, so that having them is having the old ones and passing the test
record Extended (bs : List Binding) (Passes : Subst → Type 0) : Type 0 where
  new : List Binding
  once : AreDistinct new
  exactly : (s : Subst) → (Agrees s new → Agrees s bs × Passes s) × (Agrees s bs × Passes s → Agrees s new)

abbrev Decision : List Binding → (Subst → Type 0) → Type 0
Decision bs Passes = Extended bs Passes ⊎ ((s : Subst) → Agrees s bs → Passes s → ⊥)

match_var : (bs : List Binding) → AreDistinct bs → (x : ℕ) (t : Term) → Decision bs (λ s. s x ≡ t)
match_var bs once x t = go (bound_to bs x) refl where
  go : (o : Option Term) → bound_to bs x ≡ o → Decision bs (λ s. s x ≡ t)
  go None e = inl record { new = record { var = x; to = t } ∷ bs; once = (e, once); exactly = λ s. (λ h. (h.1, h.0), λ h. (h.1, h.0)) }
  go (Some u) e = elim (term_decided u t) as (λ _. Decision bs (λ s. s x ≡ t)) [
    | inl same ↦ inl record { new = bs; once = once; exactly = λ s. (λ h. (h, Agrees-at s bs x u h e ∙ same), λ h. h.0) }
    | inr differ ↦ inr (λ s agrees is. differ (sym (Agrees-at s bs x u agrees e) ∙ is))
  ]

mutual
  match_term : (bs : List Binding) → AreDistinct bs → (a t : Term) → Decision bs (λ s. bind s a ≡ t)
  match_term bs once (Leaf x) t = match_var bs once x t
  match_term bs once (Node f xs) (Leaf y) = inr (λ s agrees e. cc)
  match_term bs once (Node f xs) (Node g ys) = elim (symbol_decided f g) as (λ _. Decision bs (λ s. bind s (Node f xs) ≡ Node g ys)) [
    | inl same ↦ (elim (match_row bs once xs ys) as (λ _. Decision bs (λ s. bind s (Node f xs) ≡ Node g ys)) [
      | inl found ↦ inl record { new = found.new; once = found.once; exactly = λ s. (λ h. let both = (found.exactly s).0 h in let row = both.1 in (both.0, cc), λ h. (found.exactly s).1 (h.0, let e = h.1 in cc)) }
      | inr never ↦ inr (λ s agrees e. never s agrees (cc))
    ])
    | inr differ ↦ inr (λ s agrees e. differ (cc))
  ]

  match_row : (bs : List Binding) → AreDistinct bs → (xs ys : Trees ℕ Sym) → Decision bs (λ s. binds s xs ≡ ys)
  match_row bs once none none = inl record { new = bs; once = once; exactly = λ s. (λ h. (h, refl), λ h. h.0) }
  match_row bs once none (more y ys) = inr (λ s agrees e. cc)
  match_row bs once (more x xs) none = inr (λ s agrees e. cc)
  match_row bs once (more x xs) (more y ys) = elim (match_term bs once x y) as (λ _. Decision bs (λ s. binds s (more x xs) ≡ more y ys)) [
    | inl first ↦ (elim (match_row first.new first.once xs ys) as (λ _. Decision bs (λ s. binds s (more x xs) ≡ more y ys)) [
      | inl others ↦ inl record {
        new = others.new;
        once = others.once;
        exactly = λ s. (
          λ h. let later = (others.exactly s).0 h in let earlier = (first.exactly s).0 later.0 in let p = earlier.1 in let q = later.1 in (earlier.0, cc),
          λ h. let p : bind s x ≡ y = (let e = h.1 in cc) in let q : binds s xs ≡ ys = (let e = h.1 in cc) in (others.exactly s).1 ((first.exactly s).1 (h.0, p), q),
        );
      }
      | inr never ↦ inr (λ s agrees e. let p : bind s x ≡ y = cc in let q : binds s xs ≡ ys = cc in never s ((first.exactly s).1 (agrees, p)) q)
    ])
    | inr never ↦ inr (λ s agrees e. let p : bind s x ≡ y = cc in never s agrees p)
  ]

pub match_decided : (general special : Term) → ((s : Subst) × Matches s general special) ⊎ ((s : Subst) → Matches s general special → ⊥)
match_decided general special = elim (match_term [] tt general special) as (λ _. ((s : Subst) × Matches s general special) ⊎ ((s : Subst) → Matches s general special → ⊥)) [
  | inl found ↦ inl (replaced_once found.new, ((found.exactly (replaced_once found.new)).0 (replaced-agrees found.new found.once)).1)
  | inr never ↦ inr (λ s is. never s tt is)
]
