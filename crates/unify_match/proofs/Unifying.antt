-- The steps of unification.
use Rattle.std.proofs.Common.{◌≡◌, ◌↔◌, ℕ, IsTrue, ◌+◌, ◌≤◌, ◌<◌, Bool, true, false, nat_eq, ◌⊎◌, inl, inr, List, [], ◌∷◌, ◌++◌, length, map, drop, get_or, refl, sym, ap, ◌∙◌, subst, arith, eqb-true, Result, Ok, Err, IfOk, MatchBool}
use Rattle.std.proofs.lemmas.Bool.{false≢true}
use Rattle.spec_trees.specs.Tree.{Leaf, Node, node, bind, binds, size}
use Rattle.spec_trees.proofs.Occurrence.{leaf_below}
use Rattle.spec_terms.specs.Term.{Sym, Term, Subst, has_var, is_ground}
use Rattle.spec_terms.specs.Unifier.{Unifies, UnifiesAll}
use Rattle.spec_terms.specs.Binding.{Solves, resolved}
use Rattle.spec_terms.specs.Rank.{ranks}
use Rattle.spec_terms.proofs.Ground.{ground-bind}
use Rattle.spec_terms.proofs.Resolve.{resolved-unbound, bind-resolved, resolved-most_general}
use Rattle.term_tree.specs.Bank.{tree_at, AreKnown}
use Rattle.term_tree.specs.declared.bank.Id.{Id}
use Rattle.term_tree.proofs.BankLaws.{known-at}
use Rattle.unify_match.specs.declared.bound.Bound.{Bound}
use Rattle.unify_match.specs.declared.memo.Memo.{Memo}
use Rattle.unify_match.specs.Trail.{Extends}
use Rattle.unify_match.specs.Seen.{seen, IsReady, IsWalked}
use Rattle.unify_match.specs.Outcome.{Unified, NoUnifier, UnifiedAll, NoUnifierOfAll}
use Rattle.unify_match.specs.Memo.{is_remembered, AreMade}
use Rattle.unify_match.specs.Progress.{Grown, HasSolutions, HasAllSolutions, IsApart}
use Rattle.unify_match.proofs.SeenLemmas.{IsReady-sound, bound_to-seen_none}
use Rattle.unify_match.proofs.Walking.{heights_of, height-at}
use Rattle.unify_match.proofs.Effort.{Grown-refl, Grown-trans}
use Rattle.unify_match.proofs.Pairs.{AreOne, under, Remains, remains_begins, remains_next, remains_fails, remains_ends, node_one, one_node, one_lists, lists_one, bind-application}

-- a variable is never one with a larger term in which it stands
pub bind_fails : (all : List Term) (pairs : List Bound) (x : ℕ) (id : Id) → IsApart all pairs x id → has_var x (bind (resolved (seen all pairs)) (tree_at all id)) ≡ true → NoUnifier all pairs (Leaf x) (tree_at all id)
bind_fails all pairs x id apart stands s solves e = go (tree_at all id) refl (stands, e) where
  go : (t : Term) → tree_at all id ≡ t → (has_var x (bind (resolved (seen all pairs)) t) ≡ true) × (s x ≡ bind s t) → ⊥
  go (Leaf y) is h =
      let self = resolved-unbound (seen all pairs) y (bound_to-seen_none all pairs y (apart y is).0) in
      (apart y is).1 (eqb-true x y (sym (ap (has_var x) self) ∙ h.0))
  go (Node f ts) is h =
      let found = leaf_below (nat_eq x) s f (binds (resolved (seen all pairs)) ts) h.0 in
      let var : x ≡ found.0 = eqb-true x found.0 found.1 in
      let whole : bind s (bind (resolved (seen all pairs)) (Node f ts)) ≡ bind s (Node f ts) = bind-resolved s (seen all pairs) solves (Node f ts) in
      let below : size (s found.0) < size (bind s (bind (resolved (seen all pairs)) (Node f ts))) = found.2 in
      absurd (omega (arith, ap size (ap s var), ap size whole, ap size h.1))

-- the solutions with one more binding
pub bind_solutions : (all : List Term) (pairs : List Bound) (b : Bound) → HasSolutions all pairs (b ∷ pairs) (Leaf b.var) (tree_at all b.id)
bind_solutions all pairs b s = (λ h. (h.1, h.0), λ h. (h.1, h.0))

-- a solution of more bindings is one of fewer
pub Solves-extends : (all : List Term) (more old : List Bound) (s : Subst) → Solves s (seen all (more ++ old)) → Solves s (seen all old)
Solves-extends all [] old s h = h
Solves-extends all (b ∷ bs) old s h = Solves-extends all bs old s h.1

pub AreMade-extends : (all : List Term) (old new : List Bound) (set : Memo) → Extends old new → AreMade all old set → AreMade all new set
AreMade-extends all old new set (more, e) made k in_set s solves = made k in_set s (Solves-extends all more old s (subst (λ (bs : List Bound). Solves s (seen all bs)) e solves))

-- nothing is remembered at first
pub AreMade-none : (all : List Term) (pairs : List Bound) (memo : Memo) → ((q : ℕ × ℕ) → is_remembered memo q ≡ false) → AreMade all pairs memo
AreMade-none all pairs memo none k remembered = let never = none k in cc

-- one more pair that was made one
pub AreMade-pass : (all : List Term) (pairs : List Bound) (old new : Memo) (a b : Id) → AreMade all pairs old
    → ((s : Subst) → Solves s (seen all pairs) → bind s (tree_at all a) ≡ bind s (tree_at all b))
    → ((q : ℕ × ℕ) → is_remembered new q ≡ true → (is_remembered old q ≡ true) ⊎ (q ≡ (a.index, b.index))) → AreMade all pairs new
AreMade-pass all pairs old new a b made one passed k remembered s solves = go (passed k remembered) where
  go : (is_remembered old k ≡ true) ⊎ (k ≡ (a.index, b.index)) → bind s (tree_at all record { index = k.0 }) ≡ bind s (tree_at all record { index = k.1 })
  go (inl before) = made k before s solves
  go (inr same) = ap (λ (q : ℕ × ℕ). bind s (tree_at all record { index = q.0 })) same ∙ (one s solves ∙ ap (λ (q : ℕ × ℕ). bind s (tree_at all record { index = q.1 })) (sym same))

-- what holds of the ends of two walks holds of their beginnings
pub solutions_walked : (all : List Term) (old new : List Bound) (left right a b : Id) → IsWalked all old left a → IsWalked all old right b → HasSolutions all old new (tree_at all a) (tree_at all b) → HasSolutions all old new (tree_at all left) (tree_at all right)
solutions_walked all old new left right a b from_left from_right h s = (
  λ solves. let both = (h s).0 solves in (both.0, sym (from_left.same s both.0) ∙ (both.1 ∙ from_right.same s both.0)),
  λ both. (h s).1 (both.0, from_left.same s both.0 ∙ (both.1 ∙ sym (from_right.same s both.0))),
)

pub failure_walked : (all : List Term) (old : List Bound) (left right a b : Id) → IsWalked all old left a → IsWalked all old right b → NoUnifier all old (tree_at all a) (tree_at all b) → NoUnifier all old (tree_at all left) (tree_at all right)
failure_walked all old left right a b from_left from_right h s solves e = h s solves (from_left.same s solves ∙ (e ∙ sym (from_right.same s solves)))

-- terms without variables, which are the same or not
pub ground_unified : (all : List Term) (pairs : List Bound) (left right a b : Id) (same : Bool) → IsWalked all pairs left a → IsWalked all pairs right b → is_ground (tree_at all a) ≡ true → is_ground (tree_at all b) ≡ true
    → IsTrue same ↔ (tree_at all a ≡ tree_at all b) → MatchBool same (HasSolutions all pairs pairs (tree_at all left) (tree_at all right)) (NoUnifier all pairs (tree_at all left) (tree_at all right))
ground_unified all pairs left right a b true from_left from_right ground_a ground_b told =
    solutions_walked all pairs pairs left right a b from_left from_right (λ s. (λ solves. (solves, ap (bind s) (told.0 refl)), λ both. both.0))
ground_unified all pairs left right a b false from_left from_right ground_a ground_b told =
    failure_walked all pairs left right a b from_left from_right (λ s solves e. false≢true (told.1 (sym (ground-bind s (tree_at all a) ground_a) ∙ (e ∙ ground-bind s (tree_at all b) ground_b))))

-- the two terms exchanged
pub solutions_flip : (all : List Term) (old new : List Bound) (a b : Term) → HasSolutions all old new a b → HasSolutions all old new b a
solutions_flip all old new a b h s = (λ solves. let both = (h s).0 solves in (both.0, sym both.1), λ both. (h s).1 (both.0, sym both.1))

pub failure_flip : (all : List Term) (old : List Bound) (a b : Term) → NoUnifier all old a b → NoUnifier all old b a
failure_flip all old a b h s solves e = h s solves (sym e)

-- terms that are one already
pub solutions_same : (all : List Term) (old : List Bound) (a b : Term) → ((s : Subst) → Solves s (seen all old) → Unifies s a b) → HasSolutions all old old a b
solutions_same all old a b one s = (λ solves. (solves, one s solves), λ both. both.0)

-- how far the two lists of arguments have come
pub record IsGoing (all : List Term) (old now : List Bound) (set : Memo) (top : ℕ) (xs ys : List Id) (i : ℕ) : Type 0 where
  pub ready : IsReady all now
  pub made : AreMade all now set
  pub grown : Grown all old now
  pub lefts : AreKnown all (drop i xs)
  pub rights : AreKnown all (drop i ys)
  pub lower : heights_of (ranks (seen all old)) all (drop i xs) < top
  pub remains : Remains (λ s. Solves s (seen all now)) (λ s. Solves s (seen all old)) (λ s. under s all) (λ s. under s all) xs ys i

pub going_begins : (all : List Term) (old : List Bound) (set : Memo) (top : ℕ) (xs ys : List Id) → IsReady all old → AreMade all old set → AreKnown all xs → AreKnown all ys
    → heights_of (ranks (seen all old)) all xs < top → IsGoing all old old set top xs ys 0
going_begins all old set top xs ys ready made lefts rights lower = record {
  ready = ready;
  made = made;
  grown = Grown-refl all old;
  lefts = lefts;
  rights = rights;
  lower = lower;
  remains = remains_begins (λ s. under s all) (λ s. under s all) (λ s. Solves s (seen all old)) xs ys;
}

pub going_on : (all : List Term) (old now next : List Bound) (set after : Memo) (top : ℕ) (xs ys : List Id) (i : ℕ) (d : Id) → IsGoing all old now set top xs ys i
    → i < length xs → i < length ys → IsReady all next → AreMade all next after → Grown all now next
    → HasSolutions all now next (tree_at all (get_or xs i d)) (tree_at all (get_or ys i d)) → IsGoing all old next after top xs ys (i + 1)
going_on all old now next set after top xs ys i d was in_xs in_ys ready made grown step = record {
  ready = ready;
  made = made;
  grown = Grown-trans all old now next was.grown grown;
  lefts = (known-at all xs i d in_xs was.lefts).1;
  rights = (known-at all ys i d in_ys was.rights).1;
  lower = let at = height-at (ranks (seen all old)) all xs i d in_xs in let less = at.1 in let lower = was.lower in omega arith;
  remains = remains_next (λ s. under s all) (λ s. under s all) (λ s. Solves s (seen all next)) (λ s. Solves s (seen all now)) (λ s. Solves s (seen all old)) xs ys i d in_xs in_ys step was.remains;
}

-- two applications: what their arguments give
pub applications_fail : (all : List Term) (old : List Bound) (a b : Id) (f g : Sym) (xs ys : List Id) → tree_at all a ≡ node f (map (tree_at all) xs) → tree_at all b ≡ node g (map (tree_at all) ys)
    → ((s : Subst) → Solves s (seen all old) → (f ≡ g) × AreOne (under s all) (under s all) xs ys × (length xs ≡ length ys) → ⊥) → NoUnifier all old (tree_at all a) (tree_at all b)
applications_fail all old a b f g xs ys is_a is_b never s solves e =
    never s solves (node_one (under s all) (under s all) f g xs ys (sym (bind-application s all a f xs is_a) ∙ (e ∙ bind-application s all b g ys is_b)))

pub going_fails : (all : List Term) (old now : List Bound) (set : Memo) (top : ℕ) (a b : Id) (f g : Sym) (xs ys : List Id) (i : ℕ) (d : Id)
    → tree_at all a ≡ node f (map (tree_at all) xs) → tree_at all b ≡ node g (map (tree_at all) ys) → IsGoing all old now set top xs ys i → i < length xs → i < length ys
    → NoUnifier all now (tree_at all (get_or xs i d)) (tree_at all (get_or ys i d)) → NoUnifier all old (tree_at all a) (tree_at all b)
going_fails all old now set top a b f g xs ys i d is_a is_b was in_xs in_ys never =
    applications_fail all old a b f g xs ys is_a is_b (λ s solves parts. remains_fails (λ r. under r all) (λ r. under r all) (λ r. Solves r (seen all now)) (λ r. Solves r (seen all old)) xs ys i d in_xs in_ys never was.remains s solves parts.1)

pub going_ends : (all : List Term) (old now : List Bound) (set : Memo) (top : ℕ) (a b : Id) (f g : Sym) (xs ys : List Id) (i : ℕ)
    → tree_at all a ≡ node f (map (tree_at all) xs) → tree_at all b ≡ node g (map (tree_at all) ys) → f ≡ g → length xs ≡ length ys → IsGoing all old now set top xs ys i → length xs ≤ i
    → HasSolutions all old now (tree_at all a) (tree_at all b)
going_ends all old now set top a b f g xs ys i is_a is_b same even was past s =
    let ends = remains_ends (λ r. under r all) (λ r. under r all) (λ r. Solves r (seen all now)) (λ r. Solves r (seen all old)) xs ys i past (omega arith) was.remains s in (
      λ solves. let both = ends.0 solves in (both.0, bind-application s all a f xs is_a ∙ (one_node (under s all) (under s all) f xs ys both.1 ∙ (ap (λ h. node h (map (under s all) ys)) same ∙ sym (bind-application s all b g ys is_b)))),
      λ both. ends.1 (both.0, (node_one (under s all) (under s all) f g xs ys (sym (bind-application s all a f xs is_a) ∙ (both.1 ∙ bind-application s all b g ys is_b))).1),
    )

-- two applications of one symbol without arguments
pub constants_same : (all : List Term) (old : List Bound) (a b : Id) (f g : Sym) (xs ys : List Id) → IsReady all old → tree_at all a ≡ node f (map (tree_at all) xs) → tree_at all b ≡ node g (map (tree_at all) ys)
    → f ≡ g → length xs ≡ length ys → length xs ≡ 0 → HasSolutions all old old (tree_at all a) (tree_at all b)
constants_same all old a b f g [] [] ready is_a is_b same even empty = solutions_same all old (tree_at all a) (tree_at all b) (λ s solves. ap (bind s) (is_a ∙ (ap (λ h. node h []) same ∙ sym is_b)))
constants_same all old a b f g [] (y ∷ ys) ready is_a is_b same even empty = absurd (omega arith)
constants_same all old a b f g (x ∷ xs) ys ready is_a is_b same even empty = absurd (omega arith)

-- lists that were gone along item by item
pub all_gone : (all : List Term) (old now : List Bound) (set : Memo) (top : ℕ) (xs ys : List Id) (i : ℕ) → length xs ≡ length ys → IsGoing all old now set top xs ys i → length xs ≤ i
    → HasAllSolutions all old now (map (tree_at all) xs) (map (tree_at all) ys)
all_gone all old now set top xs ys i even was past s =
    let ends = remains_ends (λ r. under r all) (λ r. under r all) (λ r. Solves r (seen all now)) (λ r. Solves r (seen all old)) xs ys i past (omega arith) was.remains s in (
      λ solves. let both = ends.0 solves in (both.0, one_lists s all xs ys both.1),
      λ both. ends.1 (both.0, lists_one s all xs ys both.1),
    )

pub all_fail : (all : List Term) (old now : List Bound) (set : Memo) (top : ℕ) (xs ys : List Id) (i : ℕ) (d : Id) → IsGoing all old now set top xs ys i → i < length xs → i < length ys
    → NoUnifier all now (tree_at all (get_or xs i d)) (tree_at all (get_or ys i d)) → NoUnifierOfAll all old (map (tree_at all) xs) (map (tree_at all) ys)
all_fail all old now set top xs ys i d was in_xs in_ys never s solves one =
    remains_fails (λ r. under r all) (λ r. under r all) (λ r. Solves r (seen all now)) (λ r. Solves r (seen all old)) xs ys i d in_xs in_ys never was.remains s solves (lists_one s all xs ys one)

-- what the public answer says more
pub unified_all : (all : List Term) (old new : List Bound) (xs ys : List Term) → IsReady all new → Grown all old new → HasAllSolutions all old new xs ys → UnifiedAll all old new xs ys
unified_all all old new xs ys ready grown h = record {
  extends = grown.extends;
  mgu = resolved-most_general (λ r. Solves r (seen all old) × UnifiesAll r xs ys) (seen all new) (IsReady-sound all new ready) (λ s. ((h s).0, (h s).1));
  solutions = h;
}

-- what the public answer says more
pub unified : (all : List Term) (old new : List Bound) (a b : Term) → IsReady all new → Grown all old new → HasSolutions all old new a b → Unified all old new a b
unified all old new a b ready grown h = record {
  extends = grown.extends;
  mgu = resolved-most_general (λ r. Solves r (seen all old) × Unifies r a b) (seen all new) (IsReady-sound all new ready) (λ s. ((h s).0, (h s).1));
  solutions = h;
}

-- an outcome for a variable and the end of a walk is one for the beginnings
pub variable_left : {E : Type 0} (all : List Term) (old new : List Bound) (left right a b : Id) (y x : ℕ) (r : Result Bool E) → IsWalked all old left a → IsWalked all old right b → tree_at all a ≡ Leaf y
    → IfOk r (λ found. MatchBool found (HasSolutions all old new (Leaf x) (tree_at all b)) (NoUnifier all old (Leaf x) (tree_at all b))) → y ≡ x
    → IfOk r (λ found. MatchBool found (HasSolutions all old new (tree_at all left) (tree_at all right)) (NoUnifier all old (tree_at all left) (tree_at all right)))
variable_left all old new left right a b y x (Ok true) from_left from_right is h same = solutions_walked all old new left right a b from_left from_right (subst (λ (t : Term). HasSolutions all old new t (tree_at all b)) (sym (is ∙ ap Leaf same)) h)
variable_left all old new left right a b y x (Ok false) from_left from_right is h same = failure_walked all old left right a b from_left from_right (subst (λ (t : Term). NoUnifier all old t (tree_at all b)) (sym (is ∙ ap Leaf same)) h)
variable_left all old new left right a b y x (Err e) from_left from_right is h same = tt

pub variable_right : {E : Type 0} (all : List Term) (old new : List Bound) (left right a b : Id) (y : ℕ) (r : Result Bool E) → IsWalked all old left a → IsWalked all old right b → tree_at all b ≡ Leaf y
    → IfOk r (λ found. MatchBool found (HasSolutions all old new (Leaf y) (tree_at all a)) (NoUnifier all old (Leaf y) (tree_at all a)))
    → IfOk r (λ found. MatchBool found (HasSolutions all old new (tree_at all left) (tree_at all right)) (NoUnifier all old (tree_at all left) (tree_at all right)))
variable_right all old new left right a b y (Ok true) from_left from_right is h = solutions_walked all old new left right a b from_left from_right (solutions_flip all old new (tree_at all b) (tree_at all a) (subst (λ (t : Term). HasSolutions all old new t (tree_at all a)) (sym is) h))
variable_right all old new left right a b y (Ok false) from_left from_right is h = failure_walked all old left right a b from_left from_right (failure_flip all old (tree_at all b) (tree_at all a) (subst (λ (t : Term). NoUnifier all old t (tree_at all a)) (sym is) h))
variable_right all old new left right a b y (Err e) from_left from_right is h = tt
