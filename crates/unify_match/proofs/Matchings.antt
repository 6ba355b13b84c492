-- The steps of matching.
use Rattle.std.proofs.Common.{◌≡◌, ◌↔◌, ℕ, IsTrue, MatchBool, ◌+◌, ◌≤◌, ◌<◌, Bool, true, false, ◌||◌, cond, nat_eq, is_some, Some, List, [], ◌∷◌, length, map, drop, get_or, refl, sym, ap, ◌∙◌, arith, eqb-true}
use Rattle.std.specs.List.{list_any}
use Rattle.std.proofs.Math.Bool.{or_assoc, or-false}
use Rattle.std.proofs.lemmas.Bool.{false≢true}
use Rattle.spec_trees.specs.Tree.{Leaf, node}
use Rattle.spec_terms.specs.Term.{Sym, Term, Subst, has_var, is_ground}
use Rattle.spec_terms.specs.Binding.{Agrees, replaced_once}
use Rattle.spec_terms.specs.Rank.{height}
use Rattle.spec_terms.proofs.Matches.{Agrees-at, replaced-agrees}
use Rattle.spec_terms.proofs.Ground.{ground-has_var, ground-bind}
use Rattle.term_tree.specs.Bank.{tree_at, AreKnown}
use Rattle.term_tree.specs.declared.bank.Id.{Id}
use Rattle.term_tree.proofs.BankLaws.{known-at, ids_at, ids_past}
use Rattle.unify_match.specs.declared.bound.Bound.{Bound}
use Rattle.unify_match.specs.Trail.{id_of, Extends}
use Rattle.unify_match.specs.Seen.{seen, AreBindings}
use Rattle.unify_match.specs.Outcome.{Matched, NoMatch, MatchedAll, NoMatchOfAll}
use Rattle.unify_match.specs.Progress.{HasMatches, HasAllMatches}
use Rattle.unify_match.proofs.SeenLemmas.{bound_to-seen}
use Rattle.unify_match.proofs.Trails.{Extends-refl, Extends-trans}
use Rattle.unify_match.proofs.Walking.{heights_of, height-at}
use Rattle.unify_match.proofs.Pairs.{AreOne, under, Remains, remains_begins, remains_next, remains_fails, remains_ends, node_one, one_node, matched_lists, lists_matched, bind-application}

-- the height where each variable counts one
abbrev pub levels : Term → ℕ
levels t = height (λ x. 1) t

-- whether a variable that is bound once more is bound
pub is_bound : (pairs : List Bound) (b : Bound) (x : ℕ) → is_some (id_of (b ∷ pairs) x) ≡ (is_some (id_of pairs x) || nat_eq x b.var)
is_bound pairs b x = go (nat_eq x b.var) refl (is_some (id_of pairs x)) refl where
  go : (c : Bool) → nat_eq x b.var ≡ c → (d : Bool) → is_some (id_of pairs x) ≡ d → is_some (cond (nat_eq x b.var) (Some b.id) (id_of pairs x)) ≡ (is_some (id_of pairs x) || nat_eq x b.var)
  go true p true q = rw p (rw q refl)
  go true p false q = rw p (rw q refl)
  go false p true q = rw p (rw q refl)
  go false p false q = rw p (rw q refl)

pub matches_bind : (all : List Term) (pairs : List Bound) (b : Bound) → HasMatches all pairs (b ∷ pairs) (Leaf b.var) (tree_at all b.id)
matches_bind all pairs b = record { exactly = is_bound pairs b; only = λ s. (λ h. (h.1, h.0), λ h. (h.1, h.0)) }

-- a term without variables, which is the special one or not
pub matches_ground : (all : List Term) (pairs : List Bound) (general special : Id) (same : Bool) → is_ground (tree_at all general) ≡ true → IsTrue same ↔ (tree_at all general ≡ tree_at all special)
    → MatchBool same (HasMatches all pairs pairs (tree_at all general) (tree_at all special)) (NoMatch all pairs (tree_at all general) (tree_at all special))
matches_ground all pairs general special true ground told = record {
  exactly = λ x. sym (ap (λ b. is_some (id_of pairs x) || b) (ground-has_var (tree_at all general) ground x) ∙ or-false (is_some (id_of pairs x)));
  only = λ s. (λ h. (h, ground-bind s (tree_at all general) ground ∙ told.0 refl), λ h. h.0);
}
matches_ground all pairs general special false ground told = λ s agrees e. false≢true (told.1 (sym (ground-bind s (tree_at all general) ground) ∙ e))

-- a variable that is bound already, to the special term
pub matches_bound : (all : List Term) (pairs : List Bound) (x : ℕ) (id special : Id) → id_of pairs x ≡ Some id → tree_at all id ≡ tree_at all special → HasMatches all pairs pairs (Leaf x) (tree_at all special)
matches_bound all pairs x id special e same = record {
  exactly = λ y. at y (nat_eq y x) refl (is_some (id_of pairs y)) refl;
  only = λ s. (λ h. (h, Agrees-at s (seen all pairs) x (tree_at all id) h (bound_to-seen all pairs x id e) ∙ same), λ h. h.0);
} where
  at : (y : ℕ) (c : Bool) → nat_eq y x ≡ c → (d : Bool) → is_some (id_of pairs y) ≡ d → is_some (id_of pairs y) ≡ (is_some (id_of pairs y) || nat_eq y x)
  at y c p true q = rw q refl
  at y true p false q = let is : is_some (id_of pairs y) ≡ true = ap (λ v. is_some (id_of pairs v)) (eqb-true y x p) ∙ ap is_some e in cc
  at y false p false q = rw q (rw p refl)

-- and to another term
pub matches_other : (all : List Term) (pairs : List Bound) (x : ℕ) (id special : Id) → id_of pairs x ≡ Some id → (tree_at all id ≡ tree_at all special → ⊥) → NoMatch all pairs (Leaf x) (tree_at all special)
matches_other all pairs x id special e differ s agrees is = differ (sym (Agrees-at s (seen all pairs) x (tree_at all id) agrees (bound_to-seen all pairs x id e)) ∙ is)

-- whether a variable stands in one of the ids' trees
abbrev pub some_stands : ℕ → List Term → List Id → Bool
some_stands x all [] = false
some_stands x all (id ∷ ids) = has_var x (tree_at all id) || some_stands x all ids

pub some_stands-node : (x : ℕ) (all : List Term) (f : Sym) (ids : List Id) → has_var x (node f (map (tree_at all) ids)) ≡ some_stands x all ids
some_stands-node x all f [] = refl
some_stands-node x all f (id ∷ ids) = ap (λ b. has_var x (tree_at all id) || b) (some_stands-node x all f ids)

pub some_stands-any : (x : ℕ) (all : List Term) (ids : List Id) → some_stands x all ids ≡ list_any (has_var x) (map (tree_at all) ids)
some_stands-any x all [] = refl
some_stands-any x all (id ∷ ids) = ap (λ b. has_var x (tree_at all id) || b) (some_stands-any x all ids)

-- how far the two lists of arguments have come
pub record IsMatching (all : List Term) (old now : List Bound) (top : ℕ) (xs ys : List Id) (i : ℕ) : Type 0 where
  pub bindings : AreBindings all now
  pub extends : Extends old now
  pub lefts : AreKnown all (drop i xs)
  pub rights : AreKnown all (drop i ys)
  pub lower : heights_of (λ x. 1) all (drop i xs) < top
  pub bound : (x : ℕ) → (is_some (id_of now x) || some_stands x all (drop i xs)) ≡ (is_some (id_of old x) || some_stands x all xs)
  pub remains : Remains (λ s. Agrees s (seen all now)) (λ s. Agrees s (seen all old)) (λ s. under s all) (λ s. tree_at all) xs ys i

pub matching_begins : (all : List Term) (old : List Bound) (top : ℕ) (xs ys : List Id) → AreBindings all old → AreKnown all xs → AreKnown all ys → heights_of (λ x. 1) all xs < top → IsMatching all old old top xs ys 0
matching_begins all old top xs ys bindings lefts rights lower = record {
  bindings = bindings;
  extends = Extends-refl old;
  lefts = lefts;
  rights = rights;
  lower = lower;
  bound = λ x. refl;
  remains = remains_begins (λ s. under s all) (λ s. tree_at all) (λ s. Agrees s (seen all old)) xs ys;
}

pub matching_on : (all : List Term) (old now next : List Bound) (top : ℕ) (xs ys : List Id) (i : ℕ) (d : Id) → IsMatching all old now top xs ys i → i < length xs → i < length ys
    → AreBindings all next → Extends now next → HasMatches all now next (tree_at all (get_or xs i d)) (tree_at all (get_or ys i d)) → IsMatching all old next top xs ys (i + 1)
matching_on all old now next top xs ys i d was in_xs in_ys bindings extends step = record {
  bindings = bindings;
  extends = Extends-trans old now next was.extends extends;
  lefts = (known-at all xs i d in_xs was.lefts).1;
  rights = (known-at all ys i d in_ys was.rights).1;
  lower = let at = height-at (λ x. 1) all xs i d in_xs in let less = at.1 in let lower = was.lower in omega arith;
  bound = λ x. ap (λ b. b || some_stands x all (drop (i + 1) xs)) (step.exactly x)
      ∙ (or_assoc (is_some (id_of now x)) (has_var x (tree_at all (get_or xs i d))) (some_stands x all (drop (i + 1) xs))
      ∙ (ap (λ l. is_some (id_of now x) || some_stands x all l) (sym (ids_at xs i d in_xs)) ∙ was.bound x));
  remains = remains_next (λ s. under s all) (λ s. tree_at all) (λ s. Agrees s (seen all next)) (λ s. Agrees s (seen all now)) (λ s. Agrees s (seen all old)) xs ys i d in_xs in_ys step.only was.remains;
}

-- two applications
pub match_applications_fail : (all : List Term) (old : List Bound) (a b : Id) (f g : Sym) (xs ys : List Id) → tree_at all a ≡ node f (map (tree_at all) xs) → tree_at all b ≡ node g (map (tree_at all) ys)
    → ((s : Subst) → Agrees s (seen all old) → (f ≡ g) × AreOne (under s all) (tree_at all) xs ys × (length xs ≡ length ys) → ⊥) → NoMatch all old (tree_at all a) (tree_at all b)
match_applications_fail all old a b f g xs ys is_a is_b never s agrees e = never s agrees (node_one (under s all) (tree_at all) f g xs ys (sym (bind-application s all a f xs is_a) ∙ (e ∙ is_b)))

pub matching_fails : (all : List Term) (old now : List Bound) (top : ℕ) (a b : Id) (f g : Sym) (xs ys : List Id) (i : ℕ) (d : Id)
    → tree_at all a ≡ node f (map (tree_at all) xs) → tree_at all b ≡ node g (map (tree_at all) ys) → IsMatching all old now top xs ys i → i < length xs → i < length ys
    → NoMatch all now (tree_at all (get_or xs i d)) (tree_at all (get_or ys i d)) → NoMatch all old (tree_at all a) (tree_at all b)
matching_fails all old now top a b f g xs ys i d is_a is_b was in_xs in_ys never =
    match_applications_fail all old a b f g xs ys is_a is_b (λ s agrees parts. remains_fails (λ r. under r all) (λ r. tree_at all) (λ r. Agrees r (seen all now)) (λ r. Agrees r (seen all old)) xs ys i d in_xs in_ys never was.remains s agrees parts.1)

pub matching_ends : (all : List Term) (old now : List Bound) (top : ℕ) (a b : Id) (f g : Sym) (xs ys : List Id) (i : ℕ)
    → tree_at all a ≡ node f (map (tree_at all) xs) → tree_at all b ≡ node g (map (tree_at all) ys) → f ≡ g → length xs ≡ length ys → IsMatching all old now top xs ys i → length xs ≤ i
    → HasMatches all old now (tree_at all a) (tree_at all b)
matching_ends all old now top a b f g xs ys i is_a is_b same even was past = record {
  exactly = λ x.
      let rest : some_stands x all (drop i xs) ≡ false = ap (some_stands x all) (ids_past xs i past) in
      sym (or-false (is_some (id_of now x))) ∙ (ap (λ b. is_some (id_of now x) || b) (sym rest) ∙ (was.bound x
      ∙ ap (λ b. is_some (id_of old x) || b) (sym (some_stands-node x all f xs) ∙ ap (has_var x) (sym is_a))));
  only = λ s.
      let ends = remains_ends (λ r. under r all) (λ r. tree_at all) (λ r. Agrees r (seen all now)) (λ r. Agrees r (seen all old)) xs ys i past (omega arith) was.remains s in (
        λ agrees. let both = ends.0 agrees in (both.0, bind-application s all a f xs is_a ∙ (one_node (under s all) (tree_at all) f xs ys both.1 ∙ (ap (λ h. node h (map (tree_at all) ys)) same ∙ sym is_b))),
        λ both. ends.1 (both.0, (node_one (under s all) (tree_at all) f g xs ys (sym (bind-application s all a f xs is_a) ∙ (both.1 ∙ is_b))).1),
      );
}

-- lists that were gone along item by item
pub all_matched : (all : List Term) (old now : List Bound) (top : ℕ) (xs ys : List Id) (i : ℕ) → length xs ≡ length ys → IsMatching all old now top xs ys i → length xs ≤ i
    → HasAllMatches all old now (map (tree_at all) xs) (map (tree_at all) ys)
all_matched all old now top xs ys i even was past = record {
  exactly = λ x.
      let rest : some_stands x all (drop i xs) ≡ false = ap (some_stands x all) (ids_past xs i past) in
      sym (or-false (is_some (id_of now x))) ∙ (ap (λ b. is_some (id_of now x) || b) (sym rest) ∙ (was.bound x ∙ ap (λ b. is_some (id_of old x) || b) (some_stands-any x all xs)));
  only = λ s.
      let ends = remains_ends (λ r. under r all) (λ r. tree_at all) (λ r. Agrees r (seen all now)) (λ r. Agrees r (seen all old)) xs ys i past (omega arith) was.remains s in (
        λ agrees. let both = ends.0 agrees in (both.0, matched_lists s all xs ys both.1),
        λ both. ends.1 (both.0, lists_matched s all xs ys both.1),
      );
}

pub all_fail : (all : List Term) (old now : List Bound) (top : ℕ) (xs ys : List Id) (i : ℕ) (d : Id) → IsMatching all old now top xs ys i → i < length xs → i < length ys
    → NoMatch all now (tree_at all (get_or xs i d)) (tree_at all (get_or ys i d)) → NoMatchOfAll all old (map (tree_at all) xs) (map (tree_at all) ys)
all_fail all old now top xs ys i d was in_xs in_ys never s agrees one =
    remains_fails (λ r. under r all) (λ r. tree_at all) (λ r. Agrees r (seen all now)) (λ r. Agrees r (seen all old)) xs ys i d in_xs in_ys never was.remains s agrees (lists_matched s all xs ys one)

-- what the public answer says more
pub matched_all : (all : List Term) (old new : List Bound) (generals specials : List Term) → AreBindings all new → Extends old new → HasAllMatches all old new generals specials → MatchedAll all old new generals specials
matched_all all old new generals specials bindings extends h = record {
  extends = extends;
  exactly = h.exactly;
  only = h.only;
  is_match = ((h.only (replaced_once (seen all new))).0 (replaced-agrees (seen all new) bindings.once)).1;
}

-- what the public answer says more
pub matched : (all : List Term) (old new : List Bound) (general special : Term) → AreBindings all new → Extends old new → HasMatches all old new general special → Matched all old new general special
matched all old new general special bindings extends h = record {
  extends = extends;
  exactly = h.exactly;
  only = h.only;
  is_match = ((h.only (replaced_once (seen all new))).0 (replaced-agrees (seen all new) bindings.once)).1;
}
