-- Constraints set apart, and constraints made one by one.
use Rattle.std.proofs.Common.{◌≡◌, ℕ, ◌+◌, ◌-◌, ◌<◌, ◌≤◌, Bool, true, false, cond, List, [], ◌∷◌, ◌++◌, length, map, flat_map, take, get_or, refl, ap, sym, ◌∙◌, subst, arith, lt-ltb, le-ltb}
use Rattle.std.specs.Prelude.{nat_lt}
use Rattle.std.specs.List.{AllByRecursion}
use Rattle.std.proofs.lemmas.Bool.{ltb-true, ltb-false}
use Rattle.std.proofs.lemmas.List.{map_more, take_all}
use Rattle.std.proofs.lemmas.List.Concat.{flat_map-append}
use Rattle.std.proofs.lemmas.Simd.{map-map}
use Rattle.spec_trees.specs.Tree.{Leaf, bind, after}
use Rattle.spec_trees.specs.Leaves.{leaves}
use Rattle.spec_terms.specs.Term.{Term, Subst}
use Rattle.spec_terms.specs.Unifier.{moved}
use Rattle.spec_calculus.specs.Bounds.{most_symbols}
use Rattle.spec_clauses.specs.Diff.{Own, Bound, Diff, slot_under, diff_under}
use Rattle.spec_clauses.specs.Shown.{Shown, slot_shown, diff_shown, shown_variables}
use Rattle.spec_clauses.specs.Variables.{AreBelow}
use Rattle.spec_clauses.proofs.Diffs.{maps_after, maps-alike}
use Rattle.spec_clauses.proofs.Lists.{all_first, all_second, all_append, all_weaker}
use Rattle.term_tree.specs.Bank.{tree_at, Grows}
use Rattle.term_tree.specs.declared.bank.Id.{Id}
use Rattle.term_tree.proofs.BankLaws.{Grows_refl, Grows_trans, trees_at-grow}
use Rattle.clause_diffs.specs.Diffs.{DiffOf, shown_at, diff_at, diffs_at, IsDiffIn, AreDiffLeavesBelow, NameTerms, NamesDiff, NameDiffs}
use Rattle.clause_diffs.proofs.Below.{left_below, right_below, sides_below, diffs_below-grow}
use Rattle.clause_diffs.proofs.Naming.{NameTerms-grows, diff_at-grows, NameDiffs-grows, NameDiffs-push}
use Rattle.clause_resolve.specs.Low.{AreDiffsBelow, bound_from}
use Rattle.clause_resolve.proofs.Low.{moved_below}

-- a constraint over ids from its parts
abbrev pub diff_of_parts : ℕ → List Id → List Id → DiffOf Id
diff_of_parts first left right = record { first = first; left = left; right = right }

-- From `next` on a constraint binds variables whose variables are raised by n, where they are below n.
pub record IsRaised (n first next : ℕ) : Type 0 where
  pub own : (x : ℕ) → x < n → x < first → x + n < next
  pub bound : (x : ℕ) → x < n → first ≤ x → next ≡ first + n

module _ (n first next : ℕ) (raised : IsRaised n first next) where
  moved_slot : (x : ℕ) → x < n → after (λ y. Leaf (slot_shown next y)) (moved n) x ≡ after (slot_under (moved n)) (λ y. Leaf (slot_shown first y)) x
  moved_slot x less = go (nat_lt x first) refl where
    go : (b : Bool) → nat_lt x first ≡ b → bind (λ y. Leaf (slot_shown next y)) (moved n x) ≡ bind (slot_under (moved n)) (Leaf (cond b (Own x) (Bound (x - first))))
    go true e = let low = raised.own x less (ltb-true x first e) in ap (λ b. Leaf (cond b (Own (x + n)) (Bound ((x + n) - next)))) (lt-ltb (x + n) next low)
    go false e =
        let over : first ≤ x = ltb-false x first e in
        let ends : next ≡ first + n = raised.bound x less over in
        let above : next ≤ x + n = omega arith in
        let back : (x + n) - next ≡ x - first = omega arith in
        ap (λ b. Leaf (cond b (Own (x + n)) (Bound ((x + n) - next)))) (le-ltb (x + n) next above) ∙ ap (λ i. Leaf (Bound i)) back

  moved_sides : (ts : List Term) → AllByRecursion (λ x. x < n) (flat_map leaves ts) → map (bind (λ y. Leaf (slot_shown next y))) (map (bind (moved n)) ts) ≡ map (bind (slot_under (moved n))) (map (bind (λ y. Leaf (slot_shown first y))) ts)
  moved_sides ts below =
      maps_after (λ y. Leaf (slot_shown next y)) (moved n) ts
      ∙ (maps-alike (after (λ y. Leaf (slot_shown next y)) (moved n)) (after (slot_under (moved n)) (λ y. Leaf (slot_shown first y))) ts
      (all_weaker (λ x. x < n) (λ x. after (λ y. Leaf (slot_shown next y)) (moved n) x ≡ after (slot_under (moved n)) (λ y. Leaf (slot_shown first y)) x) moved_slot (flat_map leaves ts) below)
      ∙ sym (maps_after (slot_under (moved n)) (λ y. Leaf (slot_shown first y)) ts))

-- So it is the constraint with the clause's variables raised by n.
shown-moved : (n next : ℕ) (d : Shown) → IsRaised n d.first next → AllByRecursion (λ x. x < n) (shown_variables d) → diff_shown record { first = next; left = map (bind (moved n)) d.left; right = map (bind (moved n)) d.right } ≡ diff_under (moved n) (diff_shown d)
shown-moved n next d raised below =
    let apart = subst (AllByRecursion (λ x. x < n)) (flat_map-append leaves d.left d.right) below in
    let left = all_first (λ x. x < n) (flat_map leaves d.left) (flat_map leaves d.right) apart in
    let right = all_second (λ x. x < n) (flat_map leaves d.left) (flat_map leaves d.right) apart in
    λ i. record { left = moved_sides n d.first next raised d.left left i; right = moved_sides n d.first next raised d.right right i }

-- The constraint over ids of the terms that are set apart, and the numbers of its variables.
pub record IsDiffMoved (old new : List Term) (d made : DiffOf Id) : Type 0 where
  pub names : NamesDiff new made (diff_under (moved most_symbols) (diff_at old d))
  pub below : AreDiffLeavesBelow bound_from new made

diff_moved : (old mid new : List Term) (d : DiffOf Id) (next : ℕ) (left right : List Id) → IsDiffIn old d → AreDiffLeavesBelow most_symbols old d → Grows old mid → Grows mid new → IsRaised most_symbols d.first next
    → NameTerms mid left (map (bind (moved most_symbols)) (map (tree_at old) d.left)) → NameTerms new right (map (bind (moved most_symbols)) (map (tree_at mid) d.right)) → IsDiffMoved old new d (diff_of_parts next left right)
diff_moved old mid new d next left right known below to_mid to_new raised lefts rights =
    let l = NameTerms-grows mid new left (map (bind (moved most_symbols)) (map (tree_at old) d.left)) to_new lefts in
    let r : map (tree_at new) right ≡ map (bind (moved most_symbols)) (map (tree_at old) d.right) = rights.are ∙ ap (map (bind (moved most_symbols))) (trees_at-grow old mid d.right to_mid known.right) in
    record {
      names = record {
        known = record { left = l.known; right = rights.known };
        is = (λ i. diff_shown record { first = next; left = l.are i; right = r i }) ∙ shown-moved most_symbols next (shown_at old d) raised below;
      };
      below = sides_below bound_from new (diff_of_parts next left right)
          (subst (λ (ts : List Term). AreBelow bound_from ts) (sym l.are) (moved_below most_symbols most_symbols (map (tree_at old) d.left) (left_below most_symbols old d below)))
          (subst (λ (ts : List Term). AreBelow bound_from ts) (sym r) (moved_below most_symbols most_symbols (map (tree_at old) d.right) (right_below most_symbols old d below)));
    }

-- the same where the parts of the constraint are given
pub diff_moved_as : (old mid new : List Term) (first : ℕ) (lefts rights : List Id) (d : DiffOf Id) (next : ℕ) (left right : List Id) → diff_of_parts first lefts rights ≡ d → IsDiffIn old d → AreDiffLeavesBelow most_symbols old d → Grows old mid → Grows mid new → IsRaised most_symbols first next
    → NameTerms mid left (map (bind (moved most_symbols)) (map (tree_at old) lefts)) → NameTerms new right (map (bind (moved most_symbols)) (map (tree_at mid) rights)) → IsDiffMoved old new d (diff_of_parts next left right)
diff_moved_as old mid new first lefts rights d next left right is known below to_mid to_new raised lefts_named rights_named =
    let e = diff_of_parts first lefts rights in
    subst (λ (x : DiffOf Id). IsDiffMoved old new x (diff_of_parts next left right)) is
    (diff_moved old mid new e next left right (subst (λ (x : DiffOf Id). IsDiffIn old x) (sym is) known) (subst (λ (x : DiffOf Id). AreDiffLeavesBelow most_symbols old x) (sym is) below) to_mid to_new raised lefts_named rights_named)

-- How far constraints are made what they are under s.
pub record AreDiffsUnder (old now : List Term) (s : Subst) (ds : List (DiffOf Id)) (i : ℕ) (made : List (DiffOf Id)) : Type 0 where
  pub grows : Grows old now
  pub names : NameDiffs now made (map (λ d. diff_under s (diff_at old d)) (take i ds))

pub diffs_under_none : (old : List Term) (s : Subst) (ds made : List (DiffOf Id)) → made ≡ [] → AreDiffsUnder old old s ds 0 made
diffs_under_none old s ds made e = subst (λ (l : List (DiffOf Id)). AreDiffsUnder old old s ds 0 l) (sym e) record { grows = Grows_refl old; names = record { known = tt; are = refl } }

pub diffs_under_on : (old now next : List Term) (s : Subst) (ds : List (DiffOf Id)) (i : ℕ) (d : DiffOf Id) (made new : List (DiffOf Id)) (e : DiffOf Id) → AreDiffsUnder old now s ds i made → i < length ds → d ≡ get_or ds i d → IsDiffIn old d → Grows now next
    → NamesDiff next e (diff_under s (diff_at now d)) → new ≡ made ++ e ∷ [] → AreDiffsUnder old next s ds (i + 1) new
diffs_under_on old now next s ds i d made new e was within is known grows names pushed =
    let under : DiffOf Id → Diff = λ x. diff_under s (diff_at old x) in
    let same : diff_under s (diff_at now d) ≡ under d = ap (diff_under s) (diff_at-grows old now d was.grows known) in
    let more : map under (take (i + 1) ds) ≡ map under (take i ds) ++ diff_under s (diff_at now d) ∷ [] =
    map_more under ds i d within ∙ (ap (λ x. map under (take i ds) ++ under x ∷ []) (sym is) ∙ ap (λ t. map under (take i ds) ++ t ∷ []) (sym same)) in
    record {
      grows = Grows_trans old now next was.grows grows;
      names = subst (λ (l : List (DiffOf Id)). NameDiffs next l (map under (take (i + 1) ds))) (sym pushed)
          (subst (λ (l : List Diff). NameDiffs next (made ++ e ∷ []) l) (sym more) (NameDiffs-push next made (map under (take i ds)) e (diff_under s (diff_at now d)) (NameDiffs-grows now next made (map under (take i ds)) grows was.names) names));
    }

pub diffs_under_all : (old now : List Term) (s : Subst) (ds : List (DiffOf Id)) (i : ℕ) (made : List (DiffOf Id)) → AreDiffsUnder old now s ds i made → length ds ≤ i → NameDiffs now made (map (diff_under s) (diffs_at old ds))
diffs_under_all old now s ds i made was past =
    let whole : map (λ d. diff_under s (diff_at old d)) (take i ds) ≡ map (diff_under s) (diffs_at old ds) = ap (map (λ d. diff_under s (diff_at old d))) (take_all i ds past) ∙ sym (map-map (diff_under s) (diff_at old) ds) in
    subst (λ (l : List Diff). NameDiffs now made l) whole was.names

-- How far constraints are set apart.
pub record AreDiffsMoved (old now : List Term) (ds : List (DiffOf Id)) (i : ℕ) (made : List (DiffOf Id)) : Type 0 where
  pub done : AreDiffsUnder old now (moved most_symbols) ds i made
  pub below : AreDiffsBelow bound_from now made

pub diffs_moved_none : (old : List Term) (ds made : List (DiffOf Id)) → made ≡ [] → AreDiffsMoved old old ds 0 made
diffs_moved_none old ds made e = record { done = diffs_under_none old (moved most_symbols) ds made e; below = subst (λ (l : List (DiffOf Id)). AreDiffsBelow bound_from old l) (sym e) tt }

pub diffs_moved_on : (old now next : List Term) (ds : List (DiffOf Id)) (i : ℕ) (d : DiffOf Id) (made new : List (DiffOf Id)) (e : DiffOf Id) → AreDiffsMoved old now ds i made → i < length ds → d ≡ get_or ds i d → IsDiffIn old d → Grows now next
    → NamesDiff next e (diff_under (moved most_symbols) (diff_at now d)) → AreDiffLeavesBelow bound_from next e → new ≡ made ++ e ∷ [] → AreDiffsMoved old next ds (i + 1) new
diffs_moved_on old now next ds i d made new e was within is known grows names below pushed = record {
  done = diffs_under_on old now next (moved most_symbols) ds i d made new e was.done within is known grows names pushed;
  below = subst (λ (l : List (DiffOf Id)). AreDiffsBelow bound_from next l) (sym pushed) (all_append (AreDiffLeavesBelow bound_from next) made (e ∷ []) (diffs_below-grow bound_from now next made grows was.done.names.known was.below) (below, tt));
}
