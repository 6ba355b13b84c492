-- Removal of facts from free positions: it doesn't matter which of equal ones goes.
use Rattle.std.proofs.Common.{◌≡◌, ℕ, Bool, true, false, ◌||◌, List, [], ◌∷◌, ◌++◌, map, length, get_or, set, refl, sym, ap, ◌∙◌, subst, is_some, append_assoc, append-nil}
use Rattle.std.specs.Prelude.{Option, Some, None, slice_get, flat_map}
use Rattle.std.specs.List.{AllByRecursion}
use Rattle.spec_terms.specs.Term.{Term, Subst}
use Rattle.spec_terms.specs.Binding.{Binding, bound_to, AreDistinct, Agrees, replaced_once}
use Rattle.spec_terms.proofs.Matches.{Agrees-at, replaced-agrees}
use Rattle.spec_clauses.specs.Fact.{Fact, Att, fact_under}
use Rattle.spec_clauses.specs.Diff.{diff_variables}
use Rattle.spec_clauses.specs.Flat.{flat, flat_under}
use Rattle.spec_clauses.specs.Inclusion.{Picks, here, there, IsWithin}
use Rattle.spec_clauses.proofs.Inclusion.{within_self, within-trans, within-picked, pick-within, within-more_left, within-more_right, within-append}
use Rattle.spec_clauses.proofs.Kept.{kept-agree}
use Rattle.spec_placements.specs.Takes.{left}
use Rattle.spec_placements.specs.Placing.{Loose, all_known, Ending, AreKept, CanPlace, AreLinked, variables_of}
use Rattle.spec_placements.specs.LooseParts.{flat_of, bound_parts, Removes, Lacks, HasNoRoom}
use Rattle.spec_placements.proofs.Flags.{pick_left, place_of_left}

-- whichever of equal items is picked, the rests are alike
module _ {X : Type 0} where
  same_rest : {xs ys : List X} {x y : X} → (x ∷ xs) ≡ (y ∷ ys) → xs ≡ ys
  same_rest e = cc

  same_first : {xs ys : List X} {x y : X} → (x ∷ xs) ≡ (y ∷ ys) → x ≡ y
  same_first e = cc

  alike : {xs ys first second : List X} {x y : X} → Picks xs x first → Picks ys y second → xs ≡ ys → x ≡ y → IsWithin first second
  alike (here {x = x} {xs = xs}) (here {x = y} {xs = ys}) e same = subst (IsWithin xs) (same_rest e) (within_self xs)
  alike (here {x = x} {xs = xs}) (there {x = y} {y = z} {xs = ys} {rest = rest} q) e same =
      let rests : xs ≡ ys = same_rest e in
      let heads : x ≡ z = same_first e in
      subst (λ (w : X). IsWithin xs (w ∷ rest)) (sym same ∙ heads) (subst (λ (zs : List X). IsWithin zs (y ∷ rest)) (sym rests) (within-picked q))
  alike (there {x = x} {y = z} {xs = xs} {rest = rest} p) (here {x = y} {xs = ys}) e same =
      let rests : xs ≡ ys = same_rest e in
      let heads : z ≡ y = same_first e in
      subst (λ (w : X). IsWithin (w ∷ rest) ys) (same ∙ sym heads) (subst (IsWithin (x ∷ rest)) rests (pick-within p))
  alike (there {y = z} {rest = first} p) (there {y = w} {rest = second} q) e same =
      let heads : z ≡ w = same_first e in
      (second, subst (λ (v : X). Picks (w ∷ second) v second) (sym heads) here, alike p q (same_rest e) same)

  pub picks_alike : (xs first second : List X) (x : X) → Picks xs x first → Picks xs x second → IsWithin first second
  picks_alike xs first second x p q = alike p q refl refl

module _ (hs : List (Fact Term)) where
  pub removes_nothing : (flags : List Bool) → Removes hs flags flags []
  removes_nothing flags more = (λ w. w, λ w. w)

  -- a fact that stands at a free position is removed by its flag
  pub removes_one : (flags : List Bool) (p : ℕ) (y : Fact Term) → length flags ≡ length hs → get_or flags p false ≡ false → slice_get hs p ≡ Some y → Removes hs flags (set flags p true) (y ∷ [])
  removes_one flags p y e free found more =
      let picked = pick_left flags hs p y e free found in (
        λ w. within-trans more w.0 (left (set flags p true) hs) w.2 (picks_alike (left flags hs) w.0 (left (set flags p true) hs) y w.1 picked),
        λ w. (left (set flags p true) hs, picked, w),
      )

  -- one removal after another
  pub removes_both : (before between now : List Bool) (ys zs : List (Fact Term)) → Removes hs before between ys → Removes hs between now zs → Removes hs before now (ys ++ zs)
  removes_both before between now ys zs first second more =
      let same : (ys ++ zs) ++ more ≡ ys ++ (zs ++ more) = append_assoc ys zs more in (
        λ w. (second more).0 ((first (zs ++ more)).0 (subst (λ fs. IsWithin fs (left before hs)) same w)),
        λ w. subst (λ fs. IsWithin fs (left before hs)) (sym same) ((first (zs ++ more)).1 ((second more).1 w)),
      )

  -- what was removed had room
  pub removed_within : (before now : List Bool) (ys : List (Fact Term)) → Removes hs before now ys → IsWithin ys (left before hs)
  removed_within before now ys r = subst (λ fs. IsWithin fs (left before hs)) (append-nil ys) ((r []).1 tt)

  -- a fact that stands at no free position has no room; nor have facts of which some have none, at first or later
  pub lacking : (flags : List Bool) (y : Fact Term) → length flags ≡ length hs → Lacks hs flags y → HasNoRoom hs flags (y ∷ [])
  lacking flags y e lacks w = let at = place_of_left flags hs e w.1 in lacks at.place at.free at.found

  pub no_room_more : (flags : List Bool) (ys more : List (Fact Term)) → HasNoRoom hs flags ys → HasNoRoom hs flags (ys ++ more)
  no_room_more flags ys more none w = none (within-trans ys (ys ++ more) (left flags hs) (within-more_right ys ys more (within_self ys)) w)

  pub no_room_later : (before now : List Bool) (ys zs : List (Fact Term)) → Removes hs before now ys → HasNoRoom hs now zs → HasNoRoom hs before (ys ++ zs)
  no_room_later before now ys zs r none w = none ((r zs).0 w)

-- The parts of the variables that are bound are parts of all, under each substitution that has the bindings.
parts_of : (s : Subst) (bs : List Binding) (phase x : ℕ) → Agrees s bs → (o : Option Term) → bound_to bs x ≡ o → is_some o ≡ true → flat (Att phase (s x)) ≡ flat_of phase o
parts_of s bs phase x agrees None e is = absurd (let clash : false ≡ true = is in cc)
parts_of s bs phase x agrees (Some t) e is = ap (λ u. flat (Att phase u)) (Agrees-at s bs x t agrees e)

part_within : (s : Subst) (bs : List Binding) (phase x : ℕ) → Agrees s bs → (o : Option Term) → bound_to bs x ≡ o → IsWithin (flat_of phase o) (flat (Att phase (s x)))
part_within s bs phase x agrees None e = tt
part_within s bs phase x agrees (Some t) e = subst (IsWithin (flat (Att phase t))) (ap (λ u. flat (Att phase u)) (sym (Agrees-at s bs x t agrees e))) (within_self (flat (Att phase t)))

pub parts_within : (s : Subst) (bs : List Binding) (loose : List Loose) → Agrees s bs → IsWithin (bound_parts bs loose) (flat_under s (all_known loose))
parts_within s bs [] agrees = tt
parts_within s bs (l ∷ loose) agrees = within-append (flat_of l.phase (bound_to bs l.variable)) (bound_parts bs loose) (flat (Att l.phase (s l.variable))) (flat_under s (all_known loose)) (part_within s bs l.phase l.variable agrees (bound_to bs l.variable) refl) (parts_within s bs loose agrees)

or_false : (b : Bool) → (b || false) ≡ true → b ≡ true
or_false true e = refl
or_false false e = e

-- and all of them where all variables are bound
pub parts_are_all : (s : Subst) (bs : List Binding) (loose : List Loose) → Agrees s bs → AreLinked bs (variables_of loose) [] → flat_under s (all_known loose) ≡ bound_parts bs loose
parts_are_all s bs [] agrees linked = refl
parts_are_all s bs (l ∷ loose) agrees linked =
    let first = parts_of s bs l.phase l.variable agrees (bound_to bs l.variable) refl (or_false (is_some (bound_to bs l.variable)) linked.0) in
    let others = parts_are_all s bs loose agrees linked.1 in λ i. first i ++ others i

-- So with no fact left the loose variables can be placed where their parts have room and the constraints are kept.
pub loose_placed : (bs : List Binding) (taken : List Bool) (hs : List (Fact Term)) (ending : Ending) → AreDistinct bs → AreLinked bs (variables_of ending.loose) [] → IsWithin (bound_parts bs ending.loose) (left taken hs) → AreKept ending (replaced_once bs) → CanPlace bs taken hs [] ending
loose_placed bs taken hs ending once linked w kept =
    let agrees = replaced-agrees bs once in
    record {
      by = replaced_once bs;
      agrees = agrees;
      kept = kept;
      within = subst (λ fs. IsWithin fs (left taken hs)) (sym (parts_are_all (replaced_once bs) bs ending.loose agrees linked)) w;
    }

-- Where the parts of those that are bound have none, nothing can be placed,
pub loose_unplaced : (bs : List Binding) (taken : List Bool) (hs unplaced : List (Fact Term)) (ending : Ending) → HasNoRoom hs taken (bound_parts bs ending.loose) → CanPlace bs taken hs unplaced ending → ⊥
loose_unplaced bs taken hs unplaced ending none c =
    let parts = flat_under c.by (all_known ending.loose) in
    let placed = map (fact_under c.by) unplaced in
    none (within-trans (bound_parts bs ending.loose) (placed ++ parts) (left taken hs) (within-more_left (bound_parts bs ending.loose) placed parts (parts_within c.by bs ending.loose c.agrees)) c.within)

-- nor where all variables of the constraints are bound, and some constraint isn't kept.
bound_agree : (s t : Subst) (bs : List Binding) → Agrees s bs → Agrees t bs → (x : ℕ) (o : Option Term) → bound_to bs x ≡ o → is_some o ≡ true → s x ≡ t x
bound_agree s t bs first second x None e is = absurd (let clash : false ≡ true = is in cc)
bound_agree s t bs first second x (Some u) e is = Agrees-at s bs x u first e ∙ sym (Agrees-at t bs x u second e)

all_bound_agree : (s t : Subst) (bs : List Binding) → Agrees s bs → Agrees t bs → (xs : List ℕ) → AreLinked bs xs [] → AllByRecursion (λ x. s x ≡ t x) xs
all_bound_agree s t bs first second [] linked = tt
all_bound_agree s t bs first second (x ∷ xs) linked = (bound_agree s t bs first second x (bound_to bs x) refl (or_false (is_some (bound_to bs x)) linked.0), all_bound_agree s t bs first second xs linked.1)

pub unkept_unplaced : (bs : List Binding) (taken : List Bool) (hs unplaced : List (Fact Term)) (ending : Ending) → AreDistinct bs → AreLinked bs (flat_map diff_variables ending.diffs) [] → (AreKept ending (replaced_once bs) → ⊥) → CanPlace bs taken hs unplaced ending → ⊥
unkept_unplaced bs taken hs unplaced ending once linked never c =
    never (kept-agree ending.kept_in c.by (replaced_once bs) ending.diffs (all_bound_agree c.by (replaced_once bs) bs c.agrees (replaced-agrees bs once) (flat_map diff_variables ending.diffs) linked) c.kept)

pub parts_joined : (bs : List Binding) (xs ys : List Loose) → bound_parts bs (xs ++ ys) ≡ bound_parts bs xs ++ bound_parts bs ys
parts_joined bs [] ys = refl
parts_joined bs (l ∷ xs) ys = ap (λ fs. flat_of l.phase (bound_to bs l.variable) ++ fs) (parts_joined bs xs ys) ∙ sym (append_assoc (flat_of l.phase (bound_to bs l.variable)) (bound_parts bs xs) (bound_parts bs ys))
