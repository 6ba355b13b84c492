-- More facts that are confined to an area than positions in it can't be placed.
use Rattle.std.proofs.Common.{◌≡◌, ℕ, zero, suc, ◌+◌, ◌<◌, ◌≤◌, Bool, true, false, cond, List, [], ◌∷◌, ◌++◌, map, length, get_or, set, refl, sym, ap, ◌∙◌, subst, arith, length-set, length-append, eq-eqb, get_or-set_other, append-nil}
use Rattle.std.specs.Prelude.{Some, slice_get}
use Rattle.std.specs.List.{AllByRecursion}
use Rattle.std.proofs.lemmas.Option.{slice_get_within}
use Rattle.spec_terms.specs.Term.{Term, Subst}
use Rattle.spec_terms.specs.Binding.{Binding, Agrees}
use Rattle.spec_terms.proofs.Decision.{true_false}
use Rattle.spec_clauses.specs.Fact.{Fact, fact_under}
use Rattle.spec_clauses.specs.Flat.{flat_under}
use Rattle.spec_clauses.specs.Inclusion.{IsWithin}
use Rattle.spec_clauses.proofs.Lists.{all_append, all_weaker}
use Rattle.spec_clauses.proofs.Inclusion.{within_self, within-trans, within-map, within-append, within-more_right}
use Rattle.spec_placements.specs.Takes.{left, Takes}
use Rattle.spec_placements.specs.Placing.{Ending, all_known, CanPlace}
use Rattle.spec_placements.specs.Crowds.{room, IsConfined, AreConfined}
use Rattle.spec_placements.proofs.TakenRows.{free_later}
use Rattle.spec_placements.proofs.Standing.{within_takes}

-- an area without one of its positions has room for one less
room_without : (area : List Bool) (p : ℕ) → get_or area p false ≡ true → room area ≡ suc (room (set area p false))
room_without [] p e = absurd (true_false (sym e))
room_without (b ∷ area) zero e = rw e (omega arith)
room_without (b ∷ area) (suc p) e = let below = room_without area p e in omega arith

pub room_more : (area : List Bool) (b : Bool) → room (area ++ b ∷ []) ≡ room area + cond b 1 0
room_more [] b = omega arith
room_more (c ∷ area) b = let below = room_more area b in omega arith

module _ (bs : List Binding) (s : Subst) (agrees : Agrees s bs) (hs : List (Fact Term)) where
  -- a confined fact that stands at a free position stands in the area
  in_area : (flags area : List Bool) (g : Fact Term) (p : ℕ) → IsConfined bs flags hs area g → get_or flags p false ≡ false → slice_get hs p ≡ Some (fact_under s g) → get_or area p false ≡ true
  in_area flags area g p confined free found = go (get_or area p false) refl where
    go : (b : Bool) → get_or area p false ≡ b → b ≡ true
    go true e = refl
    go false e = absurd (confined p free e (fact_under s g) found s agrees refl)

  -- without a position that is taken, the area still confines
  still_confined : (flags area : List Bool) (p : ℕ) → p < length flags → (g : Fact Term) → IsConfined bs flags hs area g → IsConfined bs (set flags p true) hs (set area p false) g
  still_confined flags area p l g confined q free outside h found =
      let apart = free_later flags p q l free in
      let other = get_or-set_other area p q false false (λ same. true_false (sym (eq-eqb p q (sym same)) ∙ apart.0)) in
      confined q apart.1 (sym other ∙ outside) h found

  few : (flags area : List Bool) (cs : List (Fact Term)) (row : List ℕ) (more : List (Fact Term)) → length flags ≡ length hs → AllByRecursion (IsConfined bs flags hs area) cs → Takes hs flags (map (fact_under s) cs) row more → length cs ≤ room area
  few flags area [] row more e confined t = omega arith
  few flags area (g ∷ cs) [] more e confined t = absurd t
  few flags area (g ∷ cs) (p ∷ row) more e confined t =
      let inside = slice_get_within hs p (fact_under s g) t.1 in
      let l : p < length flags = omega arith in
      let one = room_without area p (in_area flags area g p confined.0 t.0 t.1) in
      let long : length (set flags p true) ≡ length hs = length-set flags p true ∙ e in
      let others = few (set flags p true) (set area p false) cs row more long
      (all_weaker (IsConfined bs flags hs area) (IsConfined bs (set flags p true) hs (set area p false)) (still_confined flags area p l) cs confined.1) t.2 in
      omega arith

pub crowded : (bs : List Binding) (taken : List Bool) (hs unplaced : List (Fact Term)) (ending : Ending) (area : List Bool) (n : ℕ) → length taken ≡ length hs → AreConfined bs taken hs area unplaced n → room area < n → CanPlace bs taken hs unplaced ending → ⊥
crowded bs taken hs unplaced ending area n e crowd less c =
    let f = fact_under c.by in
    let parts = flat_under c.by (all_known ending.loose) in
    let some : IsWithin (map f crowd.these) (map f unplaced) = within-map f crowd.these unplaced crowd.among in
    let within = within-trans (map f crowd.these) (map f unplaced ++ parts) (left taken hs) (within-more_right (map f crowd.these) (map f unplaced) parts some) c.within in
    let front : IsWithin (map f crowd.these ++ []) (left taken hs) = subst (λ fs. IsWithin fs (left taken hs)) (sym (append-nil (map f crowd.these))) within in
    let (row, t) = within_takes hs taken (map f crowd.these) [] e front in
    let bound = few bs c.by c.agrees hs taken area crowd.these row [] e crowd.confined t in
    let number = crowd.number in
    omega arith

module _ (bs : List Binding) (taken : List Bool) (hs : List (Fact Term)) (area : List Bool) where
  pub confined_none : AreConfined bs taken hs area [] 0
  confined_none = record { these = []; among = tt; confined = tt; number = refl }

  pub confined_more : (facts : List (Fact Term)) (n : ℕ) (g : Fact Term) → AreConfined bs taken hs area facts n → IsConfined bs taken hs area g → AreConfined bs taken hs area (facts ++ g ∷ []) (n + 1)
  confined_more facts n g crowd confined = record {
    these = crowd.these ++ g ∷ [];
    among = within-append crowd.these (g ∷ []) facts (g ∷ []) crowd.among (within_self (g ∷ []));
    confined = all_append (IsConfined bs taken hs area) crowd.these (g ∷ []) crowd.confined (confined, tt);
    number = length-append crowd.these (g ∷ []) ∙ ap (λ k. k + 1) crowd.number;
  }

  pub confined_same : (facts : List (Fact Term)) (n : ℕ) (g : Fact Term) → AreConfined bs taken hs area facts n → AreConfined bs taken hs area (facts ++ g ∷ []) n
  confined_same facts n g crowd = record {
    these = crowd.these;
    among = within-more_right crowd.these facts (g ∷ []) crowd.among;
    confined = crowd.confined;
    number = crowd.number;
  }
