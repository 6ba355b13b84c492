-- Facts are placed one after another, at the positions of a row.
use Rattle.std.proofs.Common.{◌≡◌, ◌↔◌, ℕ, ◌<◌, Bool, true, false, List, [], ◌∷◌, ◌++◌, length, get_or, set, sym, subst, append_assoc, append-nil}
use Rattle.std.specs.Prelude.{Some, slice_get}
use Rattle.spec_terms.specs.Term.{Term}
use Rattle.spec_terms.specs.Binding.{Binding}
use Rattle.spec_clauses.specs.Fact.{Fact}
use Rattle.spec_placements.specs.Placing.{Ending, FactMatched, CanPlace, CanStand, HoldsFrom, IsFirstFrom}
use Rattle.spec_placements.specs.Stages.{Stage, PlacesOn, PlacesFirst}
use Rattle.spec_placements.proofs.Standing.{row_placed, row_stands, holds_nothing, first_nothing, holds_one, one_holds, first_one}

module _ (hs : List (Fact Term)) (ending : Ending) (start : Stage) where
  pub leads_nowhere : PlacesOn hs ending start [] start
  leads_nowhere row = (λ h. h, λ h. h)

  pub leads_first_nowhere : PlacesFirst hs ending start [] start
  leads_first_nowhere row h = h

  module _ (bs : List Binding) (taken : List Bool) (done : List ℕ) (g : Fact Term) (rest : List (Fact Term)) (p : ℕ) where
    abbrev now : Stage
    now = record { bindings = bs; taken = taken; unplaced = g ∷ rest }

    -- one more fact, at a free position that it matches
    pub leads_on : (new : List Binding) (h : Fact Term) → get_or taken p false ≡ false → slice_get hs p ≡ Some h → FactMatched bs new g h → PlacesOn hs ending start done now → PlacesOn hs ending start (done ++ p ∷ []) (record { bindings = new; taken = set taken p true; unplaced = rest })
    leads_on new h free found m leads row =
        let same : (done ++ p ∷ []) ++ row ≡ done ++ p ∷ row = append_assoc done (p ∷ []) row in (
          λ held. one_holds hs taken ending bs new g h p found m rest row ((leads (p ∷ row)).0 (subst (HoldsFrom start.bindings start.taken hs start.unplaced ending) same held)),
          λ held. subst (HoldsFrom start.bindings start.taken hs start.unplaced ending) (sym same) ((leads (p ∷ row)).1 (holds_one hs taken ending bs new g h p found m rest row free held)),
        )

    -- and at the first where it can stand
    pub leads_first_on : (new : List Binding) (h : Fact Term) → length taken ≡ length hs → get_or taken p false ≡ false → slice_get hs p ≡ Some h → FactMatched bs new g h → ((q : ℕ) → q < p → CanStand bs taken hs g rest ending q → ⊥) → PlacesFirst hs ending start done now → PlacesFirst hs ending start (done ++ p ∷ []) (record { bindings = new; taken = set taken p true; unplaced = rest })
    leads_first_on new h e free found m least leads row is =
        let same : (done ++ p ∷ []) ++ row ≡ done ++ p ∷ row = append_assoc done (p ∷ []) row in
        subst (IsFirstFrom start.bindings start.taken hs start.unplaced ending) (sym same) (leads (p ∷ row) (first_one hs taken ending bs new g h p found m rest row e free least is))

    -- where it can't stand, no row goes on so
    pub leads_no_further : (row : List ℕ) → length taken ≡ length hs → (CanStand bs taken hs g rest ending p → ⊥) → PlacesOn hs ending start done now → HoldsFrom start.bindings start.taken hs start.unplaced ending (done ++ p ∷ row) → ⊥
    leads_no_further row e never leads held = never (row_stands hs taken ending bs g rest p row e ((leads (p ∷ row)).0 held))

  module _ (bs : List Binding) (taken : List Bool) (done : List ℕ) where
    abbrev last : Stage
    last = record { bindings = bs; taken = taken; unplaced = [] }

    -- with no fact left, the ending decides
    pub leads_to_end : length taken ≡ length hs → PlacesOn hs ending start done last → HoldsFrom start.bindings start.taken hs start.unplaced ending done ↔ CanPlace bs taken hs [] ending
    leads_to_end e leads =
        let same : done ++ [] ≡ done = append-nil done in (
          λ held. row_placed hs taken ending bs [] [] e ((leads []).0 (subst (HoldsFrom start.bindings start.taken hs start.unplaced ending) (sym same) held)),
          λ can. subst (HoldsFrom start.bindings start.taken hs start.unplaced ending) same ((leads []).1 (holds_nothing hs taken ending bs can)),
        )

    pub leads_first_to_end : PlacesFirst hs ending start done last → CanPlace bs taken hs [] ending → IsFirstFrom start.bindings start.taken hs start.unplaced ending done
    leads_first_to_end leads can = subst (IsFirstFrom start.bindings start.taken hs start.unplaced ending) (append-nil done) (leads [] (first_nothing hs taken ending bs can))
