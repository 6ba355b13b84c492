-- Where one fact can stand, and so where all can be placed.
use Rattle.std.proofs.Common.{◌≡◌, ℕ, zero, suc, ◌<◌, Bool, true, false, List, [], ◌∷◌, ◌++◌, map, length, get_or, set, refl, sym, ap, ◌∙◌, subst, inl, inr, arith, length-set, eq-eqb, ne_eqb}
use Rattle.std.specs.Prelude.{Some, slice_get, remove, insert}
use Rattle.std.proofs.Math.Seq.{set_comm}
use Rattle.std.proofs.lemmas.Option.{slice_get_within}
use Rattle.spec_terms.specs.Term.{Term}
use Rattle.spec_terms.specs.Binding.{Binding}
use Rattle.spec_terms.proofs.Replace.{some_same, some_none}
use Rattle.spec_terms.proofs.Decision.{true_false}
use Rattle.spec_clauses.specs.Fact.{Fact, fact_under}
use Rattle.spec_clauses.specs.Flat.{flat_under}
use Rattle.spec_clauses.specs.Inclusion.{Picks, here, there, IsWithin}
use Rattle.spec_clauses.specs.Subsumption.{ComesBefore}
use Rattle.spec_clauses.proofs.Inclusion.{pick-append_left, pick-map, within-pick, within-trans, within-picked, within-more_left, within_self}
use Rattle.spec_placements.specs.Takes.{left, Takes}
use Rattle.spec_placements.specs.Placing.{Ending, all_known, FactMatched, NoFactMatch, CanPlace, CanStand, HoldsFrom, IsFirstFrom}
use Rattle.spec_placements.proofs.Flags.{pick_left, place_of_left}
use Rattle.spec_placements.proofs.TakenRows.{free_later, free_before}

-- what a row takes is included in what is left
pub takes_within : (hs : List (Fact Term)) (flags : List Bool) (ys : List (Fact Term)) (row : List ℕ) (more : List (Fact Term)) → length flags ≡ length hs → Takes hs flags ys row more → IsWithin (ys ++ more) (left flags hs)
takes_within hs flags [] [] more e t = t
takes_within hs flags (y ∷ ys) (p ∷ row) more e t =
    let long : length (set flags p true) ≡ length hs = length-set flags p true ∙ e in
    (left (set flags p true) hs, pick_left flags hs p y e t.0 t.1, takes_within hs (set flags p true) ys row more long t.2)
takes_within hs flags [] (p ∷ row) more e t = absurd t
takes_within hs flags (y ∷ ys) [] more e t = absurd t

-- and some row takes what is
pub within_takes : (hs : List (Fact Term)) (flags : List Bool) (ys more : List (Fact Term)) → length flags ≡ length hs → IsWithin (ys ++ more) (left flags hs) → (row : List ℕ) × Takes hs flags ys row more
within_takes hs flags [] more e w = ([], w)
within_takes hs flags (y ∷ ys) more e w =
    let at = place_of_left flags hs e w.1 in
    let long : length (set flags at.place true) ≡ length hs = length-set flags at.place true ∙ e in
    let (row, t) = within_takes hs (set flags at.place true) ys more long (subst (IsWithin (ys ++ more)) at.rest_left w.2) in
    (at.place ∷ row, (at.free, at.found, t))

-- a fact is taken at any place of the row
pub takes_insert : (hs : List (Fact Term)) (flags : List Bool) (ys : List (Fact Term)) (row : List ℕ) (more : List (Fact Term)) (at p : ℕ) (y : Fact Term) → p < length flags → slice_get ys at ≡ Some y → get_or flags p false ≡ false → slice_get hs p ≡ Some y → Takes hs (set flags p true) (remove ys at) row more → Takes hs flags ys (insert row at p) more
takes_insert hs flags [] row more at p y l which free found t = absurd (some_none (sym which))
takes_insert hs flags (z ∷ ys) row more zero p y l which free found t = (free, found ∙ sym which, t)
takes_insert hs flags (z ∷ ys) [] more (suc at) p y l which free found t = absurd t
takes_insert hs flags (z ∷ ys) (q ∷ row) more (suc at) p y l which free found t =
    let apart = free_later flags p q l t.0 in
    let other : p ≡ q → ⊥ = λ same. true_false (sym (eq-eqb p q same) ∙ apart.0) in
    let turned : set (set flags p true) q true ≡ set (set flags q true) p true = set_comm flags p q true true other in
    let apart_too = ne_eqb q p (λ same. other (sym same)) in
    let long : p < length (set flags q true) = rw length-set l in (
      apart.1,
      t.1,
      takes_insert hs (set flags q true) ys row more at p y long which (free_before flags q p apart_too free) found (subst (λ fs. Takes hs fs (remove ys at) row more) turned t.2),
    )

-- and what is taken at a place of the row may be taken first
pub takes_removed : (hs : List (Fact Term)) (flags : List Bool) (ys : List (Fact Term)) (row : List ℕ) (more : List (Fact Term)) (at : ℕ) (y : Fact Term) → length flags ≡ length hs → slice_get ys at ≡ Some y → Takes hs flags ys row more → (p : ℕ) × (slice_get row at ≡ Some p) × Takes hs flags (y ∷ remove ys at) (p ∷ remove row at) more
takes_removed hs flags [] row more at y e which t = absurd (some_none (sym which))
takes_removed hs flags (z ∷ ys) [] more at y e which t = absurd t
takes_removed hs flags (z ∷ ys) (q ∷ row) more zero y e which t = (q, refl, (t.0, t.1 ∙ which, t.2))
takes_removed hs flags (z ∷ ys) (q ∷ row) more (suc at) y e which t =
    let inside = slice_get_within hs q z t.1 in
    let l : q < length flags = omega arith in
    let long : length (set flags q true) ≡ length hs = length-set flags q true ∙ e in
    let (p, found, u) = takes_removed hs (set flags q true) ys row more at y long which t.2 in
    let apart = free_later flags q p l u.0 in
    let other : q ≡ p → ⊥ = λ same. true_false (sym (eq-eqb q p same) ∙ apart.0) in
    let turned : set (set flags q true) p true ≡ set (set flags p true) q true = set_comm flags q p true true other in
    let apart_too = ne_eqb p q (λ same. other (sym same)) in
    (p, found, (apart.1, u.1, (free_before flags p q apart_too t.0, t.1, subst (λ fs. Takes hs fs (remove ys at) (remove row at) more) turned u.2)))

-- what stands elsewhere is included in what is left
pub takes_loose : (hs : List (Fact Term)) (flags : List Bool) (ys : List (Fact Term)) (row : List ℕ) (more : List (Fact Term)) → length flags ≡ length hs → Takes hs flags ys row more → IsWithin more (left flags hs)
takes_loose hs flags ys row more e t = within-trans more (ys ++ more) (left flags hs) (within-more_left more ys more (within_self more)) (takes_within hs flags ys row more e t)

-- what stands at an index is picked
pub pick_removed : {X : Type 0} (xs : List X) (at : ℕ) (x : X) → slice_get xs at ≡ Some x → Picks xs x (remove xs at)
pick_removed [] at x e = absurd (some_none (sym e))
pick_removed {X} (y ∷ xs) zero x e = subst (λ (z : X). Picks (y ∷ xs) z xs) (some_same e) here
pick_removed (y ∷ xs) (suc at) x e = there (pick_removed xs at x e)

slice_get-mapped : (f : Fact Term → Fact Term) (xs : List (Fact Term)) (at : ℕ) (x : Fact Term) → slice_get xs at ≡ Some x → slice_get (map f xs) at ≡ Some (f x)
slice_get-mapped f [] at x e = absurd (some_none (sym e))
slice_get-mapped f (y ∷ xs) zero x e = ap Some (ap f (some_same e))
slice_get-mapped f (y ∷ xs) (suc at) x e = slice_get-mapped f xs at x e

removed-mapped : (f : Fact Term → Fact Term) (xs : List (Fact Term)) (at : ℕ) → map f (remove xs at) ≡ remove (map f xs) at
removed-mapped f [] zero = refl
removed-mapped f [] (suc at) = refl
removed-mapped f (y ∷ xs) zero = refl
removed-mapped f (y ∷ xs) (suc at) = ap (λ ys. f y ∷ ys) (removed-mapped f xs at)

module _ (hs : List (Fact Term)) (taken : List Bool) (ending : Ending) where
  -- a fact that was matched with what stands at a free position can stand there where the others can be placed then
  pub stand_placed : (old new : List Binding) (g h : Fact Term) (rest : List (Fact Term)) (p : ℕ) → slice_get hs p ≡ Some h → FactMatched old new g h → CanStand old taken hs g rest ending p → CanPlace new (set taken p true) hs rest ending
  stand_placed old new g h rest p found m c = record {
    by = c.by;
    agrees = (m.only c.by).1 (c.agrees, some_same (sym c.stands ∙ found));
    kept = c.kept;
    within = c.within;
  }

  pub placed_stand : (old new : List Binding) (g h : Fact Term) (rest : List (Fact Term)) (p : ℕ) → get_or taken p false ≡ false → slice_get hs p ≡ Some h → FactMatched old new g h → CanPlace new (set taken p true) hs rest ending → CanStand old taken hs g rest ending p
  placed_stand old new g h rest p free found m c =
      let agree = (m.only c.by).0 c.agrees in
      record { by = c.by; agrees = agree.0; kept = c.kept; free = free; stands = found ∙ ap Some (sym agree.1); within = c.within }

  -- where one can't stand
  pub unmatched : (bs : List Binding) (g h : Fact Term) (rest : List (Fact Term)) (p : ℕ) → slice_get hs p ≡ Some h → NoFactMatch bs g h → CanStand bs taken hs g rest ending p → ⊥
  unmatched bs g h rest p found none c = none c.by c.agrees (some_same (sym c.stands ∙ found))

  pub occupied : (bs : List Binding) (g : Fact Term) (rest : List (Fact Term)) (p : ℕ) → get_or taken p false ≡ true → CanStand bs taken hs g rest ending p → ⊥
  occupied bs g rest p full c = true_false (sym full ∙ c.free)

  pub in_range : (bs : List Binding) (g : Fact Term) (rest : List (Fact Term)) (p : ℕ) → CanStand bs taken hs g rest ending p → p < length hs
  in_range bs g rest p c = slice_get_within hs p (fact_under c.by g) c.stands

  -- where facts can be placed, each of them can stand somewhere
  pub some_stand : (bs : List Binding) (unplaced rest : List (Fact Term)) (g : Fact Term) → length taken ≡ length hs → Picks unplaced g rest → CanPlace bs taken hs unplaced ending → (p : ℕ) × CanStand bs taken hs g rest ending p
  some_stand bs unplaced rest g e picks c =
      let parts = flat_under c.by (all_known ending.loose) in
      let (others, q, w) = within-pick (left taken hs) (pick-append_left (pick-map (fact_under c.by) picks) parts) c.within in
      let at = place_of_left taken hs e q in (
        at.place,
        record {
          by = c.by;
          agrees = c.agrees;
          kept = c.kept;
          free = at.free;
          stands = at.found;
          within = subst (IsWithin (map (fact_under c.by) rest ++ parts)) at.rest_left w;
        },
      )

  -- and where one can stand, all can be placed
  pub all_placed : (bs : List Binding) (unplaced rest : List (Fact Term)) (g : Fact Term) (p : ℕ) → length taken ≡ length hs → Picks unplaced g rest → CanStand bs taken hs g rest ending p → CanPlace bs taken hs unplaced ending
  all_placed bs unplaced rest g p e picks c =
      let f = fact_under c.by in
      let parts = flat_under c.by (all_known ending.loose) in
      record {
        by = c.by;
        agrees = c.agrees;
        kept = c.kept;
        within = within-trans (map f unplaced ++ parts) (f g ∷ (map f rest ++ parts)) (left taken hs)
            (within-picked (pick-append_left (pick-map f picks) parts))
            (left (set taken p true) hs, pick_left taken hs p (f g) e c.free c.stands, c.within);
      }

  -- facts can be placed exactly where some row of positions holds them
  pub row_placed : (bs : List Binding) (unplaced : List (Fact Term)) (row : List ℕ) → length taken ≡ length hs → HoldsFrom bs taken hs unplaced ending row → CanPlace bs taken hs unplaced ending
  row_placed bs unplaced row e h = record {
    by = h.by;
    agrees = h.agrees;
    kept = h.kept;
    within = takes_within hs taken (map (fact_under h.by) unplaced) row (flat_under h.by (all_known ending.loose)) e h.takes;
  }

  pub placed_row : (bs : List Binding) (unplaced : List (Fact Term)) → length taken ≡ length hs → CanPlace bs taken hs unplaced ending → (row : List ℕ) × HoldsFrom bs taken hs unplaced ending row
  placed_row bs unplaced e c =
      let (row, t) = within_takes hs taken (map (fact_under c.by) unplaced) (flat_under c.by (all_known ending.loose)) e c.within in
      (row, record { by = c.by; agrees = c.agrees; kept = c.kept; takes = t })

  -- the first fact of a row stands at its first position
  pub row_stands : (bs : List Binding) (g : Fact Term) (rest : List (Fact Term)) (p : ℕ) (row : List ℕ) → length taken ≡ length hs → HoldsFrom bs taken hs (g ∷ rest) ending (p ∷ row) → CanStand bs taken hs g rest ending p
  row_stands bs g rest p row e h =
      let long : length (set taken p true) ≡ length hs = length-set taken p true ∙ e in
      record {
        by = h.by;
        agrees = h.agrees;
        kept = h.kept;
        free = h.takes.0;
        stands = h.takes.1;
        within = takes_within hs (set taken p true) (map (fact_under h.by) rest) row (flat_under h.by (all_known ending.loose)) long h.takes.2;
      }

  -- a row has a position for each fact
  takes_length : (flags : List Bool) (f : Fact Term → Fact Term) (ys : List (Fact Term)) (row : List ℕ) (more : List (Fact Term)) → Takes hs flags (map f ys) row more → length row ≡ length ys
  takes_length flags f [] [] more t = refl
  takes_length flags f [] (p ∷ row) more t = absurd t
  takes_length flags f (y ∷ ys) [] more t = absurd t
  takes_length flags f (y ∷ ys) (p ∷ row) more t = ap suc (takes_length (set flags p true) f ys row more t.2)

  pub row_long : (bs : List Binding) (unplaced : List (Fact Term)) (row : List ℕ) → HoldsFrom bs taken hs unplaced ending row → length row ≡ length unplaced
  row_long bs unplaced row h = takes_length taken (fact_under h.by) unplaced row (flat_under h.by (all_known ending.loose)) h.takes

  -- with no fact left no position is
  pub holds_nothing : (bs : List Binding) → CanPlace bs taken hs [] ending → HoldsFrom bs taken hs [] ending []
  holds_nothing bs c = record { by = c.by; agrees = c.agrees; kept = c.kept; takes = c.within }

  before_none : (row : List ℕ) → ComesBefore row [] → ⊥
  before_none [] b = b
  before_none (p ∷ row) b = b

  pub first_nothing : (bs : List Binding) → CanPlace bs taken hs [] ending → IsFirstFrom bs taken hs [] ending []
  first_nothing bs c = record { holds = holds_nothing bs c; first = λ other held before. before_none other before }

  module _ (old new : List Binding) (g h : Fact Term) (p : ℕ) (found : slice_get hs p ≡ Some h) (m : FactMatched old new g h) where
    -- a row of one more fact, which stands at p
    pub holds_one : (rest : List (Fact Term)) (row : List ℕ) → get_or taken p false ≡ false → HoldsFrom new (set taken p true) hs rest ending row → HoldsFrom old taken hs (g ∷ rest) ending (p ∷ row)
    holds_one rest row free held =
        let agree = (m.only held.by).0 held.agrees in
        record { by = held.by; agrees = agree.0; kept = held.kept; takes = (free, found ∙ ap Some (sym agree.1), held.takes) }

    pub one_holds : (rest : List (Fact Term)) (row : List ℕ) → HoldsFrom old taken hs (g ∷ rest) ending (p ∷ row) → HoldsFrom new (set taken p true) hs rest ending row
    one_holds rest row held = record {
      by = held.by;
      agrees = (m.only held.by).1 (held.agrees, some_same (sym held.takes.1 ∙ found));
      kept = held.kept;
      takes = held.takes.2;
    }

    -- and at any place of it
    pub holds_inserted : (unplaced : List (Fact Term)) (row : List ℕ) (at : ℕ) → length taken ≡ length hs → slice_get unplaced at ≡ Some g → get_or taken p false ≡ false → HoldsFrom new (set taken p true) hs (remove unplaced at) ending row → HoldsFrom old taken hs unplaced ending (insert row at p)
    holds_inserted unplaced row at e which free held =
        let agree = (m.only held.by).0 held.agrees in
        let f = fact_under held.by in
        let parts = flat_under held.by (all_known ending.loose) in
        let within = slice_get_within hs p h found in
        record {
          by = held.by;
          agrees = agree.0;
          kept = held.kept;
          takes = takes_insert hs taken (map f unplaced) row parts at p (f g) (omega arith) (slice_get-mapped f unplaced at g which) free (found ∙ ap Some (sym agree.1)) (subst (λ ys. Takes hs (set taken p true) ys row parts) (removed-mapped f unplaced at) held.takes);
        }

    -- the first position at which the first fact can stand, and the first row of the others from there
    pub first_one : (rest : List (Fact Term)) (row : List ℕ) → length taken ≡ length hs → get_or taken p false ≡ false → ((q : ℕ) → q < p → CanStand old taken hs g rest ending q → ⊥) → IsFirstFrom new (set taken p true) hs rest ending row → IsFirstFrom old taken hs (g ∷ rest) ending (p ∷ row)
    first_one rest row e free least is = record {
      holds = holds_one rest row free is.holds;
      first = earlier;
    } where
      earlier : (other : List ℕ) → HoldsFrom old taken hs (g ∷ rest) ending other → ComesBefore other (p ∷ row) → ⊥
      earlier [] held before = before
      earlier (q ∷ other) held (inl less) = least q less (row_stands old g rest q other e held)
      earlier (q ∷ other) held (inr same) = is.first other (one_holds rest other (subst (λ n. HoldsFrom old taken hs (g ∷ rest) ending (n ∷ other)) same.0 held)) same.1

module _ (hs : List (Fact Term)) (taken : List Bool) (ending : Ending) (bs : List Binding) (e : length taken ≡ length hs) where
  -- One of the facts may be put in front of a row's facts, with its position in front of the others, and back.
  pub front_holds : (unplaced : List (Fact Term)) (row : List ℕ) (at : ℕ) (g : Fact Term) → slice_get unplaced at ≡ Some g → HoldsFrom bs taken hs unplaced ending row → (p : ℕ) × (slice_get row at ≡ Some p) × HoldsFrom bs taken hs (g ∷ remove unplaced at) ending (p ∷ remove row at)
  front_holds unplaced row at g which held =
      let f = fact_under held.by in
      let parts = flat_under held.by (all_known ending.loose) in
      let (p, found, t) = takes_removed hs taken (map f unplaced) row parts at (f g) e (slice_get-mapped f unplaced at g which) held.takes in (
        p,
        found,
        record {
          by = held.by;
          agrees = held.agrees;
          kept = held.kept;
          takes = subst (λ ys. Takes hs taken (f g ∷ ys) (p ∷ remove row at) parts) (sym (removed-mapped f unplaced at)) t;
        },
      )

  pub back_holds : (unplaced : List (Fact Term)) (row : List ℕ) (at p : ℕ) (g : Fact Term) → slice_get unplaced at ≡ Some g → HoldsFrom bs taken hs (g ∷ remove unplaced at) ending (p ∷ row) → HoldsFrom bs taken hs unplaced ending (insert row at p)
  back_holds unplaced row at p g which held =
      let f = fact_under held.by in
      let parts = flat_under held.by (all_known ending.loose) in
      let inside = slice_get_within hs p (f g) held.takes.1 in
      record {
        by = held.by;
        agrees = held.agrees;
        kept = held.kept;
        takes = takes_insert hs taken (map f unplaced) row parts at p (f g) (omega arith) (slice_get-mapped f unplaced at g which) held.takes.0 held.takes.1 (subst (λ ys. Takes hs (set taken p true) ys row parts) (removed-mapped f unplaced at) held.takes.2);
      }
