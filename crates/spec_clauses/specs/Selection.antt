-- Selection of a hypothesis: the first of the largest that can be selected (Blanchet 2016, section 3.3.1).
use Rattle.std.specs.Prelude.{◌≡◌, ℕ, suc, ◌<◌, ◌≤◌, Bool, true, false, not, nat_le, cond, Option, Some, None, List, [], ◌∷◌, ◌++◌, map, length}
use Rattle.std.specs.List.{AllByRecursion, list_all}
use Rattle.spec_trees.specs.Tree.{Leaf}
use Rattle.spec_terms.specs.Term.{Term, Subst}
use Rattle.spec_clauses.specs.Fact.{Fact, Att, Mev, fact_size, fact_under}

-- whether a hypothesis can be selected: no `mev`, and no `att` of a variable
abbrev pub is_selectable : Fact Term → Bool
is_selectable (Mev e ts) = false
is_selectable (Att k (Leaf x)) = false
is_selectable _ = true

-- whether none of the hypotheses can be selected
abbrev pub is_solved : List (Fact Term) → Bool
is_solved hs = list_all (λ h. not (is_selectable h)) hs

-- the selected hypothesis, its place, from 0, and the others in their order
pub record Selection : Type 0 where
  pub index : ℕ
  pub fact : Fact Term
  pub others : List (Fact Term)

-- the same selection with h in front of the hypotheses
abbrev pub behind : Fact Term → Selection → Selection
behind h at = record { index = suc at.index; fact = at.fact; others = h ∷ at.others }

-- the hypothesis h in front of hs, against what is selected of hs
abbrev pub greater : Fact Term → List (Fact Term) → Option Selection → Option Selection
greater h hs None = cond (is_selectable h) (Some (record { index = 0; fact = h; others = hs })) None
greater h hs (Some at) = cond (is_selectable h) (cond (nat_le (fact_size at.fact) (fact_size h)) (Some (record { index = 0; fact = h; others = hs })) (Some (behind h at))) (Some (behind h at))

-- what is selected of the hypotheses: the first of the largest that can be
abbrev pub select : List (Fact Term) → Option Selection
select [] = None
select (h ∷ hs) = greater h hs (select hs)

-- The selected hypothesis is the first of the largest that can be selected; its place and the others are right.
pub record IsFirstOfLargest (hs : List (Fact Term)) (at : Selection) : Type 0 where
  pub earlier : List (Fact Term)
  pub later : List (Fact Term)
  pub hypotheses : hs ≡ earlier ++ at.fact ∷ later
  pub others : at.others ≡ earlier ++ later
  pub index : at.index ≡ length earlier
  pub selectable : is_selectable at.fact ≡ true
  pub first : AllByRecursion (λ h. is_selectable h ≡ true → fact_size h < fact_size at.fact) earlier
  pub largest : AllByRecursion (λ h. is_selectable h ≡ true → fact_size h ≤ fact_size at.fact) later

-- the selection under a substitution
abbrev pub selection_under : Subst → Selection → Selection
selection_under s at = record { index = at.index; fact = fact_under s at.fact; others = map (fact_under s) at.others }
