-- The copies that were taken above visits: as many as above the point, and below a replication one more.
use Rattle.std.proofs.Common.{◌≡◌, ℕ, ◌+◌, ◌≤◌, Option, Some, None, List, [], ◌∷◌, length, take, ap, sym, subst, ◌∙◌, arith, Bool}
use Rattle.std.specs.Prelude.{IfSome}
use Rattle.std.specs.List.{AllByRecursion}
use Rattle.std.proofs.lemmas.List.{length-append, length-map}
use Rattle.spec_trees.specs.Tree.{Leaf, bind}
use Rattle.spec_calculus.specs.Syntax.{Process, Pattern, Ruled, Protocol, Condition}
use Rattle.spec_calculus.specs.Points.{point_after}
use Rattle.spec_terms.specs.Term.{Term}
use Rattle.spec_translation.specs.Visit.{Visit, after_copy}
use Rattle.spec_translation.specs.Choice.{Choice, ruled_choice, GoesOn, EachGoesOn, entry_choice, EntryGoesOn}
use Rattle.term_tree.specs.Bank.{tree_at}
use Rattle.unified_visits.specs.declared.place.Place.{Place}
use Rattle.unified_visits.specs.declared.visit.Visit as source
use Rattle.unified_visits.specs.Places.{IsAt}
use Rattle.visit_choices.specs.declared.ways.Passed.{Passed}
use Rattle.visit_choices.specs.declared.ways.Way.{Way}
use Rattle.visit_choices.specs.declared.ways.Way.TheVariants as ways
use Rattle.process_visits.specs.Entries.{IsEntryWay}
use Rattle.unified_visits.specs.Visits.{visit_at, NamesVisit, HasFewCopies}
use Rattle.visit_choices.specs.Ways.{AreWays, Passes}
use Rattle.clause_translate.specs.Jobs.{IsKnownWay}

-- the same visit at a later point
pub next_copies : {P : Protocol} (to : Place) (point : ℕ) (v : source.Visit) → IsAt P (point + 1) to → HasFewCopies point v → HasFewCopies to.point v
next_copies to point v at few = let is : to.point ≡ point + 1 = at.point in omega (arith, few, is)

pub later_copies : {P : Protocol} (to : Place) (point : ℕ) (left : Process) (v : source.Visit) → IsAt P (point_after (point + 1) left) to → HasFewCopies point v → HasFewCopies to.point v
later_copies to point left v at few = let is : to.point ≡ point_after (point + 1) left = at.point in omega (arith, few, is)

-- a visit that is named
counted : (all : List Term) (v : source.Visit) → length (visit_at all v).sessions ≡ length v.sessions
counted all v = length-map v.sessions (tree_at all)

module _ (old new : List Term) (v made : source.Visit) where
  pub kept_copies : (tree : Visit) → NamesVisit new made tree → length tree.sessions ≡ length (visit_at old v).sessions → length made.sessions ≡ length v.sessions
  kept_copies tree names same = sym (counted new made) ∙ (ap (λ (w : Visit). length w.sessions) names.is ∙ (same ∙ counted old v))

  pub one_copy : (n : ℕ) → NamesVisit new made (after_copy (visit_at old v) n) → length made.sessions ≡ length v.sessions + 1
  one_copy n names =
      let more : length (after_copy (visit_at old v) n).sessions ≡ length (visit_at old v).sessions + 1 = length-append (visit_at old v).sessions (Leaf n ∷ []) in
      sym (counted new made) ∙ (ap (λ (w : Visit). length w.sessions) names.is ∙ (more ∙ ap (λ k. k + 1) (counted old v)))

  pub below_copies : {P : Protocol} (to : Place) (point : ℕ) → IsAt P (point + 1) to → HasFewCopies point v → length made.sessions ≤ length v.sessions + 1 → HasFewCopies to.point made
  below_copies to point at few more = let is : to.point ≡ point + 1 = at.point in omega (arith, few, is, more)

-- the visits that go on by the choices of a `let`
abbrev SameCopies : Visit → Visit → Type 0
SameCopies v w = length w.sessions ≡ length v.sessions

goes_on : (choice : Choice) (out : Option Visit) → GoesOn choice out → IfSome out (SameCopies choice.visit)
goes_on choice None h = tt
goes_on choice (Some w) h = ap (λ (x : Visit). length x.sessions) h.2 ∙ length-map choice.visit.sessions (bind h.0)

each_go_on : (P : Protocol) (v : Visit) (pattern : Pattern) (rs : List Ruled) (outs : List (Option Visit)) → EachGoesOn P v pattern rs outs → AllByRecursion (λ out. IfSome out (SameCopies v)) outs
each_go_on P v pattern [] outs h = subst (λ (os : List (Option Visit)). AllByRecursion (λ out. IfSome out (SameCopies v)) os) (sym h) tt
each_go_on P v pattern (r ∷ rs) outs h =
    subst (λ (os : List (Option Visit)). AllByRecursion (λ out. IfSome out (SameCopies v)) os) (sym h.4) (goes_on (ruled_choice P v pattern r h.2.base h.2.at) h.0 h.2.goes_on, each_go_on P v pattern rs h.1 h.3)

pub known_way : (P : Protocol) (pattern : Pattern) (to : Place) (point : ℕ) (old next : List Term) (v : source.Visit) (rs : List Ruled) (passed : Passed) → IsAt P (point + 1) to → HasFewCopies point v → Passes P (visit_at old v) pattern rs next passed → IsKnownWay next to.point passed.way
known_way P pattern to point old next v rs passed at few p = go passed.way p.ways where
  same : AllByRecursion (λ out. IfSome out (SameCopies (visit_at old v))) p.outs
  same = each_go_on P (visit_at old v) pattern (take passed.count rs) p.outs p.go

  go : (way : Way) → AreWays next way p.outs → IsKnownWay next to.point way
  go ways.Nowhere is = tt
  go ways.Large is = tt
  go (ways.Visit made) is =
      let one = subst (λ (os : List (Option Visit)). AllByRecursion (λ out. IfSome out (SameCopies (visit_at old v))) os) is.1 same in
      let kept = kept_copies old next v made is.0 is.3 one.0 in
      let few_there = next_copies to point v at few in (is.3.known, omega (arith, kept, few_there))

-- and the one that goes on with an entry
module _ (P : Protocol) (table : ℕ) (patterns : List Pattern) (condition : Condition) where
  entry_copies : (old next : List Term) (v made : source.Visit) (large : Bool) → EntryGoesOn P (visit_at old v) table patterns condition large (Some (visit_at next made)) → length made.sessions ≡ length v.sessions
  entry_copies old next v made large goes =
      sym (counted next made) ∙ (goes_on (entry_choice P (visit_at old v) table patterns condition goes.at) (Some (visit_at next made)) goes.goes_on ∙ counted old v)

  pub entry_known : (to : Place) (point : ℕ) (old next : List Term) (v : source.Visit) (large : Bool) (out : Option Visit) (way : Way) → IsAt P (point + 1) to → HasFewCopies point v → EntryGoesOn P (visit_at old v) table patterns condition large out → IsEntryWay next large out way
      → IsKnownWay next to.point way
  entry_known to point old next v large out ways.Nowhere at few goes is = tt
  entry_known to point old next v large out ways.Large at few goes is = tt
  entry_known to point old next v large out (ways.Visit made) at few goes is =
      let kept = entry_copies old next v made large (subst (λ (o : Option Visit). EntryGoesOn P (visit_at old v) table patterns condition large o) is.1 goes) in
      let few_there = next_copies to point v at few in
      (is.3, omega (arith, kept, few_there))
