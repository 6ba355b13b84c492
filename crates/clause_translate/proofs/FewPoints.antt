-- The points of a process and those below it are within the limit.
use Rattle.std.proofs.Common.{◌≡◌, ℕ, suc, ◌+◌, ◌≤◌, ◌++◌, length, ap, sym, subst, ◌∙◌, arith}
use Rattle.std.proofs.lemmas.List.{length-append}
use Rattle.spec_calculus.specs.Syntax.{Process, Protocol}
use Rattle.spec_calculus.specs.Bounds.{most_points}
use Rattle.spec_calculus.specs.Points.{nodes, point_after}
use Rattle.unified_visits.specs.declared.place.Place.{Place}
use Rattle.unified_visits.specs.Places.{protocol_at, IsAt, HasFewPoints}
use Rattle.unified_visits.specs.Short.{IsFitProcess}

pub first_few : (p : Process) → length (nodes p) ≤ most_points → HasFewPoints 1 p
first_few p few = omega (arith, few)

-- what is fit stays so at another point of the protocol
pub next_fit : (p : Process) {P : Protocol} {n : ℕ} (to : Place) → IsAt P n to → IsFitProcess P p → IsFitProcess (protocol_at to) p
next_fit p to at fit = subst (λ (q : Protocol). IsFitProcess q p) (sym at.protocol) fit

-- the next point of one that has such a process behind it
pub point_before : (point : ℕ) (p : Process) → HasFewPoints (point + 1) p → point ≤ most_points
point_before point p few = omega (arith, few)

pub at_point : {P : Protocol} (n : ℕ) (p : Process) (to : Place) → IsAt P n to → HasFewPoints n p → HasFewPoints to.point p
at_point n p to at few = subst (λ k. HasFewPoints k p) (sym at.point) few

-- a process with one below it
module _ (point : ℕ) (p next : Process) (counted : length (nodes p) ≡ suc (length (nodes next))) where
  pub next_few : {P : Protocol} (to : Place) → IsAt P (point + 1) to → HasFewPoints point p → HasFewPoints to.point next
  next_few to at few = let is : to.point ≡ point + 1 = at.point in omega (arith, few, is, counted)

  pub next_point : HasFewPoints point p → point ≤ most_points
  next_point few = omega (arith, few, counted)

-- one with two below it
module _ (point : ℕ) (p left right : Process) (counted : length (nodes p) ≡ suc (length (nodes left ++ nodes right))) where
  both : length (nodes p) ≡ suc (length (nodes left) + length (nodes right))
  both = counted ∙ ap suc (length-append (nodes left) (nodes right))

  pub left_few : {P : Protocol} (to : Place) → IsAt P (point + 1) to → HasFewPoints point p → HasFewPoints to.point left
  left_few to at few = let is : to.point ≡ point + 1 = at.point in omega (arith, few, is, both)

  pub left_within : HasFewPoints point p → HasFewPoints (point + 1) left
  left_within few = omega (arith, few, both)

  pub right_few : {P : Protocol} (to : Place) → IsAt P (point_after (point + 1) left) to → HasFewPoints point p → HasFewPoints to.point right
  right_few to at few = let is : to.point ≡ point + 1 + length (nodes left) = at.point in omega (arith, few, is, both)

  pub left_point : HasFewPoints point p → point ≤ most_points
  left_point few = omega (arith, few, both)

  pub right_point : HasFewPoints point p → point + length (nodes left) ≤ most_points
  right_point few = omega (arith, few, both)
