-- Pairs that are extended, and taken back.
use Rattle.std.proofs.Common.{◌≡◌, ◌≤◌, ◌-◌, List, [], ◌∷◌, ◌++◌, length, drop, refl, sym, ap, ◌∙◌, arith, append_assoc, length-append}
use Rattle.unify_match.specs.declared.bound.Bound.{Bound}
use Rattle.unify_match.specs.Trail.{Extends}

pub Extends-refl : (a : List Bound) → Extends a a
Extends-refl a = ([], refl)

pub Extends-trans : (a b c : List Bound) → Extends a b → Extends b c → Extends a c
Extends-trans a b c (first, e) (later, f) = (later ++ first, f ∙ (ap (λ l. later ++ l) e ∙ sym (append_assoc later first a)))

drop-front : (xs ys : List Bound) → drop (length xs) (xs ++ ys) ≡ ys
drop-front [] ys = refl
drop-front (x ∷ xs) ys = drop-front xs ys

-- going back to the level of the beginning gives the pairs of the beginning
pub undone : (old new : List Bound) → Extends old new → drop (length new - length old) new ≡ old
undone old new (more, e) =
    let count : length new - length old ≡ length more = omega (arith, ap length e, length-append more old) in
    ap (λ n. drop n new) count ∙ (ap (drop (length more)) e ∙ drop-front more old)

pub level_within : (old new : List Bound) → Extends old new → length old ≤ length new
level_within old new (more, e) = omega (arith, ap length e, length-append more old)
