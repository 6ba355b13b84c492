-- Counting symbols against a room for them.
use Rattle.std.proofs.Common.{◌≡◌, ℕ, ◌+◌, ◌-◌, ◌≤◌, ◌<◌, Bool, true, false, not, ◌||◌, nat_le, cond, List, [], ◌∷◌, ◌++◌, map, Option, None, Some, is_none, refl, sym, ap, ◌∙◌, arith}
use Rattle.std.proofs.lemmas.Bool.Decides.{nat_tests}
use Rattle.std.specs.List.{list_any}
use Rattle.spec_trees.specs.Tree.{size}
use Rattle.spec_calculus.specs.Syntax.{Term}
use Rattle.spec_calculus.specs.Values.{Value, Environment, value_of, values_of}
use Rattle.spec_calculus.specs.Bounds.{most_symbols}
use Rattle.spec_calculus.specs.Limits.{is_large}
use Rattle.term_values.specs.Room.{room_after}

-- beside a first and the others
pub room-none : (r a b : ℕ) → room_after r a ≡ None → room_after r (a + b) ≡ None
room-none r a b h = grind (arith, nat_tests)

pub room-some : (r a b left : ℕ) → room_after r a ≡ Some left → room_after r (a + b) ≡ room_after left b
room-some r a b left h = grind (arith, nat_tests)

pub room-nothing : (r : ℕ) → room_after r 0 ≡ Some r
room-nothing r = grind (arith, nat_tests)

pub room-one : (r n : ℕ) → 1 ≤ r → room_after r (1 + n) ≡ room_after (r - 1) n
room-one r n h = grind (arith, nat_tests)

pub room-no_one : (r n : ℕ) → r < 1 → room_after r (1 + n) ≡ None
room-no_one r n h = grind (arith, nat_tests)

pub ruleset of_rooms = (room-none, room-some, room-nothing, room-one, room-no_one)

-- a value that has no room within the limit is large
no_room : (b : Bool) (o : Option ℕ) (left : ℕ) → o ≡ cond b (Some left) None → not b ≡ is_none o
no_room true o left h = sym (ap is_none h)
no_room false o left h = sym (ap is_none h)

pub small-by_room : (v : Value) (left : ℕ) → Some left ≡ room_after most_symbols (size v) → false ≡ is_large v
unfolding is_large
small-by_room v left h = sym (no_room (nat_le (size v) most_symbols) (Some left) (most_symbols - size v) h)

pub large-by_room : (v : Value) → None ≡ room_after most_symbols (size v) → true ≡ is_large v
unfolding is_large
large-by_room v h = sym (no_room (nat_le (size v) most_symbols) None (most_symbols - size v) h)

-- a large value in one list or in another
pub any-append : {A : Type 0} (test : A → Bool) (xs ys : List A) → list_any test (xs ++ ys) ≡ (list_any test xs || list_any test ys)
any-append test [] ys = refl
any-append test (x ∷ xs) ys = ap (λ b. test x || b) (any-append test xs ys) ∙ sym (or_assoc (test x) (list_any test xs) (list_any test ys))
  where
    or_assoc : (a b c : Bool) → ((a || b) || c) ≡ (a || (b || c))
    or_assoc true b c = refl
    or_assoc false b c = refl

map-append : {A B : Type 0} (f : A → B) (xs ys : List A) → map f (xs ++ ys) ≡ map f xs ++ map f ys
map-append f [] ys = refl
map-append f (x ∷ xs) ys = ap (λ zs. f x ∷ zs) (map-append f xs ys)

pub large-append : (s : Environment) (xs ys : List Term) → list_any is_large (values_of s (xs ++ ys)) ≡ (list_any is_large (values_of s xs) || list_any is_large (values_of s ys))
large-append s xs ys = ap (list_any is_large) (map-append (value_of s) xs ys) ∙ any-append is_large (values_of s xs) (values_of s ys)

pub ruleset of_compared = (large-append)
