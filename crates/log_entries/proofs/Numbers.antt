-- Numbers in lists, and items by their numbers, with one more at the end.
use Rattle.std.proofs.Common.{◌≡◌, ◌⊎◌, ◌∙◌, ℕ, zero, suc, ◌+◌, ◌<◌, ◌≤◌, Bool, true, false, Some, List, [], ◌∷◌, ◌++◌, length, map, filter, refl, ap, sym, inl, inr, arith, get_or}
use Rattle.std.specs.Prelude.{slice_get}
use Rattle.std.specs.Option.{option_map}
use Rattle.std.proofs.lemmas.Option.{slice_get-map}
use Rattle.spec_calculus.specs.Points.{numbered}
use Rattle.log_entries.specs.Numbers.{IsAmong, IsAscending, AreNumbersWithin}

pub among_push : (ns : List ℕ) (m n : ℕ) → IsAmong ns n → IsAmong (ns ++ m ∷ []) n
among_push [] m n among = absurd among
among_push (k ∷ ns) m n (inl same) = inl same
among_push (k ∷ ns) m n (inr rest) = inr (among_push ns m n rest)

pub among_last : (ns : List ℕ) (n : ℕ) → IsAmong (ns ++ n ∷ []) n
among_last [] n = inl refl
among_last (k ∷ ns) n = inr (among_last ns n)

pub push_among : (ns : List ℕ) (m n : ℕ) → IsAmong (ns ++ m ∷ []) n → IsAmong ns n ⊎ (m ≡ n)
push_among [] m n (inl same) = inr same
push_among [] m n (inr rest) = absurd rest
push_among (k ∷ ns) m n (inl same) = inl (inl same)
push_among (k ∷ ns) m n (inr rest) = elim (push_among ns m n rest) [
  | inl among ↦ inl (inr among)
  | inr last ↦ inr last
]

-- what stands in one of two lists stands in both together
pub among_left : (ms ns : List ℕ) (n : ℕ) → IsAmong ms n → IsAmong (ms ++ ns) n
among_left [] ns n among = absurd among
among_left (m ∷ ms) ns n (inl same) = inl same
among_left (m ∷ ms) ns n (inr rest) = inr (among_left ms ns n rest)

pub among_right : (ms ns : List ℕ) (n : ℕ) → IsAmong ns n → IsAmong (ms ++ ns) n
among_right [] ns n among = among
among_right (m ∷ ms) ns n among = inr (among_right ms ns n among)

pub among_either : (ms ns : List ℕ) (n : ℕ) → IsAmong (ms ++ ns) n → IsAmong ms n ⊎ IsAmong ns n
among_either [] ns n among = inr among
among_either (m ∷ ms) ns n (inl same) = inl (inl same)
among_either (m ∷ ms) ns n (inr rest) = elim (among_either ms ns n rest) [
  | inl left ↦ inl (inr left)
  | inr right ↦ inr right
]

-- what has a number has it with an item more, which gets the next number
pub there_push : {X : Type 0} (xs : List X) (y : X) (n : ℕ) (x : X) → numbered xs n ≡ Some x → numbered (xs ++ y ∷ []) n ≡ Some x
there_push xs y zero x at = cc
there_push xs y (suc k) x at = go xs y k x at
  where
    go : {X : Type 0} (xs : List X) (y : X) (k : ℕ) (x : X) → slice_get xs k ≡ Some x → slice_get (xs ++ y ∷ []) k ≡ Some x
    go [] y k x at = cc
    go (z ∷ xs) y zero x at = at
    go (z ∷ xs) y (suc k) x at = go xs y k x at

pub last_there : {X : Type 0} (xs : List X) (y : X) (n : ℕ) → n ≡ length xs + 1 → numbered (xs ++ y ∷ []) n ≡ Some y
last_there xs y zero is = absurd (omega (arith, is))
last_there xs y (suc k) is = go xs y k (omega (arith, is))
  where
    go : {X : Type 0} (xs : List X) (y : X) (k : ℕ) → k ≡ length xs → slice_get (xs ++ y ∷ []) k ≡ Some y
    go [] y zero is = refl
    go [] y (suc k) is = absurd (omega (arith, is))
    go (z ∷ xs) y zero is = absurd (omega (arith, is))
    go (z ∷ xs) y (suc k) is = go xs y k (omega (arith, is))

pub push_there : {X : Type 0} (xs : List X) (y : X) (n : ℕ) (x : X) → numbered (xs ++ y ∷ []) n ≡ Some x → (numbered xs n ≡ Some x) ⊎ ((n ≡ length xs + 1) × (y ≡ x))
push_there xs y zero x at = cc
push_there xs y (suc k) x at = elim (go xs y k x at) [
  | inl before ↦ inl before
  | inr last ↦ inr (let place = last.0 in (omega (arith, place), last.1))
]
  where
    go : {X : Type 0} (xs : List X) (y : X) (k : ℕ) (x : X) → slice_get (xs ++ y ∷ []) k ≡ Some x → (slice_get xs k ≡ Some x) ⊎ ((k ≡ length xs) × (y ≡ x))
    go [] y zero x at = inr (refl, cc)
    go [] y (suc k) x at = cc
    go (z ∷ xs) y zero x at = inl at
    go (z ∷ xs) y (suc k) x at = elim (go xs y k x at) [
      | inl before ↦ inl before
      | inr last ↦ inr (let place = last.0 in (omega (arith, place), last.1))
    ]

-- what is seen of an item by its number
pub seen_there : {X Y : Type 0} (f : X → Y) (xs : List X) (n : ℕ) (x : X) → numbered xs n ≡ Some x → numbered (map f xs) n ≡ Some (f x)
seen_there f xs zero x at = cc
seen_there f xs (suc k) x at = slice_get-map f xs k ∙ ap (option_map f) at

-- numbers that ascend from a number ascend from a lesser one
pub from_less : (less least : ℕ) (ns : List ℕ) → less ≤ least → IsAscending least ns → IsAscending less ns
from_less less least [] order up = tt
from_less less least (m ∷ ns) order up = (let first = up.0 in omega (arith, first, order), up.1)

-- those that pass a test ascend too
pub filter_ascends : (p : ℕ → Bool) (least : ℕ) (ns : List ℕ) → IsAscending least ns → IsAscending least (filter p ns)
filter_ascends p least [] up = tt
filter_ascends p least (m ∷ ns) up = go (p m) refl (filter_ascends p (suc m) ns up.1)
  where
    go : (b : Bool) → p m ≡ b → IsAscending (suc m) (filter p ns) → IsAscending least (filter p (m ∷ ns))
    go true e h = rw e (up.0, h)
    go false e h = rw e (from_less least (suc m) (filter p ns) (let first = up.0 in omega (arith, first)) h)

pub among_filter : (p : ℕ → Bool) (ns : List ℕ) (n : ℕ) → IsAmong ns n → p n ≡ true → IsAmong (filter p ns) n
among_filter p [] n among told = absurd among
among_filter p (m ∷ ns) n (inl same) told = (let first : p m ≡ true = ap p same ∙ told in rw first (inl same))
among_filter p (m ∷ ns) n (inr rest) told = go (p m) refl (among_filter p ns n rest told)
  where
    go : (b : Bool) → p m ≡ b → IsAmong (filter p ns) n → IsAmong (filter p (m ∷ ns)) n
    go true e h = rw e (inr h)
    go false e h = rw e h

pub filter_among : (p : ℕ → Bool) (ns : List ℕ) (n : ℕ) → IsAmong (filter p ns) n → IsAmong ns n × (p n ≡ true)
filter_among p [] n among = absurd among
filter_among p (m ∷ ns) n among = go (p m) refl among (filter_among p ns n)
  where
    go : (b : Bool) → p m ≡ b → IsAmong (filter p (m ∷ ns)) n → (IsAmong (filter p ns) n → IsAmong ns n × (p n ≡ true)) → IsAmong (m ∷ ns) n × (p n ≡ true)
    go true e h later =
        let kept : (m ≡ n) ⊎ IsAmong (filter p ns) n = rw e at h in
        elim kept as (λ _. IsAmong (m ∷ ns) n × (p n ≡ true)) [
          | inl same ↦ (inl same, ap p (sym same) ∙ e)
          | inr rest ↦ (inr (later rest).0, (later rest).1)
        ]
    go false e h later =
        let kept : IsAmong (filter p ns) n = rw e at h in
        (inr (later kept).0, (later kept).1)

-- a number that is greater than all, at the end
pub push_ascends : (least : ℕ) (ns : List ℕ) (n : ℕ) → IsAscending least ns → least ≤ n → ((m : ℕ) → IsAmong ns m → m < n) → IsAscending least (ns ++ n ∷ [])
push_ascends least [] n up order all = (order, tt)
push_ascends least (m ∷ ns) n up order all = (up.0, push_ascends (suc m) ns n up.1 (all m (inl refl)) (λ k among. all k (inr among)))

-- one more number, which is greater than all, and numbers among one more
pub push_within : (count more : ℕ) (ns : List ℕ) (n : ℕ) → more ≡ count + 1 → n ≡ more → AreNumbersWithin count ns → AreNumbersWithin more (ns ++ n ∷ [])
push_within count more ns n longer is h = record {
  ascend = push_ascends 1 ns n h.ascend (omega (arith, longer, is)) (λ m among. (let few = (h.within m among).1 in omega (arith, few, longer, is)));
  within = λ m among. go m (push_among ns n m among);
}
  where
    go : (m : ℕ) → IsAmong ns m ⊎ (n ≡ m) → (0 < m) × (m ≤ more)
    go m (inl among) = (let there = h.within m among in (there.0, (let few = there.1 in omega (arith, few, longer))))
    go m (inr last) = (omega (arith, longer, is, last), omega (arith, is, last))

pub more_within : (count more : ℕ) (ns : List ℕ) → count ≤ more → AreNumbersWithin count ns → AreNumbersWithin more ns
more_within count more ns longer h = record {
  ascend = h.ascend;
  within = λ m among. (let there = h.within m among in (there.0, (let few = there.1 in omega (arith, few, longer))));
}

-- what has a number with an item more, where it isn't that item's
pub numbered_kept : {X : Type 0} (xs : List X) (y : X) (n : ℕ) → 0 < n → n ≤ length xs → numbered (xs ++ y ∷ []) n ≡ numbered xs n
numbered_kept xs y zero some few = absurd (omega (arith, some))
numbered_kept xs y (suc k) some few = go xs y k (omega (arith, few))
  where
    go : {X : Type 0} (xs : List X) (y : X) (k : ℕ) → k < length xs → slice_get (xs ++ y ∷ []) k ≡ slice_get xs k
    go [] y k few = absurd (omega (arith, few))
    go (z ∷ xs) y zero few = refl
    go (z ∷ xs) y (suc k) few = go xs y k (omega (arith, few))

-- what stands at a place stands in the list, and the other way round
pub place_among : (ns : List ℕ) (j d : ℕ) → j < length ns → IsAmong ns (get_or ns j d)
place_among [] j d within = absurd (omega arith)
place_among (m ∷ ns) zero d within = inl refl
place_among (m ∷ ns) (suc j) d within = inr (place_among ns j d (omega arith))

at_least : (least : ℕ) (ns : List ℕ) (j d : ℕ) → IsAscending least ns → j < length ns → least ≤ get_or ns j d
at_least least [] j d up within = absurd (omega arith)
at_least least (m ∷ ns) zero d up within = up.0
at_least least (m ∷ ns) (suc j) d up within = let first = up.0 in let later = at_least (suc m) ns j d up.1 (omega arith) in omega (arith, first, later)

-- numbers that ascend fall nowhere
pub rising : (least : ℕ) (ns : List ℕ) → IsAscending least ns → (i j d : ℕ) → i ≤ j → j < length ns → get_or ns i d ≤ get_or ns j d
rising least [] up i j d order within = absurd (omega arith)
rising least (m ∷ ns) up zero zero d order within = omega arith
rising least (m ∷ ns) up zero (suc j) d order within = let later = at_least (suc m) ns j d up.1 (omega arith) in omega (arith, later)
rising least (m ∷ ns) up (suc i) zero d order within = absurd (omega arith)
rising least (m ∷ ns) up (suc i) (suc j) d order within = rising (suc m) ns up.1 i j d (omega arith) (omega arith)

pub among_place : (ns : List ℕ) (n : ℕ) → IsAmong ns n → (j : ℕ) × (j < length ns) × (get_or ns j 0 ≡ n)
among_place [] n among = absurd among
among_place (m ∷ ns) n (inl same) = (zero, omega arith, same)
among_place (m ∷ ns) n (inr rest) = let later = among_place ns n rest in (suc later.0, (let within = later.1 in omega (arith, within)), later.2)
