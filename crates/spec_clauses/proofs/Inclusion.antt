-- Inclusion of lists as multisets: what may be picked, and what is included.
use Rattle.std.proofs.Common.{◌≡◌, ℕ, zero, suc, ◌<◌, ◌⊎◌, Bool, true, false, cond, List, [], ◌∷◌, ◌++◌, map, length, get_or, refl, inl, inr, ⊎_elim, ◌↔◌, arith}
use Rattle.std.specs.Prelude.{Contains, Option, Some, None, filter, filter_map, flat_map}
use Rattle.std.specs.List.{AllByRecursion, cons_option}
use Rattle.spec_clauses.specs.Inclusion.{Picks, here, there, Has, IsWithin}

module _ {X : Type 0} where
  -- of two picks in a row the second may come first
  pub pick_swap : {xs ys zs : List X} {x y : X} → Picks xs x ys → Picks ys y zs → (rest : List X) × Picks xs y rest × Picks rest x zs
  pick_swap (here {xs = ys}) q = (_, there q, here)
  pick_swap (there p) here = (_, here, p)
  pick_swap (there p) (there q) = let found = pick_swap p q in (_, there found.1, there found.2)

  -- what is picked out of a list is picked out of it with more at its end, or in front of it
  pub pick-append_left : {xs rest : List X} {x : X} → Picks xs x rest → (ys : List X) → Picks (xs ++ ys) x (rest ++ ys)
  pick-append_left here ys = here
  pick-append_left (there p) ys = there (pick-append_left p ys)

  pub pick-append_right : (xs : List X) {ys rest : List X} {y : X} → Picks ys y rest → Picks (xs ++ ys) y (xs ++ rest)
  pick-append_right [] p = p
  pick-append_right (x ∷ xs) p = there (pick-append_right xs p)

  pub Has-append_left : (xs ys : List X) (x : X) → Has xs x → Has (xs ++ ys) x
  Has-append_left xs ys x h = (h.0 ++ ys, pick-append_left h.1 ys)

  pub Has-append_right : (xs ys : List X) (y : X) → Has ys y → Has (xs ++ ys) y
  Has-append_right xs ys y h = (xs ++ h.0, pick-append_right xs h.1)

  -- and what is picked out of both comes out of one
  pub pick-append : (xs ys : List X) {x : X} {rest : List X} → Picks (xs ++ ys) x rest → Has xs x ⊎ Has ys x
  pick-append [] ys {x} {rest} p = inr (rest, p)
  pick-append (z ∷ xs) ys here = inl (xs, here)
  pick-append (z ∷ xs) ys {x} (there p) = elim (pick-append xs ys p) [
    | inl first ↦ inl (z ∷ first.0, there first.1)
    | inr second ↦ inr second
  ]

  pub Has-append : (xs ys : List X) (x : X) → Has (xs ++ ys) x ↔ (Has xs x ⊎ Has ys x)
  Has-append xs ys x = (λ h. pick-append xs ys h.1, ⊎_elim (Has-append_left xs ys x) (Has-append_right xs ys x))

  -- inclusion is reflexive
  pub within_self : (xs : List X) → IsWithin xs xs
  within_self [] = tt
  within_self (x ∷ xs) = (xs, here, within_self xs)

  -- what is picked out of an included list is picked out of the other, and the rest stays included
  pub within-pick : {ys rest : List X} {x : X} (zs : List X) → Picks ys x rest → IsWithin ys zs → (left : List X) × Picks zs x left × IsWithin rest left
  within-pick zs here h = h
  within-pick zs (there p) h =
      let (left, q, w) = within-pick h.0 p h.2 in
      let (left_of, first, second) = pick_swap h.1 q in (left_of, first, (left, second, w))

  -- and transitive
  pub within-trans : (xs ys zs : List X) → IsWithin xs ys → IsWithin ys zs → IsWithin xs zs
  within-trans [] ys zs h k = tt
  within-trans (x ∷ xs) ys zs h k =
      let (left, p, w) = within-pick zs h.1 k in (left, p, within-trans xs h.0 left h.2 w)

  -- more in the second list, on either side
  pub within-more_left : (xs ys zs : List X) → IsWithin xs zs → IsWithin xs (ys ++ zs)
  within-more_left [] ys zs h = tt
  within-more_left (x ∷ xs) ys zs h = (ys ++ h.0, pick-append_right ys h.1, within-more_left xs ys h.0 h.2)

  pub within-more_right : (xs ys zs : List X) → IsWithin xs ys → IsWithin xs (ys ++ zs)
  within-more_right [] ys zs h = tt
  within-more_right (x ∷ xs) ys zs h = (h.0 ++ zs, pick-append_left h.1 zs, within-more_right xs h.0 zs h.2)

  -- two lists in two lists
  pub within-append : (xs ys us vs : List X) → IsWithin xs us → IsWithin ys vs → IsWithin (xs ++ ys) (us ++ vs)
  within-append [] ys us vs h k = within-more_left ys us vs k
  within-append (x ∷ xs) ys us vs h k = (h.0 ++ vs, pick-append_left h.1 vs, within-append xs ys h.0 vs h.2 k)

  -- a front of an included list is included, and the rest of what is left
  pub within-split : (xs ys zs : List X) → IsWithin (xs ++ ys) zs → (left : List X) × IsWithin ys left × ((more : List X) → IsWithin more left → IsWithin (xs ++ more) zs)
  within-split [] ys zs h = (zs, h, λ more w. w)
  within-split (x ∷ xs) ys zs h = let (left, w, back) = within-split xs ys h.0 h.2 in (left, w, λ more v. (h.0, h.1, back more v))

  -- neighbours may change places
  pub within-exchange : (xs ys zs : List X) → IsWithin (xs ++ (ys ++ zs)) (ys ++ (xs ++ zs))
  within-exchange [] ys zs = within_self (ys ++ zs)
  within-exchange (x ∷ xs) ys zs = (ys ++ (xs ++ zs), pick-append_right ys here, within-exchange xs ys zs)

  -- what is picked may be put in front
  pub pick-within : {xs rest : List X} {x : X} → Picks xs x rest → IsWithin (x ∷ rest) xs
  pick-within {rest} p = (rest, p, within_self rest)

  -- and the picked list is the same again as that
  pub within-picked : {xs rest : List X} {x : X} → Picks xs x rest → IsWithin xs (x ∷ rest)
  within-picked (here {x = x} {xs = xs}) = within_self (x ∷ xs)
  within-picked (there {x = x} {y = y} {rest = rest} p) = (x ∷ rest, there here, within-picked p)

  -- what an included list has, the other has
  pub Has-within : (xs ys : List X) (x : X) → IsWithin xs ys → Has xs x → Has ys x
  Has-within xs ys x h k = let found = within-pick ys k.1 h in (found.0, found.1)

  -- an item at an index
  pub Has-from_Contains : (xs : List X) (x : X) → Contains xs x → Has xs x
  Has-from_Contains xs x c = at_index xs c.0 c.1 c.2 where
    at_index : (ys : List X) (k : ℕ) → k < length ys → get_or ys k x ≡ x → Has ys x
    at_index [] k l e = absurd (omega arith)
    at_index (y ∷ ys) zero l e = rw (← e) (ys, here)
    at_index (y ∷ ys) (suc k) l e = let found = at_index ys k (omega arith) e in (y ∷ found.0, there found.1)

  pub Contains-from_Has : (xs : List X) (x : X) → Has xs x → Contains xs x
  Contains-from_Has xs x h = of_pick h.1 where
    of_pick : {ys rest : List X} {x : X} → Picks ys x rest → Contains ys x
    of_pick here = (0, omega arith, refl)
    of_pick (there p) = let (k, l, e) = of_pick p in (suc k, omega arith, e)

module _ {X Y : Type 0} (f : X → Y) where
  pub pick-map : {xs rest : List X} {x : X} → Picks xs x rest → Picks (map f xs) (f x) (map f rest)
  pick-map here = here
  pick-map (there p) = there (pick-map p)

  pub within-map : (xs ys : List X) → IsWithin xs ys → IsWithin (map f xs) (map f ys)
  within-map [] ys h = tt
  within-map (x ∷ xs) ys h = (map f h.0, pick-map h.1, within-map xs h.0 h.2)

  -- an item of a mapped list is that of an item
  pub Has-map_source : (xs : List X) (y : Y) → Has (map f xs) y → (x : X) × Has xs x × (y ≡ f x)
  Has-map_source xs y h = of_pick xs h.1 where
    of_pick : (xs : List X) {y : Y} {rest : List Y} → Picks (map f xs) y rest → (x : X) × Has xs x × (y ≡ f x)
    of_pick [] p = elim p [ ]
    of_pick (x ∷ xs) here = (x, (xs, here), refl)
    of_pick (x ∷ xs) (there p) = let (z, found, e) = of_pick xs p in (z, (x ∷ found.0, there found.1), e)

module _ {X Y : Type 0} (f : X → List Y) where
  -- what is made of a picked item is in front, or may be put there
  pub within-flat_map_pick : {xs rest : List X} {x : X} → Picks xs x rest → IsWithin (f x ++ flat_map f rest) (flat_map f xs)
  within-flat_map_pick (here {x = x} {xs = xs}) = within_self (f x ++ flat_map f xs)
  within-flat_map_pick (there {x = x} {y = y} {xs = xs} {rest = rest} p) =
      within-trans (f x ++ (f y ++ flat_map f rest)) (f y ++ (f x ++ flat_map f rest)) (f y ++ flat_map f xs)
      (within-exchange (f x) (f y) (flat_map f rest))
      (within-append (f y) (f x ++ flat_map f rest) (f y) (flat_map f xs) (within_self (f y)) (within-flat_map_pick p))

  pub within-flat_map : (xs ys : List X) → IsWithin xs ys → IsWithin (flat_map f xs) (flat_map f ys)
  within-flat_map [] ys h = tt
  within-flat_map (x ∷ xs) ys h =
      within-trans (f x ++ flat_map f xs) (f x ++ flat_map f h.0) (flat_map f ys)
      (within-append (f x) (flat_map f xs) (f x) (flat_map f h.0) (within_self (f x)) (within-flat_map xs h.0 h.2))
      (within-flat_map_pick h.1)

  pub Has-flat_map : (xs : List X) (x : X) (y : Y) → Has xs x → Has (f x) y → Has (flat_map f xs) y
  Has-flat_map xs x y h k = Has-within (f x ++ flat_map f h.0) (flat_map f xs) y (within-flat_map_pick h.1) (Has-append_left (f x) (flat_map f h.0) y k)

  -- and an item of the whole is made of some item
  pub Has-flat_map_source : (xs : List X) (y : Y) → Has (flat_map f xs) y → (x : X) × Has xs x × Has (f x) y
  Has-flat_map_source [] y h = elim h.1 [ ]
  Has-flat_map_source (x ∷ xs) y h = elim (pick-append (f x) (flat_map f xs) h.1) as (λ _. (z : X) × Has (x ∷ xs) z × Has (f z) y) [
    | inl first ↦ (x, (xs, here), first)
    | inr later ↦ (let (z, found, k) = Has-flat_map_source xs y later in (z, (x ∷ found.0, there found.1), k))
  ]

-- what a filter keeps
pub Has-filter : {X : Type 0} (test : X → Bool) (xs : List X) (x : X) → Has xs x → test x ≡ true → Has (filter test xs) x
Has-filter {X} test xs x h e = of_pick h.1 e where
  of_pick : {xs rest : List X} {x : X} → Picks xs x rest → test x ≡ true → Has (filter test xs) x
  of_pick (here {x = x} {xs = xs}) e = rw e (filter test xs, here)
  of_pick (there {x = x} {y = y} {xs = xs} p) e = go (test y) (of_pick p e) where
    go : (b : Bool) → Has (filter test xs) x → Has (cond b (y ∷ filter test xs) (filter test xs)) x
    go true k = (y ∷ k.0, there k.1)
    go false k = k

pub Has-filter_source : {X : Type 0} (test : X → Bool) (xs : List X) (x : X) → Has (filter test xs) x → Has xs x × (test x ≡ true)
Has-filter_source test [] x h = elim h.1 [ ]
Has-filter_source {X} test (y ∷ xs) x h = go (Has-filter_source test xs x) (test y) refl h where
  later : Has xs x × (test x ≡ true) → Has (y ∷ xs) x × (test x ≡ true)
  later k = ((y ∷ k.0.0, there k.0.1), k.1)

  first : test y ≡ true → {x : X} {rest : List X} → Picks (y ∷ filter test xs) x rest → (Has (filter test xs) x → Has xs x × (test x ≡ true)) → Has (y ∷ xs) x × (test x ≡ true)
  first e here below = ((xs, here), e)
  first e (there {rest = left} p) below = let k = below (left, p) in ((y ∷ k.0.0, there k.0.1), k.1)

  go : (Has (filter test xs) x → Has xs x × (test x ≡ true)) → (b : Bool) → test y ≡ b → Has (cond b (y ∷ filter test xs) (filter test xs)) x → Has (y ∷ xs) x × (test x ≡ true)
  go below true e k = first e k.1 below
  go below false e k = later (below k)

-- what a filter makes of an item that it keeps
pub Has-filter_map : {X Y : Type 0} (h : X → Option Y) (xs : List X) (x : X) (y : Y) → Has xs x → h x ≡ Some y → Has (filter_map h xs) y
Has-filter_map {X} {Y} h xs x y k e = of_pick k.1 e where
  of_pick : {xs rest : List X} {x : X} → Picks xs x rest → h x ≡ Some y → Has (filter_map h xs) y
  of_pick (here {xs = xs}) e = rw e (filter_map h xs, here)
  of_pick (there {y = z} {xs = xs} p) e = go (h z) (of_pick p e) where
    go : (o : Option Y) → Has (filter_map h xs) y → Has (cons_option o (filter_map h xs)) y
    go (Some w) k = (w ∷ k.0, there k.1)
    go None k = k

-- where a picked item gives one, that is picked out of what all give
pub pick-flat_map : {X Y : Type 0} (f : X → List Y) {xs rest : List X} {x : X} {y : Y} → Picks xs x rest → f x ≡ y ∷ [] → Picks (flat_map f xs) y (flat_map f rest)
pick-flat_map f (here {x = x} {xs = xs}) e = rw e here
pick-flat_map f (there {y = z} p) e = pick-append_right (f z) (pick-flat_map f p e)

-- a list of one item has that alone
pub Has-one : {X : Type 0} {x y : X} → Has (y ∷ []) x → x ≡ y
Has-one {X} h = of_pick h.1 where
  of_pick : {x y : X} {rest : List X} → Picks (y ∷ []) x rest → x ≡ y
  of_pick here = refl
  of_pick (there p) = elim p [ ]

pub Has-map : {X Y : Type 0} (f : X → Y) (xs : List X) (x : X) → Has xs x → Has (map f xs) (f x)
Has-map f xs x h = (map f h.0, pick-map f h.1)

-- what holds of each item holds of one that the list has
pub all_has : {X : Type 0} (P : X → Type 0) (xs : List X) (x : X) → AllByRecursion P xs → Has xs x → P x
all_has {X} P xs x all h = of_pick h.1 all where
  of_pick : {ys rest : List X} {y : X} → Picks ys y rest → AllByRecursion P ys → P y
  of_pick here all = all.0
  of_pick (there p) all = of_pick p all.1
