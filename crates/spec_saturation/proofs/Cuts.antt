-- What stands below a key in a sorted list: its front.
use Rattle.std.proofs.Common.{◌≡◌, ◌∙◌, ◌<◌, ◌≤◌, Bool, true, false, cond, List, [], ◌∷◌, ◌++◌, length, refl, ap, sym, append-nil, true≢false, arith}
use Rattle.std.specs.List.{AllByRecursion}
use Rattle.std.proofs.lemmas.List.Elements.{filter-append}
use Rattle.spec_clauses.specs.Inclusion.{Picks, here, there, Has}
use Rattle.spec_clauses.proofs.Lists.{all_filter}
use Rattle.spec_saturation.specs.Key.{Key, is_before, Entry, below}
use Rattle.spec_saturation.specs.End.{AreSorted}
use Rattle.spec_saturation.proofs.Keys.{never_before_itself, before_trans}

-- each entry's key is before k; k is before each entry's key
abbrev pub AreBefore : Key → List Entry → Type 0
AreBefore k entries = AllByRecursion (λ e. is_before e.key k ≡ true) entries

abbrev pub AreAfter : Key → List Entry → Type 0
AreAfter k entries = AllByRecursion (λ e. is_before k e.key ≡ true) entries

-- a key that is after another isn't before it
pub after_not_before : (a b : Key) → is_before a b ≡ true → is_before b a ≡ false
after_not_before a b h = go (is_before b a) refl where
  go : (t : Bool) → is_before b a ≡ t → t ≡ false
  go true e = absurd (never_before_itself a (before_trans a b a h e))
  go false e = refl

-- what is before k stays, and what is after it goes
pub below_before : (k : Key) (entries : List Entry) → AreBefore k entries → below k entries ≡ entries
below_before k [] a = refl
below_before k (e ∷ es) a = rw a.0 (ap (λ rest. e ∷ rest) (below_before k es a.1))

pub below_after : (k : Key) (entries : List Entry) → AreAfter k entries → below k entries ≡ []
below_after k [] a = refl
below_after k (e ∷ es) a = rw (after_not_before k e.key a.0) (below_after k es a.1)

pub below_front : (k : Key) (front rest : List Entry) → AreBefore k front → AreAfter k rest → below k (front ++ rest) ≡ front
below_front k front rest a b =
    filter-append (λ e. is_before e.key k) front rest
    ∙ (ap (λ xs. xs ++ below k rest) (below_before k front a) ∙ (ap (λ ys. front ++ ys) (below_after k rest b) ∙ append-nil front))

-- below the key of an entry itself
pub below_self : (e : Entry) (rest : List Entry) → AreAfter e.key rest → below e.key (e ∷ rest) ≡ []
below_self e rest a = go (is_before e.key e.key) refl where
  go : (t : Bool) → is_before e.key e.key ≡ t → cond t (e ∷ below e.key rest) (below e.key rest) ≡ []
  go true h = absurd (never_before_itself e.key h)
  go false h = below_after e.key rest a

pub below_entry : (front : List Entry) (e : Entry) (rest : List Entry) → AreBefore e.key front → AreAfter e.key rest → below e.key (front ++ e ∷ rest) ≡ front
below_entry front e rest a b =
    filter-append (λ x. is_before x.key e.key) front (e ∷ rest)
    ∙ (ap (λ xs. xs ++ below e.key (e ∷ rest)) (below_before e.key front a) ∙ (ap (λ ys. front ++ ys) (below_self e rest b) ∙ append-nil front))

-- an entry of a sorted list stands after its front and before what follows
pub sorted_front : (front : List Entry) (e : Entry) (rest : List Entry) → AreSorted (front ++ e ∷ rest) → AreBefore e.key front
sorted_front [] e rest a = tt
sorted_front (x ∷ front) e rest a = (last_of front a.0, sorted_front front e rest a.1) where
  last_of : (xs : List Entry) → AllByRecursion (λ later. is_before x.key later.key ≡ true) (xs ++ e ∷ rest) → is_before x.key e.key ≡ true
  last_of [] a = a.0
  last_of (y ∷ ys) a = last_of ys a.1

pub sorted_rest : (front : List Entry) (e : Entry) (rest : List Entry) → AreSorted (front ++ e ∷ rest) → AreAfter e.key rest
sorted_rest [] e rest a = a.0
sorted_rest (x ∷ front) e rest a = sorted_rest front e rest a.1

-- what stands below a key of a sorted list is sorted
pub sorted_below : (k : Key) (entries : List Entry) → AreSorted entries → AreSorted (below k entries)
sorted_below k [] a = tt
sorted_below k (e ∷ es) a = go (is_before e.key k) (sorted_below k es a.1) where
  go : (b : Bool) → AreSorted (below k es) → AreSorted (cond b (e ∷ below k es) (below k es))
  go true kept = (all_filter (λ later. is_before e.key later.key ≡ true) (λ x. is_before x.key k) es a.0, kept)
  go false kept = kept

-- below a key, what stands below a later key is all that stands
pub below_below : (j k : Key) (entries : List Entry) → ((i : Key) → is_before i j ≡ true → is_before i k ≡ true) → below j (below k entries) ≡ below j entries
below_below j k [] later = refl
below_below j k (e ∷ es) later = go (is_before e.key k) (is_before e.key j) refl refl (below_below j k es later) where
  go : (b c : Bool) → is_before e.key k ≡ b → is_before e.key j ≡ c → below j (below k es) ≡ below j es → below j (cond b (e ∷ below k es) (below k es)) ≡ cond c (e ∷ below j es) (below j es)
  go true true p q h = rw q (ap (λ xs. e ∷ xs) h)
  go true false p q h = rw q h
  go false true p q h = let r = later e.key q in absurd (true≢false (sym r ∙ p))
  go false false p q h = h

-- fewer stand below a key than there are, where an entry stands that isn't below it
pub fewer_below : (k : Key) (entries : List Entry) (e : Entry) → Has entries e → is_before e.key k ≡ false → length (below k entries) < length entries
fewer_below k entries e h not_below = of_pick h.1 not_below where
  no_more : (xs : List Entry) → length (below k xs) ≤ length xs
  no_more [] = omega arith
  no_more (x ∷ xs) = go (is_before x.key k) (no_more xs) where
    go : (b : Bool) → length (below k xs) ≤ length xs → length (cond b (x ∷ below k xs) (below k xs)) ≤ length (x ∷ xs)
    go true h = omega arith
    go false h = omega arith

  of_pick : {xs rest : List Entry} {x : Entry} → Picks xs x rest → is_before x.key k ≡ false → length (below k xs) < length xs
  of_pick (here {xs = xs}) n = rw n (let h = no_more xs in omega arith)
  of_pick (there {y = y} {xs = xs} p) n = go (is_before y.key k) (of_pick p n) where
    go : (b : Bool) → length (below k xs) < length xs → length (cond b (y ∷ below k xs) (below k xs)) < length (y ∷ xs)
    go true h = omega arith
    go false h = omega arith
