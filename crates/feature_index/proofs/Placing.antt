-- Entries in ascending order: where one stands, is put in and is taken out.
use Rattle.std.proofs.Common.{◌≡◌, ℕ, zero, suc, ◌+◌, ◌<◌, ◌≤◌, Bool, true, false, not, ◌||◌, cond, ltb, List, [], ◌∷◌, length, map, filter, take, get_or, refl, ap, sym, ◌∙◌, subst, arith, ltb-true, ltb-false}
use Rattle.std.specs.Prelude.{nat_lt, nat_eq, insert, remove, slice_get}
use Rattle.std.specs.List.{prefix_len}
use Rattle.std.specs.List.Sorted.{IsPartitionPoint, IsNonDecreasingBy}
use Rattle.std.proofs.lemmas.Bool.{ne_eqb, eqb-false}
use Rattle.std.proofs.lemmas.List.{take_all, length-map}
use Rattle.std.proofs.lemmas.List.Sums.{prefix_len_is}
use native.Mathlib.Numerals.{one-add}
use Rattle.spec_features.specs.Features.{are_at_most}
use Rattle.feature_index.specs.declared.index.Item.{Item}
use Rattle.feature_index.specs.Listed.{Listed, entries_of, IsAscending, is_listed, with_entry, without_entry, candidates_of}
use Rattle.feature_index.specs.Items.{listed_of, place_in, stands_at, is_entry}

-- a list that ascends from a number on ascends from a lesser one on
from_less : (less least : ℕ) (ns : List ℕ) → less ≤ least → IsAscending least ns → IsAscending less ns
from_less less least [] order up = tt
from_less less least (n ∷ ns) order up = (let first = up.0 in omega (arith, order, first), up.1)

-- entries that ascend fall nowhere
first_least : (least : ℕ) (items : List Item) (j : ℕ) (d : Item) → IsAscending least (entries_of (map listed_of items)) → j < length items → least ≤ (get_or items j d).entry
first_least least [] j d up within = absurd (omega arith)
first_least least (x ∷ xs) zero d up within = up.0
first_least least (x ∷ xs) (suc j) d up within = let first = up.0 in let later = first_least (x.entry + 1) xs j d up.1 (omega arith) in omega (arith, first, later)

pub rising : (least : ℕ) (items : List Item) → IsAscending least (entries_of (map listed_of items)) → IsNonDecreasingBy (λ x. x.entry) items
rising least [] up i j d order within = absurd (omega arith)
rising least (x ∷ xs) up zero zero d order within = omega arith
rising least (x ∷ xs) up zero (suc j) d order within = let later = first_least (x.entry + 1) xs j d up.1 (omega arith) in omega (arith, later)
rising least (x ∷ xs) up (suc i) zero d order within = absurd (omega arith)
rising least (x ∷ xs) up (suc i) (suc j) d order within = rising (x.entry + 1) xs up.1 i j d (omega arith) (omega arith)

-- The place before which all entries are less is the entry's.
prefix_len-map : {X Y : Type 0} (p : Y → Bool) (f : X → Y) (xs : List X) → prefix_len p (map f xs) ≡ prefix_len (λ x. p (f x)) xs
prefix_len-map p f [] = refl
prefix_len-map p f (x ∷ xs) = ap (λ n. cond (p (f x)) (1 + n) 0) (prefix_len-map p f xs)

pub point_is_place : (items : List Item) (e place : ℕ) → place ≤ length items → IsPartitionPoint (λ (x : Item). ltb x.entry e ≡ true) (λ (x : Item). ltb x.entry e ≡ false) items place → place ≡ place_in (map listed_of items) e
point_is_place items e place within point =
    let d : Item = record { entry = 0; features = record { lanes = [] } } in
    sym (prefix_len_is (λ (x : Item). ltb x.entry e) items place d within (λ k before. point.0 k d (omega arith) before) (λ inside. point.1 place d (omega arith) inside))
    ∙ sym (prefix_len-map (λ (l : Listed). ltb l.entry e) listed_of items)

-- what is done with items is done with what contracts see of them
pub insert-map : {X Y : Type 0} (f : X → Y) (xs : List X) (i : ℕ) (x : X) → map f (insert xs i x) ≡ insert (map f xs) i (f x)
insert-map f [] zero y = refl
insert-map f [] (suc i) y = refl
insert-map f (x ∷ xs) zero y = refl
insert-map f (x ∷ xs) (suc i) y = ap (λ l. f x ∷ l) (insert-map f xs i y)

pub remove-map : {X Y : Type 0} (f : X → Y) (xs : List X) (i : ℕ) → map f (remove xs i) ≡ remove (map f xs) i
remove-map f [] zero = refl
remove-map f [] (suc i) = refl
remove-map f (x ∷ xs) zero = refl
remove-map f (x ∷ xs) (suc i) = ap (λ l. f x ∷ l) (remove-map f xs i)

-- An entry is put in at its place.
pub put_in : (new : Listed) (ls : List Listed) → insert ls (place_in ls new.entry) new ≡ with_entry new ls
put_in new [] = refl
put_in new (l ∷ ls) = go (nat_lt l.entry new.entry) (put_in new ls)
  where
    go : (b : Bool) → insert ls (place_in ls new.entry) new ≡ with_entry new ls → insert (l ∷ ls) (cond b (1 + place_in ls new.entry) 0) new ≡ cond b (l ∷ with_entry new ls) (new ∷ l ∷ ls)
    go true later = ap (λ n. insert (l ∷ ls) n new) (one-add (place_in ls new.entry)) ∙ ap (λ rest. l ∷ rest) later
    go false later = refl

-- Entries that are greater than one don't hold it.
none_listed : (e least : ℕ) (ls : List Listed) → e < least → IsAscending least (entries_of ls) → is_listed e ls ≡ false
none_listed e least [] order up = refl
none_listed e least (l ∷ ls) order up =
    let first = up.0 in
    ap (λ b. b || is_listed e ls) (ne_eqb e l.entry (λ same. omega (arith, first, order, same))) ∙ none_listed e (l.entry + 1) ls (omega (arith, first, order)) up.1

nor_first : (a b : Bool) → a || b ≡ false → a ≡ false
nor_first true b h = cc
nor_first false b h = refl

nor_second : (a b : Bool) → a || b ≡ false → b ≡ false
nor_second true b h = cc
nor_second false b h = h

or_false : (b : Bool) → b || false ≡ b
or_false true = refl
or_false false = refl

strictly : (m n : ℕ) → m ≤ n → (m ≡ n → ⊥) → m + 1 ≤ n
strictly m n order other = grind arith

-- Entries ascend with one more that wasn't there.
pub with_ascends : (new : Listed) (least : ℕ) (ls : List Listed) → least ≤ new.entry → IsAscending least (entries_of ls) → is_listed new.entry ls ≡ false → IsAscending least (entries_of (with_entry new ls))
with_ascends new least [] order up none = (order, tt)
with_ascends new least (l ∷ ls) order up none = go (nat_lt l.entry new.entry) refl (λ less. with_ascends new (l.entry + 1) ls less up.1 (nor_second (nat_eq new.entry l.entry) (is_listed new.entry ls) none))
  where
    go : (b : Bool) → nat_lt l.entry new.entry ≡ b → (l.entry + 1 ≤ new.entry → IsAscending (l.entry + 1) (entries_of (with_entry new ls))) → IsAscending least (entries_of (cond b (l ∷ with_entry new ls) (new ∷ l ∷ ls)))
    go true e later = (up.0, later (let less = ltb-true l.entry new.entry e in omega (arith, less)))
    go false e later =
        let above = ltb-false l.entry new.entry e in
        let other = eqb-false new.entry l.entry (nor_first (nat_eq new.entry l.entry) (is_listed new.entry ls) none) in
        (order, (strictly new.entry l.entry above other, up.1))

-- What stands at its place tells whether an entry is there.
pub stands_where_listed : (e least : ℕ) (ls : List Listed) → IsAscending least (entries_of ls) → stands_at ls (place_in ls e) e ≡ is_listed e ls
stands_where_listed e least [] up = refl
stands_where_listed e least (l ∷ ls) up = go (nat_lt l.entry e) refl (stands_where_listed e (l.entry + 1) ls up.1)
  where
    go : (b : Bool) → nat_lt l.entry e ≡ b → stands_at ls (place_in ls e) e ≡ is_listed e ls → is_entry (slice_get (l ∷ ls) (cond b (1 + place_in ls e) 0)) e ≡ (nat_eq e l.entry || is_listed e ls)
    go true h later =
        let less = ltb-true l.entry e h in
        ap (λ n. is_entry (slice_get (l ∷ ls) n) e) (one-add (place_in ls e))
        ∙ (later ∙ ap (λ b. b || is_listed e ls) (sym (ne_eqb e l.entry (λ same. omega (arith, less, same)))))
    go false h later =
        let order = ltb-false l.entry e h in
        sym (ap (λ b. nat_eq e l.entry || b) (none_listed e (l.entry + 1) ls (omega (arith, order)) up.1) ∙ or_false (nat_eq e l.entry))

-- Where an entry isn't there, all are all but it.
pub without_none : (e : ℕ) (ls : List Listed) → is_listed e ls ≡ false → ls ≡ without_entry e ls
without_none e [] none = refl
without_none e (l ∷ ls) none =
    ap (λ rest. l ∷ rest) (without_none e ls (nor_second (nat_eq e l.entry) (is_listed e ls) none))
    ∙ ap (λ b. cond (not b) (l ∷ without_entry e ls) (without_entry e ls)) (sym (nor_first (nat_eq e l.entry) (is_listed e ls) none))

-- An entry is taken out at its place.
pub taken_out : (e least : ℕ) (ls : List Listed) → IsAscending least (entries_of ls) → is_listed e ls ≡ true → remove ls (place_in ls e) ≡ without_entry e ls
taken_out e least [] up there = cc
taken_out e least (l ∷ ls) up there = go (nat_lt l.entry e) refl (taken_out e (l.entry + 1) ls up.1)
  where
    go : (b : Bool) → nat_lt l.entry e ≡ b → (is_listed e ls ≡ true → remove ls (place_in ls e) ≡ without_entry e ls) → remove (l ∷ ls) (cond b (1 + place_in ls e) 0) ≡ cond (not (nat_eq e l.entry)) (l ∷ without_entry e ls) (without_entry e ls)
    go true h later =
        let less = ltb-true l.entry e h in
        let other : nat_eq e l.entry ≡ false = ne_eqb e l.entry (λ same. omega (arith, less, same)) in
        ap (remove (l ∷ ls)) (one-add (place_in ls e))
        ∙ (ap (λ rest. l ∷ rest) (later (sym (ap (λ b. b || is_listed e ls) other) ∙ there))
        ∙ ap (λ b. cond (not b) (l ∷ without_entry e ls) (without_entry e ls)) (sym other))
    go false h later =
        let order = ltb-false l.entry e h in
        let none = none_listed e (l.entry + 1) ls (omega (arith, order)) up.1 in
        let same : nat_eq e l.entry ≡ true = sym (ap (λ b. nat_eq e l.entry || b) none ∙ or_false (nat_eq e l.entry)) ∙ there in
        without_none e ls none ∙ ap (λ b. cond (not b) (l ∷ without_entry e ls) (without_entry e ls)) (sym same)

-- Entries that pass a test ascend.
pub filter_ascends : (p : Listed → Bool) (least : ℕ) (ls : List Listed) → IsAscending least (entries_of ls) → IsAscending least (entries_of (filter p ls))
filter_ascends p least [] up = tt
filter_ascends p least (l ∷ ls) up = go (p l) (filter_ascends p (l.entry + 1) ls up.1)
  where
    go : (b : Bool) → IsAscending (l.entry + 1) (entries_of (filter p ls)) → IsAscending least (entries_of (cond b (l ∷ filter p ls) (filter p ls)))
    go true later = (up.0, later)
    go false later = let first = up.0 in from_less least (l.entry + 1) (entries_of (filter p ls)) (omega (arith, first)) later

-- What is found of the place of an entry.
pub record IsFound (now : List Listed) (e place : ℕ) : Type 0 where
  pub is : place ≡ place_in now e
  pub within : place ≤ length now
  pub standing : stands_at now place e ≡ is_listed e now

pub place_found : (items seen : List Item) (now : List Listed) (e place : ℕ) → seen ≡ items → map listed_of items ≡ now → IsAscending 0 (entries_of now) → place ≤ length seen
    → IsPartitionPoint (λ (x : Item). ltb x.entry e ≡ true) (λ (x : Item). ltb x.entry e ≡ false) seen place → IsFound now e place
place_found items seen now e place same is up within point =
    let here : place ≡ place_in now e = point_is_place seen e place within point ∙ (ap (λ l. place_in (map listed_of l) e) same ∙ ap (λ l. place_in l e) is) in
    record {
      is = here;
      within = omega (arith, within, ap length same, ap length is, length-map items listed_of);
      standing = ap (λ p. stands_at now p e) here ∙ stands_where_listed e 0 now up;
    }

-- The items with one that was put in, and without one that was taken out.
pub put_items : (items new : List Item) (now : List Listed) (place : ℕ) (x : Item) → map listed_of items ≡ now → place ≡ place_in now x.entry → new ≡ insert items place x → map listed_of new ≡ with_entry (listed_of x) now
put_items items new now place x is at e =
    ap (map listed_of) e ∙ (insert-map listed_of items place x ∙ ((λ i. insert (is i) (at i) (listed_of x)) ∙ put_in (listed_of x) now))

pub put_ascend : (items new : List Item) (now : List Listed) (place : ℕ) (x : Item) → map listed_of items ≡ now → place ≡ place_in now x.entry → new ≡ insert items place x → IsAscending 0 (entries_of (map listed_of items)) → is_listed x.entry now ≡ false
    → IsAscending 0 (entries_of (map listed_of new))
put_ascend items new now place x is at e up none =
    let before : IsAscending 0 (entries_of now) = subst (λ l. IsAscending 0 (entries_of l)) is up in
    subst (λ l. IsAscending 0 (entries_of l)) (sym (put_items items new now place x is at e)) (with_ascends (listed_of x) 0 now (omega arith) before none)

pub taken_items : (items new : List Item) (now : List Listed) (place e : ℕ) → map listed_of items ≡ now → place ≡ place_in now e → new ≡ remove items place → IsAscending 0 (entries_of (map listed_of items)) → is_listed e now ≡ true
    → map listed_of new ≡ without_entry e now
taken_items items new now place e is at gone up there =
    let before : IsAscending 0 (entries_of now) = subst (λ l. IsAscending 0 (entries_of l)) is up in
    ap (map listed_of) gone ∙ (remove-map listed_of items place ∙ ((λ i. remove (is i) (at i)) ∙ taken_out e 0 now before there))

pub taken_ascend : (items new : List Item) (now : List Listed) (place e : ℕ) → map listed_of items ≡ now → place ≡ place_in now e → new ≡ remove items place → IsAscending 0 (entries_of (map listed_of items)) → is_listed e now ≡ true
    → IsAscending 0 (entries_of (map listed_of new))
taken_ascend items new now place e is at gone up there =
    let before : IsAscending 0 (entries_of now) = subst (λ l. IsAscending 0 (entries_of l)) is up in
    subst (λ l. IsAscending 0 (entries_of l)) (sym (taken_items items new now place e is at gone up there)) (filter_ascends (λ l. not (nat_eq e l.entry)) 0 now before)

-- Candidates ascend.
pub candidates_ascend : (features : List ℕ) (items seen : List Item) (i : ℕ) (found : List ℕ) → length seen ≤ i → seen ≡ items → IsAscending 0 (entries_of (map listed_of items)) → found ≡ candidates_of features (map listed_of (take i seen)) → IsAscending 0 found
candidates_ascend features items seen i found past same up is =
    let whole : found ≡ candidates_of features (map listed_of items) = is ∙ ap (λ l. candidates_of features (map listed_of l)) (take_all i seen past ∙ same) in
    subst (IsAscending 0) (sym whole) (filter_ascends (λ l. are_at_most l.features features) 0 (map listed_of items) up)
