-- Entries that are found by their table and by what stands in a column: all that match are among them.
use Rattle.std.proofs.Common.{◌≡◌, ℕ, zero, suc, ◌+◌, ◌<◌, ◌≤◌, ◌⊎◌, Bool, true, false, ◌||◌, cond, nat_eq, List, [], ◌∷◌, ◌++◌, length, get_or, map, slice_get, Option, None, Some, is_some, option_and_then, option_map, inl, inr, refl, sym, ap, ◌∙◌, subst, arith}
use Rattle.std.proofs.lemmas.Bool.{cases_lt, eqb-true, eq-eqb}
use Rattle.std.proofs.lemmas.List.{length-map}
use Rattle.std.proofs.lemmas.Option.{slice_get-map, slice_get_read, slice_get_past, slice_get_within}
use Rattle.std.specs.List.{list_any, flat_map}
use Rattle.std.specs.Option.{option_map_or}
use Rattle.spec_trees.specs.Tree.{Leaf, trees}
use Rattle.spec_trees.proofs.Occurrence.{or_true}
use Rattle.spec_calculus.proofs.Equality.{same_value-sound}
use Rattle.spec_calculus.specs.Limits.{is_large}
use Rattle.spec_calculus.specs.Matching.{matched, matched_row}
use Rattle.spec_calculus.specs.Syntax.{Term, Pattern, Equal}
use Rattle.spec_calculus.specs.Tables.{Held, row_pattern, row_value, row_matched}
use Rattle.spec_calculus.specs.Values.{Value, Environment, same_value, value_of}
use Rattle.fact_classes.specs.declared.classes.Classes.{Classes}
use Rattle.fact_classes.specs.Classes.{listed, IsClassListed}
use Rattle.pi_tree.specs.declared.syntax.Pat as source_pattern
use Rattle.pi_tree.specs.Patterns.{pattern_of}
use Rattle.pi_tree.specs.declared.value_trees.Value as source
use Rattle.pi_tree.specs.Values as seen
use Rattle.term_values.proofs.Room.{any-append}
use Rattle.held_entries.specs.declared.entries.Held as source_held
use Rattle.held_entries.specs.declared.entries.Question.{Question}
use Rattle.held_entries.specs.declared.entries.Question.TheVariants.{IsTaken, HasLarge}
use Rattle.held_entries.specs.declared.wanted.Wanted.{Wanted}
use Rattle.held_entries.specs.Entries.{held_of, asked_by}
use Rattle.held_entries.specs.Keys.{table_class, class_at}
use Rattle.held_entries.specs.Wanted.{IsClassOf}
use Rattle.held_entries.specs.Index.{is_among, is_listed, HasAll, IsListed, IsIndexOf, AreCandidates, answer_of, answer_at}
use Rattle.held_entries.proofs.Taking.{large-first}

-- the pattern of a column, by its index
pub column-pattern : (items : List source_pattern.Pat) (column : ℕ) (x : source_pattern.Pat) → column < length items → x ≡ get_or items column x → slice_get (map pattern_of items) column ≡ Some (pattern_of x)
column-pattern items column x within at = slice_get-map pattern_of items column ∙ ap (option_map pattern_of) (slice_get_read items (length items) column x refl within at)

pub ruleset of_columns = (column-pattern)

-- a class is the table's, or a column's
pub class-of_table : (wanted : Wanted) (table class : ℕ) → class ≡ table_class table → IsClassOf wanted table class
class-of_table wanted table class is = inl is

pub class-of_column : (wanted : Wanted) (table class column : ℕ) (term : Term) (v : Value) → slice_get wanted.patterns.now column ≡ Some (Leaf (Equal term)) → v ≡ value_of wanted.environment.now term → class ≡ class_at table column v → IsClassOf wanted table class
class-of_column wanted table class column term v compared value is =
    inr (record { column = column; term = term; compared = compared; is_class = is ∙ ap (class_at table column) value })

pub ruleset of_classes = (class-of_table, class-of_column)

-- numbers in lists
or_later : (a b : Bool) → b ≡ true → (a || b) ≡ true
or_later true b h = refl
or_later false b h = h

among_first : (front behind : List ℕ) (n : ℕ) → is_among front n ≡ true → is_among (front ++ behind) n ≡ true
among_first front behind n h = any-append (λ k. nat_eq k n) front behind ∙ ap (λ b. b || is_among behind n) h

among_last : (front : List ℕ) (n : ℕ) → is_among (front ++ n ∷ []) n ≡ true
among_last front n =
    any-append (λ k. nat_eq k n) front (n ∷ []) ∙ or_later (is_among front n) (is_among (n ∷ []) n) (ap (λ b. b || false) (eq-eqb n n refl))

among_any : (test : ℕ → Bool) (numbers : List ℕ) (n : ℕ) → is_among numbers n ≡ true → test n ≡ true → list_any test numbers ≡ true
among_any test [] n h t = cc
among_any test (k ∷ ks) n h t = elim (or_true (nat_eq k n) (is_among ks n) h) [
  | inl same ↦ (let is : k ≡ n = eqb-true k n same in ap (λ b. b || list_any test ks) (ap test is ∙ t))
  | inr later ↦ or_later (test k) (list_any test ks) (among_any test ks n later t)
]

-- one more number in a class
module _ (old new : Classes) (class n : ℕ) (put : IsClassListed (Some class) n old new) where
  put_here : is_listed new class n ≡ true
  put_here = ap (λ ns. is_among ns n) put.here ∙ among_last (listed old (Some class)) n

  put_keeps : HasAll old new
  put_keeps k m h = kept (nat_eq k class) refl
    where
      kept : (b : Bool) → nat_eq k class ≡ b → is_listed new k m ≡ true
      kept true same = let is : k ≡ class = eqb-true k class same in
          subst (λ j. is_listed new j m ≡ true) (sym is)
          (ap (λ ns. is_among ns m) put.here ∙ among_first (listed old (Some class)) (n ∷ []) m (subst (λ j. is_listed old j m ≡ true) is h))
      kept false other = ap (λ ns. is_among ns m) (put.elsewhere (Some k) (λ one. (let is : k ≡ class = cc in let bad = sym other ∙ eq-eqb k class is in cc bad))) ∙ h

-- an entry that is being listed: with its table, and with the first of its columns
pub record IsListing (before now : Classes) (held : Held) (n column : ℕ) : Type 0 where
  pub kept : HasAll before now
  pub table : is_listed now (table_class held.table) n ≡ true
  pub columns : (j : ℕ) (v : Value) → j < column → slice_get held.arguments j ≡ Some v → is_listed now (class_at held.table j v) n ≡ true

pub listing-init : (before now : Classes) (held : Held) (n class : ℕ) → class ≡ table_class held.table → IsClassListed (Some class) n before now → IsListing before now held n 0
listing-init before now held n class is put = record {
  kept = put_keeps before now class n put;
  table = subst (λ k. is_listed now k n ≡ true) is (put_here before now class n put);
  columns = λ j v less there. absurd (omega (arith, less));
}

one_value : (args : List Value) (i j : ℕ) (v w : Value) → i ≡ j → slice_get args i ≡ Some v → slice_get args j ≡ Some w → v ≡ w
one_value args i j v w same at there = let e : Some v ≡ Some w = sym at ∙ (ap (slice_get args) same ∙ there) in cc

pub listing-more : (before old new : Classes) (held : Held) (n column class : ℕ) (v : Value) → IsListing before old held n column → class ≡ class_at held.table column v → slice_get held.arguments column ≡ Some v → IsClassListed (Some class) n old new → IsListing before new held n (column + 1)
listing-more before old new held n column class v so is at put = record {
  kept = λ k m h. put_keeps old new class n put k m (so.kept k m h);
  table = put_keeps old new class n put (table_class held.table) n so.table;
  columns = λ j w less there. elim (cases_lt j column) [
    | inl below ↦ put_keeps old new class n put (class_at held.table j w) n (so.columns j w below there)
    | inr le ↦ (
        let same : column ≡ j = omega (arith, less, le) in
        let value = one_value held.arguments column j v w same at there in
        let classes : class_at held.table column v ≡ class_at held.table j w = λ i. class_at held.table (same i) (value i) in
        subst (λ k. is_listed new k n ≡ true) (is ∙ classes) (put_here old new class n put))
  ];
}

pub listing-all : (before now : Classes) (held : Held) (n column : ℕ) → IsListing before now held n column → length held.arguments ≤ column → IsListed now held n
listing-all before now held n column so past = record {
  table = so.table;
  columns = λ j v there. (let within : j < length held.arguments = slice_get_within held.arguments j v there in so.columns j v (omega (arith, within, past)) there);
}

pub listing-kept : (before now : Classes) (held : Held) (n column : ℕ) → IsListing before now held n column → HasAll before now
listing-kept before now held n column so = so.kept

-- the value of a column, by its index
pub column-value : (items : List source.Value) (column : ℕ) (x : source.Value) → column < length items → x ≡ get_or items column x → slice_get (map seen.value_of items) column ≡ Some (seen.value_of x)
column-value items column x within at = slice_get-map seen.value_of items column ∙ ap (option_map seen.value_of) (slice_get_read items (length items) column x refl within at)

pub ruleset of_listing = (listing-init, listing-more, listing-all, listing-kept, column-value, length-map)

-- one more entry, at the end
last_or : {A : Type 0} (xs : List A) (y : A) (k : ℕ) (x : A) → slice_get (xs ++ y ∷ []) k ≡ Some x → (slice_get xs k ≡ Some x) ⊎ ((k ≡ length xs) × (y ≡ x))
last_or [] y zero x at = inr (refl, cc)
last_or [] y (suc k) x at = cc
last_or (z ∷ xs) y zero x at = inl at
last_or (z ∷ xs) y (suc k) x at = later (last_or xs y k x at)
  where
    later : (slice_get xs k ≡ Some x) ⊎ ((k ≡ length xs) × (y ≡ x)) → (slice_get xs k ≡ Some x) ⊎ ((suc k ≡ length (z ∷ xs)) × (y ≡ x))
    later (inl e) = inl e
    later (inr (e, f)) = inr (ap suc e, f)

pub index-more : (old new : Classes) (entries : List Held) (held : Held) (n : ℕ) → IsIndexOf (Some old) entries → length entries ≡ n → HasAll old new → IsListed new held n → IsIndexOf (Some new) (entries ++ held ∷ [])
index-more old new entries held n index counted kept listing = λ k other at. by k other (last_or entries held k other at)
  where
    by : (k : ℕ) (other : Held) → (slice_get entries k ≡ Some other) ⊎ ((k ≡ length entries) × (held ≡ other)) → IsListed new other k
    by k other (inl there) = let was = index k other there in record {
      table = kept (table_class other.table) k was.table;
      columns = λ column v is. kept (class_at other.table column v) k (was.columns column v is);
    }
    by k other (inr (last, same)) = subst (λ o. IsListed new o k) same (subst (λ m. IsListed new held m) (sym (last ∙ counted)) listing)

pub index-empty : (classes : Classes) (entries : List Held) → entries ≡ [] → IsIndexOf (Some classes) entries
index-empty classes [] none = λ k held at. cc
index-empty classes (entry ∷ entries) none = absurd (cc none)

pub ruleset of_index = (index-more, index-empty, length-map)

-- the value at a column that is compared, of values that match
parts_some : (o rest : Option Environment) → is_some (option_and_then (λ first. option_map (λ others. first ++ others) rest) o) ≡ true → (is_some o ≡ true) × (is_some rest ≡ true)
parts_some None rest h = cc
parts_some (Some first) None h = cc
parts_some (Some first) (Some others) h = (refl, refl)

cond_true : {A : Type 0} (b : Bool) (x : A) → is_some (cond b (Some x) None) ≡ true → b ≡ true
cond_true true x h = refl
cond_true false x h = h

value_compared : (s : Environment) (patterns : List Pattern) (vs : List Value) (column : ℕ) (term : Term) → slice_get patterns column ≡ Some (Leaf (Equal term)) → is_some (matched_row s (trees patterns) (trees vs)) ≡ true → (v : Value) × (slice_get vs column ≡ Some v) × (value_of s term ≡ v)
value_compared s [] vs column term at h = cc
value_compared s (p ∷ ps) [] column term at h = cc
value_compared s (p ∷ ps) (v ∷ vs) zero term at h =
    let both = parts_some (matched s p v) (matched_row s (trees ps) (trees vs)) h in
    let is : p ≡ Leaf (Equal term) = cc in
    let same : is_some (matched s (Leaf (Equal term)) v) ≡ true = subst (λ q. is_some (matched s q v) ≡ true) is both.0 in
    (v, refl, same_value-sound (value_of s term) v (cond_true {A = Environment} (same_value (value_of s term) v) [] same))
value_compared s (p ∷ ps) (v ∷ vs) (suc column) term at h =
    let both = parts_some (matched s p v) (matched_row s (trees ps) (trees vs)) h in
    value_compared s ps vs column term at both.1

-- an entry that matches is of the table
own_some : (b : Bool) (o : Option Environment) → is_some (cond b o None) ≡ true → (b ≡ true) × (is_some o ≡ true)
own_some true o h = (refl, h)
own_some false o h = cc

pub candidates-of : (wanted : Wanted) (table class : ℕ) (classes : Classes) (entries : List Held) (numbers : List ℕ) → IsIndexOf (Some classes) entries → IsClassOf wanted table class → numbers ≡ listed classes (Some class) → AreCandidates wanted.environment.now table wanted.patterns.now entries numbers
candidates-of wanted table class classes entries numbers index is_class are k held at matches = subst (λ ns. is_among ns k ≡ true) (sym are) (by is_class)
  where
    own : (nat_eq held.table table ≡ true) × (is_some (matched wanted.environment.now (row_pattern wanted.patterns.now) (row_value held.arguments)) ≡ true)
    own = own_some (nat_eq held.table table) (matched wanted.environment.now (row_pattern wanted.patterns.now) (row_value held.arguments)) matches

    same : held.table ≡ table
    same = eqb-true held.table table own.0

    there : IsListed classes held k
    there = index k held at

    by : IsClassOf wanted table class → is_listed classes class k ≡ true
    by (inl is) = subst (λ j. is_listed classes j k ≡ true) (ap table_class same ∙ sym is) there.table
    by (inr column) =
        let found = value_compared wanted.environment.now wanted.patterns.now held.arguments column.column column.term column.compared own.1 in
        let classes_same : class_at held.table column.column found.0 ≡ class_at table column.column (value_of wanted.environment.now column.term) =
        λ i. class_at (same i) column.column (sym found.2 i) in
        subst (λ j. is_listed classes j k ≡ true) (classes_same ∙ sym column.is_class) (there.columns column.column found.0 found.1)

pub ruleset of_candidates = (candidates-of)

-- the answer of the entry at an index
pub answer-there : (wanted : Wanted) (table : ℕ) (question : Question) (items : List source_held.Held) (index : ℕ) (x : source_held.Held) (b : Bool) → index < length items → x ≡ get_or items index x → b ≡ answer_of wanted table question (held_of x) → b ≡ answer_at wanted table question (map held_of items) index
answer-there wanted table question items index x b within at is =
    let there : slice_get (map held_of items) index ≡ Some (held_of x) = slice_get-map held_of items index ∙ ap (option_map held_of) (slice_get_read items (length items) index x refl within at) in
    is ∙ ap (λ o. option_map_or (answer_of wanted table question) o false) (sym there)

pub answer-past : (wanted : Wanted) (table : ℕ) (question : Question) (items : List source_held.Held) (index : ℕ) → length items ≤ index → false ≡ answer_at wanted table question (map held_of items) index
answer-past wanted table question items index past =
    let none : slice_get (map held_of items) index ≡ None = slice_get_past (map held_of items) index (omega (arith, past, length-map items held_of)) in
    ap (λ o. option_map_or (answer_of wanted table question) o false) (sym none)

pub ruleset of_answers = (answer-there, answer-past)

-- a test of which all that pass are candidates
any_at : {A : Type 0} (test : A → Bool) (xs : List A) → list_any test xs ≡ true → (k : ℕ) × (x : A) × (slice_get xs k ≡ Some x) × (test x ≡ true)
any_at test [] h = cc
any_at {A} test (x ∷ xs) h = elim (or_true (test x) (list_any test xs) h) as (λ _. (k : ℕ) × (y : A) × (slice_get (x ∷ xs) k ≡ Some y) × (test y ≡ true)) [
  | inl first ↦ (0, x, refl, first)
  | inr later ↦ (let found = any_at test xs later in (suc found.0, found.1, found.2, found.3))
]

at_any : {A : Type 0} (test : A → Bool) (xs : List A) (k : ℕ) (x : A) → slice_get xs k ≡ Some x → test x ≡ true → list_any test xs ≡ true
at_any test [] k x at h = cc
at_any test (y ∷ ys) zero x at h = let is : y ≡ x = cc in ap (λ b. b || list_any test ys) (ap test is ∙ h)
at_any test (y ∷ ys) (suc k) x at h = or_later (test y) (list_any test ys) (at_any test ys k x at h)

same_bool : (a b : Bool) → (a ≡ true → b ≡ true) → (b ≡ true → a ≡ true) → a ≡ b
same_bool true b f g = sym (f refl)
same_bool false true f g = g refl
same_bool false false f g = refl

option_true : {A : Type 0} (test : A → Bool) (o : Option A) → option_map_or test o false ≡ true → (x : A) × (o ≡ Some x) × (test x ≡ true)
option_true test None h = cc
option_true test (Some x) h = (x, refl, h)

module _ (s : Environment) (table : ℕ) (patterns : List Pattern) (entries : List Held) (numbers : List ℕ) (are : AreCandidates s table patterns entries numbers) (test : Held → Bool) (matches : (held : Held) → test held ≡ true → is_some (row_matched s table patterns held) ≡ true) where
  abbrev tested : ℕ → Bool
  tested index = option_map_or test (slice_get entries index) false

  from_numbers : list_any tested numbers ≡ true → list_any test entries ≡ true
  from_numbers h =
      let found = any_at tested numbers h in
      let entry = option_true test (slice_get entries found.1) found.3 in
      at_any test entries found.1 entry.0 entry.1 entry.2

  to_numbers : list_any test entries ≡ true → list_any tested numbers ≡ true
  to_numbers h =
      let found = any_at test entries h in
      among_any tested numbers found.0 (are found.0 found.1 found.2 (matches found.1 found.3))
      (ap (λ o. option_map_or test o false) found.2 ∙ found.3)

  candidates_decide : list_any (λ index. option_map_or test (slice_get entries index) false) numbers ≡ list_any test entries
  candidates_decide = same_bool (list_any tested numbers) (list_any test entries) from_numbers to_numbers

then_some : {A B : Type 0} (f : A → Option B) (o : Option A) → is_some (option_and_then f o) ≡ true → is_some o ≡ true
then_some f None h = h
then_some f (Some x) h = refl

large_some : {A : Type 0} (f : A → List Value) (o : Option A) → list_any is_large (option_map_or f o []) ≡ true → is_some o ≡ true
large_some f None h = h
large_some f (Some x) h = refl

answer_matches : (wanted : Wanted) (table : ℕ) (question : Question) (held : Held) → answer_of wanted table question held ≡ true → is_some (row_matched wanted.environment.now table wanted.patterns.now held) ≡ true
answer_matches wanted table IsTaken held h = then_some _ (row_matched wanted.environment.now table wanted.patterns.now held) h
answer_matches wanted table HasLarge held h = large_some _ (row_matched wanted.environment.now table wanted.patterns.now held) h

pub decided-by : (wanted : Wanted) (table : ℕ) (question : Question) (entries : List Held) (numbers : List ℕ) (b : Bool) → AreCandidates wanted.environment.now table wanted.patterns.now entries numbers → b ≡ list_any (answer_at wanted table question entries) numbers → b ≡ list_any (answer_of wanted table question) entries
decided-by wanted table question entries numbers b are is =
    is ∙ candidates_decide wanted.environment.now table wanted.patterns.now entries numbers are (answer_of wanted table question) (answer_matches wanted table question)

pub large-flat : (wanted : Wanted) (table : ℕ) (entries : List Held) → list_any is_large (flat_map (asked_by wanted table) entries) ≡ list_any (answer_of wanted table HasLarge) entries
large-flat wanted table [] = refl
large-flat wanted table (x ∷ xs) = large-first (asked_by wanted table) x xs ∙ ap (λ b. list_any is_large (asked_by wanted table x) || b) (large-flat wanted table xs)

pub ruleset of_deciding = (decided-by, large-flat)
