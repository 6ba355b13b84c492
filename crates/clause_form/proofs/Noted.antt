-- Tables of the variables that stand in a clause, item by item, and what they tell; and the search for one variable.
use Rattle.std.proofs.Common.{◌≡◌, ℕ, suc, ◌+◌, ◌<◌, ◌≤◌, Bool, true, false, not, ◌||◌, cond, nat_eq, nat_lt, List, [], ◌∷◌, ◌++◌, length, flat_map, take, drop, get_or, replicate, slice_index_or, slice_set, refl, ap, sym, ◌∙◌, eqb-true, eq-eqb, add-one, drop-cons, drop_of_length-le, arith, Result, Ok, Err}
use Rattle.std.specs.Prelude.{OnOk}
use Rattle.std.specs.declared.alloc.AllocError.{AllocError}
use Rattle.std.specs.List.{list_any}
use Rattle.std.proofs.lemmas.Bool.{false≢true, lt-ltb}
use Rattle.std.proofs.lemmas.List.{length-set, length-replicate, get_or-replicate, get_or-set_other}
use Rattle.std.proofs.lemmas.List.Folds.{list_any-append}
use Rattle.std.proofs.lemmas.Grind.{get_or-set_at}
use Rattle.spec_terms.specs.Term.{Term}
use Rattle.spec_clauses.specs.Fact.{Fact, Clause, is_variable_known}
use Rattle.spec_clauses.specs.Variables.{fact_variables, firm, firm_variables}
use Rattle.spec_clauses.specs.Norm.{elsewhere}
use Rattle.clause_form.specs.Standing.{noted_one, noted, TellsNumbers, firm_numbers}
use Rattle.clause_diffs.proofs.Lists.{flat_map_more, flat_map_all}

-- The variables of firm hypotheses, one hypothesis after another.
pub firms_each : (hs : List (Fact Term)) → firm_variables hs ≡ flat_map firm_numbers hs
firms_each [] = refl
firms_each (h ∷ hs) = go (is_variable_known h) (firms_each hs) where
  go : (b : Bool) → firm_variables hs ≡ flat_map firm_numbers hs → flat_map fact_variables (cond (not b) (h ∷ firm hs) (firm hs)) ≡ cond b [] (fact_variables h) ++ flat_map firm_numbers hs
  go true e = e
  go false e = ap (λ l. fact_variables h ++ l) e

pub none_of_loose : (f : Fact Term) (b : Bool) → b ≡ is_variable_known f → b ≡ true → [] ≡ firm_numbers f
none_of_loose f b told e = ap (λ k. cond k [] (fact_variables f)) (sym e ∙ told)

pub all_of_firm : (f : Fact Term) (b : Bool) → b ≡ is_variable_known f → b ≡ false → fact_variables f ≡ firm_numbers f
all_of_firm f b told e = ap (λ k. cond k [] (fact_variables f)) (sym e ∙ told)

pub firm_told : (r : Result (Unit {0}) AllocError) (old new : List ℕ) (f : Fact Term) (b : Bool) → b ≡ is_variable_known f → b ≡ false → OnOk r (new ≡ old ++ fact_variables f) → OnOk r (new ≡ old ++ firm_numbers f)
firm_told (Ok done) old new f b told e added = added ∙ ap (λ l. old ++ l) (all_of_firm f b told e)
firm_told (Err failed) old new f b told e added = tt

-- Tables, item by item.
noted-append : (table : List Bool) (xs ys : List ℕ) → noted table (xs ++ ys) ≡ noted (noted table xs) ys
noted-append table [] ys = refl
noted-append table (x ∷ xs) ys = noted-append (noted_one table x) xs ys

pub noted_more : {X : Type 0} (f : X → List ℕ) (xs : List X) (i : ℕ) (d : X) (first found next : List Bool) → i < length xs → found ≡ noted first (flat_map f (take i xs)) → next ≡ noted found (f (get_or xs i d))
    → next ≡ noted first (flat_map f (take (i + 1) xs))
noted_more f xs i d first found next within was e =
    e ∙ (ap (λ o. noted o (f (get_or xs i d))) was
    ∙ (sym (noted-append first (flat_map f (take i xs)) (f (get_or xs i d))) ∙ ap (noted first) (sym (flat_map_more f xs i d within))))

pub noted_all : {X : Type 0} (f : X → List ℕ) (xs : List X) (i : ℕ) (first found : List Bool) → length xs ≤ i → found ≡ noted first (flat_map f (take i xs)) → found ≡ noted first (flat_map f xs)
noted_all f xs i first found past was = was ∙ ap (noted first) (flat_map_all f xs i past)

pub noted_clause : (c : Clause Term) (table first all : List Bool) → first ≡ noted table (fact_variables c.conclusion) → all ≡ noted first (firm_variables c.hypotheses) → all ≡ noted table (elsewhere c)
noted_clause c table first all e f = f ∙ (ap (λ o. noted o (firm_variables c.hypotheses)) e ∙ sym (noted-append table (fact_variables c.conclusion) (firm_variables c.hypotheses)))

length-one : (table : List Bool) (y : ℕ) → length (noted_one table y) ≡ length table
length-one table y = go (nat_lt y (length table)) where
  go : (b : Bool) → length (cond b (slice_set table y true) table) ≡ length table
  go true = length-set table y true
  go false = refl

-- what stands in a place after one number
one_at : (table : List Bool) (y x : ℕ) → x < length table → slice_index_or (noted_one table y) x false ≡ (nat_eq x y || slice_index_or table x false)
one_at table y x within = go (nat_lt y (length table)) (nat_eq x y) refl refl where
  go : (b c : Bool) → nat_lt y (length table) ≡ b → nat_eq x y ≡ c → slice_index_or (cond b (slice_set table y true) table) x false ≡ (c || slice_index_or table x false)
  go true true e f = let same = eqb-true x y f in get_or-set_at table y x true false same (omega (arith, same, within))
  go true false e f = get_or-set_other table y x true false (λ same. absurd (false≢true (sym f ∙ eq-eqb x y same)))
  go false true e f = absurd (false≢true (sym e ∙ lt-ltb y (length table) (omega (arith, eqb-true x y f, within))))
  go false false e f = refl

swapped : (a b c : Bool) → (b || (a || c)) ≡ ((a || b) || c)
swapped true true c = refl
swapped true false c = refl
swapped false true c = refl
swapped false false c = refl

noted_at : (ns : List ℕ) (table : List Bool) (x : ℕ) → x < length table → slice_index_or (noted table ns) x false ≡ (list_any (nat_eq x) ns || slice_index_or table x false)
noted_at [] table x within = refl
noted_at (y ∷ ys) table x within =
    let longer : x < length (noted_one table y) = omega (arith, within, length-one table y) in
    noted_at ys (noted_one table y) x longer
    ∙ (ap (λ b. list_any (nat_eq x) ys || b) (one_at table y x within) ∙ swapped (nat_eq x y) (list_any (nat_eq x) ys) (slice_index_or table x false))

length-noted : (ns : List ℕ) (table : List Bool) → length (noted table ns) ≡ length table
length-noted [] table = refl
length-noted (y ∷ ys) table = length-noted ys (noted_one table y) ∙ length-one table y

or_none : (b : Bool) → (b || false) ≡ b
or_none true = refl
or_none false = refl

-- a table that was empty tells of the numbers that were noted
pub noted_tells : (n : ℕ) (ns : List ℕ) (table : List Bool) → table ≡ noted (replicate n false) ns → TellsNumbers table ns
noted_tells n ns table is x within =
    let room : length table ≡ n = ap length is ∙ (length-noted ns (replicate n false) ∙ length-replicate {A = Bool} n false) in
    let inside : x < n = omega (arith, within, room) in
    let none = get_or-replicate {A = Bool} n x false false inside in
    ap (λ t. slice_index_or t x false) is
    ∙ (noted_at ns (replicate n false) x (omega (arith, inside, length-replicate {A = Bool} n false)) ∙ (ap (λ b. list_any (nat_eq x) ns || b) none ∙ or_none (list_any (nat_eq x) ns)))

pub nothing_told : (ns : List ℕ) → TellsNumbers [] ns
nothing_told ns x within = absurd (omega (arith, within))

-- The search for a number, from the item at i on.
pub any_on : {X : Type 0} (p : ℕ → Bool) (f : X → List ℕ) (xs : List X) (i : ℕ) (d : X) → i < length xs → list_any p (flat_map f (drop i xs)) ≡ (list_any p (f (get_or xs i d)) || list_any p (flat_map f (drop (i + 1) xs)))
any_on p f xs i d within =
    ap (λ l. list_any p (flat_map f l)) (drop-cons xs i d within)
    ∙ (list_any-append p (f (get_or xs i d)) (flat_map f (drop (suc i) xs)) ∙ ap (λ n. list_any p (f (get_or xs i d)) || list_any p (flat_map f (drop n xs))) (sym (add-one i)))

pub any_past : {X : Type 0} (p : ℕ → Bool) (f : X → List ℕ) (xs : List X) (i : ℕ) → length xs ≤ i → list_any p (flat_map f (drop i xs)) ≡ false
any_past p f xs i past = ap (λ l. list_any p (flat_map f l)) (drop_of_length-le xs past)

-- it is found here, or looked for in the rest
pub any_here : (whole found rest : Bool) → whole ≡ (found || rest) → found ≡ true → true ≡ whole
any_here whole found rest e here = sym (e ∙ ap (λ b. b || rest) here)

pub any_later : (whole found rest : Bool) → whole ≡ (found || rest) → found ≡ false → whole ≡ rest
any_later whole found rest e not_here = e ∙ ap (λ b. b || rest) not_here

-- a number stands elsewhere where it stands in the conclusion, or in a firm hypothesis
pub any_elsewhere : (c : Clause Term) (x : ℕ) → list_any (nat_eq x) (elsewhere c) ≡ (list_any (nat_eq x) (fact_variables c.conclusion) || list_any (nat_eq x) (firm_variables c.hypotheses))
any_elsewhere c x = list_any-append (nat_eq x) (fact_variables c.conclusion) (firm_variables c.hypotheses)
