-- Keys of facts of a bank; and facts that are looked for by their keys.
use Rattle.std.proofs.Common.{◌≡◌, ℕ, zero, suc, ◌+◌, ◌<◌, ◌≤◌, Bool, true, false, ◌||◌, cond, nat_eq, Option, Some, None, List, [], ◌∷◌, ◌++◌, length, map, flat_map, take, get_or, refl, ap, sym, ◌∙◌, eq-eqb, arith}
use Rattle.std.proofs.lemmas.Bool.{false≢true}
use Rattle.std.proofs.lemmas.List.{map-append}
use Rattle.std.specs.List.{list_any}
use Rattle.std.specs.HashMap.{HashMap, get}
use Rattle.std.specs.declared.hash.BuildHasherDefault.{BuildHasherDefault}
use Rattle.std.specs.declared.hash.FoldHasher.{FoldHasher}
use Rattle.spec_trees.specs.Tree.{node, trees}
use Rattle.spec_terms.specs.Term.{Sym, Term}
use Rattle.spec_clauses.specs.Fact.{Fact, same_fact, is_among}
use Rattle.spec_clauses.proofs.Equality.{same_fact-decides}
use Rattle.term_tree.specs.Bank.{tree_at}
use Rattle.term_tree.specs.declared.bank.Id.{Id}
use Rattle.clause_form.specs.declared.facts.Fact as declared
use Rattle.clause_form.specs.Facts.{fact_of}
use Rattle.clause_form.specs.Seen.{fact_at}
use Rattle.clause_form.specs.Tables.{HaveKeys}
use Rattle.clause_form.specs.Keys.{symbol_number, term_numbers, row_numbers, mixed, keyed, fact_key}
use Rattle.clause_diffs.proofs.Lists.{flat_map_more, flat_map_all}

abbrev pub numbers_at : List Term → Id → List ℕ
numbers_at all id = term_numbers (tree_at all id)

row_numbers_at : (all : List Term) (ids : List Id) → row_numbers (trees (map (tree_at all) ids)) ≡ flat_map (numbers_at all) ids
row_numbers_at all [] = refl
row_numbers_at all (id ∷ ids) = ap (λ l. numbers_at all id ++ l) (row_numbers_at all ids)

pub node_numbers : (all : List Term) (id : Id) (f : Sym) (ids : List Id) → tree_at all id ≡ node f (map (tree_at all) ids) → term_numbers (tree_at all id) ≡ symbol_number f ∷ flat_map (numbers_at all) ids
node_numbers all id f ids is = ap term_numbers is ∙ ap (λ l. symbol_number f ∷ l) (row_numbers_at all ids)

keyed-append : (key : ℕ) (xs ys : List ℕ) → keyed key (xs ++ ys) ≡ keyed (keyed key xs) ys
keyed-append key [] ys = refl
keyed-append key (x ∷ xs) ys = keyed-append (mixed key x) xs ys

-- the numbers of one item more, and of all items
pub keyed_more : {X : Type 0} (f : X → List ℕ) (xs : List X) (i : ℕ) (d : X) (first found next : ℕ) → i < length xs → found ≡ keyed first (flat_map f (take i xs)) → next ≡ keyed found (f (get_or xs i d)) → next ≡ keyed first (flat_map f (take (i + 1) xs))
keyed_more f xs i d first found next within was e =
    e ∙ (ap (λ k. keyed k (f (get_or xs i d))) was ∙ (sym (keyed-append first (flat_map f (take i xs)) (f (get_or xs i d))) ∙ ap (keyed first) (sym (flat_map_more f xs i d within))))

pub keyed_all : {X : Type 0} (f : X → List ℕ) (xs : List X) (i : ℕ) (first found : ℕ) → length xs ≤ i → found ≡ keyed first (flat_map f (take i xs)) → found ≡ keyed first (flat_map f xs)
keyed_all f xs i first found past was = was ∙ ap (keyed first) (flat_map_all f xs i past)

pub node_key : (all : List Term) (id : Id) (f : Sym) (ids : List Id) (i : ℕ) (key found : ℕ) → tree_at all id ≡ node f (map (tree_at all) ids) → length ids ≤ i → found ≡ keyed (mixed key (symbol_number f)) (flat_map (numbers_at all) (take i ids)) → found ≡ keyed key (term_numbers (tree_at all id))
node_key all id f ids i key found is past was = keyed_all (numbers_at all) ids i (mixed key (symbol_number f)) found past was ∙ ap (keyed key) (sym (node_numbers all id f ids is))

or_true : (a b : Bool) → b ≡ true → (a || b) ≡ true
or_true true b e = refl
or_true false b e = e

-- a fact that stands at a place is among the facts
among_at : (all : List Term) (fs : List declared.Fact) (i : ℕ) (d : declared.Fact) (g : Fact Term) → i < length fs → same_fact g (fact_at all (fact_of (get_or fs i d))) ≡ true → is_among (map (fact_at all) (map fact_of fs)) g ≡ true
among_at all [] i d g within same = absurd (omega arith)
among_at all (f ∷ fs) zero d g within same = ap (λ b. b || is_among (map (fact_at all) (map fact_of fs)) g) same
among_at all (f ∷ fs) (suc i) d g within same = or_true (same_fact g (fact_at all (fact_of f))) (is_among (map (fact_at all) (map fact_of fs)) g) (among_at all fs i d g (omega arith) same)

pub found_at : (all : List Term) (fs : List declared.Fact) (i : ℕ) (f : declared.Fact) (g : Fact Term) (b : Bool) → i < length fs → f ≡ get_or fs i f → b ≡ same_fact g (fact_at all (fact_of f)) → b ≡ true → is_among (map (fact_at all) (map fact_of fs)) g ≡ true
found_at all fs i f g b within is told passed = among_at all fs i f g within (sym (ap (λ h. same_fact g (fact_at all (fact_of h))) is) ∙ (sym told ∙ passed))

any_step : (a b : Bool) → (a || b) ≡ false → (a ≡ false) × (b ≡ false)
any_step true b e = absurd (false≢true (sym e))
any_step false b e = (refl, e)

any-append : {X : Type 0} (p : X → Bool) (xs : List X) (y : X) → list_any p xs ≡ false → p y ≡ false → list_any p (xs ++ y ∷ []) ≡ false
any-append p [] y none other = ap (λ b. b || false) other
any-append p (x ∷ xs) y none other = let both = any_step (p x) (list_any p xs) none in ap (λ c. c || list_any p (xs ++ y ∷ [])) both.0 ∙ any-append p xs y both.1 other

-- facts with another key are other facts
other_key : (f g : Fact Term) (b : Bool) → same_fact g f ≡ b → nat_eq (fact_key f) (fact_key g) ≡ false → same_fact g f ≡ false
other_key f g false e apart = e
other_key f g true e apart = absurd (false≢true (sym apart ∙ eq-eqb (fact_key f) (fact_key g) (sym (ap fact_key ((same_fact-decides g f).0 e)))))

-- the table with one fact more
key_put : (all : List Term) (facts : List (Fact Id)) (f : Fact Id) (g : Fact Term) (at : ℕ) (old : Option ℕ) (b : Bool) → nat_eq (fact_key (fact_at all f)) (fact_key g) ≡ b → cond b (Some at) old ≡ None → (old ≡ None → is_among (map (fact_at all) facts) g ≡ false)
    → is_among (map (fact_at all) (facts ++ f ∷ [])) g ≡ false
key_put all facts f g at old true e none was = cc
key_put all facts f g at old false e none was = ap (λ l. is_among l g) (map-append (fact_at all) facts (f ∷ [])) ∙ any-append (same_fact g) (map (fact_at all) facts) (fact_at all f) (was none) (other_key (fact_at all f) g (same_fact g (fact_at all f)) refl e)

pub have_keys_on : (all : List Term) (facts new : List (Fact Id)) (f : Fact Id) (key at : ℕ) (old table : HashMap ℕ ℕ (BuildHasherDefault FoldHasher)) → HaveKeys all facts old → key ≡ fact_key (fact_at all f) → new ≡ facts ++ f ∷ []
    → ((q : ℕ) → get nat_eq table q ≡ cond (nat_eq key q) (Some at) (get nat_eq old q)) → HaveKeys all new table
have_keys_on all facts new f key at old table was is e put g none =
    let told : cond (nat_eq (fact_key (fact_at all f)) (fact_key g)) (Some at) (get nat_eq old (fact_key g)) ≡ None = ap (λ k. cond (nat_eq k (fact_key g)) (Some at) (get nat_eq old (fact_key g))) (sym is) ∙ (sym (put (fact_key g)) ∙ none) in
    ap (λ l. is_among (map (fact_at all) l) g) e ∙ key_put all facts f g at (get nat_eq old (fact_key g)) (nat_eq (fact_key (fact_at all f)) (fact_key g)) refl told (was g)

pub have_keys_none : (all : List Term) (facts : List (Fact Id)) (table : HashMap ℕ ℕ (BuildHasherDefault FoldHasher)) → facts ≡ [] → HaveKeys all facts table
have_keys_none all facts table empty g none = ap (λ l. is_among (map (fact_at all) l) g) empty

-- no place for its key: it isn't there
pub absent_key : (all : List Term) (facts k : List (Fact Id)) (f : Fact Term) (key : ℕ) (place : Option ℕ) (table : HashMap ℕ ℕ (BuildHasherDefault FoldHasher)) → HaveKeys all facts table → k ≡ facts → key ≡ fact_key f → place ≡ get nat_eq table key → place ≡ None → is_among (map (fact_at all) k) f ≡ false
absent_key all facts k f key place table have is key_is found none = ap (λ l. is_among (map (fact_at all) l) f) is ∙ have f (ap (get nat_eq table) (sym key_is) ∙ (sym found ∙ none))
