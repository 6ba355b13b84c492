-- Small rules, patterns, queries and processes, worked out by hand: what the definitions take, and what they refuse.
use Rattle.std.proofs.Common.{◌≡◌, ℕ, zero, suc, ◌<◌, ap, sym, subst, ◌∙◌, true, false, List, [], ◌∷◌, length, None, Some, codes, Contains, refl, arith}
use Rattle.std.specs.List.{AllByRecursion}
use Rattle.spec_trees.specs.Tree.{Leaf, node}
use Rattle.spec_calculus.specs.Syntax.{Name, Free, Made, Variable, Constructor, Tuple, Term, Bind, Pattern, Builds, Calls, Expression, Rule, Nil, Output, Input, New, Phase, Insert, Get, Declared, Destructor, Secret, SecretNew, Correspondence, Protocol}
use Rattle.spec_calculus.specs.Points.{is_restriction}
use Rattle.spec_calculus.specs.Matching.{IsLinear}
use Rattle.spec_well_formed.specs.Signature.{Signature, signature_of}
use Rattle.spec_well_formed.specs.Rules.{IsProperRule}
use Rattle.spec_well_formed.specs.Queries.{HasQueryLeaves}
use Rattle.spec_well_formed.specs.Terms.{IsTermBelow, HasArity, HasRulesFor, IsExpressionBelow}
use Rattle.spec_well_formed.specs.Processes.{IsProcessBelow, HasLinearPatterns, ArePhasesOrdered, height}

abbrev x : Term
x = Leaf (Variable 1)

abbrev y : Term
y = Leaf (Variable 2)

-- dec(enc(x,y),y) -> x
abbrev decryption : Rule
decryption = record { left = node (Constructor 1) (x ∷ y ∷ []) ∷ y ∷ []; right = x }

decryption_is_proper : IsProperRule decryption
decryption_is_proper = record {
  variables = (tt, (tt, (tt, (tt, tt))));
  numbered = (omega arith, omega arith, (omega arith, omega arith, (omega arith, omega arith, (omega arith, omega arith, tt))));
  closed = refl;
}

-- numbered from 2; numbered with a gap; with a free name; with a variable that the left side lacks
from_two : IsProperRule (record { left = y ∷ []; right = y }) → ⊥
from_two h = let n = h.numbered.1 in omega arith

with_a_gap : IsProperRule (record { left = x ∷ Leaf (Variable 3) ∷ []; right = x }) → ⊥
with_a_gap h = let n = h.numbered.2.1 in omega arith

with_a_name : IsProperRule (record { left = x ∷ Leaf (Free 1) ∷ []; right = x }) → ⊥
with_a_name h = h.variables.1.0

with_a_loose_variable : IsProperRule (record { left = x ∷ []; right = y }) → ⊥
with_a_loose_variable h = let same = h.closed in cc

-- (x, x) binds a variable twice, (x, y) none
abbrev pair_of : ℕ → ℕ → Pattern
pair_of i j = node Tuple (Leaf (Bind i) ∷ Leaf (Bind j) ∷ [])

apart : HasLinearPatterns (Input (Leaf (Free 1)) (pair_of 1 2) Nil) → IsLinear (pair_of 1 2)
apart h = h.0

twice : HasLinearPatterns (Input (Leaf (Free 1)) (pair_of 1 1) Nil) → ⊥
twice h = let no = h.0.2 1 refl in cc

abbrev channel : Declared
channel = record { word = codes "c"; arity = 0; public = true; is_data = false }

abbrev pairing : Declared
pairing = record { word = codes "pair"; arity = 2; public = true; is_data = false }

-- free c. fun pair/2. process new a; out(c, a)
abbrev sends : Protocol
sends = record { frees = channel ∷ []; constructors = pairing ∷ []; destructors = []; events = []; tables = []; queries = []; main = New (codes "a") (Output (Leaf (Free 1)) (Leaf (Made 1)) Nil) }

abbrev signature : Signature
signature = signature_of sends

free_below : (bound : List Name) → IsTermBelow signature bound (Leaf (Free 1))
free_below bound = record { known = ((omega arith, omega arith), tt); arities = tt; few = omega arith }

sends_is_below : IsProcessBelow signature [] 1 sends.main
sends_is_below = (
  (λ at. let within = at.1 in omega arith),
  (free_below (Made 1 ∷ []), record { known = ((0, omega arith, refl), tt); arities = tt; few = omega arith }, tt),
)

differ : (m n : ℕ) → m < n → m ≡ n → ⊥
differ m n less same = omega (arith, same)

-- the restriction of another point, a second free name, a constructor of one argument
other_point : IsProcessBelow signature [] 1 (New (codes "a") (Output (Leaf (Free 1)) (Leaf (Made 2)) Nil)) → ⊥
other_point h = by h.1.1.known.0
  where
    by : Contains (Made 1 ∷ []) (Made 2) → ⊥
    by (zero, within, at) = differ 1 2 (omega arith) (let made = at in cc)
    by (suc k, within, at) = omega arith

second_free : IsTermBelow signature [] (Leaf (Free 2)) → ⊥
second_free h = let n = h.known.0.1 in omega arith

one_argument : IsTermBelow signature [] (node (Constructor 1) (Leaf (Free 1) ∷ [])) → ⊥
one_argument h =
    let a = h.arities.0 in
    let same : pairing ≡ a.declared = (let found = a.stands in cc) in
    differ 1 2 (omega arith) (sym (ap (λ (d : Declared). d.arity) same ∙ a.is))

-- queries of the restriction at point 1, of a secret, and of one with a variable
asks_a : HasQueryLeaves sends (SecretNew 1 0)
asks_a = (record { node = sends.main; stands = refl; restricts = refl }, omega arith)

asks_point_two : HasQueryLeaves sends (SecretNew 2 0) → ⊥
asks_point_two h =
    let same : Output (Leaf (Free 1)) (Leaf (Made 1)) Nil ≡ h.0.node = (let found = h.0.stands in cc) in
    let no : false ≡ true = ap is_restriction same ∙ h.0.restricts in cc

asks_a_variable : HasQueryLeaves sends (Secret x 0) → ⊥
asks_a_variable h = h.0.0

asks_of_variables : HasQueryLeaves sends (Correspondence (record { event = 1; arguments = x ∷ [] }) ((record { event = 2; arguments = y ∷ x ∷ [] } ∷ []) ∷ []))
asks_of_variables = ((tt, (tt, (tt, tt))), (omega arith, omega arith, (omega arith, omega arith, (omega arith, omega arith, tt))))

-- the nodes on the way to `0`
three_points : height sends.main ≡ 3
three_points = refl

-- the process has no phase 1, of which a query could ask
asks_a_later_phase : HasQueryLeaves sends (Secret (Leaf (Free 1)) 1) → ⊥
asks_a_later_phase h = let late = h.1 in omega (arith, late)

-- `phase 1; phase 2` comes in order, `phase 1; phase 1` does not
in_order : ArePhasesOrdered 0 (Phase 1 (Phase 2 Nil))
in_order = (omega arith, (omega arith, tt))

the_same_phase : ArePhasesOrdered 0 (Phase 1 (Phase 1 Nil)) → ⊥
the_same_phase h = let late = h.1.0 in omega (arith, late)

-- table keys/1. get keys(x) suchthat x = c in insert keys(x)
abbrev keys : Declared
keys = record { word = codes "keys"; arity = 1; public = true; is_data = false }

abbrev with_table : Signature
with_table = record { frees = channel ∷ []; constructors = []; destructors = []; events = []; tables = keys ∷ [] }

stands_in_table : IsTermBelow with_table (Variable 1 ∷ []) x
stands_in_table = record { known = ((0, omega arith, refl), tt); arities = tt; few = omega arith }

takes_and_writes : IsProcessBelow with_table [] 1 (Get 1 (Leaf (Bind 1) ∷ []) (Some (x, Leaf (Free 1))) (Insert 1 (x ∷ []) Nil) Nil)
takes_and_writes = (
  one_term,
  record { linear = (tt, tt, (λ i bound. refl)); new = ((λ at. let within = at.1 in omega arith), tt); holes = (tt, tt); arities = (tt, tt) },
  (stands_in_table, (record { known = ((omega arith, omega arith), tt); arities = tt; few = omega arith }, tt)),
  (one_term, (stands_in_table, tt), tt),
  tt,
)
  where
    one_term : HasArity with_table.tables 1 1
    one_term = record { declared = keys; stands = refl; is = refl }

-- below the else branch nothing of the entry is bound
not_bound_otherwise : IsProcessBelow with_table [] 1 (Get 1 (Leaf (Bind 1) ∷ []) None Nil (Insert 1 (x ∷ []) Nil)) → ⊥
not_bound_otherwise h = by h.4.1.0.known.0
  where
    by : Contains [] (Variable 1) → ⊥
    by (k, within, at) = omega (arith, within)

-- dec(dec(c,a),a) is an expression of this signature: two applications of a destructor of one rule
abbrev deciphering : Signature
deciphering = record { frees = channel ∷ []; constructors = pairing ∷ []; destructors = record { word = codes "dec"; rules = decryption ∷ [] } ∷ []; events = []; tables = [] }

free_deciphered : IsTermBelow deciphering [] (Leaf (Free 1))
free_deciphered = record { known = ((omega arith, omega arith), tt); arities = tt; few = omega arith }

abbrev c : Expression
c = Leaf (Leaf (Free 1))

abbrev opened : Expression → Expression
opened e = node (Calls 1) (e ∷ c ∷ [])

opened_twice : IsExpressionBelow deciphering [] (opened (opened c))
opened_twice = record {
  terms = (free_deciphered, (free_deciphered, (free_deciphered, tt)));
  heads = (two, ((two, (tt, (tt, tt))), (tt, tt)));
  merged = ((tt, (tt, tt)), (tt, tt));
  few = omega arith;
  few_applications = omega arith;
  few_choices = omega arith;
}
  where
    two : HasRulesFor deciphering 1 2
    two = record { destructor = record { word = codes "dec"; rules = decryption ∷ [] }; stands = refl; are = (refl, tt) }

-- a pair without a destructor below it is one term, and not a part of an expression; with one it is such a part
not_merged : IsExpressionBelow deciphering [] (node (Builds Tuple) (c ∷ c ∷ [])) → ⊥
not_merged h = let some = h.merged.0 in omega (arith, some)

-- one argument, where the rule has two
too_few_arguments : IsExpressionBelow deciphering [] (node (Calls 1) (c ∷ [])) → ⊥
too_few_arguments h =
    let a = h.heads.0 in
    let same : record { word = codes "dec"; rules = decryption ∷ [] } ≡ a.destructor = (let found = a.stands in cc) in
    let rules : AllByRecursion (λ (r : Rule). length r.left ≡ 1) (decryption ∷ []) = subst (λ (d : Destructor). AllByRecursion (λ (r : Rule). length r.left ≡ 1) d.rules) (sym same) a.are in
    differ 1 2 (omega arith) (sym rules.0)

-- seventeen applications are too many
abbrev many : ℕ → Expression
many zero = c
many (suc n) = opened (many n)

seventeen_applications : IsExpressionBelow deciphering [] (many 17) → ⊥
seventeen_applications h = let few = h.few_applications in omega (arith, few)
