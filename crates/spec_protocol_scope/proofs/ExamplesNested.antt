-- Expressions with destructors in them, worked out by hand.
use Rattle.std.proofs.Common.{◌≡◌, ℕ, zero, suc, true, false, List, [], ◌∷◌, ◌++◌, None, codes, slice_get, unwrap_or, Ok, refl}
use Rattle.spec_trees.specs.Tree.{Leaf, node}
use Rattle.spec_calculus.specs.Syntax.{Free, Variable, Constructor, Tuple, Term, Builds, Calls, Expression, Rule, Declared}
use Rattle.spec_protocol_grammar.specs.Sketch.{TermSketch, Named, Grouped, none, more, Equal, Let, If, Zero, omitted, terms_sketch}
use Rattle.spec_protocol_scope.specs.Answers.{Unknown, Arity, Kind, TooMany, fault}
use Rattle.spec_protocol_scope.specs.Names.{Texts, Names, Scope}
use Rattle.spec_protocol_scope.specs.Expressions.{expression}
use Rattle.spec_protocol_scope.specs.Patterns.{pattern}
use Rattle.spec_protocol_scope.specs.Processes.{no_macros, unit}

-- x of a list, so many times
abbrev copies : {A : Type 0} → ℕ → A → List A
copies zero x = []
copies (suc n) x = x ∷ copies n x

abbrev free_name : List ℕ → Declared
free_name word = record { word = word; arity = 0; public = true; is_data = false }

abbrev decryption : Rule
decryption = record { left = node (Constructor 1) (Leaf (Variable 1) ∷ Leaf (Variable 2) ∷ []) ∷ Leaf (Variable 2) ∷ []; right = Leaf (Variable 1) }

abbrev identity : Rule
identity = record { left = Leaf (Variable 1) ∷ []; right = Leaf (Variable 1) }

-- free c, k. fun enc/2. reduc dec(enc(x,y),y) -> x. event begin/1., and destructors `one` of one rule, `many` of sixteen
abbrev names : Names
names = record {
  frees = free_name (codes "c") ∷ free_name (codes "k") ∷ [];
  constructors = record { word = codes "enc"; arity = 2; public = true; is_data = false } ∷ [];
  destructors = record { word = codes "dec"; rules = decryption ∷ [] } ∷ record { word = codes "one"; rules = identity ∷ [] } ∷ record { word = codes "many"; rules = copies 16 identity } ∷ [];
  events = record { word = codes "begin"; arity = 1; public = true; is_data = false } ∷ [];
  tables = [];
  macros = [];
}

-- the texts of some tokens
abbrev texts : Texts
texts n = unwrap_or (slice_get (codes "c" ∷ codes "k" ∷ codes "enc" ∷ codes "dec" ∷ codes "dec" ∷ codes "(" ∷ codes "one" ∷ codes "one" ∷ codes "many" ∷ codes "many" ∷ codes "begin" ∷ codes "x" ∷ []) n) []

abbrev s : Scope
s = record { text = texts; names = names }

-- `c`, `k`, and functions of one and two arguments, by the token of their names
abbrev c : TermSketch
c = Named 0 none

abbrev k : TermSketch
k = Named 1 none

abbrev of_one : ℕ → TermSketch → TermSketch
of_one n t = Named n (more t none)

abbrev of_two : ℕ → TermSketch → TermSketch → TermSketch
of_two n t u = Named n (more t (more u none))

abbrev name_c : Term
name_c = Leaf (Free 1)

abbrev name_k : Term
name_k = Leaf (Free 2)

abbrev decrypted : Expression → Expression → Expression
decrypted e key = node (Calls 1) (e ∷ key ∷ [])

-- dec(dec(c,k),k)
nested : expression s [] (of_two 3 (of_two 4 c k) k) ≡ Ok (decrypted (decrypted (Leaf name_c) (Leaf name_k)) (Leaf name_k))
nested = refl

-- a tuple and a constructor of a destructor; what has none below it is a term: (c,dec((c,k),k)), enc(enc(c,k),dec(c,k))
in_a_tuple : expression s [] (Grouped 5 (more c (more (of_two 3 (Grouped 5 (more c (more k none))) k) none)))
    ≡ Ok (node (Builds Tuple) (Leaf name_c ∷ decrypted (Leaf (node Tuple (name_c ∷ name_k ∷ []))) (Leaf name_k) ∷ []))
in_a_tuple = refl

in_a_constructor : expression s [] (of_two 2 (of_two 2 c k) (of_two 3 c k))
    ≡ Ok (node (Builds (Constructor 1)) (Leaf (node (Constructor 1) (name_c ∷ name_k ∷ [])) ∷ decrypted (Leaf name_c) (Leaf name_k) ∷ []))
in_a_constructor = refl

-- enc(c,k), (c,k) and c are terms; ((dec(c,k))) is dec(c,k)
no_destructor : expression s [] (of_two 2 c k) ≡ Ok (Leaf (node (Constructor 1) (name_c ∷ name_k ∷ [])))
no_destructor = refl

a_tuple : expression s [] (Grouped 5 (more c (more k none))) ≡ Ok (Leaf (node Tuple (name_c ∷ name_k ∷ [])))
a_tuple = refl

a_name : expression s [] c ≡ Ok (Leaf name_c)
a_name = refl

in_parentheses : expression s [] (Grouped 5 (more (Grouped 5 (more (of_two 3 c k) none)) none)) ≡ Ok (decrypted (Leaf name_c) (Leaf name_k))
in_parentheses = refl

-- faults of the parts: dec(dec(c),k), dec(x,k), dec(begin(c),k), dec(dec,k), and enc(dec(x,k)), whose own fault comes first
inner_arity : expression s [] (of_two 3 (of_one 4 c) k) ≡ fault Arity 4
inner_arity = refl

inner_name : expression s [] (of_two 3 (Named 11 none) k) ≡ fault Unknown 11
inner_name = refl

inner_event : expression s [] (of_two 3 (of_one 10 c) k) ≡ fault Kind 10
inner_event = refl

inner_bare : expression s [] (of_two 3 (Named 4 none) k) ≡ fault Kind 4
inner_bare = refl

outer_first : expression s [] (of_one 2 (of_two 3 (Named 11 none) k)) ≡ fault Arity 2
outer_first = refl

-- no destructor stands in the term of a pattern, nor in an `if`: =dec(c,k), if dec(c,k) = c
not_in_a_pattern : pattern s [] 1 [] (Equal 5 (of_two 3 c k)) ≡ fault Kind 3
not_in_a_pattern = refl

not_in_an_if : unit s no_macros (record { bound = []; above = 0; used = None; phase = 0 }) (record { point = 1; variable = 1 }) (If 5 (of_two 3 c k) c (Zero 5) omitted) ≡ fault Kind 3
not_in_an_if = refl

-- the pattern's faults come first: let =x = dec(c) in 0
pattern_first : unit s no_macros (record { bound = []; above = 0; used = None; phase = 0 }) (record { point = 1; variable = 1 }) (Let 5 (Equal 5 (Named 11 none)) (of_one 3 c) (Zero 5) omitted) ≡ fault Unknown 11
pattern_first = refl

-- sixteen applications, and seventeen; the place is the first token of the whole, parentheses round it counted
abbrev applied : ℕ → ℕ → TermSketch → TermSketch
applied token zero t = t
applied token (suc n) t = of_one token (applied token n t)

abbrev calls : ℕ → ℕ → Expression → Expression
calls destructor zero e = e
calls destructor (suc n) e = node (Calls destructor) (calls destructor n e ∷ [])

sixteen_applications : expression s [] (applied 6 16 c) ≡ Ok (calls 2 16 (Leaf name_c))
sixteen_applications = refl

seventeen_applications : expression s [] (of_one 7 (applied 6 16 c)) ≡ fault TooMany 7
seventeen_applications = refl

seventeen_in_parentheses : expression s [] (Grouped 5 (more (applied 6 17 c) none)) ≡ fault TooMany 5
seventeen_in_parentheses = refl

-- each application counts: sixteen side by side, and one more round them
sixteen_side_by_side : expression s [] (Grouped 5 (terms_sketch (copies 16 (of_one 6 c)))) ≡ Ok (node (Builds Tuple) (copies 16 (calls 2 1 (Leaf name_c))))
sixteen_side_by_side = refl

one_round_them : expression s [] (of_one 7 (Grouped 5 (terms_sketch (copies 16 (of_one 6 c))))) ≡ fault TooMany 7
one_round_them = refl

-- four applications of a destructor of sixteen rules are 65,536 choices, five are 1,048,576, and four beside four the same as eight in one another
four_of_sixteen : expression s [] (applied 8 4 c) ≡ Ok (calls 3 4 (Leaf name_c))
four_of_sixteen = refl

five_of_sixteen : expression s [] (of_one 9 (applied 8 4 c)) ≡ fault TooMany 9
five_of_sixteen = refl

four_beside_four : expression s [] (Grouped 5 (more (applied 8 4 c) (more (applied 8 4 c) none))) ≡ fault TooMany 5
four_beside_four = refl

-- applications of a destructor of one rule are no more choices
more_of_one_rule : expression s [] (applied 6 12 (applied 8 4 c)) ≡ Ok (calls 2 12 (calls 3 4 (Leaf name_c)))
more_of_one_rule = refl

-- a term of 1,999 symbols: seven parts of 273, five of 17, and two names
abbrev wide : TermSketch → TermSketch
wide t = Grouped 5 (terms_sketch (copies 16 t))

abbrev broad : TermSketch
broad = Grouped 5 (terms_sketch (copies 7 (wide (wide c)) ++ (copies 5 (wide c) ++ copies 2 c)))

abbrev wide_term : Term → Term
wide_term t = node Tuple (copies 16 t)

abbrev broad_term : Term
broad_term = node Tuple (copies 7 (wide_term (wide_term name_c)) ++ (copies 5 (wide_term name_c) ++ copies 2 name_c))

-- a destructor's name counts as one: with it they are 2,000 symbols. With a second they are too many, at the part that has so many
two_thousand_symbols : expression s [] (of_one 6 broad) ≡ Ok (calls 2 1 (Leaf broad_term))
two_thousand_symbols = refl

one_symbol_more : expression s [] (Grouped 5 (more (of_one 7 (of_one 6 broad)) none)) ≡ fault TooMany 7
one_symbol_more = refl
