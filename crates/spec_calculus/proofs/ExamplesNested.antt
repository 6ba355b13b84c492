-- Destructors in one another, their runs worked out by hand: the definitions give them so.
use Rattle.std.proofs.Common.{◌≡◌, true, false, [], ◌∷◌, None, Some, map, refl, lit<, arith}
use Rattle.spec_trees.specs.Tree.{Leaf, node}
use Rattle.spec_calculus.specs.Syntax.{Free, Variable, Constructor, Tuple, Bind, Equal, Builds, Calls, Term, Expression, Rule, Process, Nil, Output, Input, Parallel, Let, Secret, Protocol}
use Rattle.spec_calculus.specs.Values.{FreeName, Value}
use Rattle.spec_calculus.specs.Choices.{choices, values_at}
use Rattle.spec_calculus.specs.Runs.{At, Configuration, Split, Pass, Take, Fail, Hear, start, run}
use Rattle.spec_calculus.specs.Refusals.{NoRule, NotFailing, refusal}
use Rattle.spec_calculus.specs.Limits.{all_tried}
use Rattle.spec_calculus.specs.Secrecy.{IsViolated, Holds}

abbrev x : Term
x = Leaf (Variable 1)

abbrev y : Term
y = Leaf (Variable 2)

-- enc(t,u), and a destructor of two arguments
abbrev encrypted : Term → Term → Term
encrypted t u = node (Constructor 1) (t ∷ u ∷ [])

abbrev decrypted : Expression → Term → Expression
decrypted e key = node (Calls 1) (e ∷ Leaf key ∷ [])

abbrev opened : Expression
opened = decrypted (decrypted (Leaf x) (Leaf (Free 2))) (Leaf (Free 2))

-- `free c. private free k. private free s. fun enc/2. reduc dec(enc(x,y),y) -> x. query attacker(s).
-- process out(c,enc(enc(s,k),k)) | in(c,x); let y = dec(dec(x,k),k) in out(c,y)`
abbrev twice_encrypted : Protocol
twice_encrypted = record {
  frees = record { word = 99 ∷ []; arity = 0; public = true; is_data = false } ∷ record { word = 107 ∷ []; arity = 0; public = false; is_data = false }
      ∷ record { word = 115 ∷ []; arity = 0; public = false; is_data = false } ∷ [];
  constructors = record { word = 101 ∷ 110 ∷ 99 ∷ []; arity = 2; public = true; is_data = false } ∷ [];
  destructors = record { word = 100 ∷ 101 ∷ 99 ∷ []; rules = record { left = encrypted x y ∷ y ∷ []; right = x } ∷ [] } ∷ [];
  events = [];
  tables = [];
  queries = Secret (Leaf (Free 3)) 0 ∷ [];
  main = Parallel
      (Output (Leaf (Free 1)) (encrypted (encrypted (Leaf (Free 3)) (Leaf (Free 2))) (Leaf (Free 2))) Nil)
      (Input (Leaf (Free 1)) (Leaf (Bind 1)) (Let (Leaf (Bind 2)) opened (Output (Leaf (Free 1)) y Nil) Nil));
}

abbrev once : Value
once = node (Constructor 1) (Leaf (FreeName 3) ∷ Leaf (FreeName 2) ∷ [])

abbrev twice : Value
twice = node (Constructor 1) (once ∷ Leaf (FreeName 2) ∷ [])

-- the receiver has the message, takes the first rule twice, and gives s away
abbrev received : Configuration
received = record {
  threads = At 3 [] ∷ At 5 (record { name = Variable 1; value = twice } ∷ []) ∷ [];
  known = Leaf (FreeName 1) ∷ [];
  events = [];
  next = 0;
  phase = 0;
  entries = [];
}

abbrev given_away : Configuration
given_away = record {
  threads = At 3 [] ∷ At 7 (record { name = Variable 1; value = twice } ∷ record { name = Variable 2; value = Leaf (FreeName 3) } ∷ []) ∷ [];
  known = Leaf (FreeName 1) ∷ Leaf (FreeName 3) ∷ [];
  events = [];
  next = 0;
  phase = 0;
  entries = [];
}

has_received : run twice_encrypted (Split 1 ∷ Pass 1 2 ∷ []) ≡ Some received
has_received = refl

gives_away : run twice_encrypted (Split 1 ∷ Pass 1 2 ∷ Take 2 (1 ∷ 1 ∷ []) ∷ Hear 2 ∷ []) ≡ Some given_away
gives_away = refl

is_violated : IsViolated (Secret (Leaf (Free 3)) 0) given_away
is_violated = ((1, lit< tt, refl), omega arith)

not_secret : ¬ Holds twice_encrypted (Secret (Leaf (Free 3)) 0)
not_secret holds = holds (Split 1 ∷ Pass 1 2 ∷ Take 2 (1 ∷ 1 ∷ []) ∷ Hear 2 ∷ []) given_away gives_away is_violated

-- a label has a number for each destructor: one alone, none, 0 and three are refused, and so is the number of no rule
one_number : refusal twice_encrypted received (Take 2 (1 ∷ [])) ≡ Some NoRule
one_number = refl

no_number : refusal twice_encrypted received (Take 2 []) ≡ Some NoRule
no_number = refl

number_zero : refusal twice_encrypted received (Take 2 (0 ∷ [])) ≡ Some NoRule
number_zero = refl

three_numbers : refusal twice_encrypted received (Take 2 (1 ∷ 1 ∷ 1 ∷ [])) ≡ Some NoRule
three_numbers = refl

no_such_rule : refusal twice_encrypted received (Take 2 (1 ∷ 2 ∷ [])) ≡ Some NoRule
no_such_rule = refl

-- and the else branch isn't taken, since a value matches
not_failing : refusal twice_encrypted received (Fail 2) ≡ Some NotFailing
not_failing = refl

-- the value of the inner destructor is evaluated as well as that of the whole and those of the terms
five_values : all_tried twice_encrypted 5 (record { name = Variable 1; value = twice } ∷ []) (Let (Leaf (Bind 2)) opened Nil Nil)
    ≡ Some (twice ∷ Leaf (FreeName 2) ∷ once ∷ Leaf (FreeName 2) ∷ Leaf (FreeName 3) ∷ [])
five_values = refl

-- also where the whole has no value: dec(dec(x,k),c)
four_values : all_tried twice_encrypted 5 (record { name = Variable 1; value = twice } ∷ []) (Let (Leaf (Bind 2)) (decrypted (decrypted (Leaf x) (Leaf (Free 2))) (Leaf (Free 1))) Nil Nil)
    ≡ Some (twice ∷ Leaf (FreeName 2) ∷ once ∷ Leaf (FreeName 1) ∷ [])
four_values = refl

-- `reduc d(x) -> x; d(x) -> (x,x)`, in a protocol with that process
abbrev keeps : Rule
keeps = record { left = x ∷ []; right = x }

abbrev doubles : Rule
doubles = record { left = x ∷ []; right = node Tuple (x ∷ x ∷ []) }

abbrev with_process : Process → Protocol
with_process main = record {
  frees = record { word = 99 ∷ []; arity = 0; public = true; is_data = false } ∷ record { word = 107 ∷ []; arity = 0; public = false; is_data = false } ∷ [];
  constructors = [];
  destructors = record { word = 100 ∷ []; rules = keeps ∷ doubles ∷ [] } ∷ [];
  events = [];
  tables = [];
  queries = [];
  main = main;
}

abbrev d_of : Expression → Expression
d_of e = node (Calls 1) (e ∷ [])

abbrev of_key : Expression
of_key = d_of (d_of (Leaf (Leaf (Free 2))))

abbrev k : Value
k = Leaf (FreeName 2)

abbrev pair : Value → Value → Value
pair v w = node Tuple (v ∷ w ∷ [])

-- d(d(k)): the inner rule counts for more in the order
four_choices : map (λ c. c.rules) (choices (with_process Nil) of_key) ≡ ((1 ∷ 1 ∷ []) ∷ (1 ∷ 2 ∷ []) ∷ (2 ∷ 1 ∷ []) ∷ (2 ∷ 2 ∷ []) ∷ [])
four_choices = refl

their_values : values_at (with_process Nil) [] of_key ≡ (k ∷ pair k k ∷ pair k k ∷ pair (pair k k) (pair k k) ∷ [])
their_values = refl

-- (d(c),d(k)): a tuple with destructors inside, the rule of whose first part counts for more
in_a_tuple : values_at (with_process Nil) [] (node (Builds Tuple) (d_of (Leaf (Leaf (Free 1))) ∷ d_of (Leaf (Leaf (Free 2))) ∷ []))
    ≡ (pair (Leaf (FreeName 1)) k ∷ pair (Leaf (FreeName 1)) (pair k k)
    ∷ pair (pair (Leaf (FreeName 1)) (Leaf (FreeName 1))) k ∷ pair (pair (Leaf (FreeName 1)) (Leaf (FreeName 1))) (pair k k) ∷ [])
in_a_tuple = refl

-- `let (=k,z) = d(d(k)) in 0 else 0`: the second and the third choice match, the others don't; and with `=c` none does
abbrev compares : Term → Protocol
compares t = with_process (Let (node Tuple (Leaf (Equal t) ∷ Leaf (Bind 1) ∷ [])) of_key Nil Nil)

abbrev key : Term
key = Leaf (Free 2)

abbrev after_taking : Configuration
after_taking = record { threads = At 2 (record { name = Variable 1; value = k } ∷ []) ∷ []; known = Leaf (FreeName 1) ∷ []; events = []; next = 0; phase = 0; entries = [] }

second_taken : run (compares key) (Take 1 (1 ∷ 2 ∷ []) ∷ []) ≡ Some after_taking
second_taken = refl

third_taken : run (compares key) (Take 1 (2 ∷ 1 ∷ []) ∷ []) ≡ Some after_taking
third_taken = refl

first_refused : refusal (compares key) (start (compares key)) (Take 1 (1 ∷ 1 ∷ [])) ≡ Some NoRule
first_refused = refl

fourth_refused : refusal (compares key) (start (compares key)) (Take 1 (2 ∷ 2 ∷ [])) ≡ Some NoRule
fourth_refused = refl

some_match : run (compares key) (Fail 1 ∷ []) ≡ None
some_match = refl

none_matches : run (compares (Leaf (Free 1))) (Fail 1 ∷ []) ≡ Some (record { threads = At 3 [] ∷ []; known = Leaf (FreeName 1) ∷ []; events = []; next = 0; phase = 0; entries = [] })
none_matches = refl

-- the label of a term is 0, and no other
abbrev plain : Protocol
plain = with_process (Let (Leaf (Bind 1)) (Leaf key) Nil Nil)

a_term : run plain (Take 1 (0 ∷ []) ∷ []) ≡ Some after_taking
a_term = refl

a_term_without_number : run plain (Take 1 [] ∷ []) ≡ None
a_term_without_number = refl

a_term_by_a_rule : run plain (Take 1 (1 ∷ []) ∷ []) ≡ None
a_term_by_a_rule = refl
