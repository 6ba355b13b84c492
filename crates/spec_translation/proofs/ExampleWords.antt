-- Words for examples that are worked out by hand.
use Rattle.std.proofs.Common.{ℕ, zero, suc, true, false, List, [], ◌∷◌, map}
use Rattle.spec_trees.specs.Tree.{Leaf, Node, none, node}
use Rattle.spec_calculus.specs.Syntax.{Variable, Constructor, Calls, Expression, Rule, Ruled, Declared}
use Rattle.spec_calculus.specs.Syntax as calculus
use Rattle.spec_terms.specs.Term.{Free, Attacker, Term, Subst}
use Rattle.spec_clauses.specs.Fact.{Fact, Att, Mess, Clause}
use Rattle.spec_translation.specs.Conversion.{Fresh}
use Rattle.spec_translation.specs.Visit.{Visit}

-- declarations: free names, constructors, data constructors, events and tables
abbrev pub public_name : ℕ → Declared
public_name letter = record { word = letter ∷ []; arity = 0; public = true; is_data = false }

abbrev pub private_name : ℕ → Declared
private_name letter = record { word = letter ∷ []; arity = 0; public = false; is_data = false }

abbrev pub constructor_of : ℕ → ℕ → Declared
constructor_of letter arity = record { word = letter ∷ []; arity = arity; public = true; is_data = false }

abbrev pub data_of : ℕ → ℕ → Declared
data_of letter arity = record { word = letter ∷ []; arity = arity; public = true; is_data = true }

-- terms of a process: the free name and the variable of a number, and a constructor of terms
abbrev pub name : ℕ → calculus.Term
name n = Leaf (calculus.Free n)

abbrev pub variable : ℕ → calculus.Term
variable i = Leaf (Variable i)

abbrev pub apply : ℕ → List calculus.Term → calculus.Term
apply f ts = node (Constructor f) ts

-- an expression of a process: a destructor on terms, and a rule in its place
abbrev pub call : ℕ → List calculus.Term → Expression
call d ts = node (Calls d) (map Leaf ts)

abbrev pub ruled_call : Rule → List calculus.Term → Ruled
ruled_call rule ts = node (Calls rule) (map Leaf ts)

-- clauses and their terms: variables and free names
abbrev pub clause : List (Fact Term) → Fact Term → Clause Term
clause hs f = record { hypotheses = hs; diffs = []; conclusion = f }

abbrev pub x : ℕ → Term
x n = Leaf n

abbrev pub free : ℕ → Term
free n = Node (Free n) none

-- `=> att(@[v0])`, and in a phase `mess(v1,v0), att(v1) => att(v0)`, `att(v0), att(v1) => mess(v0,v1)`
abbrev pub own_names : Clause Term
own_names = clause [] (Att 0 (node Attacker (x 0 ∷ [])))

abbrev pub hears_in : ℕ → Clause Term
hears_in k = clause (Mess k (x 1) (x 0) ∷ Att k (x 1) ∷ []) (Att k (x 0))

abbrev pub says_in : ℕ → Clause Term
says_in k = clause (Att k (x 0) ∷ Att k (x 1) ∷ []) (Mess k (x 0) (x 1))

abbrev pub hears : Clause Term
hears = hears_in 0

abbrev pub says : Clause Term
says = says_in 0

-- the first of a list of terms
abbrev pub first_of : List Term → Term
first_of [] = x 0
first_of (t ∷ ts) = t

-- the substitution of two variables by these terms
abbrev pub two_terms : Term → Term → Subst
two_terms t u zero = t
two_terms t u (suc zero) = u
two_terms t u (suc (suc n)) = x (suc (suc n))

-- the rules dec(enc(x,y),y) -> x, of the first constructor, and d(x) -> x
abbrev pub decryption : Rule
decryption = record { left = apply 1 (variable 1 ∷ variable 2 ∷ []) ∷ variable 2 ∷ []; right = variable 1 }

abbrev pub same_rule : Rule
same_rule = record { left = variable 1 ∷ []; right = variable 1 }

-- the pattern's variable is 1, where the rule's is 0
abbrev pub next_variable : Fresh
next_variable = record { base = 1; first = 1 }

-- a visit in which the first variable stands for the term
abbrev pub with_value : Term → Visit
with_value t = record { scope = record { name = Variable 1; term = t } ∷ []; hypotheses = []; diffs = []; messages = []; sessions = []; phase = 0 }
