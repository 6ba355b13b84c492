-- Small files, worked out by hand.
use Rattle.std.proofs.Common.{◌≡◌, ℕ, zero, suc, true, false, List, [], ◌∷◌, None, codes, slice_get, unwrap_or, Ok, refl}
use Rattle.spec_trees.specs.Tree.{Leaf, node}
use Rattle.spec_calculus.specs.Syntax as calculus
use Rattle.spec_protocol_grammar.specs.Sketch.{TermSketch, Named, Grouped, none, more, NamedPattern, no_patterns, ProcessSketch, Process, alone, beside, UnitSketch, Zero, Macro, Replicated, New, Output, Input, Let, omitted, given, AttackerNew, Free, Fun, Reduc, Query, Definition, FileSketch}
use Rattle.spec_protocol_scope.specs.Answers.{Unknown, Kind, LooseVariable, TooMany, AmbiguousNew, fault}
use Rattle.spec_protocol_scope.specs.Names.{Texts}
use Rattle.spec_protocol_scope.specs.Scope.{scope}

-- the texts of these tokens
abbrev texts : List (List ℕ) → Texts
texts words n = unwrap_or (slice_get words n) []

abbrev free_name : List ℕ → calculus.Declared
free_name word = record { word = word; arity = 0; public = true; is_data = false }

-- free c . process out ( c , c )
abbrev greeting : Texts
greeting = texts (codes "free" ∷ codes "c" ∷ codes "." ∷ codes "process" ∷ codes "out" ∷ codes "(" ∷ codes "c" ∷ codes "," ∷ codes "c" ∷ codes ")" ∷ [])

greeting_is : scope greeting (record { declarations = Free 0 true 1 [] ∷ []; first = 3; main = Process (Output 4 (Named 6 none) (Named 8 none) omitted) alone })
    ≡ Ok (record {
      frees = free_name (codes "c") ∷ [];
      constructors = [];
      destructors = [];
      events = [];
      tables = [];
      queries = [];
      main = calculus.Output (Leaf (calculus.Free 1)) (Leaf (calculus.Free 1)) calculus.Nil;
    })
greeting_is = refl

-- free c . query attacker ( new k ) . process new k ; out ( c , k ) | new k ; 0
abbrev two_keys : Texts
two_keys = texts (codes "free" ∷ codes "c" ∷ codes "." ∷ codes "query" ∷ codes "attacker" ∷ codes "(" ∷ codes "new" ∷ codes "k" ∷ codes ")" ∷ codes "." ∷ codes "process" ∷ codes "new" ∷ codes "k" ∷ codes ";" ∷ codes "out" ∷ codes "(" ∷ codes "c" ∷ codes "," ∷ codes "k" ∷ codes ")" ∷ codes "|" ∷ codes "new" ∷ codes "k" ∷ codes ";" ∷ codes "0" ∷ [])

two_keys_are : scope two_keys (record {
  declarations = Free 0 true 1 [] ∷ Query 3 (AttackerNew 4 7 None) ∷ [];
  first = 10;
  main = Process (New 11 12 (given (Output 14 (Named 16 none) (Named 18 none) omitted))) (beside (Process (New 21 22 (given (Zero 24))) alone));
})
    ≡ fault AmbiguousNew 7
two_keys_are = refl

-- the same with the first restriction alone: its point is the first
one_key_is : scope two_keys (record {
  declarations = Free 0 true 1 [] ∷ Query 3 (AttackerNew 4 7 None) ∷ [];
  first = 10;
  main = Process (New 11 12 (given (Output 14 (Named 16 none) (Named 18 none) omitted))) alone;
})
    ≡ Ok (record {
      frees = free_name (codes "c") ∷ [];
      constructors = [];
      destructors = [];
      events = [];
      tables = [];
      queries = calculus.SecretNew 1 0 ∷ [];
      main = calculus.New (codes "k") (calculus.Output (Leaf (calculus.Free 1)) (Leaf (calculus.Made 1)) calculus.Nil);
    })
one_key_is = refl

-- free c . fun f / 1 . reduc g ( f ( x ) ) -> x . process out ( c , g ( c ) )
abbrev opened : Texts
opened = texts (codes "free" ∷ codes "c" ∷ codes "." ∷ codes "fun" ∷ codes "f" ∷ codes "/" ∷ codes "1" ∷ codes "." ∷ codes "reduc" ∷ codes "g" ∷ codes "(" ∷ codes "f" ∷ codes "(" ∷ codes "x" ∷ codes ")" ∷ codes ")" ∷ codes "->" ∷ codes "x" ∷ codes "." ∷ codes "process" ∷ codes "out" ∷ codes "(" ∷ codes "c" ∷ codes "," ∷ codes "g" ∷ codes "(" ∷ codes "c" ∷ codes ")" ∷ codes ")" ∷ [])

abbrev opened_with : TermSketch → ProcessSketch → FileSketch
opened_with right main = record {
  declarations = Free 0 true 1 [] ∷ Fun 3 true 4 6 ∷ Reduc 8 (record { first = 9; arguments = more (Named 11 (more (Named 13 none) none)) none; result = right }) [] ∷ [];
  first = 19;
  main = main;
}

a_destructor_is_no_term : scope opened (opened_with (Named 17 none) (Process (Output 20 (Named 22 none) (Named 24 (more (Named 26 none) none)) omitted) alone)) ≡ fault Kind 24
a_destructor_is_no_term = refl

-- `c`, which is a free name, is a variable in a rule, and stands not on the left
a_loose_variable : scope opened (opened_with (Named 1 none) (Process (Zero 20) alone)) ≡ fault LooseVariable 1
a_loose_variable = refl

-- let g(c) be opened: `let x = g ( c ) in out ( c , x ) `, and otherwise `0`
a_call_is : scope opened (opened_with (Named 17 none) (Process (Let 8 (NamedPattern 13 no_patterns) (Grouped 21 (more (Named 24 (more (Named 26 none) none)) none)) (Output 20 (Named 22 none) (Named 17 none) omitted) omitted) alone))
    ≡ Ok (record {
      frees = free_name (codes "c") ∷ [];
      constructors = record { word = codes "f"; arity = 1; public = true; is_data = false } ∷ [];
      destructors = record { word = codes "g"; rules = record { left = node (calculus.Constructor 1) (Leaf (calculus.Variable 1) ∷ []) ∷ []; right = Leaf (calculus.Variable 1) } ∷ [] } ∷ [];
      events = [];
      tables = [];
      queries = [];
      main = calculus.Let (Leaf (calculus.Bind 1)) (node (calculus.Calls 1) (Leaf (Leaf (calculus.Free 1)) ∷ []))
          (calculus.Output (Leaf (calculus.Free 1)) (Leaf (calculus.Variable 1)) calculus.Nil) calculus.Nil;
    })
a_call_is = refl

-- free c . let P = in ( c , x ) ; out ( c , x ) . process P | P
abbrev twice : Texts
twice = texts (codes "free" ∷ codes "c" ∷ codes "." ∷ codes "let" ∷ codes "P" ∷ codes "=" ∷ codes "in" ∷ codes "(" ∷ codes "c" ∷ codes "," ∷ codes "x" ∷ codes ")" ∷ codes ";" ∷ codes "out" ∷ codes "(" ∷ codes "c" ∷ codes "," ∷ codes "x" ∷ codes ")" ∷ codes "." ∷ codes "process" ∷ codes "P" ∷ codes "|" ∷ codes "P" ∷ [])

abbrev echo : ProcessSketch
echo = Process (Input 6 (Named 8 none) (NamedPattern 10 no_patterns) (given (Output 13 (Named 15 none) (Named 17 none) omitted))) alone

abbrev echo_of : ℕ → calculus.Process
echo_of i = calculus.Input (Leaf (calculus.Free 1)) (Leaf (calculus.Bind i)) (calculus.Output (Leaf (calculus.Free 1)) (Leaf (calculus.Variable i)) calculus.Nil)

-- each use has variables of its own
each_use_is_fresh : scope twice (record { declarations = Free 0 true 1 [] ∷ Definition 3 4 echo ∷ []; first = 20; main = Process (Macro 21) (beside (Process (Macro 23) alone)) })
    ≡ Ok (record {
      frees = free_name (codes "c") ∷ [];
      constructors = [];
      destructors = [];
      events = [];
      tables = [];
      queries = [];
      main = calculus.Parallel (echo_of 1) (echo_of 2);
    })
each_use_is_fresh = refl

-- a macro does not see itself
no_recursion : scope twice (record { declarations = Free 0 true 1 [] ∷ Definition 3 4 (Process (Macro 21) alone) ∷ []; first = 20; main = Process (Macro 21) alone })
    ≡ fault Unknown 21
no_recursion = refl

-- so many `!` before `0`
abbrev copies : ℕ → UnitSketch
copies zero = Zero 1
copies (suc n) = Replicated 0 (copies n)

-- 511 points may stand above a point, and no more: in the main process the place is the point's, and in a macro that of its use
too_deep : scope twice (record { declarations = []; first = 20; main = Process (copies 512) alone }) ≡ fault TooMany 1
too_deep = refl

too_deep_in_a_macro : scope twice (record { declarations = Definition 3 4 (Process (copies 512) alone) ∷ []; first = 20; main = Process (Macro 21) alone }) ≡ fault TooMany 21
too_deep_in_a_macro = refl

-- the outermost use is named: let P = .. . let Q = P . process Q
abbrev nested : Texts
nested = texts (codes "let" ∷ codes "P" ∷ codes "=" ∷ codes "0" ∷ codes "." ∷ codes "let" ∷ codes "Q" ∷ codes "=" ∷ codes "P" ∷ codes "." ∷ codes "process" ∷ codes "Q" ∷ [])

too_deep_in_macros : scope nested (record { declarations = Definition 0 1 (Process (copies 512) alone) ∷ Definition 5 6 (Process (Macro 8) alone) ∷ []; first = 10; main = Process (Macro 11) alone }) ≡ fault TooMany 11
too_deep_in_macros = refl

-- fun f / 1 . reduc g ( f ) -> f . process 0
abbrev shadowed : Texts
shadowed = texts (codes "fun" ∷ codes "f" ∷ codes "/" ∷ codes "1" ∷ codes "." ∷ codes "reduc" ∷ codes "g" ∷ codes "(" ∷ codes "f" ∷ codes ")" ∷ codes "->" ∷ codes "f" ∷ codes "." ∷ codes "process" ∷ codes "0" ∷ [])

-- a constructor that takes arguments is a variable in a rule
a_variable_is : scope shadowed (record { declarations = Fun 0 true 1 3 ∷ Reduc 5 (record { first = 6; arguments = more (Named 8 none) none; result = Named 11 none }) [] ∷ []; first = 13; main = Process (Zero 14) alone })
    ≡ Ok (record {
      frees = [];
      constructors = record { word = codes "f"; arity = 1; public = true; is_data = false } ∷ [];
      destructors = record { word = codes "g"; rules = record { left = Leaf (calculus.Variable 1) ∷ []; right = Leaf (calculus.Variable 1) } ∷ [] } ∷ [];
      events = [];
      tables = [];
      queries = [];
      main = calculus.Nil;
    })
a_variable_is = refl
