-- Small files with phases and tables, worked out by hand.
use Rattle.std.proofs.Common.{◌≡◌, ℕ, true, false, List, [], ◌∷◌, None, Some, codes, slice_get, unwrap_or, Ok, refl}
use Rattle.spec_trees.specs.Tree.{Leaf}
use Rattle.spec_calculus.specs.Syntax as calculus
use Rattle.spec_protocol_grammar.specs.Sketch.{TermSketch, Named, none, more, PatternSketch, NamedPattern, Equal, no_patterns, more_patterns, always, such_that, Process, alone, UnitSketch, Zero, Phase, Insert, Get, omitted, given, DeclarationSketch, Attacker, Free, Table, Query, FileSketch}
use Rattle.spec_protocol_scope.specs.Answers.{Unknown, Twice, Arity, Kind, TooMany, PhaseOrder, fault}
use Rattle.spec_protocol_scope.specs.Names.{Texts}
use Rattle.spec_protocol_scope.specs.Scope.{scope}

-- the texts of these tokens
abbrev texts : List (List ℕ) → Texts
texts words n = unwrap_or (slice_get words n) []

-- a file of these declarations and this unit
abbrev file : List DeclarationSketch → ℕ → UnitSketch → FileSketch
file ds first u = record { declarations = ds; first = first; main = Process u alone }

-- process phase 1 ; phase 1
abbrev twice : Texts
twice = texts (codes "process" ∷ codes "phase" ∷ codes "1" ∷ codes ";" ∷ codes "phase" ∷ codes "1" ∷ [])

the_same_phase_again : scope twice (file [] 0 (Phase 1 2 (given (Phase 4 5 omitted)))) ≡ fault PhaseOrder 5
the_same_phase_again = refl

-- process phase 3 ; phase 7
abbrev skipping : Texts
skipping = texts (codes "process" ∷ codes "phase" ∷ codes "3" ∷ codes ";" ∷ codes "phase" ∷ codes "7" ∷ [])

phases_are_left_out : scope skipping (file [] 0 (Phase 1 2 (given (Phase 4 5 omitted))))
    ≡ Ok (record { frees = []; constructors = []; destructors = []; events = []; tables = []; queries = []; main = calculus.Phase 3 (calculus.Phase 7 calculus.Nil) })
phases_are_left_out = refl

-- process phase 0, process phase 17
phase_of_the_start : scope (texts (codes "process" ∷ codes "phase" ∷ codes "0" ∷ [])) (file [] 0 (Phase 1 2 omitted)) ≡ fault PhaseOrder 2
phase_of_the_start = refl

phase_past_the_limit : scope (texts (codes "process" ∷ codes "phase" ∷ codes "17" ∷ [])) (file [] 0 (Phase 1 2 omitted)) ≡ fault TooMany 2
phase_past_the_limit = refl

-- free c . query attacker ( c ) phase 2 . process phase 1
abbrev asking : Texts
asking = texts (codes "free" ∷ codes "c" ∷ codes "." ∷ codes "query" ∷ codes "attacker" ∷ codes "(" ∷ codes "c" ∷ codes ")" ∷ codes "phase" ∷ codes "2" ∷ codes "." ∷ codes "process" ∷ codes "phase" ∷ codes "1" ∷ [])

past_the_greatest : scope asking (file (Free 0 true 1 [] ∷ Query 3 (Attacker 4 (Named 6 none) (Some 9)) ∷ []) 11 (Phase 12 13 omitted)) ≡ fault PhaseOrder 9
past_the_greatest = refl

-- without a number it is the greatest
the_greatest : scope asking (file (Free 0 true 1 [] ∷ Query 3 (Attacker 4 (Named 6 none) None) ∷ []) 11 (Phase 12 13 omitted))
    ≡ Ok (record {
      frees = record { word = codes "c"; arity = 0; public = true; is_data = false } ∷ [];
      constructors = [];
      destructors = [];
      events = [];
      tables = [];
      queries = calculus.Secret (Leaf (calculus.Free 1)) 1 ∷ [];
      main = calculus.Phase 1 calculus.Nil;
    })
the_greatest = refl

-- free c . table t / 2 . process get t ( x , = x ) suchthat x = y in 0
abbrev taking : Texts
taking = texts (codes "free" ∷ codes "c" ∷ codes "." ∷ codes "table" ∷ codes "t" ∷ codes "/" ∷ codes "2" ∷ codes "." ∷ codes "process" ∷ codes "get" ∷ codes "t" ∷ codes "(" ∷ codes "x" ∷ codes "," ∷ codes "=" ∷ codes "x" ∷ codes ")" ∷ codes "suchthat" ∷ codes "x" ∷ codes "=" ∷ codes "y" ∷ codes "in" ∷ codes "0" ∷ [])

abbrev declared : List DeclarationSketch
declared = Free 0 true 1 [] ∷ Table 3 4 6 ∷ []

abbrev x : TermSketch
x = Named 12 none

abbrev binds_x : PatternSketch
binds_x = NamedPattern 12 no_patterns

-- `= x` is read before the row binds x
row_is_read_before : scope taking (file declared 8 (Get 9 10 (more_patterns binds_x (more_patterns (Equal 14 (Named 15 none)) no_patterns)) always (Zero 22) omitted)) ≡ fault Unknown 15
row_is_read_before = refl

-- no row binds a variable twice
row_binds_once : scope taking (file declared 8 (Get 9 10 (more_patterns binds_x (more_patterns (NamedPattern 15 no_patterns) no_patterns)) always (Zero 22) omitted)) ≡ fault Twice 15
row_binds_once = refl

-- get t ( x , y ) suchthat x = y in 0
condition_sees_the_row : scope taking (file declared 8 (Get 9 10 (more_patterns binds_x (more_patterns (NamedPattern 20 no_patterns) no_patterns)) (such_that (Named 18 none) (Named 20 none)) (Zero 22) omitted))
    ≡ Ok (record {
      frees = record { word = codes "c"; arity = 0; public = true; is_data = false } ∷ [];
      constructors = [];
      destructors = [];
      events = [];
      tables = record { word = codes "t"; arity = 2; public = true; is_data = false } ∷ [];
      queries = [];
      main = calculus.Get 1 (Leaf (calculus.Bind 1) ∷ Leaf (calculus.Bind 2) ∷ []) (Some (Leaf (calculus.Variable 1), Leaf (calculus.Variable 2))) calculus.Nil calculus.Nil;
    })
condition_sees_the_row = refl

-- get t ( x ) in 0, and get c in 0
patterns_are_counted : scope taking (file declared 8 (Get 9 10 (more_patterns binds_x no_patterns) always (Zero 22) omitted)) ≡ fault Arity 10
patterns_are_counted = refl

free_names_are_no_tables : scope taking (file declared 8 (Get 9 1 no_patterns always (Zero 22) omitted)) ≡ fault Kind 1
free_names_are_no_tables = refl

-- insert t ( c , c ), insert t ( x , c ), insert t ( c )
abbrev c : TermSketch
c = Named 1 none

an_entry_is_written : scope taking (file declared 8 (Insert 9 (record { first = 10; arguments = more c (more c none) }) omitted))
    ≡ Ok (record {
      frees = record { word = codes "c"; arity = 0; public = true; is_data = false } ∷ [];
      constructors = [];
      destructors = [];
      events = [];
      tables = record { word = codes "t"; arity = 2; public = true; is_data = false } ∷ [];
      queries = [];
      main = calculus.Insert 1 (Leaf (calculus.Free 1) ∷ Leaf (calculus.Free 1) ∷ []) calculus.Nil;
    })
an_entry_is_written = refl

an_entry_of_what_is_not_bound : scope taking (file declared 8 (Insert 9 (record { first = 10; arguments = more x (more c none) }) omitted)) ≡ fault Unknown 12
an_entry_of_what_is_not_bound = refl

an_entry_is_too_short : scope taking (file declared 8 (Insert 9 (record { first = 10; arguments = more c none }) omitted)) ≡ fault Arity 10
an_entry_is_too_short = refl
