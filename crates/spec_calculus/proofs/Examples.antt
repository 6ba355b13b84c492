-- Small protocols, their runs worked out by hand: the definitions give them so.
use Rattle.std.proofs.Common.{◌≡◌, true, false, List, [], ◌∷◌, None, Some, Contains, zero, suc, refl, sym, subst, arith, lit<}
use Rattle.spec_trees.specs.Tree.{Leaf, node}
use Rattle.spec_calculus.specs.Syntax.{Free, Made, Variable, Constructor, Tuple, Bind, Equal, Calls, EventTerm, Process, Nil, Output, Input, Parallel, Replication, New, Let, Event, Secret, Correspondence, Protocol}
use Rattle.spec_calculus.specs.Values.{FreeName, MadeName, AttackerName, Value, Environment}
use Rattle.spec_calculus.specs.Runs.{At, Ended, Configuration, Step, Build, Reduce, Part, Fresh, Split, Copy, Make, Pass, Hear, Say, Take, Fail, Mark, run}
use Rattle.spec_calculus.specs.Secrecy.{IsViolated, AllPerformed, instance, Holds}
use Rattle.spec_calculus.proofs.Absence.{absent_is_secret}

-- `free c. private free s. query attacker(s).`, with a main process
abbrev pub with_main : Process → Protocol
with_main main = record {
  frees = record { word = 99 ∷ []; arity = 0; public = true; is_data = false } ∷ record { word = 115 ∷ []; arity = 0; public = false; is_data = false } ∷ [];
  constructors = [];
  destructors = [];
  events = [];
  tables = [];
  queries = Secret (Leaf (Free 2)) 0 ∷ [];
  main = main;
}

-- `out(c,s)` gives s away: the message is heard on c, which is known
abbrev pub gives_away : Protocol
gives_away = with_main (Output (Leaf (Free 1)) (Leaf (Free 2)) Nil)

pub heard : run gives_away (Hear 1 ∷ []) ≡ Some (record { threads = At 2 [] ∷ []; known = Leaf (FreeName 1) ∷ Leaf (FreeName 2) ∷ []; events = []; next = 0; phase = 0; entries = [] })
heard = refl

pub given_away : ¬ Holds gives_away (Secret (Leaf (Free 2)) 0)
given_away holds = holds (Hear 1 ∷ []) (record { threads = At 2 [] ∷ []; known = Leaf (FreeName 1) ∷ Leaf (FreeName 2) ∷ []; events = []; next = 0; phase = 0; entries = [] }) refl ((1, lit< tt, refl), omega arith)

-- `out(s,c)` sends on a channel that is never known
pub not_heard : run (with_main (Output (Leaf (Free 2)) (Leaf (Free 1)) Nil)) (Hear 1 ∷ []) ≡ None
not_heard = refl

-- `new s; out(c,s)`: the free name s is hidden, and another name becomes known
abbrev pub hides : Protocol
hides = with_main (New (115 ∷ []) (Output (Leaf (Free 1)) (Leaf (Made 1)) Nil))

pub made : run hides (Fresh ∷ Make 1 ∷ Hear 1 ∷ []) ≡ Some (record {
  threads = At 3 (record { name = Made 1; value = Leaf (MadeName 1 1) } ∷ []) ∷ [];
  known = Leaf (FreeName 1) ∷ Leaf (AttackerName 0) ∷ Leaf (MadeName 1 1) ∷ [];
  events = [];
  next = 2;
  phase = 0;
  entries = [];
})
made = refl

pub hidden : Holds hides (Secret (Leaf (Free 2)) 0)
hidden = absent_is_secret hides (Secret (Leaf (Free 2)) 0) refl

-- the restriction's name can't be heard before it is made, and a thread that is not there takes no step
pub not_yet : run hides (Hear 1 ∷ []) ≡ None
not_yet = refl

pub no_thread : run hides (Make 2 ∷ []) ≡ None
no_thread = refl

-- `new n; in(c,x); if x = n then out(c,s) else out(c,n)`: the attacker says c, which is not n, and hears n
abbrev pub compares : Protocol
compares = with_main (New (110 ∷ []) (Input (Leaf (Free 1)) (Leaf (Bind 1))
    (Let (Leaf (Equal (Leaf (Made 1)))) (Leaf (Leaf (Variable 1)))
    (Output (Leaf (Free 1)) (Leaf (Free 2)) Nil) (Output (Leaf (Free 1)) (Leaf (Made 1)) Nil))))

pub not_equal : run compares (Make 1 ∷ Say 1 1 ∷ Fail 1 ∷ Hear 1 ∷ []) ≡ Some (record {
  threads = At 7 (record { name = Made 1; value = Leaf (MadeName 1 0) } ∷ record { name = Variable 1; value = Leaf (FreeName 1) } ∷ []) ∷ [];
  known = Leaf (FreeName 1) ∷ Leaf (MadeName 1 0) ∷ [];
  events = [];
  next = 1;
  phase = 0;
  entries = [];
})
not_equal = refl

-- where it is not equal the first branch is not taken, and where it is equal the second is not
pub no_first_branch : run compares (Make 1 ∷ Say 1 1 ∷ Take 1 (0 ∷ []) ∷ []) ≡ None
no_first_branch = refl

pub no_second_branch : run (with_main (Let (Leaf (Bind 1)) (Leaf (Leaf (Free 1))) Nil Nil)) (Fail 1 ∷ []) ≡ None
no_second_branch = refl

-- `free c. private free k. fun enc/2. reduc dec(enc(x,y),y) -> x. event begin/1. event end/1.
-- query event end(x) ==> event begin(x).
-- process !new n; out(c,enc(n,k)); event begin(n) | !in(c,x); let y = dec(x,k) in event end(y)`
abbrev pub ends_too_soon : Protocol
ends_too_soon = record {
  frees = record { word = 99 ∷ []; arity = 0; public = true; is_data = false } ∷ record { word = 107 ∷ []; arity = 0; public = false; is_data = false } ∷ [];
  constructors = record { word = 101 ∷ 110 ∷ 99 ∷ []; arity = 2; public = true; is_data = false } ∷ [];
  destructors = record {
    word = 100 ∷ 101 ∷ 99 ∷ [];
    rules = record { left = node (Constructor 1) (Leaf (Variable 1) ∷ Leaf (Variable 2) ∷ []) ∷ Leaf (Variable 2) ∷ []; right = Leaf (Variable 1) } ∷ [];
  } ∷ [];
  events = record { word = 98 ∷ []; arity = 1; public = true; is_data = false } ∷ record { word = 101 ∷ []; arity = 1; public = true; is_data = false } ∷ [];
  tables = [];
  queries = Correspondence (record { event = 2; arguments = Leaf (Variable 1) ∷ [] }) ((record { event = 1; arguments = Leaf (Variable 1) ∷ [] } ∷ []) ∷ []) ∷ [];
  main = Parallel
      (Replication (New (110 ∷ []) (Output (Leaf (Free 1)) (node (Constructor 1) (Leaf (Made 3) ∷ Leaf (Free 2) ∷ []))
      (Event (record { event = 1; arguments = Leaf (Made 3) ∷ [] }) Nil))))
      (Replication (Input (Leaf (Free 1)) (Leaf (Bind 1)) (Let (Leaf (Bind 2)) (node (Calls 1) (Leaf (Leaf (Variable 1)) ∷ Leaf (Leaf (Free 2)) ∷ []))
      (Event (record { event = 2; arguments = Leaf (Variable 2) ∷ [] }) Nil) Nil)));
}

abbrev the_name : Value
the_name = Leaf (MadeName 3 0)

abbrev the_message : Value
the_message = node (Constructor 1) (the_name ∷ Leaf (FreeName 2) ∷ [])

abbrev pub eight_steps : List Step
eight_steps = Split 1 ∷ Copy 1 ∷ Make 3 ∷ Hear 3 ∷ Copy 2 ∷ Say 4 2 ∷ Take 4 (1 ∷ []) ∷ Mark 4 ∷ []

abbrev pub after_eight : Configuration
after_eight = record {
  threads = At 2 [] ∷ At 7 [] ∷ At 5 (record { name = Made 3; value = the_name } ∷ [])
      ∷ At 11 (record { name = Variable 1; value = the_message } ∷ record { name = Variable 2; value = the_name } ∷ []) ∷ [];
  known = Leaf (FreeName 1) ∷ the_message ∷ [];
  events = record { event = 2; arguments = the_name ∷ [] } ∷ [];
  next = 1;
  phase = 0;
  entries = [];
}

pub ended : run ends_too_soon eight_steps ≡ Some after_eight
ended = refl

-- the event that should have been before the end has not been: the query is violated
pub unpreceded : IsViolated (Correspondence (record { event = 2; arguments = Leaf (Variable 1) ∷ [] }) ((record { event = 1; arguments = Leaf (Variable 1) ∷ [] } ∷ []) ∷ [])) after_eight
unpreceded = (
  0,
  record {
    environment = record { name = Variable 1; value = the_name } ∷ [];
    is_instance = refl;
    unpreceded = λ extension alternative same among performed. none extension alternative among performed;
  },
)
  where
    nothing_in : {A : Type 0} (x : A) → Contains [] x → ⊥
    nothing_in x (k, within, at) = absurd (omega arith)

    only : (alternative : List EventTerm) → Contains ((record { event = 1; arguments = Leaf (Variable 1) ∷ [] } ∷ []) ∷ []) alternative → alternative ≡ (record { event = 1; arguments = Leaf (Variable 1) ∷ [] } ∷ [])
    only alternative (zero, within, at) = sym at
    only alternative (suc k, within, at) = absurd (omega arith)

    none : (extension : Environment) (alternative : List EventTerm) → Contains ((record { event = 1; arguments = Leaf (Variable 1) ∷ [] } ∷ []) ∷ []) alternative → AllPerformed extension alternative [] → ⊥
    none extension alternative among performed =
        let Q : List EventTerm → Type 0 = λ a. AllPerformed extension a [] in
        let all : AllPerformed extension (record { event = 1; arguments = Leaf (Variable 1) ∷ [] } ∷ []) [] = subst Q (only alternative among) performed in
        nothing_in (instance extension (record { event = 1; arguments = Leaf (Variable 1) ∷ [] })) all.0

-- the attacker's own steps
pub attacker_steps : run ends_too_soon (Fresh ∷ Build 1 (2 ∷ 1 ∷ []) ∷ Reduce 1 1 (3 ∷ 1 ∷ []) ∷ Build 0 (1 ∷ 2 ∷ []) ∷ Part 5 2 ∷ []) ≡ Some (record {
  threads = At 1 [] ∷ [];
  known = Leaf (FreeName 1) ∷ Leaf (AttackerName 0) ∷ node (Constructor 1) (Leaf (AttackerName 0) ∷ Leaf (FreeName 1) ∷ [])
      ∷ Leaf (AttackerName 0) ∷ node Tuple (Leaf (FreeName 1) ∷ Leaf (AttackerName 0) ∷ []) ∷ Leaf (AttackerName 0) ∷ [];
  events = [];
  next = 1;
  phase = 0;
  entries = [];
})
attacker_steps = refl

-- a rule does not apply with another key, and what is not data has no parts
pub wrong_key : run ends_too_soon (Fresh ∷ Build 1 (2 ∷ 1 ∷ []) ∷ Reduce 1 1 (3 ∷ 2 ∷ []) ∷ []) ≡ None
wrong_key = refl

pub no_part : run ends_too_soon (Build 1 (1 ∷ 1 ∷ []) ∷ Part 2 1 ∷ []) ≡ None
no_part = refl

-- an output meets an input, and an input that does not match ends its thread
abbrev pub passes : Protocol
passes = with_main (Parallel (Output (Leaf (Free 2)) (Leaf (Free 1)) Nil) (Input (Leaf (Free 2)) (node Tuple (Leaf (Bind 1) ∷ Leaf (Bind 2) ∷ [])) Nil))

pub passed : run passes (Split 1 ∷ Pass 1 2 ∷ []) ≡ Some (record { threads = At 3 [] ∷ Ended ∷ []; known = Leaf (FreeName 1) ∷ []; events = []; next = 0; phase = 0; entries = [] })
passed = refl
