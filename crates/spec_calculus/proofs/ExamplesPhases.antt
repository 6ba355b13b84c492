-- Small protocols with phases and tables, and their runs.
use Rattle.std.proofs.Common.{◌≡◌, List, [], ◌∷◌, None, Some, refl, true, false, arith, lit<}
use Rattle.spec_trees.specs.Tree.{Leaf, node}
use Rattle.spec_calculus.specs.Syntax.{Free, Made, Variable, Constructor, Term, Bind, Rule, Process, Nil, Output, Parallel, Replication, New, Phase, Insert, Get, Secret, Protocol}
use Rattle.spec_calculus.specs.Points.{name_arguments}
use Rattle.spec_calculus.specs.Values.{FreeName, MadeName, Value}
use Rattle.spec_calculus.specs.Runs.{At, Ended, Configuration, Step, Reduce, Split, Copy, Make, Hear, Next, Put, Fetch, Miss, run}
use Rattle.spec_calculus.specs.Secrecy.{IsViolated}
use Rattle.spec_calculus.specs.Refusals.{NoThread, WrongForm, NotFailing, NoEntry, refusal}
use Rattle.spec_calculus.specs.Phases.{open_steps}

-- `free c. private free k. private free s. fun enc/2. reduc dec(enc(x,y),y) -> x.`, with tables of one term and a main process
abbrev decryption : Rule
decryption = record { left = node (Constructor 1) (Leaf (Variable 1) ∷ Leaf (Variable 2) ∷ []) ∷ Leaf (Variable 2) ∷ []; right = Leaf (Variable 1) }

abbrev c : Term
c = Leaf (Free 1)

abbrev k : Term
k = Leaf (Free 2)

abbrev s : Term
s = Leaf (Free 3)

abbrev enc : Term → Term → Term
enc t u = node (Constructor 1) (t ∷ u ∷ [])

abbrev with_main : Process → Protocol
with_main main = record {
  frees = record { word = 99 ∷ []; arity = 0; public = true; is_data = false } ∷ record { word = 107 ∷ []; arity = 0; public = false; is_data = false }
      ∷ record { word = 115 ∷ []; arity = 0; public = false; is_data = false } ∷ [];
  constructors = record { word = 101 ∷ 110 ∷ 99 ∷ []; arity = 2; public = true; is_data = false } ∷ [];
  destructors = record { word = 100 ∷ 101 ∷ 99 ∷ []; rules = decryption ∷ [] } ∷ [];
  events = [];
  tables = record { word = 107 ∷ 101 ∷ 121 ∷ 115 ∷ []; arity = 1; public = true; is_data = false } ∷ [];
  queries = Secret s 0 ∷ Secret s 1 ∷ [];
  main = main;
}

-- `out(c,enc(s,k)) | phase 1; out(c,k)`: the key is given away in phase 1
abbrev gives_the_key : Protocol
gives_the_key = with_main (Parallel (Output c (enc s k) Nil) (Phase 1 (Output c k Nil)))

abbrev hidden : Value
hidden = node (Constructor 1) (Leaf (FreeName 3) ∷ Leaf (FreeName 2) ∷ [])

abbrev five_steps : List Step
five_steps = Split 1 ∷ Hear 1 ∷ Next ∷ Hear 2 ∷ Reduce 1 1 (2 ∷ 3 ∷ []) ∷ []

abbrev after_five : Configuration
after_five = record {
  threads = Ended ∷ At 6 [] ∷ [];
  known = Leaf (FreeName 1) ∷ hidden ∷ Leaf (FreeName 2) ∷ Leaf (FreeName 3) ∷ [];
  events = [];
  next = 0;
  phase = 1;
  entries = [];
}

key_given : run gives_the_key five_steps ≡ Some after_five
key_given = refl

-- so s is no secret in phase 1, and it stays one of phase 0
known_in_phase_one : IsViolated (Secret s 1) after_five
known_in_phase_one = ((3, lit< tt, refl), omega arith)

not_in_phase_zero : ¬ IsViolated (Secret s 0) after_five
not_in_phase_zero (known, within) = omega (arith, within)

up_to_phase_zero : open_steps (Secret s 0) five_steps ≡ Split 1 ∷ Hear 1 ∷ []
up_to_phase_zero = refl

up_to_phase_one : open_steps (Secret s 1) five_steps ≡ five_steps
up_to_phase_one = refl

-- `phase 1`: what is violated does not stay violated, where the phase of the query passes
abbrev only_waits : Protocol
only_waits = with_main (Phase 1 Nil)

abbrev at_start : Configuration
at_start = record { threads = At 1 [] ∷ []; known = Leaf (FreeName 1) ∷ []; events = []; next = 0; phase = 0; entries = [] }

abbrev at_end : Configuration
at_end = record { threads = At 2 [] ∷ []; known = Leaf (FreeName 1) ∷ []; events = []; next = 0; phase = 1; entries = [] }

started : run only_waits [] ≡ Some at_start
started = refl

raised_once : run only_waits (Next ∷ []) ≡ Some at_end
raised_once = refl

violated_at_start : IsViolated (Secret c 0) at_start
violated_at_start = ((0, lit< tt, refl), omega arith)

not_at_end : ¬ IsViolated (Secret c 0) at_end
not_at_end (known, within) = omega (arith, within)

-- and there is no second phase to come
no_more_phases : refusal only_waits at_end Next ≡ Some WrongForm
no_more_phases = refl

-- `out(c,c) | phase 2; 0`: a thread that waits for no phase ends, and one that waits for a later one stays
waits_on : run (with_main (Parallel (Output c c Nil) (Phase 2 Nil))) (Split 1 ∷ Next ∷ []) ≡ Some (record {
  threads = Ended ∷ At 4 [] ∷ [];
  known = Leaf (FreeName 1) ∷ [];
  events = [];
  next = 0;
  phase = 1;
  entries = [];
})
waits_on = refl

-- `!new k; insert keys(k) | !get keys(x) in out(c,enc(s,x))`
abbrev serves : Protocol
serves = with_main (Parallel
    (Replication (New (107 ∷ []) (Insert 1 (Leaf (Made 3) ∷ []) Nil)))
    (Replication (Get 1 (Leaf (Bind 1) ∷ []) None (Output c (enc s (Leaf (Variable 1))) Nil) Nil)))

abbrev fresh_key : Value
fresh_key = Leaf (MadeName 3 0)

abbrev has_key : Configuration
has_key = record {
  threads = At 2 [] ∷ At 6 [] ∷ At 5 (record { name = Made 3; value = fresh_key } ∷ []) ∷ At 7 [] ∷ [];
  known = Leaf (FreeName 1) ∷ [];
  events = [];
  next = 1;
  phase = 0;
  entries = record { table = 1; arguments = fresh_key ∷ [] } ∷ [];
}

entered : run serves (Split 1 ∷ Copy 1 ∷ Make 3 ∷ Put 3 ∷ Copy 2 ∷ []) ≡ Some has_key
entered = refl

-- the entry is there, so that the `get` does not miss, and there is no second one
no_miss : refusal serves has_key (Miss 4) ≡ Some NotFailing
no_miss = refl

no_second_entry : refusal serves has_key (Fetch 4 2) ≡ Some NoEntry
no_second_entry = refl

no_get : refusal serves has_key (Fetch 3 1) ≡ Some WrongForm
no_get = refl

no_fifth_thread : refusal serves has_key (Put 5) ≡ Some NoThread
no_fifth_thread = refl

fetched : run serves (Split 1 ∷ Copy 1 ∷ Make 3 ∷ Put 3 ∷ Copy 2 ∷ Fetch 4 1 ∷ []) ≡ Some (record {
  threads = At 2 [] ∷ At 6 [] ∷ At 5 (record { name = Made 3; value = fresh_key } ∷ []) ∷ At 8 (record { name = Variable 1; value = fresh_key } ∷ []) ∷ [];
  known = Leaf (FreeName 1) ∷ [];
  events = [];
  next = 1;
  phase = 0;
  entries = record { table = 1; arguments = fresh_key ∷ [] } ∷ [];
})
fetched = refl

-- a name below the `get` has the entry's term among its arguments
arguments_of_names : name_arguments 0 serves.main ≡ 0 ∷ 0 ∷ 1 ∷ 1 ∷ 1 ∷ 0 ∷ 1 ∷ 2 ∷ 2 ∷ 1 ∷ []
arguments_of_names = refl

-- `insert keys(c); get keys(x) suchthat x = s in 0`: the entry matches and does not meet the condition
abbrev wants_s : Protocol
wants_s = with_main (Insert 1 (c ∷ []) (Get 1 (Leaf (Bind 1) ∷ []) (Some (Leaf (Variable 1), s)) Nil Nil))

not_met : run wants_s (Put 1 ∷ Fetch 1 1 ∷ []) ≡ None
not_met = refl

missed : run wants_s (Put 1 ∷ Miss 1 ∷ []) ≡ Some (record {
  threads = At 4 [] ∷ [];
  known = Leaf (FreeName 1) ∷ [];
  events = [];
  next = 0;
  phase = 0;
  entries = record { table = 1; arguments = Leaf (FreeName 1) ∷ [] } ∷ [];
})
missed = refl
