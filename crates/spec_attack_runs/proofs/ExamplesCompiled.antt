-- Instances and the steps that they are compiled to, worked out by hand.
use Rattle.std.proofs.Common.{◌≡◌, ℕ, List, [], ◌∷◌, None, Some, refl}
use Rattle.spec_trees.specs.Tree.{Leaf, node}
use Rattle.spec_calculus.specs.Syntax.{Variable, Bind, Nil, Output, Input, Parallel, Replication, Phase, Insert, Get, Protocol}
use Rattle.spec_calculus.specs.Syntax as calculus
use Rattle.spec_calculus.specs.Runs.{Build, Reduce, Part, Fresh, Split, Copy, Make, Pass, Hear, Say, Fail, Next, Put, Fetch}
use Rattle.spec_calculus.specs.Limits.{is_large}
use Rattle.spec_calculus.proofs.Examples.{with_main, compares}
use Rattle.spec_terms.specs.Term.{Ctor, Tuple, Point, Term}
use Rattle.spec_clauses.specs.Fact.{Att, Bad}
use Rattle.spec_translation.proofs.ExampleWords.{clause, free, public_name, private_name, constructor_of, name, apply, decryption}
use Rattle.spec_attack_runs.specs.Source.{Choice, Taken, Else, Way, Reduces, Reaches, Source}
use Rattle.spec_attack_runs.specs.Instance.{own_name}
use Rattle.spec_attack_runs.specs.Compiling.{take_step, placed}
use Rattle.spec_attack_runs.specs.Walking.{once, walked}
use Rattle.spec_attack_runs.specs.Attack.{compiled_steps}

-- an instance whose thread goes that way
abbrev reaching : Way → Source
reaching way = record { raw = clause [] (Bad []); part = 1; action = Reaches way }

abbrev to_point : ℕ → List Choice → List Term → List Term → Source
to_point point choices messages sessions = reaching (record { point = point; choices = choices; messages = messages; sessions = sessions; phase = 0 })

abbrev c : calculus.Term
c = Leaf (calculus.Free 1)

abbrev s : calculus.Term
s = Leaf (calculus.Free 2)

-- `out(s,c) | in(s,x); out(c,x)`: the first output waits, and is passed to the input on its private channel
abbrev passes_on : Protocol
passes_on = with_main (Parallel (Output s c Nil) (Input s (Leaf (Bind 1)) (Output c (Leaf (Variable 1)) Nil)))

a_message_is_passed : compiled_steps passes_on (to_point 2 [] [] [] ∷ to_point 5 [] (free 1 ∷ []) [] ∷ []) ≡ Some (Split 1 ∷ Pass 1 2 ∷ Hear 2 ∷ [])
unfolding is_large take_step placed once walked
a_message_is_passed = refl

-- and no output waits with another message
none_waits : compiled_steps passes_on (to_point 2 [] [] [] ∷ to_point 5 [] (free 2 ∷ []) [] ∷ []) ≡ None
unfolding is_large take_step placed once walked
none_waits = refl

-- `in(c,x); out(c,x)`, where `((@1,c),@1)` is said: a name, and tuples, each with its parts
abbrev repeats : Protocol
repeats = with_main (Input c (Leaf (Bind 1)) (Output c (Leaf (Variable 1)) Nil))

abbrev pair : Term → Term → Term
pair t u = node (Tuple 2) (t ∷ u ∷ [])

a_tuple_is_built : compiled_steps repeats (to_point 2 [] (pair (pair (own_name 1) (free 1)) (own_name 1) ∷ []) [] ∷ [])
    ≡ Some (Fresh ∷ Build 0 (2 ∷ 1 ∷ []) ∷ Part 3 1 ∷ Part 3 2 ∷ Build 0 (3 ∷ 2 ∷ []) ∷ Part 6 1 ∷ Part 7 1 ∷ Part 7 2 ∷ Part 6 2
    ∷ Say 1 6 ∷ Hear 1 ∷ Part 11 1 ∷ Part 12 1 ∷ Part 12 2 ∷ Part 11 2 ∷ [])
unfolding is_large take_step placed once walked
a_tuple_is_built = refl

-- and in one session the input receives one message
another_message : compiled_steps repeats (to_point 2 [] (free 1 ∷ []) [] ∷ to_point 2 [] (own_name 1 ∷ []) [] ∷ []) ≡ None
unfolding is_large take_step placed once walked
another_message = refl

-- `!out(c,c); out(c,s)`: one copy is gone into twice, and each other by a copy of its own
abbrev copies : Protocol
copies = with_main (Replication (Output c c (Output c s Nil)))

one_copy : compiled_steps copies (to_point 2 [] [] (own_name 1 ∷ []) ∷ to_point 3 [] [] (own_name 1 ∷ []) ∷ []) ≡ Some (Copy 1 ∷ Hear 2 ∷ Hear 2 ∷ [])
unfolding is_large take_step placed once walked
one_copy = refl

two_copies : compiled_steps copies (to_point 2 [] [] (own_name 1 ∷ []) ∷ to_point 2 [] [] (own_name 2 ∷ []) ∷ []) ≡ Some (Copy 1 ∷ Hear 2 ∷ Copy 1 ∷ Hear 3 ∷ [])
unfolding is_large take_step placed once walked
two_copies = refl

-- `new n; in(c,x); if x = n then out(c,s) else out(c,n)`: either branch by itself, but not both in one session, in which the input would
-- have received two messages
abbrev otherwise : Source
otherwise = to_point 6 (Else ∷ []) (free 1 ∷ []) []

abbrev gives_away : Source
gives_away = to_point 4 (Taken (0 ∷ []) ∷ []) (node (Point 1) [] ∷ []) []

one_branch : compiled_steps compares (otherwise ∷ []) ≡ Some (Make 1 ∷ Say 1 1 ∷ Fail 1 ∷ Hear 1 ∷ [])
unfolding is_large take_step placed once walked
one_branch = refl

a_conflict : compiled_steps compares (otherwise ∷ gives_away ∷ []) ≡ None
unfolding is_large take_step placed once walked
a_conflict = refl

-- `phase 1; out(c,s) | out(c,c)`: what is used in phase 0 comes first
abbrev later : Protocol
later = with_main (Parallel (Phase 1 (Output c s Nil)) (Output c c Nil))

abbrev in_phase_one : Source
in_phase_one = reaching (record { point = 3; choices = []; messages = []; sessions = []; phase = 1 })

a_phase_begins : compiled_steps later (in_phase_one ∷ to_point 5 [] [] [] ∷ []) ≡ Some (Split 1 ∷ Hear 2 ∷ Next ∷ Hear 1 ∷ [])
unfolding is_large take_step placed once walked
a_phase_begins = refl

-- `out(c,enc(s,k)) | phase 1; out(c,k)`: the key is given away in phase 1, and decrypts what was heard in phase 0
abbrev gives_the_key : Protocol
gives_the_key = record {
  frees = public_name 99 ∷ private_name 107 ∷ private_name 115 ∷ [];
  constructors = constructor_of 101 2 ∷ [];
  destructors = record { word = 100 ∷ []; rules = decryption ∷ [] } ∷ [];
  events = [];
  tables = [];
  queries = [];
  main = Parallel (Output c (apply 1 (name 3 ∷ name 2 ∷ [])) Nil) (Phase 1 (Output c (name 2) Nil));
}

abbrev decrypting : Source
decrypting = record {
  raw = clause (Att 1 (node (Ctor 1) (free 3 ∷ free 2 ∷ [])) ∷ Att 1 (free 2) ∷ []) (Att 1 (free 3));
  part = 1;
  action = Reduces 1 1;
}

abbrev key_heard : Source
key_heard = reaching (record { point = 5; choices = []; messages = []; sessions = []; phase = 1 })

a_key_is_given : compiled_steps gives_the_key (key_heard ∷ to_point 2 [] [] [] ∷ decrypting ∷ []) ≡ Some (Split 1 ∷ Hear 1 ∷ Next ∷ Hear 2 ∷ Reduce 1 1 (2 ∷ 3 ∷ []) ∷ [])
unfolding is_large take_step placed once walked
a_key_is_given = refl

-- `insert t(s) | get t(x) in out(c,x)`: an entry is written, and taken
abbrev keeps : Protocol
keeps = record (with_main (Parallel (Insert 1 (s ∷ []) Nil) (Get 1 (Leaf (Bind 1) ∷ []) None (Output c (Leaf (Variable 1)) Nil) Nil))) { tables = constructor_of 116 1 ∷ [] }

an_entry_is_taken : compiled_steps keeps (to_point 2 [] [] [] ∷ to_point 5 (Taken [] ∷ []) (free 2 ∷ []) [] ∷ []) ≡ Some (Split 1 ∷ Put 1 ∷ Fetch 2 1 ∷ Hear 2 ∷ [])
unfolding is_large take_step placed once walked
an_entry_is_taken = refl
