-- What is asked of a protocol changes no run of it: a query holds of the protocol exactly where it holds of the one with other queries.
use Rattle.std.proofs.Common.{◌≡◌, ◌∙◌, ℕ, zero, suc, ◌+◌, List, [], ◌∷◌, ◌++◌, map, length, Bool, cond, Option, Some, None, option_and_then, option_map, refl, ap}
use Rattle.std.specs.List.{find, filter_map, flat_map, enumerate_from, list_any}
use Rattle.std.specs.Prelude.{is_some, nat_lt}
use mathlib.Core.Path.{fun_ext}
use Rattle.spec_trees.specs.Tree.{Trees, Leaf, Node, none, more, items_of}
use Rattle.spec_calculus.specs.Syntax.{Term, Symbol, Constructor, Tuple, Head, Builds, Calls, Expression, Query, Protocol, Process, Nil, Output, Input, Parallel, Replication, New, Let, Event, Phase, Insert, Get}
use Rattle.spec_calculus.specs.Values.{Value, Environment, value_of}
use Rattle.spec_calculus.specs.Matching.{matched, rules_of}
use Rattle.spec_calculus.specs.Choices.{Choice, Choices, built_choice, called_choice, joined_choice, choices, row_choices, ruled_value, label_of, same_label}
use Rattle.spec_calculus.specs.Points.{numbered, point_after, greatest_phase}
use Rattle.spec_calculus.specs.Secrecy.{Holds}
use Rattle.spec_calculus.specs.Runs.{Thread, At, Ended, Configuration, Step, Build, Reduce, Part, Fresh, Split, Copy, Make, Pass, Hear, Say, Take, Fail, Mark, Next, Put, Fetch, Miss, acts, acting, goes_on, learns, can_build, built, known_values, is_data, part_of, after_split, after_copy, after_make, after_receipt, after_pass, after_hear, after_say, after_take, after_fail, after_mark, after_put, after_fetch, after_miss, enters, after_step, after_steps, start}
use Rattle.protocol_text.specs.Questions.{asking}

module _ (P : Protocol) (queries : List Query) where
  -- the choices of an expression, and so its values
  mutual
    same_choices : (e : Expression) → choices (asking P queries) e ≡ choices P e
    same_choices (Leaf term) = refl
    same_choices (Node (Builds f) parts) = ap (map (built_choice f)) (same_row_choices parts)
    same_choices (Node (Calls d) parts) = ap (flat_map (λ (row : Choices). map (called_choice row) (enumerate_from 1 (rules_of P d)))) (same_row_choices parts)

    same_row_choices : (parts : Trees Term (Head ℕ)) → row_choices (asking P queries) parts ≡ row_choices P parts
    same_row_choices none = refl
    same_row_choices (more part parts) =
        ap (λ (rows : List Choices). flat_map (λ (first : Choice). map (joined_choice first) rows) (choices (asking P queries) part)) (same_row_choices parts)
        ∙ ap (flat_map (λ (first : Choice). map (joined_choice first) (row_choices P parts))) (same_choices part)

  -- what a thread does
  same_acts : {A : Type 0} (action : ℕ → Environment → Process → Option A) (thread : Thread) → acts (asking P queries) thread action ≡ acts P thread action
  same_acts action (At point environment) = refl
  same_acts action Ended = refl

  same_acting : {A : Type 0} (c : Configuration) (i : ℕ) (action : ℕ → Environment → Process → Option A) → acting (asking P queries) c i action ≡ acting P c i action
  same_acting {A} c i action = ap (λ (f : Thread → Option A). option_and_then f (numbered c.threads i)) (fun_ext (same_acts action))

  acts_same : {A : Type 0} (c : Configuration) (i : ℕ) (one other : ℕ → Environment → Process → Option A) → ((point : ℕ) (environment : Environment) (process : Process) → one point environment process ≡ other point environment process)
      → acting (asking P queries) c i one ≡ acting P c i other
  acts_same c i one other same =
      let path : one ≡ other = λ k point environment process. same point environment process k in
      same_acting c i one ∙ ap (acting P c i) path

  same_pass : (c : Configuration) (i j point : ℕ) (environment : Environment) (process : Process) → after_pass (asking P queries) c i j point environment process ≡ after_pass P c i j point environment process
  same_pass c i j point environment Nil = refl
  same_pass c i j point environment (Output channel message next) = same_acting c j (after_receipt c i j (At (point + 1) environment) (value_of environment channel) (value_of environment message))
  same_pass c i j point environment (Input channel pattern next) = refl
  same_pass c i j point environment (Parallel left right) = refl
  same_pass c i j point environment (Replication copied) = refl
  same_pass c i j point environment (New word next) = refl
  same_pass c i j point environment (Let pattern expression next otherwise) = refl
  same_pass c i j point environment (Event performed next) = refl
  same_pass c i j point environment (Phase number next) = refl
  same_pass c i j point environment (Insert table arguments next) = refl
  same_pass c i j point environment (Get table patterns condition next otherwise) = refl

  same_take : (c : Configuration) (i : ℕ) (label : List ℕ) (point : ℕ) (environment : Environment) (process : Process) → after_take (asking P queries) c i label point environment process ≡ after_take P c i label point environment process
  same_take c i label point environment Nil = refl
  same_take c i label point environment (Output channel message next) = refl
  same_take c i label point environment (Input channel pattern next) = refl
  same_take c i label point environment (Parallel left right) = refl
  same_take c i label point environment (Replication copied) = refl
  same_take c i label point environment (New word next) = refl
  same_take c i label point environment (Let pattern expression next otherwise) =
      ap (λ (all : List Choice). option_map (λ (bindings : Environment). goes_on c i (At (point + 1) (environment ++ bindings)))
      (option_and_then (matched environment pattern) (option_and_then (λ (choice : Choice). ruled_value environment choice.ruled) (find (λ (choice : Choice). same_label (label_of choice.rules) label) all)))) (same_choices expression)
  same_take c i label point environment (Event performed next) = refl
  same_take c i label point environment (Phase number next) = refl
  same_take c i label point environment (Insert table arguments next) = refl
  same_take c i label point environment (Get table patterns condition next otherwise) = refl

  same_fail : (c : Configuration) (i point : ℕ) (environment : Environment) (process : Process) → after_fail (asking P queries) c i point environment process ≡ after_fail P c i point environment process
  same_fail c i point environment Nil = refl
  same_fail c i point environment (Output channel message next) = refl
  same_fail c i point environment (Input channel pattern next) = refl
  same_fail c i point environment (Parallel left right) = refl
  same_fail c i point environment (Replication copied) = refl
  same_fail c i point environment (New word next) = refl
  same_fail c i point environment (Let pattern expression next otherwise) =
      ap (λ (all : List Choice). cond (list_any (λ (v : Value). is_some (matched environment pattern v)) (filter_map (λ (choice : Choice). ruled_value environment choice.ruled) all)) None
      (Some (goes_on c i (At (point_after (point + 1) next) environment)))) (same_choices expression)
  same_fail c i point environment (Event performed next) = refl
  same_fail c i point environment (Phase number next) = refl
  same_fail c i point environment (Insert table arguments next) = refl
  same_fail c i point environment (Get table patterns condition next otherwise) = refl

  -- what the attacker does
  same_build : (f count : ℕ) → can_build (asking P queries) f count ≡ can_build P f count
  same_build zero count = refl
  same_build (suc f) count = refl

  same_data : (symbol : Symbol) → is_data (asking P queries) symbol ≡ is_data P symbol
  same_data Tuple = refl
  same_data (Constructor f) = refl

  same_part : (i : ℕ) (v : Value) → part_of (asking P queries) i v ≡ part_of P i v
  same_part i (Leaf x) = refl
  same_part i (Node f vs) = ap (λ (b : Bool). cond b (numbered (items_of vs) i) None) (same_data f)

  -- the next phase
  same_enters : (n : ℕ) (thread : Thread) → enters (asking P queries) n thread ≡ enters P n thread
  same_enters n (At point environment) = refl
  same_enters n Ended = refl

  -- a step, and steps
  same_step : (c : Configuration) (step : Step) → after_step (asking P queries) c step ≡ after_step P c step
  same_step c (Build f ks) = ap (λ (b : Bool). cond b (option_map (λ (vs : List Value). learns c (built f vs)) (known_values c ks)) None) (same_build f (length ks))
  same_step c (Reduce d r ks) = refl
  same_step c (Part k i) = ap (λ (f : Value → Option Value). option_map (learns c) (option_and_then f (numbered c.known k))) (fun_ext (same_part i))
  same_step c Fresh = refl
  same_step c (Split i) = same_acting c i (after_split c i)
  same_step c (Copy i) = same_acting c i (after_copy c)
  same_step c (Make i) = same_acting c i (after_make c i)
  same_step c (Pass i j) = acts_same c i (after_pass (asking P queries) c i j) (after_pass P c i j) (same_pass c i j)
  same_step c (Hear i) = same_acting c i (after_hear c i)
  same_step c (Say j k) = ap (λ (f : Value → Option Configuration). option_and_then f (numbered c.known k)) (fun_ext (λ (v : Value). same_acting c j (after_say c j v)))
  same_step c (Take i label) = acts_same c i (after_take (asking P queries) c i label) (after_take P c i label) (same_take c i label)
  same_step c (Fail i) = acts_same c i (after_fail (asking P queries) c i) (after_fail P c i) (same_fail c i)
  same_step c (Mark i) = same_acting c i (after_mark c i)
  same_step c Next = ap (λ (f : Thread → Thread). cond (nat_lt c.phase (greatest_phase P.main)) (Some (record c { phase = c.phase + 1; threads = map f c.threads })) None) (fun_ext (same_enters (c.phase + 1)))
  same_step c (Put i) = same_acting c i (after_put c i)
  same_step c (Fetch i e) = same_acting c i (after_fetch c i e)
  same_step c (Miss i) = same_acting c i (after_miss c i)

  same_steps : (c : Configuration) (steps : List Step) → after_steps (asking P queries) c steps ≡ after_steps P c steps
  same_steps c [] = refl
  same_steps c (step ∷ steps) =
      ap (option_and_then (λ (d : Configuration). after_steps (asking P queries) d steps)) (same_step c step)
      ∙ ap (λ (f : Configuration → Option Configuration). option_and_then f (after_step P c step)) (fun_ext (λ (d : Configuration). same_steps d steps))

  -- a query that holds of the protocol with other queries holds of it
  pub holds_of_itself : (q : Query) → Holds (asking P queries) q → Holds P q
  holds_of_itself q holds = λ steps c is. holds steps c (same_steps (start P) steps ∙ is)
