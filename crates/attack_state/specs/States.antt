-- What contracts see of a run that is compiled.
use Rattle.std.specs.Prelude.{◌≡◌, ℕ, Bool, ◌&&◌, nat_eq, ◌+◌, ◌*◌, ◌%◌, ◌^◌, ◌<◌, ◌≤◌, Option, None, Some, List, [], ◌∷◌, length, map, take}
use Rattle.std.specs.Borrow.{Bor}
use Rattle.std.specs.Cmp.Lexicographic.{pointwise}
use Rattle.spec_calculus.specs.Syntax.{Protocol}
use Rattle.spec_calculus.specs.Points.{nodes}
use Rattle.spec_calculus.specs.Values.{Value}
use Rattle.spec_terms.specs.Term.{Term}
use Rattle.term_tree.specs.declared.bank.Id.{Id}
use Rattle.clause_diffs.specs.Diffs.{NameTerms}
use Rattle.pi_tree.specs.Values.{value_of}
use Rattle.pi_configurations.specs.Configurations.{configuration_of, IsConfigurationOf}
use Rattle.pi_model.specs.Steps.{step_of}
use Rattle.held_entries.specs.Keys.{value_key}
use Rattle.spec_attack_runs.specs.Source.{Choice, Taken, Else}
use Rattle.spec_attack_runs.specs.Compiling.{Named, Done, State}
use Rattle.spec_attack_runs.specs.Attack.{most_steps}
use Rattle.attack_state.specs.declared.done.Chosen.{Chosen}
use Rattle.attack_state.specs.declared.done.Chosen.TheVariants as made
use Rattle.attack_state.specs.declared.done.Done.{Done as MadeDone}
use Rattle.attack_state.specs.declared.state.State.{State as MadeState}
use Rattle.attack_state.specs.declared.values.Known.{Known as MadeKnown}
use Rattle.attack_state.specs.declared.values.Named.{Named as MadeNamed}
use Rattle.attack_state.specs.Listing.{AreListed}

-- the known values, each listed by its key
pub record KnowsValues (known : List Value) (index : MadeKnown) : Type 0 where
  pub count : index.count ≡ length known
  pub listed : AreListed value_key known index.classes

-- the first so many of them are listed
pub record KnowsSome (known : List Value) (index : MadeKnown) : Type 0 where
  pub within : index.count ≤ length known
  pub listed : AreListed value_key (take index.count known) index.classes

-- whether two rows of ids are the same
abbrev pub same_ids : List Id → List Id → Bool
same_ids = pointwise (λ a b. nat_eq a.index b.index)

-- a name, and names, over the ids of a bank
pub record NamesNamed (all : List Term) (ids : MadeNamed) (named : Named) : Type 0 where
  pub term : NameTerms all (ids.term ∷ []) (named.term ∷ [])
  pub value : value_of ids.value ≡ named.value

abbrev pub NameNamed : List Term → List MadeNamed → List Named → Type 0
NameNamed all [] [] = Unit {0}
NameNamed all (ids ∷ others) (n ∷ ns) = NamesNamed all ids n × NameNamed all others ns
NameNamed all _ _ = ⊥

-- the class in which a name is listed
abbrev pub named_class : MadeNamed → ℕ
named_class ids = ids.term.index % 65521

-- whether a name is that of an id
abbrev pub names_id : Id → MadeNamed → Bool
names_id term ids = nat_eq ids.term.index term.index

-- the choice that was made at a node
abbrev pub chosen_of : Chosen → Choice
chosen_of (made.Taken label) = Taken label
chosen_of made.Else = Else

-- a node that was done, over ids; the thread that does it is not told
pub record NamesDone (all : List Term) (ids : MadeDone) (done : Done) : Type 0 where
  pub point : ids.point ≡ done.point
  pub sessions : NameTerms all ids.sessions.items done.sessions
  pub messages : NameTerms all ids.messages.items done.messages
  pub choice : chosen_of ids.choice ≡ done.choice
  pub other : ids.other ≡ done.other

abbrev pub NameDone : List Term → List MadeDone → List Done → Type 0
NameDone all [] [] = Unit {0}
NameDone all (ids ∷ others) (d ∷ ds) = NamesDone all ids d × NameDone all others ds
NameDone all _ _ = ⊥

-- the class in which the nodes of a point in a copy are listed
abbrev pub class_after : ℕ → List Id → ℕ
class_after class [] = class
class_after class (session ∷ sessions) = class_after ((class * 40503 + session.index % 65521) % 65521) sessions

abbrev pub node_class : ℕ → List Id → ℕ
node_class point sessions = class_after (point % 65521) sessions

abbrev pub done_class : MadeDone → ℕ
done_class ids = node_class ids.point ids.sessions.items

-- whether a node is of the point in the copy
abbrev pub is_of : ℕ → List Id → MadeDone → Bool
is_of point sessions ids = nat_eq ids.point point && same_ids ids.sessions.items sessions

-- a node that is found names the one that is
abbrev pub FindsDone : List Term → Option (Bor MadeDone) → Option Done → Type 0
FindsDone all None found = found ≡ None
FindsDone all (Some ids) None = ⊥
FindsDone all (Some ids) (Some done) = NamesDone all ids.now done

-- What holds of the run, whatever the bank has: its steps are counted and no more than are told, the known values are listed, and numbers of
-- threads, known values, entries and points are of 32 bits.
pub record IsRun (P : Protocol) (ids : MadeState) : Type 0 where
  pub of_protocol : IsConfigurationOf P ids.conf
  pub counted : ids.conf.steps ≡ length ids.steps.items
  pub few : length ids.steps.items ≤ most_steps
  pub known : KnowsValues ids.conf.known ids.known
  pub few_known : length ids.conf.known ≤ length P.frees + length ids.steps.items
  pub few_threads : length ids.conf.threads ≤ 1 + length ids.steps.items
  pub few_entries : length ids.conf.entries ≤ length ids.steps.items
  pub room : length P.frees + 2 * most_steps < 2 ^ 32
  pub points : length (nodes P.main) + 1 < 2 ^ 32

-- the state over ids
pub record IsState (all : List Term) (ids : MadeState) (st : State) : Type 0 where
  pub configuration : configuration_of ids.conf ≡ st.configuration
  pub steps : map step_of ids.steps.items ≡ st.steps
  pub names : NameNamed all ids.names.items.items st.names
  pub names_listed : AreListed named_class ids.names.items.items ids.names.classes
  pub done : NameDone all ids.done.items.items st.done
  pub done_listed : AreListed done_class ids.done.items.items ids.done.classes
  pub waiting : ids.waiting.items ≡ st.waiting
