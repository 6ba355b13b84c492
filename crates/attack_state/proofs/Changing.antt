-- The run and the state where names, nodes or waiting threads change.
use Rattle.std.specs.Global.{Vec}
use Rattle.std.proofs.Common.{◌≡◌, ℕ, List, [], ◌∷◌, ◌++◌, sym, subst}
use Rattle.spec_calculus.specs.Syntax.{Protocol}
use Rattle.spec_terms.specs.Term.{Term}
use Rattle.term_tree.specs.Bank.{Grows}
use Rattle.spec_attack_runs.specs.Compiling.{Named, Done, State}
use Rattle.attack_state.specs.declared.state.State.{State as MadeState}
use Rattle.attack_state.specs.declared.values.Names.{Names as MadeNames}
use Rattle.attack_state.specs.declared.values.Named.{Named as MadeNamed}
use Rattle.attack_state.specs.declared.done.Done.{Done as MadeDone}
use Rattle.attack_state.specs.declared.done.DoneNodes.{DoneNodes as MadeDoneNodes}
use Rattle.attack_state.specs.Listing.{AreListed}
use Rattle.attack_state.specs.States.{NamesNamed, NameNamed, named_class, NamesDone, NameDone, done_class, IsRun, IsState}
use Rattle.attack_state.proofs.Named.{named-grow, done-grow, named-more, done-more}

pub state-grows : (a b : List Term) (ids : MadeState) (st : State) → Grows a b → IsState a ids st → IsState b ids st
state-grows a b ids st grows is = record {
  configuration = is.configuration;
  steps = is.steps;
  names = named-grow a b ids.names.items.items st.names grows is.names;
  names_listed = is.names_listed;
  done = done-grow a b ids.done.items.items st.done grows is.done;
  done_listed = is.done_listed;
  waiting = is.waiting;
}

-- one more name
pub state_named : (all : List Term) (ids : MadeState) (names : MadeNames) (st : State) (x : MadeNamed) (n : Named) → IsState all ids st → names.items.items ≡ ids.names.items.items ++ x ∷ []
    → AreListed named_class names.items.items names.classes → NamesNamed all x n → IsState all (record ids { names = names }) (record st { names = st.names ++ n ∷ [] })
state_named all ids names st x n is more listing named = record {
  configuration = is.configuration;
  steps = is.steps;
  names = subst (λ (items : List MadeNamed). NameNamed all items (st.names ++ n ∷ [])) (sym more) (named-more all ids.names.items.items st.names x n is.names named);
  names_listed = listing;
  done = is.done;
  done_listed = is.done_listed;
  waiting = is.waiting;
}

-- one more node that was done
pub state_done : (all : List Term) (ids : MadeState) (done : MadeDoneNodes) (st : State) (x : MadeDone) (d : Done) → IsState all ids st → done.items.items ≡ ids.done.items.items ++ x ∷ []
    → AreListed done_class done.items.items done.classes → NamesDone all x d → IsState all (record ids { done = done }) (record st { done = st.done ++ d ∷ [] })
state_done all ids done st x d is more listing names = record {
  configuration = is.configuration;
  steps = is.steps;
  names = is.names;
  names_listed = is.names_listed;
  done = subst (λ (items : List MadeDone). NameDone all items (st.done ++ d ∷ [])) (sym more) (done-more all ids.done.items.items st.done x d is.done names);
  done_listed = listing;
  waiting = is.waiting;
}

-- other threads wait
pub state_waits : (all : List Term) (ids : MadeState) (waits : Vec ℕ) (st : State) (waiting : List ℕ) → IsState all ids st → waits.items ≡ waiting → IsState all (record ids { waiting = waits }) (record st { waiting = waiting })
state_waits all ids waits st waiting is e = record {
  configuration = is.configuration;
  steps = is.steps;
  names = is.names;
  names_listed = is.names_listed;
  done = is.done;
  done_listed = is.done_listed;
  waiting = e;
}

-- the same run, with other names, nodes and waiting threads
pub run_same : (P : Protocol) (ids : MadeState) (names : MadeNames) (done : MadeDoneNodes) (waiting : Vec ℕ) → IsRun P ids → IsRun P (record ids { names = names; done = done; waiting = waiting })
run_same P ids names done waiting run = record {
  of_protocol = run.of_protocol;
  counted = run.counted;
  few = run.few;
  known = run.known;
  few_known = run.few_known;
  few_threads = run.few_threads;
  few_entries = run.few_entries;
  room = run.room;
  points = run.points;
}
