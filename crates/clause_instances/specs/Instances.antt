-- Instances and pending entries over the ids of a bank.
use Rattle.std.specs.Prelude.{◌≡◌, Option, None, Some, List, [], ◌∷◌, slice_get, map}
use Rattle.std.specs.List.{AllByRecursion}
use Rattle.spec_terms.specs.Term.{Term}
use Rattle.term_tree.specs.Bank.{tree_at, AreKnown}
use Rattle.clause_form.specs.Seen.{NameTerms}
use Rattle.spec_attack_runs.specs.Source.{Action, Reaches, Source, stage_of}
use Rattle.spec_attack_runs.specs.Instance.{Pending}
use Rattle.spec_attack_runs.specs.Attack.{supposed}
use Rattle.clause_instances.specs.declared.instance.Instance as made
use Rattle.clause_instances.specs.declared.instance.Pending as held

-- what is done is that of the source, by the closed messages and sessions
abbrev pub IsActionOf : Action → List Term → List Term → Action → Type 0
IsActionOf (Reaches way) messages sessions action = action ≡ Reaches (record way { messages = messages; sessions = sessions })
IsActionOf other messages sessions action = action ≡ other

-- the ids name the terms of an instance of the source of that place
pub record NamesInstance (all : List Term) (sources : List Source) (ids : made.Instance) (instance : Source) : Type 0 where
  pub source : Source
  pub at : slice_get sources ids.source ≡ Some source
  pub stage : stage_of instance ≡ stage_of source
  pub supposed_named : NameTerms all ids.supposed (supposed instance.raw)
  pub messages : List Term
  pub messages_named : NameTerms all ids.messages messages
  pub sessions : List Term
  pub sessions_named : NameTerms all ids.sessions sessions
  pub action : IsActionOf source.action messages sessions instance.action

abbrev pub NameInstances : List Term → List Source → List made.Instance → List Source → Type 0
NameInstances all sources [] [] = Unit {0}
NameInstances all sources (ids ∷ others) (instance ∷ instances) = NamesInstance all sources ids instance × NameInstances all sources others instances
NameInstances all sources _ _ = ⊥

-- the ids of an instance name trees; of one that was found, of instances, of those that are told
pub record IsKnownInstance (all : List Term) (instance : made.Instance) : Type 0 where
  pub supposed : AreKnown all instance.supposed
  pub messages : AreKnown all instance.messages
  pub sessions : AreKnown all instance.sessions

abbrev pub IsFoundIn : List Term → Option made.Instance → Type 0
IsFoundIn all (Some ids) = IsKnownInstance all ids
IsFoundIn all None = Unit {0}

abbrev pub AreKnownInstances : List Term → List made.Instance → Type 0
AreKnownInstances all instances = AllByRecursion (IsKnownInstance all) instances

abbrev pub AreToldIn : List Term → Option (List made.Instance) → Type 0
AreToldIn all (Some ids) = AreKnownInstances all ids
AreToldIn all None = Unit {0}

-- the pending entry whose terms the ids name
abbrev pub pending_at : List Term → held.Pending → Pending
pending_at all ids = record { number = ids.number; terms = map (tree_at all) ids.terms }

-- the ids of pending entries name trees
abbrev pub ArePendingIn : List Term → List held.Pending → Type 0
ArePendingIn all ids = AllByRecursion (λ (p : held.Pending). AreKnown all p.terms) ids
