-- Changes of terms over the ids of a bank, and what they give.
use Rattle.std.specs.Prelude.{◌<◌, Option, None, Some, List, length}
use Rattle.spec_terms.specs.Term.{Term}
use Rattle.term_tree.specs.Bank.{AreKnown}
use Rattle.term_tree.specs.declared.bank.Id.{Id}
use Rattle.unify_match.specs.Seen.{IsReady}
use Rattle.clause_instances.specs.Instances.{AreKnownInstances}
use Rattle.instance_merging.specs.declared.opening.Change.{Change}
use Rattle.instance_merging.specs.declared.opening.Change.TheVariants.{Into, Under}
use Rattle.instance_merging.specs.declared.rounds.Round.{Round}
use Rattle.instance_merging.specs.declared.rounds.Round.TheVariants.{Fails, Settled, Bound}

-- the bindings of a change are ready over the bank
abbrev pub IsReadyChange : List Term → Change → Type 0
IsReadyChange all (Into form) = Unit {0}
IsReadyChange all (Under binds) = IsReady all binds.now.pairs

-- the id, or the ids, that were found are of the bank
abbrev pub IsTermIn : List Term → Option Id → Type 0
IsTermIn all (Some id) = id.index < length all
IsTermIn all None = Unit {0}

abbrev pub AreFoundIn : List Term → Option (List Id) → Type 0
AreFoundIn all (Some ids) = AreKnown all ids
AreFoundIn all None = Unit {0}

-- the ids of the instances that a round gives are of the bank
abbrev pub IsRoundIn : List Term → Round → Type 0
IsRoundIn all (Bound instances) = AreKnownInstances all instances
IsRoundIn all Fails = Unit {0}
IsRoundIn all Settled = Unit {0}
