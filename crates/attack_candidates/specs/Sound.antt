-- What holds of a search as it goes on.
use Rattle.std.specs.Prelude.{List, map}
use Rattle.spec_terms.specs.Term.{Term}
use Rattle.spec_well_formed.specs.Limits.{IsWithinLimits}
use Rattle.pi_tree.specs.Protocols.{protocol_of}
use Rattle.pi_tree.specs.Accessors.{IsThere}
use Rattle.pi_tree.specs.declared.accessors.Kind.TheVariants as kinds
use Rattle.clause_form.specs.Seen.{clause_at}
use Rattle.clause_form.specs.Fit.{IsFit, AreFit}
use Rattle.clause_resolve.specs.Apart.{IsSelectedAt}
use Rattle.clause_instances.specs.Derivations.{HasNormedLog}
use Rattle.log_entries.specs.declared.log.PlainEntry.{PlainEntry}
use Rattle.attack_candidates.specs.declared.found.Goal.{Goal}
use Rattle.attack_candidates.specs.declared.found.Found.{Found}
use Rattle.attack_candidates.specs.declared.found.Searched.{Searched}
use Rattle.attack_candidates.specs.declared.resolving.Chosen.{Chosen}

-- each goal's clause is its own norm within the limit of size
abbrev pub AreFitGoals : List Term → List Goal → Type 0
AreFitGoals all goals = AreFit all (map (λ (g : Goal). g.clause) goals)

-- so are the clauses of the entries over trees, and those of the goals in the bank
pub record AreSound (all : List Term) (entries : List PlainEntry) (those : List Goal) : Type 0 where
  pub normed : HasNormedLog entries
  pub goals : AreFitGoals all those

-- so it is of what was found
abbrev pub IsSound : List Term → Found → Type 0
IsSound all found = AreSound all found.log found.goals.items

-- the goal is fit for resolution on the hypothesis at that place
pub record IsChosen (all : List Term) (chosen : Chosen) : Type 0 where
  pub fit : IsFit all chosen.clause.now
  pub selected : IsSelectedAt (clause_at all chosen.clause.now) chosen.at

-- the protocol is within the limits, and has the query
pub record CanBeSearched (searched : Searched) : Type 0 where
  pub limits : IsWithinLimits (protocol_of searched.protocol.now)
  pub there : IsThere (protocol_of searched.protocol.now) kinds.Query searched.query
