-- Where what visits add comes from.
use Rattle.std.specs.Prelude.{◌≡◌, ℕ, List, ◌++◌, map, option_map}
use Rattle.spec_terms.specs.Term.{Term}
use Rattle.spec_clauses.specs.Fact.{Fact, Clause}
use Rattle.term_tree.specs.Bank.{tree_at}
use Rattle.spec_translation.specs.Visit.{Visit}
use Rattle.spec_attack_runs.specs.Source.{Choice, Way, Reaches, Source, sources_of}
use Rattle.spec_attack_runs.specs.Gathered.{visit_sources}
use Rattle.clause_sources.specs.Bound.{numbered_in_bound}
use Rattle.process_visits.specs.declared.listing.Listing.{Listing}
use Rattle.unified_visits.specs.declared.visit.Visit as source

-- the way of a thread to a point of that number, where so much is known
abbrev pub way_at : List Term → ℕ → source.Visit → List Choice → Way
way_at all point v choices = record {
  point = point;
  choices = choices;
  messages = map (tree_at all) v.messages;
  sessions = map (tree_at all) v.sessions;
  phase = v.phase;
}

-- these sources stand behind the earlier ones, where sources are told; the choices above stay
pub record Told (more : List Source) (before after : Listing) : Type 0 where
  pub sources : after.sources ≡ option_map (λ xs. xs ++ more) before.sources
  pub choices : after.choices ≡ before.choices

-- those of the raw clause, where a thread that goes that way adds it; the variables that its constraints bind are numbered
abbrev pub TellsRaw : Way → Clause Term → Listing → Listing → Type 0
TellsRaw way raw before after = Told (sources_of (Reaches way) (numbered_in_bound raw)) before after

-- those of the raw clause of the conclusion, which the visit of the point adds
abbrev pub TellsVisit : ℕ → Visit → Fact Term → Listing → Listing → Type 0
TellsVisit point v conclusion before after = Told (visit_sources point before.choices v conclusion) before after
