-- What contracts see of facts, events, constraints and clauses over terms that are seen as others.
use Rattle.std.specs.Prelude.{Bool, List, [], ◌∷◌, map}
use Rattle.std.specs.List.{AllByRecursion}
use Rattle.spec_terms.specs.Term.{Term}
use Rattle.spec_clauses.specs.Fact as horn
use Rattle.spec_certificate_text.specs.Sides.{SidesOf, meant_clause}
use Rattle.spec_certificate_text.specs.Facts as facts
use Rattle.spec_certificate_text.specs.Clauses as clauses
use Rattle.fact_reader.specs.declared.terms.ReadFact.{ReadFact}
use Rattle.fact_reader.specs.declared.terms.ReadFact.TheVariants.{Att, Mess, Tab, Ev, Mev, Bad}
use Rattle.fact_reader.specs.declared.rows.ReadEvent.{ReadEvent}
use Rattle.fact_reader.specs.declared.clauses.ReadPremises.{ReadPremises}
use Rattle.fact_reader.specs.declared.clauses.ReadClause.{ReadClause}

-- the fact that is read, and its terms
abbrev pub fact_over : {T : Type 0} → (T → Term) → ReadFact T → horn.Fact Term
fact_over view (Att k t) = horn.Att k (view t)
fact_over view (Mess k t u) = horn.Mess k (view t) (view u)
fact_over view (Tab n ts) = horn.Tab n (map view ts.items)
fact_over view (Ev e ts) = horn.Ev e (map view ts.items)
fact_over view (Mev e ts) = horn.Mev e (map view ts.items)
fact_over view (Bad ts) = horn.Bad (map view ts.items)

abbrev pub terms_in : {T : Type 0} → ReadFact T → List T
terms_in (Att k t) = t ∷ []
terms_in (Mess k t u) = t ∷ u ∷ []
terms_in (Tab n ts) = ts.items
terms_in (Ev e ts) = ts.items
terms_in (Mev e ts) = ts.items
terms_in (Bad ts) = ts.items

-- a term, a fact or a constraint, and whether another follows
abbrev pub seen_too : {T X : Type 0} → (T → X) → T × Bool → X × Bool
seen_too view x = (view x.0, x.1)

abbrev pub event_over : {T : Type 0} → (T → Term) → ReadEvent T → facts.Performed
event_over view e = record { event = e.event; arguments = map view e.arguments.items }

abbrev pub premises_over : {F D : Type 0} → (F → horn.Fact Term) → (D → SidesOf Term) → ReadPremises F D → clauses.Premises
premises_over view sides c = record { hypotheses = map view c.hyps.items; diffs = map sides c.diffs.items }

abbrev pub clause_over : {F D : Type 0} → (F → horn.Fact Term) → (D → SidesOf Term) → ReadClause F D → horn.Clause Term
clause_over view sides c = meant_clause record { hypotheses = map view c.hyps.items; diffs = map sides c.diffs.items; conclusion = view c.concl }

-- each fact and each constraint of the premises, and of the clause, is known
pub record AreKnownPremises {F D : Type 0} (IsFact : F → Type 0) (IsDiff : D → Type 0) (c : ReadPremises F D) : Type 0 where
  pub hypotheses : AllByRecursion IsFact c.hyps.items
  pub diffs : AllByRecursion IsDiff c.diffs.items

pub record IsKnownClause {F D : Type 0} (IsFact : F → Type 0) (IsDiff : D → Type 0) (c : ReadClause F D) : Type 0 where
  pub hypotheses : AllByRecursion IsFact c.hyps.items
  pub diffs : AllByRecursion IsDiff c.diffs.items
  pub conclusion : IsFact c.concl
