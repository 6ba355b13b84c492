-- The sources of a translation's clauses, in the order of the clauses: the attacker's, those of the visits of the process, and the goal's.
-- Which new variables and which most general unifiers are taken is left open: sources number their variables by first occurrence.
use Rattle.std.specs.Prelude.{◌≡◌, ℕ, zero, suc, ◌+◌, Bool, Option, Some, None, List, [], ◌∷◌, ◌++◌, map, flat_map, filter_map, option_map}
use Rattle.std.specs.List.{enumerate_from}
use Rattle.spec_calculus.specs.Syntax.{Process, Nil, Output, Input, Parallel, Replication, New, Let, Event, Phase, Insert, Get, Rule, Destructor, Expression, Query, Protocol}
use Rattle.spec_calculus.specs.Points.{point_after, greatest_phase}
use Rattle.spec_calculus.specs.Choices.{choices, label_of}
use Rattle.spec_terms.specs.Term.{Term}
use Rattle.spec_clauses.specs.Fact.{Fact, Tab, Ev, Clause}
use Rattle.spec_clauses.specs.Variables.{AreBelow}
use Rattle.spec_translation.specs.Conversion.{term_in, Fresh}
use Rattle.spec_translation.specs.Attacker.{name_known, fresh_known, constructor_applied, rule_applied, message_heard, message_sent, kept_known}
use Rattle.spec_translation.specs.Visit.{Visit, first_visit, visit_terms, sent, raw_clause, IsFresh, after_input, after_copy, after_new, event_terms, after_event, after_phase, written_terms}
use Rattle.spec_translation.specs.Choice.{AllGoOn, EntryGoesOn}
use Rattle.spec_translation.specs.Otherwise.{otherwise_visit}
use Rattle.spec_translation.specs.Goal.{goal_raw}
use Rattle.spec_attack_runs.specs.Source.{Choice, Taken, Else, Action, Idle, Builds, Reduces, Reaches, Source, sources_of}

-- a raw clause with what a run does where an instance of it is used
abbrev pub Deed : Type 0
Deed = Action × Clause Term

abbrev pub idle : Clause Term → Deed
idle raw = (Idle, raw)

-- the rules of a destructor in a phase
abbrev pub rule_deeds : Protocol → ℕ → ℕ × Destructor → List Deed
rule_deeds P phase (number, destructor) =
    map (λ (rule : ℕ × Rule). (Reduces number rule.0, rule_applied P phase rule.1)) (enumerate_from 1 destructor.rules)

-- what the attacker does in a phase: constructors, rules, and what he hears and sends
abbrev pub deeds_in : Protocol → ℕ → List Deed
deeds_in P phase = filter_map (λ declared. option_map (λ raw. (Builds declared.0, raw)) (constructor_applied phase declared)) (enumerate_from 1 P.constructors)
    ++ (flat_map (rule_deeds P phase) (enumerate_from 1 P.destructors)
    ++ (idle (message_heard phase) ∷ idle (message_sent phase) ∷ []))

-- what he keeps and does in each of so many phases after the phase
abbrev pub deeds_after : Protocol → ℕ → ℕ → List Deed
deeds_after P phase zero = []
deeds_after P phase (suc count) = idle (kept_known phase) ∷ (deeds_in P (phase + 1) ++ deeds_after P (phase + 1) count)

-- the attacker's raw clauses, in order
abbrev pub attacker_deeds : Protocol → List Deed
attacker_deeds P = map idle (filter_map name_known (enumerate_from 1 P.frees))
    ++ (idle fresh_known ∷ (deeds_in P 0 ++ deeds_after P 0 (greatest_phase P.main)))

abbrev pub attacker_sources : Protocol → List Source
attacker_sources P = flat_map (λ deed. sources_of deed.0 deed.1) (attacker_deeds P)

-- the sources of the raw clause that a visit of a point adds
abbrev pub visit_sources : ℕ → List Choice → Visit → Fact Term → List Source
visit_sources point taken v conclusion = sources_of
    (Reaches (record { point = point; choices = taken; messages = v.messages; sessions = v.sessions; phase = v.phase })) (raw_clause v conclusion)

-- the choices of a `let`, in order
abbrev pub labelled : Protocol → Expression → List Choice
labelled P e = map (λ c. Taken (label_of c.rules)) (choices P e)

-- what is gathered below each choice with which a visit goes on, one after another
abbrev pub EachGathers : (Choice → Visit → List Source → Type 0) → List Choice → List (Option Visit) → List Source → Type 0
EachGathers R (choice ∷ others) (Some v ∷ outs) sources =
    (first : List Source) × (rest : List Source) × R choice v first × EachGathers R others outs rest × (sources ≡ first ++ rest)
EachGathers R (choice ∷ others) (None ∷ outs) sources = EachGathers R others outs sources
EachGathers R _ _ sources = sources ≡ []

-- the sources of a visit of the process that begins at the point, and of those below it; the choices are those above the point
abbrev pub Gathers : Protocol → Process → ℕ → List Choice → Visit → List Source → Type 0
Gathers P Nil point taken v sources = sources ≡ []
Gathers P (Output channel message next) point taken v sources =
    (rest : List Source) × Gathers P next (point + 1) taken v rest
    × (sources ≡ visit_sources point taken v (sent P v.phase (term_in P v.scope channel) (term_in P v.scope message)) ++ rest)
Gathers P (Input channel pattern next) point taken v sources =
    (at : Fresh) × IsFresh v pattern at × Gathers P next (point + 1) taken (after_input P v channel pattern at) sources
Gathers P (Parallel left right) point taken v sources =
    (first : List Source) × (second : List Source) × Gathers P left (point + 1) taken v first
    × Gathers P right (point_after (point + 1) left) taken v second × (sources ≡ first ++ second)
Gathers P (Replication copied) point taken v sources =
    (n : ℕ) × AreBelow n (visit_terms v) × Gathers P copied (point + 1) taken (after_copy v n) sources
Gathers P (New word next) point taken v sources = Gathers P next (point + 1) taken (after_new v point) sources
Gathers P (Let pattern expression next otherwise) point taken v sources =
    (outs : List (Option Visit)) × AllGoOn P v pattern expression outs × (first : List Source) × (second : List Source)
    × EachGathers (λ choice w. Gathers P next (point + 1) (taken ++ choice ∷ []) w) (labelled P expression) outs first
    × Gathers P otherwise (point_after (point + 1) next) (taken ++ Else ∷ []) (otherwise_visit P v pattern expression) second
    × (sources ≡ first ++ second)
Gathers P (Event performed next) point taken v sources =
    (rest : List Source) × Gathers P next (point + 1) taken (after_event P v performed) rest
    × (sources ≡ visit_sources point taken v (Ev performed.event (event_terms P v performed)) ++ rest)
Gathers P (Phase number next) point taken v sources = Gathers P next (point + 1) taken (after_phase v number) sources
Gathers P (Insert table arguments next) point taken v sources =
    (rest : List Source) × Gathers P next (point + 1) taken v rest
    × (sources ≡ visit_sources point taken v (Tab table (written_terms P v arguments)) ++ rest)
Gathers P (Get table patterns condition next otherwise) point taken v sources =
    (large : Bool) × (went : Option Visit) × EntryGoesOn P v table patterns condition large went × (first : List Source) × (second : List Source)
    × EachGathers (λ choice w. Gathers P next (point + 1) (taken ++ choice ∷ []) w) (Taken [] ∷ []) (went ∷ []) first
    × Gathers P otherwise (point_after (point + 1) next) (taken ++ Else ∷ []) v second
    × (sources ≡ first ++ second)

-- the sources of the translation of the protocol and the query
abbrev pub AreSources : Protocol → Query → List Source → Type 0
AreSources P q sources = (visited : List Source) × Gathers P P.main 1 [] first_visit visited
    × (sources ≡ attacker_sources P ++ (visited ++ sources_of Idle (goal_raw P q)))
