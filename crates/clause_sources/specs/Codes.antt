-- How contracts store choices, ways and sources: what the models of types that are seen as them take.
use Rattle.std.specs.Prelude.{◌≡◌, ℕ, ◌⊎◌, List, refl}
use Rattle.std.proofs.Common.{inl, inr}
use Rattle.std.specs.Coded.{Coded, code_by, coded×, coded⊎, coded_ℕ, coded_list}
use Rattle.spec_terms.specs.Term.{Term, coded_term, coded_terms}
use Rattle.spec_clauses.specs.Fact.{Clause}
use Rattle.clause_form.specs.Codes.{coded_clause}
use Rattle.spec_attack_runs.specs.Source.{Choice, Taken, Else, Way, Action, Idle, Builds, Reduces, Reaches, Source}

abbrev choice_parts : Choice → List ℕ ⊎ ℕ
choice_parts (Taken label) = inl label
choice_parts Else = inr 0

abbrev parts_choice : List ℕ ⊎ ℕ → Choice
parts_choice (inl label) = Taken label
parts_choice (inr n) = Else

pub parts_choice-choice_parts : (c : Choice) → parts_choice (choice_parts c) ≡ c
parts_choice-choice_parts (Taken label) = refl
parts_choice-choice_parts Else = refl

abbrev pub coded_choice : Coded Choice
coded_choice = code_by (List ℕ ⊎ ℕ) (coded⊎ (coded_list coded_ℕ) coded_ℕ) choice_parts parts_choice parts_choice-choice_parts

abbrev pub coded_choices : Coded (List Choice)
coded_choices = coded_list coded_choice

abbrev pub coded_way : Coded Way
coded_way = code_by ((ℕ × ℕ) × (List Choice × (List Term × List Term)))
    (coded× (coded× coded_ℕ coded_ℕ) (coded× coded_choices (coded× coded_terms coded_terms)))
    (λ w. ((w.point, w.phase), (w.choices, (w.messages, w.sessions))))
    (λ p. record { point = p.0.0; choices = p.1.0; messages = p.1.1.0; sessions = p.1.1.1; phase = p.0.1 }) (λ _. refl)

abbrev action_parts : Action → ℕ ⊎ (ℕ ⊎ ((ℕ × ℕ) ⊎ Way))
action_parts Idle = inl 0
action_parts (Builds f) = inr (inl f)
action_parts (Reduces d r) = inr (inr (inl (d, r)))
action_parts (Reaches way) = inr (inr (inr way))

abbrev parts_action : ℕ ⊎ (ℕ ⊎ ((ℕ × ℕ) ⊎ Way)) → Action
parts_action (inl n) = Idle
parts_action (inr (inl f)) = Builds f
parts_action (inr (inr (inl (d, r)))) = Reduces d r
parts_action (inr (inr (inr way))) = Reaches way

pub parts_action-action_parts : (a : Action) → parts_action (action_parts a) ≡ a
parts_action-action_parts Idle = refl
parts_action-action_parts (Builds f) = refl
parts_action-action_parts (Reduces d r) = refl
parts_action-action_parts (Reaches way) = refl

abbrev pub coded_action : Coded Action
coded_action = code_by (ℕ ⊎ (ℕ ⊎ ((ℕ × ℕ) ⊎ Way))) (coded⊎ coded_ℕ (coded⊎ coded_ℕ (coded⊎ (coded× coded_ℕ coded_ℕ) coded_way)))
    action_parts parts_action parts_action-action_parts

abbrev pub coded_source : Coded Source
coded_source = code_by (Clause Term × (ℕ × Action)) (coded× (coded_clause coded_term) (coded× coded_ℕ coded_action))
    (λ s. (s.raw, (s.part, s.action))) (λ p. record { raw = p.0; part = p.1.0; action = p.1.1 }) (λ _. refl)

abbrev pub coded_sources : Coded (List Source)
coded_sources = coded_list coded_source
