-- What a visit of a `let` hands to those of its choices.
use Rattle.std.proofs.Common.{◌≡◌, ◌∙◌, ℕ, ◌+◌, ◌<◌, ◌≤◌, false, List, [], map, drop, ap, sym, subst, arith}
use Rattle.std.proofs.lemmas.List.{length-drop}
use Rattle.spec_calculus.specs.Syntax.{Expression, Protocol}
use Rattle.spec_calculus.specs.Bounds.{most_points}
use Rattle.spec_calculus.specs.Choices.{choices}
use Rattle.pi_tree.specs.Patterns.{pattern_of}
use Rattle.spec_terms.specs.Term.{Term}
use Rattle.term_tree.specs.Bank.{Grows}
use Rattle.spec_translation.specs.Visit.{Visit}
use Rattle.spec_choice_walks.specs.Instructions.{Instruction, instructions, completions, choices_by}
use Rattle.spec_choice_walks.proofs.Completing.{all_completed}
use Rattle.visit_choices.specs.declared.choice.Choosing.{Choosing}
use Rattle.visit_choices.specs.declared.ways.Looked.{Looked}
use Rattle.visit_choices.specs.declared.ways.Passed.{Passed}
use Rattle.unified_visits.specs.Places.{protocol_at}
use Rattle.unified_visits.specs.Short.{IsFitExpression, AreFitInstructions}
use Rattle.unified_visits.specs.Visits.{visit_at, IsVisitIn, HasFewCopies}
use Rattle.visit_choices.specs.Walks.{instructions_of, choices_of, IsChoosingIn, HasChoices}
use Rattle.visit_choices.specs.Ways.{Passes}
use Rattle.unified_visits.proofs.Named.{visit_later}
use Rattle.visit_choices.proofs.Passing.{choices_counted}
use Rattle.clause_translate.specs.Jobs.{IsSmallLet}
use Rattle.clause_translate.proofs.Expressions.{instructions_fit, choices_few}

pub few_left : (P : Protocol) (all : List Instruction) (e : Expression) → all ≡ instructions e → IsFitExpression P e → choices_by P all ≤ 65536
few_left P all e is fit = omega (arith, ap (choices_by P) is, choices_few P e fit)

-- the choices of an expression, by its instructions
pub completed_by : (P : Protocol) (all : List Instruction) (e : Expression) → all ≡ instructions e → completions P all [] ≡ map (λ c. c.ruled) (choices P e)
completed_by P all e is = ap (λ l. completions P l []) is ∙ all_completed P e

module _ (all : List Term) (choosing : Choosing) (e : Expression) (is : instructions_of choosing ≡ instructions e) where
  abbrev P : Protocol
  P = protocol_at choosing.place.now

  pub choosing_known : IsVisitIn all choosing.visit.now → HasFewCopies most_points choosing.visit.now → IsFitExpression P e → choosing.count ≡ choices_by P (instructions_of choosing) → IsChoosingIn all choosing
  choosing_known visit few fit count = record {
    visit = visit;
    fit = subst (λ (l : List Instruction). AreFitInstructions P choosing.visit.now.next 0 l) (sym is) (instructions_fit P e choosing.visit.now.next fit (omega (arith, visit.room, few)));
    count = count;
  }

  pub small_let : (going : ℕ) → HasChoices all choosing (record { large = false; going = going }) → IsSmallLet all choosing e going
  small_let going small = record { are = completed_by P (instructions_of choosing) e is; small = small }

-- none is too large, in a bank that is as before
pub small_later : (old now : List Term) (choosing : Choosing) (looked : Looked) → now ≡ old → looked.large ≡ false → HasChoices old choosing looked → HasChoices now choosing (record { large = false; going = looked.going })
small_later old now choosing looked back small h = subst (λ (all : List Term). HasChoices all choosing (record { large = false; going = looked.going })) (sym back) (record { outs = h.outs; go = h.go; large = h.large ∙ small; going = h.going })

-- in a bank that grew
pub choosing_later : (old now : List Term) (choosing : Choosing) → Grows old now → IsChoosingIn old choosing → IsChoosingIn now choosing
choosing_later old now choosing grows known = record { visit = (visit_later old now choosing.visit.now grows known.visit).known; fit = known.fit; count = known.count }

module _ (old now next : List Term) (choosing : Choosing) (number : ℕ) (passed : Passed) (grows : Grows old now) (known : IsChoosingIn old choosing) where
  pub passes_as : Passes (protocol_at choosing.place.now) (visit_at now choosing.visit.now) (pattern_of choosing.pattern.now) (drop number (choices_of choosing)) next passed
      → Passes (protocol_at choosing.place.now) (visit_at old choosing.visit.now) (pattern_of choosing.pattern.now) (drop number (choices_of choosing)) next passed
  passes_as p = subst (λ (x : Visit). Passes (protocol_at choosing.place.now) x (pattern_of choosing.pattern.now) (drop number (choices_of choosing)) next passed) (visit_later old now choosing.visit.now grows known.visit).is p

  pub passed_within : number < choosing.count → Passes (protocol_at choosing.place.now) (visit_at now choosing.visit.now) (pattern_of choosing.pattern.now) (drop number (choices_of choosing)) next passed → number + passed.count ≤ choosing.count
  passed_within low p = omega (arith, p.within, length-drop number (choices_of choosing), choices_counted old choosing known, low)
