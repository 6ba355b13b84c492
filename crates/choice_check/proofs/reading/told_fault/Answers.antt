use Rattle.std.proofs.Common.{◌≡◌, ◌∙◌, List, None, ℕ, option_map, ap, sym, subst, arith}
use Rattle.spec_node_reading.specs.Reports.{reports_of_both}
use Rattle.fact_reader.specs.Errors.{refusal_of}
use Rattle.cert_text.specs.Refused.{IsFirstOf}
use Rattle.choice_text.specs.Splitting.{splitting}
use Rattle.choice_text.specs.Seen.{fault_of}
use Rattle.choice_check.proofs.Told.{plain_alone, plain_first, choice_first}
use Rattle.choice_check.proofs.reading.told_fault.Goals as goal

pub returns-in-None : goal.returns-in-None
returns-in-None c = λ P first.
    let bytes = c.args.bytes.now in
    let readable : (splitting bytes).fault ≡ None = ap (λ s. s.fault) (sym c.requires) ∙ ap (option_map fault_of) c.in-None.is in
    plain_alone P bytes c.in_ok-plain.plain readable (c.in_ok-plain.ensures P (subst (λ (text : List ℕ). IsFirstOf (reports_of_both P) text 0 (refusal_of c.args.error)) (sym (c.deref.ensures.value ∙ ap (λ s. s.plain) c.requires)) first))

pub returns-then-choice-plain : goal.returns-then-choice-plain
returns-then-choice-plain c = λ P first.
    let bytes = c.args.bytes.now in
    let plain = c.in_ok-plain.ensures P (subst (λ (text : List ℕ). IsFirstOf (reports_of_both P) text 0 (refusal_of c.args.error)) (sym (c.deref.ensures.value ∙ ap (λ s. s.plain) c.requires)) first) in
    choice_first P bytes (c.first_faults_are_one.ensures.report P) c.choice_fault-choice.result c.in_ok-plain.plain c.if-choice-plain.true c.choice_fault-choice.ensures plain

pub returns-else-choice-plain : goal.returns-else-choice-plain
returns-else-choice-plain c = λ P first.
    let bytes = c.args.bytes.now in
    let plain = c.in_ok-plain.ensures P (subst (λ (text : List ℕ). IsFirstOf (reports_of_both P) text 0 (refusal_of c.args.error)) (sym (c.deref.ensures.value ∙ ap (λ s. s.plain) c.requires)) first) in
    plain_first P bytes c.in_ok-plain.plain c.choice_fault-choice.result (omega (arith, c.if-choice-plain.false)) plain c.choice_fault-choice.ensures
