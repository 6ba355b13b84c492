use Rattle.std.proofs.Common.{◌≡◌, ◌∙◌, ℕ, ◌<◌, ◌≤◌, List, [], ◌∷◌, length, refl, sym, ap, option_map, option_copied, arith}
use Rattle.pi_tree.specs.Expressions.{expression_of}
use Rattle.pi_tree.specs.Protocols.{protocol_of}
use Rattle.term_values.specs.Labelled.{labelled_of}
use Rattle.term_values.proofs.Reading.{unlabelled, none_labelled, left_labelled, value_labelled, large_labelled}
use Rattle.term_values.proofs.labels.value_at.Goals as goal

no_number : (ns : List ℕ) → length ns < 1 → ns ≡ []
no_number [] h = refl
no_number (n ∷ ns) h = absurd (omega (arith, h))

some_number : (ns : List ℕ) → 1 ≤ length ns → (first : ℕ) × (others : List ℕ) × (ns ≡ first ∷ others)
some_number [] h = absurd (omega (arith, h))
some_number (n ∷ ns) h = (n, ns, refl)

pub returns-in_default-clause-value : goal.returns-in_default-clause-value
returns-in_default-clause-value c =
    sym (unlabelled (protocol_of c.args.context.now.protocol.now) c.args.context.now.environment.now (expression_of c.args.expression.now) c.args.label.now (sym c.numbers_of.ensures ∙ ap option_copied c.in_default.is))

pub returns-in-None-clause-value : goal.returns-in-None-clause-value
returns-in-None-clause-value c =
    sym (none_labelled (protocol_of c.args.context.now.protocol.now) c.args.context.now.environment.now (expression_of c.args.expression.now) c.args.label.now c.in-Some.numbers.now
    (sym c.numbers_of.ensures ∙ ap option_copied c.in-Some.is)
    (sym c.in_ok-read_value.ensures ∙ ap (option_map labelled_of) c.in-None.is))

pub returns-in-empty-clause-value : goal.returns-in-empty-clause-value
returns-in-empty-clause-value c =
    value_labelled (protocol_of c.args.context.now.protocol.now) c.args.context.now.environment.now (expression_of c.args.expression.now) c.args.label.now c.in-Some.numbers.now
    (sym c.numbers_of.ensures ∙ ap option_copied c.in-Some.is)
    (labelled_of c.in-Some-2.found)
    (sym c.in_ok-read_value.ensures ∙ ap (option_map labelled_of) c.in-Some-2.is)
    (no_number c.in-Some-2.found.numbers.now c.in-empty.len_below)

pub returns-in-empty-clause-large : goal.returns-in-empty-clause-large
returns-in-empty-clause-large c =
    large_labelled (protocol_of c.args.context.now.protocol.now) c.args.context.now.environment.now (expression_of c.args.expression.now) c.args.label.now c.in-Some.numbers.now
    (sym c.numbers_of.ensures ∙ ap option_copied c.in-Some.is)
    (labelled_of c.in-Some-2.found)
    (sym c.in_ok-read_value.ensures ∙ ap (option_map labelled_of) c.in-Some-2.is)
    (no_number c.in-Some-2.found.numbers.now c.in-empty.len_below)

pub returns-in_default-numbers-clause-value : goal.returns-in_default-numbers-clause-value
returns-in_default-numbers-clause-value c =
    let (first, others, is) = some_number c.in-Some-2.found.numbers.now c.in_default-numbers.len_at_least in
    sym (left_labelled (protocol_of c.args.context.now.protocol.now) c.args.context.now.environment.now (expression_of c.args.expression.now) c.args.label.now c.in-Some.numbers.now
    (sym c.numbers_of.ensures ∙ ap option_copied c.in-Some.is)
    (labelled_of c.in-Some-2.found) first others
    (sym c.in_ok-read_value.ensures ∙ ap (option_map labelled_of) c.in-Some-2.is)
    is)
