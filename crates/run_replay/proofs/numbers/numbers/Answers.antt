use Rattle.std.proofs.Common.{◌++◌, sym, ◌∙◌, ap}
use Rattle.std.specs.Prelude.{option_map, option_copied}
use Rattle.spec_run_text.specs.Reading.{numeral, numerals}
use Rattle.run_replay.specs.Cut.{fields_of}
use Rattle.run_replay.proofs.Fields.{no_number, one_read}
use Rattle.run_replay.proofs.numbers.numbers.Goals as goal

pub returns-in_default-number : goal.returns-in_default-number
returns-in_default-number c =
    let left = ap (λ rest. option_map (λ more. c.loop-rest.numbers.items ++ more) (numerals (fields_of (option_copied rest)))) c.in-Some.is in
    let none = ap numeral (sym c.cut.ensures.front) ∙ sym c.number.ensures ∙ c.in_default-number.is in
    sym (c.loop-rest.invariant ∙ left ∙ no_number c.loop-rest.numbers.items c.in-Some.fields.now none)

pub loop-rest-preserved : goal.loop-rest-preserved
loop-rest-preserved c =
    let left = ap (λ rest. option_map (λ more. c.loop-rest.numbers.items ++ more) (numerals (fields_of (option_copied rest)))) c.in-Some.is in
    let some = ap numeral (sym c.cut.ensures.front) ∙ sym c.number.ensures ∙ c.in-Some-number.is in
    let pushed = sym c.in_ok-push.ensures.items in
    let behind = sym c.cut.ensures.behind in
    c.loop-rest.invariant ∙ left ∙ one_read c.loop-rest.numbers.items c.in-Some.fields.now c.in-Some-number.n some
    ∙ (λ i. option_map (λ more. pushed i ++ more) (numerals (fields_of (behind i))))
