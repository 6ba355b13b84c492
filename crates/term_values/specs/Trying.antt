-- What is found of expressions by trying their choices of rules.
use Rattle.std.specs.Prelude.{◌≡◌, Bool, true, false, ◌||◌, cond, List}
use Rattle.std.specs.List.{list_any, list_all}
use Rattle.spec_calculus.specs.Syntax.{Expression, Protocol}
use Rattle.spec_calculus.specs.Values.{Environment}
use Rattle.spec_calculus.specs.Limits.{is_large}
use Rattle.spec_calculus.specs.Choices.{values_at, some_part_value}
use Rattle.term_values.specs.RuleTests.{is_filled}
use Rattle.term_values.specs.declared.trials.Found.{Found}
use Rattle.term_values.specs.declared.trials.Found.TheVariants.{Large, NoValue, SomeValue}

abbrev pub has_value : Protocol → Environment → Expression → Bool
has_value P environment e = is_filled (values_at P environment e)

-- whether a value of it is large, and whether one of it or of a part
abbrev pub large_value : Protocol → Environment → Expression → Bool
large_value P environment e = list_any is_large (values_at P environment e)

abbrev pub large_part : Protocol → Environment → Expression → Bool
large_part P environment e = some_part_value is_large P environment e

abbrev pub IsTried : Protocol → Environment → Found → Expression → Type 0
IsTried P environment Large e = large_part P environment e ≡ true
IsTried P environment NoValue e = (has_value P environment e ≡ false) × (large_part P environment e ≡ false)
IsTried P environment SomeValue e = (has_value P environment e ≡ true) × (large_part P environment e ≡ large_value P environment e)

-- the same of a row of expressions
abbrev pub IsRowTried : Protocol → Environment → Found → List Expression → Type 0
IsRowTried P environment Large es = list_any (large_part P environment) es ≡ true
IsRowTried P environment NoValue es = (list_all (has_value P environment) es ≡ false) × (list_any (large_part P environment) es ≡ false)
IsRowTried P environment SomeValue es =
    (list_all (has_value P environment) es ≡ true) × (list_any (large_part P environment) es ≡ list_any (large_value P environment) es)

-- what is known of a row with one more expression, from what was found of both, and whether the row so far and that expression have large values
abbrev pub with_next : Found → Found → Bool → Bool → Found
with_next Large found large_earlier large_next = Large
with_next NoValue Large large_earlier large_next = Large
with_next NoValue NoValue large_earlier large_next = NoValue
with_next NoValue SomeValue large_earlier large_next = cond large_next Large NoValue
with_next SomeValue Large large_earlier large_next = Large
with_next SomeValue NoValue large_earlier large_next = cond large_earlier Large NoValue
with_next SomeValue SomeValue large_earlier large_next = SomeValue

-- what is known of a destructor on its arguments, from what was found of these, whether one of their values is large, whether one of its own
-- is, and whether it has any
abbrev pub called_tried : Found → Bool → Bool → Bool → Found
called_tried Large large_below large_here filled = Large
called_tried NoValue large_below large_here filled = NoValue
called_tried SomeValue large_below large_here filled = cond (large_below || large_here) Large (cond filled SomeValue NoValue)
