-- The definitions on small inputs that were worked out by hand.
use Rattle.std.proofs.Common.{◌≡◌, [], ◌∷◌, refl}
use Rattle.std.specs.Prelude.{codes, Ok, Err}
use Rattle.spec_calculus.specs.Runs.{Build, Fresh, Hear, Pass, Take, Next, Put, Fetch, Miss}
use Rattle.spec_run_text.specs.Lines.{lines, fields}
use Rattle.spec_run_text.specs.Faults.{Word, Number}
use Rattle.spec_run_text.specs.Reading.{reading}

no_lines : lines [] ≡ []
no_lines = refl

last_ended : lines (codes "a\nb\n") ≡ codes "a" ∷ codes "b" ∷ []
last_ended = refl

last_not_ended : lines (codes "a\nb") ≡ codes "a" ∷ codes "b" ∷ []
last_not_ended = refl

empty_lines : lines (codes "\n\na") ≡ [] ∷ [] ∷ codes "a" ∷ []
empty_lines = refl

one_field : fields (codes "ab") ≡ codes "ab" ∷ []
one_field = refl

empty_fields : fields (codes " a  b ") ≡ [] ∷ codes "a" ∷ [] ∷ codes "b" ∷ [] ∷ []
empty_fields = refl

some_steps : reading (codes "fresh\nbuild 2 1 10\npass 1 2") ≡ Ok (Fresh ∷ Build 2 (1 ∷ 10 ∷ []) ∷ Pass 1 2 ∷ [])
some_steps = refl

zeros : reading (codes "take 0 0\nhear 999999999\n") ≡ Ok (Take 0 (0 ∷ []) ∷ Hear 999999999 ∷ [])
zeros = refl

phases_and_tables : reading (codes "next\ninsert 3\nget 4 2\nmiss 4\n") ≡ Ok (Next ∷ Put 3 ∷ Fetch 4 2 ∷ Miss 4 ∷ [])
phases_and_tables = refl

no_entry : reading (codes "get 4") ≡ Err (Number, 1)
no_entry = refl

-- a label of two numbers, and one of none
labels : reading (codes "take 2 1 3\ntake 1") ≡ Ok (Take 2 (1 ∷ 3 ∷ []) ∷ Take 1 [] ∷ [])
labels = refl

no_thread : reading (codes "take") ≡ Err (Number, 1)
no_thread = refl

leading_zero_in_a_label : reading (codes "take 2 1 01") ≡ Err (Number, 1)
leading_zero_in_a_label = refl

leading_zero : reading (codes "hear 01") ≡ Err (Number, 1)
leading_zero = refl

ten_digits : reading (codes "fresh\nhear 1234567890\njump") ≡ Err (Number, 2)
ten_digits = refl

another_count : reading (codes "fresh 1") ≡ Err (Number, 1)
another_count = refl

two_spaces : reading (codes "hear  1") ≡ Err (Number, 1)
two_spaces = refl

no_word : reading (codes "fresh\n\n") ≡ Err (Word, 2)
no_word = refl

space_first : reading (codes " hear 1") ≡ Err (Word, 1)
space_first = refl

other_word : reading (codes "jump 1") ≡ Err (Word, 1)
other_word = refl
