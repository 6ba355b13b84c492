use Rattle.std.proofs.Common.{◌≡◌, ◌∙◌, ℕ, List, [], ◌∷◌, Some, None, true, false, codes, refl, slice_index, arith}
use Rattle.std.specs.Str.Parse.{digits_value, without_leading_plus}
use Rattle.clap.proofs.OnLiterals.{clap_on_literals}
use Rattle.clap.specs.ValueTests.{is_unsigned_in}
use Rattle.clap.specs.Walk.{finished, nothing_held}
use Rattle.clap.specs.declared.error.kind.ErrorKind.TheVariants.{ValueValidation}
use Rattle.spec_calculus.specs.Bounds.{most_queries}
use Rattle.command_words.specs.Request.{ListOf, asked, request_of}
use Rattle.command_words.proofs.Complete as built
use Rattle.command_words.proofs.Plain.{asked_by, end_fault, level_by, placed, plain_text, refused_by, two_plain, two_walked}
use Rattle.command_words.proofs.Rows.{small_number}
use Rattle.command_words.proofs.laws.query_numbers.Goals as goal

taken : (program file number : List ℕ) → (slice_index file 0 ≡ 45 → ⊥) → (slice_index number 0 ≡ 45 → ⊥) → is_unsigned_in 1 most_queries number ≡ true
    → request_of (program ∷ codes "list" ∷ file ∷ number ∷ []) ≡ Some (ListOf file (digits_value 10 (without_leading_plus number)))
unfolding clap_on_literals
taken program file number no_dash no_dash_number within =
    let plain = plain_text file no_dash in
    let plain_number = plain_text number no_dash_number in
    let h = (placed built.list 1 nothing_held file).held in
    let w = placed built.list 2 h number in
    let all = small_number 1 most_queries (omega arith) number within in
    let ends : end_fault built.list w ≡ [] = rw within refl in
    let read : asked (Some (built.list.name, finished built.list.rules w.held)) ≡ Some (ListOf file (digits_value 10 (without_leading_plus number))) = rw all refl in
    asked_by built.list (program ∷ codes "list" ∷ file ∷ number ∷ []) (file ∷ number ∷ []) w refl refl
    (two_plain built.list h file number plain plain_number refl refl refl) (two_walked built.list h file number plain plain_number refl) ends ∙ read

refused : (program file number : List ℕ) → (slice_index file 0 ≡ 45 → ⊥) → (slice_index number 0 ≡ 45 → ⊥) → is_unsigned_in 1 most_queries number ≡ false
    → request_of (program ∷ codes "list" ∷ file ∷ number ∷ []) ≡ None
unfolding clap_on_literals
refused program file number no_dash no_dash_number without =
    let plain = plain_text file no_dash in
    let plain_number = plain_text number no_dash_number in
    let h = (placed built.list 1 nothing_held file).held in
    let w = placed built.list 2 h number in
    let ends : end_fault built.list w ≡ ValueValidation ∷ [] = rw without refl in
    refused_by built.list (program ∷ codes "list" ∷ file ∷ number ∷ []) (file ∷ number ∷ []) ValueValidation refl
    (level_by built.list (file ∷ number ∷ []) w (two_plain built.list h file number plain plain_number refl refl refl) (two_walked built.list h file number plain plain_number refl) ∙ ends)

pub returns : goal.returns
returns c = record { taken = taken; refused = refused }
