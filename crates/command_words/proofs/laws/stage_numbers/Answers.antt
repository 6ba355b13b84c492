use Rattle.std.proofs.Common.{◌≡◌, ◌∙◌, ℕ, List, [], ◌∷◌, Some, None, true, false, codes, refl, slice_index, arith}
use Rattle.std.specs.Str.Parse.{digits_value, without_leading_plus}
use Rattle.clap.proofs.OnLiterals.{clap_on_literals}
use Rattle.clap.specs.ValueTests.{is_unsigned_in}
use Rattle.clap.specs.Walk.{finished, nothing_held}
use Rattle.clap.specs.declared.error.kind.ErrorKind.TheVariants.{ValueValidation}
use Rattle.spec_calculus.specs.Bounds.{most_keys}
use Rattle.command_words.specs.Request.{RingOf, asked, request_of}
use Rattle.command_words.proofs.Complete as built
use Rattle.command_words.proofs.Plain.{after_plain, asked_by, end_fault, level_by, one_plain, placed, plain_text, refused_by}
use Rattle.command_words.proofs.Rows.{small_number}
use Rattle.command_words.proofs.laws.stage_numbers.Goals as goal

taken : (program number : List ℕ) → (slice_index number 0 ≡ 45 → ⊥) → is_unsigned_in 2 most_keys number ≡ true
    → request_of (program ∷ codes "ring" ∷ number ∷ []) ≡ Some (RingOf (digits_value 10 (without_leading_plus number)))
unfolding clap_on_literals
taken program number no_dash within =
    let plain = plain_text number no_dash in
    let w = placed built.ring 1 nothing_held number in
    let all = small_number 2 most_keys (omega arith) number within in
    let ends : end_fault built.ring w ≡ [] = rw within refl in
    let read : asked (Some (built.ring.name, finished built.ring.rules w.held)) ≡ Some (RingOf (digits_value 10 (without_leading_plus number))) = rw all refl in
    asked_by built.ring (program ∷ codes "ring" ∷ number ∷ []) (number ∷ []) w refl refl
    (one_plain built.ring number plain refl) (after_plain built.ring 1 nothing_held number plain) ends ∙ read

refused : (program number : List ℕ) → (slice_index number 0 ≡ 45 → ⊥) → is_unsigned_in 2 most_keys number ≡ false
    → request_of (program ∷ codes "ring" ∷ number ∷ []) ≡ None
unfolding clap_on_literals
refused program number no_dash without =
    let plain = plain_text number no_dash in
    let w = placed built.ring 1 nothing_held number in
    let ends : end_fault built.ring w ≡ ValueValidation ∷ [] = rw without refl in
    refused_by built.ring (program ∷ codes "ring" ∷ number ∷ []) (number ∷ []) ValueValidation refl
    (level_by built.ring (number ∷ []) w (one_plain built.ring number plain refl) (after_plain built.ring 1 nothing_held number plain) ∙ ends)

pub returns : goal.returns
returns c = record { taken = taken; refused = refused }
