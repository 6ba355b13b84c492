use Rattle.std.proofs.Common.{◌≡◌, ◌∙◌, ◌++◌, ℕ, List, [], ◌∷◌, Some, None, true, false, codes, refl, ap, slice_index, arith}
use Rattle.std.specs.Str.Parse.{digits_value, without_leading_plus}
use Rattle.clap.proofs.OnLiterals.{clap_on_literals}
use Rattle.clap.specs.Kinds.{or_else}
use Rattle.clap.specs.ValueTests.{is_unsigned_in}
use Rattle.clap.specs.Walk.{Walk, finished, nothing_held, walk, walked}
use Rattle.clap.specs.Faults.{walk_fault}
use Rattle.clap.specs.declared.error.kind.ErrorKind.TheVariants.{ValueValidation}
use Rattle.spec_calculus.specs.Bounds.{most_budget}
use Rattle.command_words.specs.Request.{Verify, asked, request_of}
use Rattle.command_words.proofs.Complete as built
use Rattle.command_words.proofs.Flags.{named}
use Rattle.command_words.proofs.Plain.{after_plain, asked_by, end_fault, placed, plain_text, refused_by}
use Rattle.command_words.proofs.Rows.{small_number}
use Rattle.command_words.proofs.laws.budgets.Goals as goal

taken : (program file number : List ℕ) → (slice_index file 0 ≡ 45 → ⊥) → is_unsigned_in 0 most_budget number ≡ true
    → request_of (program ∷ codes "verify" ∷ file ∷ (codes "--budget=" ++ number) ∷ []) ≡ Some (Verify file (digits_value 10 (without_leading_plus number)) 2)
unfolding clap_on_literals
taken program file number no_dash within =
    let plain = plain_text file no_dash in
    let flag = codes "--budget=" ++ number in
    let given = placed built.verify 1 nothing_held file in
    let w = walked built.verify.rules [] given flag in
    let all = small_number 0 most_budget (omega arith) number within in
    let passes : walk_fault built.verify [] given (flag ∷ []) ≡ [] = rw within refl in
    let read : asked (Some (built.verify.name, finished built.verify.rules w.held)) ≡ Some (Verify file (digits_value 10 (without_leading_plus number)) 2) = rw all refl in
    asked_by built.verify (program ∷ codes "verify" ∷ file ∷ flag ∷ []) (file ∷ flag ∷ []) w refl refl
    (named file flag plain ∙ passes) (ap (λ (v : Walk). walked built.verify.rules [] v flag) (after_plain built.verify 1 nothing_held file plain)) refl ∙ read

refused : (program file number : List ℕ) → (slice_index file 0 ≡ 45 → ⊥) → is_unsigned_in 0 most_budget number ≡ false
    → request_of (program ∷ codes "verify" ∷ file ∷ (codes "--budget=" ++ number) ∷ []) ≡ None
unfolding clap_on_literals
refused program file number no_dash without =
    let flag = codes "--budget=" ++ number in
    let fails : walk_fault built.verify [] (placed built.verify 1 nothing_held file) (flag ∷ []) ≡ ValueValidation ∷ [] = rw without refl in
    refused_by built.verify (program ∷ codes "verify" ∷ file ∷ flag ∷ []) (file ∷ flag ∷ []) ValueValidation refl
    (ap (λ k. or_else k (end_fault built.verify (walk built.verify.rules [] nothing_held (file ∷ flag ∷ [])))) (named file flag (plain_text file no_dash) ∙ fails))

pub returns : goal.returns
returns c = record { taken = taken; refused = refused }
