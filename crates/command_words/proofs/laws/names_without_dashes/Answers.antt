use Rattle.std.proofs.Common.{◌≡◌, ℕ, List, [], ◌∷◌, Some, codes, refl, slice_index}
use Rattle.clap.proofs.OnLiterals.{clap_on_literals}
use Rattle.clap.specs.Walk.{nothing_held}
use Rattle.command_words.specs.Request.{Check, Replay, Verify, request_of}
use Rattle.command_words.proofs.Complete as built
use Rattle.command_words.proofs.Plain.{after_plain, asked_by, one_plain, placed, plain_text, two_plain, two_walked}
use Rattle.command_words.proofs.laws.names_without_dashes.Goals as goal

verify : (program file : List ℕ) → (slice_index file 0 ≡ 45 → ⊥) → request_of (program ∷ codes "verify" ∷ file ∷ []) ≡ Some (Verify file 10000 2)
unfolding clap_on_literals
verify program file no_dash =
    let plain = plain_text file no_dash in
    asked_by built.verify (program ∷ codes "verify" ∷ file ∷ []) (file ∷ []) (placed built.verify 1 nothing_held file) refl refl
    (one_plain built.verify file plain refl) (after_plain built.verify 1 nothing_held file plain) refl

check : (program file report : List ℕ) → (slice_index file 0 ≡ 45 → ⊥) → (slice_index report 0 ≡ 45 → ⊥)
    → request_of (program ∷ codes "check" ∷ file ∷ report ∷ []) ≡ Some (Check file report)
unfolding clap_on_literals
check program file report no_dash no_dash_report =
    let plain = plain_text file no_dash in
    let plain_report = plain_text report no_dash_report in
    let h = (placed built.check 1 nothing_held file).held in
    asked_by built.check (program ∷ codes "check" ∷ file ∷ report ∷ []) (file ∷ report ∷ []) (placed built.check 2 h report) refl refl
    (two_plain built.check h file report plain plain_report refl refl refl) (two_walked built.check h file report plain plain_report refl) refl

replay : (program file run : List ℕ) → (slice_index file 0 ≡ 45 → ⊥) → (slice_index run 0 ≡ 45 → ⊥)
    → request_of (program ∷ codes "replay" ∷ file ∷ run ∷ []) ≡ Some (Replay file run)
unfolding clap_on_literals
replay program file run no_dash no_dash_run =
    let plain = plain_text file no_dash in
    let plain_run = plain_text run no_dash_run in
    let h = (placed built.replay 1 nothing_held file).held in
    asked_by built.replay (program ∷ codes "replay" ∷ file ∷ run ∷ []) (file ∷ run ∷ []) (placed built.replay 2 h run) refl refl
    (two_plain built.replay h file run plain plain_run refl refl refl) (two_walked built.replay h file run plain plain_run refl) refl

pub returns : goal.returns
returns c = record { verify = verify; check = check; replay = replay }
