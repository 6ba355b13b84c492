-- Words behind `verify`: the name of a file, and an option.
use Rattle.std.proofs.Common.{◌≡◌, ◌∙◌, [], ◌∷◌, refl, ap}
use Rattle.clap.specs.Kinds.{or_else}
use Rattle.clap.specs.Walk.{Text, Walk, nothing_held, walk_from, walked}
use Rattle.clap.specs.Faults.{walk_fault}
use Rattle.command_words.proofs.Complete as built
use Rattle.command_words.proofs.Plain.{IsPlain, after_plain, placed, turn_plain}

-- the file's name is taken, and the rest decides
pub named : (file flag : Text) → IsPlain file
    → walk_fault built.verify [] (walk_from nothing_held) (file ∷ flag ∷ []) ≡ walk_fault built.verify [] (placed built.verify 1 nothing_held file) (flag ∷ [])
unfolding walk_fault
named file flag plain =
    ap (λ k. or_else k (walk_fault built.verify [] (walked built.verify.rules [] (walk_from nothing_held) file) (flag ∷ []))) (turn_plain built.verify 1 nothing_held file plain refl)
    ∙ ap (λ (w : Walk). walk_fault built.verify [] w (flag ∷ [])) (after_plain built.verify 1 nothing_held file plain)
