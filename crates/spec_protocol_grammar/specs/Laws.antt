-- What the laws of the grammar speak of.
use Rattle.std.specs.Prelude.{ℕ, ◌⊎◌}
use Rattle.spec_protocol_grammar.specs.Classes.{Source}
use Rattle.spec_protocol_grammar.specs.Sketch.{FileSketch}
use Rattle.spec_protocol_grammar.specs.Spelling.{IsSketch}
use Rattle.spec_protocol_grammar.specs.Refusals.{IsUnexpected, IsTooDeep}

-- the file, which has so many words, is spelled as a sketch, or is refused at a word that is unexpected or stands too deep
abbrev pub HasAnswer : Source → ℕ → Type 0
HasAnswer s size =
    ((f : FileSketch) × IsSketch s f) ⊎ (((i : ℕ) × IsUnexpected s size i) ⊎ ((i : ℕ) × IsTooDeep s i))
