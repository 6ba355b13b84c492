-- Where the grammar refuses a file.
use Rattle.std.specs.Prelude.{◌≡◌, ℕ, ◌+◌, ◌<◌, ◌≤◌, ◌⊎◌, List, [], ◌∷◌}
use Rattle.spec_calculus.specs.Bounds.{most_levels}
use Rattle.spec_protocol_grammar.specs.declared.class.Class.TheVariants as w
use Rattle.spec_protocol_grammar.specs.Classes.{Source}
use Rattle.spec_protocol_grammar.specs.Sketch.{FileSketch}
use Rattle.spec_protocol_grammar.specs.Spelling.{Item, one, no, nothing, IsWord, IsGreedy, file}

-- the words from `at` up to the one before `i` are the first of these items, within the limit of levels, and one more is wanted
abbrev pub LeadsTo : Source → ℕ → List Item → ℕ → Type 0
LeadsTo s at [] i = ⊥
LeadsTo s at (one level number class ∷ items) i = (at ≡ i) ⊎ (IsWord (s at) number class × (level ≤ most_levels) × LeadsTo s (at + 1) items i)
LeadsTo s at (no class ∷ items) i = LeadsTo s at items i
LeadsTo s at (nothing ∷ items) i = ⊥

-- the words from `at` up to the one at `i` are the first of these items
abbrev pub Has : Source → ℕ → List Item → ℕ → Type 0
Has s at [] i = ⊥
Has s at (one level number class ∷ items) i = IsWord (s at) number class × ((at ≡ i) ⊎ Has s (at + 1) items i)
Has s at (no class ∷ items) i = Has s at items i
Has s at (nothing ∷ items) i = ⊥

-- and the one at `i` is the first that stands below the limit of levels
abbrev pub DeepAt : Source → ℕ → List Item → ℕ → Type 0
DeepAt s at [] i = ⊥
DeepAt s at (one level number class ∷ items) i =
    IsWord (s at) number class × (((most_levels < level) × (at ≡ i)) ⊎ ((level ≤ most_levels) × DeepAt s (at + 1) items i))
DeepAt s at (no class ∷ items) i = DeepAt s at items i
DeepAt s at (nothing ∷ items) i = ⊥

-- the file, which has so many words, is refused at this word, or at its end: some file of the grammar goes on from the
-- words before it, and none with this word
pub record IsUnexpected (s : Source) (size i : ℕ) : Type 0 where
  pub within : i ≤ size
  pub other : FileSketch
  pub greedy : IsGreedy (file other) w.End
  pub before : LeadsTo s 0 (file other) i
  pub none : (f : FileSketch) → IsGreedy (file f) w.End → Has s 0 (file f) i → ⊥

-- the file is refused at this word: it begins the first construct that would stand below the limit of levels
pub record IsTooDeep (s : Source) (i : ℕ) : Type 0 where
  pub other : FileSketch
  pub greedy : IsGreedy (file other) w.End
  pub deep : DeepAt s 0 (file other) i
