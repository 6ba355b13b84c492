-- Lists that are held in blocks.
use Rattle.std.proofs.Common.{◌≡◌, ◌∙◌, ℕ, ◌+◌, ◌<◌, List, [], ◌∷◌, ◌++◌, length, take, get_or, ap, sym}
use Rattle.std.specs.Prelude.{flat_map}
use Rattle.std.proofs.lemmas.List.{append-nil, take_more}
use Rattle.std.proofs.lemmas.List.Concat.{flat_map-append}

module _ {X A : Type 0} (items : X → List A) where
  -- one block more
  pub one_more : (blocks : List X) (block : X) → flat_map items (blocks ++ block ∷ []) ≡ flat_map items blocks ++ items block
  one_more blocks block = flat_map-append items blocks (block ∷ []) ∙ ap (λ l. flat_map items blocks ++ l) (append-nil (items block))

  -- one more of the first blocks
  pub next_block : (blocks : List X) (i : ℕ) (block : X) → i < length blocks → block ≡ get_or blocks i block → flat_map items (take (i + 1) blocks) ≡ flat_map items (take i blocks) ++ items block
  next_block blocks i block within is = ap (flat_map items) (take_more blocks i block within) ∙ (one_more (take i blocks) (get_or blocks i block) ∙ ap (λ (b : X). flat_map items (take i blocks) ++ items b) (sym is))
