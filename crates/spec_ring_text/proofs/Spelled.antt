-- The texts of the tokens of a ring, from a token on.
use Rattle.std.proofs.Common.{◌≡◌, ℕ, ◌+◌, List, [], ◌∷◌, drop, ap, ◌∙◌, add-one}
use Rattle.std.specs.Prelude.{zero, suc, slice_index_or}
use Rattle.spec_protocol_scope.specs.Names.{Texts}
use Rattle.spec_ring_text.proofs.Chunks.{Chunk, words, word_at}
use Rattle.spec_ring_text.proofs.Lines.{key_chunks}
use Rattle.spec_ring_text.proofs.Sketch.{further, behind_keys}

-- from this token on these are the texts
abbrev pub Reads : Texts → ℕ → List (List ℕ) → Type 0
Reads T b [] = Unit {0}
Reads T b (w ∷ ws) = (T b ≡ w) × Reads T (b + 1) ws

first_at : (all : List (List ℕ)) (b : ℕ) (w : List ℕ) (ws : List (List ℕ)) → drop b all ≡ w ∷ ws → slice_index_or all b [] ≡ w
first_at [] zero w ws e = absurd (let wrong = e in cc)
first_at [] (suc b) w ws e = absurd (let wrong = e in cc)
first_at (v ∷ all) zero w ws e = cc
first_at (v ∷ all) (suc b) w ws e = first_at all b w ws e

later_at : (all : List (List ℕ)) (b : ℕ) (w : List ℕ) (ws : List (List ℕ)) → drop b all ≡ w ∷ ws → drop (suc b) all ≡ ws
later_at [] zero w ws e = absurd (let wrong = e in cc)
later_at [] (suc b) w ws e = absurd (let wrong = e in cc)
later_at (v ∷ all) zero w ws e = cc
later_at (v ∷ all) (suc b) w ws e = later_at all b w ws e

-- the texts of a list, from a token on
pub reads : (all : List (List ℕ)) (b : ℕ) (ws : List (List ℕ)) → drop b all ≡ ws → Reads (word_at all) b ws
reads all b [] e = tt
reads all b (w ∷ ws) e = (first_at all b w ws e, reads all (b + 1) ws (ap (λ (k : ℕ). drop k all) (add-one b) ∙ later_at all b w ws e))

-- the texts behind so many keys
pub reads_behind : (T : Texts) (b i m : ℕ) (behind : List Chunk) → Reads T b (words (key_chunks i m behind)) → Reads T (behind_keys b m) (words behind)
reads_behind T b i zero behind h = h
reads_behind T b i (suc m) behind h = reads_behind T (further 4 b) (i + 1) m behind h.1.1.1.1
