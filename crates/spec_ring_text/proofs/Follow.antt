-- The tokens of a ring are spelled as its sketch is.
use Rattle.std.proofs.Common.{◌≡◌, ℕ, ◌+◌, ◌<◌, ◌≤◌, false, List, [], ◌∷◌, ◌++◌, drop, refl, ap, sym, ◌∙◌, subst, arith, add-one}
use Rattle.std.specs.Prelude.{◌≢◌, zero, suc, slice_index_or}
use Rattle.spec_calculus.specs.Bounds.{most_levels}
use Rattle.spec_protocol_grammar.specs.declared.class.Class.{Class}
use Rattle.spec_protocol_grammar.specs.declared.class.Class.TheVariants as w
use Rattle.spec_protocol_grammar.specs.Classes.{same, words}
use Rattle.spec_protocol_grammar.specs.Spelling.{Item, one, no, nothing, word, unit, process, declarations, main, file, IsWord, Words, IsShallow, first_of, IsGreedy, IsSketch}
use Rattle.spec_protocol_grammar.proofs.Same.{true-same}
use Rattle.spec_ring_text.specs.Text.{successor}
use Rattle.spec_ring_text.proofs.Chunks.{◌⨾◌, Chunk, classes}
use Rattle.spec_ring_text.proofs.Lines.{key_chunks, middle_chunks, pass_chunk, pass_chunks, ring_chunks}
use Rattle.spec_ring_text.proofs.Sketch.{further, key_sketches, behind_keys, pass_sketch, passes_sketch, main_sketch, ring_sketch}

-- the first of some classes, and those behind it
abbrev first : List Class → Class
first [] = w.End
first (c ∷ cs) = c

abbrev later : List Class → List Class
later [] = []
later (c ∷ cs) = cs

-- from this place on these classes are those of the items, within the limit of levels, and nothing is omitted that comes next
abbrev Follow : ℕ → List Class → List Item → Type 0
Follow at cs [] = Unit {0}
Follow at cs (one level number class ∷ items) = (IsWord (record { number = at; class = first cs }) number class × (level ≤ most_levels)) × Follow (at + 1) (later cs) items
Follow at cs (no class ∷ items) = (same class (first_of items w.End) ≡ false) × Follow at cs items
Follow at cs (nothing ∷ items) = ⊥

class_at : (all : List Class) (at : ℕ) → slice_index_or all at w.End ≡ first (drop at all)
class_at [] zero = refl
class_at [] (suc at) = refl
class_at (c ∷ all) zero = refl
class_at (c ∷ all) (suc at) = class_at all at

drop_later : (all : List Class) (at : ℕ) → drop (suc at) all ≡ later (drop at all)
drop_later [] zero = refl
drop_later [] (suc at) = refl
drop_later (c ∷ all) zero = refl
drop_later (c ∷ all) (suc at) = drop_later all at

-- items that follow are the words of the file
follow_words : (all : List Class) (at : ℕ) (cs : List Class) (items : List Item) → drop at all ≡ cs → Follow at cs items → (end : ℕ) × Words (words all) at items end
follow_words all at cs [] e h = (at, refl)
follow_words all at cs (one level number class ∷ items) e h =
    let here : first cs ≡ slice_index_or all at w.End = sym (class_at all at ∙ ap first e) in
    let next : drop (at + 1) all ≡ later cs = ap (λ (k : ℕ). drop k all) (add-one at) ∙ (drop_later all at ∙ ap later e) in
    let r = follow_words all (at + 1) (later cs) items next h.1 in
    (r.0, (subst (λ (c : Class). IsWord (record { number = at; class = c }) number class) here h.0.0, r.1))
follow_words all at cs (no class ∷ items) e h = follow_words all at cs items e h.1
follow_words all at cs (nothing ∷ items) e h = absurd h

follow_shallow : (at : ℕ) (cs : List Class) (items : List Item) → Follow at cs items → IsShallow items
follow_shallow at cs [] h = tt
follow_shallow at cs (one level number class ∷ items) h = (h.0.1, follow_shallow (at + 1) (later cs) items h.1)
follow_shallow at cs (no class ∷ items) h = follow_shallow at cs items h.1
follow_shallow at cs (nothing ∷ items) h = absurd h

apart : (a b : Class) → same a b ≡ false → a ≢ b
apart a b h e = let t = true-same a b e in cc

follow_greedy : (at : ℕ) (cs : List Class) (items : List Item) → Follow at cs items → IsGreedy items w.End
follow_greedy at cs [] h = tt
follow_greedy at cs (one level number class ∷ items) h = follow_greedy (at + 1) (later cs) items h.1
follow_greedy at cs (no class ∷ items) h = (apart class (first_of items w.End) h.0, follow_greedy at cs items h.1)
follow_greedy at cs (nothing ∷ items) h = absurd h

-- a process of the ring, which stands at this level, and what follows it
pass_follows : (b l i j : ℕ) (cs : List Chunk) (items : List Item) → l + 5 ≤ most_levels → same w.Semicolon (first_of items w.End) ≡ false → same w.Else (first_of items w.End) ≡ false
    → Follow (further 29 b) (classes cs) items → Follow b (later (classes (pass_chunk i j cs))) (unit l (pass_sketch b) ++ items)
pass_follows b l i j cs items h semicolon otherwise more =
    let h0 : l ≤ most_levels = omega arith in
    let h1 : l + 1 ≤ most_levels = omega arith in
    let h2 : l + 1 + 1 ≤ most_levels = omega arith in
    let h3 : l + 1 + 1 + 1 ≤ most_levels = omega arith in
    let h4 : l + 1 + 1 + 1 + 1 ≤ most_levels = omega arith in
    let h5 : l + 1 + 1 + 1 + 1 + 1 ≤ most_levels = omega arith in
    ((refl, refl), h0) ⨾ ((refl, refl), h1) ⨾ (refl, h1) ⨾ ((refl, refl), h2) ⨾ refl ⨾ (refl, h1) ⨾ ((refl, refl), h2) ⨾
    refl ⨾ (refl, h1) ⨾ (refl, h1) ⨾ ((refl, refl), h2) ⨾ ((refl, refl), h3) ⨾ refl ⨾ (refl, h2) ⨾ ((refl, refl), h3) ⨾
    (refl, h3) ⨾ ((refl, refl), h4) ⨾ refl ⨾ (refl, h3) ⨾ ((refl, refl), h4) ⨾ refl ⨾ refl ⨾ (refl, h3) ⨾ (refl, h2) ⨾
    ((refl, refl), h3) ⨾ (refl, h3) ⨾ ((refl, refl), h4) ⨾ refl ⨾ (refl, h3) ⨾ ((refl, refl), h4) ⨾ (refl, h4) ⨾
    ((refl, refl), h5) ⨾ refl ⨾ (refl, h4) ⨾ ((refl, refl), h5) ⨾ refl ⨾ refl ⨾ (refl, h4) ⨾ (refl, h3) ⨾ semicolon ⨾
    otherwise ⨾ more

-- all of them, with the `|` before them, and the end of the file
passes_follow : (n b l i m : ℕ) → l + m + 7 ≤ most_levels → Follow b (classes (pass_chunks n i (suc m))) (word l w.Bar ∷ (process (l + 1) (passes_sketch (b + 1) m) ++ (word 0 w.End ∷ [])))
passes_follow n b l i zero h =
    ((refl, omega arith), pass_follows (b + 1) (l + 1 + 1) i (successor n i) [] (no w.Bar ∷ word 0 w.End ∷ []) (omega arith) refl refl (refl ⨾ (refl, omega arith) ⨾ tt))
passes_follow n b l i (suc m) h = (
  (refl, omega arith),
  pass_follows (b + 1) (l + 1 + 1) i (successor n i) (pass_chunks n (i + 1) (suc m)) (word (l + 1) w.Bar ∷ (process (l + 1 + 1) (passes_sketch (further 30 (b + 1)) m) ++ (word 0 w.End ∷ []))) (omega arith) refl refl
      (passes_follow n (further 29 (b + 1)) (l + 1) (i + 1) m (omega arith)),
)

-- the query and the main process
middle_follows : (n b m : ℕ) → m + 8 ≤ most_levels → Follow b (classes (middle_chunks (pass_chunks n 1 (suc m)))) (declarations (key_sketches b zero) (main (further 6 b) (main_sketch (further 6 b) m)))
middle_follows n b m h =
    let h0 : 0 ≤ most_levels = omega arith in
    let h1 : 1 ≤ most_levels = omega arith in
    let h2 : 2 ≤ most_levels = omega arith in
    let h3 : 3 ≤ most_levels = omega arith in
    let h4 : 4 ≤ most_levels = omega arith in
    ((refl, refl), h0) ⨾ ((refl, refl), h0) ⨾ (refl, h0) ⨾ ((refl, refl), h1) ⨾ refl ⨾ (refl, h0) ⨾ refl ⨾ (refl, h0) ⨾
    ((refl, refl), h0) ⨾ ((refl, refl), h2) ⨾ (refl, h2) ⨾ ((refl, refl), h3) ⨾ refl ⨾ (refl, h2) ⨾ ((refl, refl), h3) ⨾
    (refl, h3) ⨾ ((refl, refl), h4) ⨾ refl ⨾ (refl, h3) ⨾ ((refl, refl), h4) ⨾ refl ⨾ refl ⨾ (refl, h3) ⨾ (refl, h2) ⨾
    refl ⨾ passes_follow n (further 18 b) 1 1 m (omega arith)

keys_follow : (n b i k m : ℕ) → m + 8 ≤ most_levels → Follow b (classes (key_chunks i k (middle_chunks (pass_chunks n 1 (suc m))))) (declarations (key_sketches b k) (main (further 6 (behind_keys b k)) (main_sketch (further 6 (behind_keys b k)) m)))
keys_follow n b i zero m h = middle_follows n b m h
keys_follow n b i (suc k) m h =
    let h0 : 0 ≤ most_levels = omega arith in
    ((refl, refl), h0) ⨾ (refl, h0) ⨾ ((refl, refl), h0) ⨾ refl ⨾ (refl, h0) ⨾ keys_follow n (further 4 b) (i + 1) k m h

-- the whole file
ring_follows : (m : ℕ) → m + 8 ≤ most_levels → Follow 0 (classes (ring_chunks (suc m))) (file (ring_sketch m))
ring_follows m h =
    let h0 : 0 ≤ most_levels = omega arith in
    let h1 : 1 ≤ most_levels = omega arith in
    let h2 : 2 ≤ most_levels = omega arith in
    ((refl, refl), h0) ⨾ ((refl, refl), h0) ⨾ refl ⨾ (refl, h0) ⨾ ((refl, refl), h0) ⨾ (refl, h0) ⨾ ((refl, refl), h0) ⨾
    refl ⨾ (refl, h0) ⨾ ((refl, refl), h0) ⨾ ((refl, refl), h0) ⨾ (refl, h0) ⨾ ((refl, refl), h0) ⨾ (refl, h0) ⨾
    ((refl, refl), h0) ⨾ ((refl, refl), h0) ⨾ (refl, h0) ⨾ ((refl, refl), h1) ⨾ (refl, h1) ⨾ ((refl, refl), h2) ⨾ refl ⨾
    (refl, h1) ⨾ ((refl, refl), h2) ⨾ refl ⨾ refl ⨾ (refl, h1) ⨾ (refl, h0) ⨾ ((refl, refl), h1) ⨾ refl ⨾ refl ⨾
    (refl, h0) ⨾ (refl, h0) ⨾ ((refl, refl), h1) ⨾ refl ⨾ refl ⨾ (refl, h0) ⨾ keys_follow (suc m) 27 1 (suc m) m h

-- the sketch of the tokens of a ring
pub ring_is_sketch : (m : ℕ) → m < 500 → IsSketch (words (classes (ring_chunks (suc m)))) (ring_sketch m)
ring_is_sketch m small =
    let follow = ring_follows m (omega arith) in
    let spelled = follow_words (classes (ring_chunks (suc m))) 0 (classes (ring_chunks (suc m))) (file (ring_sketch m)) refl follow in
    record {
      greedy = follow_greedy 0 (classes (ring_chunks (suc m))) (file (ring_sketch m)) follow;
      end = spelled.0;
      words = spelled.1;
      shallow = follow_shallow 0 (classes (ring_chunks (suc m))) (file (ring_sketch m)) follow;
    }
