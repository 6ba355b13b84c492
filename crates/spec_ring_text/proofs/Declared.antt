-- The names that the declarations of a ring declare, and the query that they ask.
use Rattle.std.proofs.Common.{◌≡◌, ℕ, ◌+◌, ◌<◌, ◌≤◌, true, false, List, [], ◌∷◌, ◌++◌, length, None, Ok, refl, ap, sym, ◌∙◌, arith, append_assoc, length-append}
use Rattle.std.specs.Prelude.{zero, suc, codes, nat_le}
use Rattle.std.specs.Fmt.{decimal}
use Rattle.std.proofs.lemmas.Bool.{le-leb}
use Rattle.std.proofs.lemmas.List.{append-nil}
use Rattle.spec_trees.specs.Tree.{Leaf}
use Rattle.spec_calculus.specs.Bounds.{most_names}
use Rattle.spec_calculus.specs.Syntax.{Free, Declared, Process, Secret}
use Rattle.spec_calculus.specs.Points.{greatest_phase}
use Rattle.spec_protocol_scope.specs.Names.{Texts, find_declared, meaning_of, no_names}
use Rattle.spec_protocol_scope.specs.Declarations.{declare_free, declare_all}
use Rattle.spec_protocol_scope.specs.Queries.{queries}
use Rattle.spec_protocol_grammar.specs.Sketch.{DeclarationSketch}
use Rattle.spec_ring_text.specs.Text.{key}
use Rattle.spec_ring_text.specs.Meaning.{free_name, keys}
use Rattle.spec_ring_text.proofs.Chunks.{Chunk, words, word_at}
use Rattle.spec_ring_text.proofs.Lines.{first_chunks, key_chunks}
use Rattle.spec_ring_text.proofs.Sketch.{further, key_sketches, behind_keys, first_sketches}
use Rattle.spec_ring_text.proofs.Found.{names_of, two_frees, all_frees, keys_differ, not_found_before, key_means_nothing, key_no_variable, ring_scope, secret_meant}
use Rattle.spec_ring_text.proofs.Rules as rules
use Rattle.spec_ring_text.proofs.Spelled.{Reads}

-- a key that is declared is one free name more
key_declared : (T : Texts) (frees : List Declared) (n i : ℕ) → T n ≡ key i → find_declared frees (key i) ≡ None → length frees + 3 ≤ most_names
    → declare_free T (names_of frees) false n ≡ Ok (names_of (frees ++ free_name (key i) false ∷ []))
key_declared T frees n i e none few =
    let nothing : meaning_of T (names_of frees) (T n) ≡ None = ap (meaning_of T (names_of frees)) e ∙ key_means_nothing T frees i none in
    let short : nat_le (length frees + 1 + 1 + 0 + 0 + 0 + 1) most_names ≡ true = le-leb _ most_names (omega arith) in
    rw (nothing, short, e, key_no_variable (decimal i)) refl

-- the keys are declared one after another
keys_declared : (T : Texts) (frees : List Declared) (b i m : ℕ) (behind : List Chunk) → Reads T b (words (key_chunks i m behind))
    → ((j : ℕ) → i ≤ j → j < i + m → find_declared frees (key j) ≡ None) → i + m ≤ 1000 → length frees + m ≤ 1000
    → declare_all T (names_of frees) (key_sketches b m) ≡ Ok (names_of (frees ++ keys i m))
keys_declared T frees b i zero behind h none small few = ap (λ ds. Ok (names_of ds)) (sym (append-nil frees))
keys_declared T frees b i (suc m) behind h none small few =
    let d : Declared = free_name (key i) false in
    let one : declare_free T (names_of frees) false (further 2 b) ≡ Ok (names_of (frees ++ d ∷ [])) = key_declared T frees (further 2 b) i h.1.1.0 (none i (omega arith) (omega arith)) (omega arith) in
    let others : declare_all T (names_of (frees ++ d ∷ [])) (key_sketches (further 4 b) m) ≡ Ok (names_of ((frees ++ d ∷ []) ++ keys (i + 1) m)) =
    keys_declared T (frees ++ d ∷ []) (further 4 b) (i + 1) m behind h.1.1.1.1
    (λ j low high. not_found_before 1 frees d (key j) (none j (omega arith) (omega arith)) (keys_differ i j (omega arith) (omega arith) (λ same. omega arith)))
    (omega arith) (omega (arith, length-append frees (d ∷ []))) in
    rw one (others ∙ ap (λ ds. Ok (names_of ds)) (append_assoc frees (d ∷ []) (keys (i + 1) m)))

-- what the first lines declare
first_declared : (cs : List Chunk) (ds : List DeclarationSketch) → declare_all (word_at (words (first_chunks cs))) no_names (first_sketches ds) ≡ declare_all (word_at (words (first_chunks cs))) (names_of two_frees) ds
first_declared cs ds = refl

-- what a ring declares
pub ring_declared : (n : ℕ) (cs : List Chunk) → n < 900 → Reads (word_at (words (first_chunks (key_chunks 1 n cs)))) 27 (words (key_chunks 1 n cs))
    → declare_all (word_at (words (first_chunks (key_chunks 1 n cs)))) no_names (first_sketches (key_sketches 27 n)) ≡ Ok (names_of (all_frees n))
ring_declared n cs small h =
    first_declared (key_chunks 1 n cs) (key_sketches 27 n)
    ∙ keys_declared (word_at (words (first_chunks (key_chunks 1 n cs)))) two_frees 27 1 n cs h (λ j low high. refl) (omega arith) (omega arith)

-- what a ring asks
keys_ask : (T : Texts) (n b m : ℕ) (main : Process) → T (further 3 (behind_keys b m)) ≡ codes "s" → queries (ring_scope T n) main 0 (key_sketches b m) ≡ Ok (Secret (Leaf (Free 2)) (greatest_phase main) ∷ [])
keys_ask T n b zero main e = rw (rules.free_name (ring_scope T n) [] (further 3 b) 2 refl (secret_meant T n (further 3 b) e)) refl
keys_ask T n b (suc m) main e = keys_ask T n (further 4 b) m main e

pub ring_asks : (T : Texts) (n m : ℕ) (main : Process) → T (further 3 (behind_keys 27 m)) ≡ codes "s" → greatest_phase main ≡ 0 → queries (ring_scope T n) main 0 (first_sketches (key_sketches 27 m)) ≡ Ok (Secret (Leaf (Free 2)) 0 ∷ [])
ring_asks T n m main e none = keys_ask T n 27 m main e ∙ ap (λ (phase : ℕ). Ok (Secret (Leaf (Free 2)) phase ∷ [])) none
