-- The text of a ring spells its protocol.
use Rattle.std.proofs.Common.{◌≡◌, ℕ, ◌<◌, ◌≤◌, List, Ok, refl, ap, sym, ◌∙◌, subst, arith}
use Rattle.std.specs.Prelude.{zero, suc}
use Rattle.spec_calculus.specs.Bounds.{most_keys}
use Rattle.spec_protocol_grammar.specs.Classes.{Source}
use Rattle.spec_protocol_grammar.specs.Spelling.{IsSketch}
use Rattle.spec_protocol_scope.specs.Names.{Texts}
use Rattle.spec_protocol_scope.specs.Scope.{scope}
use Rattle.spec_protocol_scope.specs.Spells.{IsProtocolOf, Spells}
use Rattle.spec_calculus.proofs.Plain.{plain_greatest}
use Rattle.spec_ring_text.specs.Text.{ring_text}
use Rattle.spec_ring_text.specs.Meaning.{ring_protocol}
use Rattle.spec_ring_text.proofs.Chunks.{flat, words, word_at, tokens, lexed, source_is, texts_are}
use Rattle.spec_ring_text.proofs.Lines.{key_chunks, middle_chunks, pass_chunks, ring_chunks, ring_bytes, ring_stands}
use Rattle.spec_ring_text.proofs.Sketch.{behind_keys, ring_sketch}
use Rattle.spec_ring_text.proofs.Follow.{ring_is_sketch}
use Rattle.spec_ring_text.proofs.Spelled.{Reads, reads, reads_behind}
use Rattle.spec_ring_text.proofs.Declared.{ring_declared, ring_asks}
use Rattle.spec_ring_text.proofs.Running.{main_is, ring_plain}
use Rattle.spec_ring_text.proofs.Sizes.{ring_short}

-- the texts of the tokens of a ring
abbrev ring_texts : ℕ → Texts
ring_texts n = word_at (words (ring_chunks n))

-- the texts from the keys on, and behind them
from_keys : (n : ℕ) → Reads (ring_texts n) 27 (words (key_chunks 1 n (middle_chunks (pass_chunks n 1 n))))
from_keys n = reads (words (ring_chunks n)) 27 (words (key_chunks 1 n (middle_chunks (pass_chunks n 1 n)))) refl

from_query : (n : ℕ) → Reads (ring_texts n) (behind_keys 27 n) (words (middle_chunks (pass_chunks n 1 n)))
from_query n = reads_behind (ring_texts n) 27 1 n (middle_chunks (pass_chunks n 1 n)) (from_keys n)

-- the protocol of the sketch of a ring
ring_scoped : (m : ℕ) → m < 500 → scope (ring_texts (suc m)) (ring_sketch m) ≡ Ok (ring_protocol (suc m))
ring_scoped m small =
    let query = from_query (suc m) in
    rw (
      ring_declared (suc m) (middle_chunks (pass_chunks (suc m) 1 (suc m))) (omega arith) (from_keys (suc m)),
      main_is (ring_texts (suc m)) m (behind_keys 27 (suc m)) small query,
      ring_asks (ring_texts (suc m)) (suc m) (suc m) (ring_protocol (suc m)).main query.1.1.1.0 (plain_greatest (ring_protocol (suc m)).main (ring_plain (suc m))),
    ) refl

-- the protocol of the bytes of its chunks
ring_protocol_of : (m : ℕ) → m < 500 → IsProtocolOf (flat (ring_chunks (suc m))) (ring_protocol (suc m))
ring_protocol_of m small =
    let stand = ring_stands (suc m) (omega arith) in
    record {
      tokens = tokens 0 (ring_chunks (suc m));
      lexed = lexed (ring_chunks (suc m)) stand;
      sketch = ring_sketch m;
      read = subst (λ (s : Source). IsSketch s (ring_sketch m)) (sym (source_is (ring_chunks (suc m)) stand)) (ring_is_sketch m small);
      scoped = ap (λ (T : Texts). scope T (ring_sketch m)) (texts_are (ring_chunks (suc m))) ∙ ring_scoped m small;
    }

rings_spell : (m : ℕ) → m < 500 → Spells (ring_text (suc m)) (ring_protocol (suc m))
rings_spell m small = (ring_short m small, subst (λ (bs : List ℕ). IsProtocolOf bs (ring_protocol (suc m))) (ring_bytes (suc m)) (ring_protocol_of m small))

-- the text of a ring spells its protocol
pub ring_spells : (n : ℕ) → 2 ≤ n → n ≤ most_keys → Spells (ring_text n) (ring_protocol n)
ring_spells zero low high = absurd (omega arith)
ring_spells (suc m) low high = rings_spell m (omega arith)
