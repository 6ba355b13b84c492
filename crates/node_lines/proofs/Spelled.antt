-- Heads of nodes.
use Rattle.std.proofs.Common.{◌≡◌, ℕ, ◌+◌, if◌then◌else◌, true, false, List, [], ◌∷◌, take, drop, codes, refl, sym, ap, ◌∙◌}
use Rattle.std.specs.List.{prefix_len}
use Rattle.spec_calculus.specs.Syntax.{Protocol}
use Rattle.spec_terms.specs.Term.{Tuple}
use Rattle.spec_protocol_tokens.specs.Bytes.{begins_word, is_in_word}
use Rattle.spec_certificate_text.specs.Terms.{Syntax}
use Rattle.spec_certificate_text.specs.Outcomes.{Found, Faulty, next, front, ended, read_fixed}
use Rattle.spec_certificate_text.specs.ReadWords.{word_of}
use Rattle.spec_node_reading.specs.ReadNodes.{Names, word_head, read_head}
use Rattle.spec_node_counts.specs.Words.{read_word_head}

head_begun : (P : Protocol) (bytes : List ℕ) (at size : ℕ)
    → ended (at + size) (drop size bytes) (word_head P (take size bytes) at (at + size) (drop size bytes)) ≡ next (word_of size bytes at) (λ word p r. word_head P word at p r)
head_begun P bytes at size = by (drop size bytes)
  where
    by : (rest : List ℕ) → ended (at + size) rest (word_head P (take size bytes) at (at + size) rest) ≡ next (ended (at + size) rest (Found (take size bytes) (at + size) rest)) (λ word p r. word_head P word at p r)
    by [] = refl
    by (b ∷ rest) = refl

pub head_of_word : (P : Protocol) (bytes : List ℕ) (at : ℕ) → begins_word (front bytes) ≡ true → read_head P bytes at ≡ read_word_head P bytes at
head_of_word P bytes at begins =
    let n = prefix_len is_in_word bytes in
    ap (λ b. if b then ended (at + n) (drop n bytes) (word_head P (take n bytes) at (at + n) (drop n bytes)) else next (read_fixed (codes "()") bytes at) (λ _ p r. Found (Names record { symbol = Tuple 0; arity = 0 }) p r)) begins
    ∙ (head_begun P bytes at n
    ∙ ap (λ b. next (if b then word_of n bytes at else Faulty at Syntax) (λ word p r. word_head P word at p r)) (sym begins))

pub head_of_tuple : (P : Protocol) (bytes : List ℕ) (at : ℕ) → begins_word (front bytes) ≡ false → read_head P bytes at ≡ next (read_fixed (codes "()") bytes at) (λ _ p r. Found (Names record { symbol = Tuple 0; arity = 0 }) p r)
head_of_tuple P bytes at begins =
    let n = prefix_len is_in_word bytes in
    ap (λ b. if b then ended (at + n) (drop n bytes) (word_head P (take n bytes) at (at + n) (drop n bytes)) else next (read_fixed (codes "()") bytes at) (λ _ p r. Found (Names record { symbol = Tuple 0; arity = 0 }) p r)) begins

pub ruleset heads = (head_of_word, head_of_tuple)
