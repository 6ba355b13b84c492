-- Words at a place.
use Rattle.std.proofs.Common.{◌≡◌, ◌≢◌, ℕ, ◌+◌, ◌-◌, ◌<◌, ◌≤◌, if◌then◌else◌, cond, true, false, List, [], ◌∷◌, take, drop, length, ap, ◌∙◌, arith}
use Rattle.std.specs.List.{prefix_len}
use Rattle.std.proofs.lemmas.Bool.Decides.{nat_tests}
use Rattle.std.proofs.lemmas.List.{drop-drop}
use Rattle.spec_protocol_tokens.specs.Bytes.{begins_word, is_in_word}
use Rattle.spec_certificate_text.specs.Terms.{Syntax}
use Rattle.spec_certificate_text.specs.Outcomes.{Found, Faulty, front, ended}
use Rattle.spec_certificate_text.specs.ReadWords.{word_of, read_word}
use Rattle.term_reader.proofs.Walk.{next_byte, all_dropped}

pub no_word : (bytes : List ℕ) (at : ℕ) → begins_word (front bytes) ≡ false → read_word bytes at ≡ Faulty at Syntax
no_word bytes at begins = ap (λ b. if b then word_of (prefix_len is_in_word bytes) bytes at else Faulty at Syntax) begins

begun : (bytes : List ℕ) (at end : ℕ) → begins_word (front (drop at bytes)) ≡ true → end ≡ at + prefix_len is_in_word (drop at bytes)
    → read_word (drop at bytes) at ≡ ended end (drop end bytes) (Found (take (end - at) (drop at bytes)) end (drop end bytes))
begun bytes at end begins is =
    let n = prefix_len is_in_word (drop at bytes) in
    let size : n ≡ end - at = omega (arith, is) in
    let place : at + n ≡ end = omega (arith, is) in
    let rest : drop n (drop at bytes) ≡ drop end bytes = drop-drop n at bytes ∙ ap (λ k. drop k bytes) place in
    ap (λ b. if b then word_of n (drop at bytes) at else Faulty at Syntax) begins
    ∙ (ap (λ k. ended k (drop n (drop at bytes)) (Found (take n (drop at bytes)) k (drop n (drop at bytes)))) place
    ∙ (ap (λ r. ended end r (Found (take n (drop at bytes)) end r)) rest
    ∙ ap (λ k. ended end (drop end bytes) (Found (take k (drop at bytes)) end (drop end bytes))) size))

pub word_there : (bytes : List ℕ) (at end : ℕ) → begins_word (front (drop at bytes)) ≡ true → end ≡ at + prefix_len is_in_word (drop at bytes) → end ≤ length bytes → end ≢ length bytes
    → read_word (drop at bytes) at ≡ Found (take (end - at) (drop at bytes)) end (drop end bytes)
word_there bytes at end begins is within other =
    let below : end < length bytes = omega (arith, within, other) in
    begun bytes at end begins is
    ∙ ap (λ r. ended end r (Found (take (end - at) (drop at bytes)) end (drop end bytes))) (next_byte bytes end below)

pub word_cut : (bytes : List ℕ) (at end : ℕ) → begins_word (front (drop at bytes)) ≡ true → end ≡ at + prefix_len is_in_word (drop at bytes) → end ≡ length bytes → read_word (drop at bytes) at ≡ Faulty end Syntax
word_cut bytes at end begins is cut =
    begun bytes at end begins is
    ∙ ap (λ r. ended end r (Found (take (end - at) (drop at bytes)) end (drop end bytes))) (all_dropped bytes end (omega (arith, cut)))

-- a word has a byte at least
some_byte : (bytes : List ℕ) → begins_word (front bytes) ≡ true → 1 ≤ prefix_len is_in_word bytes
some_byte [] begins = absurd (cc)
some_byte (b ∷ bytes) begins =
    let goes_on : is_in_word b ≡ true = grind (arith, nat_tests) in
    let counted : prefix_len is_in_word (b ∷ bytes) ≡ 1 + prefix_len is_in_word bytes = ap (λ t. cond t (1 + prefix_len is_in_word bytes) 0) goes_on in
    omega (arith, counted)

pub word_some : (bytes : List ℕ) (at end : ℕ) → begins_word (front (drop at bytes)) ≡ true → end ≡ at + prefix_len is_in_word (drop at bytes) → at < end
word_some bytes at end begins is = omega (arith, is, some_byte (drop at bytes) begins)

pub ruleset words = (no_word, word_there, word_cut, word_some)
