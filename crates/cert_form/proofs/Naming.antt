-- Words by their number.
use Rattle.std.proofs.Common.{◌≡◌, ℕ, ◌+◌, ◌<◌, List, [], Some, None, map, length, get_or, slice_get, option_map, unwrap_or, refl, ap, ◌∙◌, sym, add-one}
use Rattle.std.proofs.lemmas.Option.{slice_get-map, slice_get_read}
use Rattle.spec_calculus.specs.Syntax as calculus
use Rattle.spec_calculus.specs.Points.{numbered, nodes}
use Rattle.spec_calculus.proofs.Items.{numbered-past}
use Rattle.pi_tree.specs.declared.names.Declared.{Declared}
use Rattle.pi_tree.specs.Names.{declared_of}
use Rattle.spec_certificate_text.specs.Words.{declared_word, word_at, word_of_process}

numbered-suc : {A : Type 0} (xs : List A) (number index : ℕ) → number ≡ index + 1 → numbered xs number ≡ slice_get xs index
numbered-suc xs number index next = rw (next, add-one) refl

-- the word of the declaration at an index
pub declared_at : (items : List Declared) (number index : ℕ) (d : Declared) → number ≡ index + 1 → index < length items → d ≡ get_or items index d → declared_word (map declared_of items) number ≡ d.word
declared_at items number index d next within at =
    let read : slice_get items index ≡ Some d = slice_get_read items (length items) index d refl within at in
    let mapped : slice_get (map declared_of items) index ≡ Some (declared_of d) = slice_get-map declared_of items index ∙ ap (option_map declared_of) read in
    ap (λ o. unwrap_or (option_map (λ e. e.word) o) []) (numbered-suc (map declared_of items) number index next ∙ mapped)

-- past the declarations there is none
pub declared_past : (items : List Declared) (number index : ℕ) → number ≡ index + 1 → slice_get items index ≡ None → declared_word (map declared_of items) number ≡ []
declared_past items number index next none_there =
    ap (λ o. unwrap_or (option_map (λ e. e.word) o) []) (numbered-suc (map declared_of items) number index next ∙ (slice_get-map declared_of items index ∙ ap (option_map declared_of) none_there))

pub ruleset by_number = (declared_at, declared_past)

-- the word at a node
pub at_node : (P : calculus.Protocol) (point : ℕ) (node : calculus.Process) (word : List ℕ) → numbered (nodes P.main) point ≡ Some node → word ≡ word_of_process node → word ≡ word_at P point
at_node P point node word there is = is ∙ sym (ap (λ o. unwrap_or (option_map word_of_process o) []) there)

pub past_nodes : (P : calculus.Protocol) (point : ℕ) → length (nodes P.main) < point → [] ≡ word_at P point
past_nodes P point past = sym (ap (λ o. unwrap_or (option_map word_of_process o) []) (numbered-past (nodes P.main) point past))
