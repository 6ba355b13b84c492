-- Reading words.
use Rattle.std.specs.Prelude.{ℕ, ◌+◌, if◌then◌else◌, List, take, drop}
use Rattle.std.specs.List.{prefix_len}
use Rattle.spec_protocol_tokens.specs.Bytes.{begins_word, is_in_word}
use Rattle.spec_certificate_text.specs.Terms.{Syntax}
use Rattle.spec_certificate_text.specs.Outcomes.{Found, Faulty, front, ended, Reader}

-- a word, which these bytes begin with, and so many of them are
abbrev pub word_of : ℕ → Reader (List ℕ)
word_of size bytes at = ended (at + size) (drop size bytes) (Found (take size bytes) (at + size) (drop size bytes))

-- a word: another byte has to stand behind it
abbrev pub read_word : Reader (List ℕ)
read_word bytes at = if begins_word (front bytes) then word_of (prefix_len is_in_word bytes) bytes at else Faulty at Syntax
