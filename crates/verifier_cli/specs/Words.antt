-- What words ask for.
use Rattle.std.specs.Prelude.{◌≡◌, ℕ, List, Some, None}
use Rattle.command_words.specs.Request.{Request, request_of}

-- the words make this request
abbrev pub Asks : List (List ℕ) → Request → Type 0
Asks words request = request_of words ≡ Some request

-- the words ask for nothing
abbrev pub IsNoCommand : List (List ℕ) → Type 0
IsNoCommand words = request_of words ≡ None
