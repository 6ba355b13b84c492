-- The table of what names are declared as.
use Rattle.std.specs.Prelude.{ℕ, List, Some}
use Rattle.std.specs.Global.{Vec}
use Rattle.std.specs.HashMap.{HashMap, UpdatesBy}
use Rattle.std.specs.Str.{bytes_eq}
use Rattle.std.specs.declared.hash.BuildHasherDefault.{BuildHasherDefault}
use Rattle.std.specs.declared.hash.FoldHasher.{FoldHasher}
use Rattle.scope_declarations.specs.declared.names.Meaning.{Meaning}

abbrev pub Table : Type 0
Table = HashMap (Vec ℕ) Meaning (BuildHasherDefault FoldHasher)

-- the new table tells what the old one does, and that this word means that
abbrev pub TellsBesides : List ℕ → Meaning → Table → Table → Type 0
TellsBesides word meaning old new = UpdatesBy (λ x y. bytes_eq x.items y.items) (λ k. bytes_eq word k.items) old new (Some meaning)
