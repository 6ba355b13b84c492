-- Terms as they stand in a text: trees whose words, numbers and counts of arguments are left open.
use Rattle.std.specs.Prelude.{ℕ, List, ◌∷◌, ◌++◌}
use Rattle.spec_trees.specs.Tree.{Tree, Trees, Leaf, Node, none, more}

-- what stands before the arguments
pub data Head : Type 0 where
  -- `w(`
  Applied : (word : List ℕ) → Head
  -- `(`
  Tupled : Head
  -- `w@d[`
  Made : (word digits : List ℕ) → Head
  -- `@[`
  Attackers : Head

-- a word alone, or a head over arguments
abbrev pub Loose : Type 0
Loose = Tree (List ℕ) Head

abbrev pub LooseRow : Type 0
LooseRow = Trees (List ℕ) Head

-- Every text is a function of what follows it: the text, and then the rest.

-- the head, and then the rest
abbrev pub opening : Head → List ℕ → List ℕ
opening (Applied word) rest = word ++ (40 ∷ rest)
opening Tupled rest = 40 ∷ rest
opening (Made word digits) rest = word ++ (64 ∷ (digits ++ (91 ∷ rest)))
opening Attackers rest = 64 ∷ 91 ∷ rest

-- the byte that stands behind the arguments of a head: `)` or `]`
abbrev pub closing : Head → ℕ
closing (Applied word) = 41
closing Tupled = 41
closing (Made word digits) = 93
closing Attackers = 93

-- a loose tree; a row of them, a comma between each two; the later ones of a row, a comma before each
abbrev mutual
  pub onto : Loose → List ℕ → List ℕ
  onto (Leaf word) rest = word ++ rest
  onto (Node head arguments) rest = opening head (row arguments (closing head ∷ rest))

  pub row : LooseRow → List ℕ → List ℕ
  row none rest = rest
  row (more t ts) rest = onto t (behind ts rest)

  pub behind : LooseRow → List ℕ → List ℕ
  behind none rest = rest
  behind (more t ts) rest = 44 ∷ onto t (behind ts rest)
