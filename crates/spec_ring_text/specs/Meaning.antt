-- The protocol that the text of the ring of n keys spells.
use Rattle.std.specs.Prelude.{ℕ, zero, suc, ◌+◌, ◌-◌, Bool, true, false, List, [], ◌∷◌, codes}
use Rattle.spec_trees.specs.Tree.{Leaf, node}
use Rattle.spec_calculus.specs.Syntax.{Free, Variable, Constructor, Bind, Term, Calls, Expression, Process, Nil, Output, Input, Parallel, Replication, Let, Secret, Declared, Destructor, Protocol}
use Rattle.spec_ring_text.specs.Text.{key, successor}

-- a free name
abbrev pub free_name : List ℕ → Bool → Declared
free_name word public = record { word = word; arity = 0; public = public; is_data = false }

-- so many keys, of which i is the first
abbrev pub keys : ℕ → ℕ → List Declared
keys i zero = []
keys i (suc more) = free_name (key i) false ∷ keys (i + 1) more

-- the free name that key i is: `c` and `s` stand before the keys
abbrev pub key_name : ℕ → Term
key_name i = Leaf (Free (i + 2))

-- a term under a key
abbrev pub encrypted : Term → Term → Term
encrypted m k = node (Constructor 1) (m ∷ k ∷ [])

-- and one that is decrypted under a key
abbrev pub decrypted : Term → Term → Expression
decrypted m k = node (Calls 1) (Leaf m ∷ Leaf k ∷ [])

-- `enc`
abbrev pub encryption : Declared
encryption = record { word = codes "enc"; arity = 2; public = true; is_data = false }

-- `dec(enc(x,y),y) -> x`
abbrev pub decryption : Destructor
decryption = record {
  word = codes "dec";
  rules = record { left = encrypted (Leaf (Variable 1)) (Leaf (Variable 2)) ∷ Leaf (Variable 2) ∷ []; right = Leaf (Variable 1) } ∷ [];
}

-- the process that decrypts with key i, and encrypts with key j; its variables are v and the one behind it
abbrev pub pass : ℕ → ℕ → ℕ → Process
pass i j v =
    Replication (Input (Leaf (Free 1)) (Leaf (Bind v))
    (Let (Leaf (Bind (v + 1))) (decrypted (Leaf (Variable v)) (key_name i))
    (Output (Leaf (Free 1)) (encrypted (Leaf (Variable (v + 1))) (key_name j)) Nil) Nil))

-- the processes of the ring of n for key i and so many behind it; v is their first variable
abbrev pub passes : ℕ → ℕ → ℕ → ℕ → Process
passes n i v zero = pass i (successor n i) v
passes n i v (suc more) = Parallel (pass i (successor n i) v) (passes n (i + 1) (v + 2) more)

-- the ring of n keys, which are one at least
abbrev pub ring_protocol : ℕ → Protocol
ring_protocol n = record {
  frees = free_name (codes "c") true ∷ free_name (codes "s") false ∷ keys 1 n;
  constructors = encryption ∷ [];
  destructors = decryption ∷ [];
  events = [];
  tables = [];
  queries = Secret (Leaf (Free 2)) 0 ∷ [];
  main = Parallel (Output (Leaf (Free 1)) (encrypted (Leaf (Free 2)) (key_name 1)) Nil) (passes n 1 1 (n - 1));
}
