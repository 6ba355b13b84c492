-- What is hashed of a shape: its head, and its arguments without their count.
use Rattle.std.specs.Prelude.{◌≡◌, ◌++◌, true, List, [], ◌∷◌}
use Rattle.std.proofs.Common.{true≢false, refl, sym}
use Rattle.std.specs.Hash.{HashWrites}
use Rattle.std.specs.List.{flat_map}
use Rattle.std.specs.Cmp.{first_so, second_so}
use Rattle.std.specs.Cmp.Lexicographic.{pointwise}
use Rattle.term_tree.specs.contracts.bank.IdPartialEq.TheImpl as id_eq
use Rattle.term_tree.specs.contracts.bank.IdHash.TheImpl as id_hash
use Rattle.term_tree.specs.contracts.bank.IdHash.TheImpl.Laws as id_law
use Rattle.term_tree.specs.declared.bank.Id.{Id}
use Rattle.term_store.specs.contracts.shape.HeadPartialEq.TheImpl as head_eq
use Rattle.term_store.specs.contracts.shape.HeadHash.TheImpl as head_hash
use Rattle.term_store.specs.contracts.shape.HeadHash.TheImpl.Laws as head_law
use Rattle.term_store.specs.declared.shape.Shape.{Shape}
use Rattle.term_store.specs.Shapes.{same_shape}

-- what is hashed of a shape
abbrev pub hashed : Shape → HashWrites
hashed s = (head_hash.ghosts).hash_input s.head ++ flat_map (id_hash.ghosts).hash_input s.args.items

-- equal arguments are hashed alike
args_alike : (xs ys : List Id) → pointwise (id_eq.ghosts).eq xs ys ≡ true → flat_map (id_hash.ghosts).hash_input xs ≡ flat_map (id_hash.ghosts).hash_input ys
args_alike [] [] e = refl
args_alike [] (y ∷ ys) e = absurd (true≢false (sym e))
args_alike (x ∷ xs) [] e = absurd (true≢false (sym e))
args_alike (x ∷ xs) (y ∷ ys) e =
    let first = id_law.respects_eq-law x y (first_so ((id_eq.ghosts).eq x y) (pointwise (id_eq.ghosts).eq xs ys) e) in
    let others = args_alike xs ys (second_so ((id_eq.ghosts).eq x y) (pointwise (id_eq.ghosts).eq xs ys) e) in
    λ i. first i ++ others i

-- equal shapes are hashed alike
pub hashed_alike : (x y : Shape) → same_shape x y ≡ true → hashed x ≡ hashed y
hashed_alike x y e =
    let heads = head_law.respects_eq-law x.head y.head (first_so ((head_eq.ghosts).eq x.head y.head) (pointwise (id_eq.ghosts).eq x.args.items y.args.items) e) in
    let args = args_alike x.args.items y.args.items (second_so ((head_eq.ghosts).eq x.head y.head) (pointwise (id_eq.ghosts).eq x.args.items y.args.items) e) in
    λ i. heads i ++ args i
