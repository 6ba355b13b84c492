-- Two shapes are equal by `==` exactly where they show the same root.
use Rattle.std.proofs.Common.{◌≡◌, Bool, true, ◌&&◌, Decides, List, [], ap, refl, sym, ◌∙◌, subst, rules}
use Rattle.std.specs.Cmp.{first_so, second_so}
use Rattle.std.specs.Cmp.Lexicographic.{pointwise, pointwise_decides}
use Rattle.spec_terms.specs.Term.{Term}
use Rattle.term_tree.specs.Bank.{IsNodeOf}
use Rattle.term_tree.specs.Roots.{Root, Variable, Applied, tree_of, HasArgs}
use Rattle.term_tree.specs.declared.bank.Id.{Id}
use Rattle.term_tree.specs.declared.bank.Node.{Node}
use Rattle.term_tree.specs.declared.bank.Node.TheVariants as shown
use Rattle.term_tree.specs.declared.bank.Sym.{Sym}
use Rattle.term_tree.specs.declared.bank.Sym.TheVariants as symbol
use Rattle.term_tree.specs.contracts.bank.IdPartialEq.TheImpl as id_eq
use Rattle.term_store.specs.contracts.shape.HeadPartialEq.TheImpl as head_eq
use Rattle.term_store.specs.declared.shape.Head.{Head}
use Rattle.term_store.specs.declared.shape.Head.TheVariants.{Ctor, Data, Tuple, Free, Point, Attacker, Var}
use Rattle.term_store.specs.declared.shape.Shape.{Shape}
use Rattle.term_store.specs.Shapes.{node_root, root_over, root_of, IsPlainOver, IsPlain, same_shape}

heads_decided : (f g : Head) → Decides ((head_eq.ghosts).eq f g) (f ≡ g)
heads_decided f g = search rules

ids_decided : (a b : Id) → Decides ((id_eq.ghosts).eq a b) (a ≡ b)
ids_decided a b = search rules

both_so : (s t : Bool) → s ≡ true → t ≡ true → (s && t) ≡ true
both_so s t h k = cc

same_parts : (x y : Shape) → same_shape x y ≡ true → (x.head ≡ y.head) × (x.args.items ≡ y.args.items)
same_parts x y e = (
  (heads_decided x.head y.head).0 (first_so ((head_eq.ghosts).eq x.head y.head) (pointwise (id_eq.ghosts).eq x.args.items y.args.items) e),
  (pointwise_decides ids_decided x.args.items y.args.items).0 (second_so ((head_eq.ghosts).eq x.head y.head) (pointwise (id_eq.ghosts).eq x.args.items y.args.items) e),
)

pub root_of-same : (x y : Shape) → same_shape x y ≡ true → root_of x ≡ root_of y
root_of-same x y e =
    let (heads, args) = same_parts x y e in
    λ i. root_over (heads i) (args i)

-- a root tells the head and, where a variable has none, the arguments

abbrev head_of_symbol : Sym → Head
head_of_symbol (symbol.Ctor f) = Ctor f
head_of_symbol (symbol.Data f) = Data f
head_of_symbol (symbol.Tuple n) = Tuple n
head_of_symbol (symbol.Free a) = Free a
head_of_symbol (symbol.Point p) = Point p
head_of_symbol symbol.Attacker = Attacker

abbrev head_of : Root → Head
head_of (Variable x) = Var x
head_of (Applied f args) = head_of_symbol f

abbrev args_of : Root → List Id
args_of (Variable x) = []
args_of (Applied f args) = args

head_back : (h : Head) (args : List Id) → head_of (root_over h args) ≡ h
head_back (Ctor f) args = refl
head_back (Data f) args = refl
head_back (Tuple n) args = refl
head_back (Free a) args = refl
head_back (Point p) args = refl
head_back Attacker args = refl
head_back (Var x) args = refl

args_back : (h : Head) (args : List Id) → IsPlainOver h args → args_of (root_over h args) ≡ args
args_back (Ctor f) args plain = refl
args_back (Data f) args plain = refl
args_back (Tuple n) args plain = refl
args_back (Free a) args plain = refl
args_back (Point p) args plain = refl
args_back Attacker args plain = refl
args_back (Var x) args plain = sym plain

pub same_shape-root : (x y : Shape) → IsPlain x → IsPlain y → root_of x ≡ root_of y → same_shape x y ≡ true
same_shape-root x y plain_x plain_y e =
    let heads : x.head ≡ y.head = sym (head_back x.head x.args.items) ∙ (ap head_of e ∙ head_back y.head y.args.items) in
    let args : x.args.items ≡ y.args.items = sym (args_back x.head x.args.items plain_x) ∙ (ap args_of e ∙ args_back y.head y.args.items plain_y) in
    both_so ((head_eq.ghosts).eq x.head y.head) (pointwise (id_eq.ghosts).eq x.args.items y.args.items) ((heads_decided x.head y.head).1 heads) ((pointwise_decides ids_decided x.args.items y.args.items).1 args)

-- a shape that shows a symbol is no variable
pub plain_over : (h : Head) (xs : List Id) (f : Sym) (args : List Id) → root_over h xs ≡ Applied f args → IsPlainOver h xs
plain_over (Ctor g) xs f args e = tt
plain_over (Data g) xs f args e = tt
plain_over (Tuple n) xs f args e = tt
plain_over (Free a) xs f args e = tt
plain_over (Point p) xs f args e = tt
plain_over Attacker xs f args e = tt
plain_over (Var x) xs f args e = cc

-- a node that shows the root of a tree is that tree's
pub IsNodeOf-root : (all : List Term) (n : Node) (r : Root) (t : Term) → node_root n ≡ r → t ≡ tree_of all r → HasArgs all r → IsNodeOf all n t
IsNodeOf-root all (shown.Var x) r t e is args = is ∙ ap (tree_of all) (sym e)
IsNodeOf-root all (shown.App f xs) r t e is args = (is ∙ ap (tree_of all) (sym e), subst (HasArgs all) (sym e) args)
