-- The terms of a process under a substitution of the visit, and what a substitution that another leads back from keeps.
use Rattle.std.proofs.Common.{◌≡◌, ◌∙◌, ℕ, Bool, true, false, cond, Option, Some, None, List, [], ◌∷◌, map, refl, ap, sym, arith}
use Rattle.std.specs.Prelude.{unwrap_or, option_map}
use Rattle.std.specs.List.{AllByRecursion}
use Rattle.spec_trees.specs.Tree.{Tree, Trees, Leaf, Node, none, more, bind, binds, trees, items_of, node, size}
use Rattle.spec_trees.proofs.Measures.{size-le-bind}
use Rattle.spec_trees.proofs.Rows.{items_of-trees}
use Rattle.spec_calculus.specs.Syntax.{Name, Made, Variable, Symbol, Condition, Protocol}
use Rattle.spec_calculus.specs.Syntax as calculus
use Rattle.spec_calculus.specs.Values.{same_name}
use Rattle.spec_terms.specs.Term.{Sym, Ctor, Data, Tuple, Free, Point, Attacker, Term, Subst}
use Rattle.spec_clauses.specs.Fact.{Fact, Att, Mess, fact_under, fact_size}
use Rattle.spec_clauses.specs.Variables.{leaves, row_leaves}
use Rattle.spec_clauses.proofs.Lists.{all_first, all_second}
use Rattle.spec_clauses.proofs.Variants.{variants_size}
use Rattle.spec_translation.specs.Conversion.{Scope, free_term, symbol_over, row_length, converted, converted_row, found_in, leaf_term, term_in}
use Rattle.spec_translation.specs.Visit.{standing_under, is_public_channel, sent}
use Rattle.spec_translation.specs.Choice.{left_of, right_of}

-- what is converted under a substitution is converted with each leaf under it
module _ (P : Protocol) {L : Type 0} where
  mutual
    pub converted-bind : {X Y : Type 0} (s : X → Tree Y Sym) (leaf : L → Tree X Sym) (t : Tree L Symbol) → bind s (converted P leaf t) ≡ converted P (λ x. bind s (leaf x)) t
    converted-bind s leaf (Leaf x) = refl
    converted-bind s leaf (Node f ts) = ap (Node (symbol_over P (row_length ts) f)) (converted_row-binds s leaf ts)

    pub converted_row-binds : {X Y : Type 0} (s : X → Tree Y Sym) (leaf : L → Tree X Sym) (ts : Trees L Symbol) → binds s (converted_row P leaf ts) ≡ converted_row P (λ x. bind s (leaf x)) ts
    converted_row-binds s leaf none = refl
    converted_row-binds s leaf (more t ts) =
        let first = converted-bind s leaf t in let others = converted_row-binds s leaf ts in λ i. more (first i) (others i)

  -- only what the leaves at hand stand for counts
  mutual
    pub converted-same : {X : Type 0} (f g : L → Tree X Sym) (t : Tree L Symbol) → AllByRecursion (λ x. f x ≡ g x) (leaves t) → converted P f t ≡ converted P g t
    converted-same f g (Leaf x) a = a.0
    converted-same f g (Node h ts) a = ap (Node (symbol_over P (row_length ts) h)) (converted_row-same f g ts a)

    pub converted_row-same : {X : Type 0} (f g : L → Tree X Sym) (ts : Trees L Symbol) → AllByRecursion (λ x. f x ≡ g x) (row_leaves ts) → converted_row P f ts ≡ converted_row P g ts
    converted_row-same f g none a = refl
    converted_row-same f g (more t ts) a =
        let first = converted-same f g t (all_first (λ x. f x ≡ g x) (leaves t) (row_leaves ts) a) in
        let others = converted_row-same f g ts (all_second (λ x. f x ≡ g x) (leaves t) (row_leaves ts) a) in λ i. more (first i) (others i)

-- a row is converted tree by tree
pub converted_row-trees : (P : Protocol) {L X : Type 0} (leaf : L → Tree X Sym) (ts : List (Tree L Symbol)) → converted_row P leaf (trees ts) ≡ trees (map (converted P leaf) ts)
converted_row-trees P leaf [] = refl
converted_row-trees P leaf (t ∷ ts) = ap (λ row. more (converted P leaf t) row) (converted_row-trees P leaf ts)

-- below the root of a tuple's term stand the terms of its parts
abbrev pub below_root : Term → List Term
below_root (Leaf x) = []
below_root (Node f ts) = items_of ts

pub below_tuple : (P : Protocol) {L : Type 0} (leaf : L → Term) (ts : List (Tree L Symbol)) → below_root (converted P leaf (node calculus.Tuple ts)) ≡ map (converted P leaf) ts
below_tuple P leaf ts = ap items_of (converted_row-trees P leaf ts) ∙ items_of-trees (map (converted P leaf) ts)

-- what a leaf stands for in a scope under a substitution
pub found_in-under : (s : Subst) (scope : Scope) (x : Name) → found_in (map (standing_under s) scope) x ≡ option_map (bind s) (found_in scope x)
found_in-under s [] x = refl
found_in-under s (b ∷ later) x = go (same_name b.name x) (found_in-under s later x) where
  go : (t : Bool) → found_in (map (standing_under s) later) x ≡ option_map (bind s) (found_in later x) → cond t (Some (bind s b.term)) (found_in (map (standing_under s) later) x) ≡ option_map (bind s) (cond t (Some b.term) (found_in later x))
  go true h = refl
  go false h = h

unwrapped : (s : Subst) (o : Option Term) → unwrap_or (option_map (bind s) o) (free_term 0) ≡ bind s (unwrap_or o (free_term 0))
unwrapped s None = refl
unwrapped s (Some t) = refl

pub leaf_term-under : (s : Subst) (scope : Scope) (x : Name) → leaf_term (map (standing_under s) scope) x ≡ bind s (leaf_term scope x)
leaf_term-under s scope (calculus.Free n) = refl
leaf_term-under s scope (Made p) = ap (λ o. unwrap_or o (free_term 0)) (found_in-under s scope (Made p)) ∙ unwrapped s (found_in scope (Made p))
leaf_term-under s scope (Variable n) = ap (λ o. unwrap_or o (free_term 0)) (found_in-under s scope (Variable n)) ∙ unwrapped s (found_in scope (Variable n))

pub term_in-under : (P : Protocol) (s : Subst) (scope : Scope) (t : calculus.Term) → term_in P (map (standing_under s) scope) t ≡ bind s (term_in P scope t)
term_in-under P s scope t = (λ i. converted P (λ x. leaf_term-under s scope x i) t) ∙ sym (converted-bind P s (leaf_term scope) t)

pub terms_in-under : (P : Protocol) (s : Subst) (scope : Scope) (ts : List calculus.Term) → map (term_in P (map (standing_under s) scope)) ts ≡ map (bind s) (map (term_in P scope) ts)
terms_in-under P s scope [] = refl
terms_in-under P s scope (t ∷ ts) =
    let first = term_in-under P s scope t in let others = terms_in-under P s scope ts in λ i. first i ∷ others i

-- a term that is led back is public alike, and of the same size
pub public-back : (P : Protocol) (s t : Subst) (c : Term) → bind t (bind s c) ≡ c → is_public_channel P (bind s c) ≡ is_public_channel P c
public-back P s t (Leaf x) e = go (s x) e where
  go : (u : Term) → bind t u ≡ Leaf x → is_public_channel P u ≡ false
  go (Leaf y) e = refl
  go (Node f args) e = cc
public-back P s t (Node (Free n) none) e = refl
public-back P s t (Node (Free n) (more u us)) e = refl
public-back P s t (Node (Ctor f) args) e = refl
public-back P s t (Node (Data f) args) e = refl
public-back P s t (Node (Tuple n) args) e = refl
public-back P s t (Node (Point p) args) e = refl
public-back P s t (Node Attacker args) e = refl

pub size-back : (s t : Subst) (c : Term) → bind t (bind s c) ≡ c → size (bind s c) ≡ size c
size-back s t c e =
    let up = size-le-bind s c in
    let down = size-le-bind t (bind s c) in
    let same : size (bind t (bind s c)) ≡ size c = ap size e in
    omega (arith, up, down, same)

pub fact_size-back : (s t : Subst) (h : Fact Term) → fact_under t (fact_under s h) ≡ h → fact_size (fact_under s h) ≡ fact_size h
fact_size-back s t h e =
    let same = variants_size (record { hypotheses = []; diffs = []; conclusion = h }) (record { hypotheses = []; diffs = []; conclusion = fact_under s h })
    (record { by = s; back = t; there = refl; again = λ i. record { hypotheses = []; diffs = []; conclusion = e i } }) in
    omega (arith, same)

-- a message under a substitution that keeps whether its channel is public
pub sent-under : (P : Protocol) (s : Subst) (phase : ℕ) (channel message : Term) → is_public_channel P (bind s channel) ≡ is_public_channel P channel → fact_under s (sent P phase channel message) ≡ sent P phase (bind s channel) (bind s message)
sent-under P s phase channel message e = rw e (go (is_public_channel P channel)) where
  go : (b : Bool) → fact_under s (cond b (Att phase message) (Mess phase channel message)) ≡ cond b (Att phase (bind s message)) (Mess phase (bind s channel) (bind s message))
  go true = refl
  go false = refl

-- and the terms of a condition
pub left_of-under : (P : Protocol) (s : Subst) (scope : Scope) (condition : Condition) → left_of P (map (standing_under s) scope) condition ≡ map (bind s) (left_of P scope condition)
left_of-under P s scope None = refl
left_of-under P s scope (Some (left, right)) = let e = term_in-under P s scope left in λ i. e i ∷ []

pub right_of-under : (P : Protocol) (s : Subst) (scope : Scope) (condition : Condition) → right_of P (map (standing_under s) scope) condition ≡ map (bind s) (right_of P scope condition)
right_of-under P s scope None = refl
right_of-under P s scope (Some (left, right)) = let e = term_in-under P s scope right in λ i. e i ∷ []
