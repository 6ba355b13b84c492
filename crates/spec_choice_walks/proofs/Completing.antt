-- Completions of an expression's parts are its choices.
use Rattle.std.proofs.Common.{◌≡◌, ◌∙◌, ℕ, ◌+◌, ◌-◌, List, [], ◌∷◌, ◌++◌, length, map, take, drop, refl, ap, sym, arith}
use Rattle.std.specs.List.{AllByRecursion, flat_map, enumerate_from}
use Rattle.std.proofs.lemmas.List.{append_assoc, append-nil, length-append}
use Rattle.std.proofs.lemmas.List.Folds.{flat_map-map}
use Rattle.std.proofs.lemmas.Grind.{flat_map-append}
use Rattle.spec_trees.specs.Tree.{Trees, Leaf, Node, none, more, trees, items_of, node}
use Rattle.spec_trees.proofs.Rows.{trees-items_of}
use Rattle.spec_calculus.specs.Syntax.{Term, Head, Builds, Calls, Expression, Rule, Ruled, Protocol}
use Rattle.spec_calculus.specs.Matching.{rules_of}
use Rattle.spec_calculus.specs.Choices.{Choice, Choices, choices, row_choices, built_choice, called_choice, joined_choice}
use Rattle.spec_calculus.proofs.Items.{each-append}
use Rattle.spec_choice_walks.specs.Instructions.{Instruction, Apply, instructions, row_instructions, joined_last, completions}

-- lists of lists in a row
flat_map_twice : {A B C : Type 0} (g : B → List C) (f : A → List B) (xs : List A) → flat_map g (flat_map f xs) ≡ flat_map (λ x. flat_map g (f x)) xs
flat_map_twice g f [] = refl
flat_map_twice g f (x ∷ xs) = flat_map-append g (f x) (flat_map f xs) ∙ ap (λ ys. flat_map g (f x) ++ ys) (flat_map_twice g f xs)

flat_map_same : {A B : Type 0} (f g : A → List B) (xs : List A) → AllByRecursion (λ x. f x ≡ g x) xs → flat_map f xs ≡ flat_map g xs
flat_map_same f g [] same = refl
flat_map_same f g (x ∷ xs) same = let first = same.0 in let others = flat_map_same f g xs same.1 in λ i. first i ++ others i

of_each : {A : Type 0} (Q : A → Type 0) → ((x : A) → Q x) → (xs : List A) → AllByRecursion Q xs
of_each Q all [] = tt
of_each Q all (x ∷ xs) = (all x, of_each Q all xs)

all_weaker : {A : Type 0} (Q R : A → Type 0) → ((x : A) → Q x → R x) → (xs : List A) → AllByRecursion Q xs → AllByRecursion R xs
all_weaker Q R gives [] h = tt
all_weaker Q R gives (x ∷ xs) h = (gives x h.0, all_weaker Q R gives xs h.1)

all_map : {A B : Type 0} (Q : B → Type 0) (f : A → B) (xs : List A) → AllByRecursion (λ x. Q (f x)) xs → AllByRecursion Q (map f xs)
all_map Q f [] h = tt
all_map Q f (x ∷ xs) h = (h.0, all_map Q f xs h.1)

all_flat_map : {A B : Type 0} (Q : B → Type 0) (f : A → List B) (xs : List A) → AllByRecursion (λ x. AllByRecursion Q (f x)) xs → AllByRecursion Q (flat_map f xs)
all_flat_map Q f [] h = tt
all_flat_map Q f (x ∷ xs) h = each-append Q (f x) (flat_map f xs) h.0 (all_flat_map Q f xs h.1)

flat_map_numbered : {A B : Type 0} (f : A → List B) (n : ℕ) (xs : List A) → flat_map (λ p. f p.1) (enumerate_from n xs) ≡ flat_map f xs
flat_map_numbered f n [] = refl
flat_map_numbered f n (x ∷ xs) = ap (λ ys. f x ++ ys) (flat_map_numbered f (n + 1) xs)

-- the row of a choice has as many parts as the row that it is a choice for
abbrev AsLong : Trees Term (Head ℕ) → Choices → Type 0
AsLong parts c = length (items_of c.ruled) ≡ length (items_of parts)

row_as_long : (P : Protocol) (parts : Trees Term (Head ℕ)) → AllByRecursion (AsLong parts) (row_choices P parts)
row_as_long P none = (refl, tt)
row_as_long P (more part parts) =
    all_flat_map (AsLong (more part parts)) (λ first. map (joined_choice first) (row_choices P parts)) (choices P part)
    (of_each (λ (first : Choice). AllByRecursion (AsLong (more part parts)) (map (joined_choice first) (row_choices P parts)))
    (λ first. all_map (AsLong (more part parts)) (joined_choice first) (row_choices P parts) (all_weaker (AsLong parts) (λ (c : Choices). AsLong (more part parts) (joined_choice first c)) (λ c e. omega (arith, e)) (row_choices P parts) (row_as_long P parts)))
    (choices P part))

pub take_first : {A : Type 0} (xs ys : List A) → take (length xs) (xs ++ ys) ≡ xs
take_first [] ys = refl
take_first (x ∷ xs) ys = ap (λ zs. x ∷ zs) (take_first xs ys)

drop_first : {A : Type 0} (xs ys : List A) → drop (length xs) (xs ++ ys) ≡ ys
drop_first [] ys = refl
drop_first (x ∷ xs) ys = drop_first xs ys

-- the root over exactly the last parts of a row
pub joined_behind : (head : Head Rule) (count : ℕ) (row : List Ruled) (parts : Trees Term (Head Rule)) → length (items_of parts) ≡ count → joined_last head count (row ++ items_of parts) ≡ row ++ Node head parts ∷ []
joined_behind head count row parts e =
    let before : length (row ++ items_of parts) - count ≡ length row = omega (arith, e, length-append row (items_of parts)) in
    ap (λ n. take n (row ++ items_of parts) ++ node head (drop n (row ++ items_of parts)) ∷ []) before
    ∙ (λ i. take_first row (items_of parts) i ++ Node head ((ap trees (drop_first row (items_of parts)) ∙ trees-items_of parts) i) ∷ [])

module _ (P : Protocol) where
  mutual
    pub completed : (e : Expression) (parts : List Instruction) (row : List Ruled) → completions P (instructions e ++ parts) row ≡ flat_map (λ c. completions P parts (row ++ c.ruled ∷ [])) (choices P e)
    completed (Leaf term) parts row = sym (append-nil (completions P parts (row ++ Leaf term ∷ [])))
    completed (Node (Builds f) es) parts row =
        let n = length (items_of es) in
        ap (λ ps. completions P ps row) (append_assoc (row_instructions es) (Apply (Builds f) n ∷ []) parts)
        ∙ (row_completed es (Apply (Builds f) n ∷ parts) row
        ∙ (flat_map_same (λ c. completions P parts (joined_last (Builds f) n (row ++ items_of c.ruled))) (λ c. completions P parts (row ++ Node (Builds f) c.ruled ∷ [])) (row_choices P es)
        (all_weaker (AsLong es) (λ (c : Choices). completions P parts (joined_last (Builds f) n (row ++ items_of c.ruled)) ≡ completions P parts (row ++ Node (Builds f) c.ruled ∷ [])) (λ c e. ap (completions P parts) (joined_behind (Builds f) n row c.ruled e)) (row_choices P es) (row_as_long P es))
        ∙ sym (flat_map-map (λ (c : Choice). completions P parts (row ++ c.ruled ∷ [])) (built_choice f) (row_choices P es))))
    completed (Node (Calls d) es) parts row =
        let n = length (items_of es) in
        let rules = rules_of P d in
        let goes : Choice → List Ruled = λ c. completions P parts (row ++ c.ruled ∷ []) in
        ap (λ ps. completions P ps row) (append_assoc (row_instructions es) (Apply (Calls d) n ∷ []) parts)
        ∙ (row_completed es (Apply (Calls d) n ∷ parts) row
        ∙ (flat_map_same (λ c. flat_map (λ rule. completions P parts (joined_last (Calls rule) n (row ++ items_of c.ruled))) rules) (λ c. flat_map goes (map (called_choice c) (enumerate_from 1 rules))) (row_choices P es)
        (all_weaker (AsLong es) (λ (c : Choices). flat_map (λ rule. completions P parts (joined_last (Calls rule) n (row ++ items_of c.ruled))) rules ≡ flat_map goes (map (called_choice c) (enumerate_from 1 rules)))
        (λ c e. flat_map_same (λ rule. completions P parts (joined_last (Calls rule) n (row ++ items_of c.ruled))) (λ rule. completions P parts (row ++ Node (Calls rule) c.ruled ∷ [])) rules
        (of_each (λ (rule : Rule). completions P parts (joined_last (Calls rule) n (row ++ items_of c.ruled)) ≡ completions P parts (row ++ Node (Calls rule) c.ruled ∷ [])) (λ rule. ap (completions P parts) (joined_behind (Calls rule) n row c.ruled e)) rules)
        ∙ (sym (flat_map_numbered (λ rule. completions P parts (row ++ Node (Calls rule) c.ruled ∷ [])) 1 rules)
        ∙ sym (flat_map-map goes (called_choice c) (enumerate_from 1 rules))))
        (row_choices P es) (row_as_long P es))
        ∙ sym (flat_map_twice goes (λ c. map (called_choice c) (enumerate_from 1 rules)) (row_choices P es))))

    row_completed : (es : Trees Term (Head ℕ)) (parts : List Instruction) (row : List Ruled) → completions P (row_instructions es ++ parts) row ≡ flat_map (λ c. completions P parts (row ++ items_of c.ruled)) (row_choices P es)
    row_completed none parts row = ap (completions P parts) (sym (append-nil row)) ∙ sym (append-nil (completions P parts (row ++ [])))
    row_completed (more e es) parts row =
        let goes : Choices → List Ruled = λ c. completions P parts (row ++ items_of c.ruled) in
        ap (λ ps. completions P ps row) (append_assoc (instructions e) (row_instructions es) parts)
        ∙ (completed e (row_instructions es ++ parts) row
        ∙ (flat_map_same (λ first. completions P (row_instructions es ++ parts) (row ++ first.ruled ∷ [])) (λ first. flat_map goes (map (joined_choice first) (row_choices P es))) (choices P e)
        (of_each (λ (first : Choice). completions P (row_instructions es ++ parts) (row ++ first.ruled ∷ []) ≡ flat_map goes (map (joined_choice first) (row_choices P es)))
        (λ first. row_completed es parts (row ++ first.ruled ∷ [])
        ∙ (flat_map_same (λ c. completions P parts ((row ++ first.ruled ∷ []) ++ items_of c.ruled)) (λ c. completions P parts (row ++ first.ruled ∷ items_of c.ruled)) (row_choices P es)
        (of_each (λ (c : Choices). completions P parts ((row ++ first.ruled ∷ []) ++ items_of c.ruled) ≡ completions P parts (row ++ first.ruled ∷ items_of c.ruled)) (λ c. ap (completions P parts) (append_assoc row (first.ruled ∷ []) (items_of c.ruled))) (row_choices P es))
        ∙ sym (flat_map-map goes (joined_choice first) (row_choices P es))))
        (choices P e))
        ∙ sym (flat_map_twice goes (λ first. map (joined_choice first) (row_choices P es)) (choices P e))))

-- the choices of a whole expression
pub all_completed : (P : Protocol) (e : Expression) → completions P (instructions e) [] ≡ map (λ c. c.ruled) (choices P e)
all_completed P e =
    ap (λ ps. completions P ps []) (sym (append-nil (instructions e))) ∙ (completed P e [] [] ∙ singles (choices P e)) where
      singles : (cs : List Choice) → flat_map (λ c. c.ruled ∷ []) cs ≡ map (λ c. c.ruled) cs
      singles [] = refl
      singles (c ∷ cs) = ap (λ rs. c.ruled ∷ rs) (singles cs)
