-- What is found in a list with one item more.
use Rattle.std.proofs.Common.{◌≡◌, ℕ, ◌+◌, Bool, true, false, if◌then◌else◌, List, [], ◌∷◌, ◌++◌, length, Option, Some, None, option_map, bytes_eq, refl, ap, ◌∙◌, arith}
use Rattle.spec_protocol_scope.specs.Names.{find_from}

-- nothing where there is none
pub none_some : {A : Type 0} {x : A} → Some x ≡ None → ⊥
none_some h = cc

-- one item more, of another word
pub missed : {X : Type 0} (word_of : X → List ℕ) (number : ℕ) (xs : List X) (x : X) (word : List ℕ) → bytes_eq (word_of x) word ≡ false
    → find_from word_of number (xs ++ x ∷ []) word ≡ find_from word_of number xs word
missed word_of number [] x word e = ap (λ b. if b then Some (number, x) else None) e
missed word_of number (y ∷ ys) x word e = ap (λ found. if bytes_eq (word_of y) word then Some (number, y) else found) (missed word_of (number + 1) ys x word e)

passed : {X : Type 0} (b : Bool) (y : X) (rest : Option X) → (if b then Some y else rest) ≡ None → (b ≡ false) × (rest ≡ None)
passed true y rest h = absurd (none_some h)
passed false y rest h = (refl, h)

-- one item more, of this word, which none had
pub hit : {X : Type 0} (word_of : X → List ℕ) (number : ℕ) (xs : List X) (x : X) (word : List ℕ) → bytes_eq (word_of x) word ≡ true
    → find_from word_of number xs word ≡ None → find_from word_of number (xs ++ x ∷ []) word ≡ Some (number + length xs, x)
hit word_of number [] x word e none = ap (λ b. if b then Some (number, x) else None) e ∙ ap (λ (n : ℕ). Some (n, x)) (omega arith)
hit word_of number (y ∷ ys) x word e none =
    let p = passed (bytes_eq (word_of y) word) (number, y) (find_from word_of (number + 1) ys word) none in
    ap (λ b. if b then Some (number, y) else find_from word_of (number + 1) (ys ++ x ∷ []) word) p.0
    ∙ (hit word_of (number + 1) ys x word e p.1 ∙ ap (λ (n : ℕ). Some (n, x)) (omega arith))

-- nothing is made of nothing
pub unmapped : {A B : Type 0} (f : A → B) (o : Option A) → option_map f o ≡ None → o ≡ None
unmapped f None h = refl
unmapped f (Some x) h = absurd (none_some h)
