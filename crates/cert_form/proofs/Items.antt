-- The items of a text are put one by one.
use Rattle.std.proofs.Common.{◌≡◌, ℕ, zero, suc, ◌+◌, ◌<◌, ◌≤◌, List, [], ◌∷◌, ◌++◌, length, map, drop, get_or, refl, sym, ◌∙◌, ap, subst, arith, add-one}
use Rattle.std.proofs.lemmas.List.{append-nil}
use Rattle.cert_form.specs.Appends.{Appends}
use Rattle.cert_form.specs.Remaining.{HasPut}

-- one text behind the other
pub then : (f g : List ℕ → List ℕ) (a b c : List ℕ) → Appends f a b → Appends g b c → Appends (λ rest. f (g rest)) a c
then f g a b c first second = record { is = λ rest. second.is rest ∙ first.is (g rest) }

-- no text
pub nothing : (a : List ℕ) → Appends (λ rest. rest) a a
nothing a = record { is = λ rest. refl }

-- what was put stands at the end
pub at_end : (f : List ℕ → List ℕ) (a b : List ℕ) → Appends f a b → b ≡ a ++ f []
at_end f a b put = sym (append-nil b) ∙ put.is []

-- the item of that place is the first of those from there on
from_item : {A X : Type 0} (f : A → X) (items : List A) (n : ℕ) (x : A) → n < length items → x ≡ get_or items n x → drop n (map f items) ≡ f x ∷ drop (suc n) (map f items)
from_item f [] n x below is = absurd (omega arith)
from_item f (y ∷ ys) zero x below is = ap (λ z. f z ∷ map f ys) (sym is)
from_item f (y ∷ ys) (suc n) x below is = from_item f ys n x (omega arith) is

past_items : {A X : Type 0} (f : A → X) (items : List A) (n : ℕ) → length items ≤ n → drop n (map f items) ≡ []
past_items f [] zero past = refl
past_items f [] (suc n) past = refl
past_items f (y ∷ ys) zero past = absurd (omega arith)
past_items f (y ∷ ys) (suc n) past = past_items f ys n (omega arith)

-- the text from a place on is that of the item there, and then the text from the next place on
pub record GoesOn {X : Type 0} (from : ℕ → List X → List ℕ → List ℕ) (text : ℕ → X → List ℕ → List ℕ) : Type 0 where
  pub is : (n : ℕ) (x : X) (xs : List X) (rest : List ℕ) → from n (x ∷ xs) rest ≡ text n x (from (suc n) xs rest)

-- one more item was put
pub one_more : {A X : Type 0} (f : A → X) (from : ℕ → List X → List ℕ → List ℕ) (text : ℕ → X → List ℕ → List ℕ) → GoesOn from text → (xs : List X) (items : List A) (n : ℕ) (x : A) (start before after : List ℕ) → map f items ≡ xs → HasPut from n xs start before → n < length items → x ≡ get_or items n x → Appends (text n (f x)) before after → HasPut from (n + 1) xs start after
one_more f from text goes_on xs items n x start before after are has below is put = subst (λ m. HasPut from m xs start after) (sym (add-one n)) record {
  is = λ rest.
      let later = from (suc n) (drop (suc n) xs) rest in
      let rest_is : drop n xs ≡ f x ∷ drop (suc n) xs = subst (λ ys. drop n ys ≡ f x ∷ drop (suc n) ys) are (from_item f items n x below is) in
      let split : from n (drop n xs) rest ≡ text n (f x) later = ap (λ ys. from n ys rest) rest_is ∙ goes_on.is n (f x) (drop (suc n) xs) rest in
      put.is later ∙ (ap (λ bytes. before ++ bytes) (sym split) ∙ has.is rest);
}

-- all items were put, and what stands behind so many of them
pub all_put : {A X : Type 0} (f : A → X) (from : ℕ → List X → List ℕ → List ℕ) (end : ℕ → List ℕ → List ℕ) → ((n : ℕ) (rest : List ℕ) → from n [] rest ≡ end n rest) → (xs : List X) (items : List A) (n : ℕ) (start listed after : List ℕ) → map f items ≡ xs → HasPut from n xs start listed → length items ≤ n → Appends (end n) listed after → Appends (from 0 xs) start after
all_put f from end ends xs items n start listed after are has past put = record {
  is = λ rest.
      let none_left : drop n xs ≡ [] = subst (λ ys. drop n ys ≡ []) are (past_items f items n past) in
      let split : from n (drop n xs) rest ≡ end n rest = ap (λ ys. from n ys rest) none_left ∙ ends n rest in
      put.is rest ∙ (ap (λ bytes. listed ++ bytes) (sym split) ∙ has.is rest);
}
