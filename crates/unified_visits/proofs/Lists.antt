-- Lists as loops go through them.
use Rattle.std.proofs.Common.{◌≡◌, ℕ, zero, suc, ◌+◌, ◌<◌, Bool, true, false, ◌||◌, Option, Some, None, List, [], ◌∷◌, length, map, take, get_or, refl, sym, subst, arith}
use Rattle.std.specs.Prelude.{MatchOption}
use Rattle.std.specs.List.{AllByRecursion, list_any}
use Rattle.std.proofs.lemmas.List.{take_more}
use Rattle.spec_clauses.proofs.Lists.{all_append, all_weaker}

-- the branches of an answer that may be none
pub none_of : {X : Type 0} (o : Option X) (A : Type 0) (B : X → Type 0) → o ≡ None → MatchOption o A B → A
none_of o A B e h = subst (λ x. MatchOption x A B) e h

pub some_of : {X : Type 0} (o : Option X) (x : X) (A : Type 0) (B : X → Type 0) → o ≡ Some x → MatchOption o A B → B x
some_of o x A B e h = subst (λ y. MatchOption y A B) e h

-- one more item for which something holds, which is weaker than what held of the others
pub all_on : {X : Type 0} (P Q : X → Type 0) (xs : List X) (i : ℕ) (d : X) → i < length xs → ((x : X) → P x → Q x) → AllByRecursion P (take i xs) → Q (get_or xs i d) → AllByRecursion Q (take (i + 1) xs)
all_on P Q xs i d within weaker before here =
    subst (λ l. AllByRecursion Q l) (sym (take_more xs i d within)) (all_append Q (take i xs) (get_or xs i d ∷ []) (all_weaker P Q weaker (take i xs) before) (here, tt))

-- an item passes the test
or_second : (a b : Bool) → b ≡ true → (a || b) ≡ true
or_second true b e = refl
or_second false b e = e

pub any_at : {X Y : Type 0} (test : Y → Bool) (f : X → Y) (xs : List X) (i : ℕ) (d : X) → i < length xs → test (f (get_or xs i d)) ≡ true → list_any test (map f xs) ≡ true
any_at test f [] i d within e = absurd (omega arith)
any_at test f (x ∷ xs) zero d within e = rw e refl
any_at test f (x ∷ xs) (suc i) d within e = or_second (test (f x)) (list_any test (map f xs)) (any_at test f xs i d (omega arith) e)

-- what holds of all holds of the one at a place
pub all_at : {X : Type 0} (Q : X → Type 0) (xs : List X) (i : ℕ) (d : X) → AllByRecursion Q xs → i < length xs → Q (get_or xs i d)
all_at Q [] i d h within = absurd (omega arith)
all_at Q (x ∷ xs) zero d h within = h.0
all_at Q (x ∷ xs) (suc i) d h within = all_at Q xs i d h.1 (omega arith)
