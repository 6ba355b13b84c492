-- Tables whose keys are texts.
use Rattle.std.proofs.Common.{◌≡◌, ℕ, Bool, true, false, cond, List, Option, bytes_eq, refl, sym, ap, ◌∙◌}
use Rattle.std.specs.Cmp.Lexicographic.{bytes_decides}
use Rattle.std.specs.Global.{Vec}
use Rattle.std.specs.HashMap.{HashMap, get_by, UpdatesBy}
use Rattle.std.specs.Map.{KeepsOthers}
use Rattle.std.proofs.lemmas.Bool.{false≢true}

same_key : (text : List ℕ) (x y : Vec ℕ) → bytes_eq text x.items ≡ true → bytes_eq text y.items ≡ bytes_eq x.items y.items
same_key text x y e = ap (λ (t : List ℕ). bytes_eq t y.items) ((bytes_decides text x.items).0 e)

apart_key : (text other : List ℕ) (k : Vec ℕ) → bytes_eq text other ≡ false → bytes_eq text k.items ≡ true → (b : Bool) → bytes_eq other k.items ≡ b → b ≡ false
apart_key text other k differ e false is = refl
apart_key text other k differ e true is =
    absurd (let same : text ≡ other = (bytes_decides text k.items).0 e ∙ sym ((bytes_decides other k.items).0 is) in false≢true (sym differ ∙ (bytes_decides text other).1 same))

-- what the table has at each text, after one text's entry changed
pub updates_text : {X S : Type 0} (text : List ℕ) (old new : HashMap (Vec ℕ) X S) (value : Option X)
    → UpdatesBy (λ x y. bytes_eq x.items y.items) (λ k. bytes_eq text k.items) old new value
    → (other : List ℕ) → get_by (λ k. bytes_eq other k.items) new ≡ cond (bytes_eq text other) value (get_by (λ k. bytes_eq other k.items) old)
unfolding KeepsOthers
updates_text text old new value put other = by_test (bytes_eq text other) refl
  where
    by_test : (b : Bool) → bytes_eq text other ≡ b → get_by (λ k. bytes_eq other k.items) new ≡ cond b value (get_by (λ k. bytes_eq other k.items) old)
    by_test true e = ap (λ (t : List ℕ). get_by (λ k. bytes_eq t k.items) new) (sym ((bytes_decides text other).0 e)) ∙ put.1
    by_test false e =
        put.3 (λ k. bytes_eq other k.items) (λ x y h. same_key other x y h)
        (λ k h. apart_key text other k e h (bytes_eq other k.items) refl)
