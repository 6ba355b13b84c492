-- The words of variables are put.
use Rattle.std.proofs.Common.{◌≡◌, ℕ, ◌-◌, ◌<◌, ◌≤◌, List, ◌∷◌, ◌++◌, sym, ap, ◌∙◌}
use Rattle.std.specs.Prelude.{codes}
use Rattle.std.specs.Fmt.{decimal}
use Rattle.spec_certificate_text.specs.Sides.{first_bound, variable_word}
use Rattle.spec_certificate_text.proofs.Sides.{own_word, bound_word}
use Rattle.cert_form.specs.Appends.{Appends}

pub own_put : (x : ℕ) (a b c : List ℕ) → x < first_bound → Appends (λ rest. codes "v" ++ rest) a b → Appends (λ rest. decimal x ++ rest) b c → Appends (λ rest. variable_word x ++ rest) a c
own_put x a b c below first digits = record { is = λ rest. digits.is rest ∙ (first.is (decimal x ++ rest) ∙ ap (λ w. a ++ (w ++ rest)) (sym (own_word x below))) }

pub bound_put : (x i : ℕ) (a b c : List ℕ) → first_bound ≤ x → i ≡ x - first_bound → Appends (λ rest. codes "?" ++ rest) a b → Appends (λ rest. decimal i ++ rest) b c → Appends (λ rest. variable_word x ++ rest) a c
bound_put x i a b c over is first digits = record {
  is = λ rest. digits.is rest ∙ (first.is (decimal i ++ rest) ∙ ap (λ w. a ++ (w ++ rest)) (ap (λ n. 63 ∷ decimal n) is ∙ sym (bound_word x over)));
}
