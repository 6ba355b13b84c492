-- How contracts store what is said of certificates.
use Rattle.std.specs.Prelude.{◌≡◌, ℕ, zero, suc, List, Option, Some, None, refl}
use Rattle.std.specs.Coded.{Coded, code_by, coded_ℕ, coded_list}

abbrev in_parts : Option ℕ → ℕ
in_parts None = 0
in_parts (Some n) = suc n

abbrev of_parts : ℕ → Option ℕ
of_parts zero = None
of_parts (suc n) = Some n

pub of_parts-in_parts : (o : Option ℕ) → of_parts (in_parts o) ≡ o
of_parts-in_parts None = refl
of_parts-in_parts (Some n) = refl

abbrev pub coded_said : Coded (List (List (Option ℕ)))
coded_said = coded_list (coded_list (code_by ℕ coded_ℕ in_parts of_parts of_parts-in_parts))
