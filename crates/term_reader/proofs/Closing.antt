-- Arguments end.
use Rattle.std.proofs.Common.{◌≡◌, ℕ, ◌<◌, ◌^◌, true, List, [], ◌∷◌, refl, arith}
use Rattle.std.proofs.lemmas.Bool.Decides.{nat_tests}
use Rattle.spec_terms.specs.Term.{Sym, Ctor, Data, Tuple, Free, Point, Attacker, Term}
use Rattle.spec_certificate_text.specs.Steps.{has_arity, may_be_empty}

few_parts : (s : Sym) (arity parts : ℕ) → has_arity s arity parts ≡ true → arity < 2 ^ 32 → parts < 2 ^ 32
few_parts (Ctor f) arity parts e small = let same : parts ≡ arity = grind (arith, nat_tests) in omega (arith, same, small)
few_parts (Data f) arity parts e small = let same : parts ≡ arity = grind (arith, nat_tests) in omega (arith, same, small)
few_parts (Tuple n) arity parts e small = grind (arith, nat_tests)
few_parts (Free a) arity parts e small = let same : parts ≡ arity = grind (arith, nat_tests) in omega (arith, same, small)
few_parts (Point p) arity parts e small = let same : parts ≡ arity = grind (arith, nat_tests) in omega (arith, same, small)
few_parts Attacker arity parts e small = let same : parts ≡ arity = grind (arith, nat_tests) in omega (arith, same, small)

pub few_arguments : (s : Sym) (arity parts : ℕ) → has_arity s arity parts ≡ true → arity < 2 ^ 32 → parts < 2 ^ 32
few_arguments s arity parts e small = few_parts s arity parts e small

pub no_arguments : (s : Sym) (ts : List Term) → may_be_empty s ts ≡ true → ts ≡ []
no_arguments (Point p) [] e = refl
no_arguments (Point p) (t ∷ ts) e = absurd (cc)
no_arguments (Ctor f) ts e = absurd (cc)
no_arguments (Data f) ts e = absurd (cc)
no_arguments (Tuple n) ts e = absurd (cc)
no_arguments (Free a) ts e = absurd (cc)
no_arguments Attacker ts e = absurd (cc)

pub ruleset closing = (few_arguments, no_arguments)
