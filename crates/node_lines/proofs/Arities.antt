-- How many numbers a symbol may stand over.
use Rattle.std.proofs.Common.{◌≡◌, ℕ, ◌<◌, ◌^◌, true, arith}
use Rattle.std.proofs.lemmas.Bool.Decides.{nat_tests}
use Rattle.spec_terms.specs.Term.{Sym, Ctor, Data, Tuple, Free, Point, Attacker}
use Rattle.spec_node_reading.specs.ReadNodes.{may_take}

few : (s : Sym) (arity parts : ℕ) → may_take s arity parts ≡ true → arity < 2 ^ 32 → parts < 2 ^ 32
few (Ctor f) arity parts e small = let same : parts ≡ arity = grind (arith, nat_tests) in omega (arith, same, small)
few (Data f) arity parts e small = let same : parts ≡ arity = grind (arith, nat_tests) in omega (arith, same, small)
few (Tuple n) arity parts e small = grind (arith, nat_tests)
few (Free a) arity parts e small = let same : parts ≡ arity = grind (arith, nat_tests) in omega (arith, same, small)
few (Point p) arity parts e small = let same : parts ≡ arity = grind (arith, nat_tests) in omega (arith, same, small)
few Attacker arity parts e small = let same : parts ≡ arity = grind (arith, nat_tests) in omega (arith, same, small)

pub few_parts : (s : Sym) (arity parts : ℕ) → may_take s arity parts ≡ true → arity < 2 ^ 32 → parts < 2 ^ 32
few_parts s arity parts e small = few s arity parts e small

pub ruleset arities = (few_parts)
