-- Sources that are told one after another.
use Rattle.std.proofs.Common.{◌≡◌, List, ◌++◌, Result, Ok, Err, OnOk, subst}
use Rattle.std.specs.declared.alloc.AllocError.{AllocError}
use Rattle.spec_attack_runs.specs.Source.{Source}
use Rattle.spec_attack_runs.specs.Gathered.{Deed}
use Rattle.clause_sources.specs.Listed.{Tells}
use Rattle.clause_sources.proofs.Telling.{told_twice}

-- the same raw clauses, otherwise written
pub told_as : (a b : List Source) (xs ys : List Deed) → xs ≡ ys → Tells a b xs → Tells a b ys
told_as a b xs ys same tells = subst (λ (deeds : List Deed). Tells a b deeds) same tells

pub told_on : (a b c : List Source) (xs ys whole : List Deed) → Tells a b xs → Tells b c ys → xs ++ ys ≡ whole → Tells a c whole
told_on a b c xs ys whole first second e = told_as a c (xs ++ ys) whole e (told_twice a b c xs ys first second)

-- what is told last, if it is
pub last_told : (a b : List Source) (xs ys : List Deed) (r : Result (Unit {0}) AllocError) → xs ≡ ys → OnOk r (Tells a b xs) → OnOk r (Tells a b ys)
last_told a b xs ys (Ok done) same tells = told_as a b xs ys same tells
last_told a b xs ys (Err failed) same tells = tt

pub told_after : (a b c : List Source) (xs ys : List Deed) (r : Result (Unit {0}) AllocError) → Tells a b xs → OnOk r (Tells b c ys) → OnOk r (Tells a c (xs ++ ys))
told_after a b c xs ys (Ok done) first second = told_twice a b c xs ys first second
told_after a b c xs ys (Err failed) first second = tt
