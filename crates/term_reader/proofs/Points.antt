-- Names of restrictions by their points, and how many arguments they have.
use Rattle.std.proofs.Common.{◌≡◌, ◌≢◌, ℕ, zero, suc, ◌+◌, ◌-◌, ◌^◌, ◌<◌, ◌≤◌, nat_le, Bool, true, false, List, length, map, Some, None, option_and_then, option_map, refl, sym, ◌∙◌, ap, arith}
use Rattle.std.proofs.lemmas.Bool.Decides.{nat_tests}
use Rattle.std.proofs.lemmas.Option.{slice_get-map}
use Rattle.spec_calculus.specs.Syntax as calculus
use Rattle.spec_calculus.specs.Points.{numbered, nodes, name_arguments}
use Rattle.spec_calculus.proofs.Items.{numbered-past, of_map, of_some}
use Rattle.spec_terms.specs.Term.{Point}
use Rattle.pi_tree.specs.Accessors.{capped}
use Rattle.term_reader.specs.Few.{HasFewArguments}
use Rattle.spec_certificate_text.specs.Names.{Named, is_restriction_of, if_restriction, name_called}

pub past_nodes : (P : calculus.Protocol) (word : List ℕ) (point : ℕ) → length (nodes P.main) < point → None ≡ name_called P word point
past_nodes P word point past = sym (ap (option_and_then (λ node. if_restriction word point node (numbered (name_arguments 0 P.main) point))) (numbered-past (nodes P.main) point past))

pub no_point : (P : calculus.Protocol) (word : List ℕ) (point : ℕ) → point ≡ 0 → None ≡ name_called P word point
no_point P word zero e = refl
no_point P word (suc n) e = absurd (omega (arith, e))

pub named_at : (P : calculus.Protocol) (word : List ℕ) (point : ℕ) (node : calculus.Process) (n : ℕ) (named : Named) → numbered (nodes P.main) point ≡ Some node → numbered (name_arguments 0 P.main) point ≡ Some n → is_restriction_of word node ≡ true → named ≡ record { symbol = Point point; arity = n } → Some named ≡ name_called P word point
named_at P word point node n named there counted is same =
    sym (ap (option_and_then (λ m. if_restriction word point m (numbered (name_arguments 0 P.main) point))) there ∙ (ap (if_restriction word point node) counted ∙ (rw is (ap Some (sym same)))))

pub unnamed_at : (P : calculus.Protocol) (word : List ℕ) (point : ℕ) (node : calculus.Process) → numbered (nodes P.main) point ≡ Some node → is_restriction_of word node ≡ false → None ≡ name_called P word point
unnamed_at P word point node there isnt =
    sym (ap (option_and_then (λ m. if_restriction word point m (numbered (name_arguments 0 P.main) point))) there ∙ rw isnt refl)

-- Numbers of arguments that are told in 32 bits.

numbered-map : {A B : Type 0} (f : A → B) (xs : List A) (point : ℕ) → numbered (map f xs) point ≡ option_map f (numbered xs point)
numbered-map f xs zero = refl
numbered-map f xs (suc k) = slice_get-map f xs k

-- what is told of a point where the greatest number of the type stands for more
told_at : (ns : List ℕ) (point told : ℕ) → numbered (map capped ns) point ≡ Some told → (n : ℕ) × (numbered ns point ≡ Some n) × (capped n ≡ told)
told_at ns point told e = of_map capped (numbered ns point) told (sym (numbered-map capped ns point) ∙ e)

fits : (n told : ℕ) → capped n ≡ told → n < 2 ^ 32 - 1 → n ≡ told
fits n told e few = omega (arith, e, few)

-- the number is exact where names have few arguments
pub told_exactly : (process : calculus.Process) (point told : ℕ) → HasFewArguments process → point ≤ length (nodes process) → numbered (map capped (name_arguments 0 process)) point ≡ Some told → numbered (name_arguments 0 process) point ≡ Some told
told_exactly process point told few within e =
    let at = told_at (name_arguments 0 process) point told e in
    at.1 ∙ ap Some (fits at.0 told at.2 (few.arguments point at.0 within at.1))

-- up to this point each name has few arguments
pub record AreFewTo (process : calculus.Process) (points : ℕ) : Type 0 where
  pub each : (point n : ℕ) → point ≤ points → numbered (name_arguments 0 process) point ≡ Some n → n < 2 ^ 32 - 1

pub few_at_first : (process : calculus.Process) → AreFewTo process 0
few_at_first process = record { each = λ point n within e. by point n within e }
  where
    by : (point n : ℕ) → point ≤ 0 → numbered (name_arguments 0 process) point ≡ Some n → n < 2 ^ 32 - 1
    by zero n within e = absurd (cc)
    by (suc k) n within e = absurd (omega (arith, within))

pub few_on : (process : calculus.Process) (points told : ℕ) → AreFewTo process points → numbered (map capped (name_arguments 0 process)) (points + 1) ≡ Some told → told < 2 ^ 32 → told ≢ 2 ^ 32 - 1 → AreFewTo process (points + 1)
few_on process points told few e range other = record { each = λ point n within is. by point n within is (nat_le point points) refl }
  where
    by : (point n : ℕ) → point ≤ points + 1 → numbered (name_arguments 0 process) point ≡ Some n → (b : Bool) → nat_le point points ≡ b → n < 2 ^ 32 - 1
    by point n within is true before = few.each point n (grind (arith, nat_tests)) is
    by point n within is false behind =
        let last : point ≡ points + 1 = grind (arith, nat_tests) in
        let at = told_at (name_arguments 0 process) (points + 1) told e in
        let same : at.0 ≡ n = of_some at.0 n (sym at.1 ∙ (ap (numbered (name_arguments 0 process)) (sym last) ∙ is)) in
        let capped_same : capped at.0 ≡ told = at.2 in
        omega (arith, same, capped_same, range, other)

pub few_of : (process : calculus.Process) (points count : ℕ) → AreFewTo process points → count ≡ capped (length (nodes process)) → count ≢ 2 ^ 32 - 1 → count ≤ points → HasFewArguments process
few_of process points count few counted other behind =
    let below : length (nodes process) < 2 ^ 32 - 1 = omega (arith, counted, other) in
    record { points = below; arguments = λ point n within e. few.each point n (omega (arith, counted, below, within, behind)) e }

pub many_points : (process : calculus.Process) (count : ℕ) → count ≡ capped (length (nodes process)) → count ≡ 2 ^ 32 - 1 → HasFewArguments process → ⊥
many_points process count counted is few = let below = few.points in omega (arith, counted, is, below)

pub many_arguments : (process : calculus.Process) (point told : ℕ) → numbered (map capped (name_arguments 0 process)) point ≡ Some told → told ≡ 2 ^ 32 - 1 → point ≤ length (nodes process) → HasFewArguments process → ⊥
many_arguments process point told e is within few =
    let at = told_at (name_arguments 0 process) point told e in
    let below = few.arguments point at.0 within at.1 in
    let capped_same : capped at.0 ≡ told = at.2 in
    omega (arith, below, capped_same, is)

pub point_there : (process : calculus.Process) (count before : ℕ) → count ≡ capped (length (nodes process)) → before < count → before + 1 ≤ length (nodes process)
point_there process count before counted within = omega (arith, counted, within)

pub ruleset few_points = (few_at_first, few_on, few_of, many_points, many_arguments, point_there)

pub ruleset by_point = (past_nodes, no_point, named_at, unnamed_at)
