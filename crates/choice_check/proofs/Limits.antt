-- A protocol within the limits of reading is within those of the reading of reports.
use Rattle.std.proofs.Common.{◌≡◌, ℕ, ◌+◌, ◌-◌, ◌*◌, ◌^◌, ◌<◌, ◌≤◌, length, Some, arith}
use Rattle.spec_calculus.specs.Bounds.{most_arguments}
use Rattle.spec_calculus.specs.Syntax.{Protocol}
use Rattle.spec_calculus.specs.Points.{numbered, name_arguments}
use Rattle.spec_calculus.proofs.Items.{each-numbered, if_some-is}
use Rattle.spec_well_formed.specs.Processes.{height}
use Rattle.spec_well_formed.specs.Limits.{IsWithinLimits}
use Rattle.spec_certificate_text.specs.OfProtocol.{IsShort}
use Rattle.query_derive.proofs.FewArguments.{arguments_few}
use Rattle.term_reader.specs.Few.{HasFewArguments, HasFewNames}

-- its names have few enough arguments for their numbers to be told
few_arguments : (P : Protocol) → IsWithinLimits P → HasFewArguments P.main
few_arguments P h =
    let points = h.points in
    record { points = omega arith; arguments = λ point n within e. by point n e }
  where
    by : (point n : ℕ) → numbered (name_arguments 0 P.main) point ≡ Some n → n < 2 ^ 32 - 1
    by point n e =
        let way = h.way in
        let few : n ≤ 0 + most_arguments * height P.main =
        if_some-is (λ (m : ℕ). m ≤ 0 + most_arguments * height P.main) (numbered (name_arguments 0 P.main) point) n (each-numbered (λ (m : ℕ). m ≤ 0 + most_arguments * height P.main) (name_arguments 0 P.main) point (arguments_few 0 P.main h.entries)) e in
        omega (arith, few, way)

pub few_names : (P : Protocol) → IsWithinLimits P → HasFewNames P
few_names P h =
    let names = h.names in
    record { frees = omega arith; constructors = omega arith; events = omega arith; tables = omega arith; arguments = few_arguments P h }

-- and has few enough queries for their numbers to be short
pub short_queries : (P : Protocol) → IsWithinLimits P → IsShort (length P.queries)
short_queries P h = let queries = h.queries in omega arith
