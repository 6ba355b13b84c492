-- Names have few arguments within the limits: what is told of them in 32 bits is exact.
use Rattle.std.proofs.Common.{◌≡◌, ◌∙◌, ℕ, ◌+◌, ◌-◌, ◌*◌, ◌^◌, ◌≤◌, List, [], ◌∷◌, ◌++◌, length, map, Some, unwrap_or, refl, sym, ap, ap₂, arith}
use Rattle.std.specs.List.{AllByRecursion}
use Rattle.spec_calculus.specs.Bounds.{most_arguments}
use Rattle.spec_calculus.specs.Syntax.{Process, Nil, Output, Input, Parallel, Replication, New, Let, Event, Phase, Insert, Get, Protocol}
use Rattle.spec_calculus.specs.Points.{numbered, name_arguments}
use Rattle.spec_calculus.proofs.Items.{each-append, each-weaker}
use Rattle.spec_well_formed.specs.Processes.{height, AreSmallEntries}
use Rattle.spec_well_formed.specs.Limits.{IsWithinLimits}
use Rattle.spec_translation.specs.Goal.{arguments_at}
use Rattle.pi_tree.specs.Accessors.{capped}

abbrev pub AreAtMost : ℕ → List ℕ → Type 0
AreAtMost most ns = AllByRecursion (λ (n : ℕ). n ≤ most) ns

more : (least most : ℕ) (ns : List ℕ) → least ≤ most → AreAtMost least ns → AreAtMost most ns
more least most ns within each = each-weaker (λ (n : ℕ). n ≤ least) (λ (n : ℕ). n ≤ most) (λ n few. omega (arith, few, within)) ns each

branches : (least other most : ℕ) (ns ms : List ℕ) → least ≤ most → other ≤ most → AreAtMost least ns → AreAtMost other ms → AreAtMost most (ns ++ ms)
branches least other most ns ms first second each others = each-append (λ (n : ℕ). n ≤ most) ns ms (more least most ns first each) (more other most ms second others)

-- names have at most so many arguments for each point on the way to theirs
pub arguments_few : (above : ℕ) (process : Process) → AreSmallEntries process → AreAtMost (above + most_arguments * height process) (name_arguments above process)
arguments_few above Nil small = (omega arith, tt)
arguments_few above (Output channel message next) small = (omega arith, more (above + most_arguments * height next) _ (name_arguments above next) (omega arith) (arguments_few above next small))
arguments_few above (Input channel pattern next) small = (omega arith, more (above + 1 + most_arguments * height next) _ (name_arguments (above + 1) next) (omega arith) (arguments_few (above + 1) next small))
arguments_few above (Parallel left right) small =
    (omega arith, branches (above + most_arguments * height left) (above + most_arguments * height right) _ (name_arguments above left) (name_arguments above right) (omega arith) (omega arith) (arguments_few above left small.0) (arguments_few above right small.1))
arguments_few above (Replication copied) small = (omega arith, more (above + 1 + most_arguments * height copied) _ (name_arguments (above + 1) copied) (omega arith) (arguments_few (above + 1) copied small))
arguments_few above (New word next) small = (omega arith, more (above + most_arguments * height next) _ (name_arguments above next) (omega arith) (arguments_few above next small))
arguments_few above (Let pattern expression next otherwise) small =
    (omega arith, branches (above + most_arguments * height next) (above + most_arguments * height otherwise) _ (name_arguments above next) (name_arguments above otherwise) (omega arith) (omega arith) (arguments_few above next small.0) (arguments_few above otherwise small.1))
arguments_few above (Event performed next) small = (omega arith, more (above + most_arguments * height next) _ (name_arguments above next) (omega arith) (arguments_few above next small))
arguments_few above (Phase number next) small = (omega arith, more (above + most_arguments * height next) _ (name_arguments above next) (omega arith) (arguments_few above next small))
arguments_few above (Insert table arguments next) small = (omega arith, more (above + most_arguments * height next) _ (name_arguments above next) (omega arith) (arguments_few above next small))
arguments_few above (Get table patterns condition next otherwise) small =
    let few = small.0 in (
      omega arith,
      branches (above + length patterns + most_arguments * height next) (above + most_arguments * height otherwise) _ (name_arguments (above + length patterns) next) (name_arguments above otherwise) (omega (arith, few)) (omega arith)
          (arguments_few (above + length patterns) next small.1) (arguments_few above otherwise small.2),
    )

uncapped : (most : ℕ) (ns : List ℕ) → most ≤ 2 ^ 32 - 1 → AreAtMost most ns → map capped ns ≡ ns
uncapped most [] within each = refl
uncapped most (n ∷ ns) within each =
    let few = each.0 in
    let same : capped n ≡ n = omega (arith, few, within) in
    ap₂ (λ m ms. m ∷ ms) same (uncapped most ns within each.1)

-- the number that is told of a point is that of its names' arguments
pub told_exactly : (P : Protocol) (point told : ℕ) → IsWithinLimits P → numbered (map capped (name_arguments 0 P.main)) point ≡ Some told → told ≡ arguments_at P point
told_exactly P point told limits e =
    let way = limits.way in
    let same : map capped (name_arguments 0 P.main) ≡ name_arguments 0 P.main =
    uncapped (0 + most_arguments * height P.main) (name_arguments 0 P.main) (omega (arith, way)) (arguments_few 0 P.main limits.entries) in
    ap (λ found. unwrap_or found 0) (sym e ∙ ap (λ ns. numbered ns point) same)
