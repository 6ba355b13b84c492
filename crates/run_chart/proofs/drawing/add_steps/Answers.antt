use Rattle.std.proofs.Common.{◌≡◌, ℕ, ◌+◌, ◌-◌, ◌<◌, Option, List, ◌++◌, suc, length, map, append_assoc, arith}
use Rattle.run_chart.specs.Rows.{Told, told_of, told_at, told_from}
use Rattle.run_chart.proofs.drawing.add_steps.Goals as goal

-- with the rows of one more step, fewer are left
step_rows : (firsts : List (Option ℕ)) (index count : ℕ) (old new all : List Told) → index < count → new ≡ old ++ told_at firsts (index + 1) → old ++ told_from firsts (index + 1) (count - index) ≡ all → new ++ told_from firsts (index + 1 + 1) (count - (index + 1)) ≡ all
step_rows firsts index count old new all less made before =
    let left : count - index ≡ suc (count - (index + 1)) = omega arith in
    let both : old ++ (told_at firsts (index + 1) ++ told_from firsts (index + 1 + 1) (count - (index + 1))) ≡ all = rw left at before in
    rw (made, append_assoc) both

pub loop-index-preserved : goal.loop-index-preserved
loop-index-preserved c = record {
  of_protocol = c.add_told.ensures.of_protocol;
  counted = omega arith;
  rows = step_rows c.args.setting.firsts.now c.loop-index.index (length c.args.steps.now) (map told_of c.loop-index.chart.rows.items) (map told_of c.add_told.new.chart.rows.items) _ (omega arith) c.in_ok-add_told.ensures.rows c.loop-index.invariant.rows;
}
