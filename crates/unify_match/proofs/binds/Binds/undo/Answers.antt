use Rattle.std.proofs.Common.{◌≡◌, ◌-◌, ◌+◌, ◌<◌, ◌∙◌, length, drop, ap, sym, arith, length-drop}
use Rattle.unify_match.proofs.Tables.{drop-one}
use Rattle.unify_match.proofs.binds.Binds.undo.Goals as goal

pub loop-self-preserved : goal.loop-self-preserved
loop-self-preserved c =
    let was = c.loop-self.invariant in
    let first = c.args.self.now.pairs in
    let now = c.loop-self.self.pairs in
    let some : c.args.level < length now = omega (arith, c.loop-self-test.true, c.level.ensures) in
    let fewer : length c.take_back.new.self.pairs ≡ length now - 1 = ap length c.take_back.ensures.pairs ∙ length-drop 1 now in
    let count : length first - length c.take_back.new.self.pairs ≡ (length first - length now) + 1 = omega (arith, was.shorter) in
    record {
      above = omega arith;
      shorter = omega (arith, was.shorter);
      pairs = c.take_back.ensures.pairs ∙ (ap (drop 1) was.pairs ∙ (drop-one first (length first - length now) (omega (arith, was.shorter)) ∙ ap (λ n. drop n first) (sym count)));
      room = omega (arith, was.room, c.take_back.ensures.room);
    }
