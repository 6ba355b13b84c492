use Rattle.run_replay.proofs.Writing.{line_put}
use Rattle.run_replay.proofs.write.put_line.Goals as goal

pub returns : goal.returns
returns c =
    line_put c.args.out.now.items c.extend_from_slice.new.self.items c.put_numbers.new.out.items c.put_numbers-2.new.out.items c.push.new.self.items c.args.word.now c.args.first.now c.args.others.now
    c.in_ok-extend_from_slice.ensures.items c.in_ok-put_numbers.ensures c.in_ok-put_numbers-2.ensures c.in_ok-push.ensures.items
