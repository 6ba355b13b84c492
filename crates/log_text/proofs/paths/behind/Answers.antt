use Rattle.std.proofs.Common.{◌-◌, length, drop}
use Rattle.log_text.proofs.Known.{known_front, known_behind}
use Rattle.log_text.proofs.paths.behind.Goals as goal

pub returns-then-count-items : goal.returns-then-count-items
returns-then-count-items c = λ all known.
    let items = c.args.items.now in
    known_front all (drop c.args.count items) (length items - c.args.count) (known_behind all items c.args.count known)
