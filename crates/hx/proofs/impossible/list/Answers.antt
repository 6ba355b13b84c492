use Rattle.std.proofs.Common.{refl}
use Rattle.std.proofs.lemmas.Result.{on_ok_weaker}
use Rattle.hx.proofs.Noting.{event_listed, left_listed}
use Rattle.hx.proofs.impossible.list.Goals as goal

pub returns-in-Event : goal.returns-in-Event
returns-in-Event c = on_ok_weaker c.put.result (λ more. event_listed c.args.found.now (record { events = c.put.new.numbers; queries = c.args.found.now.queries }) c.args.subject c.in-Event.event c.in-Event.is more refl) c.put.ensures

pub returns-in-Left : goal.returns-in-Left
returns-in-Left c = on_ok_weaker c.put-in-Left.result (λ more. left_listed c.args.found.now (record { events = c.args.found.now.events; queries = c.put-in-Left.new.numbers }) c.args.subject c.in-Left.query c.in-Left.is refl more) c.put-in-Left.ensures
