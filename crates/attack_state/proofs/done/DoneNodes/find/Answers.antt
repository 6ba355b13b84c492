use Rattle.std.proofs.Common.{◌∙◌, None, sym, ap, slice_get, option_and_then}
use Rattle.attack_state.proofs.Listing.{item_read}
use Rattle.attack_state.proofs.Named.{done_read}
use Rattle.attack_state.proofs.done.DoneNodes.find.Goals as goal

pub returns-in-None : goal.returns-in-None
returns-in-None c = λ all ds node shared names listing e k.
    let items = c.args.self.now.items.items in
    done_read all shared items ds c.args.self.now.classes node c.args.point c.args.sessions.now None names listing e k (ap (option_and_then (slice_get items)) (sym c.in-None.is ∙ c.first.ensures))

pub returns-in-Some : goal.returns-in-Some
returns-in-Some c = λ all ds node shared names listing e k.
    let items = c.args.self.now.items.items in
    let read = item_read c.deref.result.now c.in-Some.number c.get.result c.get.ensures.lookup ∙ ap (λ xs. slice_get xs c.in-Some.number) c.deref.ensures.value in
    done_read all shared items ds c.args.self.now.classes node c.args.point c.args.sessions.now c.get.result names listing e k (read ∙ ap (option_and_then (slice_get items)) (sym c.in-Some.is ∙ c.first.ensures))
