-- A text that was loaded is read, and one that wasn't leaves no protocol.
use Rattle.std.proofs.Common.{ℕ, List, sym, subst}
use Rattle.std.proofs.lemmas.Result.{IfOk-weaker, IfErr-weaker}
use Rattle.spec_calculus.specs.Bounds.{most_bytes}
use Rattle.spec_protocol_scope.specs.Spells.{Spells}
use Rattle.pi_tree.specs.Protocols.{protocol_of}
use Rattle.protocol_loading.specs.declared.loading.Unread.{Unread}
use Rattle.protocol_loading.specs.Outside.{OfFile, outside}
use Rattle.protocol_loading.specs.Reading.{IsNoReading, IsUnread}
use Rattle.protocol_loading.proofs.Files.{no_protocol, not_in, of_all}
use Rattle.protocol_loading.proofs.loading.load_protocol.Goals as goal

pub returns-in-Err-clause-unread : goal.returns-in-Err-clause-unread
returns-in-Err-clause-unread g c =
    let files = outside g.F.Files.held g.F.Files.faults g.F.Files.loads c.args.files.now c.load_text.new.files in
    subst (λ (why : Unread). IsUnread files c.args.file.now why) (sym c.not_loaded.ensures) (no_protocol files c.args.file.now _ c.in-Err.ensures.unloaded)

pub returns-in-Ok-clause-spelled : goal.returns-in-Ok-clause-spelled
returns-in-Ok-clause-spelled g c =
    let files = outside g.F.Files.held g.F.Files.faults g.F.Files.loads c.args.files.now c.load_text.new.files in
    IfOk-weaker c.protocol_in.result (λ protocol. Spells c.deref.result.now (protocol_of protocol)) (λ protocol. OfFile files c.args.file.now most_bytes (λ bytes. Spells bytes (protocol_of protocol)))
    (λ protocol spelled. of_all files c.args.file.now most_bytes (λ bytes. Spells bytes (protocol_of protocol)) c.in-Ok.bytes.items
    (subst (λ (bytes : List ℕ). Spells bytes (protocol_of protocol)) c.deref.ensures.value spelled) c.in-Ok.ensures.loaded) c.protocol_in.ensures.spelled

pub returns-in-Ok-clause-unread : goal.returns-in-Ok-clause-unread
returns-in-Ok-clause-unread g c =
    let files = outside g.F.Files.held g.F.Files.faults g.F.Files.loads c.args.files.now c.load_text.new.files in
    IfErr-weaker c.protocol_in.result (λ why. IsNoReading c.deref.result.now why) (λ why. IsUnread files c.args.file.now why)
    (λ why unread. not_in files c.args.file.now c.in-Ok.bytes.items why
    (subst (λ (bytes : List ℕ). IsNoReading bytes why) c.deref.ensures.value unread) c.in-Ok.ensures.loaded) c.protocol_in.ensures.unread
