-- What is shown is of the protocol that is read, which the bytes spell.
use Rattle.std.proofs.lemmas.Result.{IfOk-weaker}
use Rattle.spec_calculus.specs.Syntax.{Protocol}
use Rattle.pi_tree.specs.Protocols.{protocol_of}
use Rattle.protocol_loading.specs.Outside.{Outside, outside}
use Rattle.hx.specs.Pages.{IsPageOf, IsPageOfText}
use Rattle.hx.proofs.showing.shown_of.Goals as goal

pub returns-in-Ok : goal.returns-in-Ok
returns-in-Ok g c =
    let P : Protocol = protocol_of c.in-Ok.reading.protocol in
    let files : Outside = outside g.F.Files.held g.F.Files.faults g.F.Files.loads c.args.files.now c.shown-page.new.files in
    IfOk-weaker c.shown-page.result (λ page. IsPageOf P files c.args.command page) (λ page. IsPageOfText c.args.bytes.now files c.args.command page) (λ page is. record { protocol = P; spelled = c.in-Ok.ensures.spelled; is = is }) c.shown-page.ensures
