use Rattle.std.proofs.Common.{◌≡◌, length, drop, ◌∙◌, subst, arith}
use Rattle.pi_tree.specs.Protocols.{protocol_of}
use Rattle.spec_certificate_text.specs.Runs.{read_on, read_tree}
use Rattle.term_reader.specs.Seen.{reading_of}
use Rattle.term_reader.proofs.Walk.{at_last}
use Rattle.term_reader.proofs.reading.term_at.Goals as goal

pub returns-clause-read : goal.returns-clause-read
returns-clause-read c =
    let bytes = c.args.bytes.now in
    let P = protocol_of c.args.names.now.protocol.now in
    let r = reading_of c.loop-place.reading in
    let binds = c.args.binds in
    let whole = read_tree binds P (drop c.args.at bytes) c.args.at in
    let same : c.loop-place.place ≡ length bytes = omega (arith, c.loop-place.auto.place-end, c.loop-place-test.false, c.requires) in
    let there : read_on binds P (drop (length bytes) bytes) (length bytes) r ≡ whole = subst (λ n. read_on binds P (drop n bytes) n r ≡ whole) same c.loop-place.invariant in
    c.at_end-place.ensures ∙ at_last binds P bytes (length bytes) r whole there (omega arith)
