-- What was read can be searched.
use Rattle.std.proofs.Common.{arith}
use Rattle.hx.proofs.showing.certificate_page.Goals as goal

pub searched-requires : goal.searched-requires
searched-requires c =
    let readable = c.requires in
    record { limits = readable.limits; rules = readable.rules; scoped = readable.scoped; queries = readable.queries; there = c.in_ok-need_query.ensures }

pub found_page-page-requires-clause-few : goal.found_page-page-requires-clause-few
found_page-page-requires-clause-few c =
    let limits = c.requires.limits in
    let queries = limits.queries in
    omega arith
