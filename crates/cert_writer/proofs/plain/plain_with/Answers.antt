use Rattle.std.proofs.Common.{◌≡◌, ◌∙◌, ◌-◌, ◌++◌, List, map, take, drop, length, ap, sym, subst, arith}
use Rattle.std.proofs.lemmas.Grind.{common_steps}
use Rattle.std.proofs.lemmas.List.{take_rest}
use Rattle.clause_form.specs.Seen.{clause_at, AreClausesIn, IdClause}
use Rattle.clause_form.specs.Fit.{clauses_at}
use Rattle.cert_writer.proofs.Small.{small_rest, small_known, fit_small}
use Rattle.cert_writer.proofs.KeptRows.{front_short, live_parts}
use Rattle.cert_writer.proofs.plain.plain_with.Goals as goal

pub slice_bounds-read_behind-count : goal.slice_bounds-read_behind-count
slice_bounds-read_behind-count g c =
    let short = front_short (g.B.Bank.trees c.args.bank.now) c.args.known.now c.args.writer.now.live.now c.requires.begin in
    omega (arith, short, c.live_count-count.ensures, ap length c.keep_plain.ensures.live)

pub read_behind-requires : goal.read_behind-requires
read_behind-requires g c =
    let all = g.B.Bank.trees c.args.bank.now in
    let live = c.args.writer.now.live.now in
    let count = c.live_count-count.result in
    subst (λ (cs : List IdClause). AreClausesIn all cs) (sym (take_rest live count)) (small_known all (drop count live) (small_rest all live count (fit_small all live c.requires.ready.fit)))

pub returns-clause-plain : goal.returns-clause-plain
returns-clause-plain g c =
    let all = g.B.Bank.trees c.args.bank.now in
    let known = c.args.known.now in
    let live = c.args.writer.now.live.now in
    let count = c.live_count-count.result in
    let counted : count ≡ length known.live = omega (arith, c.live_count-count.ensures, ap length c.keep_plain.ensures.live) in
    let front : c.in_ok-plain.plain ≡ clauses_at all known.live = c.in_ok-plain.ensures ∙ c.in_ok-keep_plain.ensures.plain in
    let rest : map (clause_at all) (take (length live - count) (drop count live)) ≡ clauses_at all (drop count live) = ap (map (clause_at all)) (take_rest live count) in
    c.in_ok-read_behind.ensures ∙ ((λ i. front i ++ rest i) ∙ live_parts all known live c.requires.begin count counted)

pub offset_bounds-writer-count : goal.offset_bounds-writer-count
offset_bounds-writer-count g c = grind (arith, common_steps)

pub slice_bounds-read_behind-start : goal.slice_bounds-read_behind-start
slice_bounds-read_behind-start g c = grind (arith, common_steps)
