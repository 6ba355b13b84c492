use Rattle.std.proofs.Common.{◌≡◌, ◌∙◌, ◌<◌, ◌++◌, ◌∷◌, ℕ, Some, List, [], map, take, length, get_or, slice_get, option_map, ap, sym, subst, arith, Vec, Global}
use Rattle.std.proofs.lemmas.Grind.{common_steps}
use Rattle.std.proofs.lemmas.List.{get_or_default}
use Rattle.std.proofs.lemmas.Option.{slice_get-map, slice_get-get_or}
use Rattle.spec_certificates.specs.Certificate.{numbered_from}
use Rattle.clause_form.specs.Seen.{clause_at}
use Rattle.clause_form.specs.Fit.{clauses_at}
use Rattle.clause_form.proofs.Fit.{fit_in}
use Rattle.cert_writer.specs.Adding.{AddsPairs, pairs_if_solved}
use Rattle.cert_writer.proofs.Prints.{prints_count, print_there}
use Rattle.cert_writer.proofs.Items.{item_has}
use Rattle.cert_writer.proofs.KeptRows.{front_short, none_with, rows_kept, kept_more}
use Rattle.cert_writer.proofs.all_pairs.keep_one.Goals as goal

pub bounds-writer-place-2 : goal.bounds-writer-place-2
bounds-writer-place-2 g c =
    let all = g.B.Bank.trees c.args.bank.now in
    let short = front_short all c.args.known.now c.args.writer.now.live.now c.requires.begin in
    let many = prints_count all c.args.writer.now.live.now c.args.writer.now.prints.now c.requires.ready.prints in
    omega (arith, short, many, c.if-place-count.false, c.len-count.ensures, ap length (λ i. (c.known.view_is i).live))

pub cover_one-requires-clause-fit : goal.cover_one-requires-clause-fit
cover_one-requires-clause-fit g c =
    let all = g.B.Bank.trees c.args.bank.now in
    let short = front_short all c.args.known.now c.args.writer.now.live.now c.requires.begin in
    fit_in all c.args.writer.now.live.now c.len-place.result c.index-writer-place.result c.requires.ready.fit (omega (arith, short, c.if-place-count.false, c.len-count.ensures, ap length (λ i. (c.known.view_is i).live)))

pub cover_one-requires-clause-live : goal.cover_one-requires-clause-live
cover_one-requires-clause-live g c =
    let all = g.B.Bank.trees c.args.bank.now in
    let live = c.args.writer.now.live.now in
    let place = c.len-place.result in
    let d = c.index-writer-place.result in
    let short = front_short all c.args.known.now live c.requires.begin in
    let within : place < length live = omega (arith, short, c.if-place-count.false, c.len-count.ensures, ap length (λ i. (c.known.view_is i).live)) in
    item_has all live place (get_or live place d) (get_or_default live place d (get_or live place d) within) within

pub cover_one-requires-clause-told : goal.cover_one-requires-clause-told
cover_one-requires-clause-told g c =
    let all = g.B.Bank.trees c.args.bank.now in
    let live = c.args.writer.now.live.now in
    let place = c.len-place.result in
    let short = front_short all c.args.known.now live c.requires.begin in
    let within : place < length live = omega (arith, short, c.if-place-count.false, c.len-count.ensures, ap length (λ i. (c.known.view_is i).live)) in
    record {
      conclusion = print_there all live c.args.writer.now.prints.now place c.index-writer-place.result _ c.requires.ready.prints within;
      unsolved = c.requires.unsolved;
    }

pub returns-clause-known : goal.returns-clause-known
returns-clause-known g c =
    let all = g.B.Bank.trees c.args.bank.now in
    let known = c.args.known.now in
    let live = c.args.writer.now.live.now in
    let place = c.len-place.result in
    let d = c.index-writer-place.result in
    let clause = clause_at all (get_or live place d) in
    let nums = numbered_from 1 (clauses_at all live) in
    let short = front_short all known live c.requires.begin in
    let counted : c.len-count.result ≡ length known.live = omega (arith, c.len-count.ensures, ap length (λ i. (c.known.view_is i).live)) in
    let placed : place ≡ length known.rows.items = omega (arith, c.len-place.ensures, ap length (λ i. (c.known.view_is i).rows.items)) in
    let within : place < length live = omega (arith, short, c.if-place-count.false, counted) in
    let at : slice_get (clauses_at all live) place ≡ Some clause = slice_get-map (clause_at all) live place ∙ ap (option_map (clause_at all)) (slice_get-get_or live place d within) in
    let empty : map (λ (row : Vec ℕ Global). row.items) c.new.result.items ≡ [] = ap (map (λ (row : Vec ℕ Global). row.items)) c.new.ensures.items in
    let rows = c.cover_one.new.rows in
    let adds = λ (i : ℕ). c.in_ok-cover_one.ensures.rows i [] (subst (λ (rs : List (List ℕ)). AddsPairs (clauses_at all live) (pairs_if_solved i clause (take 0 nums)) [] rs) (sym empty) (none_with (clauses_at all live) i clause [])) in
    let are = rows_kept all known live c.requires.begin clause rows c.len-count.result counted adds (c.all_begin_within.ensures c.if-not-all_begin_within.false) in
    kept_more all known live c.requires.begin c.requires.known clause rows _ (subst (λ (n : ℕ). slice_get (clauses_at all live) n ≡ Some clause) placed at) (omega (arith, placed, counted, c.if-place-count.false)) are
    (λ i. (c.known.view_is i).live) (c.in_ok-push.ensures.items ∙ ap (λ (rs : List (List (List ℕ))). rs ++ rows ∷ []) (λ i. (c.known.view_is i).rows.items)) (λ i. (c.known.view_is i).given) (λ i. (c.known.view_is i).covers) (λ i. (c.known.view_is i).plain)

pub bounds-writer-place : goal.bounds-writer-place
bounds-writer-place g c = grind (arith, common_steps)

pub cover_one-requires-clause-within : goal.cover_one-requires-clause-within
cover_one-requires-clause-within g c = grind (arith, common_steps)

pub returns-clause-live : goal.returns-clause-live
returns-clause-live g c = grind (arith, common_steps)

pub returns-clause-given : goal.returns-clause-given
returns-clause-given g c = grind (arith, common_steps)
