use Rattle.std.proofs.Common.{◌≡◌, ◌∙◌, None, Some, [], ◌∷◌, ◌++◌, length, get_or, set, ap, sym, subst, arith, rules}
use Rattle.std.proofs.lemmas.List.{get_or_read, length-append}
use Rattle.log_entries.specs.Ends.{AreChained}
use Rattle.log_entries.proofs.Chaining.{chained_some}
use Rattle.log_entries.proofs.chains.Chains.push_end.Goals as goal

pub returns : goal.returns
returns c = λ ends h.
    let id = c.args.id in
    let reached = c.reach.new.self.last.items in
    let befores = c.args.self.now.previous.items in
    let stood = get_or_read reached id.index c.index.result.now c.in_ok-reach.ensures.room c.index.ensures None in
    let pushed : c.push.new.self.items ≡ befores ++ get_or reached id.index None ∷ [] = c.in_ok-push.ensures.items ∙ (ap (λ bs. bs ++ c.index.result.now ∷ []) c.in_ok-reach.ensures.previous ∙ ap (λ before. befores ++ before ∷ []) stood) in
    let counted : c.len.result ≡ length c.push.new.self.items = search rules in
    let longer = ap length pushed ∙ length-append befores (get_or reached id.index None ∷ []) in
    subst (λ bs. AreChained (ends ++ Some id ∷ []) (set reached id.index (Some c.len.result)) bs) (sym pushed)
    (chained_some ends id c.args.self.now.last.items reached befores c.len.result c.in_ok-reach.ensures.room (λ i. c.in_ok-reach.ensures.last i) (omega (arith, counted, longer)) h)
