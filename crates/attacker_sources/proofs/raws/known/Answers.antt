use Rattle.std.proofs.Common.{◌≡◌, ◌∙◌, [], ◌∷◌, ◌++◌, length, map, rules, ap, sym, refl}
use Rattle.std.proofs.lemmas.List.{map-append}
use Rattle.std.proofs.lemmas.Iterator.Adapters.{YieldsList-from_vec}
use Rattle.std.proofs.lemmas.Iterator.Consumers.{YieldsList-end}
use Rattle.spec_clauses.specs.Fact.{Att}
use Rattle.clause_diffs.specs.Plain.{term_of}
use Rattle.clause_form.specs.declared.plain.PlainFact.TheVariants as declared
use Rattle.clause_form.specs.PlainFacts.{plain_fact_of}
use Rattle.attacker_sources.proofs.Known.{known_all}
use Rattle.attacker_sources.proofs.raws.known.Goals as goal

pub each-init : goal.each-init
each-init c = record { items = ap (map plain_fact_of) c.in_ok-items.ensures.items; whole = refl }

pub each-preserved : goal.each-preserved
each-preserved c =
    let k = c.args.before in
    let part = c.in-Some.part in
    record {
      items = ap (map plain_fact_of) c.in_ok-push.ensures.items ∙ (map-append plain_fact_of c.each.items.items (declared.Att k part ∷ [])
          ∙ (ap (λ l. l ++ Att k (term_of part) ∷ []) c.each.invariant.items ∙ sym (map-append (λ t. Att k (term_of t)) c.each.yielded (part ∷ []))));
      whole = c.each.invariant.whole;
    }

pub returns : goal.returns
returns c =
    let items = c.parts.inside.items.items in
    let counted : c.into_iter-part-iterator.result.rest.len ≡ length items = search rules in
    let all = YieldsList-end (YieldsList-from_vec items c.into_iter-part-iterator.ensures.into_iter_gives.0 counted) c.each.yielded c.each.part-iterator c.each.yielded_by c.next.result c.next.new.self c.in-None.is c.next.ensures.steps in
    let facts = c.each.invariant.items ∙ known_all c.args.before c.args.parts c.each.yielded items all.0 c.parts.view_is in
    c.plain_clause.ensures ∙ (λ i. record { hypotheses = facts i; diffs = []; conclusion = Att c.args.phase (term_of (c.each.invariant.whole i)) })
