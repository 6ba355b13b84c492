use Rattle.std.proofs.Common.{◌∙◌, ◌-◌, Bool, not, ◌&&◌, false, length, map, drop, replicate, ap, sym, arith}
use Rattle.std.proofs.lemmas.List.{length-replicate}
use Rattle.std.proofs.lemmas.Simd.{map-map}
use Rattle.clause_form.specs.Facts.{fact_of}
use Rattle.clause_form.specs.Seen.{fact_at}
use Rattle.clause_form.specs.Normality.{are_different}
use Rattle.clause_form.proofs.Walks.{fact_known_at}
use Rattle.clause_form.proofs.Comparing.{map_dropped}
use Rattle.clause_form.proofs.Testing.{rest_known}
use Rattle.clause_form.proofs.Marking.{length-marked, have_marks_none, later_marked, marked_from, different_from, not_different, all_different}
use Rattle.clause_form.proofs.marks.are_many_different.Goals as goal

pub each-init : goal.each-init
each-init g c =
    let all = g.B.Bank.trees c.args.bank.now in
    let none = map_dropped (λ h. fact_at all (fact_of h)) c.args.facts.now (length c.args.facts.now) (omega arith) in record {
      within = omega arith;
      room = length-replicate {A = Bool} 32768 false;
      marked = have_marks_none (map (λ h. fact_at all (fact_of h)) (drop (length c.args.facts.now) c.args.facts.now)) (replicate 32768 false) none;
      different = ap are_different none;
    }

pub key_of_fact-key-requires : goal.key_of_fact-key-requires
key_of_fact-key-requires g c = fact_known_at (g.B.Bank.trees c.args.bank.now) c.args.facts.now (c.each.i - 1) c.index-facts-i.result c.index-facts-i.is c.requires (omega arith)

pub is_among_marked-requires-clause-facts : goal.is_among_marked-requires-clause-facts
is_among_marked-requires-clause-facts g c = rest_known (g.B.Bank.trees c.args.bank.now) c.args.facts.now c.each.i c.requires

pub is_among_marked-requires-clause-fact : goal.is_among_marked-requires-clause-fact
is_among_marked-requires-clause-fact g c = fact_known_at (g.B.Bank.trees c.args.bank.now) c.args.facts.now (c.each.i - 1) c.index-facts-i.result c.index-facts-i.is c.requires (omega arith)

pub is_among_marked-requires-clause-marked : goal.is_among_marked-requires-clause-marked
is_among_marked-requires-clause-marked g c = later_marked (g.B.Bank.trees c.args.bank.now) c.args.facts.now c.each.i c.each.marks c.each.invariant.marked

pub returns-then-is_among_marked : goal.returns-then-is_among_marked
returns-then-is_among_marked g c =
    let all = g.B.Bank.trees c.args.bank.now in
    let fs = c.args.facts.now in
    let on = different_from all fs (c.each.i - 1) c.each.i c.index-facts-i.result c.is_among_marked.result (omega arith) (omega arith) c.index-facts-i.is c.is_among_marked.ensures in
    sym (ap are_different (map-map (fact_at all) fact_of fs)
    ∙ not_different (λ h. fact_at all (fact_of h)) fs (c.each.i - 1) (on ∙ ap (λ b. not b && are_different (map (λ h. fact_at all (fact_of h)) (drop c.each.i fs))) c.if-is_among_marked.true))

pub each-preserved : goal.each-preserved
each-preserved g c =
    let all = g.B.Bank.trees c.args.bank.now in
    let fs = c.args.facts.now in
    let on = different_from all fs (c.each.i - 1) c.each.i c.index-facts-i.result c.is_among_marked.result (omega arith) (omega arith) c.index-facts-i.is c.is_among_marked.ensures in record {
      within = omega arith;
      room = ap length c.mark.ensures ∙ (length-marked c.each.marks c.key_of_fact-key.result ∙ c.each.invariant.room);
      marked = marked_from all fs (c.each.i - 1) c.each.i c.index-facts-i.result c.key_of_fact-key.result c.each.marks c.mark.new.marks (omega arith) (omega arith) c.index-facts-i.is c.each.invariant.room c.key_of_fact-key.ensures c.mark.ensures c.each.invariant.marked;
      different = on ∙ (ap (λ b. not b && are_different (map (λ h. fact_at all (fact_of h)) (drop c.each.i fs))) c.if-is_among_marked.false ∙ c.each.invariant.different);
    }

pub returns : goal.returns
returns g c = all_different (g.B.Bank.trees c.args.bank.now) c.args.facts.now c.each.i c.each-test.false c.each.invariant.different
