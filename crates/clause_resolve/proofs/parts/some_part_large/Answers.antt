use Rattle.std.proofs.Common.{◌≡◌, ◌+◌, ◌∙◌, List, ap, sym, subst, map, flat_map, rules}
use Rattle.spec_clauses.specs.Diff.{diff_size}
use Rattle.spec_clauses.specs.Fact.{total, fact_size}
use Rattle.spec_clauses.specs.Flat.{flat}
use Rattle.term_tree.specs.Bank.{capped}
use Rattle.term_tree.specs.declared.bank.Id.{Id}
use Rattle.clause_diffs.specs.Diffs.{DiffOf, diffs_at, AreDiffsIn}
use Rattle.clause_form.specs.Facts.{fact_of}
use Rattle.clause_form.specs.Seen.{fact_at}
use Rattle.clause_resolve.specs.Budget.{some_over}
use Rattle.clause_resolve.proofs.Parting.{parts_over}
use Rattle.clause_resolve.proofs.parts.some_part_large.Goals as goal

pub returns : goal.returns
returns g c =
    let all = g.B.Bank.trees c.args.bank.now in
    let clause = c.args.clause.now in
    let hyps = flat_map flat (map (fact_at all) clause.hypotheses) in
    let diffs = diffs_at all clause.diffs in
    let hyps_are : map fact_of c.deref.result.now ≡ clause.hypotheses = search rules in
    let diffs_are : c.deref-2.result.now ≡ clause.diffs = search rules in
    let concl_is : fact_of c.clause-inside.inside.0.1.1.0 ≡ clause.conclusion = search rules in
    let facts_told : c.flat_size_of_facts-hyps.result ≡ capped (total fact_size hyps) = c.flat_size_of_facts-hyps.ensures ∙ ap (λ l. capped (total fact_size (flat_map flat (map (fact_at all) l)))) hyps_are in
    let diffs_told : c.size_of_diffs.result ≡ capped (total diff_size diffs) = c.size_of_diffs.ensures ∙ ap (λ l. capped (total diff_size (diffs_at all l))) diffs_are in
    let told = c.add_symbols-symbols.ensures (total fact_size hyps) (total diff_size diffs) facts_told diffs_told in
    c.some_flat_over.ensures (total fact_size hyps + total diff_size diffs) told
    ∙ (ap (λ f. some_over (total fact_size hyps + total diff_size diffs) (flat (fact_at all f))) concl_is
    ∙ sym (parts_over hyps diffs (flat (fact_at all clause.conclusion))))

pub size_of_diffs-requires : goal.size_of_diffs-requires
size_of_diffs-requires g c =
    let all = g.B.Bank.trees c.args.bank.now in
    let diffs_are : c.deref-2.result.now ≡ c.args.clause.now.diffs = search rules in
    subst (λ (l : List (DiffOf Id)). AreDiffsIn all l) (sym diffs_are) c.requires.diffs
