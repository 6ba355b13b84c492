use Rattle.std.proofs.Common.{◌≡◌, ◌∙◌, Option, IfOk, option_map, nat_eq, ap, subst}
use Rattle.spec_calculus.specs.Points.{numbered}
use Rattle.spec_terms.specs.Term.{Term}
use Rattle.spec_clauses.specs.Fact.{Clause}
use Rattle.spec_clauses.specs.Flat.{flat_parts}
use Rattle.spec_clauses.specs.Norm.{distinct}
use Rattle.spec_attack_runs.specs.Source.{Source, part_of}
use Rattle.spec_attack_runs.specs.Instance.{kept_variables}
use Rattle.clause_form.specs.Seen.{clause_at}
use Rattle.clause_instances.proofs.given.kept_of.Goals as goal

pub returns-clause-kept : goal.returns-clause-kept
returns-clause-kept c =
    let source : Source = c.args.source.now in
    let same : numbered (flat_parts (clause_at c.copy_into.new.bank c.in_ok-raw.raw)) c.source.inside.part ≡ part_of source =
    ap (λ (k : Clause Term). numbered (flat_parts k) c.source.inside.part) (c.in_ok-raw.ensures.names.is ∙ c.raw.ensures) ∙ ap (λ (x : Source). numbered (flat_parts source.raw) x.part) c.source.view_is in
    subst (λ (o : Option (Clause Term)). IfOk c.kept_within.result (λ found. option_map (λ numbers. distinct nat_eq numbers.items) found ≡ option_map kept_variables o)) same c.kept_within.ensures
