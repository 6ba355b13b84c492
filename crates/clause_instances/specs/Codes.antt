-- How contracts store instances: what the model of a list of them takes.
use Rattle.std.specs.Prelude.{ℕ, List, refl}
use Rattle.std.specs.Coded.{Coded, code_by, coded×, coded_ℕ, coded_list}
use Rattle.term_tree.specs.declared.bank.Id.{Id}
use Rattle.clause_diffs.specs.Codes.{coded_ids}
use Rattle.clause_instances.specs.declared.instance.Instance.{Instance}

abbrev pub coded_instances : Coded (List Instance)
coded_instances = coded_list (code_by ((ℕ × List Id) × (List Id × List Id)) (coded× (coded× coded_ℕ coded_ids) (coded× coded_ids coded_ids))
    (λ i. ((i.source, i.supposed), (i.messages, i.sessions))) (λ p. record { source = p.0.0; supposed = p.0.1; messages = p.1.0; sessions = p.1.1 }) (λ _. refl))
