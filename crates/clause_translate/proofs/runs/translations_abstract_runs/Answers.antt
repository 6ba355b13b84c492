use Rattle.clause_translate.proofs.runs.translations_abstract_runs.Goals as goal

pub returns : goal.returns
returns c = λ P q all proper linear is steps d reached. record {
  named = c.runs_are_named.ensures P steps d reached;
  entered = c.names_of_runs_have_entries.ensures P steps d reached;
  once = c.restrictions_run_once.ensures P steps d reached;
  one_to_one = c.abstraction_is_one_to_one.ensures.values P steps d reached;
  known = λ v w. c.abstraction_is_one_to_one.ensures.known P steps d v w reached;
  derived = c.runs_are_derived.ensures P q all steps d proper linear is reached;
}
