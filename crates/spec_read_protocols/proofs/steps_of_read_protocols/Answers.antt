use Rattle.spec_calculus.specs.Matching.{rules_of}
use Rattle.spec_calculus.proofs.Refusals as refusals
use Rattle.spec_calculus.proofs.Rules.{rule_value-complete}
use Rattle.spec_calculus.proofs.Patterns.{matched-sound}
use Rattle.spec_well_formed.specs.Rules.{IsProperRule}
use Rattle.spec_read_protocols.proofs.Nodes.{each_numbered, linear_at}
use Rattle.spec_read_protocols.proofs.steps_of_read_protocols.Goals as goal

pub returns-clause-uniform : goal.returns-clause-uniform
returns-clause-uniform c = λ bytes P h. (c.proper_rules.ensures bytes P h).uniform

pub returns-clause-refusals : goal.returns-clause-refusals
returns-clause-refusals c = λ bytes P d step h. refusals.refusals_are_exact P d step (c.proper_rules.ensures bytes P h).uniform

pub returns-clause-rules : goal.returns-clause-rules
returns-clause-rules c = λ bytes P d r rule s h at.
    rule_value-complete rule s (each_numbered IsProperRule (rules_of P d) r rule ((c.proper_rules.ensures bytes P h).proper d) at).closed

pub returns-clause-patterns : goal.returns-clause-patterns
returns-clause-patterns c = λ bytes P point pattern environment bindings v h at m.
    matched-sound environment pattern v bindings (linear_at P point pattern (c.linear_patterns.ensures bytes P h) at) m
