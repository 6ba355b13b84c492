-- What contracts see of choices and actions.
use Rattle.spec_attack_runs.specs.Source as attack
use Rattle.clause_sources.specs.declared.source.Choice.{Choice}
use Rattle.clause_sources.specs.declared.source.Choice.TheVariants.{Taken, Else}
use Rattle.clause_sources.specs.declared.source.Action.{Action}
use Rattle.clause_sources.specs.declared.source.Action.TheVariants.{Idle, Builds, Reduces, Reaches}

abbrev pub choice_of : Choice → attack.Choice
choice_of (Taken label) = attack.Taken label
choice_of Else = attack.Else

abbrev pub action_of : Action → attack.Action
action_of Idle = attack.Idle
action_of (Builds constructor) = attack.Builds constructor
action_of (Reduces destructor rule) = attack.Reduces destructor rule
action_of (Reaches way) = attack.Reaches way
