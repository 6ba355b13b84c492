-- What contracts of terms speak of.
use Rattle.std.specs.Prelude.{ℕ, ◌+◌, min}
use Rattle.spec_calculus.specs.Bounds.{most_written_symbols}
use Rattle.spec_protocol_scope.specs.Terms as own
use Rattle.scope_declarations.specs.declared.leaves.Setting.{Setting}
use Rattle.scope_declarations.specs.declared.leaves.Setting.TheVariants.{Process, Left, Right, Event}
use Rattle.scope_declarations.specs.declared.source.Text.{Text}
use Rattle.scope_declarations.specs.Bound.{bound_of, FindsBound}

-- where a term stands
abbrev pub setting_of : Setting → own.Setting
setting_of (Process bound) = own.InProcess (bound_of bound.now)
setting_of Left = own.OnLeft
setting_of Right = own.OnRight
setting_of Event = own.InEvent

-- a number of symbols, as far as it matters: one more than a term may have stands for all that are too many
abbrev pub capped : ℕ → ℕ
capped symbols = min symbols (most_written_symbols + 1)

-- the tables find what is bound where a term stands
abbrev pub FindsSetting : Text → Setting → Type 0
FindsSetting t (Process bound) = FindsBound t bound.now
FindsSetting t Left = Unit {0}
FindsSetting t Right = Unit {0}
FindsSetting t Event = Unit {0}
