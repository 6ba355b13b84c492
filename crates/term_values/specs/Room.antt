-- Counting symbols against a room for them.
use Rattle.std.specs.Prelude.{ℕ, ◌-◌, nat_le, cond, Option, None, Some}

-- what is left of the room beside that many symbols, where they have room
abbrev pub room_after : ℕ → ℕ → Option ℕ
room_after room count = cond (nat_le count room) (Some (room - count)) None
