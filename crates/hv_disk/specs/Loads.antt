-- What contracts see of the loads of the disk.
use Rattle.std.specs.Prelude.{ℕ, String}
use Rattle.std.specs.Global.{Global, Vec}
use Rattle.std.specs.String.{string_bytes}
use Rattle.hv_io.specs.Files.{Load}

-- a load, by its name and the bytes that it gave
abbrev pub load_of : String Global × Vec ℕ → Load
load_of pair = record { name = string_bytes pair.0; bytes = pair.1.items }
