use Rattle.std.proofs.Common.{◌≡◌, map, take}
use Rattle.feature_index.specs.Listed.{candidates_of}
use Rattle.feature_index.specs.Items.{listed_of}
use Rattle.feature_index.proofs.index.Index.candidates.Given as goal

abbrev pub invariant-loop-item : goal.invariant-loop-item
invariant-loop-item l = l.found.items ≡ candidates_of l.features.lanes (map listed_of (take l.item-index l.item-items))
