-- A text that fits is all of the file, and one that doesn't is longer.
use Rattle.std.proofs.Common.{◌<◌, ◌≤◌, ◌+◌, length, arith}
use Rattle.std.proofs.lemmas.Grind.{common_steps}
use Rattle.protocol_loading.proofs.Files.{long_file, whole_file}
use Rattle.protocol_loading.proofs.loading.load_text.Goals as goal

pub returns-then-len-most-clause-unloaded : goal.returns-then-len-most-clause-unloaded
returns-then-len-most-clause-unloaded g c =
    let within : length c.in-Ok.bytes.items ≤ c.args.most + 1 = grind (arith, common_steps) in
    let more : c.args.most < length c.in-Ok.bytes.items = grind (arith, common_steps) in
    long_file _ _ c.args.most c.in-Ok.bytes.items c.in-Ok.ensures.first c.in-Ok.ensures.gave within more

pub returns-else-len-most-clause-loaded : goal.returns-else-len-most-clause-loaded
returns-else-len-most-clause-loaded g c =
    let fits : length c.in-Ok.bytes.items ≤ c.args.most = grind (arith, common_steps) in
    whole_file _ _ c.args.most c.in-Ok.bytes.items c.in-Ok.ensures.first c.in-Ok.ensures.gave fits
