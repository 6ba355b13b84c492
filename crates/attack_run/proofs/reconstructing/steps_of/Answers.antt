use Rattle.std.proofs.Common.{◌≡◌, None, rules}
use Rattle.pi_tree.specs.Protocols.{protocol_of}
use Rattle.attack_run.proofs.Violating.{compiled_nowhere, result_compiled, told_instances, told_none}
use Rattle.attack_run.proofs.reconstructing.steps_of.Goals as goal

pub returns-in_default-clause-compiled : goal.returns-in_default-clause-compiled
returns-in_default-clause-compiled c = λ q log at tell.
    let P = protocol_of c.args.protocol.now in
    let bank = c.instances_of.new.bank in
    let told = c.in_ok-told.told in
    let none : c.in_ok-instances.field-0 ≡ None = search rules in
    compiled_nowhere P q log c.args.entry told (c.in_ok-told.ensures.sources q at)
    (told_none bank told log c.args.entry c.in_ok-instances.field-0 none (c.in_ok-instances.ensures.instances log tell))

pub returns-clause-compiled : goal.returns-clause-compiled
returns-clause-compiled c = λ q log at tell.
    let P = protocol_of c.args.protocol.now in
    let bank = c.instances_of.new.bank in
    let told = c.in_ok-told.told in
    let t = told_instances bank told log c.args.entry c.in_ok-instances.field-0 c.in-Some.instances c.in-Some.is (c.in_ok-instances.ensures.instances log tell) in
    result_compiled P q log c.args.entry told (c.in_ok-told.ensures.sources q at) t.instances t.come c.compiled.result (c.compiled.ensures.compiled t.instances t.named)
