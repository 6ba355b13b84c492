-- One instance is compiled behind those before, or it is of another phase, or it can't be.
use Rattle.std.proofs.Common.{◌≡◌, List, [], ◌∷◌, get_or, refl, sym, ◌∙◌, rules, arith}
use Rattle.pi_tree.specs.Protocols.{protocol_of}
use Rattle.clause_instances.specs.declared.instance.Instance.{Instance as MadeInstance}
use Rattle.spec_attack_runs.specs.Source.{Source}
use Rattle.attack_compiling.specs.Compiled.{compile_in}
use Rattle.attack_compiling.proofs.Acted.{done_where, stuck_where}
use Rattle.hx.proofs.Placed.{named_at, other_placed, own_placed}
use Rattle.hx.proofs.stopping.placed.Goals as goal

pub returns-then-not-is_in-clause-places : goal.returns-then-not-is_in-clause-places
returns-then-not-is_in-clause-places c = λ st all one is named at.
    let ids : List MadeInstance = c.args.compilation.now.instances.now in
    let sources : List Source = c.args.compilation.now.sources.now in
    let x = c.index-instance.result.now in
    let found : x ≡ get_or ids c.args.index x = search rules in
    let names = named_at c.args.bank.now sources ids all c.args.index x one found c.requires.there at named in
    other_placed (protocol_of c.args.compilation.now.protocol.now) c.args.phase one c.args.bank.now st c.args.progress.now c.args.progress.now c.args.index (sym (c.is_in.ensures c.args.bank.now one names) ∙ c.if-not-is_in.true) is refl

pub returns-then-not-branch-clause-places : goal.returns-then-not-branch-clause-places
returns-then-not-branch-clause-places c = λ st all one is named at.
    let P = protocol_of c.args.compilation.now.protocol.now in
    let ids : List MadeInstance = c.args.compilation.now.instances.now in
    let sources : List Source = c.args.compilation.now.sources.now in
    let x = c.index-instance.result.now in
    let found : x ≡ get_or ids c.args.index x = search rules in
    let names = named_at c.args.bank.now sources ids all c.args.index x one found c.requires.there at named in
    record {
      is_one = sym (c.is_in.ensures c.args.bank.now one names) ∙ c.if-not-is_in.false;
      places = refl;
      at = refl;
      steps = omega (arith, c.len-steps.ensures);
      stops = stuck_where (compile_in P c.args.phase (one ∷ [])) st c.compile_at.new.bank c.compile_at.new.state c.in_ok-compile_at.field-0 c.if-not-branch.true (c.in_ok-compile_at.ensures.does st one is names);
    }

pub returns-clause-places : goal.returns-clause-places
returns-clause-places c = λ st all one is named at.
    let P = protocol_of c.args.compilation.now.protocol.now in
    let ids : List MadeInstance = c.args.compilation.now.instances.now in
    let sources : List Source = c.args.compilation.now.sources.now in
    let x = c.index-instance.result.now in
    let found : x ≡ get_or ids c.args.index x = search rules in
    let names = named_at c.args.bank.now sources ids all c.args.index x one found c.requires.there at named in
    own_placed P c.args.phase one c.compile_at.new.bank st c.args.progress.now (record { state = c.compile_at.new.state; compiled = c.push.new.self }) c.args.index
    (sym (c.is_in.ensures c.args.bank.now one names) ∙ c.if-not-is_in.false)
    (done_where (compile_in P c.args.phase (one ∷ [])) st c.compile_at.new.bank c.compile_at.new.state c.in_ok-compile_at.field-0 c.if-not-branch.false (c.in_ok-compile_at.ensures.does st one is names)) c.in_ok-push.ensures.items
