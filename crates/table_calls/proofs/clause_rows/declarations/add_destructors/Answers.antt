use Rattle.std.proofs.Common.{◌≡◌, ◌∙◌, map, ap}
use Rattle.pi_tree.specs.declared.protocols.Protocol as declared
use Rattle.pi_tree.specs.Rules.{destructor_of}
use Rattle.clause_terms.proofs.Rows.{all_at}
use Rattle.table_calls.specs.Declaring.{CanAllBeShown}
use Rattle.table_calls.proofs.clause_rows.declarations.add_destructors.Goals as goal

pub add_rules-requires : goal.add_rules-requires
add_rules-requires c =
    let seen : map destructor_of c.deref-destructor-items.result.now ≡ c.args.protocol.now.dtors = ap (map destructor_of) c.deref-destructor-items.ensures.value ∙ ap (λ (p : declared.Protocol). p.dtors) c.protocol.view_is in
    all_at CanAllBeShown destructor_of c.deref-destructor-items.result.now c.args.protocol.now.dtors c.loop-destructor.destructor-index c.destructor-item.result seen c.requires c.loop-destructor-test.true c.destructor-item.is
