use Rattle.std.proofs.Common.{◌≡◌, List, ℕ, subst, sym}
use Rattle.spec_protocol_scope.specs.Spells.{Spells}
use Rattle.spec_ring_text.specs.Text.{ring_text}
use Rattle.spec_ring_text.specs.Meaning.{ring_protocol}
use Rattle.ring_writer.proofs.Lines.{ring_put}
use Rattle.ring_writer.proofs.make_ring.Goals as goal

pub returns : goal.returns
returns c =
    let text : c.put_pass_lines.new.out.items ≡ ring_text c.args.n =
    ring_put c.args.n c.new-out.result.items c.put.new.out.items c.put_key_lines.new.out.items c.put_middle_lines.new.out.items c.put_pass_lines.new.out.items
    c.new-out.ensures.items c.in_ok-put.ensures c.in_ok-put_key_lines.ensures c.in_ok-put_middle_lines.ensures c.in_ok-put_pass_lines.ensures in
    record {
      text = text;
      spells = subst (λ (bs : List ℕ). Spells bs (ring_protocol c.args.n)) (sym text) (c.rings_are_protocols.ensures c.args.n c.requires.least c.requires.most);
    }
