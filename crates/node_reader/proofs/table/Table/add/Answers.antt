use Rattle.std.proofs.Common.{Bool, List, [], ◌∷◌, ◌++◌, length, sym, ap, ◌∙◌, arith}
use Rattle.spec_node_tables.specs.Text.{node_numbers}
use Rattle.spec_node_counts.specs.Nodes.{is_bound_node}
use Rattle.node_lines.specs.Seen.{node_of}
use Rattle.node_reader.specs.Tables.{table_of}
use Rattle.node_reader.proofs.Terms.{added_again, added_large, added_new, starts_on}
use Rattle.node_reader.proofs.table.Table.add.Goals as goal

pub returns-then-len-nodes : goal.returns-then-len-nodes
returns-then-len-nodes c = λ place rest.
    added_again (table_of c.args.self.now) c.put.new.bank c.args.from (node_of c.args.node.now) place rest c.in_ok-id.ensures.added
    (sym c.len.ensures ∙ (c.if-len-nodes.true ∙ c.len-nodes.ensures))

pub returns-then-size-gt-MOST_SYMBOLS : goal.returns-then-size-gt-MOST_SYMBOLS
returns-then-size-gt-MOST_SYMBOLS c = λ place rest.
    added_large (table_of c.args.self.now) c.put.new.bank c.in_ok-id.id c.args.from (node_of c.args.node.now) place rest c.size.result c.in_ok-id.ensures.found c.in_ok-id.ensures.added
    (λ e. c.if-len-nodes.false (c.len.ensures ∙ (e ∙ sym c.len-nodes.ensures))) c.in_ok-id.ensures.names c.size.ensures c.if-size-gt-MOST_SYMBOLS.true

pub returns : goal.returns
returns c = λ place rest.
    let T = table_of c.args.self.now in
    let starts = starts_on T.starts c.push.new.self.items _ _ _ (length T.terms) (node_numbers (node_of c.args.node.now)) c.in_ok-push.ensures.items (c.in_ok-small.ensures ∙ c.start_of_node-start.ensures) c.deref.ensures.value c.len-nodes.ensures in
    let bounds = c.in_ok-push-2.ensures.items ∙ ap (λ (b : Bool). T.bounds ++ b ∷ []) (c.is_bound_node-is_bound.ensures ∙ ap (λ (bs : List Bool). is_bound_node bs (node_of c.args.node.now)) c.deref-2.ensures.value) in
    added_new T c.put.new.bank c.in_ok-id.id c.args.from (node_of c.args.node.now) place rest c.size.result c.push.new.self.items c.push-2.new.self.items c.in_ok-id.ensures.found c.in_ok-id.ensures.added
    (λ e. c.if-len-nodes.false (c.len.ensures ∙ (e ∙ sym c.len-nodes.ensures))) c.in_ok-id.ensures.names c.size.ensures (omega arith) starts bounds
