use Rattle.spec_node_starts.proofs.Order.{front_where, completed_on}
use Rattle.spec_node_starts.proofs.starts_tell_the_order.Goals as goal

pub returns-clause-order : goal.returns-clause-order
returns-clause-order c = λ ts starts seen k n is. front_where ts starts is seen k n

pub returns-clause-complete : goal.returns-clause-complete
returns-clause-complete c = λ ts starts seen k n is. completed_on ts starts is seen k n
