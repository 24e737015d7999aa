use Rattle.js_object.proofs.Orders.{keys_in_order, parts_in_order}
use Rattle.js_object.proofs.order.keys_have_one_order.Goals as goal

pub returns-clause-keys : goal.returns-clause-keys
returns-clause-keys c = keys_in_order

pub returns-clause-parts : goal.returns-clause-parts
returns-clause-parts c = parts_in_order
