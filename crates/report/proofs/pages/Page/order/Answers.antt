use Rattle.std.proofs.Common.{replicate, refl}
use Rattle.book.specs.Entering.{accepted}
use Rattle.report.proofs.Writing.{order_written, cycle_written, order_taken}
use Rattle.report.proofs.pages.Page.order.Goals as goal

pub returns-in-Ok-Order : goal.returns-in-Ok-Order
returns-in-Ok-Order g c =
    order_written g.K.Item.alike (accepted c.args.book.now) (replicate 64 0) (replicate 64 0) c.order.new.list c.args.self.now _ c.in-Ok-Order.count c.order.auto.list
    c.in-Ok-Order.field-0 c.in-Ok-Order.ensures.answer c.in-Ok-Order.ensures.list c.in-Ok-Order.ensures.right c.in-Ok-Order.field-0-is c.line.ensures

pub returns-in-Ok-Cycle : goal.returns-in-Ok-Cycle
returns-in-Ok-Cycle g c =
    cycle_written g.K.Item.alike (accepted c.args.book.now) (replicate 64 0) (replicate 64 0) c.order.new.list c.args.self.now _ c.in-Ok-Cycle.count c.order.auto.list
    c.in-Ok-Cycle.field-0 c.in-Ok-Cycle.ensures.answer c.in-Ok-Cycle.ensures.list c.in-Ok-Cycle.ensures.right c.in-Ok-Cycle.field-0-is c.line-in-Ok-Cycle.ensures

pub unreachable-requires : goal.unreachable-requires
unreachable-requires g c =
    order_taken g.K.Item.alike (accepted c.args.book.now) (replicate 64 0) (replicate 64 0) c.in-Err.field-0 refl refl c.in-Err.ensures.answer
