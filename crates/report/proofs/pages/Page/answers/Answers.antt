use Rattle.std.proofs.Common.{refl, rules, append_assoc}
use Rattle.recovery.proofs.ByPlaces.{class_right}
use Rattle.equivalence.specs.Laws.{Sameness}
use Rattle.equivalence.proofs.FirstOrders.{first_orders}
use Rattle.book.specs.Entering.{accepted}
use Rattle.report.proofs.pages.Page.answers.Goals as goal

pub returns : goal.returns
returns g c =
    let alike = g.K.Item.alike in
    let es = accepted c.args.book.now in
    let same : Sameness alike = record { reflexive = g.met.K.Item.reflexive; symmetric = g.met.K.Item.symmetric; transitive = g.met.K.Item.transitive } in
    let order = c.order.ensures in
    record {
      shown = order.shown;
      is = search (rules, append_assoc);
      right =
          record {
            class = class_right alike es _ refl;
            order = (first_orders _).order alike es order.shown order.cycle;
            view = (first_orders _).view alike same es order.shown;
            views = (first_orders _).views alike same es;
          };
    }
