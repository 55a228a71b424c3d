use Rattle.runs.proofs.Shown.{order_lent, views_lent}
use Rattle.runs.proofs.lent_past_64.Goals as goal

pub returns : goal.returns
returns g c = record { order = λ es cells bytes. order_lent es cells bytes; views = λ es cells. views_lent es cells }
