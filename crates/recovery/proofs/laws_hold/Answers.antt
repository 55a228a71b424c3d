use Rattle.recovery.proofs.Acts.{breaks_are_at_their_acts}
use Rattle.recovery.proofs.BreakLaws.{breaks_stay, first_break_lem, breaks_come_together}
use Rattle.recovery.proofs.ByPlaces.{source_is_read_from, breaks_are_by_places, class_is_by_places}
use Rattle.recovery.proofs.ClassLaws.{class_never_rises}
use Rattle.recovery.proofs.Numbers.{class_is_numbered}
use Rattle.recovery.proofs.Sources.{read_has_one_source, own_write_is_read, serial_is_strict}
use Rattle.recovery.proofs.laws_hold.Goals as goal

pub returns : goal.returns
returns g c =
    record {
      stay = breaks_stay _;
      first = first_break_lem _;
      together = breaks_come_together _;
      falls = class_never_rises _;
      source = source_is_read_from _;
      places = breaks_are_by_places _;
      class = class_is_by_places _;
      numbers = class_is_numbered _;
      one = read_has_one_source _;
      own = own_write_is_read _;
      acts = breaks_are_at_their_acts _;
      serial = serial_is_strict _;
    }
