use Rattle.report.proofs.Reading.{class_shows, fault_shows, report_shows, sheet_shows}
use Rattle.report.proofs.Showing.{lines_read, order_shows, views_shows}
use Rattle.report.proofs.lines_show_answers.Goals as goal

pub returns : goal.returns
returns g c =
    record {
      read = lines_read;
      class = class_shows;
      order = order_shows _;
      views = views_shows _;
      fault = fault_shows _;
      report = report_shows _;
      sheet = sheet_shows;
    }
