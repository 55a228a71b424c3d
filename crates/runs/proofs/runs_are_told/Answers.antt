use Rattle.runs.proofs.Agreeing.{orders_agree, views_agree}
use Rattle.runs.proofs.Books.{runs_make_books}
use Rattle.runs.proofs.Left.{state_is_as_answered}
use Rattle.runs.proofs.Numbered.{tickets_are_numbered}
use Rattle.runs.proofs.Questions.{questions_are_told}
use Rattle.runs.proofs.Rights.{right_is_told, want_is_told, all_right_is_told, runs_go_on}
use Rattle.runs.proofs.runs_are_told.Goals as goal

pub returns : goal.returns
returns g c =
    record {
      answered = state_is_as_answered _;
      tickets = tickets_are_numbered;
      right = right_is_told _;
      questions = questions_are_told _;
      turns = all_right_is_told _;
      wants = want_is_told;
      goes = runs_go_on _;
      books = runs_make_books _;
      orders = orders_agree _;
      views = views_agree _;
    }
