use Rattle.std.proofs.Common.{rules, ◌≡◌, ℕ, ◌+◌, min, length, take, Ok, Err, sym, ap, ◌∙◌, arith}
use Rattle.std.proofs.lemmas.List.{length-drop}
use Rattle.std.specs.Iterator.Adapters.{enumerate_source, enumerate_count}
use Rattle.std.specs.Slice.Iter.{chunks_rest}
use Rattle.book.specs.Entering.{room, accepted}
use Rattle.book.specs.Reading.{Taken, lines_of, next_entered, told, added, read_from}
use Rattle.book.proofs.Entering.{lays_two}
use Rattle.book.proofs.Reading.{Cut, cut, turn_fault, turn_more}
use Rattle.book.proofs.ReadsIn.{reads_by}
use Rattle.book.proofs.Book.read_in.Given as given
use Rattle.book.proofs.Book.read_in.Goals as goal
use Rattle.book.proofs.Book.read_in.Goals.{After-enter_line}

-- the turn's line is the first of what remains
cut_here : (g : given.Over) (c : After-enter_line g) → Cut c.in-Some.line.now (chunks_rest (enumerate_source c.next.new.self)) (chunks_rest (enumerate_source c.loop-i.i-iterator))
cut_here g c =
    let chunk = c.in-Some.ensures.steps.0.1 in
    cut c.in-Some.line.now (chunks_rest (enumerate_source c.next.new.self)) (chunks_rest (enumerate_source c.loop-i.i-iterator)) chunk.0
    (chunk.1 ∙ ap (λ (n : ℕ). min n (length (chunks_rest (enumerate_source c.loop-i.i-iterator)))) c.loop-i.invariant.4)

-- and the book has as many places as at the start
line_is : (g : given.Over) (c : After-enter_line g) → next_entered g.K.Item.parsed (room c.loop-i.self) (accepted c.loop-i.self) c.in-Some.line.now ≡ next_entered g.K.Item.parsed (room c.args.self.now) (accepted c.loop-i.self) (take 16 (chunks_rest (enumerate_source c.loop-i.i-iterator)))
line_is g c =
    let places = ap (λ (n : ℕ). min n 4096) c.loop-i.invariant.1.size in
    (λ i. next_entered g.K.Item.parsed (places i) (accepted c.loop-i.self) ((cut_here g c).first i))

grows_by : (g : given.Over) (c : After-enter_line g) → accepted c.enter_line.new.self ≡ added (accepted c.loop-i.self) (next_entered g.K.Item.parsed (room c.args.self.now) (accepted c.loop-i.self) (take 16 (chunks_rest (enumerate_source c.loop-i.i-iterator))))
grows_by g c = c.enter_line.ensures.grows ∙ ap (added (accepted c.loop-i.self)) (line_is g c)

pub loop-i-preserved : goal.loop-i-preserved
loop-i-preserved g c =
    let at = (goal.at.loop-i-preserved g c).After-enter_line in
    let n = enumerate_count c.loop-i.i-iterator in
    let rest = chunks_rest (enumerate_source c.loop-i.i-iterator) in
    let steps = c.in-Some.ensures.steps in
    let t = turn_more g.K.Item.parsed (room c.args.self.now) (accepted c.loop-i.self) n rest steps.0.1.2
    (sym (c.enter_line.ensures.answer ∙ ap told (line_is g at)) ∙ search rules) in
    let more = ap length (grows_by g at) ∙ t.longer in
    let after = (cut_here g at).others in (
      (λ i. read_from g.K.Item.parsed (room c.args.self.now) (steps.2 i) (grows_by g at i) (lines_of (after i))) ∙ t.same ∙ c.loop-i.invariant.0,
      lays_two c.args.self.now c.loop-i.self c.enter_line.new.self c.loop-i.invariant.1 c.enter_line.ensures.lays c.loop-i.invariant.2 (omega (arith, more)),
      omega (arith, more, c.loop-i.invariant.2),
      omega (arith, ap length after, length-drop 16 rest, steps.0.1.2, steps.2, c.loop-i.invariant.3),
      steps.0.0 ∙ c.loop-i.invariant.4,
    )

pub returns-in-Err : goal.returns-in-Err
returns-in-Err g c =
    let at = (goal.at.returns-in-Err g c).After-enter_line in
    let t = turn_fault g.K.Item.parsed (room c.args.self.now) (accepted c.loop-i.self) (enumerate_count c.loop-i.i-iterator) (chunks_rest (enumerate_source c.loop-i.i-iterator)) c.in-Err.layer
    (sym (c.enter_line.ensures.answer ∙ ap told (line_is g at)) ∙ c.in-Err.is) in
    let all = sym t.0 ∙ c.loop-i.invariant.0 in
    let none = grows_by g at ∙ t.1 in
    let answer = ap Err (c.from.ensures ∙ (λ i. record { line = c.in-Some.ensures.steps.1 i + 1; layer = c.in-Err.layer })) ∙ ap (λ (x : Taken _). x.answer) all in
    let grows = none ∙ ap (λ (x : Taken _). x.entries) all in
    record {
      answer = answer;
      grows = grows;
      reads = reads_by g.K.Item.parsed (room c.args.self.now) (accepted c.args.self.now) c.args.sheet.now (Err c.from.result) (accepted c.enter_line.new.self) answer grows;
      lays = lays_two c.args.self.now c.loop-i.self c.enter_line.new.self c.loop-i.invariant.1 c.enter_line.ensures.lays c.loop-i.invariant.2 (omega (arith, ap length none));
    }

pub returns-clause-reads : goal.returns-clause-reads
returns-clause-reads g c =
    reads_by g.K.Item.parsed (room c.args.self.now) (accepted c.args.self.now) c.args.sheet.now (Ok c.div_ceil.result) (accepted c.loop-i.self) (search rules) (search rules)
