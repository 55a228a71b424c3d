use Rattle.std.proofs.Common.{◌≡◌, ℕ, List, [], ◌∷◌, ◌++◌, length, drop, decimal, sym, ap, ◌∙◌, subst, rules}
use Rattle.columns.proofs.Blanks.{length_justified}
use Rattle.lines.specs.Writing.{line_of, ReadsBack}
use Rattle.lines.proofs.RoundTrip.{item_eight, reads_back}
use Rattle.lines.proofs.Writing.{line_put}
use Rattle.lines.proofs.writes.write_line.Goals as goal

pub returns : goal.returns
returns g c =
    let e = c.args.entry.now in
    let start = c.args.space.now in
    let text = g.K.Item.text in
    let cue = c.write_number.new.field in
    let item = c.item_of.result in
    let four : length cue ≡ 4 = ap length c.write_number.ensures ∙ length_justified 4 (decimal e.cue) in
    let eight : length item ≡ 8 = ap length c.item_of.ensures ∙ (item_eight text g.met.K.Item.eight e.act).eight in
    let line : c.put-4.new.space ≡ line_of text e ++ drop 16 start =
    line_put cue item start c.put.new.space c.put-2.new.space c.put-3.new.space c.put-4.new.space c.letter_of.result four eight c.put.ensures c.put-2.ensures c.put-3.ensures c.put-4.ensures
    ∙ (λ i. (c.write_number.ensures i ++ (32 ∷ c.letter_of.ensures i ∷ 32 ∷ c.item_of.ensures i) ++ 10 ∷ []) ++ drop 16 start) in
    record {
      answer = search rules;
      space = line;
      back = λ _.
          subst (λ (bs : List ℕ). ReadsBack g.K.Item.alike g.K.Item.parsed bs e) (sym line)
          (reads_back g.K.Item.alike text g.K.Item.parsed g.met.K.Item.eight g.met.K.Item.back e (sym c.if-not-is_cue.ensures) (drop 16 start));
    }
