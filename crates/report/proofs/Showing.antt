-- The lines of a report show what the calls answer.
use Rattle.std.proofs.Common.{◌≡◌, ℕ, zero, suc, ◌+◌, ◌*◌, ◌≤◌, Bool, true, false, cond, ltb, List, [], ◌∷◌, ◌++◌, length, take, drop, get_or, Some, None, Ok, Err, Option, sym, refl, ap, ◌∙◌, append_assoc, decimal, arith}
use Rattle.std.proofs.Math.Seq.{drop-append-add}
use Rattle.std.specs.List.{flat_map, slice_get}
use Rattle.std.proofs.lemmas.Bool.{le-ltb, ltb-false}
use Rattle.std.proofs.lemmas.List.{length-append, take_at}
use Rattle.refusals.specs.declared.Refusal.{Refusal}
use Rattle.refusals.specs.declared.Refusal.TheVariants.{ManyCues, ListShort}
use Rattle.columns.specs.Columns.{number, number_in}
use Rattle.columns.proofs.Blanks.{length_justified}
use Rattle.columns.proofs.Numbers.{number_number_in}
use Rattle.history.specs.Order.{committed_cues, conflict_order}
use Rattle.history.specs.Views.{view_order}
use Rattle.graphs.specs.declared.Found.TheVariants.{Order, Cycle}
use Rattle.serial.specs.OrderAnswer.{order_refusal, answer_by, list_by}
use Rattle.views.specs.Answer.{answered, left}
use Rattle.report.specs.Text.{order, cycle, views, vnone, vmany, line, order_line, views_line}
use Rattle.report.specs.Laws.{LinesAreRead, OrderLineShows, ViewsLineShows}
use Rattle.report.proofs.Writing.{numbers_long}

-- the line feed stands after the word and the numbers
before_feed : (word ns : List ℕ) → length (word ++ flat_map (number_in 5) ns) ≡ length word + 5 * length ns
before_feed word ns = length-append word (flat_map (number_in 5) ns) ∙ ap (λ (n : ℕ). length word + n) (numbers_long ns)

feed_last : (word ns : List ℕ) → line word ns ≡ (word ++ flat_map (number_in 5) ns) ++ 10 ∷ []
feed_last word ns = sym (append_assoc word (flat_map (number_in 5) ns) (10 ∷ []))

pub drop_all : (xs ys : List ℕ) (n : ℕ) → length xs ≡ n → drop n (xs ++ ys) ≡ ys
drop_all xs ys n long = (let e : n ≡ length xs + 0 = omega (arith, long) in ap (λ (k : ℕ). drop k (xs ++ ys)) e) ∙ drop-append-add xs ys 0

number_at : (ns tail : List ℕ) (i n : ℕ) → slice_get ns i ≡ Some n → take 5 (drop (5 * i) (flat_map (number_in 5) ns ++ tail)) ≡ number_in 5 n
number_at [] tail i n h = cc
number_at (m ∷ ns) tail zero n h =
    let e : m ≡ n = cc in
    ap (take 5) (append_assoc (number_in 5 m) (flat_map (number_in 5) ns) tail)
    ∙ take_at (number_in 5 m) (flat_map (number_in 5) ns ++ tail) 5 (length_justified 5 (decimal m))
    ∙ ap (number_in 5) e
number_at (m ∷ ns) tail (suc i) n h =
    let five : 5 * suc i ≡ length (number_in 5 m) + 5 * i = omega (arith, length_justified 5 (decimal m)) in
    ap (take 5)
    ((λ k. drop (five k) (append_assoc (number_in 5 m) (flat_map (number_in 5) ns) tail k))
    ∙ drop-append-add (number_in 5 m) (flat_map (number_in 5) ns ++ tail) (5 * i))
    ∙ number_at ns tail i n h

pub lines_read : LinesAreRead
lines_read =
    record {
      long = λ word ns.
          ap length (feed_last word ns)
          ∙ length-append (word ++ flat_map (number_in 5) ns) (10 ∷ [])
          ∙ ap (λ (n : ℕ). n + 1) (before_feed word ns);
      word = λ word ns. take_at word (flat_map (number_in 5) ns ++ 10 ∷ []) (length word) refl;
      numbers = λ word ns i n h small.
          ap (λ (xs : List ℕ). number (take 5 xs)) (drop-append-add word (flat_map (number_in 5) ns ++ 10 ∷ []) (5 * i))
          ∙ ap number (number_at ns (10 ∷ []) i n h)
          ∙ number_number_in 5 n (omega arith) small (omega (arith, small));
      feed = λ word ns.
          ap (drop (length word + 5 * length ns)) (feed_last word ns)
          ∙ drop_all (word ++ flat_map (number_in 5) ns) (10 ∷ []) (length word + 5 * length ns) (before_feed word ns);
    }

module _ (list c : List ℕ) (n : ℕ) where
  order_shown : (r : Option Refusal) (o : Option (List ℕ)) → answer_by r o c ≡ Ok (Order n) → order_line o c ≡ line order (take n (list_by r o c list))
  order_shown (Some e) o h = cc
  order_shown None None h = cc
  order_shown None (Some o) h = let long : length o ≡ n = cc in ap (line order) (sym (take_at o (drop (length o) list) n long))

  cycle_shown : (r : Option Refusal) (o : Option (List ℕ)) → answer_by r o c ≡ Ok (Cycle n) → order_line o c ≡ line cycle (take n (list_by r o c list))
  cycle_shown (Some e) o h = cc
  cycle_shown None (Some o) h = cc
  cycle_shown None None h = let long : length c ≡ n = cc in ap (line cycle) (sym (take_at c (drop (length c) list) n long))

abbrev pub refusal_where : Bool → Bool → Option Refusal
refusal_where many short = cond many (Some ManyCues) (cond short (Some ListShort) None)

abbrev pub text_where : Bool → Option (List ℕ) → List ℕ
text_where many o = cond many (line vmany []) (views_line o)

many_other : (o : Option (List ℕ)) → views_line o ≡ line vmany [] → ⊥
many_other None e = let b : ◌≡◌ {A = ℕ} 110 109 = ap (λ (xs : List ℕ). get_or xs 1 0) e in omega arith
many_other (Some o) e = let b : ◌≡◌ {A = ℕ} 105 109 = ap (λ (xs : List ℕ). get_or xs 1 0) e in omega arith

text_many : (many short : Bool) (o : Option (List ℕ)) → text_where many o ≡ line vmany [] → answered (refusal_where many short) o ≡ Err ManyCues
text_many true short o e = refl
text_many false short o e = absurd (many_other o e)

many_text : (many short : Bool) (o : Option (List ℕ)) → answered (refusal_where many short) o ≡ Err ManyCues → text_where many o ≡ line vmany []
many_text true short o e = refl
many_text false true o e = cc
many_text false false o e = cc

text_none : (many short : Bool) (o : Option (List ℕ)) → (many ≡ false → short ≡ false) → text_where many o ≡ line vnone [] → answered (refusal_where many short) o ≡ Ok None
text_none true short o room e = let b : ◌≡◌ {A = ℕ} 109 110 = ap (λ (xs : List ℕ). get_or xs 1 0) e in absurd (omega arith)
text_none false short None room e = ap (λ (s : Bool). answered (refusal_where false s) None) (room refl)
text_none false short (Some o) room e = let b : ◌≡◌ {A = ℕ} 105 110 = ap (λ (xs : List ℕ). get_or xs 1 0) e in absurd (omega arith)

none_text : (many short : Bool) (o : Option (List ℕ)) → answered (refusal_where many short) o ≡ Ok None → text_where many o ≡ line vnone []
none_text true short o e = cc
none_text false true o e = cc
none_text false false None e = refl
none_text false false (Some o) e = cc

text_shown : (many short : Bool) (o : Option (List ℕ)) (list : List ℕ) (n : ℕ) → answered (refusal_where many short) o ≡ Ok (Some n) → text_where many o ≡ line views (take n (left (refusal_where many short) o list))
text_shown true short o list n e = cc
text_shown false true o list n e = cc
text_shown false false None list n e = cc
text_shown false false (Some o) list n e = let long : length o ≡ n = cc in ap (line views) (sym (take_at o (drop (length o) list) n long))

-- eight cells are enough where no more cues are committed
roomy : (cells size : ℕ) → 8 ≤ cells → ltb 8 size ≡ false → ltb cells size ≡ false
roomy cells size room few = le-ltb cells size (omega (arith, ltb-false 8 size few))

pub order_shows : (K : Type 0) → OrderLineShows K
order_shows K =
    record {
      ordered = λ alike es list strip c n. order_shown list c n (order_refusal es (length list) (length strip)) (conflict_order alike es);
      cyclic = λ alike es list strip c n. cycle_shown list c n (order_refusal es (length list) (length strip)) (conflict_order alike es);
    }

pub views_shows : (K : Type 0) → ViewsLineShows K
views_shows K =
    record {
      many = λ alike es list.
          let size = length (committed_cues es) in
          (text_many (ltb 8 size) (ltb (length list) size) (view_order alike es), many_text (ltb 8 size) (ltb (length list) size) (view_order alike es));
      none = λ alike es list room.
          let size = length (committed_cues es) in (
            text_none (ltb 8 size) (ltb (length list) size) (view_order alike es) (roomy (length list) size room),
            none_text (ltb 8 size) (ltb (length list) size) (view_order alike es),
          );
      shown = λ alike es list n.
          let size = length (committed_cues es) in
          text_shown (ltb 8 size) (ltb (length list) size) (view_order alike es) list n;
    }
