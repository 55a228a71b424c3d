-- What a whole line is cut into. Assumes nothing.
use Rattle.std.proofs.Common.{◌≡◌, ℕ, ◌-◌, ◌≤◌, true, List, [], ◌∷◌, length, drop, Some, Ok, Err, sym, refl, ◌∙◌, subst, inl, inr, arith}
use Rattle.std.specs.List.{between}
use Rattle.std.proofs.lemmas.List.{length-drop, length-take-le}
use Rattle.std.proofs.lemmas.Bool.{false≢true, and_parts, cases_Bool, cond-true, cond-false, leb-true}
use Rattle.refusals.specs.declared.LineRefusal.TheVariants.{Shape}
use Rattle.lines.specs.Cutting.{CutLine, WellCut, whole, line_cut, cut_of}

pub cut_whole : (bs : List ℕ) → whole bs ≡ true → cut_of bs ≡ Ok (Some (line_cut bs))
cut_whole [] h = absurd (false≢true h)
cut_whole (b ∷ bs) h = cond-true (whole (b ∷ bs)) (Ok (Some (line_cut (b ∷ bs)))) (Err Shape) h

pub whole_long : (bs : List ℕ) → whole bs ≡ true → 16 ≤ length bs
whole_long bs h = leb-true 16 (length bs) (and_parts _ _ h).0

length_part : (a e : ℕ) (bs : List ℕ) → a ≤ e → e ≤ length bs → length (between a e bs) ≡ e - a
length_part a e bs h k = length-take-le (e - a) (drop a bs) (simp length-drop (omega arith))

line_well : (bs : List ℕ) → 16 ≤ length bs → WellCut (line_cut bs)
line_well bs h = record {
  cue_filled = refl;
  cue_wide = length_part 0 4 bs (omega arith) (omega arith);
  item_filled = refl;
  item_wide = length_part 7 15 bs (omega arith) (omega arith);
}

-- what was cut is well cut
pub cut_well : (bs : List ℕ) (l : CutLine) → cut_of bs ≡ Ok (Some l) → WellCut l
cut_well [] l e = absurd (let z : ◌≡◌ {A = ℕ} 0 1 = cc in omega arith)
cut_well (b ∷ bs) l e =
    elim (cases_Bool (whole (b ∷ bs))) [
      | inl t ↦
          let is : line_cut (b ∷ bs) ≡ l = let both = sym (cut_whole (b ∷ bs) t) ∙ e in cc in
          subst WellCut is (line_well (b ∷ bs) (whole_long (b ∷ bs) t))
      | inr t ↦
          let both = sym (cond-false (whole (b ∷ bs)) (Ok (Some (line_cut (b ∷ bs)))) (Err Shape) t) ∙ e in
          absurd (let z : ◌≡◌ {A = ℕ} 0 1 = cc in omega arith)
    ]
