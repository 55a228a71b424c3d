-- What writing a line answers and leaves, by the columns of a line, which count from 1.
--
--   SameAfter old new               == the columns after 16 are the same
--   SaysWriting e n r               == the answer to writing e into n bytes is r
--   letter_text a                   == the letter of the act a, as it is printed
--   ItemIs a k                      == the act a is on the item k
--   HasItem text bs a               == columns 8 to 15 have the item of the act a, or blanks
--   IsLineOf text e bs              == the bytes are the line of e
--   HasLine text e old new          == columns 1 to 16 are the line of e, and the others as before
--   LeavesWriting text e r old new  == what is left after writing e with the answer r
--   LeavesRewriting text r old new  == what is left after rewriting a line with the answer r
--   LeavesCopying r bs old new      == what is left after copying a line of bs with the answer r
--   SaysRewriting parsed bs n r     == the answer to rewriting the first line of bs is r
--   SaysCopying parsed bs n r       == the answer to copying the first line of bs is r
--   IsAgain alike e f               == f has the cue, the letter and the item of e
--   WritingIsTold, RewritingIsTold  == what is answered and left is what these relations say
use Rattle.std.specs.Prelude.{◌≡◌, ℕ, ◌<◌, ◌≤◌, ◌↔◌, ◌⊎◌, Bool, true, false, List, [], ◌∷◌}
use Rattle.std.specs.Prelude.{length, replicate, decimal, codes}
use Rattle.std.specs.Prelude.{Some, None, Ok, Err, Option, Result}
use Rattle.refusals.specs.declared.Layer.{Layer}
use Rattle.refusals.specs.declared.Layer.TheVariants.{Line, Book}
use Rattle.refusals.specs.declared.Refusal.{Refusal}
use Rattle.refusals.specs.declared.Refusal.TheVariants.{NoSuchCue, SpaceShort}
use Rattle.history.specs.declared.Act.{Act}
use Rattle.history.specs.declared.Act.TheVariants.{Read, Write, Commit, Abort}
use Rattle.history.specs.declared.Entry.{Entry}
use Rattle.history.specs.Places.{IsCue}
use Rattle.columns.specs.NumbersAreTexts.{IsJustified}
use Rattle.lines.specs.Writing.{letter_of, line_of, line_written, space_after, SameAct}
use Rattle.lines.specs.Writing.{rewritten, space_rewritten, copied, space_copied, ReadsBack}
use Rattle.lines.specs.LineIsTold.{column_at, StandsAt, HasLetter, SaysEntry, SaysFirst}

abbrev pub SameAfter : List ℕ → List ℕ → Type 0
SameAfter old new = (c : ℕ) → 16 < c → column_at new c ≡ column_at old c

module _ {K : Type 0} where
  -- refused for the cue, or else for the space, or for nothing
  abbrev pub SaysWriting : Entry K → ℕ → Result (Unit {0}) Refusal → Type 0
  SaysWriting e n (Ok x) = IsCue e.cue × (16 ≤ n)
  SaysWriting e n (Err f) =
      ((f ≡ NoSuchCue) × (IsCue e.cue → ⊥))
      ⊎ ((f ≡ SpaceShort) × IsCue e.cue × (n < 16))

  abbrev pub letter_text : Act K → List ℕ
  letter_text (Read k) = codes "r"
  letter_text (Write k) = codes "w"
  letter_text Commit = codes "c"
  letter_text Abort = codes "a"

  abbrev pub ItemIs : Act K → K → Type 0
  ItemIs (Read i) k = i ≡ k
  ItemIs (Write i) k = i ≡ k
  ItemIs Commit k = ⊥
  ItemIs Abort k = ⊥

module _ {K : Type 0} (text : K → List ℕ) where
  abbrev pub HasItem : List ℕ → Act K → Type 0
  HasItem bs (Read k) = StandsAt bs 8 (text k)
  HasItem bs (Write k) = StandsAt bs 8 (text k)
  HasItem bs Commit = StandsAt bs 8 (replicate 8 32)
  HasItem bs Abort = StandsAt bs 8 (replicate 8 32)

  -- its cue is right-justified in columns 1 to 4
  pub record IsLineOf (e : Entry K) (bs : List ℕ) : Type 0 where
    pub long : length bs ≡ 16
    pub field : List ℕ
    pub cue : IsJustified 4 (decimal e.cue) field
    pub stands : StandsAt bs 1 field
    pub letter : HasLetter bs e.act
    pub item : HasItem bs e.act
    pub feed : column_at bs 16 ≡ Some 10

  pub record HasLine (e : Entry K) (old new : List ℕ) : Type 0 where
    pub line : List ℕ
    pub told : IsLineOf e line
    pub stands : StandsAt new 1 line
    pub rest : SameAfter old new

  abbrev pub LeavesWriting : Entry K → Result (Unit {0}) Refusal → List ℕ → List ℕ → Type 0
  LeavesWriting e (Ok x) old new = HasLine e old new
  LeavesWriting e (Err f) old new = new ≡ old

  abbrev pub LeavesRewriting : Result (Option (Entry K)) Layer → List ℕ → List ℕ → Type 0
  LeavesRewriting (Ok (Some e)) old new = HasLine e old new
  LeavesRewriting (Ok None) old new = new ≡ old
  LeavesRewriting (Err f) old new = new ≡ old

abbrev pub LeavesCopying : Result Bool Layer → List ℕ → List ℕ → List ℕ → Type 0
LeavesCopying (Ok true) bs old new =
    ((c : ℕ) → c ≤ 16 → column_at new c ≡ column_at bs c) × SameAfter old new
LeavesCopying (Ok false) bs old new = new ≡ old
LeavesCopying (Err f) bs old new = new ≡ old

module _ {K : Type 0} (parsed : List ℕ → Option K) where
  -- refused as reading, or as writing the entry that the line says
  abbrev pub SaysRewriting : List ℕ → ℕ → Result (Option (Entry K)) Layer → Type 0
  SaysRewriting bs n (Ok None) = bs ≡ []
  SaysRewriting bs n (Ok (Some e)) = SaysEntry parsed bs e × SaysWriting e n (Ok tt)
  SaysRewriting bs n (Err (Line f)) = SaysFirst parsed bs (Err f)
  SaysRewriting bs n (Err (Book f)) =
      (e : Entry K) × SaysEntry parsed bs e × SaysWriting e n (Err f)

  abbrev pub SaysCopying : List ℕ → ℕ → Result Bool Layer → Type 0
  SaysCopying bs n (Ok true) = (e : Entry K) × SaysRewriting bs n (Ok (Some e))
  SaysCopying bs n (Ok false) = bs ≡ []
  SaysCopying bs n (Err f) = SaysRewriting bs n (Err f)

-- items are compared where both entries are on one
pub record IsAgain {K : Type 0} (alike : K → K → Bool) (e f : Entry K) : Type 0 where
  pub cue : e.cue ≡ f.cue
  pub letter : letter_of e.act ≡ letter_of f.act
  pub items : (k l : K) → ItemIs e.act k → ItemIs f.act l → alike k l ≡ true

pub record WritingIsTold {K : Type 0} (text : K → List ℕ) : Type 0 where
  pub answer :
      (e : Entry K) (n : ℕ) (r : Result (Unit {0}) Refusal) →
      SaysWriting e n r ↔ (r ≡ line_written e n)
  pub letter : (a : Act K) → letter_of a ∷ [] ≡ letter_text a
  -- acts are the same where their letters are and, where they are on items, these are alike
  pub same :
      (alike : K → K → Bool) (a b : Act K) →
      SameAct alike a b
      ↔ ((letter_of a ≡ letter_of b)
      × ((k l : K) → ItemIs a k → ItemIs b l → alike k l ≡ true))
  pub line : (e : Entry K) (bs : List ℕ) → IsLineOf text e bs ↔ (bs ≡ line_of text e)
  pub space :
      (e : Entry K) (r : Result (Unit {0}) Refusal) (old new : List ℕ) →
      LeavesWriting text e r old new ↔ (new ≡ space_after text e r old)

-- a sheet from which a line was copied has the 16 bytes of it
pub record RewritingIsTold {K : Type 0} (parsed : List ℕ → Option K) (text : K → List ℕ)
    : Type 0 where
  pub answer :
      (bs : List ℕ) (n : ℕ) (r : Result (Option (Entry K)) Layer) →
      SaysRewriting parsed bs n r ↔ (r ≡ rewritten parsed bs n)
  pub space :
      (r : Result (Option (Entry K)) Layer) (old new : List ℕ) →
      LeavesRewriting text r old new ↔ (new ≡ space_rewritten text r old)
  pub copy :
      (bs : List ℕ) (n : ℕ) (r : Result Bool Layer) →
      SaysCopying parsed bs n r ↔ (r ≡ copied parsed bs n)
  pub space_of_copy :
      (r : Result Bool Layer) (bs old new : List ℕ) → 16 ≤ length bs →
      LeavesCopying r bs old new ↔ (new ≡ space_copied r bs old)
  -- bytes are read back as an entry where they say that entry again
  pub back :
      (alike : K → K → Bool) (bs : List ℕ) (e : Entry K) →
      ReadsBack alike parsed bs e ↔ ((f : Entry K) × SaysEntry parsed bs f × IsAgain alike e f)
