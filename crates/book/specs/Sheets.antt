-- Laws of sheets: how one is cut into lines, and what is left where a line is refused.
--
--   SheetsAreLines            == the lines are the sheet, each of 16 bytes, the last of 1 to 16
--   StandsBefore es sheet f   == the lines before that of the fault are read, and no others
--   FaultsStand               == so it is wherever reading in answers a fault
--   AddsEach es sheet n       == there are n lines, and each is read as one entry
--   CountsStand               == so it is wherever reading in answers a count
--   EntriesStay               == the entries that were there stay, and come first
use Rattle.std.specs.Prelude.{◌≡◌, ℕ, ◌+◌, ◌-◌, ◌*◌, ◌<◌, ◌≤◌, List, [], length, take, Ok, Err}
use Rattle.std.specs.Prelude.{Option, slice_index_or}
use Rattle.std.specs.List.{flat_map}
use Rattle.history.specs.declared.Entry.{Entry}
use Rattle.book.specs.declared.sheets.ReadFault.{ReadFault}
use Rattle.book.specs.Reading.{lines_of, read_in}

pub record SheetsAreLines : Type 0 where
  pub together : (sheet : List ℕ) → flat_map (λ (line : List ℕ). line) (lines_of sheet) ≡ sheet
  pub whole :
      (sheet : List ℕ) (i : ℕ) → i + 1 < length (lines_of sheet) →
      length (slice_index_or (lines_of sheet) i []) ≡ 16
  pub some :
      (sheet : List ℕ) (i : ℕ) → i < length (lines_of sheet) →
      (1 ≤ length (slice_index_or (lines_of sheet) i []))
      × (length (slice_index_or (lines_of sheet) i []) ≤ 16)

module _ {K : Type 0} (parsed : List ℕ → Option K) (places : ℕ) where
  pub record StandsBefore (es : List (Entry K)) (sheet : List ℕ) (f : ReadFault) : Type 0 where
    pub first : 1 ≤ f.line
    pub within : f.line ≤ length (lines_of sheet)
    pub before :
        read_in parsed places es (take ((f.line - 1) * 16) sheet)
        ≡ record { answer = Ok (f.line - 1); entries = (read_in parsed places es sheet).entries }
    -- one entry for each of them
    pub each : length (read_in parsed places es sheet).entries ≡ length es + (f.line - 1)

  pub record AddsEach (es : List (Entry K)) (sheet : List ℕ) (n : ℕ) : Type 0 where
    pub all : n ≡ length (lines_of sheet)
    pub each : length (read_in parsed places es sheet).entries ≡ length es + n

abbrev pub FaultsStand : {K : Type 0} → (List ℕ → Option K) → Type 0
FaultsStand {K} parsed =
    (places : ℕ) (es : List (Entry K)) (sheet : List ℕ) (f : ReadFault) →
    (read_in parsed places es sheet).answer ≡ Err f → StandsBefore parsed places es sheet f

abbrev pub CountsStand : {K : Type 0} → (List ℕ → Option K) → Type 0
CountsStand {K} parsed =
    (places : ℕ) (es : List (Entry K)) (sheet : List ℕ) (n : ℕ) →
    (read_in parsed places es sheet).answer ≡ Ok n → AddsEach parsed places es sheet n

-- whatever the sheet
abbrev pub EntriesStay : {K : Type 0} → (List ℕ → Option K) → Type 0
EntriesStay {K} parsed =
    (places : ℕ) (es : List (Entry K)) (sheet : List ℕ) →
    take (length es) (read_in parsed places es sheet).entries ≡ es
