-- What a data command has heard and moved since it began.
use Rattle.std.specs.Prelude.{◌≡◌, ◌⊎◌, ℕ, ◌+◌, ◌≤◌, Bool, true, false, List, [], ◌∷◌, length}
use Rattle.fdc_stages.specs.Common.{with_word, turn_after}

pub record Past : Type 0 where
  -- the revolutions that an index pulse ended, the latest first
  pub turns : List (List ℕ)
  -- the words heard since the last index pulse
  pub seen : List ℕ
  -- how many words have passed since the last index pulse, heard or not
  pub place : ℕ
  -- the bytes given to memory
  pub given : List ℕ
  -- the bytes taken from memory
  pub taken : List ℕ
  -- the words written
  pub words : List ℕ
  -- how many device steps have passed
  pub steps : ℕ
  -- whether the terminal count came
  pub counted : Bool
  -- whether the write gate could not be opened because the data rate was a different one
  pub barred : Bool

-- a command that begins
abbrev pub begun : Past
begun = record { turns = []; seen = []; place = 0; given = []; taken = []; words = []; steps = 0; counted = false; barred = false }

-- the revolutions that are over after these words, by whether the index pulse followed the words
abbrev pub turns_after : Bool → List (List ℕ) → List ℕ → List (List ℕ)
turns_after true turns words = words ∷ turns
turns_after false turns words = turns

-- how many words have passed since the index pulse, by whether it followed the last word
abbrev pub place_after : Bool → ℕ → ℕ
place_after true place = 0
place_after false place = place + 1

-- a word was heard. The Bool says whether the index pulse followed it
abbrev pub heard : Bool → ℕ → Past → Past
heard index word past = record past {
  turns = turns_after index past.turns (with_word past.seen word);
  seen = turn_after index past.seen word;
  place = place_after index past.place;
}

-- a word was heard in place of one that was to be written, because the write gate could not be opened
abbrev pub kept_out : Bool → ℕ → Past → Past
kept_out index word past = record (heard index word past) { barred = true }

-- a word was written. The Bool says whether the index pulse followed it. What was heard in this revolution stays
abbrev pub wrote : Bool → ℕ → Past → Past
wrote index word past = record past {
  place = place_after index past.place;
  words = with_word past.words word;
}

-- the words are one of these revolutions
abbrev pub IsAmong : List (List ℕ) → List ℕ → Type 0
IsAmong [] words = ⊥
IsAmong (turn ∷ turns) words = (words ≡ turn) ⊎ IsAmong turns words

-- the words are those of one revolution: either those since the last index pulse, or those of a revolution that is over
abbrev pub IsTurnIn : List (List ℕ) → List ℕ → List ℕ → Type 0
IsTurnIn turns seen words = (words ≡ seen) ⊎ IsAmong turns words

abbrev pub IsTurn : Past → List ℕ → Type 0
IsTurn past words = IsTurnIn past.turns past.seen words

-- the revolution is the one that the last word ended
pub record IsJustOver (past : Past) (turn : List ℕ) : Type 0 where
  pub earlier : List (List ℕ)
  pub last : past.turns ≡ turn ∷ earlier
  pub nothing : past.seen ≡ []

-- how many words were heard
abbrev pub words_in : List (List ℕ) → List ℕ → ℕ
words_in [] seen = length seen
words_in (turn ∷ turns) seen = length turn + words_in turns seen

abbrev pub words_heard : Past → ℕ
words_heard past = words_in past.turns past.seen

-- at most one index pulse has passed
abbrev pub HasFewTurns : Past → Type 0
HasFewTurns past = length past.turns ≤ 1
