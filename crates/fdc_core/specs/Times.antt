-- What a word time of a command that writes is.
use Rattle.std.specs.Prelude.{◌≡◌, ℕ, Bool, true, false}
use Rattle.fdc_core.specs.Common.{DriveState, Becomes, Writes, InRange, at_index, rate_of, with_gate, Past, heard, kept_out, wrote, stepped, rate_fits, DataRate}
use Rattle.fdc_core.specs.Listening.{SeesUnder}
use Rattle.fdc_core.specs.Steps.{let_pass}

-- a word time
pub data WordTime : Type 0 where
  -- a word was heard
  Saw : (index : Bool) (word : ℕ) → WordTime
  -- a word was heard where the first was to be written, because the medium has another rate
  KeptOut : (index : Bool) (word : ℕ) → WordTime
  -- a word was written. The gate was opened before it, or not, and closed after it, or not
  Wrote : (opened closed index : Bool) (word : ℕ) → WordTime
  -- the command was over: the word passed, and the gate is closed
  Stopped : WordTime

-- the gate is opened, or stays as it is
abbrev pub Opens : Bool → DriveState → DriveState → Type 0
Opens true old new = new ≡ with_gate true old
Opens false old new = new ≡ old

-- the gate is closed, or stays as it is
abbrev pub Closes : Bool → DriveState → DriveState → Type 0
Closes true old new = new ≡ with_gate false old
Closes false old new = new ≡ old

-- a word is seen under this head, with the gate closed
pub record IsHeardTime (index : Bool) (word : ℕ) (rate : DataRate) (head : ℕ) (before after : DriveState) : Type 0 where
  pub index_is : index ≡ at_index before
  pub sees : SeesUnder rate head before word after
  pub passes : Becomes (let_pass before) before after

-- a word is given to the drive under this head. The gate opens only at the rate of the medium
pub record IsWroteTime (opened closed index : Bool) (word : ℕ) (rate : DataRate) (head : ℕ) (before after : DriveState) : Type 0 where
  pub from : DriveState
  pub mid : DriveState
  pub index_is : index ≡ at_index before
  pub fits : opened ≡ true → rate_fits rate (rate_of before.medium) ≡ true
  pub opens : Opens opened before from
  pub writes : Writes head word from mid
  pub closes : Closes closed mid after
  pub range_from : InRange from
  pub range_mid : InRange mid

-- what the drive did in this word time, at this rate and under this head
abbrev pub IsTime : WordTime → DataRate → ℕ → DriveState → DriveState → Type 0
IsTime (Saw index word) rate head before after = IsHeardTime index word rate head before after
IsTime (KeptOut index word) rate head before after =
    (rate_fits rate (rate_of before.medium) ≡ false) × IsHeardTime index word rate head before after
IsTime (Wrote opened closed index word) rate head before after =
    IsWroteTime opened closed index word rate head before after
IsTime Stopped rate head before after = after ≡ let_pass before

-- the history after this word time
abbrev pub after_time : WordTime → Past → Past
after_time (Saw index word) past = heard index word (stepped past)
after_time (KeptOut index word) past = kept_out index word (stepped past)
after_time (Wrote opened closed index word) past = wrote index word (stepped past)
after_time Stopped past = stepped past
