-- What a command does at the ports, from its first access on.
use Rattle.std.specs.Prelude.{◌≡◌, ◌==◌, ℕ, Bool, false, [], ◌∷◌}
use Rattle.machine_commands.specs.Common.{Board, Inputs, Outputs, Runs, stirred}
use Rattle.machine_commands.specs.Motored.{with_motor_of}
use Rattle.machine_commands.specs.Ready.{dor_with}
use Rattle.machine_commands.specs.Sending.{Sends, Senses, Settles}
use Rattle.machine_commands.specs.declared.motors.Motors.{Motors}

-- the input register is read with this bay's drive selected, and this is the drive's change line
pub record ReadsLine (motors : Motors) (bay : ℕ) (old : Board) (changed : Bool) (new : Board) : Type 0 where
  pub selected : Board
  pub selects : Outputs 0x3F2 (dor_with motors bay) old selected
  pub value : ℕ
  pub reads : Inputs 0x3F7 selected value new
  pub answer : changed ≡ (value == 0x80)

-- SENSE DRIVE STATUS gives this status register 3
pub record SensesDrive (motors : Motors) (bay : ℕ) (old : Board) (status : ℕ) (new : Board) : Type 0 where
  pub selected : Board
  pub selects : Outputs 0x3F2 (dor_with motors bay) old selected
  pub sent : Board
  pub sends : Sends (0x04 ∷ bay ∷ []) selected sent
  pub takes : Inputs 0x3F5 sent status new

-- the motor of a bay goes on, and then so many device steps pass that a medium has come to speed
pub record StartsMotor (motors : Motors) (bay : ℕ) (old new : Board) : Type 0 where
  pub between : Board
  pub turns_on : Outputs 0x3F2 (dor_with (with_motor_of bay motors) bay) old between
  pub runs : Runs 6250 (stirred between) new

-- as many device steps pass as a seek takes at most, and then its status register 0 is read
pub record EndsSeek (old : Board) (status : ℕ) (new : Board) : Type 0 where
  pub waited : Board
  pub runs : Runs 80 (stirred old) waited
  pub sensed : Board
  pub senses : Senses waited status sensed
  pub settles : Settles sensed new

-- RECALIBRATE
pub record SendsRecalibrate (motors : Motors) (bay : ℕ) (old : Board) (status : ℕ) (new : Board) : Type 0 where
  pub selected : Board
  pub selects : Outputs 0x3F2 (dor_with motors bay) old selected
  pub sent : Board
  pub sends : Sends (0x07 ∷ bay ∷ []) selected sent
  pub ends : EndsSeek sent status new

-- SEEK
pub record SendsSeek (motors : Motors) (bay target : ℕ) (old new : Board) : Type 0 where
  pub selected : Board
  pub selects : Outputs 0x3F2 (dor_with motors bay) old selected
  pub sent : Board
  pub sends : Sends (0x0F ∷ bay ∷ target ∷ []) selected sent
  pub status : ℕ
  pub ends : EndsSeek sent status new

-- the results of the poll are taken, one for each of the four drives
pub record TakesPolls (old new : Board) : Type 0 where
  pub polled : Board
  pub settles : Settles old polled
  pub status_0 : ℕ
  pub one : Board
  pub first : Senses polled status_0 one
  pub status_1 : ℕ
  pub two : Board
  pub second : Senses one status_1 two
  pub status_2 : ℕ
  pub three : Board
  pub third : Senses two status_2 three
  pub status_3 : ℕ
  pub fourth : Senses three status_3 new

-- no motor
abbrev pub none_on : Motors
none_on = record { first = false; second = false }

-- reset, SPECIFY, CONFIGURE, and a rate
pub record Resets (old new : Board) : Type 0 where
  pub held : Board
  pub holds : Outputs 0x3F2 0x00 old held
  pub released : Board
  pub releases : Outputs 0x3F2 (dor_with none_on 0) held released
  pub polled : Board
  pub polls : TakesPolls released polled
  pub specified : Board
  pub specifies : Sends (0x03 ∷ 0xAF ∷ 0x02 ∷ []) polled specified
  pub configured : Board
  pub configures : Sends (0x13 ∷ 0x00 ∷ 0x07 ∷ 0x00 ∷ []) specified configured
  pub rated : Board
  pub rates : Outputs 0x3F7 0x00 configured rated
  pub settles : Settles rated new
