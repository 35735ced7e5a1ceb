-- The machine between two data commands: what port accesses set, and what stays.
use Rattle.std.specs.Prelude.{◌≡◌, ℕ, ◌==◌, ◌++◌, [], ◌∷◌, false, List, if◌then◌else◌}
use Rattle.laws_machine.specs.Common.{Channel, after_write, after_read, is_executing, phase_after, rate_chosen, Phase, DataRate, Board, controller_of, channel_of, is_controllers, Chips}
use Rattle.laws_machine.specs.OnQuiet.Quiet.{HoldsOn, HaveTurned, IsHushed}

-- what the accesses set: the phase, the bytes of the command that has begun, the rate, and the channel
pub record Setting : Type 0 where
  pub phase : Phase
  pub command : List ℕ
  pub rate : DataRate
  pub channel : Channel

-- the setting of a board
abbrev pub setting_of : Board → Setting
setting_of board = record {
  phase = (controller_of board).phase;
  command = (controller_of board).command;
  rate = (controller_of board).rate;
  channel = channel_of board;
}

-- the setting with one more byte of a command, with another rate, or with a byte written to a port of the channel
abbrev pub with_byte : ℕ → Setting → Setting
with_byte byte set = record set { command = set.command ++ byte ∷ [] }

abbrev pub with_rate : ℕ → Setting → Setting
with_rate byte set = record set { rate = rate_chosen byte }

abbrev pub with_write : ℕ → ℕ → Setting → Setting
with_write port byte set = record set { channel = after_write port byte set.channel }

-- the setting after a port was read; the data port gives a result byte
abbrev pub with_read : ℕ → Setting → Setting
with_read port set =
    if is_controllers port then (if port == 0x3F5 then record set { phase = phase_after set.phase } else set)
    else record set { channel = after_read port set.channel }

-- chips with this setting, and all else as in other chips; DRQ is low
pub record ChipsStand (set : Setting) (old now : Chips) : Type 0 where
  pub controller : HoldsOn old.controller.data_commands old.controller now.controller
  pub phase : now.controller.phase ≡ set.phase
  pub command : now.controller.command ≡ set.command
  pub rate : now.controller.rate ≡ set.rate
  pub low : now.controller.asking ≡ false
  pub channel : now.channel ≡ set.channel
  pub memory : now.memory ≡ old.memory
  pub stalls : now.holding.stalls ≡ old.holding.stalls

-- between two data commands the board has this setting. All else is as it was at the start, except that the drives went
-- on turning. INT stays low.
pub record Stands (set : Setting) (start now : Board) : Type 0 where
  pub idle : is_executing set.phase ≡ false
  pub chips : ChipsStand set start.bus.chips now.bus.chips
  pub drives : HaveTurned start now
  pub hush : IsHushed start → IsHushed now
