-- What a data command does at the ports, from its set-up to its results.
use Rattle.std.specs.Prelude.{◌≡◌, ◌⊎◌, ◌≤◌, ℕ, zero, suc, ◌==◌, ◌+◌, ◌-◌, ◌*◌, ◌/◌, ◌%◌, Bool, true, false, if◌then◌else◌, List, [], ◌∷◌, length, Result, Ok, Err}
use Rattle.flop_base.specs.Counts.{last_count}
use Rattle.machine_commands.specs.Common.{read_gap_at, Chrn, Rate, Code, InRange, content_size, data_commands_of, Board, controller_of, holds_of, memory_of, Inputs, Outputs, Runs, Waits, stirred, AreShort}
use Rattle.machine_commands.specs.Codes.{has_set, refusal_of, rate_byte}
use Rattle.machine_commands.specs.Ready.{dor_with}
use Rattle.machine_commands.specs.Sending.{Sends, Settles, latch_taken}
use Rattle.machine_commands.specs.declared.motors.Motors.{Motors}
use Rattle.machine_commands.specs.declared.results.Done.{Done}

-- ---- the set-up

-- no count is past its last value
pub record AreCounts (board : Board) : Type 0 where
  pub stalls : (holds_of board).stalls ≤ last_count
  pub data_commands : data_commands_of (controller_of board) ≤ last_count
  pub taken : board.bus.taken ≤ last_count
  pub direct : board.bus.direct ≤ last_count

-- a bay is selected, and the data rate set
pub record Prepares (motors : Motors) (bay : ℕ) (rate : Rate) (old new : Board) : Type 0 where
  pub counts : AreCounts old
  pub memory : length (memory_of old) ≡ 1048576
  pub short : AreShort (holds_of old)
  pub selected : Board
  pub selects : Outputs 0x3F2 (dor_with motors bay) old selected
  pub first : InRange selected.first
  pub second : InRange selected.second
  pub rates : Outputs 0x3F7 (rate_byte rate) selected new

-- ---- DMA channel 2

-- the low and the high byte of the address, and its page
pub record SetsAddress (address : ℕ) (old new : Board) : Type 0 where
  pub low : Board
  pub lows : Outputs 0x04 (address % 256) old low
  pub high : Board
  pub highs : Outputs 0x04 (address / 256 % 256) low high
  pub pages : Outputs 0x81 (address / 65536) high new

-- the low and the high byte of the count
pub record SetsCount (last : ℕ) (old new : Board) : Type 0 where
  pub low : Board
  pub lows : Outputs 0x05 (last % 256) old low
  pub highs : Outputs 0x05 (last / 256) low new

-- the DMA chip is enabled and the channel masked; its mode, address and count are set, and it is unmasked
pub record SetsChannel (mode address last : ℕ) (old new : Board) : Type 0 where
  pub enabled : Board
  pub enables : Outputs 0x08 0 old enabled
  pub masked : Board
  pub masks : Outputs 0x0A 0x06 enabled masked
  pub cleared : Board
  pub clears : Outputs 0x0C 0 masked cleared
  pub moded : Board
  pub modes : Outputs 0x0B mode cleared moded
  pub placed : Board
  pub places : SetsAddress address moded placed
  pub counted : Board
  pub counts : SetsCount last placed counted
  pub unmasks : Outputs 0x0A 0x02 counted new

-- ---- the bytes of a command of one sector

abbrev pub sector_bytes : ℕ → ℕ → Chrn → Rate → List ℕ
sector_bytes command bay key rate =
    command ∷ (key.h * 4 + bay) ∷ key.c ∷ key.h ∷ key.r ∷ key.n ∷ key.r ∷ read_gap_at rate ∷ 0xFF ∷ []

-- ---- the end

-- a device step, and then as many as it takes until line 6 sets the latch; then the latch is taken, and MSR says
-- whether results are ready
pub record Watch (old : Board) (ready : Bool) (new : Board) : Type 0 where
  pub stepped : Board
  pub steps : Runs 1 (stirred old) stepped
  pub waited : Board
  pub set : Bool
  pub waits : Waits 65536 stepped set waited
  pub value : ℕ
  pub reads : Inputs 0x3F4 (latch_taken waited) value new
  pub answer : ready ≡ (value == 0xD0)

-- so many watches in which no results were ready
abbrev pub Watches : ℕ → Board → Board → Type 0
Watches zero old new = new ≡ old
Watches (suc n) old new = (between : Board) × Watches n old between × Watch between false new

-- results were ready in one watch, and in none before it; or in none of 65,537 watches
abbrev pub AwaitsResults : Board → Board → Type 0
AwaitsResults old new = ((n : ℕ) × (between : Board) × Watches n old between × Watch between true new) ⊎ Watches 65537 old new

-- the key among the result bytes
pub record TakesKey (old : Board) (key : Chrn) (new : Board) : Type 0 where
  pub after_c : Board
  pub c : Inputs 0x3F5 old key.c after_c
  pub after_h : Board
  pub h : Inputs 0x3F5 after_c key.h after_h
  pub after_r : Board
  pub r : Inputs 0x3F5 after_h key.r after_r
  pub n : Inputs 0x3F5 after_r key.n new

-- the outcome that the results come to
abbrev pub outcome_of : ℕ → ℕ → ℕ → Chrn → Result Done Code
outcome_of st0 st1 st2 key =
    if has_set st0 0xC0 then Err (refusal_of st1) else Ok (record { deleted = has_set st2 0x40; key = key })

-- the seven result bytes are read
pub record TakesResults (old : Board) (outcome : Result Done Code) (new : Board) : Type 0 where
  pub st0 : ℕ
  pub after_st0 : Board
  pub first : Inputs 0x3F5 old st0 after_st0
  pub st1 : ℕ
  pub after_st1 : Board
  pub second : Inputs 0x3F5 after_st0 st1 after_st1
  pub st2 : ℕ
  pub after_st2 : Board
  pub third : Inputs 0x3F5 after_st1 st2 after_st2
  pub key : Chrn
  pub keys : TakesKey after_st2 key new
  pub is : outcome ≡ outcome_of st0 st1 st2 key

-- the end of a data command is awaited, and its results are taken
pub record Finishes (old : Board) (outcome : Result Done Code) (new : Board) : Type 0 where
  pub awaited : Board
  pub awaits : AwaitsResults old awaited
  pub taken : Board
  pub takes : TakesResults awaited outcome taken
  pub settles : Settles taken new

-- ---- whole commands

-- READ ID
pub record SendsReadId (motors : Motors) (bay head : ℕ) (rate : Rate) (old : Board) (outcome : Result Done Code) (new : Board) : Type 0 where
  pub ready : Board
  pub prepares : Prepares motors bay rate old ready
  pub sent : Board
  pub sends : Sends (0x4A ∷ (head * 4 + bay) ∷ []) ready sent
  pub finishes : Finishes sent outcome new

-- READ DATA
pub record SendsRead (motors : Motors) (bay : ℕ) (key : Chrn) (rate : Rate) (address : ℕ) (old : Board) (outcome : Result Done Code) (new : Board) : Type 0 where
  pub ready : Board
  pub prepares : Prepares motors bay rate old ready
  pub set : Board
  pub sets : SetsChannel 0x46 address (content_size key.n - 1) ready set
  pub sent : Board
  pub sends : Sends (sector_bytes 0x46 bay key rate) set sent
  pub finishes : Finishes sent outcome new

-- the key of an outcome; below, its mark
abbrev pub key_told : Result Done Code → Result Chrn Code
key_told (Ok done) = Ok done.key
key_told (Err code) = Err code

abbrev pub mark_told : Result Done Code → Result Bool Code
mark_told (Ok done) = Ok done.deleted
mark_told (Err code) = Err code
