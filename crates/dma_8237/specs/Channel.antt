-- Channel 2 of an 8237A: its registers, its ports and one transfer.
use Rattle.std.specs.Prelude.{ℕ, zero, suc, ◌+◌, ◌-◌, ◌*◌, ◌/◌, ◌%◌, ◌^◌, Bool, true, false, not, ◌&&◌, ◌||◌, ◌==◌, if◌then◌else◌, bit_and}

-- the registers of the channel, with the page register that belongs to it
pub record Channel : Type 0 where
  pub base_address : ℕ
  pub address : ℕ
  pub base_count : ℕ
  pub count : ℕ
  pub high_byte_next : Bool
  pub command : ℕ
  pub mode : ℕ
  pub masked : Bool
  pub terminal_count : Bool
  pub page : ℕ

-- masked, and all else 0
abbrev pub power_up : Channel
power_up = record {
  base_address = 0;
  address = 0;
  base_count = 0;
  count = 0;
  high_byte_next = false;
  command = 0;
  mode = 0;
  masked = true;
  terminal_count = false;
  page = 0;
}

-- ---- a word behind a port of eight bits

-- the low byte of a word, or its high byte
abbrev pub byte_of : ℕ → Bool → ℕ
byte_of word high = if high then word / 256 else word % 256

-- the word with its low byte, or its high byte, replaced
abbrev pub with_byte : ℕ → Bool → ℕ → ℕ
with_byte word high byte = if high then byte * 256 + word % 256 else word / 256 * 256 + byte

-- ---- the ports

-- bit k of a byte is 1
abbrev pub has_bit : ℕ → ℕ → Bool
has_bit byte k = not (bit_and byte (2 ^ k) == 0)

-- bits 1 and 0 name channel 2
abbrev pub is_channel_2 : ℕ → Bool
is_channel_2 byte = bit_and byte 3 == 2

-- the byte that the flip-flop names goes to base and current address, and the flip-flop toggles
abbrev pub address_written : ℕ → Channel → Channel
address_written byte c = record c {
  base_address = with_byte c.base_address c.high_byte_next byte;
  address = with_byte c.address c.high_byte_next byte;
  high_byte_next = not c.high_byte_next;
}

-- the byte that the flip-flop names goes to base and current count, and the flip-flop toggles
abbrev pub count_written : ℕ → Channel → Channel
count_written byte c = record c {
  base_count = with_byte c.base_count c.high_byte_next byte;
  count = with_byte c.count c.high_byte_next byte;
  high_byte_next = not c.high_byte_next;
}

-- flip-flop, status and command are cleared, and the mask is set
abbrev pub master_clear : Channel → Channel
master_clear c =
    record c { high_byte_next = false; terminal_count = false; command = 0; masked = true }

-- what a write to a port leaves: the table of the ports, from the address at 04 to the page at 81;
-- a mask or a mode for another channel and any other port change nothing
unfoldable pub after_write : ℕ → ℕ → Channel → Channel
after_write port byte c =
    if port == 0x04 then address_written byte c else (
    if port == 0x05 then count_written byte c else (
    if port == 0x08 then record c { command = byte } else (
    if port == 0x0A && is_channel_2 byte then record c { masked = has_bit byte 2 } else (
    if port == 0x0B && is_channel_2 byte then record c { mode = byte } else (
    if port == 0x0C then record c { high_byte_next = false } else (
    if port == 0x0D then master_clear c else (
    if port == 0x0E then record c { masked = false } else (
    if port == 0x0F then record c { masked = has_bit byte 2 } else (
    if port == 0x81 then record c { page = byte } else
    c)))))))))

-- bit 2 tells that the count ran out; all other bits are 0
abbrev pub status_of : Channel → ℕ
status_of c = if c.terminal_count then 4 else 0

-- what a read of a port gives: FF where no register of the channel answers
unfoldable pub value_read : ℕ → Channel → ℕ
value_read port c =
    if port == 0x04 then byte_of c.address c.high_byte_next else (
    if port == 0x05 then byte_of c.count c.high_byte_next else (
    if port == 0x08 then status_of c else (
    if port == 0x81 then c.page else
    0xFF)))

-- what a read of a port leaves: address and count toggle the flip-flop, and a read of the status clears its bit
unfoldable pub after_read : ℕ → Channel → Channel
after_read port c =
    if port == 0x04 || port == 0x05 then record c { high_byte_next = not c.high_byte_next } else (
    if port == 0x08 then record c { terminal_count = false } else
    c)

-- ---- a transfer

-- unmasked, not disabled, single transfers that count up with no reload (bits 7 to 4 of the mode are
-- 0100), and not of the forbidden type (bits 3 and 2 are 11)
unfoldable pub grants : Channel → Bool
grants c =
    not c.masked && not (has_bit c.command 2) && bit_and c.mode 0xF0 == 0x40
    && not (bit_and c.mode 0x0C == 0x0C)

-- the mode's type is a transfer to memory
abbrev pub writes_memory : Channel → Bool
writes_memory c = bit_and c.mode 0x0C == 0x04

-- the mode's type is a transfer from memory
abbrev pub reads_memory : Channel → Bool
reads_memory c = bit_and c.mode 0x0C == 0x08

-- the byte of memory that the next transfer is for, by the low four bits of the page
abbrev pub place_of : Channel → ℕ
place_of c = c.page % 16 * 65536 + c.address

-- the address goes up by one inside its page, and the count down by one; a count of 0 runs out (TC): then the bit of
-- the status is set, and the mask too
abbrev pub after_transfer : Channel → Channel
after_transfer c = record c {
  address = (c.address + 1) % 65536;
  count = if c.count == 0 then 0xFFFF else c.count - 1;
  terminal_count = c.terminal_count || c.count == 0;
  masked = c.masked || c.count == 0;
}

-- ---- a run of transfers

-- the channel after k transfers
abbrev pub after_transfers : ℕ → Channel → Channel
after_transfers zero c = c
after_transfers (suc k) c = after_transfer (after_transfers k c)

-- the channel k bytes further, with its count not yet run out
abbrev pub moved_by : ℕ → Channel → Channel
moved_by k c = record c { address = (c.address + k) % 65536; count = c.count - k }

-- the channel once its count has run out: the terminal count is in the status, and the channel is masked
abbrev pub ran_out : Channel → Channel
ran_out c = record c {
  address = (c.address + c.count + 1) % 65536;
  count = 0xFFFF;
  terminal_count = true;
  masked = true;
}
