-- How a driver sets the channel up.
use Rattle.std.specs.Prelude.{◌≡◌, ℕ, ◌/◌, ◌%◌, true, false}
use Rattle.dma_8237.specs.Channel.{Channel, after_write, grants, has_bit, place_of}

-- a driver's writes (PC/AT): it sets the mask and clears the flip-flop, writes mode, address, page and count, and then
-- clears the mask
abbrev pub set_up : ℕ → ℕ → ℕ → Channel → Channel
set_up mode address left c =
    after_write 0x0A 0x02
    (after_write 0x05 (left / 256)
    (after_write 0x05 (left % 256)
    (after_write 0x81 (address / 65536)
    (after_write 0x04 (address / 256 % 256)
    (after_write 0x04 (address % 256)
    (after_write 0x0B mode
    (after_write 0x0C 0
    (after_write 0x0A 0x06 c))))))))

-- the channel grants requests in this mode; the next transfer is at this place of memory, and so many bytes follow its
-- byte
pub record IsSetUp (mode address left : ℕ) (c : Channel) : Type 0 where
  pub granting : grants c ≡ true
  pub mode_is : c.mode ≡ mode
  pub place : place_of c ≡ address
  pub address_is : c.address ≡ address % 65536
  pub count : c.count ≡ left
  pub enabled : has_bit c.command 2 ≡ false
