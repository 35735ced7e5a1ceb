-- The bytes that are taken by a command that writes, and results that refuse the command.
use Rattle.std.specs.Prelude.{◌≡◌, ℕ, ◌+◌, ◌<◌, Bool, true, false, List, length, take, drop}
use Rattle.laws_machine.specs.Common.{Channel, grants, reads_memory, place_of, Ending, Protected, Answer, Long, Phase, Result}
use Rattle.laws_machine.specs.OnReads.Scenes.{Scene}

-- ---- the bytes

-- the channel gives the byte at an address next, and `left` more bytes behind it in the same page
pub record IsReadSet (channel : Channel) (address left : ℕ) : Type 0 where
  pub granting : grants channel ≡ true
  pub reading : reads_memory channel ≡ true
  pub place : place_of channel ≡ address
  pub count : channel.count ≡ left
  pub room : channel.address + left < 65536

-- the bytes of the range
abbrev pub range_of : Scene → List ℕ
range_of scene = take scene.size (drop scene.address scene.memory)

-- memory is as it was, and the bytes that were taken are the first of the range; the channel goes on behind these bytes
-- until the range is over
pub record IsTaken (scene : Scene) (taken : List ℕ) (counted : Bool) (memory : List ℕ) (channel : Channel) : Type 0 where
  pub same : memory ≡ scene.memory
  pub first : taken ≡ take (length taken) (drop scene.address scene.memory)
  pub goes_on : counted ≡ false → (left : ℕ) × (length taken + (left + 1) ≡ scene.size) × IsReadSet channel (scene.address + length taken) left
  pub over : counted ≡ true → (grants channel ≡ false) × (length taken ≡ scene.size)

-- ---- the results

-- the results report NW
abbrev pub refuses_as : Ending → Bool
refuses_as Protected = true
refuses_as _ = false

abbrev pub refuses_answer : Answer → Bool
refuses_answer (Long ending _ _) = refuses_as ending
refuses_answer _ = false

abbrev pub refuses : Phase → Bool
refuses (Result answer) = refuses_answer answer
refuses _ = false
