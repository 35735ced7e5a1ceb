-- How many words of a window, and of a layout, are bytes from memory.
use Rattle.std.specs.Prelude.{ℕ, ◌-◌, min, List, length, take}
use Rattle.fdc_stages.specs.Common.{Chrn}
use Rattle.fdc_stages.specs.Formats.{Numbers, symbols_of}
use Rattle.track_format.specs.Keys.{asked_in}

-- how many of the first `count` words of a window are bytes of its content, which has `size` bytes
abbrev pub content_among : ℕ → ℕ → ℕ
content_among size count = min size (count - 16)

-- how many of the first `count` words of a layout are bytes of these sector IDs
abbrev pub keys_among : Numbers → List Chrn → ℕ → ℕ
keys_among numbers keys count = length (asked_in (take count (symbols_of numbers keys)))
