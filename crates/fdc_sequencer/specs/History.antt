-- What a command heard and moved, after the channel was served.
use Rattle.std.specs.Prelude.{ℕ, Bool, true, false, Option, Some, None}
use Rattle.fdc_sequencer.specs.Common.{Past, gave}
use Rattle.fdc_phases.specs.Written.{took}

-- a byte went to memory, or none did
abbrev pub gave_if : Option ℕ → Past → Past
gave_if None past = past
gave_if (Some byte) past = gave byte past

-- a byte was taken from memory, or none was
abbrev pub took_if : Bool → ℕ → Past → Past
took_if true byte past = took byte past
took_if false byte past = past
