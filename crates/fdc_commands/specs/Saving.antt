-- The bytes in which parts of commands, results and seeks are saved.
use Rattle.std.specs.Prelude.{ℕ, List, length, ◌≤◌, ◌∷◌}
use Rattle.saved_state.specs.Saved.{spelled_byte, spelled_key, spelled_option, spelled_each}
use Rattle.fdc_commands.specs.declared.results.Results.{Results}
use Rattle.fdc_commands.specs.declared.motion.Motion.{Motion}
use Rattle.fdc_commands.specs.declared.motion.Motion.TheVariants.{Outward, Toward, Ended}
use Rattle.fdc_commands.specs.declared.motion.Seek.{Seek}
use Rattle.fdc_commands.specs.Seeking.{Seeking}

-- at most 8 bytes of a command come before its last one
abbrev pub IsPart : List ℕ → Type 0
IsPart bytes = length bytes ≤ 8

-- the results of a data command
unfoldable pub spelled_results : Results → List ℕ → List ℕ
spelled_results results rest =
    spelled_byte results.st0.0 (spelled_byte results.st1.0 (spelled_byte results.st2.0 (spelled_key results.key rest)))

-- what a seek still has to do
unfoldable pub spelled_motion : Motion → List ℕ → List ℕ
spelled_motion (Outward pulses) rest = 0 ∷ spelled_byte pulses rest
spelled_motion (Toward cylinder target) rest = 1 ∷ spelled_byte cylinder (spelled_byte target rest)
spelled_motion Ended rest = 2 ∷ rest

-- a seek
unfoldable pub spelled_seek : Seek → List ℕ → List ℕ
spelled_seek seek rest = spelled_byte seek.drive (spelled_motion seek.motion rest)

-- the seeks of the four drives
unfoldable pub spelled_seeking : Seeking → List ℕ → List ℕ
spelled_seeking seeking rest =
    spelled_each spelled_byte seeking.cylinders
    (spelled_option spelled_seek seeking.seek (spelled_each (spelled_option spelled_byte) seeking.pending rest))
