-- How many bytes the stages of a data command have in a state.
use Rattle.std.proofs.Common.{◌≡◌, ◌+◌, ℕ, List, length, arith}
use Rattle.track_separator.specs.Saving.{spelled_stage, spelled_separator}
use Rattle.track_separator.specs.declared.state.Stage.TheVariants.{Reading, Waiting, Content}
use Rattle.track_format.specs.Saving as layout
use Rattle.track_format.specs.Saving.{spelled_stream}
use Rattle.track_format.specs.declared.stream.TrackPart.{TrackPart}
use Rattle.track_format.specs.declared.stream.TrackPart.TheVariants as layouts
use Rattle.fdc_stages.specs.Saving.{spelled_ending, spelled_search, spelled_read}
use Rattle.fdc_stages.specs.WritingSaving.{spelled_part, spelled_window, spelled_write, spelled_format_part, spelled_format}
use Rattle.fdc_stages.specs.declared.ending.Ending.TheVariants as endings
use Rattle.fdc_stages.specs.declared.reading.ReadStage.TheVariants as reads
use Rattle.fdc_stages.specs.declared.window.Part.TheVariants as places
use Rattle.fdc_stages.specs.declared.writing.WriteStage.TheVariants as writes
use Rattle.fdc_stages.specs.declared.formatting.FormatPart.TheVariants as formats
use Rattle.telwyddus_c.proofs.Lengths.Bytes.{HasMost, length-byte, length-word, length-count, length-cells, length-flag, length-key}

most-stage : HasMost spelled_stage 8
unfolding spelled_stage
most-stage (Reading bytes) rest = omega (arith, length-byte)
most-stage (Waiting size since marked) rest = omega (arith, length-word, length-flag)
most-stage (Content size taken check touched) rest = omega (arith, length-word, length-flag)
most-stage _ rest = omega arith

most-separator : HasMost spelled_separator 26
unfolding spelled_separator
most-separator separator rest = omega (arith, length-cells, length-word, most-stage separator.stage rest)

pub most-ending : HasMost spelled_ending 2
unfolding spelled_ending
most-ending (endings.Done deleted) rest = omega (arith, length-flag)
most-ending _ rest = omega arith

pub most-search : HasMost spelled_search 28
unfolding spelled_search
most-search search rest = omega (arith, most-separator, length-flag)

pub most-read : HasMost spelled_read 29
unfolding spelled_read
most-read (reads.Search search) rest = omega (arith, most-search)
most-read (reads.Wait separator) rest = omega (arith, most-separator)
most-read (reads.Content separator deleted) rest = omega (arith, most-separator, length-flag)
most-read (reads.Over deleted good) rest = omega (arith, length-flag)

most-part : HasMost spelled_part 3
unfolding spelled_part
most-part (places.Sync more) rest = omega (arith, length-byte)
most-part (places.Marks more) rest = omega (arith, length-byte)
most-part (places.Content more) rest = omega (arith, length-word)
most-part _ rest = omega arith

most-window : HasMost spelled_window 9
unfolding spelled_window
most-window window rest = omega (arith, most-part, length-word, length-flag)

pub most-write : HasMost spelled_write 29
unfolding spelled_write
most-write (writes.Search search) rest = omega (arith, most-search)
most-write (writes.Gap left) rest = omega (arith, length-byte)
most-write (writes.Window window) rest = omega (arith, most-window)

-- a layout
length-part : (at : TrackPart) (rest : List ℕ) → length (layout.spelled_part at rest) ≡ 1 + length rest
unfolding layout.spelled_part
length-part layouts.Start rest = omega arith
length-part layouts.Address rest = omega arith
length-part layouts.Data rest = omega arith
length-part layouts.End rest = omega arith

most-stream : HasMost spelled_stream 24
unfolding spelled_stream
most-stream stream rest = omega (arith, length-part, length-byte, length-word, length-count, length-flag)

most-format_part : HasMost spelled_format_part 1
unfolding spelled_format_part
most-format_part formats.Await rest = omega arith
most-format_part formats.Due rest = omega arith
most-format_part formats.Lay rest = omega arith
most-format_part formats.Barred rest = omega arith

pub most-format : HasMost spelled_format 29
unfolding spelled_format
most-format format rest = omega (arith, most-format_part, most-stream, length-key)
