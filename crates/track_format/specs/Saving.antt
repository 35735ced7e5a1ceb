-- The bytes of a layout that is saved.
use Rattle.std.specs.Prelude.{ℕ, List, ◌∷◌}
use Rattle.saved_state.specs.Saved.{spelled_byte, spelled_count, spelled_flag, spelled_word}
use Rattle.track_format.specs.declared.stream.TrackPart.{TrackPart}
use Rattle.track_format.specs.declared.stream.TrackPart.TheVariants.{Start, Address, Data, End}
use Rattle.track_format.specs.declared.stream.FormatStream.{FormatStream}

-- a part of a track
unfoldable pub spelled_part : TrackPart → List ℕ → List ℕ
spelled_part Start rest = 0 ∷ rest
spelled_part Address rest = 1 ∷ rest
spelled_part Data rest = 2 ∷ rest
spelled_part End rest = 3 ∷ rest

-- a layout: what it lays out, and how far it is
unfoldable pub spelled_stream : FormatStream → List ℕ → List ℕ
spelled_stream stream rest =
    spelled_word stream.size (spelled_byte stream.gap3 (spelled_byte stream.fill (spelled_count stream.sectors
    (spelled_part stream.part (spelled_count stream.place (spelled_word stream.check
    (spelled_flag stream.last rest)))))))
