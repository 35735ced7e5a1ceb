-- The bytes of a channel that is saved.
use Rattle.std.specs.Prelude.{ℕ, List}
use Rattle.saved_state.specs.Saved.{spelled_byte, spelled_word, spelled_flag}
use Rattle.dma_8237.specs.Channel.{Channel}

abbrev pub spelled_channel : Channel → List ℕ → List ℕ
spelled_channel channel rest =
    spelled_word channel.base_address (spelled_word channel.address
    (spelled_word channel.base_count (spelled_word channel.count
    (spelled_flag channel.high_byte_next
    (spelled_byte channel.command (spelled_byte channel.mode
    (spelled_flag channel.masked (spelled_flag channel.terminal_count
    (spelled_byte channel.page rest)))))))))
