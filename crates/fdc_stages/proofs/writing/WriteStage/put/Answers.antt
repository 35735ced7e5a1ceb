use Rattle.std.proofs.Common.{subst, sym, true, ◌≡◌}
use Rattle.fdc_stages.proofs.Common.{window_behind, is_open, is_last, handed_with, rest_behind, IsWriting, IsNextWord, Window}
use Rattle.fdc_stages.specs.Windows as windows
use Rattle.fdc_stages.specs.Writings.{needs_byte}
use Rattle.fdc_stages.proofs.Windowed.{put_in_window}
use Rattle.fdc_stages.proofs.writing.WriteStage.put.Goals as goal

pub returns-in-Window-clause-writes : goal.returns-in-Window-clause-writes
returns-in-Window-clause-writes c = λ past key deleted handed.
    let now = c.in-Window.window in
    let after = c.put.new.self in
    subst (λ at. is_open at ≡ true → IsWriting past key deleted handed at → IsNextWord past key deleted (handed_with (needs_byte at) c.args.byte handed) c.put.result (rest_behind (is_last at) (Window after))) (sym c.in-Window.is)
    (put_in_window past key deleted handed now c.args.byte c.put.result (window_behind (windows.is_last now) after) c.put.ensures)
