use Rattle.std.proofs.Common.{◌∷◌, refl, ap, ◌∙◌}
use Rattle.track_separator.proofs.Common.{crc, with_word}
use Rattle.track_separator.proofs.Next.{more_of}
use Rattle.track_separator.proofs.Waited.{waiting_next, mode_reads}
use Rattle.track_separator.proofs.state.Separator.wait_word.Goals as goal

pub returns-in-Some : goal.returns-in-Some
returns-in-Some c = λ fed p was.
    let read = mode_reads fed c.args.word (with_word fed c.args.word) (more_of fed c.args.word) c.args.self.now.cells c.args.self.now.back c.next_cells-self.result p c.args.before c.args.marked c.args.self.now.few c.next_cells-self.ensures was c.in-Some.deleted c.args.size c.mark_crc.result c.in-Some.ensures
    (λ rest. c.mark_crc.ensures.goes_on rest ∙ ap (λ byte. crc (0xA1 ∷ 0xA1 ∷ 0xA1 ∷ byte ∷ rest)) c.byte_of.ensures) in
    (read.0, (refl, refl, read.1))

pub returns : goal.returns
returns c = λ fed p was.
    c.wait_on.ensures (with_word fed c.args.word) p
    (waiting_next fed c.args.word (with_word fed c.args.word) (more_of fed c.args.word) c.args.self.now.cells c.args.self.now.back c.next_cells-self.result p c.args.before c.args.marked c.args.self.now.few c.next_cells-self.ensures was c.in_default.ensures)
