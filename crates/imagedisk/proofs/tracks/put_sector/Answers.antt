use Rattle.std.proofs.Common.{◌≡◌, ℕ, List, length, ap, ◌∙◌, arith}
use Rattle.imagedisk.proofs.Common.{window_words, cut_of, sector_window}
use Rattle.imagedisk.proofs.Windowed.{window_length}
use Rattle.imagedisk.proofs.tracks.put_sector.Goals as goal

pub place_window-requires-clause-inside : goal.place_window-requires-clause-inside
place_window-requires-clause-inside c =
    let sector = c.args.sector.now in
    let size = window_length c.args.n sector.kind sector.content c.requires.valid.size in
    omega (arith, c.len.ensures, c.deref.ensures.len, ap length c.deref.ensures.value, ap length c.in_ok-window.ensures, size, c.requires.inside)

pub returns : goal.returns
returns c =
    let sector = c.args.sector.now in
    let size = window_length c.args.n sector.kind sector.content c.requires.valid.size in
    let cut : c.len.result ≡ window_words c.args.n = omega (arith, c.len.ensures, c.deref.ensures.len, ap length c.deref.ensures.value, ap length c.in_ok-window.ensures, size) in
    let window : c.deref.result.now ≡ sector_window c.args.n sector = c.deref.ensures.value ∙ c.in_ok-window.ensures in
    record {
      put = c.place_window.ensures
          ∙ ap (λ (k : ℕ). cut_of c.args.words.now c.args.place k c.deref.result.now) cut
          ∙ ap (λ (w : List ℕ). cut_of c.args.words.now c.args.place (window_words c.args.n) w) window;
    }
