use Rattle.std.proofs.Common.{ℕ, List, ◌+◌, drop, ap, sym, ◌∙◌}
use Rattle.imagedisk.proofs.Common.{sector_place, window_words, cut_of, ImdSector, sector_window, with_sectors}
use Rattle.imagedisk.proofs.Windowed.{next_put, all_put}
use Rattle.imagedisk.proofs.tracks.put_sectors.Goals as goal

pub loop-i-preserved : goal.loop-i-preserved
loop-i-preserved c =
    let n = c.args.n in
    let gap3 = c.args.gap3 in
    let sectors = c.args.sectors.now in
    let i = c.loop-i.i in
    let words = c.loop-i.words in
    let sector = c.index-sectors-i.result in
    ap (λ (ws : List ℕ). with_sectors n gap3 (i + 1) (drop (i + 1) sectors) ws)
    (c.in_ok-put_sector.ensures.put
    ∙ ap (λ (p : ℕ). cut_of words p (window_words n) (sector_window n sector)) c.sector_place-place.ensures
    ∙ ap (λ (s : ImdSector). cut_of words (sector_place n gap3 i) (window_words n) (sector_window n s)) c.index-sectors-i.is)
    ∙ sym (next_put n gap3 sectors i sector words c.loop-i-test.true) ∙ c.loop-i.invariant

pub returns : goal.returns
returns c = sym (all_put c.args.n c.args.gap3 c.args.sectors.now c.loop-i.i c.loop-i.words c.loop-i-test.false) ∙ c.loop-i.invariant
