use Rattle.std.proofs.Common.{rules, arith, ap, subst, ◌∙◌, ◌≡◌, ℕ, ◌+◌, length, List}
use Rattle.remaster.proofs.Common.{Found, content_at, LookAt, window, window_place, cut_of}
use Rattle.remaster.proofs.Placed.{window_fits, holds_written}
use Rattle.remaster.proofs.relaid.write_sector.Goals as goal

pub place_window-requires-clause-inside : goal.place_window-requires-clause-inside
place_window-requires-clause-inside c =
    omega (arith, c.len-2.ensures, window_fits c.args.track.now c.args.place c.args.sector.now c.requires.address c.in_ok-window.window.items c.requires.spaced c.requires.size (c.in_ok-window.ensures ∙ ap (window c.args.sector.now.deleted) c.as_slice-content.ensures))

pub returns-clause-holds : goal.returns-clause-holds
returns-clause-holds c =
    let track = c.args.track.now in
    let place = c.args.place in
    let deleted = c.args.sector.now.deleted in
    let n = c.args.sector.now.key.n in
    let content = c.as_slice-content.result.now in
    let copied : content ≡ c.args.sector.now.content = c.as_slice-content.ensures in
    let whole : c.len.result ≡ length (window deleted content) = omega (arith, c.len.ensures, ap length c.in_ok-window.ensures) in
    let Looks : List ℕ → Type 0 = λ bytes. LookAt (cut_of track place c.len.result (window deleted bytes)) place n (Found deleted (window_place place + 256)) in
    let Holds : List ℕ → Type 0 = λ bytes. bytes ≡ content_at (cut_of track place c.len.result (window deleted bytes)) (window_place place + 256) n in
    holds_written track place c.args.sector.now c.requires.address c.place_window.new.words c.len.result
    (whole ∙ ap (λ bytes. length (window deleted bytes)) copied)
    (search rules)
    (search rules)
    (subst Looks copied (c.cut_keeps.ensures.found whole c.args.sector.now.key c.requires.address))
    (subst Holds copied (c.cut_keeps.ensures.content whole c.args.sector.now.key c.requires.address))
