-- Words written into a part of a track.
use Rattle.std.proofs.Common.{◌≡◌, ℕ, ◌+◌, ◌-◌, ◌≤◌, List, ◌++◌, length, take, drop, ap, ◌∙◌, append_assoc, arith}
use Rattle.std.proofs.Math.Seq.{take-length}
use Rattle.sector_map.proofs.Common.{length-take, put_mid-paste, window_word, cut_of}
use borrow.Rule.Slice.PartMut.{put_mid}
use Rattle.flop_base.specs.Lists.{with_items}

pub placed : (words part window : List ℕ) (p start cut : ℕ) → start ≡ window_word p → part ≡ take cut window → cut ≤ length window → put_mid start (start + cut - start) words part ≡ cut_of words p cut window
unfolding with_items
placed words part window p start cut at is most =
    let first : List ℕ = take cut window in
    let long : cut ≡ length first = omega (arith, length-take cut window) in
    put_mid-paste start (start + cut - start) words part first cut is (omega arith) long
    ∙ append_assoc (take start words) (take cut first) (drop (start + cut) words)
    ∙ ap (λ row. take start words ++ (row ++ drop (start + cut) words)) (ap (λ n. take n first) long ∙ take-length first)
    ∙ ap (λ n. take start words ++ (first ++ drop (start + n) words)) long
    ∙ ap (λ s. take s words ++ (first ++ drop (s + length first) words)) at
