-- A track whose words are all replaced.
use Rattle.std.proofs.Common.{◌≡◌, ℕ, ◌+◌, ◌≤◌, List, ◌++◌, length, take, drop, ap, subst, ◌∙◌, arith}
use Rattle.telwyddus_c.proofs.Common.{append-nil, drop_all, Disk, IsWithTrack, track_of}

whole_words : (track words : List ℕ) → length track ≡ length words → take 0 track ++ (words ++ drop (0 + length words) track) ≡ words
whole_words track words same =
    let over : length track ≤ 0 + length words = omega (arith, same) in
    ap (λ rest. words ++ rest) (drop_all (0 + length words) track over) ∙ append-nil words

pub whole_track : (d after : Disk) (c h : ℕ) (words : List ℕ) → length (track_of d c h) ≡ length words
    → IsWithTrack d c h (take 0 (track_of d c h) ++ (words ++ drop (0 + length words) (track_of d c h))) after → IsWithTrack d c h words after
whole_track d after c h words same is =
    subst (λ track. IsWithTrack d c h track after) (whole_words (track_of d c h) words same) is
