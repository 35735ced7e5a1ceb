-- Parted tracks: their sectors may stand closer together than on Spaced ones.
use Rattle.std.proofs.Common.{ℕ, ◌+◌, ◌<◌, ◌≤◌, List, arith}
use Rattle.track_model.proofs.Common.{Chrn, IsInside, IsAddressAt, IsPlain, window_place, window_end, span_cells, HasSizes, HasCleanGaps, HasCleanEnds, IsSpaced}

-- Parted: a write over one data field reaches nothing of another sector. It ends before the next address field, and no
-- sector's data are looked for as far as the next window.
pub record IsParted (track : List ℕ) : Type 0 where
  pub plain : IsPlain track
  pub coded : HasSizes track
  pub inside : (p : ℕ) (key : Chrn) → IsAddressAt track p key → IsInside track p (span_cells key.n)
  pub ended : (p q : ℕ) (key other : Chrn) → IsAddressAt track p key → IsAddressAt track q other
      → p < q → window_end p key.n + 64 ≤ q
  pub looked : (p q : ℕ) (key other : Chrn) → IsAddressAt track p key → IsAddressAt track q other
      → p < q → p + span_cells key.n ≤ window_place q
  pub gaps : HasCleanGaps track
  pub ends : HasCleanEnds track

-- a Spaced track is Parted
pub spaced_parted : (track : List ℕ) → IsSpaced track → IsParted track
spaced_parted track spaced = record {
  plain = spaced.plain;
  coded = spaced.coded;
  inside = spaced.spans.inside;
  ended = λ p q key other here there before. let far = spaced.spans.apart p q key other here there before in omega arith;
  looked = λ p q key other here there before. let far = spaced.spans.apart p q key other here there before in omega arith;
  gaps = spaced.gaps;
  ends = spaced.ends;
}
