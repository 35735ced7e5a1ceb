use Rattle.std.proofs.Common.{refl, arith}
use Rattle.sector_map.proofs.Common.{false≢true}
use Rattle.sector_map.proofs.RegularPlaces.{not_true, places_more, from_places, to_place}
use Rattle.sector_map.proofs.regular.is_regular.Goals as goal

pub returns-then-not-is_place_regular : goal.returns-then-not-is_place_regular
returns-then-not-is_place_regular c = (
  λ t. absurd (false≢true t),
  λ regular.
      absurd (not_true c.is_place_regular.result c.if-not-is_place_regular.true
      (c.is_place_regular.ensures.1 (to_place c.args.words.now c.args.c c.args.h c.loop-place.place regular))),
)

pub loop-place-preserved : goal.loop-place-preserved
loop-place-preserved c =
    places_more c.args.words.now c.args.c c.args.h c.loop-place.place c.loop-place.invariant (c.is_place_regular.ensures.0 c.if-not-is_place_regular.false)

pub returns : goal.returns
returns c = (
  λ t. from_places c.args.words.now c.args.c c.args.h c.loop-place.place (omega arith) c.loop-place.invariant,
  λ regular. refl,
)
