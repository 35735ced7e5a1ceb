use Rattle.std.proofs.Common.{refl}
use Rattle.sector_map.proofs.RegularPlaces.{place_by_field, place_without}
use Rattle.sector_map.proofs.regular.is_place_regular.Goals as goal

pub returns-in-Some : goal.returns-in-Some
returns-in-Some c =
    place_by_field c.args.words.now c.args.c c.args.h c.args.place c.in-Some.key c.is_field_regular.result (c.has_no_run.ensures.0 c.if-not-has_no_run.false) c.in-Some.ensures c.is_field_regular.ensures

pub returns-in-None : goal.returns-in-None
returns-in-None c = (
  λ t. place_without c.args.words.now c.args.c c.args.h c.args.place (c.has_no_run.ensures.0 c.if-not-has_no_run.false) c.in-None.ensures,
  λ place. refl,
)
