use Rattle.std.proofs.Common.{◌≡◌, ◌≤◌, ◌-◌, false, Option, arith, sym, refl, subst, ◌∙◌}
use Rattle.raw_image.specs.Disk.{Disk}
use Rattle.drive_model.specs.Drive.{track_words}
use Rattle.drive_model.proofs.Saved.{Parts, parts_of, same_mechanics}
use Rattle.drive_model.proofs.saving.MechanicsSavedWhole.load.Goals as goal

pub returns : goal.returns
returns c = record {
  gives = λ value rest fits left.
      let medium = c.in_ok-medium.ensures.gives value.medium _ value.a_disk left in
      let cylinder = c.load.ensures.gives value.cylinder _ fits medium.1 in
      let place = c.load-2.ensures.gives value.place _ fits cylinder.1 in
      let spin = c.load-spun.ensures.gives value.spin _ fits place.1 in
      let motor = c.load-motor.ensures.gives value.motor _ fits spin.1 in
      let change = c.load-change.ensures.gives value.change _ fits motor.1 in
      let gate = c.load-gate.ensures.gives value.gate _ fits change.1 in
      let cut = c.load-cut.ensures.gives value.cut _ fits gate.1 in
      let replaced = c.load-replaced.ensures.gives value.replaced rest fits cut.1 in
      let reached : c.load.result ≤ 82 = omega (arith, cylinder.0, value.on_a_cylinder) in
      let there : c.load-2.result ≤ track_words value.medium - 1 = omega (arith, place.0, value.on_the_track) in
      let on_track : c.load-2.result ≤ track_words c.in_ok-medium.medium - 1 =
      subst (λ (m : Option Disk). c.load-2.result ≤ track_words m - 1) (sym medium.0) there in
      let spun : c.load-spun.result ≤ 6250 = omega (arith, spin.0, value.spun_up) in
      let rests : c.load-motor.result ≡ false → c.load-spun.result ≡ 0 = λ off. spin.0 ∙ value.at_rest (sym motor.0 ∙ off) in
      let parts : Parts = record {
        medium = c.in_ok-medium.medium;
        cylinder = c.limited_cylinder-cylinder.result;
        place = c.limited_place-place.result;
        motor = c.load-motor.result;
        spin = c.spin_of-spin.result;
        change = c.load-change.result;
        gate = c.load-gate.result;
        cut = c.load-cut.result;
        replaced = c.load-replaced.result;
      } in
      let same : parts_of value ≡ parts =
      rw (
        medium.0,
        c.limited_cylinder-cylinder.ensures.same reached,
        cylinder.0,
        c.limited_place-place.ensures.same on_track,
        place.0,
        motor.0,
        c.spin_of-spin.ensures.same spun rests,
        spin.0,
        change.0,
        gate.0,
        cut.0,
        replaced.0,
      ) refl in
      (same_mechanics value parts _ _ _ _ _ same, replaced.1);
}
