use Rattle.std.proofs.Common.{refl, inl, inr}
use Rattle.track_model.specs.declared.Look.TheVariants as look
use Rattle.test_driver.proofs.Recorded.{refused_look}
use Rattle.test_driver.proofs.drive.BenchDrive.read.Goals as goal

pub returns-in-NoMark-clause-refused : goal.returns-in-NoMark-clause-refused
returns-in-NoMark-clause-refused c =
    let refused = refused_look c.args.self.now.medium c.args.rate c.args.self.now.cylinder c.in-Some.track.now c.args.key c.find_sector.result in
    elim c.in-NoMark.is [
      | inl is ↦ refused look.NoMark _ c.in-Some.ensures c.find_sector.ensures is refl
      | inr is ↦ refused look.NoData _ c.in-Some.ensures c.find_sector.ensures is refl
    ]
