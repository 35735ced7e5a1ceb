use Rattle.std.proofs.Common.{refl}
use Rattle.laws_chip.proofs.Common.{FormatTrack, ReadId, ReadTrack, Verify}
use Rattle.fdc_chip.specs.declared.code.ChipOpcode.TheVariants.{Transfer}
use Rattle.laws_chip.proofs.WorkBegins.{given_lasts}
use Rattle.laws_chip.proofs.lasting.a_command_that_comes_ends.Goals as goal

pub returns-clause-read_id : goal.returns-clause-read_id
returns-clause-read_id c = λ wait mfm. given_lasts (ReadId mfm) refl refl wait

pub returns-clause-format : goal.returns-clause-format
returns-clause-format c = λ wait mfm. given_lasts (FormatTrack mfm) refl refl wait

pub returns-clause-transfer : goal.returns-clause-transfer
returns-clause-transfer c = λ wait mfm. given_lasts (Transfer mfm) refl refl wait

pub returns-clause-verify : goal.returns-clause-verify
returns-clause-verify c = λ wait mfm. given_lasts (Verify mfm) refl refl wait

pub returns-clause-read_track : goal.returns-clause-read_track
returns-clause-read_track c = λ wait mfm. given_lasts (ReadTrack mfm) refl refl wait
