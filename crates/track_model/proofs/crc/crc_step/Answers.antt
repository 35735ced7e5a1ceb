use Rattle.track_model.proofs.CrcTable.{stepped_goes_on, stepped_extends}
use Rattle.track_model.proofs.crc.crc_step.Goals as goal

pub returns-clause-extends : goal.returns-clause-extends
returns-clause-extends c = stepped_extends c.args.check c.args.byte c.ranges.check.fits c.ranges.byte.fits

pub returns-clause-goes_on : goal.returns-clause-goes_on
returns-clause-goes_on c = stepped_goes_on c.args.check c.args.byte c.ranges.check.fits c.ranges.byte.fits
