use Rattle.dma_8237.proofs.SettingUp.{is_set_up}
use Rattle.dma_8237.proofs.laws.channel_is_set.Goals as goal

pub returns : goal.returns
returns c = is_set_up
