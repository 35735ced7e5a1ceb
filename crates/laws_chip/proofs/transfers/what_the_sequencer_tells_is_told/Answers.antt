use Rattle.laws_chip.proofs.CommandsBegun.{cylinder_told, sent_looks, sent_told, told_asks, told_interrupts}
use Rattle.laws_chip.proofs.transfers.what_the_sequencer_tells_is_told.Goals as goal

pub returns-clause-told : goal.returns-clause-told
returns-clause-told c = sent_told

pub returns-clause-looks : goal.returns-clause-looks
returns-clause-looks c = sent_looks

pub returns-clause-cylinder : goal.returns-clause-cylinder
returns-clause-cylinder c = cylinder_told

pub returns-clause-interrupt : goal.returns-clause-interrupt
returns-clause-interrupt c = told_interrupts

pub returns-clause-request : goal.returns-clause-request
returns-clause-request c = told_asks
