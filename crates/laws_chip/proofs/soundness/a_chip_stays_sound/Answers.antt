use Rattle.laws_chip.proofs.SoundCalls.{call_sound, new_sound, pin_sound, used_sound}
use Rattle.laws_chip.proofs.SoundSteps.{run_sound}
use Rattle.laws_chip.proofs.soundness.a_chip_stays_sound.Goals as goal

pub returns-clause-begins : goal.returns-clause-begins
returns-clause-begins c = new_sound

pub returns-clause-calls : goal.returns-clause-calls
returns-clause-calls c = call_sound

pub returns-clause-runs : goal.returns-clause-runs
returns-clause-runs c = run_sound

pub returns-clause-used : goal.returns-clause-used
returns-clause-used c = used_sound

pub returns-clause-pin : goal.returns-clause-pin
returns-clause-pin c = pin_sound
