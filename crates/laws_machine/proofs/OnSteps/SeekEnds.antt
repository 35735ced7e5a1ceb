-- A seek ends in time, whatever is done in the meantime.
use Rattle.std.proofs.Common.{◌≡◌, ℕ, suc, ◌+◌, ◌-◌, ◌≤◌, ◌==◌, ◌&&◌, nat_lt, not, Bool, true, false, Option, Some, None, IsSomeAnd, List, [], ◌∷◌, ◌++◌, if◌then◌else◌, refl, sym, ◌∙◌, ap, subst, arith}
use Rattle.std.specs.Option.{ForSome, option_map_or}
use Rattle.laws_machine.proofs.Common.{Seeking, is_seeking, sensed, seek_bits, Seek, answer, kept, Accepted, More, Ready, Invalid, Obeys, TakesAs, sensing_by, answered, is_executing, reset, polled, RestsIn, Fdc, Lines, Board, controller_of, Step, Meets, Acts, Goes, false≢true, nat_tests, IsMotion, with_motion, ended, recalibrated, sought, neighbour, stepped_seek, has_ended, first_pending, without_result, released, IsInRange, motion_left, seek_left, pulses_left, seeks, RunsNoSeek, Recalibrates, Transferred, stepped_seeks as stepped, PortWrites as Writes}
use Rattle.fdc_commands.specs.declared.motion.Motion.{Motion}
use Rattle.fdc_commands.specs.declared.motion.Motion.TheVariants.{Outward, Toward, Ended}
use Rattle.fdc_commands.specs.declared.command.Command.{Command}
use Rattle.laws_machine.proofs.OnSteps.Moves.{lasts, meets_act, meets_here, meets_step, meets_within, zero_of}
use Rattle.laws_machine.proofs.OnSteps.Transfers.{after_step, Touches, at_controller, by_write}
use Rattle.laws_machine.proofs.OnSteps.Words.{controller, by_bytes, polled_seek, rests_polled}
use Rattle.laws_machine.proofs.Facts.{told_busy, idle_read, polled_phase, polled_keeps}
use Rattle.laws_machine.proofs.OnWrites.Guards.{no_bits}
use Rattle.fdc_commands.specs.declared.command.Command.TheVariants as command

-- ---- the seek itself

neighbour_left : (cylinder target : ℕ) → (b : Bool) → nat_lt cylinder target ≡ b → (cylinder == target) ≡ false
    → motion_left (Toward (if b then cylinder + 1 else cylinder - 1) target) + 1 ≤ motion_left (Toward cylinder target)
neighbour_left cylinder target true is differs = grind (arith, nat_tests)
neighbour_left cylinder target false is differs = grind (arith, nat_tests)

stepped_left : (old : Seeking) (drive : ℕ) (motion : Motion) (track0 : Bool) → has_ended motion ≡ false → seek_left (stepped_seek old drive motion track0).seek ≤ motion_left motion - 1
stepped_left old drive (Outward pulses) true runs = omega arith
stepped_left old drive (Outward pulses) false runs = by_last (pulses == 0) refl
  where
    by_last : (b : Bool) → (pulses == 0) ≡ b → seek_left (if b then ended old drive 0 (recalibrated drive false) else with_motion old drive (Outward (pulses - 1))).seek ≤ motion_left (Outward pulses) - 1
    by_last true is = omega arith
    by_last false is = grind (arith, nat_tests)
stepped_left old drive Ended track0 runs = absurd (false≢true (sym runs))
stepped_left old drive (Toward cylinder target) track0 runs = by_there (cylinder == target) refl
  where
    by_there : (b : Bool) → (cylinder == target) ≡ b
        → seek_left (if b then ended old drive target (sought drive) else with_motion old drive (Toward (neighbour cylinder target) target)).seek ≤ motion_left (Toward cylinder target) - 1
    by_there true is = omega arith
    by_there false is = let fewer = neighbour_left cylinder target (nat_lt cylinder target) refl is in omega arith

not_false : (b : Bool) → not b ≡ true → b ≡ false
not_false true is = absurd (false≢true is)
not_false false is = refl

seeking_left : (old : Seeking) (track0 : Bool) → is_seeking old ≡ true → seek_left (stepped old track0).seek ≤ seek_left old.seek - 1
seeking_left old track0 runs = by_seek old.seek runs
  where
    by_seek : (seek : Option Seek) → is_seeking (record old { seek = seek }) ≡ true → seek_left (stepped (record old { seek = seek }) track0).seek ≤ seek_left seek - 1
    by_seek None is = absurd (false≢true is)
    by_seek (Some seek) is = stepped_left (record old { seek = Some seek }) seek.drive seek.motion track0 (not_false (has_ended seek.motion) is)

some_left : (seeking : Seeking) → is_seeking seeking ≡ true → 1 ≤ seek_left seeking.seek
some_left seeking runs = by_seek seeking.seek runs
  where
    by_motion : (motion : Motion) → not (has_ended motion) ≡ true → 1 ≤ motion_left motion
    by_motion (Outward pulses) is = omega arith
    by_motion (Toward cylinder target) is = omega arith
    by_motion Ended is = absurd (false≢true is)

    by_seek : (seek : Option Seek) → is_seeking (record seeking { seek = seek }) ≡ true → 1 ≤ seek_left seek
    by_seek None is = absurd (false≢true is)
    by_seek (Some seek) is = by_motion seek.motion is

-- ---- the device step

-- no data command is in execution, and so many device steps at most are left of a seek
record Has (left : ℕ) (fdc : Fdc) : Type 0 where
  left_is : seek_left fdc.seeks.seek ≤ left
  idle : is_executing fdc.phase ≡ false

keeps_has : (left : ℕ) → Transferred (λ chips. Has left chips.controller)
keeps_has left = by_bytes (Has left) (λ fdc is. record { left_is = is.left_is; idle = told_busy fdc.phase ∙ is.idle })
    (λ fdc is. record { left_is = is.left_is; idle = is.idle }) (λ byte fdc is. record { left_is = is.left_is; idle = is.idle })

word_has : (old new : Fdc) (track0 : Bool) → is_executing old.phase ≡ false → is_seeking old.seeks ≡ true → RestsIn (polled old).phase track0 (polled old) new → Has (seek_left old.seeks.seek - 1) new
word_has old new track0 idle runs rests =
    let is = rests_polled old new track0 idle rests in
    let fewer = seeking_left (polled old).seeks track0 (polled_keeps (λ fdc. is_seeking fdc.seeks) old refl ∙ runs) in
    let before = ap seek_left (polled_seek old) in
    let after : seek_left new.seeks.seek ≡ seek_left (stepped (polled old).seeks track0).seek = ap (λ fdc. seek_left fdc.seeks.seek) is in
    record { left_is = omega arith; idle = ap (λ fdc. is_executing fdc.phase) is ∙ (ap is_executing (polled_phase old) ∙ idle) }

step_has : (old new : Board) → Step old new → is_executing (controller_of old).phase ≡ false → seeks old → Has (pulses_left old - 1) (controller_of new)
step_has old new step idle runs =
    after_step (λ c. Has (pulses_left old - 1) c.controller) (keeps_has (pulses_left old - 1)) old new step
    (controller (Has (pulses_left old - 1) step.between) old new step
    (λ before after works. word_has (controller_of old) step.between (before.cylinder == 0) idle runs works.rests)
    (λ works. word_has (controller_of old) step.between false idle runs works.rests))

-- ---- the acts: a seek that runs stays as it is, or is forgotten by a reset

-- what is left of the seek is the same, or none runs
pub data Goes_on (old new : Fdc) : Type 0 where
  Same : new.seeks.seek ≡ old.seeks.seek → is_executing new.phase ≡ false → Goes_on old new
  Forgets : is_seeking new.seeks ≡ false → Goes_on old new

bits_some : (seeking : Seeking) → is_seeking seeking ≡ true → seek_bits seeking ≡ 0 → ⊥
bits_some seeking runs none =
    let free : is_seeking seeking ≡ false = (let at = no_bits seeking none in rw at refl) in false≢true (sym free ∙ runs)

released_same : (drive : ℕ) (seeking : Seeking) → is_seeking seeking ≡ true → released drive seeking.seek ≡ seeking.seek
released_same drive seeking runs = by_seek seeking.seek runs
  where
    by_end : (b ends : Bool) (seek : Seek) → not ends ≡ true → (if b && ends then None else Some seek) ≡ Some seek
    by_end true true seek is = absurd (false≢true is)
    by_end true false seek is = refl
    by_end false ends seek is = refl

    by_seek : (seek : Option Seek) → is_seeking (record seeking { seek = seek }) ≡ true → released drive seek ≡ seek
    by_seek None is = refl
    by_seek (Some seek) is = by_end (seek.drive == drive) (has_ended seek.motion) seek is

sense_same : (first : Option ℕ) (old : Seeking) → is_seeking old ≡ true → (option_map_or (without_result old) first old).seek ≡ old.seek
sense_same None old runs = refl
sense_same (Some drive) old runs = released_same drive old runs

sensing_same : (some : Option (ℕ × ℕ)) (old new : Fdc) → is_seeking old.seeks ≡ true → new ≡ sensing_by some old → Goes_on old new
sensing_same None old new runs is = Goes_on.Same (ap (λ fdc. fdc.seeks.seek) is) (ap (λ fdc. is_executing fdc.phase) is)
sensing_same (Some (status, cylinder)) old new runs is =
    Goes_on.Same (ap (λ fdc. fdc.seeks.seek) is ∙ sense_same (first_pending old.seeks) old.seeks runs) (ap (λ fdc. is_executing fdc.phase) is)

refused : (c : Command) (lines : Lines) (old new : Fdc) → is_seeking old.seeks ≡ true
    → ((seek_bits old.seeks == 0) ≡ false → new ≡ answered 0x80 None old) → Goes_on old new
refused c lines old new runs refuses = by_test (seek_bits old.seeks == 0) refl
  where
    by_test : (b : Bool) → (seek_bits old.seeks == 0) ≡ b → Goes_on old new
    by_test true is = absurd (bits_some old.seeks runs (zero_of (seek_bits old.seeks) is))
    by_test false is = let same = refuses is in Goes_on.Same (ap (λ fdc. fdc.seeks.seek) same) (ap (λ fdc. is_executing fdc.phase) same)

obeys : (c : Command) (lines : Lines) (old new : Fdc) → is_seeking old.seeks ≡ true → Obeys c lines old new → Goes_on old new
obeys command.SenseInterrupt lines old new runs is = sensing_same (sensed old.seeks) old new runs is
obeys c lines old new runs (rests, refuses) = refused c lines old new runs refuses

took : (accepted : Accepted) (lines : Lines) (old new : Fdc) → is_executing old.phase ≡ false → is_seeking old.seeks ≡ true → TakesAs accepted lines old new → Goes_on old new
took More lines old new idle runs is = Goes_on.Same (ap (λ fdc. fdc.seeks.seek) is) (ap (λ fdc. is_executing fdc.phase) is ∙ idle)
took (Ready c) lines old new idle runs does = obeys c lines old new runs does
took Invalid lines old new idle runs is = Goes_on.Same (ap (λ fdc. fdc.seeks.seek) is) (ap (λ fdc. is_executing fdc.phase) is)

same_fdc : (old new : Fdc) → is_executing old.phase ≡ false → new ≡ old → Goes_on old new
same_fdc old new idle is = Goes_on.Same (ap (λ fdc. fdc.seeks.seek) is) (ap (λ fdc. is_executing fdc.phase) is ∙ idle)

resets : (b : Bool) (set old : Fdc) → set.seeks ≡ old.seeks → is_executing set.phase ≡ false → Goes_on old (if b then reset set else set)
resets true set old seeks idle = Goes_on.Forgets refl
resets false set old seeks idle = Goes_on.Same (ap (λ s. s.seek) seeks) idle

same_command : (command : List ℕ) (old new : Fdc) → Goes_on (record old { command = command }) new → Goes_on old new
same_command command old new (Goes_on.Same seek rest) = Goes_on.Same seek rest
same_command command old new (Goes_on.Forgets none) = Goes_on.Forgets none

writes_go : (port value : ℕ) (lines : Lines) (old new : Fdc) → is_executing old.phase ≡ false → is_seeking old.seeks ≡ true → Writes port value lines old new → Goes_on old new
writes_go port value lines old new idle runs writes =
    let bytes = old.command ++ value ∷ [] in
    by_write (Goes_on old) port value lines old new writes (λ b dor rate. resets b (record old { dor = dor; rate = rate }) old refl idle)
    (λ takes. same_command (kept (answer bytes) bytes) old new (took (answer bytes) lines (record old { command = kept (answer bytes) bytes }) new idle runs takes))

touches_go : (old new : Fdc) → is_executing old.phase ≡ false → is_seeking old.seeks ≡ true → Touches old new → Goes_on old new
touches_go old new idle runs (Touches.Leaves last is) = same_fdc old last idle is
touches_go old new idle runs (Touches.Gives last is) = Goes_on.Same (ap (λ fdc. fdc.seeks.seek) is) (ap (λ fdc. is_executing fdc.phase) is ∙ idle_read old.phase idle)
touches_go old new idle runs (Touches.Takes port value lines last writes) = writes_go port value lines old last idle runs writes

-- ---- courses

-- the seek ended on the way, or runs with so many fewer steps left
data Runs (start : Board) (n : ℕ) (now : Board) : Type 0 where
  Over : Meets RunsNoSeek (pulses_left start) start n now → Runs start n now
  On : Goes start n now → pulses_left now + n ≤ pulses_left start → is_executing (controller_of now).phase ≡ false → seeks now → Runs start n now

over_here : (start : Board) (n : ℕ) (now : Board) → Goes start n now → n ≤ pulses_left start → RunsNoSeek now → Runs start n now
over_here start n now goes within over = Runs.Over (meets_here RunsNoSeek (pulses_left start) n start now goes within over)

-- the seek may have ended here
here : (start : Board) (n : ℕ) (now : Board) → Goes start n now → pulses_left now + n ≤ pulses_left start → n ≤ pulses_left start → is_executing (controller_of now).phase ≡ false → Runs start n now
here start n now goes left within idle = by_run (is_seeking (controller_of now).seeks) refl
  where
    by_run : (b : Bool) → is_seeking (controller_of now).seeks ≡ b → Runs start n now
    by_run true is = Runs.On goes left idle is
    by_run false is = over_here start n now goes within is

step_on : (start : Board) (n : ℕ) (old new : Board) → Step old new → Runs start n old → Runs start (suc n) new
step_on start n old new step (Runs.Over ends) = Runs.Over (meets_step RunsNoSeek (pulses_left start) n start old new step ends)
step_on start n old new step (Runs.On goes left idle runs) =
    let has = step_has old new step idle runs in let some = some_left (controller_of old).seeks runs in let fewer = has.left_is in
    here start (suc n) new (Goes.Steps n old new goes step) (omega arith) (omega arith) has.idle

act_on : (start : Board) (n : ℕ) (old new : Board) → Acts old new → Runs start n old → Runs start n new
act_on start n old new acts (Runs.Over ends) = Runs.Over (meets_act RunsNoSeek (pulses_left start) n start old new acts ends)
act_on start n old new acts (Runs.On goes left idle runs) = by_end (touches_go (controller_of old) (controller_of new) idle runs (at_controller old new acts))
  where
    by_end : Goes_on (controller_of old) (controller_of new) → Runs start n new
    by_end (Goes_on.Same seek rest) = let same = ap seek_left seek in here start n new (Goes.Does n old new goes acts) (omega arith) (omega arith) rest
    by_end (Goes_on.Forgets none) = over_here start n new (Goes.Does n old new goes acts) (omega arith) none

pub seek_ends : (old new : Board) (n : ℕ) → Goes old n new → is_executing (controller_of old).phase ≡ false → seeks old → pulses_left old ≤ n → Meets RunsNoSeek (pulses_left old) old n new
seek_ends old new n goes idle runs many = by_end (lasts (λ n now. Runs old n now) (record { step = step_on old; act = act_on old }) old new n goes (Runs.On Goes.Stays (omega arith) idle runs))
  where
    by_end : Runs old n new → Meets RunsNoSeek (pulses_left old) old n new
    by_end (Runs.Over ends) = ends
    by_end (Runs.On goes left rest on) = let some = some_left (controller_of new).seeks on in absurd (omega arith)

-- ---- numbers

motion_few : (motion : Motion) → IsMotion motion → motion_left motion ≤ 256
motion_few (Outward pulses) few = omega arith
motion_few (Toward cylinder target) (first, second) = omega arith
motion_few Ended is = omega arith

seek_few : (seek : Option Seek) → ForSome seek (λ s. IsMotion s.motion) → seek_left seek ≤ 256
seek_few None is = omega arith
seek_few (Some seek) is = motion_few seek.motion (is seek refl)

-- no seek takes more than 256
pub most_left : (board : Board) → IsInRange board → pulses_left board ≤ 256
most_left board range = seek_few (controller_of board).seeks.seek range.controller.seeks.motion

outward_few : (motion : Motion) (pulses : ℕ) → motion ≡ Outward pulses → IsMotion motion → motion_left motion ≤ 80
outward_few motion pulses is range = let few : pulses ≤ 79 = subst IsMotion is range in let left = ap motion_left is in omega arith

outward_left : (seek : Option Seek) → ForSome seek (λ s. IsMotion s.motion) → IsSomeAnd seek (λ s. (pulses : ℕ) × (s.motion ≡ Outward pulses)) → seek_left seek ≤ 80
outward_left None range none = omega arith
outward_left (Some seek) range (pulses, is) = outward_few seek.motion pulses is (range seek refl)

-- a RECALIBRATE takes no more than 80
pub recalibrate_left : (board : Board) → IsInRange board → Recalibrates board → pulses_left board ≤ 80
recalibrate_left board range is = outward_left (controller_of board).seeks.seek range.controller.seeks.motion is

-- a seek that runs has ended within 256 device steps
pub seek_ends_in_time : (old new : Board) (n : ℕ) → Goes old n new → IsInRange old → is_executing (controller_of old).phase ≡ false → seeks old → 256 ≤ n → Meets RunsNoSeek 256 old n new
seek_ends_in_time old new n goes range idle runs many = let few = most_left old range in
    meets_within RunsNoSeek (pulses_left old) 256 n old new few (seek_ends old new n goes idle runs (omega arith))
