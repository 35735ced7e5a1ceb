-- Every call is a course. What each step and each act carries on holds at the end of every course.
use Rattle.std.proofs.Common.{◌≡◌, inl, inr, ℕ, suc, ◌+◌, ◌≤◌, Bool, List, sym, ap, subst, arith, min, refl, ◌⊎◌, ◌-◌, ◌==◌, true, false, Option, Some, None, [], ◌∷◌, ◌++◌, if◌then◌else◌, ◌∙◌}
use Rattle.laws_machine.proofs.Common.{next_entry, Board, Inputs, Outputs, Step, Waits, stirred, regapped, Marching, Meets, read_from, Acts, Goes, Lasting, cases_lt, Runs, RunsUnset, last_count, Counts, sensed, seek_bits, answer, kept, Accepted, More, Ready, Invalid, after_byte, Obeys, TakesAs, sensing_by, answered, phase_told, is_executing, phase_after, reset, polled, RestsIn, Fdc, Lines, Phase, controller_of, false≢true, nat_tests, BeginsData, Begins, ObeysAtRest, Elapses, IsOver, Transferred, PortWrites as Writes, steps_left, EndsIn, IsCounted}
use Rattle.laws_machine.proofs.OnSteps.Runs.{unset_runs, march_wait, march_gap}
use Rattle.fdc_commands.specs.declared.command.Command.{Command}
use Rattle.laws_machine.proofs.Facts.{polled_phase, told_keeps, idle_after}
use Rattle.laws_machine.proofs.OnSteps.Transfers.{after_step, Touches, at_controller, by_write}
use Rattle.laws_machine.proofs.OnSteps.Words.{controller, by_bytes}
use Rattle.fdc_commands.specs.declared.command.Command.TheVariants as command
use Rattle.fdc_phases.specs.declared.phases.Phase.TheVariants as phase

-- the only induction: what is carried on holds at the end of a course
pub lasts : (P : ℕ → Board → Type 0) → Lasting P → (old new : Board) (n : ℕ) → Goes old n new → P 0 old → P n new
lasts P lasting old new n Goes.Stays was = was
lasts P lasting old new n (Goes.Does m between last goes acts) was = lasting.act m between last acts (lasts P lasting old between m goes was)
lasts P lasting old new n (Goes.Steps m between last goes step) was = lasting.step m between last step (lasts P lasting old between m goes was)

-- courses go on by device steps
going : (start : Board) → Marching (λ n. Goes start n)
going start = record {
  step = λ n old new step goes. Goes.Steps n old new goes step;
  idle = λ n old gaps fresh goes. Goes.Does n old (regapped gaps fresh old) goes (Acts.Idles gaps fresh);
}

-- each call is a course
pub wait_goes : (n : ℕ) (old new : Board) → Runs n (stirred old) new → Goes old n new
wait_goes n old new runs = march_wait (λ n. Goes old n) (going old) n old new runs Goes.Stays

pub unset_goes : (n : ℕ) (old new : Board) → RunsUnset n (stirred old) new → Goes old n new
unset_goes n old new runs = wait_goes n old new (unset_runs n (stirred old) new runs)

pub waits_goes : (most : ℕ) (set : Bool) (old new : Board) → (waits : Waits most old set new) → Goes old waits.steps new
waits_goes most set old new waits = unset_goes waits.steps old new waits.runs

pub input_goes : (port value : ℕ) (old new : Board) → Inputs port old value new → Goes old (next_entry old.bus.gaps) new
input_goes port value old new access =
    march_gap (λ n. Goes old n) (going old) (read_from port old) new access.gap (Goes.Does 0 old (read_from port old) Goes.Stays (Acts.Reads port))

pub output_goes : (port value : ℕ) (old new : Board) → Outputs port value old new → Goes old (next_entry old.bus.gaps) new
output_goes port value old new access =
    subst (λ (gaps : List ℕ). Goes old (next_entry gaps) new) (ap (λ bus. bus.gaps) access.writes.bus)
    (march_gap (λ n. Goes old n) (going old) access.between new access.gap (Goes.Does 0 old access.between Goes.Stays (Acts.Writes port value access.between access.writes)))

-- one course after another
suc_plus : (n m : ℕ) → suc (n + m) ≡ n + suc m
suc_plus n m = omega arith

pub goes_on : (a b c : Board) (n m : ℕ) → Goes a n b → Goes b m c → Goes a (n + m) c
goes_on a b c n m first second = lasts (λ k d. Goes a (n + k) d) behind b c m second (subst (λ k. Goes a k b) (plus_zero n) first)
  where
    plus_zero : (n : ℕ) → n ≡ n + 0
    plus_zero n = omega arith

    behind : Lasting (λ k d. Goes a (n + k) d)
    behind = record {
      step = λ k old new step goes. subst (λ j. Goes a j new) (suc_plus n k) (Goes.Steps (n + k) old new goes step);
      act = λ k old new acts goes. Goes.Does (n + k) old new goes acts;
    }

-- ---- a board on the way

pub meets_act : (P : Board → Type 0) (most n : ℕ) (start old new : Board) → Acts old new → Meets P most start n old → Meets P most start n new
meets_act P most n start old new acts was = record {
  mid = was.mid;
  first = was.first;
  behind = was.behind;
  goes = was.goes;
  goes_on = Goes.Does was.behind old new was.goes_on acts;
  all = was.all;
  within = was.within;
  holds = was.holds;
}

pub meets_step : (P : Board → Type 0) (most n : ℕ) (start old new : Board) → Step old new → Meets P most start n old → Meets P most start (suc n) new
meets_step P most n start old new step was = let all = was.all in record {
  mid = was.mid;
  first = was.first;
  behind = suc was.behind;
  goes = was.goes;
  goes_on = Goes.Steps was.behind old new was.goes_on step;
  all = omega arith;
  within = was.within;
  holds = was.holds;
}

-- the board is here
pub meets_here : (P : Board → Type 0) (most n : ℕ) (start now : Board) → Goes start n now → n ≤ most → P now → Meets P most start n now
meets_here P most n start now goes within holds =
    record { mid = now; first = n; behind = 0; goes = goes; goes_on = Goes.Stays; all = omega arith; within = within; holds = holds }

-- the same board is met within a greater number of steps
pub meets_within : (P : Board → Type 0) (few most n : ℕ) (start now : Board) → few ≤ most → Meets P few start n now → Meets P most start n now
meets_within P few most n start now less was = let within = was.within in
    record { mid = was.mid; first = was.first; behind = was.behind; goes = was.goes; goes_on = was.goes_on; all = was.all; within = omega arith; holds = was.holds }

-- a course passes the board after `most` of its steps
record Passed (P : Board → Type 0) (most : ℕ) (start : Board) (n : ℕ) (now : Board) : Type 0 where
  goes : Goes start n now
  meets : most ≤ n → Meets P most start n now

now_meets : (P : Board → Type 0) (most n : ℕ) (start now : Board) → ((mid : Board) → Goes start most mid → P mid) → most ≡ n → Goes start n now → Meets P most start n now
now_meets P most n start now holds is goes = meets_here P most n start now goes (omega arith) (holds now (subst (λ k. Goes start k now) (sym is) goes))

passing : (P : Board → Type 0) (most : ℕ) (start : Board) → ((mid : Board) → Goes start most mid → P mid) → Lasting (Passed P most start)
passing P most start holds = record {
  step = λ n old new step was. (let goes = Goes.Steps n old new was.goes step in record {
    goes = goes;
    meets = λ many. elim (cases_lt n most) [
      | inl last ↦ now_meets P most (suc n) start new holds (omega arith) goes
      | inr before ↦ meets_step P most n start old new step (was.meets before)
    ];
  });
  act = λ n old new acts was. record { goes = Goes.Does n old new was.goes acts; meets = λ many. meets_act P most n start old new acts (was.meets many) };
}

pub meets_behind : (P : Board → Type 0) (most n : ℕ) (start now : Board) → ((mid : Board) → Goes start most mid → P mid) → Goes start n now → most ≤ n → Meets P most start n now
meets_behind P most n start now holds goes many =
    (lasts (Passed P most start) (passing P most start holds) start now n goes (record { goes = Goes.Stays; meets = λ none. now_meets P most 0 start start holds (omega arith) Goes.Stays })).meets many

-- ---- device steps are counted

-- no act counts as a device step
same_steps : (old new : Board) → Acts old new → new.bus.steps ≡ old.bus.steps
same_steps old new (Acts.Idles gaps fresh) = refl
same_steps old new (Acts.Reads port) = refl
same_steps old new (Acts.Writes port value last writes) = ap (λ bus. bus.steps) writes.bus
same_steps old new Acts.Takes = refl
same_steps old new (Acts.Sets address value) = refl
same_steps old new (Acts.Handles bay last touches) = ap (λ bus. bus.steps) touches.bus

counting : (start : Board) → Lasting (λ n now. Counts n start now)
counting start = record {
  step = λ n old new step was.
      let least = was.least in let most = was.most in
      let one : new.bus.steps ≡ min (old.bus.steps + 1) last_count = ap (λ bus. bus.steps) step.bus in
      record { least = omega arith; most = omega arith };
  act = λ n old new acts was.
      let least = was.least in let most = was.most in let same = same_steps old new acts in
      record { least = omega arith; most = omega arith };
}

pub goes_counted : (n : ℕ) (old new : Board) → Goes old n new → Counts n old new
goes_counted n old new goes = lasts (λ k now. Counts k old now) (counting old) old new n goes (record { least = omega arith; most = omega arith })

-- ---- A data command ends in time, whatever is done in the meantime

-- what transfers leave of a controller: the steps that are left, and what is counted
record Shows (left begun : ℕ) (fdc : Fdc) : Type 0 where
  steps : steps_left fdc.phase ≡ left
  counted : IsCounted fdc.phase
  count : fdc.data_commands ≡ begun

-- ---- the device step

told_counted : (p : Phase) → IsCounted p → IsCounted (phase_told p)
told_counted (phase.Execute execution) was = was
told_counted _ was = was

showing : (left begun : ℕ) → Transferred (λ chips. Shows left begun chips.controller)
showing left begun = by_bytes (Shows left begun)
    (λ fdc is. record { steps = told_keeps steps_left (λ _. refl) fdc.phase ∙ is.steps; counted = told_counted fdc.phase is.counted; count = is.count })
    (λ fdc is. record { steps = is.steps; counted = is.counted; count = is.count }) (λ byte fdc is. record { steps = is.steps; counted = is.counted; count = is.count })

-- a step is over, and after it the count of a data command in execution is below 65,536
record Falls (old new : Phase) : Type 0 where
  steps : steps_left new ≤ steps_left old - 1
  counted : IsCounted new

falls_none : (old new : Phase) → new ≡ old → steps_left old ≡ 0 → IsCounted old → Falls old new
falls_none old new same none counted = let left = ap steps_left same in record { steps = omega arith; counted = subst IsCounted (sym same) counted }

ends_in : (p : Phase) (polls between : Fdc) (track0 : Bool) → EndsIn p between.phase → RestsIn p track0 polls between → polls.phase ≡ p → Falls p between.phase
ends_in (phase.Execute execution) polls between track0 ends rests same = let less = ends.0 in record { steps = omega arith; counted = ends.1 }
ends_in p polls between track0 ends rests same = falls_none p between.phase (ap (λ fdc. fdc.phase) rests ∙ same) refl tt

word_ends : (old between : Fdc) (track0 : Bool) → EndsIn old.phase between.phase → RestsIn (polled old).phase track0 (polled old) between → Falls old.phase between.phase
word_ends old between track0 ends rests =
    ends_in old.phase (polled old) between track0 ends (subst (λ p. RestsIn p track0 (polled old) between) (polled_phase old) rests) (polled_phase old)

record Ticks (old new : Fdc) : Type 0 where
  falls : Falls old.phase new.phase
  count : new.data_commands ≡ old.data_commands

step_ticks : (old new : Board) → (step : Step old new) → Ticks (controller_of old) (controller_of new)
step_ticks old new step =
    let word : Ticks (controller_of old) step.between = controller (Ticks (controller_of old) step.between) old new step
    (λ before after works. record { falls = word_ends (controller_of old) step.between (before.cylinder == 0) works.ends works.rests; count = works.stays.data_commands })
    (λ works. record { falls = word_ends (controller_of old) step.between false works.ends works.rests; count = works.stays.data_commands }) in
    let shows = after_step (λ c. Shows (steps_left step.between.phase) step.between.data_commands c.controller) (showing _ _) old new step
    (record { steps = refl; counted = word.falls.counted; count = refl }) in
    let fewer = word.falls.steps in let same = shows.steps in
    record { falls = record { steps = omega arith; counted = shows.counted }; count = shows.count ∙ word.count }

-- a data command has fewer device steps left with each of them
pub step_ends : (old new : Board) → Step old new → steps_left (controller_of new).phase ≤ steps_left (controller_of old).phase - 1
step_ends old new step = (step_ticks old new step).falls.steps

pub ending : (start : Board) → Marching (λ n board. steps_left (controller_of board).phase ≤ steps_left (controller_of start).phase - n)
ending start = record { step = λ n old new step was. (let fewer = step_ends old new step in omega arith); idle = λ n old gaps fresh was. was }

-- ---- the acts

-- a data command in execution, if there is one, is the same as before
pub record Keeps (old new : Phase) : Type 0 where
  pub left : steps_left new ≤ steps_left old
  pub counted : IsCounted old → IsCounted new

-- the data command in execution is the same as before, or a data command began
pub data Holds (old : Fdc) (new : Fdc) : Type 0 where
  Same : new.data_commands ≡ old.data_commands → Keeps old.phase new.phase → Holds old new
  Began : new.data_commands ≡ min (old.data_commands + 1) last_count → Holds old new

keeps_same : (old new : Phase) → new ≡ old → Keeps old new
keeps_same old new same = let left = ap steps_left same in record { left = omega arith; counted = λ was. subst IsCounted (sym same) was }

keeps_idle : (old new : Phase) → is_executing new ≡ false → Keeps old new
keeps_idle old (phase.Execute execution) none = absurd (false≢true (sym none))
keeps_idle old _ none = record { left = omega arith; counted = λ was. tt }

same_phase : (old new : Fdc) → new.data_commands ≡ old.data_commands → new.phase ≡ old.phase → Holds old new
same_phase old new count stays = Holds.Same count (keeps_same old.phase new.phase stays)

idle : (old new : Fdc) → new.data_commands ≡ old.data_commands → is_executing new.phase ≡ false → Holds old new
idle old new count none = Holds.Same count (keeps_idle old.phase new.phase none)

same_fdc : (old new : Fdc) → new ≡ old → Holds old new
same_fdc old new is = same_phase old new (ap (λ fdc. fdc.data_commands) is) (ap (λ fdc. fdc.phase) is)

resets : (b : Bool) (set old : Fdc) → set.data_commands ≡ old.data_commands → set.phase ≡ old.phase → Holds old (if b then reset set else set)
resets true set old count stays = idle old (reset set) count refl
resets false set old count stays = same_phase old set count stays

sensed_idle : (some : Option (ℕ × ℕ)) (old new : Fdc) → new ≡ sensing_by some old → Holds old new
sensed_idle None old new is = idle old new (ap (λ fdc. fdc.data_commands) is) (ap (λ fdc. is_executing fdc.phase) is)
sensed_idle (Some (status, cylinder)) old new is = idle old new (ap (λ fdc. fdc.data_commands) is) (ap (λ fdc. is_executing fdc.phase) is)

answered_idle : (byte : ℕ) (last : Option ℕ) (old new : Fdc) → new ≡ answered byte last old → Holds old new
answered_idle byte last old new is = idle old new (ap (λ fdc. fdc.data_commands) is) (ap (λ fdc. is_executing fdc.phase) is)

data_begins : (c : Command) (old new : Fdc) → BeginsData c old new → Holds old new
data_begins (command.ReadId head_drive) old new (task, is, waits, after) = Holds.Began (ap (λ fdc. fdc.data_commands) after)
data_begins (command.ReadData head_drive key eot gpl dtl) old new (task, is, waits, after) = Holds.Began (ap (λ fdc. fdc.data_commands) after)
data_begins (command.WriteData head_drive key eot gpl dtl) old new (task, is, waits, after) = Holds.Began (ap (λ fdc. fdc.data_commands) after)
data_begins (command.WriteDeleted head_drive key eot gpl dtl) old new (task, is, waits, after) = Holds.Began (ap (λ fdc. fdc.data_commands) after)
data_begins (command.FormatTrack head_drive n sc gpl fill) old new (task, is, waits, after) = Holds.Began (ap (λ fdc. fdc.data_commands) after)
data_begins _ old new is = answered_idle 0x80 None old new is

by_dma : (c : Command) (old new : Fdc) → Begins c old new → Holds old new
by_dma c old new (without, with_dma) = by_bit old.non_dma refl
  where
    by_bit : (b : Bool) → old.non_dma ≡ b → Holds old new
    by_bit true is = answered_idle 0x80 None old new (without is)
    by_bit false is = data_begins c old new (with_dma is)

at_rest : (c : Command) (lines : Lines) (old new : Fdc) → ObeysAtRest c lines old new → Holds old new
at_rest (command.Specify srt_hut hlt_nd) lines old new is = same_phase old new (ap (λ fdc. fdc.data_commands) is) (ap (λ fdc. fdc.phase) is)
at_rest (command.SenseDrive head_drive) lines old new is = idle old new (ap (λ fdc. fdc.data_commands) is) (ap (λ fdc. is_executing fdc.phase) is)
at_rest (command.Recalibrate drive) lines old new is = same_phase old new (ap (λ fdc. fdc.data_commands) is) (ap (λ fdc. fdc.phase) is)
at_rest command.SenseInterrupt lines old new is = sensed_idle (sensed old.seeks) old new is
at_rest (command.Seek head_drive target) lines old new is = same_phase old new (ap (λ fdc. fdc.data_commands) is) (ap (λ fdc. fdc.phase) is)
at_rest command.Version lines old new is = answered_idle 0x90 None old new is
at_rest (command.Configure fixed options pretrk) lines old new is = same_phase old new (ap (λ fdc. fdc.data_commands) is) (ap (λ fdc. fdc.phase) is)
at_rest c lines old new is = by_dma c old new is

pub zero_of : (n : ℕ) → (n == 0) ≡ true → n ≡ 0
zero_of n is = grind (arith, nat_tests)

by_bits : (c : Command) (lines : Lines) (old new : Fdc) → (seek_bits old.seeks ≡ 0 → ObeysAtRest c lines old new)
    → ((seek_bits old.seeks == 0) ≡ false → new ≡ answered 0x80 None old) → Holds old new
by_bits c lines old new rests refuses = by_test (seek_bits old.seeks == 0) refl
  where
    by_test : (b : Bool) → (seek_bits old.seeks == 0) ≡ b → Holds old new
    by_test true is = at_rest c lines old new (rests (zero_of (seek_bits old.seeks) is))
    by_test false is = answered_idle 0x80 None old new (refuses is)

obeys : (c : Command) (lines : Lines) (old new : Fdc) → Obeys c lines old new → Holds old new
obeys command.SenseInterrupt lines old new is = sensed_idle (sensed old.seeks) old new is
obeys c lines old new (rests, refuses) = by_bits c lines old new rests refuses

took : (accepted : Accepted) (lines : Lines) (old new : Fdc) → TakesAs accepted lines old new → Holds old new
took More lines old new is = same_fdc old new is
took (Ready c) lines old new does = obeys c lines old new does
took Invalid lines old new is = answered_idle 0x80 None old new is

pub port_is : (port at : ℕ) → (port == at) ≡ true → port ≡ at
port_is port at is = grind (arith, nat_tests)

same_command : (command : List ℕ) (old new : Fdc) → Holds (record old { command = command }) new → Holds old new
same_command command old new (Holds.Same count keeps) = Holds.Same count keeps
same_command command old new (Holds.Began count) = Holds.Began count

writes_hold : (port value : ℕ) (lines : Lines) (old new : Fdc) → Writes port value lines old new → Holds old new
writes_hold port value lines old new writes =
    let bytes = old.command ++ value ∷ [] in
    by_write (Holds old) port value lines old new writes (λ b dor rate. resets b (record old { dor = dor; rate = rate }) old refl refl)
    (λ takes. same_command (kept (answer bytes) bytes) old new (took (answer bytes) lines (record old { command = kept (answer bytes) bytes }) new takes))

-- a read of the data port
given_keeps : (p : Phase) → Keeps p (phase_after p)
given_keeps phase.Command = keeps_idle phase.Command phase.Command refl
given_keeps (phase.Result answer) = keeps_idle (phase.Result answer) (after_byte answer) (idle_after answer)
given_keeps (phase.Execute execution) = keeps_same (phase.Execute execution) (phase.Execute execution) refl

touches_hold : (old new : Fdc) → Touches old new → Holds old new
touches_hold old new (Touches.Leaves last is) = same_fdc old last is
touches_hold old new (Touches.Gives last is) = Holds.Same (ap (λ fdc. fdc.data_commands) is) (subst (Keeps old.phase) (sym (ap (λ fdc. fdc.phase) is)) (given_keeps old.phase))
touches_hold old new (Touches.Takes port value lines last writes) = writes_hold port value lines old last writes

-- ---- courses

ticked : (start : Board) (n : ℕ) (old new : Board) → Ticks (controller_of old) (controller_of new) → Elapses start n old → Elapses start (suc n) new
ticked start n old new ticks was =
    let fewer = ticks.falls.steps in let same = ticks.count in let rises = was.rises in
    record {
      rises = omega arith;
      left = elim was.left [ inl before ↦ (let left = before.left in inl (record { left = omega arith; counted = λ why. ticks.falls.counted })) | inr rose ↦ inr (omega arith) ];
    }

held : (start : Board) (n : ℕ) (old new : Board) → Holds (controller_of old) (controller_of new) → Elapses start n old → Elapses start n new
held start n old new (Holds.Same same keeps) was =
    let rises = was.rises in let fewer = keeps.left in
    record {
      rises = omega arith;
      left = elim was.left [ inl before ↦ (let left = before.left in inl (record { left = omega arith; counted = λ why. keeps.counted (before.counted why) })) | inr rose ↦ inr (omega arith) ];
    }
held start n old new (Holds.Began count) was = let rises = was.rises in record { rises = omega arith; left = inr (omega arith) }

elapsing : (start : Board) → Lasting (Elapses start)
elapsing start = record {
  step = λ n old new step. ticked start n old new (step_ticks old new step);
  act = λ n old new acts. held start n old new (touches_hold (controller_of old) (controller_of new) (at_controller old new acts));
}

elapses : (old new : Board) (n : ℕ) → Goes old n new → Elapses old n new
elapses old new n goes =
    lasts (Elapses old) (elapsing old) old new n goes (record { rises = omega arith; left = inl (record { left = omega arith; counted = λ why. elim why [ inl was ↦ was | inr some ↦ absurd (omega arith) ] }) })

-- if no step is left, the command is over
over_of : (p : Phase) → IsCounted p → steps_left p ≡ 0 → is_executing p ≡ false
over_of (phase.Execute execution) counted none = absurd (omega arith)
over_of _ counted none = refl

most_left : (p : Phase) → steps_left p ≤ 65536
most_left (phase.Execute execution) = omega arith
most_left _ = omega arith

ends_by : (old new : Board) (n : ℕ) → Goes old n new → IsCounted (controller_of old).phase ⊎ (1 ≤ n) → steps_left (controller_of old).phase ≤ n → IsOver old new
ends_by old new n goes why many = elim (elapses old new n goes).left [
  | inl lessens ↦ (let left = lessens.left in inl (over_of (controller_of new).phase (lessens.counted why) (omega arith)))
  | inr rose ↦ inr rose
]

-- the command is over after as many device steps as were left of it
pub data_ends : (old new : Board) (n : ℕ) → Goes old n new → IsCounted (controller_of old).phase → steps_left (controller_of old).phase ≤ n → IsOver old new
data_ends old new n goes counted many = ends_by old new n goes (inl counted) many

-- the command is over after 65,536 device steps in any case
pub data_ends_in_time : (old new : Board) (n : ℕ) → Goes old n new → 65536 ≤ n → IsOver old new
data_ends_in_time old new n goes many = let most = most_left (controller_of old).phase in ends_by old new n goes (inr (omega arith)) (omega arith)

-- a course of 65,536 device steps or more passes a board on which the command is over, after at most 65,536 of them
pub data_over : (old new : Board) (n : ℕ) → Goes old n new → 65536 ≤ n → Meets (IsOver old) 65536 old n new
data_over old new n goes many = meets_behind (IsOver old) 65536 n old new (λ mid first. data_ends_in_time old mid 65536 first (omega arith)) goes many
