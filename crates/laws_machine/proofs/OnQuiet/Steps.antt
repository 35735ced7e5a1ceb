-- Drives that go on turning.
use Rattle.std.proofs.Common.{◌≡◌, ℕ, ◌+◌, ◌<◌, ◌≤◌, ◌==◌, ◌&&◌, nat_lt, Bool, true, false, Option, None, if◌then◌else◌, refl, sym, ◌∙◌, ap, subst, arith, List, ◌||◌}
use Rattle.laws_machine.proofs.Common.{spends_twice, DriveState, Becomes, at_speed, turns, track_words, let_pass, Moves, Turned, spends_itself, becomes_at, Spends, phase_told, task_told, ExecutesIn, is_listening, polled, RestsIn, Stays, MovesIn, MovesTask, Fdc, Phase, Execute, Board, controller_of, Works, WorksAlone, Step, only_listens, IsQuiet, HoldsOn, HaveTurned, GoesQuietly, StandsStill, regapped, Steady, Chips, dma_stepped, Low, is_executing, seek_stepped, Seeking, is_seeking, interrupts, is_gated, IsHushed, Setting, setting_of, ChipsStand, Stands, and_right, Channel, Holds}
use Rattle.laws_machine.proofs.Facts.{different, spin_on, polled_phase, each_task, told_keeps, polled_asking}
use Rattle.laws_machine.proofs.OnQuiet.Listening.{pulse_none, Listened, word_listens}
use Rattle.laws_machine.proofs.OnSteps.Words.{controller, drives, polled_cylinders, polled_seek, dma_only, phase_dma, idle_dma, rests_polled}

place_on : (fast : Bool) (place words : ℕ) → place < words
    → (if fast && (place + 1 == words) then 0 else (if fast then place + 1 else place)) < words
place_on false place words below = below
place_on true place words below = by_end (place + 1 == words) refl
  where
    by_end : (b : Bool) → (place + 1 == words) ≡ b → (if b then 0 else place + 1) < words
    by_end true is = omega arith
    by_end false is = let unlike = different (place + 1) words is in omega arith

pub turned_let : (old new : DriveState) → Becomes (let_pass old) old new → Turned old new
turned_let old new is = record {
  medium = ap (λ s. s.medium) is.becomes;
  cylinder = ap (λ s. s.cylinder) is.becomes;
  motor = ap (λ s. s.motor) is.becomes;
  change = ap (λ s. s.change) is.becomes;
  spin = subst (λ n. old.spin ≤ n) (sym (ap (λ s. s.spin) is.becomes)) (spin_on (turns old && nat_lt old.spin 6250) old.spin);
  place = λ inside. subst (λ n. n < track_words old.medium) (sym (ap (λ s. s.place) is.becomes))
      (place_on (at_speed old) old.place (track_words old.medium) inside);
  faults = is.never_falls;
  spends = is.spends;
}

-- a word time in which no fault comes
pub calmly : (before after : DriveState) → after ≡ let_pass before → Becomes (let_pass before) before after
calmly before after is = becomes_at (let_pass before) before after is refl refl

pub turned_calmly : (old new : DriveState) → new ≡ let_pass old → Turned old new
turned_calmly old new is = turned_let old new (calmly old new is)

pub turned_moves : (pulse : Option Bool) (old new : DriveState) → pulse ≡ None → Moves pulse old new → Turned old new
turned_moves pulse old new none moves = turned_calmly old new (subst (λ p. Moves p old new) none moves)

pub turned_still : (old new : DriveState) → new ≡ old → Turned old new
turned_still old new same = record {
  medium = ap (λ s. s.medium) same;
  cylinder = ap (λ s. s.cylinder) same;
  motor = ap (λ s. s.motor) same;
  change = ap (λ s. s.change) same;
  spin = let is = ap (λ s. s.spin) same in omega arith;
  place = λ inside. subst (λ n. n < track_words old.medium) (sym (ap (λ s. s.place) same)) inside;
  faults = let is = ap (λ s. s.faults) same in omega arith;
  spends = subst (λ (s : DriveState). Spends old.faults old.left s.faults s.left) (sym same) (spends_itself old.faults old.left);
}

pub turned_on : (a b c : DriveState) → Turned a b → Turned b c → Turned a c
turned_on a b c first second = record {
  medium = second.medium ∙ first.medium;
  cylinder = second.cylinder ∙ first.cylinder;
  motor = second.motor ∙ first.motor;
  change = second.change ∙ first.change;
  spin = let one = first.spin in let two = second.spin in omega arith;
  place = λ inside. subst (λ medium. c.place < track_words medium) first.medium
      (second.place (subst (λ medium. b.place < track_words medium) (sym first.medium) (first.place inside)));
  faults = let one = first.faults in let two = second.faults in omega arith;
  spends = spends_twice a.faults b.faults c.faults a.left b.left c.left first.spends second.spends;
}

-- ---- A quiet machine, through device steps

-- ---- the word time

-- what HoldsOn says is the same in another controller
pub record IsLike (old new : Fdc) : Type 0 where
  pub seek : new.seeks.seek ≡ old.seeks.seek
  pub cylinders : new.seeks.cylinders ≡ old.seeks.cylinders
  pub dor : new.dor ≡ old.dor
  pub non_dma : new.non_dma ≡ old.non_dma
  pub polling : new.polling ≡ old.polling
  pub on : new.fifo.on ≡ old.fifo.on
  pub threshold : new.fifo.threshold ≡ old.fifo.threshold
  pub data_commands : new.data_commands ≡ old.data_commands

pub like_holds : (begun : ℕ) (start old new : Fdc) → HoldsOn begun start old → IsLike old new → only_listens new.phase ≡ true → HoldsOn begun start new
like_holds begun start old new was like listens = record {
  quiet = record { no_seek = like.seek ∙ was.quiet.no_seek; listens = listens };
  dor = like.dor ∙ was.dor;
  non_dma = like.non_dma ∙ was.non_dma;
  polling = like.polling ∙ was.polling;
  cylinders = like.cylinders ∙ was.cylinders;
  on = like.on ∙ was.on;
  threshold = like.threshold ∙ was.threshold;
  data_commands = like.data_commands ∙ was.data_commands;
}

holds_word : (begun : ℕ) (start old new : Fdc) → HoldsOn begun start old → Listened (polled old) new → Stays old new → HoldsOn begun start new
holds_word begun start old new was listened stays = like_holds begun start old new was (record {
  seek = ap (λ seeks. seeks.seek) listened.seeks ∙ polled_seek old;
  cylinders = ap (λ seeks. seeks.cylinders) listened.seeks ∙ polled_cylinders old;
  dor = stays.dor;
  non_dma = stays.non_dma;
  polling = stays.polling;
  on = stays.on;
  threshold = stays.threshold;
  data_commands = stays.data_commands;
}) listened.listens

listens_in : (old new : Fdc) (index track0 : Bool) (word : ℕ) → IsQuiet old → ExecutesIn old.phase index word (polled old) new
    → RestsIn (polled old).phase track0 (polled old) new → Listened (polled old) new
listens_in old new index track0 word quiet executes rests =
    word_listens old.phase (polled old) new index track0 word (polled_seek old ∙ quiet.no_seek) quiet.listens (polled_phase old) executes
    (subst (λ phase. RestsIn phase track0 (polled old) new) (polled_phase old) rests)

holds_works : (begun : ℕ) (start old : Fdc) (before : DriveState) (new : Fdc) (after : DriveState) → HoldsOn begun start old → Works old before new after
    → HoldsOn begun start new
holds_works begun start old before new after was works =
    holds_word begun start old new was (listens_in old new _ (before.cylinder == 0) works.reads.word was.quiet works.reads.follows.executes works.rests) works.stays

holds_alone : (begun : ℕ) (start old new : Fdc) → HoldsOn begun start old → WorksAlone old new → HoldsOn begun start new
holds_alone begun start old new was works =
    holds_word begun start old new was (listens_in old new false false 0 was.quiet works.reads.executes works.rests) works.stays

-- the drive
moves_in : (phase : Phase) (polls : Fdc) (before after : DriveState) → polls.seeks.seek ≡ None → only_listens phase ≡ true → MovesIn phase polls before after → Turned before after
moves_in (Execute execution) polls before after none listens moves = turned_let before after (subst (λ b. MovesTask b before after) listens moves)
moves_in _ polls before after none listens moves = turned_moves _ before after (pulse_none polls.seeks (before.cylinder == 0) none) moves

turned_works : (old : Fdc) (before : DriveState) (new : Fdc) (after : DriveState) → IsQuiet old → Works old before new after → Turned before after
turned_works old before new after quiet works =
    moves_in old.phase (polled old) before after (polled_seek old ∙ quiet.no_seek) quiet.listens
    (subst (λ phase. MovesIn phase (polled old) before after) (polled_phase old) works.drive)

-- ---- the transfers

pub listens_told : (phase : Phase) → only_listens (phase_told phase) ≡ only_listens phase
listens_told = told_keeps only_listens (λ execution. each_task (λ task. is_listening (task_told task) ≡ is_listening task) (λ _. refl) (λ _. refl) (λ _. refl) (λ _. refl) execution.task)

-- only the FIFO's mode has to be looked at
pub like_mode : (old new : Fdc) → new.seeks ≡ old.seeks → new.dor ≡ old.dor → new.non_dma ≡ old.non_dma → new.polling ≡ old.polling
    → new.data_commands ≡ old.data_commands
    → new.fifo.on ≡ old.fifo.on → new.fifo.threshold ≡ old.fifo.threshold → IsLike old new
like_mode old new seeks dor non_dma polling commands on threshold = record {
  seek = ap (λ s. s.seek) seeks;
  cylinders = ap (λ s. s.cylinders) seeks;
  dor = dor;
  non_dma = non_dma;
  polling = polling;
  on = on;
  threshold = threshold;
  data_commands = commands;
}

holds_moved : (begun : ℕ) (start : Fdc) (chips : Chips) → HoldsOn begun start chips.controller → HoldsOn begun start (dma_stepped chips).controller
holds_moved begun start chips was =
    let only = dma_only chips in
    like_holds begun start chips.controller (dma_stepped chips).controller was (like_mode chips.controller (dma_stepped chips).controller (ap (λ f. f.seeks) only) (ap (λ f. f.dor) only)
    (ap (λ f. f.non_dma) only) (ap (λ f. f.polling) only) (ap (λ f. f.data_commands) only) (ap (λ f. f.fifo.on) only) (ap (λ f. f.fifo.threshold) only))
    (phase_dma only_listens listens_told chips ∙ was.quiet.listens)

-- ---- the device step

-- a device step of the drives, and the controller after its word time
pub record WorksOn (begun : ℕ) (start : Fdc) (old new : Board) (between : Fdc) : Type 0 where
  pub controller : HoldsOn begun start between
  pub drives : HaveTurned old new

pub step_works : (begun : ℕ) (start : Fdc) (old new : Board) → HoldsOn begun start (controller_of old) → (step : Step old new) → WorksOn begun start old new step.between
step_works begun start old new was step =
    let (first, second) = drives Turned old new step
    (λ before after works. turned_works (controller_of old) before step.between after was.quiet works) turned_calmly in record {
      controller = controller (HoldsOn begun start step.between) old new step
          (λ before after works. holds_works begun start (controller_of old) before step.between after was works)
          (holds_alone begun start (controller_of old) step.between was);
      drives = record { first = first; second = second; direct = ap (λ bus. bus.direct) step.bus };
    }

pub drives_on : (a b c : Board) → HaveTurned a b → HaveTurned b c → HaveTurned a c
drives_on a b c first second = record {
  first = turned_on a.first b.first c.first first.first second.first;
  second = turned_on a.second b.second c.second first.second second.second;
  direct = second.direct ∙ first.direct;
}

pub drives_still : (old new : Board) → StandsStill old new → HaveTurned old new
drives_still old new still = record { first = turned_still old.first new.first still.first; second = turned_still old.second new.second still.second; direct = still.direct }

pub step_quietly : (begun : ℕ) (start old new : Board) → Step old new → GoesQuietly begun start old → GoesQuietly begun start new
step_quietly begun start old new step was =
    let works = step_works begun (controller_of start) old new was.controller step in
    record {
      controller = subst (HoldsOn begun (controller_of start)) (sym (ap (λ bus. bus.chips.controller) step.bus))
          (holds_moved begun (controller_of start) (record old.bus.chips { controller = step.between }) works.controller);
      drives = drives_on start old new was.drives works.drives;
    }

pub still_quietly : (begun : ℕ) (start old new : Board) → StandsStill old new → GoesQuietly begun start old → GoesQuietly begun start new
still_quietly begun start old new still was = record {
  controller = subst (λ controller. HoldsOn begun (controller_of start) controller) (sym (ap (λ chips. chips.controller) still.chips)) was.controller;
  drives = drives_on start old new was.drives (drives_still old new still);
}

pub starts_quietly : (board : Board) → IsQuiet (controller_of board) → GoesQuietly (controller_of board).data_commands board board
starts_quietly board quiet = record {
  controller = record { quiet = quiet; dor = refl; non_dma = refl; polling = refl; cylinders = refl; on = refl; threshold = refl; data_commands = refl };
  drives = drives_still board board (record { chips = refl; first = refl; second = refl; direct = refl; level = refl });
}

pub idles_still : (old : Board) (gaps : List ℕ) (fresh : Bool) → StandsStill old (regapped gaps fresh old)
idles_still old gaps fresh = record { chips = refl; first = refl; second = refl; direct = refl; level = refl }

pub quietly : (begun : ℕ) (start : Board) → Steady (GoesQuietly begun start)
quietly begun start =
    record { step = step_quietly begun start; idle = λ old gaps fresh. still_quietly begun start old (regapped gaps fresh old) (idles_still old gaps fresh) }

-- ---- between two data commands: device steps leave a setting

-- outside execution a controller stays in its phase, with DRQ as it was
pub record Stayed (old new : Fdc) : Type 0 where
  pub phase : new.phase ≡ old.phase
  pub asking : new.asking ≡ old.asking

pub rested : (old new : Fdc) (track0 : Bool) → is_executing old.phase ≡ false → RestsIn (polled old).phase track0 (polled old) new → Stayed old new
rested old new track0 idle rests =
    let is = rests_polled old new track0 idle rests in
    record { phase = ap (λ fdc. fdc.phase) is ∙ polled_phase old; asking = ap (λ fdc. fdc.asking) is ∙ polled_asking old }

-- ---- INT

-- INT stays low if no seek runs and no poll is to come
record StaysLow (new : Fdc) : Type 0 where
  low : new.interrupt ≡ false
  polled : new.poll_due ≡ false

pub polled_same : (old : Fdc) → old.poll_due ≡ false → polled old ≡ old
polled_same old none = rw none refl

low_or : (seeking : Bool) → seeking ≡ false → (interrupt rest : Bool) → interrupt ≡ false → (interrupt || (seeking && rest)) ≡ false
low_or seeking none interrupt rest low = rw (low, none) refl

low_rested : (old new : Fdc) (track0 : Bool) → is_executing old.phase ≡ false → old.seeks.seek ≡ None → old.poll_due ≡ false → old.interrupt ≡ false
    → RestsIn (polled old).phase track0 (polled old) new → StaysLow new
low_rested old new track0 idle none unpolled low rests =
    let same : new ≡ seek_stepped track0 old = rests_polled old new track0 idle rests ∙ ap (seek_stepped track0) (polled_same old unpolled) in
    record {
      low = ap (λ fdc. fdc.interrupt) same ∙ low_or (is_seeking old.seeks) (not_seeking old.seeks none) old.interrupt _ low;
      polled = ap (λ fdc. fdc.poll_due) same ∙ unpolled;
    }
  where
    not_seeking : (seeks : Seeking) → seeks.seek ≡ None → is_seeking seeks ≡ false
    not_seeking seeks none = rw none refl

step_low : (old new : Board) → is_executing (controller_of old).phase ≡ false → (controller_of old).seeks.seek ≡ None → IsHushed old → (step : Step old new) → StaysLow step.between
step_low old new idle none hushed step = let low = low_rested (controller_of old) step.between in
    controller (StaysLow step.between) old new step (λ before after works. low (before.cylinder == 0) idle none hushed.polled hushed.low works.rests)
    (λ works. low false idle none hushed.polled hushed.low works.rests)

step_hushed : (old new : Board) → (step : Step old new) → step.between.asking ≡ false → StaysLow step.between → IsHushed new
step_hushed old new step quiet low =
    let chips : Chips = record old.bus.chips { controller = step.between } in
    let same : (dma_stepped chips).controller ≡ step.between = ap (λ c. c.controller) (idle_dma chips quiet) in
    let now : controller_of new ≡ step.between = ap (λ bus. bus.chips.controller) step.bus ∙ same in
    record {
      low = ap (λ fdc. fdc.interrupt) now ∙ low.low;
      polled = ap (λ fdc. fdc.poll_due) now ∙ low.polled;
      level = ap (λ bus. bus.latch.level) step.bus ∙ (ap interrupts same ∙ and_right (is_gated step.between) step.between.interrupt low.low);
    }

pub step_stayed : (old new : Board) → is_executing (controller_of old).phase ≡ false → (step : Step old new)
    → Stayed (controller_of old) step.between × Stays (controller_of old) step.between
step_stayed old new idle step = controller (Stayed (controller_of old) step.between × Stays (controller_of old) step.between) old new step
    (λ before after works. (rested (controller_of old) step.between (before.cylinder == 0) idle works.rests, works.stays))
    (λ works. (rested (controller_of old) step.between false idle works.rests, works.stays))

-- another channel that is set so, and another request
pub stands_beside : (old : Chips) (set : Setting) (now : Chips) (channel set_channel : Channel) (holding : Holds) → channel ≡ set_channel → holding.stalls ≡ now.holding.stalls → ChipsStand set old now
    → ChipsStand (record set { channel = set_channel }) old (record now { channel = channel; holding = holding })
stands_beside old set now channel set_channel holding is stalls was = record {
  controller = was.controller;
  phase = was.phase;
  command = was.command;
  rate = was.rate;
  low = was.low;
  channel = is;
  memory = was.memory;
  stalls = stalls ∙ was.stalls;
}

stands_dma : (old : Chips) (set : Setting) (now : Chips) → ChipsStand set old now → ChipsStand set old (dma_stepped now)
stands_dma old set now was =
    subst (ChipsStand set old) (sym (idle_dma now was.low)) (stands_beside old set now now.channel set.channel (record now.holding { request = Low }) was.channel refl was)

stands_word : (old : Chips) (set : Setting) (now : Chips) (between : Fdc) → ChipsStand set old now → HoldsOn old.controller.data_commands old.controller between
    → Stayed now.controller between → Stays now.controller between → ChipsStand set old (record now { controller = between })
stands_word old set now between was holds stayed stays = record {
  controller = holds;
  phase = stayed.phase ∙ was.phase;
  command = stays.command ∙ was.command;
  rate = stays.rate ∙ was.rate;
  low = stayed.asking ∙ was.low;
  channel = was.channel;
  memory = was.memory;
  stalls = was.stalls;
}

pub step_stands : (start : Board) (set : Setting) (old new : Board) → Step old new → Stands set start old → Stands set start new
step_stands start set old new step was =
    let works = step_works (controller_of start).data_commands (controller_of start) old new was.chips.controller step in
    let (stayed, stays) = step_stayed old new (ap is_executing was.chips.phase ∙ was.idle) step in
    record {
      idle = was.idle;
      chips = subst (ChipsStand set start.bus.chips) (sym (ap (λ bus. bus.chips) step.bus))
          (stands_dma start.bus.chips set (record old.bus.chips { controller = step.between })
          (stands_word start.bus.chips set old.bus.chips step.between was.chips works.controller stayed stays));
      drives = drives_on start old new was.drives works.drives;
      hush = λ first. step_hushed old new step (stayed.asking ∙ was.chips.low)
          (step_low old new (ap is_executing was.chips.phase ∙ was.idle) was.chips.controller.quiet.no_seek (was.hush first) step);
    }

pub still_stands : (start : Board) (set : Setting) (old new : Board) → StandsStill old new → Stands set start old → Stands set start new
still_stands start set old new still was = record {
  idle = was.idle;
  chips = subst (ChipsStand set start.bus.chips) (sym still.chips) was.chips;
  drives = drives_on start old new was.drives (drives_still old new still);
  hush = λ first. let before = was.hush first in record {
    low = ap (λ chips. chips.controller.interrupt) still.chips ∙ before.low;
    polled = ap (λ chips. chips.controller.poll_due) still.chips ∙ before.polled;
    level = still.level ∙ before.level;
  };
}

pub starts_standing : (board : Board) → IsQuiet (controller_of board) → is_executing (controller_of board).phase ≡ false → (controller_of board).asking ≡ false
    → Stands (setting_of board) board board
starts_standing board quiet idle low =
    let all = starts_quietly board quiet in
    record {
      idle = idle;
      chips = record { controller = all.controller; phase = refl; command = refl; rate = refl; low = low; channel = refl; memory = refl; stalls = refl };
      drives = all.drives;
      hush = λ first. first;
    }

pub standing : (start : Board) (set : Setting) → Steady (Stands set start)
standing start set =
    record { step = step_stands start set; idle = λ old gaps fresh. still_stands start set old (regapped gaps fresh old) (idles_still old gaps fresh) }
