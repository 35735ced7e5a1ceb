-- Device steps of a seek, whatever it does.
use Rattle.std.proofs.Common.{◌≡◌, ◌⊎◌, inl, inr, ℕ, zero, suc, ◌+◌, ◌-◌, ◌%◌, ◌≤◌, ◌==◌, ◌&&◌, ◌||◌, not, List, Bool, true, false, Some, None, refl, sym, ◌∙◌, ap, subst, arith}
use Rattle.machine_commands.proofs.Common.{DriveState, Seeking, with_motion, ended, stepped_seek, is_seeking, has_ended, pulse_due, pulse_of, Motion, is_executing, is_held, dor_of, polled, seek_stepped, RestsIn, MovesIn, Moves, Fdc, Low, Board, controller_of, memory_of, holds_of, drive_in, regapped, Marching, march_wait, next_entry, RunsGap, Step, stirred, Chips, or_right, selected_of, march_gap, Runs}
use Rattle.fdc_core.specs.Drives.WordTimes.{PassesWordTime}
use Rattle.machine_commands.proofs.Idling.{Idles, KeepsAll, KeepsDrive, KeepsSpeed, drive_kept, kept_in}
use Rattle.machine_commands.proofs.Steps.{OnlyTurns, calm_asks, calm_dma, unpolled, rests_in, moves_in, or_false, still_seeks, gate_turns, drive_then, idles_none, regapped_idles, speed_then}

-- ---- what a seek leaves, but for its drive

pub record Leaves (bay : ℕ) (old new : Board) : Type 0 where
  pub memory : memory_of new ≡ memory_of old
  pub entries : (holds_of new).entries ≡ (holds_of old).entries
  pub stalls : (holds_of new).stalls ≡ (holds_of old).stalls
  pub direct : new.bus.direct ≡ old.bus.direct
  pub taken : old.bus.taken ≤ new.bus.taken
  pub keeps : KeepsDrive (drive_in old (1 - bay)) (drive_in new (1 - bay))
  pub speed : KeepsSpeed (drive_in old (1 - bay)) (drive_in new (1 - bay))

pub leaves_then : (bay : ℕ) (a b c : Board) → Leaves bay a b → Leaves bay b c → Leaves bay a c
leaves_then bay a b c one two = record {
  memory = two.memory ∙ one.memory;
  entries = two.entries ∙ one.entries;
  stalls = two.stalls ∙ one.stalls;
  direct = two.direct ∙ one.direct;
  taken = let before = one.taken in let after = two.taken in omega arith;
  keeps = drive_then (drive_in a (1 - bay)) (drive_in b (1 - bay)) (drive_in c (1 - bay)) one.keeps two.keeps;
  speed = speed_then (drive_in a (1 - bay)) (drive_in b (1 - bay)) (drive_in c (1 - bay)) one.speed two.speed;
}

pub all_leave : (bay : ℕ) (old new : Board) → KeepsAll old new → KeepsSpeed old.first new.first → KeepsSpeed old.second new.second → Leaves bay old new
all_leave bay old new keeps first second = record {
  memory = keeps.memory;
  entries = keeps.entries;
  stalls = keeps.stalls;
  direct = keeps.direct;
  taken = keeps.taken;
  keeps = drive_kept old new (1 - bay) keeps;
  speed = kept_in KeepsSpeed (1 - bay) old new first second;
}

-- ---- one device step

-- no command is in execution, no DMA request is up, no poll is to come, and this bay is selected
pub record CanSeek (bay : ℕ) (fdc : Fdc) : Type 0 where
  pub no_command : is_executing fdc.phase ≡ false
  pub not_asking : fdc.asking ≡ false
  pub no_poll : (fdc.poll_due && not (is_held fdc)) ≡ false
  pub selects : dor_of fdc % 4 ≡ bay

pub record SeekStep (bay : ℕ) (old new : Board) : Type 0 where
  pub controller_is : controller_of new ≡ seek_stepped ((drive_in old bay).cylinder == 0) (controller_of old)
  pub moves : Moves (pulse_due (controller_of old).seeks ((drive_in old bay).cylinder == 0)) (drive_in old bay) (drive_in new bay)
  pub leaves : Leaves bay old new

-- the word time of one device step
record SeekWordTime (bay : ℕ) (old : Board) (between : Fdc) (new : Board) : Type 0 where
  pub controller_is : between ≡ seek_stepped ((drive_in old bay).cylinder == 0) (controller_of old)
  pub moves : Moves (pulse_due (controller_of old).seeks ((drive_in old bay).cylinder == 0)) (drive_in old bay) (drive_in new bay)
  pub other : OnlyTurns (drive_in old (1 - bay)) (drive_in new (1 - bay))

seek_rests : (fdc : Fdc) (bay : ℕ) (track0 : Bool) (between : Fdc) → CanSeek bay fdc → RestsIn (polled fdc).phase track0 (polled fdc) between → between ≡ seek_stepped track0 fdc
seek_rests fdc bay track0 between can is =
    rests_in fdc.phase fdc track0 between can.no_command (subst (λ f. RestsIn f.phase track0 f between) (unpolled fdc can.no_poll) is)

seek_moves : (fdc : Fdc) (bay : ℕ) (before after : DriveState) → CanSeek bay fdc → MovesIn (polled fdc).phase (polled fdc) before after
    → Moves (pulse_due fdc.seeks (before.cylinder == 0)) before after
seek_moves fdc bay before after can is =
    moves_in fdc.phase fdc before after can.no_command (subst (λ f. MovesIn f.phase f before after) (unpolled fdc can.no_poll) is)

seek_word_time : (bay : ℕ) (old new : Board) (between : Fdc) → bay ≤ 1 → CanSeek bay (controller_of old)
    → PassesWordTime (selected_of old) (controller_of old) old.first old.second between new.first new.second → SeekWordTime bay old between new
seek_word_time zero old new between small can turn =
    let (works, passes) = turn.at_first can.selects in record {
      controller_is = seek_rests (controller_of old) 0 (old.first.cylinder == 0) between can works.rests;
      moves = seek_moves (controller_of old) 0 old.first new.first can works.drive;
      other = gate_turns old.second new.second passes;
    }
seek_word_time (suc zero) old new between small can turn =
    let (works, passes) = turn.at_second can.selects in record {
      controller_is = seek_rests (controller_of old) 1 (old.second.cylinder == 0) between can works.rests;
      moves = seek_moves (controller_of old) 1 old.second new.second can works.drive;
      other = gate_turns old.first new.first passes;
    }
seek_word_time (suc (suc bay)) old new between small can turn = absurd (omega arith)

pub seek_step : (bay : ℕ) (old new : Board) → bay ≤ 1 → CanSeek bay (controller_of old) → Step old new → SeekStep bay old new
seek_step bay old new small can step =
    let turned = seek_word_time bay old new step.between small can step.word_time in
    let calm = calm_asks step.between (ap (λ f. f.asking) turned.controller_is ∙ can.not_asking) in
    let worked : Chips = record old.bus.chips { controller = step.between } in
    let rested : Chips = record worked { holding = record worked.holding { request = Low } } in
    let chips : new.bus.chips ≡ rested = ap (λ bus. bus.chips) step.bus ∙ calm_dma worked calm in
    record {
      controller_is = ap (λ c. c.controller) chips ∙ turned.controller_is;
      moves = turned.moves;
      leaves = record {
        memory = ap (λ c. c.memory) chips;
        entries = ap (λ c. c.holding.entries) chips;
        stalls = ap (λ c. c.holding.stalls) chips;
        direct = ap (λ bus. bus.direct) step.bus;
        taken = let same : new.bus.taken ≡ old.bus.taken = ap (λ bus. bus.taken) step.bus in omega arith;
        keeps = turned.other.keeps;
        speed = turned.other.speed;
      };
    }

-- ---- a rule for what a motion does

-- with this motion the step ends the seek
pub record EndsNow (bay : ℕ) (motion : Motion) (drive : DriveState) (Over : ℕ → ℕ → DriveState → Type 0) : Type 0 where
  pub number : ℕ
  pub status : ℕ
  pub no_pulse : pulse_of motion (drive.cylinder == 0) ≡ None
  pub ends : (seeks : Seeking) → stepped_seek seeks bay motion (drive.cylinder == 0) ≡ ended seeks bay number status
  pub leaves : (after : DriveState) → Moves None drive after → Over number status after

-- with this motion the step gives a pulse
pub record GivesPulse (bay n : ℕ) (motion : Motion) (drive : DriveState) (Way : ℕ → Motion → DriveState → Type 0) : Type 0 where
  pub inward : Bool
  pub next : Motion
  pub runs : has_ended next ≡ false
  pub pulse : pulse_of motion (drive.cylinder == 0) ≡ Some inward
  pub goes : (seeks : Seeking) → stepped_seek seeks bay motion (drive.cylinder == 0) ≡ with_motion seeks bay next
  pub leaves : (after : DriveState) → Moves (Some inward) drive after → Way (n + 1) next after

-- the seek of a bay follows this rule: after so many steps it is on its way, or over
pub record IsRule (bay : ℕ) (Way : ℕ → Motion → DriveState → Type 0) (Over : ℕ → ℕ → DriveState → Type 0) : Type 0 where
  pub steps : (n : ℕ) (motion : Motion) (drive : DriveState) → has_ended motion ≡ false → Way n motion drive
      → EndsNow bay motion drive Over ⊎ GivesPulse bay n motion drive Way
  pub stays : (number status : ℕ) (before after : DriveState) → KeepsDrive before after → KeepsSpeed before after → Over number status before → Over number status after

-- ---- runs by such a rule

abbrev pub on_way : Fdc → ℕ → Motion → Fdc
on_way fdc bay motion = record fdc { seeks = with_motion fdc.seeks bay motion }

abbrev pub at_end : Fdc → ℕ → ℕ → ℕ → Fdc
at_end fdc bay number status = record fdc { seeks = ended fdc.seeks bay number status; interrupt = true }

-- the state of a seek that is on its way after so many steps
pub record IsOnWay (fdc : Fdc) (bay n : ℕ) (Way : ℕ → Motion → DriveState → Type 0) (board : Board) : Type 0 where
  pub motion : Motion
  pub runs : has_ended motion ≡ false
  pub controller_is : controller_of board ≡ on_way fdc bay motion
  pub way : Way n motion (drive_in board bay)

pub record IsOver (fdc : Fdc) (bay : ℕ) (Over : ℕ → ℕ → DriveState → Type 0) (board : Board) : Type 0 where
  pub number : ℕ
  pub status : ℕ
  pub controller_is : controller_of board ≡ at_end fdc bay number status
  pub over : Over number status (drive_in board bay)

ends_by : (fdc : Fdc) (seeks : Seeking) (bay number status : ℕ) (seeking : Bool) → seeks ≡ ended fdc.seeks bay number status → seeking ≡ true
    → record fdc { seeks = seeks; interrupt = fdc.interrupt || (seeking && not (is_seeking seeks)) } ≡ at_end fdc bay number status
ends_by fdc seeks bay number status seeking same on = rw (on, same, or_right fdc.interrupt true refl) refl

goes_by : (fdc : Fdc) (seeks : Seeking) (bay : ℕ) (next : Motion) (seeking : Bool) → seeks ≡ with_motion fdc.seeks bay next → has_ended next ≡ false → seeking ≡ true
    → record fdc { seeks = seeks; interrupt = fdc.interrupt || (seeking && not (is_seeking seeks)) } ≡ on_way fdc bay next
goes_by fdc seeks bay next seeking same runs on = rw (on, same, runs, or_false fdc.interrupt) refl

pub idles_leave : (bay : ℕ) (old new : Board) (fdc : Fdc) → Idles fdc old new → Leaves bay old new
idles_leave bay old new fdc idles = all_leave bay old new idles.stays.keeps idles.stays.first idles.stays.second

-- the seek is on its way after so many steps, or over
abbrev pub Sought : Fdc → ℕ → (ℕ → Motion → DriveState → Type 0) → (ℕ → ℕ → DriveState → Type 0) → ℕ → Board → Type 0
Sought fdc bay Way Over n board = IsOnWay fdc bay n Way board ⊎ IsOver fdc bay Over board

way_steps : (fdc : Fdc) (bay n : ℕ) (Way : ℕ → Motion → DriveState → Type 0) (Over : ℕ → ℕ → DriveState → Type 0) (old new : Board) → IsRule bay Way Over
    → SeekStep bay old new → IsOnWay fdc bay n Way old → Sought fdc bay Way Over (n + 1) new
way_steps fdc bay n Way Over old new rule step was =
    let drive = drive_in old bay in
    let t = drive.cylinder == 0 in
    let running = ap not was.runs in
    let stepped_at : controller_of new ≡ seek_stepped t (on_way fdc bay was.motion) = step.controller_is ∙ ap (seek_stepped t) was.controller_is in
    let moved : Moves (pulse_of was.motion t) drive (drive_in new bay) = subst (λ f. Moves (pulse_due f.seeks t) drive (drive_in new bay)) was.controller_is step.moves in
    elim (rule.steps n was.motion drive was.runs was.way) [
      | inl ends ↦ inr (record {
        number = ends.number;
        status = ends.status;
        controller_is = stepped_at ∙ ends_by fdc (stepped_seek (with_motion fdc.seeks bay was.motion) bay was.motion t) bay ends.number ends.status (not (has_ended was.motion))
            (ends.ends (with_motion fdc.seeks bay was.motion)) running;
        over = ends.leaves (drive_in new bay) (subst (λ pulse. Moves pulse drive (drive_in new bay)) ends.no_pulse moved);
      })
      | inr gives ↦ inl (record {
        motion = gives.next;
        runs = gives.runs;
        controller_is = stepped_at ∙ goes_by fdc (stepped_seek (with_motion fdc.seeks bay was.motion) bay was.motion t) bay gives.next (not (has_ended was.motion))
            (gives.goes (with_motion fdc.seeks bay was.motion)) gives.runs running;
        way = gives.leaves (drive_in new bay) (subst (λ pulse. Moves pulse drive (drive_in new bay)) gives.pulse moved);
      })
    ]

turned_in : (bay : ℕ) (old new : Board) → SeekStep bay old new → pulse_due (controller_of old).seeks ((drive_in old bay).cylinder == 0) ≡ None → OnlyTurns (drive_in old bay) (drive_in new bay)
turned_in bay old new step none =
    gate_turns (drive_in old bay) (drive_in new bay) (subst (λ pulse. Moves pulse (drive_in old bay) (drive_in new bay)) none step.moves)

over_steps : (fdc : Fdc) (bay : ℕ) (Way : ℕ → Motion → DriveState → Type 0) (Over : ℕ → ℕ → DriveState → Type 0) (old new : Board) → IsRule bay Way Over
    → SeekStep bay old new → IsOver fdc bay Over old → IsOver fdc bay Over new
over_steps fdc bay Way Over old new rule step was =
    let t = (drive_in old bay).cylinder == 0 in
    record {
      number = was.number;
      status = was.status;
      controller_is = step.controller_is ∙ (ap (seek_stepped t) was.controller_is ∙ still_seeks (at_end fdc bay was.number was.status) t refl);
      over = let turned = turned_in bay old new step (ap (λ f. pulse_due f.seeks t) was.controller_is) in
          rule.stays was.number was.status (drive_in old bay) (drive_in new bay) turned.keeps turned.speed was.over;
    }

can_seek_now : (fdc : Fdc) (bay n : ℕ) (Way : ℕ → Motion → DriveState → Type 0) (Over : ℕ → ℕ → DriveState → Type 0) (board : Board) → CanSeek bay fdc
    → Sought fdc bay Way Over n board → CanSeek bay (controller_of board)
can_seek_now fdc bay n Way Over board can sought = elim sought [
  | inl way ↦ subst (CanSeek bay) (sym way.controller_is)
      (record { no_command = can.no_command; not_asking = can.not_asking; no_poll = can.no_poll; selects = can.selects })
  | inr over ↦ subst (CanSeek bay) (sym over.controller_is) (record { no_command = can.no_command; not_asking = can.not_asking; no_poll = can.no_poll; selects = can.selects })
]

one_more : (fdc : Fdc) (bay n : ℕ) (Way : ℕ → Motion → DriveState → Type 0) (Over : ℕ → ℕ → DriveState → Type 0) (old new : Board) → IsRule bay Way Over
    → SeekStep bay old new → Sought fdc bay Way Over n old → Sought fdc bay Way Over (n + 1) new
one_more fdc bay n Way Over old new rule step sought = elim sought [
  | inl way ↦ way_steps fdc bay n Way Over old new rule step way
  | inr over ↦ inr (over_steps fdc bay Way Over old new rule step over)
]

-- a seek over device steps
pub record RunsSeek (fdc : Fdc) (bay n : ℕ) (Way : ℕ → Motion → DriveState → Type 0) (Over : ℕ → ℕ → DriveState → Type 0) (old new : Board) : Type 0 where
  pub sought : Sought fdc bay Way Over n new
  pub leaves : Leaves bay old new

-- the gaps that are left don't matter
regapped_sought : (fdc : Fdc) (bay n : ℕ) (Way : ℕ → Motion → DriveState → Type 0) (Over : ℕ → ℕ → DriveState → Type 0) (board : Board) (gaps : List ℕ) (fresh : Bool)
    → Sought fdc bay Way Over n board → Sought fdc bay Way Over n (regapped gaps fresh board)
regapped_sought fdc bay n Way Over board gaps fresh sought = elim sought [
  | inl way ↦ inl (record { motion = way.motion; runs = way.runs; controller_is = way.controller_is; way = way.way })
  | inr over ↦ inr (record { number = over.number; status = over.status; controller_is = over.controller_is; over = over.over })
]

seeking : (from : ℕ) (fdc : Fdc) (bay : ℕ) (Way : ℕ → Motion → DriveState → Type 0) (Over : ℕ → ℕ → DriveState → Type 0) (start : Board) → bay ≤ 1 → CanSeek bay fdc → IsRule bay Way Over
    → Marching (λ n now. RunsSeek fdc bay (from + n) Way Over start now)
seeking from fdc bay Way Over start small can rule = record {
  step = λ n now new step was. (
      let stepped = seek_step bay now new small (can_seek_now fdc bay (from + n) Way Over now can was.sought) step in
      let here : (from + n) + 1 ≡ from + suc n = omega arith in
      record {
        sought = subst (λ k. Sought fdc bay Way Over k new) here (one_more fdc bay (from + n) Way Over now new rule stepped was.sought);
        leaves = leaves_then bay start now new was.leaves stepped.leaves;
      });
  idle = λ n now gaps fresh was. record {
    sought = regapped_sought fdc bay (from + n) Way Over now gaps fresh was.sought;
    leaves = leaves_then bay start now (regapped gaps fresh now) was.leaves
        (idles_leave bay now (regapped gaps fresh now) (controller_of now) (regapped_idles now gaps fresh));
  };
}

module _ (from : ℕ) (fdc : Fdc) (bay : ℕ) (Way : ℕ → Motion → DriveState → Type 0) (Over : ℕ → ℕ → DriveState → Type 0) (start : Board) (small : bay ≤ 1) (can : CanSeek bay fdc)
    (rule : IsRule bay Way Over) (sought : Sought fdc bay Way Over from start) where
  begins : RunsSeek fdc bay (from + 0) Way Over start start
  begins = let here : from ≡ from + 0 = omega arith in record { sought = subst (λ k. Sought fdc bay Way Over k start) here sought; leaves = idles_leave bay start start (controller_of start) (idles_none start) }

  pub gap_seeks : (new : Board) → RunsGap start new → RunsSeek fdc bay (from + next_entry start.bus.gaps) Way Over start new
  gap_seeks new ran = march_gap (λ n now. RunsSeek fdc bay (from + n) Way Over start now) (seeking from fdc bay Way Over start small can rule) start new ran begins

  pub wait_seeks : (n : ℕ) (new : Board) → Runs n (stirred start) new → RunsSeek fdc bay (from + n) Way Over start new
  wait_seeks n new ran = march_wait (λ n now. RunsSeek fdc bay (from + n) Way Over start now) (seeking from fdc bay Way Over start small can rule) n start new ran begins
