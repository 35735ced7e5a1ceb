-- A format is a step of the sector model.
use Rattle.std.proofs.Common.{◌≡◌, ℕ, ◌+◌, ◌-◌, ◌*◌, ◌<◌, ◌≤◌, Bool, true, false, List, Option, Result, Ok, Err, IsErr, IfErr, refl, sym, ap, ◌∙◌, subst, arith}
use Rattle.std.specs.Prelude.{◌&&◌, nat_le, if◌then◌else◌}
use Rattle.floppy_driver.proofs.Common.{option_map_or, le-leb, lt-leb, sectors_at, Rate, R500, Code, BadRequest, Changed, Protected, Seek, Disk, Two, in_bay, DriveCounts, Counters, GoesOn, IsFaultless, DisturbedLess, IsDriven, CostsUpTo, goes_on_after, faults_go_on, Format, IsFormattable, Bay, StationState, bay_of, set_bay, format_once_port_accesses, format_port_accesses, format_steps, format_time, format_turns, is_bay, is_place, is_acknowledged, is_protected, most_format_gap, is_format_request, IsRefusedAtOnce, IsFormatCause, FormatsDrive, FormatsTo, CostsFor, Rig, OnlyAsks, notes_of, is_held, with_waiting, shown, HasAsked, IsAttemptRefusal, FormatsIn, HasOnlyMedium, Driver}
use Rattle.floppy_driver.proofs.Shows.{bay_shown_at, acknowledged_held, asks_shown, driven_after, heads_stay_after}
use Rattle.floppy_driver.proofs.Lasting.{costs_shown, format_costs, question_costs, questions_cost}
use Rattle.floppy_driver.proofs.Asking.{refused_asking}
use Rattle.floppy_driver.proofs.Rising.{refusal_later}

-- ---- the order of refusals

module _ (old : StationState) (bay c h gap3 fill : ℕ) (answer : Result (Unit {0}) Code) (new : StationState) where
  abbrev format : Format
  format = record { c = c; h = h; rate = (bay_of old bay).rate; gap3 = gap3; fill = fill }

  step_unasked : is_format_request old bay c h gap3 ≡ false → IsRefusedAtOnce BadRequest old answer new → FormatsTo bay c h gap3 fill old answer new
  step_unasked request step = rw request step

  step_unheld : is_format_request old bay c h gap3 ≡ true → is_acknowledged old bay ≡ false → IsRefusedAtOnce Changed old answer new → FormatsTo bay c h gap3 fill old answer new
  step_unheld request held step = rw (request, held) step

  step_protected : is_format_request old bay c h gap3 ≡ true → is_acknowledged old bay ≡ true → is_protected old bay ≡ true → IsRefusedAtOnce Protected old answer new → FormatsTo bay c h gap3 fill old answer new
  step_protected request held protected step = rw (request, held, protected) step

  step_driven : is_format_request old bay c h gap3 ≡ true → is_acknowledged old bay ≡ true → is_protected old bay ≡ false → FormatsDrive format bay old answer new → FormatsTo bay c h gap3 fill old answer new
  step_driven request held protected step = rw (request, held, protected) step

-- ---- from attempts to the step

none_more : (first mid last most : ℕ) → mid ≤ first + 0 → last ≤ mid + most → last ≤ first + most
none_more first mid last most idle within = omega arith

-- a call that only asked comes before the attempts, and spare drives may wait
module _ (n : ℕ) (format : Format) (bay : ℕ) (answer : Result (Unit {0}) Code) (before after : Option Disk) (old mid new : Counters) (waiting : List DriveCounts) (one : GoesOn old mid) (two : GoesOn mid new) (idle : IsDriven 0 old mid) (formats : FormatsIn n format bay before after mid answer new) where
  abbrev from : Counters
  from = with_waiting old waiting

  abbrev to : Counters
  to = with_waiting new waiting

  fewer : (m : ℕ) → DisturbedLess m bay from to → DisturbedLess m bay mid new
  fewer m less =
      let f = faults_go_on old mid bay one in
      let s = one.stalls in
      let t = less.together in
      record { faults = less.faults; stalls = less.stalls; together = omega arith }

  quieter : IsFaultless bay from to → IsFaultless bay mid new
  quieter quiet =
      let f = faults_go_on old mid bay one in
      let less = quiet.0 in
      (omega arith, quiet.1)

  formats_shown : FormatsIn n format bay before after from answer to
  formats_shown =
      let all = driven_after 0 (n * (1 + sectors_at format.rate)) old mid new one two idle formats.driven in
      record {
        layings = formats.layings;
        few = formats.few;
        lays = formats.lays;
        only = λ quiet. formats.only (quieter quiet);
        untouched = λ quiet. formats.untouched (fewer 1 quiet);
        never = λ failed can less. formats.never failed can (fewer n less);
        driven = record {
          most_commands = let most = all.most_commands in omega arith;
          interrupts = all.interrupts;
          past_driver = all.past_driver;
        };
        unsent = λ some is. none_more old.data_commands mid.data_commands new.data_commands _ idle.most_commands (formats.unsent some is);
        ends = λ some.
            let ends = formats.ends some in
            record {
              exactly = λ quiet. ends.exactly (fewer 1 quiet);
              begun = λ quiet. ends.begun (fewer 1 quiet);
              commands = λ ok. let rose = ends.commands ok in let d = one.data_commands in omega arith;
              formatted_track = λ ok quiet. ends.formatted_track ok (quieter quiet);
              refused = refusal_later bay old mid new one two waiting waiting answer ends.refused;
            };
      }

drive_cause : (format : Format) (bay : ℕ) (answer : Result (Unit {0}) Code) (old new : StationState) (medium : Option Disk) → (IsErr answer → IsFormattable format medium → DisturbedLess old.tries bay old.counters new.counters → ⊥) → 1 ≤ old.tries → (answer ≡ Err Seek → new.counters.data_commands ≤ old.counters.data_commands + (old.tries - 1) * (1 + sectors_at format.rate)) → IfErr answer (λ code. IsAttemptRefusal bay old.counters code new.counters) → IfErr answer (λ code. IsFormatCause format medium bay old code new)
drive_cause format bay (Ok is) old new medium never some unsent refused = tt
drive_cause format bay (Err code) old new medium never some unsent refused = record {
  device = refused.device;
  undisturbed = refused.undisturbed;
  overrun = refused.overrun;
  lost = refused.lost;
  unsent = λ is. unsent (ap (λ c. Err c) is);
  sent = refused.sent;
  read_back = refused.read_back;
  never = λ can less. never refl can (record { faults = less.faults; stalls = less.stalls; together = let t = less.together in omega arith });
}

-- a format in as many attempts as the station has
formats_drive : (format : Format) (bay : ℕ) (answer : Result (Unit {0}) Code) (old new : StationState) (before after : Option Disk) → 1 ≤ old.tries → (bay_of old bay).medium ≡ before → (bay_of new bay).medium ≡ after → HasOnlyMedium bay after old new → FormatsIn old.tries format bay before after old.counters answer new.counters
    → CostsUpTo (format_time old bay format.rate) (format_port_accesses old format.rate) old.counters new.counters → FormatsDrive format bay old answer new
formats_drive format bay answer old new before after some was is becomes attempts costs =
    let In : Option Disk → Option Disk → Type 0 = λ m n. FormatsIn old.tries format bay m n old.counters answer new.counters in
    let formats : In (bay_of old bay).medium (bay_of new bay).medium = subst (λ (m : Option Disk). In m (bay_of new bay).medium) (sym was) (subst (In before) (sym is) attempts) in
    let ends = formats.ends some in
    record {
      layings = formats.layings;
      few = formats.few;
      lays = formats.lays;
      only = formats.only;
      becomes = subst (λ (m : Option Disk). HasOnlyMedium bay m old new) (sym is) becomes;
      exactly = ends.exactly;
      begun = ends.begun;
      untouched = formats.untouched;
      commands = ends.commands;
      formatted_track = ends.formatted_track;
      refused = drive_cause format bay answer old new (bay_of old bay).medium formats.never some (formats.unsent some) ends.refused;
      driven = formats.driven;
      costs = costs;
    }

-- ---- driver and machine

asks_after : (a b c : Rig) → OnlyAsks a b → OnlyAsks b c → OnlyAsks a c
asks_after a b c one two = record {
  heads = heads_stay_after a b c one.heads two.heads;
  media = two.media ∙ one.media;
  memory = two.memory ∙ one.memory;
  page = two.page ∙ one.page;
  counts = goes_on_after a.counters b.counters c.counters one.counts two.counts;
  driven = driven_after 0 0 a.counters b.counters c.counters one.counts two.counts one.driven two.driven;
}

abbrev protects : Option Disk → Bool
protects medium = option_map_or (λ disk. disk.protected) medium false

medium_shown : (driver : Driver) (rig : Rig) (spares : ℕ) (waiting : List DriveCounts) (bay : ℕ) → (bay_of (shown driver rig spares waiting) bay).medium ≡ in_bay rig.media bay
medium_shown driver rig spares waiting bay = ap (λ (b : Bay). b.medium) (bay_shown_at driver rig spares waiting bay)

-- `middle` is the driver after the question whether the bay is held, and `old` the machine before that question
module _ (driver middle : Driver) (old : Rig) (bay c h gap3 : ℕ) (held : Bool) (rate : Rate) (spares : ℕ) (waiting : List DriveCounts) (is : held ≡ is_held (notes_of driver bay) (in_bay old.changes bay)) (same : shown middle old spares waiting ≡ shown driver old spares waiting) (rate_is : rate ≡ (if held then (notes_of middle bay).rate else R500)) where
  abbrev start : StationState
  start = shown driver old spares waiting

  acknowledged_is : is_acknowledged start bay ≡ held
  acknowledged_is = acknowledged_held driver old spares waiting bay ∙ sym is

  -- the driver after the question holds the bay exactly if the driver before it did
  held_then : is_held (notes_of middle bay) (in_bay old.changes bay) ≡ held
  held_then = sym (acknowledged_held middle old spares waiting bay) ∙ ap (λ (s : StationState). is_acknowledged s bay) same ∙ acknowledged_is

  rate_shown : (bay_of start bay).rate ≡ rate
  rate_shown =
      ap (λ (s : StationState). (bay_of s bay).rate) (sym same)
      ∙ ap (λ (b : Bay). b.rate) (bay_shown_at middle old spares waiting bay)
      ∙ ap (λ (b : Bool). if b then (notes_of middle bay).rate else R500) held_then
      ∙ sym rate_is

  request_is : (fits : Bool) → (is_bay bay && is_place c h && nat_le 16 gap3) ≡ true → nat_le gap3 (most_format_gap rate) ≡ fits → is_format_request start bay c h gap3 ≡ fits
  request_is fits asked gap =
      ap (λ (b : Bool). b && nat_le gap3 (most_format_gap (bay_of start bay).rate)) asked
      ∙ ap (λ (r : Rate). nat_le gap3 (most_format_gap r)) rate_shown
      ∙ gap

  module _ (asked : (is_bay bay && is_place c h && nat_le 16 gap3) ≡ true) (fill : ℕ) (new : Rig) (asks : OnlyAsks old new) (none : CostsFor bay 0 0 2 old new) where
    abbrev now : StationState
    now = shown middle new spares waiting

    has_asked : HasAsked start now
    has_asked = asks_shown driver middle old new spares waiting same asks

    pub gap_refused : most_format_gap rate < gap3 → FormatsTo bay c h gap3 fill start (Err BadRequest) now
    gap_refused long =
        step_unasked start bay c h gap3 fill (Err BadRequest) now (request_is false asked (lt-leb gap3 (most_format_gap rate) long))
        (refused_asking {A = Unit {0}} start BadRequest now has_asked (question_costs bay 2 old new (omega arith) none))

    pub change_refused : gap3 ≤ most_format_gap rate → held ≡ false → FormatsTo bay c h gap3 fill start (Err Changed) now
    change_refused fits unheld =
        step_unheld start bay c h gap3 fill (Err Changed) now (request_is true asked (le-leb gap3 (most_format_gap rate) fits)) (acknowledged_is ∙ unheld)
        (refused_asking {A = Unit {0}} start Changed now has_asked (question_costs bay 2 old new (omega arith) none))

    protects_is : (answer : Bool) → answer ≡ protects (in_bay new.media bay) → is_protected start bay ≡ answer
    protects_is answer line =
        ap (λ (m : Option Disk). protects m) (medium_shown driver old spares waiting bay)
        ∙ ap (λ (t : Two (Option Disk)). protects (in_bay t bay)) (sym asks.media)
        ∙ sym line

    -- the machine was also asked whether the medium is protected
    module _ (fits : gap3 ≤ most_format_gap rate) (holds : held ≡ true) (last : Rig) (too : OnlyAsks new last) (none_too : CostsFor bay 0 0 4 new last) where
      pub protection_refused : true ≡ protects (in_bay new.media bay) → FormatsTo bay c h gap3 fill start (Err Protected) (shown middle last spares waiting)
      protection_refused line =
          let after = shown middle last spares waiting in
          step_protected start bay c h gap3 fill (Err Protected) after (request_is true asked (le-leb gap3 (most_format_gap rate) fits)) (acknowledged_is ∙ holds) (protects_is true line)
          (refused_asking {A = Unit {0}} start Protected after (asks_shown driver middle old last spares waiting same (asks_after old new last asks too))
          (questions_cost bay old new last none none_too))

      -- a format in attempts is the step
      pub format_step : false ≡ protects (in_bay new.media bay) → (after : Driver) (answer : Result (Unit {0}) Code) (end : Rig) → 1 ≤ driver.tries → middle.tries ≡ driver.tries → GoesOn last.counters end.counters → FormatsIn middle.tries (record { c = c; h = h; rate = rate; gap3 = gap3; fill = fill }) bay (in_bay last.media bay) (in_bay end.media bay) last.counters answer end.counters → HasOnlyMedium bay (in_bay end.media bay) (shown middle last spares waiting) (shown after end spares waiting) → CostsFor bay (middle.tries * format_turns rate) (middle.tries * format_steps rate) (middle.tries * format_once_port_accesses rate) last end → FormatsTo bay c h gap3 fill start answer (shown after end spares waiting)
      format_step line after answer end some tries goes formats medium costs =
          let whole = asks_after old new last asks too in
          let stop = shown after end spares waiting in
          let asked_of : HasAsked start (shown middle last spares waiting) = asks_shown driver middle old last spares waiting same whole in
          let of_rate : Rate → Format = λ r. record { c = c; h = h; rate = r; gap3 = gap3; fill = fill } in
          let media : in_bay last.media bay ≡ in_bay old.media bay = ap (λ (t : Two (Option Disk)). in_bay t bay) whole.media in
          let In : ℕ → Rate → Type 0 = λ n r. FormatsIn n (of_rate r) bay (in_bay last.media bay) (in_bay end.media bay) last.counters answer end.counters in
          let attempts : In driver.tries (bay_of start bay).rate = subst (λ (n : ℕ). In n (bay_of start bay).rate) tries (subst (In middle.tries) (sym rate_shown) formats) in
          let only : HasOnlyMedium bay (in_bay end.media bay) start stop =
          medium ∙ ap (λ (s : StationState). record (set_bay s bay (record (bay_of s bay) { medium = in_bay end.media bay })) { counters = stop.counters }) asked_of.stays in
          step_driven start bay c h gap3 fill answer stop (request_is true asked (le-leb gap3 (most_format_gap rate) fits)) (acknowledged_is ∙ holds) (protects_is false line)
          (formats_drive (of_rate (bay_of start bay).rate) bay answer start stop (in_bay last.media bay) (in_bay end.media bay) some
          (medium_shown driver old spares waiting bay ∙ sym media) (medium_shown after end spares waiting bay) only
          (formats_shown driver.tries (of_rate (bay_of start bay).rate) bay answer (in_bay last.media bay) (in_bay end.media bay) old.counters last.counters end.counters waiting
          whole.counts goes whole.driven attempts)
          (costs_shown driver old end spares waiting bay (driver.tries * format_turns (bay_of start bay).rate) (driver.tries * format_steps (bay_of start bay).rate)
          (6 + driver.tries * format_once_port_accesses (bay_of start bay).rate)
          (format_costs bay driver.tries middle.tries rate (bay_of start bay).rate old new last end tries (sym rate_shown) none none_too costs)))
