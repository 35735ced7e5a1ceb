-- A write at the drive of its medium: a word time, and what a sector that is over left there.
use Rattle.std.proofs.Common.{◌≡◌, inl, inr, ℕ, ◌+◌, ◌*◌, ◌<◌, ◌≤◌, Bool, true, false, Some, None, List, [], ◌++◌, length, get_or, take, refl, sym, ◌∙◌, ap, subst, arith, length-append}
use Rattle.laws_chip.proofs.Common.{false≢true, get_or-append, append-nil, ext_get_or, get_or-take, length-take, last_count, Chrn, Disk, IsDisk, IsWithTrack, IsAddressAt, content_size, DriveState, Fifo, Past, new_past, HasBegun, IsFirstOf, WritesWhole, Ending, Sent, told_in, ending_of_phase, head_of, IsContent, MayWriteIn, MayWriteTask, Long, Phase, Execute, Result, Task, is_executing, WordTime, IsTime, after_time, WritesIn, WritesTask, MayWrite, Fdc, start_of, Outset, track_heard, ArePut, IsAtWindow, start_in, IsTurningIn, led, turn_led, address_heard, address_in, heard_met, drive_at, Front, Transfer, StopsAtEnd, sent_of, HasWindow, HasWords, IsOverCylinder, KeepsSpeed, StaysPut, track_on, Taking as Command, WriteTask as Write, MediumPlace as Place, WrittenIsBegun as IsBegun}
use Rattle.flop_base.specs.Lists.{with_items}
use Rattle.sector_map.proofs.RegularTracks.{length-track_of}
use Rattle.track_model.specs.Windows.{IsCuttable, cut_of, window_word}
use Rattle.track_model.specs.Writing.{window}
use Rattle.track_model.proofs.Written.{length-window}
use Rattle.laws_chip.proofs.Known.{write_stops}
use Rattle.laws_chip.proofs.LateWriting.{IsWindowLed, window_bytes, window_first, window_over, window_stays, window_timed}

-- ---- what is known of the drive

-- how the drive stood when the search for a sector began, over this disk, at this word and with so many faults
abbrev pub outset_on : Place → Transfer → Disk → ℕ → ℕ → Outset
outset_on place at disk from since = record {
  head = head_of at.head_drive;
  rate = place.rate;
  disk = disk;
  cylinder = place.cylinder;
  from = from;
  faults = since;
}

-- what is known of the drive while the sector is written, or once it is over
abbrev pub IsAtSector : Place → Transfer → Disk → Past → Bool → DriveState → Type 0
IsAtSector place at disk past executes drive =
    (from : ℕ) × (since : ℕ) × IsWindowLed (outset_on place at disk from since) past executes drive × (place.clean ≡ true → since ≡ place.faults)

-- the disk has as many words on a track as the first one
pub record IsLike (place : Place) (disk : Disk) : Type 0 where
  pub valid : IsDisk disk
  pub words : disk.words_per_track ≡ place.disk.words_per_track

-- no word was lost up to now
abbrev pub IsCleanAt : Place → DriveState → Type 0
IsCleanAt place drive = place.clean ≡ true → (drive.faults ≡ place.faults) × (place.faults < last_count)

-- a sector begins where the drive is
pub sector_begins : (place : Place) (at : Transfer) (disk : Disk) (front : Front) → IsOverCylinder place front → (drive_at front.adapter place.bay).medium ≡ Some disk → IsLike place disk
    → IsAtSector place at disk new_past true (drive_at front.adapter place.bay)
sector_begins place at disk front is medium like =
    let drive = drive_at front.adapter place.bay in
    let outset = outset_on place at disk drive.place drive.faults in
    let words = like.words in
    let inside = is.inside in
    let turning : IsTurningIn outset drive = record { medium = medium; cylinder = is.cylinder; motor = is.motor; place = refl; inside = omega arith; never_falls = omega arith } in (
      drive.place,
      drive.faults,
      window_first outset 0 new_past true drive like.valid refl turning (λ some. absurd (omega arith)),
      λ set. (is.clean set).0,
    )

-- whatever bytes were moved
pub sector_moves : (place : Place) (at : Transfer) (disk : Disk) (past : Past) (executes : Bool) (drive : DriveState) (given taken : List ℕ) (counted : Bool) → IsAtSector place at disk past executes drive
    → IsAtSector place at disk (record past { given = given; taken = taken; counted = counted }) executes drive
sector_moves place at disk past executes drive given taken counted (from, since, was, began) = grind (arith, window_bytes)

pub sector_told : (place : Place) (at : Transfer) (disk : Disk) (past : Past) (executes : Bool) (drive : DriveState) (b : Bool) → IsAtSector place at disk past executes drive
    → IsAtSector place at disk (told_in b past) executes drive
sector_told place at disk past executes drive true was = sector_moves place at disk past executes drive past.given past.taken true was
sector_told place at disk past executes drive false was = was

-- while the drive stays put
pub sector_stays : (place : Place) (at : Transfer) (disk : Disk) (past : Past) (old : DriveState) (front : Front) → IsLike place disk → IsOverCylinder place front
    → StaysPut old (drive_at front.adapter place.bay) → KeepsSpeed old (drive_at front.adapter place.bay) → IsAtSector place at disk past true old
    → IsAtSector place at disk past true (drive_at front.adapter place.bay)
sector_stays place at disk past old front like is stays keeps (from, since, was, began) =
    (from, since, window_stays (outset_on place at disk from since) past old (drive_at front.adapter place.bay) like.valid stays keeps is.cylinder is.motor was, began)

-- ---- a word time

-- what a device step of a sector was, and what is then known of the write and of the drive
pub record IsTimed (place : Place) (at : Transfer) (deleted : Bool) (disk : Disk) (past : Past) (drive after : DriveState) (between : Fdc) : Type 0 where
  pub time : WordTime
  pub is : IsTime time place.rate (head_of at.head_drive) drive after
  pub stops : StopsAtEnd time between
  pub may : MayWrite (after_time time past) (sent_of at) deleted between
  pub sector : IsAtSector place at disk (after_time time past) (is_executing between.phase) after

module _ (place : Place) (at : Transfer) (deleted : Bool) (disk : Disk) (past : Past) (drive after : DriveState) (polls between : Fdc) (asking : Bool) (fifo : Fifo) (valid : IsDisk disk) (rate : polls.rate ≡ place.rate)
    (from since : ℕ) (was : IsWindowLed (outset_on place at disk from since) past true drive) (began : place.clean ≡ true → since ≡ place.faults) where
  timed_task : (task : Task) (head_drive steps : ℕ) → MayWriteTask (led was.lead was.late) (sent_of at) deleted head_drive steps task asking fifo
      → WritesTask task head_drive steps asking fifo polls drive after between → IsTimed place at deleted disk (led was.lead was.late) drive after between
  timed_task (Write writing) head_drive steps may writes =
      let (asks, (handed, on)) = may in
      let does = writes.step.does in
      let then_is = writes.writes (led was.lead was.late) (sent_of at) deleted may in
      let is : IsTime does.time place.rate (head_of at.head_drive) drive after =
      subst (λ head. IsTime does.time place.rate (head_of head) drive after) (ap (λ s. s.head_drive) on.sent_is) (subst (λ r. IsTime does.time r (head_of head_drive) drive after) rate does.is) in
      record {
        time = does.time;
        is = is;
        stops = write_stops deleted (led was.lead was.late) (sent_of at) None does.time head_drive steps writing polls drive between does.does;
        may = then_is;
        sector = (
          from,
          since,
          window_timed (outset_on place at disk from since) (sent_of at) deleted was.lead was.late drive after polls between head_drive steps writing fifo.bytes handed valid was.guarded on was.drive_is does.time
              is does.does writes.step.guards then_is,
          began,
        );
      }
  timed_task _ head_drive steps may writes = absurd may

  timed_phase : (phase : Phase) → is_executing phase ≡ true → MayWriteIn (led was.lead was.late) (sent_of at) deleted phase asking fifo → WritesIn phase asking fifo polls drive after between
      → IsTimed place at deleted disk (led was.lead was.late) drive after between
  timed_phase Command busy may writes = absurd may
  timed_phase (Result answer) busy may writes = absurd (false≢true busy)
  timed_phase (Execute execution) busy may writes = timed_task execution.task execution.head_drive execution.steps may writes

pub timed_in : (place : Place) (at : Transfer) (deleted : Bool) (disk : Disk) (past : Past) (drive after : DriveState) (polls between : Fdc) (asking : Bool) (fifo : Fifo) → IsDisk disk → polls.rate ≡ place.rate
    → IsAtSector place at disk past true drive → (phase : Phase) → is_executing phase ≡ true → MayWriteIn past (sent_of at) deleted phase asking fifo → WritesIn phase asking fifo polls drive after between
    → IsTimed place at deleted disk past drive after between
timed_in place at deleted disk past drive after polls between asking fifo valid rate (from, since, was, began) phase busy may writes =
    subst (λ p. IsTimed place at deleted disk p drive after between) (sym was.past_is)
    (timed_phase place at deleted disk past drive after polls between asking fifo valid rate from since was began phase busy
    (subst (λ p. MayWriteIn p (sent_of at) deleted phase asking fifo) was.past_is may) writes)

-- ---- how a sector ends

-- these bytes were handed in of what was taken, and the words written begin with them
abbrev pub HasHanded : Past → Chrn → Bool → Type 0
HasHanded past key deleted = (handed : List ℕ) × IsContent past.counted past.taken handed × HasBegun past key deleted handed

pub ended_has : (past : Past) (sent : Sent) (deleted : Bool) (phase : Phase) (asking : Bool) (fifo : Fifo) (ending : Ending) → ending_of_phase phase ≡ Some ending → MayWriteIn past sent deleted phase asking fifo
    → HasHanded past sent.key deleted
ended_has past sent deleted (Execute execution) asking fifo ending is may = absurd (cc is)
ended_has past sent deleted (Result (Long other results read)) asking fifo ending is (low, are, (handed, has)) = (handed, has.content, has.written.begun)
ended_has past sent deleted _ asking fifo ending is may = absurd may

pub ended_idle : (phase : Phase) (ending : Ending) → ending_of_phase phase ≡ Some ending → is_executing phase ≡ false
ended_idle (Execute execution) ending is = absurd (cc is)
ended_idle _ ending is = refl

-- ---- ---- what the sector left

-- what the sector left of the disk
pub record HasLeft (place : Place) (deleted : Bool) (at : Transfer) (past : Past) (disk now : Disk) : Type 0 where
  pub begun : IsBegun place deleted at past disk now
  pub whole : (content : List ℕ) → WritesWhole past at.key deleted content → HasWindow place deleted at content disk now

pub record SectorOver (place : Place) (deleted : Bool) (at : Transfer) (past : Past) (disk : Disk) (drive : DriveState) : Type 0 where
  pub now : Disk
  pub medium : drive.medium ≡ Some now
  pub like : IsLike place now
  pub left : HasLeft place deleted at past disk now

take_less : (words whole others : List ℕ) (count : ℕ) → whole ≡ words ++ others → count ≤ length words → take count words ≡ take count whole
take_less words whole others count is few =
    let long = ap length is in
    let joined = length-append words others in
    let one = length-take count words in
    let two = length-take count whole in
    ext_get_or 0 (take count words) (take count whole) (omega arith)
    (λ k below.
    get_or-take count words k 0 (omega arith)
    ∙ (sym (get_or-append words others 0 k (omega arith)) ∙ (sym (ap (λ list. get_or list k 0) is) ∙ sym (get_or-take count whole k 0 (omega arith)))))

module _ (place : Place) (at : Transfer) (deleted : Bool) (disk : Disk) (lead : ℕ) (late : Past) (drive : DriveState) (from since : ℕ) (like : IsLike place disk) (was : IsAtWindow (outset_on place at disk from since) late false drive)
    (began : place.clean ≡ true → since ≡ place.faults) (clean : IsCleanAt place drive) where
  abbrev outset_here : Outset
  outset_here = outset_on place at disk from since

  -- where words were written
  module _ (p : ℕ) (address : IsAddressAt late.seen p at.key) (spot : length late.seen ≡ window_word p) (some : 1 ≤ length late.words)
      (put : ArePut outset_here (start_in outset_here late) late.words drive) where
    abbrev start : ℕ
    start = start_of from late.turns

    words_stand : (content : List ℕ) → IsFirstOf late.words (window deleted content) → length content ≡ content_size at.key.n
        → HasWords place deleted at content (p + 16 * start) put.count disk put.now
    words_stand content (others, is) size =
        let met = heard_met outset_here late drive.faults was.at.hears p at.key address in
        let track = track_on disk place at in
        let here : window_word (p + 16 * start) ≡ start + length late.seen = omega arith in
        let on_track : IsAddressAt track (p + 16 * start) at.key =
        subst (λ t. IsAddressAt t (p + 16 * start) at.key) met.track (address_heard (track_heard outset_here) start late.seen was.at.hears.heard.now p at.key address) in
        let long = length-track_of disk place.cylinder (head_of at.head_drive) like.valid met.has in
        let few = put.stands.few in
        let inside = put.stands.inside in
        let lengths = ap length is in
        let joined = length-append late.words others in
        let row : with_items track (start + length late.seen) (take put.count late.words) ≡ cut_of track (p + 16 * start) put.count (window deleted content) =
        ap (with_items track (start + length late.seen)) (take_less late.words (window deleted content) others put.count is few)
        ∙ ap (λ n. with_items track n (take put.count (window deleted content))) (sym here) in
        let cuttable : IsCuttable track (p + 16 * start) put.count (window deleted content) = record { most = omega arith; inside = omega arith } in
        record {
          unprotected = was.at.unprotected some;
          rate = met.fits;
          there = met.has;
          address_field = on_track;
          size = size;
          cuttable = cuttable;
          cut = subst (λ r. IsWithTrack disk place.cylinder (head_of at.head_drive) r put.now) row put.stands.track;
        }

    -- all words stand, if none was lost
    window_stands : (content : List ℕ) → late.words ≡ window deleted content → length content ≡ content_size at.key.n → HasWindow place deleted at content disk put.now
    window_stands content is size =
        let words = words_stand content ([], sym is ∙ sym (append-nil late.words)) size in
        record {
          spot = p + 16 * start;
          count = put.count;
          words = words;
          whole = λ set.
              let same = began set in
              let (now_is, few) = clean set in
              let all : put.count ≡ length late.words = put.whole (omega arith, omega arith) in
              words.cut.has ∙ ap (λ n. cut_of (track_on disk place at) (p + 16 * start) n (window deleted content)) (all ∙ ap length is);
        }

    some_left : (handed : List ℕ) → IsContent late.counted late.taken handed → length handed ≤ content_size at.key.n
        → ((rest : List ℕ) → length handed + length rest ≡ content_size at.key.n → IsFirstOf late.words (window deleted (handed ++ rest))) → SectorOver place deleted at (led lead late) disk drive
    some_left handed content few first = record {
      now = put.now;
      medium = put.medium;
      like = record { valid = put.stands.track.valid; words = put.stands.track.words_per_track ∙ like.words };
      left = record {
        begun = inr (record {
          handed = handed;
          content = content;
          few = few;
          spot = p + 16 * start;
          count = put.count;
          words = λ rest sizes. words_stand (handed ++ rest) (first rest sizes) (length-append handed rest ∙ sizes);
        });
        whole = λ content (q, writes). window_stands content writes.words (writes.field (turn_led lead late.turns late.seen) (record { longer = omega arith; same = λ k below. refl })).size;
      };
    }

  none_left : late.words ≡ [] → SectorOver place deleted at (led lead late) disk drive
  none_left none = record {
    now = disk;
    medium = was.at.medium.quiet none;
    like = like;
    left = record {
      begun = inl refl;
      whole = λ content (q, writes). let long = length-window deleted content in let lengths = ap length writes.words in let zero_words = ap length none in absurd (omega arith);
    };
  }

  over_by : (handed : List ℕ) → IsContent late.counted late.taken handed → HasBegun (led lead late) at.key deleted handed → SectorOver place deleted at (led lead late) disk drive
  over_by handed content (inl none) = none_left none.0
  over_by handed content (inr (p, begun)) =
      let here = address_in lead late.turns late.seen p at.key begun.address in
      let spot = begun.place in
      let p_is = here.p_is in
      let longer = here.longer in
      some_left here.place here.address (omega arith) begun.some (was.at.medium.put (was.there begun.some) begun.some) handed content begun.few begun.first

-- once the controller's own command for a sector ended
pub sector_over : (place : Place) (at : Transfer) (deleted : Bool) (disk : Disk) (past : Past) (drive : DriveState) → IsLike place disk → IsAtSector place at disk past false drive → IsCleanAt place drive
    → HasHanded past at.key deleted → SectorOver place deleted at past disk drive
sector_over place at deleted disk past drive like (from, since, was, began) clean has =
    let (handed, content, begun) = subst (λ p. HasHanded p at.key deleted) was.past_is has in
    subst (λ p. SectorOver place deleted at p disk drive) (sym was.past_is)
    (over_by place at deleted disk was.lead was.late drive from since like (window_over (outset_on place at disk from since) past drive like.valid was) began clean handed content begun)
