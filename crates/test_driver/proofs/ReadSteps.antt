-- Reads of the bench.
use Rattle.std.proofs.Common.{◌≡◌, ℕ, ◌+◌, ◌-◌, ◌<◌, ◌≤◌, ◌++◌, Bool, true, false, List, length, take, drop, get_or, Option, None, MatchOption, Result, Ok, Err, IfOk, IfErr, refl, sym, ap, ◌∙◌, subst, arith, inl, inr}
use Rattle.std.specs.Prelude.{◌==◌, if◌then◌else◌}
use Rattle.test_driver.proofs.Common.{get_or_append_left, get_or-append-add, get_or-take, get_or-drop, length-append, length-take, length-drop, drop-drop, Chrn, Rate, Code, NoMark, Overrun, Disk, track_of, Look, IsAddressAt, content_size, content_at, LookFor, Two, in_bay, Counters, SameOutside, drive_same, met_in, nothing_from, Rig, track_under, BenchCounts, BenchDrive, HasSent, FindsOn, RefusedAs, IsMissedOn, rig_of}
use borrow.Rule.Slice.PartMut.{put_mid}
use Rattle.track_model.specs.declared.Look.TheVariants as look
use Rattle.track_model.specs.Sectors.{IsSector}
use Rattle.track_model.proofs.Sectored.{found_sector, sector_under}
use Rattle.flop_base.specs.Lists.{with_items}
use Rattle.floppy_driver.specs.Reading.{SendsRead, FindsField, IsReadCode, IsReadReason, IsReadMiss, ReadsData, ReadsBack, ReadsId}

-- ---- memory of which a part is written over

pub put_bytes : (list memory bytes : List ℕ) (a k : ℕ) → list ≡ memory → k ≡ length bytes → put_mid a k list bytes ≡ with_items memory a bytes
unfolding with_items
put_bytes list memory bytes a k is long =
    ap (λ row. put_mid a k row bytes) is
    ∙ ap (λ row. take a memory ++ (bytes ++ row)) (drop-drop k a memory)
    ∙ ap (λ n. take a memory ++ (bytes ++ drop (a + n) memory)) long

module _ (memory : List ℕ) (a : ℕ) (bytes : List ℕ) (fits : a + length bytes ≤ length memory) where
  front : length (take a memory) ≡ a
  front = omega (arith, length-take a memory)

  pub length-with_items : length (with_items memory a bytes) ≡ length memory
  unfolding with_items
  length-with_items =
      omega (arith, front, length-append (take a memory) (bytes ++ drop (a + length bytes) memory), length-append bytes (drop (a + length bytes) memory), length-drop (a + length bytes) memory)

  pub same_outside : SameOutside a (length bytes) memory (with_items memory a bytes)
  unfolding with_items
  same_outside = record {
    length = length-with_items;
    others = λ k where_is.
        let rest = drop (a + length bytes) memory in
        elim where_is [
          | inl low ↦
              let within : k < length (take a memory) = omega (arith, front) in
              get_or_append_left (take a memory) (bytes ++ rest) 0 k within ∙ get_or-take a memory k 0 low
          | inr high ↦
              let i = k - (a + length bytes) in
              let place : k ≡ length (take a memory) + (length bytes + i) = omega (arith, front) in
              let back : a + length bytes + i ≡ k = omega arith in
              ap (λ j. get_or (take a memory ++ (bytes ++ rest)) j 0) place
              ∙ get_or-append-add (take a memory) (bytes ++ rest) (length bytes + i) 0
              ∙ get_or-append-add bytes rest i 0
              ∙ get_or-drop (a + length bytes) memory i 0
              ∙ ap (λ j. get_or memory j 0) back
        ];
  }

-- ---- the drive of a bay

-- a fact of the medium and the cylinder of the drive that is in a bay
drive_at : (is_first : Bool) (first second : BenchDrive) (P : Option Disk → ℕ → Type 0) → P (if is_first then first else second).medium (if is_first then first else second).cylinder → P (if is_first then first.medium else second.medium) (if is_first then first.cylinder else second.cylinder)
drive_at true first second P fact = fact
drive_at false first second P fact = fact

-- a fact of a drive's medium and cylinder is one of the rig's bay
pub at_bay : (drives : Two BenchDrive) (bay : ℕ) (drive : BenchDrive) (P : Option Disk → ℕ → Type 0) → drive ≡ in_bay drives bay → P drive.medium drive.cylinder → P (if bay == 0 then drives.first.medium else drives.second.medium) (if bay == 0 then drives.first.cylinder else drives.second.cylinder)
at_bay drives bay drive P is fact = drive_at (bay == 0) drives.first drives.second P (subst (λ (d : BenchDrive). P d.medium d.cylinder) is fact)

-- ---- refusals

-- a look that found nothing is a reason to refuse a read
refused_code : (looked : Look) (code : Code) → RefusedAs looked code → IsReadCode code × (code ≡ Overrun → ⊥)
refused_code (look.Found deleted place) code is = absurd is
refused_code _ code is = (subst IsReadCode (sym is) tt, λ e. cc (is, e))

reason_of : (track : List ℕ) (key : Chrn) (looked : Look) (code : Code) → LookFor track key looked → RefusedAs looked code → IsReadReason track key code
reason_of track key look.NoMark code is refused = subst (IsReadReason track key) (sym refused) (inl (nothing_from track is).clear_marks)
reason_of track key look.NoData code is refused = subst (IsReadReason track key) (sym refused) (inr (is.0, is.1.address, is.2))
reason_of track key look.NoSector code is refused = subst (IsReadReason track key) (sym refused) (is.0, λ clear. is.1 clear.0 clear.1.address)
reason_of track key look.BadCrc code is refused = subst (IsReadReason track key) (sym refused) (is.0, is.1.address, is.2)
reason_of track key (look.Found deleted place) code is refused = absurd refused

missed : (track : List ℕ) (key : Chrn) (bay : ℕ) (code : Code) (old new : Counters) → IsMissedOn track key code → IsReadMiss track key bay old code new
missed track key bay code old new miss =
    let of_code = refused_code miss.looked code miss.by_code in
    record {
      coded = of_code.0;
      reason = λ quiet. reason_of track key miss.looked code miss.is miss.by_code;
      cause = λ faultless. inl (reason_of track key miss.looked code miss.is miss.by_code);
      overrun = λ e. absurd (of_code.1 e);
    }

-- ---- fields

field_found : (old : Rig) (bay : ℕ) (key : Chrn) (rate : Rate) (deleted : Bool) (content : List ℕ) (new : Rig) → length content ≡ content_size key.n → FindsOn (in_bay old.media bay) rate (in_bay old.cylinders bay) key deleted content → FindsField bay key rate old deleted content new
field_found old bay key rate deleted content new size field =
    let under = field.under in
    let track = track_of under.disk (in_bay old.cylinders bay) key.h in
    let looked = subst (λ row. LookFor row key (look.Found deleted field.place)) under.is field.looked in
    let found : content ≡ content_at track field.place key.n = field.content_is ∙ ap (λ row. content_at row field.place key.n) under.is in
    let sector = subst (IsSector track key deleted) (sym found) (found_sector track key deleted field.place looked) in
    let part = sector_under track key deleted content sector in
    record {
      disk = under.disk;
      place = part.0;
      mark = part.1;
      medium = under.meets.is_in;
      same_rate = under.meets.same_rate;
      track = under.meets.has;
      address_field = part.2;
      data_mark = part.3;
      whole = part.4;
      size = size;
      sector = λ sure. sector;
    }

-- ---- the steps

module _ (drives : Two BenchDrive) (memory page memory_after page_after : List ℕ) (counts next : BenchCounts) (sent : HasSent counts next) where
  abbrev old : Rig
  old = rig_of drives memory page counts

  abbrev new : Rig
  new = rig_of drives memory_after page_after next

  pub sends : SendsRead old new
  sends =
      let stalls = sent.stalls in
      let rose = sent.commands.rose in
      let most = sent.commands.most in
      let never = sent.commands.never_falls in
      let taken = sent.taken.rose in
      let never_taken = sent.taken.never_falls in
      record {
        heads = record { cylinders = refl; numbers = refl; changes = refl; spun = record { first = λ e. e; second = λ e. e } };
        media = refl;
        counts = record {
          first = drive_same _ _ refl;
          second = drive_same _ _ refl;
          spares = refl;
          stalls = omega arith;
          stalls_spent = omega arith;
          data_commands = omega arith;
          taken = omega arith;
          direct = omega arith;
        };
        driven = record { most_commands = omega arith; interrupts = omega arith; past_driver = refl };
        command = rose;
      }

  module _ (bay : ℕ) (key : Chrn) (rate : Rate) (drive : BenchDrive) (content : List ℕ) (at : drive ≡ in_bay drives bay) (size : length content ≡ content_size key.n) where
    done : (deleted : Bool) → FindsOn drive.medium rate drive.cylinder key deleted content → FindsField bay key rate old deleted content new
    done deleted found =
        field_found old bay key rate deleted content new size (at_bay drives bay drive (λ m c. FindsOn m rate c key deleted content) at found)

    refused : (code : Code) → IsMissedOn (met_in drive.medium rate drive.cylinder key.h) key code → IsReadMiss (track_under old bay rate key.h) key bay old.counters code new.counters
    refused code miss =
        missed (track_under old bay rate key.h) key bay code old.counters new.counters (at_bay drives bay drive (λ m c. IsMissedOn (met_in m rate c key.h) key code) at miss)

    pub reads_data : (answer : Result Bool Code) (address : ℕ) → memory_after ≡ with_items memory address content → address + content_size key.n ≤ length memory → page_after ≡ page → IfOk answer (λ deleted. FindsOn drive.medium rate drive.cylinder key deleted content) → IfErr answer (λ code. IsMissedOn (met_in drive.medium rate drive.cylinder key.h) key code) → ReadsData bay key rate address old answer new
    reads_data answer address is fits same_page found miss = record {
      sends = sends;
      found = found_as answer found;
      refused = refused_as answer miss;
      outside =
          let room : address + length content ≤ length memory = omega arith in
          subst (λ m. SameOutside address (content_size key.n) memory m) (sym is)
          (subst (λ k. SameOutside address k memory (with_items memory address content)) size (same_outside memory address content room));
      page = same_page;
    }
      where
        found_as : (a : Result Bool Code) → IfOk a (λ deleted. FindsOn drive.medium rate drive.cylinder key deleted content) → IfOk a (λ deleted. (bytes : List ℕ) × FindsField bay key rate old deleted bytes new × (memory_after ≡ with_items memory address bytes))
        found_as (Ok deleted) f = (content, done deleted f, is)
        found_as (Err code) f = tt

        refused_as : (a : Result Bool Code) → IfErr a (λ code. IsMissedOn (met_in drive.medium rate drive.cylinder key.h) key code) → IfErr a (λ code. IsReadMiss (track_under old bay rate key.h) key bay old.counters code new.counters)
        refused_as (Ok deleted) f = tt
        refused_as (Err code) f = refused code f

    pub reads_back : (answer : Result Bool Code) → page_after ≡ with_items page 0 content → memory_after ≡ memory → IfOk answer (λ deleted. FindsOn drive.medium rate drive.cylinder key deleted content) → IfErr answer (λ code. IsMissedOn (met_in drive.medium rate drive.cylinder key.h) key code) → ReadsBack bay key rate old answer new
    reads_back answer is same_memory found miss = record {
      sends = sends;
      found = found_as answer found;
      refused = refused_as answer miss;
      memory = same_memory;
    }
      where
        found_as : (a : Result Bool Code) → IfOk a (λ deleted. FindsOn drive.medium rate drive.cylinder key deleted content) → IfOk a (λ deleted. (bytes : List ℕ) × FindsField bay key rate old deleted bytes new × (page_after ≡ with_items page 0 bytes))
        found_as (Ok deleted) f = (content, done deleted f, is)
        found_as (Err code) f = tt

        refused_as : (a : Result Bool Code) → IfErr a (λ code. IsMissedOn (met_in drive.medium rate drive.cylinder key.h) key code) → IfErr a (λ code. IsReadMiss (track_under old bay rate key.h) key bay old.counters code new.counters)
        refused_as (Ok deleted) f = tt
        refused_as (Err code) f = refused code f

-- no address field is found
pub no_id : (drives : Two BenchDrive) (memory page : List ℕ) (counts next : BenchCounts) (bay head : ℕ) (rate : Rate) (drive : BenchDrive) (first : Option Chrn) (Is : Chrn → Type 0) → HasSent counts next → drive ≡ in_bay drives bay → first ≡ None → MatchOption first ((p : ℕ) (key : Chrn) → IsAddressAt (met_in drive.medium rate drive.cylinder head) p key → ⊥) Is → ReadsId bay head rate (rig_of drives memory page counts) (Err NoMark) (rig_of drives memory page next)
no_id drives memory page counts next bay head rate drive first Is sent at is found =
    let None_at : Type 0 = (p : ℕ) (key : Chrn) → IsAddressAt (met_in drive.medium rate drive.cylinder head) p key → ⊥ in
    let none : None_at = subst (λ o. MatchOption o None_at Is) is found in
    record {
      sends = sends drives memory page memory page counts next sent;
      found = tt;
      refused = λ faultless key clear.
          at_bay drives bay drive (λ m c. (p : ℕ) (k : Chrn) → IsAddressAt (met_in m rate c head) p k → ⊥) at none clear.0 key clear.1.address;
      memory = refl;
      page = refl;
    }
