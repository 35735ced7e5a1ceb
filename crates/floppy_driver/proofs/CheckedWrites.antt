-- A write that is read back consists of a write and a reading back.
use Rattle.std.proofs.Common.{MatchOption, IfErr, IsOk, ◌≡◌, ℕ, ◌+◌, ◌-◌, ◌<◌, ◌≤◌, Bool, true, false, List, length, drop, get_or, Option, Some, None, Result, Ok, Err, refl, sym, ap, ◌∙◌, subst, arith, inl, inr}
use Rattle.std.specs.Prelude.{not}
use Rattle.std.proofs.Math.Bool.{beq}
use Rattle.floppy_driver.proofs.Common.{false≢true, ext_get_or, length-take, length-drop, get_or-take, get_or-drop, get_or_append_left, RoseBy, Rate, Code, NoMark, NotFound, Overrun, BadCrc, Seek, Disk, track_of, content_size, IsSector, IsUnder, Two, in_bay, user_bytes, bytes_from, Counters, IsFaultless, IsUndisturbed, GoesOn, goes_on_after, MeetsTrack, met_track, Change, Written, HasOtherContent, IsDeviceRefusal, Rig, AreBytes, track_under, FindsField, ReadsBack, IsReadMiss, IsReadReason, IsReadCode, ChangesMedium, WritesData, IsWriteMiss, IsWriteReason, IsWriteCode, AreBytesAlike, WroteWhole, IsMissCause, IsReadBack, WritesChecked}
use Rattle.flop_base.specs.Lists.{with_items}
use Rattle.floppy_driver.proofs.Shows.{driven_after, driven_within, heads_stay_after, same_under, undisturbed_faultless}
use Rattle.floppy_driver.proofs.ReadBacks.{read_device}
use Rattle.floppy_driver.proofs.Rising.{less_first, less_later, less_than_two, disturbed_first, disturbed_later, stalls_later}

-- ---- bytes

module _ (page memory content : List ℕ) (address count : ℕ) (long : length content ≡ count) (sized : length memory ≡ user_bytes) (within : address + count ≤ user_bytes) where
  -- what stands at the beginning of the page
  page_byte : (k : ℕ) → k < count → get_or (with_items page 0 content) k 0 ≡ get_or content k 0
  unfolding with_items
  page_byte k h = get_or_append_left content (drop (0 + length content) page) 0 k (omega arith)

  memory_byte : (k : ℕ) → k < count → get_or (bytes_from memory address count) k 0 ≡ get_or memory (address + k) 0
  memory_byte k h = get_or-take count (drop address memory) k 0 h ∙ get_or-drop address memory k 0

  long_bytes : length (bytes_from memory address count) ≡ count
  long_bytes = omega (arith, length-take count (drop address memory), length-drop address memory)

  pub alike_content : AreBytesAlike (with_items page 0 content) memory address count → content ≡ bytes_from memory address count
  alike_content alike =
      ext_get_or 0 content (bytes_from memory address count) (long ∙ sym long_bytes)
      (λ k h. let below : k < count = omega arith in sym (page_byte k below) ∙ alike k below ∙ sym (memory_byte k below))

  pub content_alike : content ≡ bytes_from memory address count → AreBytesAlike (with_items page 0 content) memory address count
  content_alike same k h = page_byte k h ∙ ap (λ bytes. get_or bytes k 0) same ∙ memory_byte k h

-- ---- a write that was refused

write_device : (code : Code) → IsWriteCode code → IsDeviceRefusal code
write_device NoMark coded = tt
write_device NotFound coded = tt
write_device Overrun coded = tt
write_device _ coded = absurd coded

write_cause : (written : Written) (track : List ℕ) (change : Option Change) (bay : ℕ) (code : Code) (a b : Counters) → RoseBy 1 a.data_commands b.data_commands → IsWriteMiss track written.key bay a code b → IsMissCause written track change bay a code b
write_cause written track change bay code a b rose miss = record {
  device = write_device code miss.coded;
  no_mark = λ is quiet.
      let reason : IsWriteReason track written.key NoMark = subst (IsWriteReason track written.key) is (miss.reason quiet) in
      elim reason [
        | inl none ↦ inl none
        | inr out ↦ inr (inl out)
      ];
  not_found = λ is quiet. subst (IsWriteReason track written.key) is (miss.reason quiet);
  bad_data = λ is quiet. absurd (subst IsWriteCode is miss.coded);
  overrun = miss.overrun;
  lost = λ is. absurd (subst IsWriteCode is miss.coded);
  sent = λ other. rose;
  read_back = λ is. absurd (subst IsWriteCode is miss.coded);
}

pub write_missed : (old : Rig) (bay : ℕ) (rate : Rate) (written : Written) (change : Option Change) (code : Code) (new : Rig) → WritesData bay rate written change old (Err code) new → WritesChecked bay rate written old (Err code) new
write_missed old bay rate written change code new wrote = record {
  change = change;
  heads = wrote.sends.heads;
  other_medium = wrote.sends.other_medium;
  memory = wrote.sends.memory;
  counts = wrote.sends.counts;
  driven = driven_within 1 2 old.counters new.counters (omega arith) wrote.sends.driven;
  does = wrote.does;
  done = λ ok. absurd (false≢true ok);
  refused = write_cause written (track_under new bay rate written.key.h) change bay code old.counters new.counters wrote.sends.command wrote.refused;
  placed = λ is. let seek : code ≡ Seek = cc is in subst IsWriteCode seek wrote.refused.coded;
}

-- ---- a write that was done, and its reading back

does_later : (old : Rig) (bay : ℕ) (rate : Rate) (written : Written) (change : Option Change) (mid new : Rig) → GoesOn old.counters mid.counters → GoesOn mid.counters new.counters → new.media ≡ mid.media → MatchOption change (mid.media ≡ old.media) (λ one. ChangesMedium bay rate written one old mid) → MatchOption change (new.media ≡ old.media) (λ one. ChangesMedium bay rate written one old new)
does_later old bay rate written None mid new first second same none = same ∙ none
does_later old bay rate written (Some one) mid new first second same changed = record {
  before = changed.before;
  after = changed.after;
  was = changed.was;
  is = ap (λ (t : Two (Option Disk)). in_bay t bay) same ∙ changed.is;
  same_rate = changed.same_rate;
  here = changed.here;
  makes = changed.makes;
  whole = λ quiet. changed.whole (disturbed_first bay old.counters mid.counters new.counters first second 1 quiet);
}

module _ (old : Rig) (bay : ℕ) (rate : Rate) (written : Written) (change : Option Change) (mid : Rig) (wrote : WritesData bay rate written change old (Ok tt) mid) (answer : Result Bool Code) (new : Rig) (back : ReadsBack bay written.key rate mid answer new) where
  counts : GoesOn old.counters new.counters
  counts = goes_on_after old.counters mid.counters new.counters wrote.sends.counts back.sends.counts

  once : RoseBy 1 old.counters.data_commands new.counters.data_commands
  once = let first = wrote.sends.command in let second = back.sends.counts.data_commands in omega arith

  twice : RoseBy 2 old.counters.data_commands new.counters.data_commands
  twice = let first = wrote.sends.command in let second = back.sends.command in omega arith

  -- the medium in the bay as it was read
  media_bay : in_bay new.media bay ≡ in_bay mid.media bay
  media_bay = ap (λ (t : Two (Option Disk)). in_bay t bay) back.sends.media

  track_same : track_under new bay rate written.key.h ≡ track_under mid bay rate written.key.h
  track_same = same_under mid new bay rate written.key.h back.sends.media back.sends.heads.cylinders

  wrote_first : IsFaultless bay old.counters mid.counters → WroteWhole written change
  wrote_first = wrote.done refl

  wrote_whole : IsFaultless bay old.counters new.counters → WroteWhole written change
  wrote_whole less = wrote_first (less_first bay old.counters mid.counters new.counters wrote.sends.counts back.sends.counts 1 less)

  quiet_whole : IsUndisturbed bay old.counters new.counters → WroteWhole written change
  quiet_whole quiet = wrote_whole (undisturbed_faultless bay old.counters new.counters counts quiet)

  quiet_back : IsUndisturbed bay old.counters new.counters → IsUndisturbed bay mid.counters new.counters
  quiet_back = disturbed_later bay old.counters mid.counters new.counters wrote.sends.counts back.sends.counts 1

  checked : (result : Result (Unit {0}) Code) → (IsOk result → IsReadBack written (in_bay new.media bay) rate (in_bay old.cylinders bay) change bay old.counters new.counters) → IfErr result (λ code. IsMissCause written (track_under new bay rate written.key.h) change bay old.counters code new.counters) → (result ≡ Err Seek → ⊥) → WritesChecked bay rate written old result new
  checked result done refused placed = record {
    change = change;
    heads = heads_stay_after old mid new wrote.sends.heads back.sends.heads;
    other_medium = ap (λ (t : Two (Option Disk)). in_bay t (1 - bay)) back.sends.media ∙ wrote.sends.other_medium;
    memory = back.memory ∙ wrote.sends.memory;
    counts = counts;
    driven = driven_after 1 1 old.counters mid.counters new.counters wrote.sends.counts back.sends.counts wrote.sends.driven back.sends.driven;
    does = does_later old bay rate written change mid new wrote.sends.counts back.sends.counts back.sends.media wrote.does;
    done = done;
    refused = refused;
    placed = placed;
  }

  -- the reading back was refused
  back_cause : (code : Code) → IsReadMiss (track_under mid bay rate written.key.h) written.key bay mid.counters code new.counters → IsMissCause written (track_under new bay rate written.key.h) change bay old.counters code new.counters
  back_cause code miss =
      let key = written.key in
      let under = track_under new bay rate key.h in
      let reason : IsUndisturbed bay old.counters new.counters → IsReadReason under key code = λ quiet. subst (λ track. IsReadReason track key code) (sym track_same) (miss.reason (quiet_back quiet)) in
      record {
        device = read_device code miss.coded;
        no_mark = λ is quiet.
            let why : IsReadReason under key NoMark = subst (IsReadReason under key) is (reason quiet) in
            elim why [
              | inl none ↦ inl none
              | inr look ↦ inr (inr (quiet_whole quiet, look))
            ];
        not_found = λ is quiet. subst (IsReadReason under key) is (reason quiet);
        bad_data = λ is quiet. (quiet_whole quiet, inl (subst (IsReadReason under key) is (reason quiet)));
        overrun = λ is. stalls_later bay old.counters mid.counters new.counters wrote.sends.counts back.sends.counts 1 (miss.overrun is);
        lost = λ is. absurd (subst IsReadCode is miss.coded);
        sent = λ other. once;
        read_back = λ is. twice;
      }

  pub back_missed : (code : Code) → answer ≡ Err code → WritesChecked bay rate written old (Err code) new
  back_missed code is =
      let miss : IsReadMiss (track_under mid bay rate written.key.h) written.key bay mid.counters code new.counters = rw is at back.refused in
      checked (Err code) (λ ok. absurd (false≢true ok)) (back_cause code miss) (λ seek. let same : code ≡ Seek = cc seek in subst IsReadCode same miss.coded)

  module _ (deleted : Bool) (content : List ℕ) (found : FindsField bay written.key rate mid deleted content new) where
    meets : MeetsTrack (in_bay mid.media bay) rate (in_bay mid.cylinders bay) written.key.h found.disk
    meets = record { is_in = found.medium; has = found.track; same_rate = found.same_rate }

    under_is : track_under new bay rate written.key.h ≡ track_of found.disk (in_bay mid.cylinders bay) written.key.h
    under_is = track_same ∙ met_track (in_bay mid.media bay) rate (in_bay mid.cylinders bay) written.key.h found.disk meets

    -- the sector has another mark or another content
    other_content : IsFaultless bay mid.counters new.counters → (deleted ≡ written.deleted → content ≡ written.content → ⊥) → HasOtherContent (track_under new bay rate written.key.h) written
    other_content less differs =
        let sector = found.sector (inl less) in
        subst (λ track. HasOtherContent track written) (sym under_is)
        (sector.0, deleted, sector.1, sector.2, sector.3, λ same. differs same.0 (sector.4 ∙ same.1))

    pub other_read : (deleted ≡ written.deleted → content ≡ written.content → ⊥) → WritesChecked bay rate written old (Err BadCrc) new
    other_read differs =
        checked (Err BadCrc) (λ ok. absurd (false≢true ok))
        (record {
          device = tt;
          no_mark = λ is. absurd (cc is);
          not_found = λ is. absurd (cc is);
          bad_data = λ is quiet. (
            quiet_whole quiet,
            inr (other_content (undisturbed_faultless bay mid.counters new.counters back.sends.counts (quiet_back quiet)) differs),
          );
          overrun = λ is. absurd (cc is);
          lost = λ is. absurd (cc is);
          sent = λ other. once;
          read_back = λ is. twice;
        })
        (λ is. cc is)

    module _ (same_mark : deleted ≡ written.deleted) (same : content ≡ written.content) where
      sector_read : IsFaultless bay mid.counters new.counters → IsSector (track_of found.disk (in_bay mid.cylinders bay) written.key.h) written.key written.deleted written.content
      sector_read less = rw (same_mark, same) at (found.sector (inl less))

      under_read : IsUnder (track_of found.disk (in_bay mid.cylinders bay) written.key.h) written.key written.deleted written.content
      under_read = rw (← same_mark, ← same) (found.place, found.mark, found.address_field, found.data_mark, found.whole)

      read_back : IsReadBack written (in_bay new.media bay) rate (in_bay mid.cylinders bay) change bay old.counters new.counters
      read_back = record {
        disk = found.disk;
        is_in = media_bay ∙ found.medium;
        same_rate = found.same_rate;
        track = found.track;
        under = under_read;
        whole = wrote_whole;
        sector = λ less. sector_read (less_later bay old.counters mid.counters new.counters wrote.sends.counts back.sends.counts 1 less);
        nearly = λ less. elim (less_than_two bay old.counters mid.counters new.counters wrote.sends.counts back.sends.counts less) [
          | inl first ↦ inl (wrote_first first)
          | inr second ↦ inr (sector_read second)
        ];
        commands = twice;
      }

      pub same_read : WritesChecked bay rate written old (Ok tt) new
      same_read =
          checked (Ok tt)
          (λ ok. rw wrote.sends.heads.cylinders at read_back)
          tt (λ is. cc is)

-- ---- the ends of a write that is read back

module _ (old : Rig) (bay : ℕ) (rate : Rate) (written : Written) (mid new : Rig) where
  pub ends_written : (first result : Result (Unit {0}) Code) (code other : Code) → (change : Option Change) × WritesData bay rate written change old first mid → first ≡ Err code → result ≡ Err other → other ≡ code → WritesChecked bay rate written old result mid
  ends_written first result code other wrote was is same = rw (is, same) (write_missed old bay rate written wrote.0 code mid (rw was at wrote.1))

  module _ (first : Result (Unit {0}) Code) (answer : Result Bool Code) (unit : Unit {0}) (wrote : (change : Option Change) × WritesData bay rate written change old first mid) (was : first ≡ Ok unit) (back : ReadsBack bay written.key rate mid answer new) where
    done : WritesData bay rate written wrote.0 old (Ok tt) mid
    done = rw was at wrote.1

    pub ends_read : (result : Result (Unit {0}) Code) (code other : Code) → answer ≡ Err code → result ≡ Err other → other ≡ code → WritesChecked bay rate written old result new
    ends_read result code other failed is same =
        rw (is, same) (back_missed old bay rate written wrote.0 mid done answer new back code failed)

    module _ (marked : Bool) (read : answer ≡ Ok marked) where
      found : (content : List ℕ) × FindsField bay written.key rate mid marked content new × (new.page ≡ with_items mid.page 0 content)
      found = rw read at back.found

      pub ends_marked : (marked ≡ written.deleted → ⊥) → WritesChecked bay rate written old (Err BadCrc) new
      ends_marked differs =
          other_read old bay rate written wrote.0 mid done answer new back marked found.0 found.1 (λ same e. differs same)

      module _ (address : ℕ) (is : written.content ≡ bytes_from old.memory address (content_size written.key.n)) (sized : AreBytes old.memory user_bytes) (within : address + content_size written.key.n ≤ user_bytes) where
        memory_same : new.memory ≡ old.memory
        memory_same = back.memory ∙ done.sends.memory

        page_alike : AreBytesAlike new.page new.memory address (content_size written.key.n) → found.0 ≡ written.content
        page_alike alike =
            alike_content mid.page old.memory found.0 address (content_size written.key.n) found.1.size sized.length within (rw (memory_same, found.2) at alike) ∙ sym is

        alike_page : found.0 ≡ written.content → AreBytesAlike new.page new.memory address (content_size written.key.n)
        alike_page same =
            let shown : AreBytesAlike (with_items mid.page 0 found.0) old.memory address (content_size written.key.n) = content_alike mid.page old.memory found.0 address (content_size written.key.n) found.1.size sized.length within (same ∙ is) in
            subst (λ p. AreBytesAlike p new.memory address (content_size written.key.n)) (sym found.2) (subst (λ m. AreBytesAlike (with_items mid.page 0 found.0) m address (content_size written.key.n)) (sym memory_same) shown)

        pub ends_other : (AreBytesAlike new.page new.memory address (content_size written.key.n) → ⊥) → WritesChecked bay rate written old (Err BadCrc) new
        ends_other differs =
            other_read old bay rate written wrote.0 mid done answer new back marked found.0 found.1 (λ e same. differs (alike_page same))

        pub ends_same : marked ≡ written.deleted → AreBytesAlike new.page new.memory address (content_size written.key.n) → WritesChecked bay rate written old (Ok tt) new
        ends_same same alike =
            same_read old bay rate written wrote.0 mid done answer new back marked found.0 found.1 same (page_alike alike)

-- ---- marks

pub marks_differ : (a b : Bool) → not (beq a b) ≡ true → a ≡ b → ⊥
marks_differ true false e = λ same. false≢true (sym same)
marks_differ false true e = false≢true
marks_differ _ _ e = absurd (false≢true e)

pub marks_same : (a b : Bool) → not (beq a b) ≡ false → a ≡ b
marks_same true false e = absurd (false≢true (sym e))
marks_same false true e = absurd (false≢true (sym e))
marks_same _ _ e = refl
