-- Reading a record back to the driver's page.
use Rattle.std.proofs.Common.{◌≡◌, ℕ, ◌+◌, ◌≤◌, Bool, false, List, length, drop, replicate, get_or, Result, Ok, Err, IsOk, IfErr, refl, sym, ap, ◌∙◌, subst, arith, inl, inr}
use Rattle.floppy_driver.proofs.Common.{false≢true, get_or_append_left, get_or-replicate, Chrn, Rate, Code, NoMark, NotFound, BadCrc, Overrun, Seek, track_of, IsAddressAt, content_size, content_at, IsSector, one_look_at, in_bay, goes_on_after, key_of, IsUndisturbed, HasNothing, met_track, IsDeviceRefusal, Rig, HeadsStay, track_under, IsReadReason, IsReadCode, IsReadBackMiss, ReadsBack, IsFilled, IsBlankUnder, HoldsRecord, HoldsRecords, ReadsRecords}
use Rattle.track_model.specs.declared.Look.TheVariants as look
use Rattle.flop_base.specs.Lists.{with_items}
use Rattle.floppy_driver.proofs.Shows.{driven_after, driven_within, heads_stay_after, same_under, undisturbed_faultless}
use Rattle.floppy_driver.proofs.Rising.{disturbed_later}

-- the refusals of a read
pub read_device : (code : Code) → IsReadCode code → IsDeviceRefusal code
read_device NoMark coded = tt
read_device NotFound coded = tt
read_device BadCrc coded = tt
read_device Overrun coded = tt
read_device _ coded = absurd coded

pub read_not_seek : (code : Code) → IsReadCode code → code ≡ Seek → ⊥
read_not_seek code coded is = subst IsReadCode is coded

-- a read of a record that is there has no reason to fail
no_reason : (track : List ℕ) (key : Chrn) (fill : ℕ) (code : Code) → HoldsRecord track key fill → IsReadReason track key code → ⊥
no_reason track key fill NoMark holds (inl none) = none holds.clear.0 holds.clear.1.clear
no_reason track key fill NoMark holds (inr found) =
    let there = holds.filled found.0 found.1 in
    found.2 there.1.0 false there.1.1
no_reason track key fill NotFound holds reason = reason.1 holds.clear
no_reason track key fill BadCrc holds found =
    let there = holds.filled found.0 found.1 in
    let same : look.BadCrc ≡ look.Found false there.0 = one_look_at track found.0 key.n look.BadCrc (look.Found false there.0) found.2 there.1 in
    absurd (cc same)
no_reason track key fill _ holds reason = reason

same_place : (a b : Bool) (p q : ℕ) → look.Found a p ≡ look.Found b q → p ≡ q
same_place a b p q e = cc e

-- a record of this byte has no other content
held_content : (track : List ℕ) (key : Chrn) (fill : ℕ) (deleted : Bool) (content : List ℕ) → HoldsRecord track key fill → IsSector track key deleted content → content ≡ replicate (content_size key.n) fill
held_content track key fill deleted content holds sector =
    let there = holds.filled sector.0 sector.2 in
    let same : look.Found deleted sector.1 ≡ look.Found false there.0 = one_look_at track sector.0 key.n (look.Found deleted sector.1) (look.Found false there.0) sector.3 there.1 in
    sector.4 ∙ ap (λ place. content_at track place key.n) (same_place deleted false sector.1 there.0 same) ∙ there.2

-- if nothing is recorded, a read finds no mark
unmarked_code : (track : List ℕ) (key : Chrn) (code : Code) → HasNothing track → IsReadReason track key code → code ≡ NoMark
unmarked_code track key NoMark nothing reason = refl
unmarked_code track key NotFound nothing reason = absurd (nothing.marks reason.0)
unmarked_code track key BadCrc nothing found = absurd (nothing.looks key look.BadCrc found)
unmarked_code track key _ nothing reason = absurd reason

-- the page begins with this byte, repeated
filled_page : (page content new : List ℕ) (count fill : ℕ) → new ≡ with_items page 0 content → length content ≡ count → content ≡ replicate count fill → IsFilled new count fill
unfolding with_items
filled_page page content new count fill is long all k below =
    ap (λ (bytes : List ℕ). get_or bytes k 0) is
    ∙ get_or_append_left content (drop (0 + length content) page) 0 k (omega arith)
    ∙ ap (λ (bytes : List ℕ). get_or bytes k 0) all
    ∙ get_or-replicate count k fill 0 below

module _ (old : Rig) (bay : ℕ) (key : Chrn) (rate : Rate) (fill : ℕ) where
  abbrev track : List ℕ
  track = track_under old bay rate key.h

  abbrev Holds : Type 0
  Holds = HoldsRecord track key fill

  abbrev Blank : Type 0
  Blank = IsBlankUnder old bay rate key.h

  -- one record was read back
  module _ {got : Result Bool Code} (new : Rig) (reads : ReadsBack bay key rate old got new) where
    read_back : (answer : Result (Unit {0}) Code) → (IsOk answer → Blank → ⊥) → IfErr answer (λ code. IsReadBackMiss bay Blank Holds old.counters code new.counters)
        → ReadsRecords bay 1 Blank Holds old answer new
    read_back answer found refused = record {
      heads = reads.sends.heads;
      media = reads.sends.media;
      memory = reads.memory;
      counts = reads.sends.counts;
      driven = reads.sends.driven;
      commands = λ ok. reads.sends.command;
      found = λ ok some. found ok;
      refused = refused;
    }

  pub read_back_missed : (code : Code) (new : Rig) → ReadsBack bay key rate old (Err code) new → ReadsRecords bay 1 Blank Holds old (Err code) new
  read_back_missed code new reads = read_back new reads (Err code) (λ ok. absurd (false≢true ok)) (record {
    coded = reads.refused.coded;
    overrun = reads.refused.overrun;
    disturbed = λ holds quiet. no_reason track key fill code holds (reads.refused.reason quiet);
    unmarked = λ blank quiet. unmarked_code track key code blank (reads.refused.reason quiet);
    sent = reads.sends.command;
  })

  module _ (deleted : Bool) (new : Rig) (reads : ReadsBack bay key rate old (Ok deleted) new) where
    abbrev there : List ℕ
    there = track_of reads.found.1.disk (in_bay old.cylinders bay) key.h

    met : track ≡ there
    met =
        let field = reads.found.1 in
        met_track (in_bay old.media bay) rate (in_bay old.cylinders bay) key.h field.disk (record { is_in = field.medium; has = field.track; same_rate = field.same_rate })

    page_filled : Holds → IsUndisturbed bay old.counters new.counters → IsFilled new.page (content_size key.n) fill
    page_filled holds quiet =
        let content = reads.found.0 in
        let field = reads.found.1 in
        let sector : IsSector there key deleted content = field.sector (inl (undisturbed_faultless bay old.counters new.counters reads.sends.counts quiet)) in
        let holds_there : HoldsRecord there key fill = subst (λ (words : List ℕ). HoldsRecord words key fill) met holds in
        filled_page old.page content new.page (content_size key.n) fill reads.found.2 field.size (held_content there key fill deleted content holds_there sector)

    -- the read found an address field
    not_blank : Blank → ⊥
    not_blank blank =
        let field = reads.found.1 in
        blank.addresses field.place key (subst (λ (words : List ℕ). IsAddressAt words field.place key) (sym met) field.address_field)

    pub read_back_found : ReadsRecords bay 1 Blank Holds old (Ok tt) new
    read_back_found = read_back new reads (Ok tt) (λ ok. not_blank) tt

    pub read_back_differs : (IsFilled new.page (content_size key.n) fill → ⊥) → ReadsRecords bay 1 Blank Holds old (Err BadCrc) new
    read_back_differs other = read_back new reads (Err BadCrc) (λ ok. not_blank) (record {
      coded = tt;
      overrun = λ e. absurd (cc e);
      disturbed = λ holds quiet. other (page_filled holds quiet);
      unmarked = λ blank. absurd (not_blank blank);
      sent = reads.sends.command;
    })

-- ---- one record after the other

-- a blank track stays blank if neither the medium nor the heads change
pub blank_next : (old new : Rig) (bay : ℕ) (rate : Rate) (h : ℕ) → HeadsStay old new → new.media ≡ old.media → IsBlankUnder old bay rate h → IsBlankUnder new bay rate h
blank_next old new bay rate h heads media blank = subst HasNothing (sym (same_under old new bay rate h media heads.cylinders)) blank

-- the record after those that were read back could not be read back
pub reads_failed : (old middle new : Rig) (bay so_far most : ℕ) (blank next_blank there next : Type 0) (code : Code) → so_far + 1 ≤ most → (blank → next_blank) → (there → next) → ReadsRecords bay so_far blank there old (Ok tt) middle → ReadsRecords bay 1 next_blank next middle (Err code) new → ReadsRecords bay most blank there old (Err code) new
reads_failed old middle new bay so_far most blank next_blank there next code within goes has first second = record {
  heads = heads_stay_after old middle new first.heads second.heads;
  media = second.media ∙ first.media;
  memory = second.memory ∙ first.memory;
  counts = goes_on_after old.counters middle.counters new.counters first.counts second.counts;
  driven =
      driven_within (so_far + 1) most old.counters new.counters within
      (driven_after so_far 1 old.counters middle.counters new.counters first.counts second.counts first.driven second.driven);
  commands = λ ok. absurd (false≢true ok);
  found = λ ok. absurd (false≢true ok);
  refused = record {
    coded = second.refused.coded;
    overrun = λ e. let rose = second.refused.overrun e in let s = first.counts.stalls in omega arith;
    disturbed = λ holds quiet. second.refused.disturbed (has holds) (disturbed_later bay old.counters middle.counters new.counters first.counts second.counts 1 quiet);
    unmarked = λ blank quiet. second.refused.unmarked (goes blank) (disturbed_later bay old.counters middle.counters new.counters first.counts second.counts 1 quiet);
    sent = let rose = second.refused.sent in let d = first.counts.data_commands in omega arith;
  };
}

pub held_next : (old middle : Rig) (bay : ℕ) (rate : Rate) (c h last fill r : ℕ) → HeadsStay old middle → middle.media ≡ old.media → 1 ≤ r → r ≤ last → HoldsRecords (track_under old bay rate h) c h last fill → HoldsRecord (track_under middle bay rate h) (key_of c h r) fill
held_next old middle bay rate c h last fill r heads media some most holds =
    subst (λ (words : List ℕ). HoldsRecord words (key_of c h r) fill) (sym (same_under old middle bay rate h media heads.cylinders)) (holds r some most)
