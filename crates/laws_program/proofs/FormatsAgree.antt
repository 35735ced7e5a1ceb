-- Two formats of one track in alike bays: they are answered alike, and leave alike bays.
use Rattle.std.specs.Prelude.{◌↔◌}
use Rattle.std.proofs.Common.{arith, ◌≡◌, ◌∙◌, ℕ, suc, All, List, [], ◌∷◌, refl, sym, ap, subst, inl, inr, Option, Some, None, Result, Ok, Err, true≢false, ◌+◌, ◌*◌, ◌≤◌, Bool, length}
use Rattle.laws_program.proofs.Common.{Code, Disk, IsDisk, HasTrack, track_of, GoesOn, IsUndisturbed, Format, Laying, formatted, CanFormat, IsFormattable, KeepsTracks, keeps_itself, keeps_both, cases_rate, StationState, bay_of, LaysDisk, Lays, IsFormatted, IsUnformatted, FormatsDrive, reply_of, Chrn, with_items, user_bytes, Look, IsAddressAt, content_size, HasAddressMark, IsRegular, plain_clear, length-with_items, met_track, clear_address, key_cylinder, Becomes, met, IsRead, IsReadCause, ReadsDrive, IsRegularIn}
use Rattle.sector_map.proofs.Laid.{laying_keeps_tracks, can_format_alike}
use Rattle.laws_program.proofs.Shown.{same_show, Shows, ShowSame, SameAnswer, one_answer}
use Rattle.laws_program.proofs.AlikeDisks.{AlikeDisks, AlikeMedia, no_faults, alike_after, regular_met, no_overrun, no_loss}
use Rattle.std.proofs.lemmas.List.FromFn.{length-map-range_with_len}
use Rattle.track_model.specs.Bytes.{byte_at, bytes_at}
use Rattle.track_model.specs.Sectors.{IsSector}
use Rattle.flop_base.specs.declared.answers.Code.TheVariants as code
use Rattle.track_model.specs.declared.Look.TheVariants as look

-- several layings on one cylinder keep the other tracks
lays_keep : (format : Format) (disk : Disk) (layings : List Laying) (after : Disk) → IsDisk disk → All (λ laying. laying.cylinder ≡ format.c) layings → LaysDisk format disk layings after → KeepsTracks disk format.c format.h after
lays_keep format disk [] after valid only lays = subst (KeepsTracks disk format.c format.h) (sym lays) (keeps_itself disk format.c format.h valid)
lays_keep format disk (laying ∷ later) after valid only lays =
    let here : laying.cylinder ≡ format.c = only 0 laying (omega arith) in
    let first = subst (λ (c : ℕ). KeepsTracks disk c format.h lays.0) here (laying_keeps_tracks format disk laying lays.0 lays.1) in
    keeps_both disk lays.0 after format.c format.h first
    (lays_keep format lays.0 later after first.alike.valid (λ i d below. only (suc i) d (omega arith)) lays.2)

-- a disk before and after formats of one track, which nothing disturbed
record IsLaidOver (format : Format) (disk after : Disk) : Type 0 where
  pub keeps : KeepsTracks disk format.c format.h after
  pub laid : HasTrack disk format.c format.h → disk.rate ≡ format.rate
      → track_of after format.c format.h ≡ formatted format disk.words_per_track
  pub kept : (disk.rate ≡ format.rate → ⊥) → after ≡ disk

some_one : (a b : Disk) → Some a ≡ Some b → a ≡ b
some_one a b e = cc e

laid_over : (format : Format) (disk after : Disk) (layings : List Laying) → IsDisk disk → All (λ laying. laying.cylinder ≡ format.c) layings → Lays format (Some disk) layings (Some after) → IsFormatted format (Some disk) (Some after) → IsUnformatted format (Some disk) (Some after) → IsLaidOver format disk after
laid_over format disk after layings valid only lays begun untouched = record {
  keeps = lays_keep format disk layings after valid only lays;
  laid = λ has same.
      let made = begun disk refl has same in
      subst (λ (d : Disk). track_of d format.c format.h ≡ formatted format disk.words_per_track) (sym (some_one after made.0 made.1)) made.2;
  kept = λ other. some_one after disk (untouched (λ d is has same. other (subst (λ (x : Disk). x.rate ≡ format.rate) (sym (some_one disk d is)) same)));
}

-- two alike disks that were formatted in this way are alike again
over_alike : (format : Format) (one two one_after two_after : Disk) → AlikeDisks one two → IsLaidOver format one one_after → IsLaidOver format two two_after → AlikeDisks one_after two_after
over_alike format one two one_after two_after same first second = elim (cases_rate one.rate format.rate) [
  | inl is ↦
      alike_after one two one_after two_after format.c format.h same first.keeps second.keeps
      (λ has.
      let had : HasTrack two format.c format.h = (omega (arith, has.0, same.alike.cylinders), omega (arith, has.1, same.alike.heads)) in
      let words = ap (λ n. formatted format n) same.alike.words_per_track in
      same_show (track_of one_after format.c format.h) (track_of two_after format.c format.h)
      (second.laid had (same.alike.rate ∙ is) ∙ words ∙ sym (first.laid has is)))
  | inr other ↦
      subst (λ (d : Disk). AlikeDisks d two_after) (sym (first.kept other))
      (subst (λ (d : Disk). AlikeDisks one d) (sym (second.kept (λ is. other (sym same.alike.rate ∙ is)))) same)
]

-- two alike media after formats are alike again
media_alike : (format : Format) (one two one_after two_after : Option Disk) (layings more : List Laying) → AlikeMedia one two
    → All (λ laying. laying.cylinder ≡ format.c) layings → Lays format one layings one_after → IsFormatted format one one_after → IsUnformatted format one one_after
    → All (λ laying. laying.cylinder ≡ format.c) more → Lays format two more two_after → IsFormatted format two two_after → IsUnformatted format two two_after
    → AlikeMedia one_after two_after
media_alike format None None one_after two_after layings more same only lays begun untouched only_too lays_too begun_too untouched_too =
    subst (λ (o : Option Disk). AlikeMedia o two_after) (sym lays.1) (subst (λ (o : Option Disk). AlikeMedia None o) (sym lays_too.1) tt)
media_alike format (Some one) (Some two) None two_after layings more same only lays begun untouched only_too lays_too begun_too untouched_too = absurd lays
media_alike format (Some one) (Some two) (Some one_after) None layings more same only lays begun untouched only_too lays_too begun_too untouched_too = absurd lays_too
media_alike format (Some one) (Some two) (Some one_after) (Some two_after) layings more same only lays begun untouched only_too lays_too begun_too untouched_too =
    over_alike format one two one_after two_after same
    (laid_over format one one_after layings same.valid only lays begun untouched)
    (laid_over format two two_after more same.alike.valid only_too lays_too begun_too untouched_too)
media_alike format _ _ one_after two_after layings more same only lays begun untouched only_too lays_too begun_too untouched_too = absurd same

-- a format fits both of two alike media, or none
formattable_both : (format : Format) (one two : Option Disk) → AlikeMedia one two → IsFormattable format one ↔ IsFormattable format two
formattable_both format None None same = (λ can. can, λ can. can)
formattable_both format (Some one) (Some two) same =
    let both = can_format_alike format one two same.alike in (
      λ can. (two, refl, both.0 (subst (CanFormat format) (sym (some_one one can.0 can.1)) can.2)),
      λ can. (one, refl, both.1 (subst (CanFormat format) (sym (some_one two can.0 can.1)) can.2)),
    )
formattable_both format _ _ same = absurd same

module _ (format : Format) (bay : ℕ) (one two one_new two_new : StationState) (same : AlikeMedia (bay_of one bay).medium (bay_of two bay).medium) (calm : IsUndisturbed bay one.counters one_new.counters) (goes : GoesOn one.counters one_new.counters) (calm_too : IsUndisturbed bay two.counters two_new.counters) (goes_too : GoesOn two.counters two_new.counters) where
  pub formats_media : (called called_too : Result (Unit {0}) Code) → FormatsDrive format bay one called one_new → FormatsDrive format bay two called_too two_new → AlikeMedia (bay_of one_new bay).medium (bay_of two_new bay).medium
  formats_media called called_too drive drive_too =
      media_alike format (bay_of one bay).medium (bay_of two bay).medium (bay_of one_new bay).medium (bay_of two_new bay).medium drive.layings drive_too.layings same
      (drive.only (no_faults bay one.counters one_new.counters calm goes)) drive.lays (drive.begun calm) (drive.untouched calm)
      (drive_too.only (no_faults bay two.counters two_new.counters calm_too goes_too)) drive_too.lays (drive_too.begun calm_too) (drive_too.untouched calm_too)

  pub formats_reply : (called called_too : Result (Unit {0}) Code) → FormatsDrive format bay one called one_new → FormatsDrive format bay two called_too two_new → reply_of called_too ≡ reply_of called
  formats_reply (Ok u) (Ok v) drive drive_too = refl
  formats_reply (Ok u) (Err k) drive drive_too =
      let can = (formattable_both format (bay_of one bay).medium (bay_of two bay).medium same).0 ((drive.exactly calm).0 refl) in
      absurd (true≢false (sym ((drive_too.exactly calm_too).1 can)))
  formats_reply (Err k) (Ok v) drive drive_too =
      let can = (formattable_both format (bay_of one bay).medium (bay_of two bay).medium same).1 ((drive_too.exactly calm_too).0 refl) in
      absurd (true≢false (sym ((drive.exactly calm).1 can)))
  formats_reply (Err k) (Err j) drive drive_too =
      let first = drive.refused.undisturbed calm in
      let second = drive_too.refused.undisturbed calm_too in
      ap (λ (c : Code). reply_of (Err c)) (second ∙ sym first)

-- ---- what a read of a regular track answers, where nothing disturbs the read: the track's fields settle the
-- answer.

-- the answer of a read that a look makes
abbrev pub read_by : Look → Result Bool Code
read_by (look.Found deleted place) = Ok deleted
read_by look.BadCrc = Err code.BadCrc
read_by _ = Err code.NoMark

-- what the track shows to a read: no address mark, no field of the key, or such a field
pub data Sees (track : List ℕ) (key : Chrn) (called : Result Bool Code) : Type 0 where
  Bare : called ≡ Err code.NoMark → (HasAddressMark track → ⊥) → Sees track key called
  Missing : called ≡ Err code.NotFound → HasAddressMark track → ((p : ℕ) → IsAddressAt track p key → ⊥) → Sees track key called
  There : (p : ℕ) (answer : Look) → IsAddressAt track p key → Shows track p key.n answer → called ≡ read_by answer → Sees track key called

pub sees_on : (one two : List ℕ) (key : Chrn) (called : Result Bool Code) → ShowSame one two → Sees two key called → Sees one key called
sees_on one two key called same (Bare is none) = Bare is (λ mark. none (same.marks.0 mark))
sees_on one two key called same (Missing is mark none) = Missing is (same.marks.1 mark) (λ p at. none p ((same.addresses p key).0 at))
sees_on one two key called same (There p answer at shows is) =
    let here = (same.addresses p key).1 at in
    There p answer here ((same.looks p key answer here).1 shows) is

same_reads : (a b : Look) → SameAnswer a b → read_by b ≡ read_by a
same_reads (look.Found a p) (look.Found b q) same = ap (λ (d : Bool). Ok d) (sym same)
same_reads look.NoData look.NoData same = refl
same_reads look.BadCrc look.BadCrc same = refl
same_reads _ _ same = absurd same

-- a track shows only one answer to a read
pub one_seen : (track : List ℕ) (c h : ℕ) (key : Chrn) (a b : Result Bool Code) → IsRegular track c h → Sees track key a → Sees track key b → b ≡ a
one_seen track c h key a b regular (Bare is none) (Bare is_too none_too) = is_too ∙ sym is
one_seen track c h key a b regular (Bare is none) (Missing is_too mark none_too) = absurd (none mark)
one_seen track c h key a b regular (Bare is none) (There p answer at shows is_too) = absurd (none (p, at.mark))
one_seen track c h key a b regular (Missing is mark none) (Bare is_too none_too) = absurd (none_too mark)
one_seen track c h key a b regular (Missing is mark none) (Missing is_too mark_too none_too) = is_too ∙ sym is
one_seen track c h key a b regular (Missing is mark none) (There p answer at shows is_too) = absurd (none p at)
one_seen track c h key a b regular (There p answer at shows is) (Bare is_too none) = absurd (none (p, at.mark))
one_seen track c h key a b regular (There p answer at shows is) (Missing is_too mark none) = absurd (none p at)
one_seen track c h key a b regular (There p answer at shows is) (There q answer_too at_too shows_too is_too) =
    let place : q ≡ p = regular.keys.distinct q p key at_too at in
    let here : Shows track p key.n answer_too = subst (λ (r : ℕ). Shows track r key.n answer_too) place shows_too in
    is_too ∙ same_reads answer answer_too (one_answer track p key.n answer answer_too shows here) ∙ sym is

-- ---- a read of the driver

module _ (bay : ℕ) (key : Chrn) (address : ℕ) (old new : StationState) (regular : IsRegularIn (bay_of old bay).medium) (calm : IsUndisturbed bay old.counters new.counters) (goes : GoesOn old.counters new.counters) where
  abbrev track : List ℕ
  track = met (bay_of old bay) key.c key.h

  is_regular : IsRegular track key.c key.h
  is_regular = regular_met (bay_of old bay).medium (bay_of old bay).rate key.c key.h regular

  found_sees : (deleted : Bool) → IsRead bay key address old deleted new → Sees track key (Ok deleted)
  found_sees deleted read =
      let place = key_cylinder read.disk read.cylinder key.h read.place key (regular read.disk read.medium) read.track read.address_field in
      let sector = read.sector (inl (no_faults bay old.counters new.counters calm goes)) in
      let here : IsSector (track_of read.disk key.c key.h) key deleted read.content = subst (λ (c : ℕ). IsSector (track_of read.disk c key.h) key deleted read.content) (sym place.0) sector in
      let has : HasTrack read.disk key.c key.h = subst (λ (c : ℕ). HasTrack read.disk c key.h) (sym place.0) read.track in
      let is = met_track (bay_of old bay).medium (bay_of old bay).rate key.c key.h read.disk (record { is_in = read.medium; has = has; same_rate = read.same_rate }) in
      let there : IsSector track key deleted read.content = subst (λ (t : List ℕ). IsSector t key deleted read.content) (sym is) here in
      There there.0 (look.Found deleted there.1) there.2 (there.1, there.3) refl

  cause_sees : (c : Code) → IsReadCause track key old.tries bay old c new → Sees track key (Err c)
  cause_sees code.NoMark cause = elim (cause.no_mark refl calm) [
    | inl none ↦ Bare refl (λ mark. none mark.0 (plain_clear track mark.0 is_regular.plain mark.1))
    | inr seen ↦ There seen.0 look.NoData seen.1 seen.2 refl
  ]
  cause_sees code.NotFound cause =
      let none = cause.not_found refl calm in
      Missing refl none.0 (λ p at. none.1 (p, clear_address track key.c key.h p key is_regular at))
  cause_sees code.BadCrc cause = let seen = cause.bad_data refl calm in There seen.0 look.BadCrc seen.1 seen.2 refl
  cause_sees code.Overrun cause = absurd (no_overrun bay old.counters new.counters calm goes (cause.overrun refl))
  cause_sees code.Seek cause = absurd (no_loss bay old.counters new.counters calm goes 77 (omega arith) (cause.lost refl))
  cause_sees _ cause = absurd cause.device

  pub drive_sees : (called : Result Bool Code) → ReadsDrive bay key address old called new → Sees track key called
  drive_sees (Ok deleted) drive = found_sees deleted drive.found
  drive_sees (Err c) drive = cause_sees c drive.refused.cause

-- ---- and memory

-- nothing changed but memory, which keeps its size
pub record Remembers (old new : StationState) : Type 0 where
  pub memory : List ℕ
  pub size : length memory ≡ user_bytes
  pub becomes : Becomes (record old { memory = memory }) new

length-bytes_at : (track : List ℕ) (place count : ℕ) → length (bytes_at track place count) ≡ count
length-bytes_at track place count = length-map-range_with_len (λ i. byte_at track (place + 16 * i)) 0 count

pub read_remembers : (bay : ℕ) (key : Chrn) (address : ℕ) (old new : StationState) (called : Result Bool Code) → length old.memory ≡ user_bytes → address + content_size key.n ≤ user_bytes → ReadsDrive bay key address old called new → Remembers old new
read_remembers bay key address old new (Ok deleted) size within drive =
    let read = drive.found in
    let sized : length read.content ≡ content_size key.n = ap length read.whole.content_is ∙ length-bytes_at (track_of read.disk read.cylinder key.h) (read.mark + 64) (content_size key.n) in
    record {
      memory = with_items old.memory address read.content;
      size = length-with_items old.memory address read.content (omega (arith, size, sized, within)) ∙ size;
      becomes = read.becomes;
    }
read_remembers bay key address old new (Err c) size within drive = record {
  memory = new.memory;
  size = drive.refused.memory.length ∙ size;
  becomes = drive.refused.becomes;
}
