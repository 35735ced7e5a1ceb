-- A blank disk is regular, since nothing is recorded on it.
use Rattle.std.proofs.Common.{arith, ◌≡◌, ◌∙◌, ◌+◌, ◌-◌, ◌*◌, take, replicate, ℕ, List, length, sym, ap, subst, inl, inr, ◌≢◌, ◌↔◌, ◌<◌, ◌≤◌, zero, suc, Bool, true, false, [], ◌∷◌, refl, Option, Some, Result, IsOk}
use Rattle.laws_commands.proofs.Common.{cases_lt, take_all, take-replicate, drop-replicate, length-replicate, words_at, Rate, track_of, IsRegular, IsRegularDisk, HasNothing, nothing_unrecorded, blank_of, HasLaidFields, list_all, Files, Chrn, Code, Disk, IsDisk, HasTrack, Two, with_bay, in_bay, user_bytes, bytes_from, Counters, IsFaultless, faults_of, IsAddressAt, IsLaid, HasFieldFor, IsTidy, written_laid, Entry, IsOnMap, KeepsTracks, key_of, alike_tracks, keeps_itself, keeps_both, Reply, write_refusal, StationState, Bay, bay_of, State, Does, IsDriverCall, reply_of, is_refusal, WritesDrive, WritesTo, written_from, Taken, DoesAll, record_address, write_record, write_records, copied_entry}
use Rattle.sector_map.specs.Met.{unrecorded}
use Rattle.std.specs.Prelude.{◌==◌, if◌then◌else◌}
use Rattle.laws_commands.proofs.Prepared.{in_with}
use Rattle.laws_commands.proofs.DiskRecords.{keys_from}
use Rattle.laws_commands.proofs.Steps.{NeverFell, begins, ends_there, step_never_fell, never_fell, keeps_drives, ok_called, reached, length-bytes_from}
use Rattle.laws_commands.proofs.WrittenHere.{WritesHere, writes_here}

-- a track on which nothing is recorded is regular
none_regular : (track : List ℕ) (c h : ℕ) → HasNothing track → IsRegular track c h
none_regular track c h none = record {
  plain = λ p mark. absurd (none.marks (p, mark));
  keys = record {
    distinct = λ p q key at other. absurd (none.addresses p key at);
    cylinder = λ p key at. absurd (none.addresses p key at);
    head = λ p key at. absurd (none.addresses p key at);
    coded = λ p key at. absurd (none.addresses p key at);
  };
  spans = record {
    inside = λ p key at. absurd (none.addresses p key at);
    apart = λ p q key other at next before. absurd (none.addresses p key at);
  };
  gaps = λ p q key at from below mark. absurd (none.addresses p key at);
  ends = λ p q key at from below mark. absurd (none.addresses p key at);
}

abbrev zeroes : ℕ → List ℕ
zeroes m = replicate m 0

some_zeroes : (w m : ℕ) → (k : ℕ) × (take w (zeroes m) ≡ unrecorded k)
unfolding unrecorded
some_zeroes w m =
    let long : length (zeroes m) ≡ m = length-replicate m 0 in
    elim (cases_lt m w) [
      | inl short ↦ (m, take_all w (zeroes m) (omega (arith, long)))
      | inr enough ↦ (w, take-replicate w m 0 (omega arith))
    ]

blank_nothing : (count : ℕ) (rate : Rate) (c h : ℕ) → HasNothing (track_of (blank_of count rate) c h)
blank_nothing count rate c h =
    let words = count * 2 * words_at rate in
    let start = (c * 2 + h) * words_at rate in
    let row = some_zeroes (words_at rate) (words - start) in
    let is : track_of (blank_of count rate) c h ≡ unrecorded row.0 = ap (λ (rest : List ℕ). take (words_at rate) rest) (drop-replicate start words 0) ∙ row.1 in
    subst HasNothing (sym is) (nothing_unrecorded row.0)

pub blank_regular : (count : ℕ) (rate : Rate) → IsRegularDisk (blank_of count rate)
blank_regular count rate c h has = none_regular (track_of (blank_of count rate) c h) c h (blank_nothing count rate c h)

-- a blank disk has no address field, so it has Laid fields
pub blank_fields : (count : ℕ) (rate : Rate) → HasLaidFields (blank_of count rate)
blank_fields count rate c h p key has address = absurd ((blank_nothing count rate c h).addresses p key address)

-- ---- writes of the records of a formatted track, in one bay

-- writes to Laid tracks are Tidy: they bring up no address mark, however short they stop
abbrev pub AllTidy : Type 0
AllTidy = (track : List ℕ) (p : ℕ) (deleted : Bool) (content : List ℕ) → IsLaid track → HasFieldFor track p content → IsTidy track p deleted content

-- ---- one bay of two

-- bay 0 stays when the other bay gets a value
pub first_stays : {T : Type 0} (two : Two T) (bay : ℕ) (value : T) → (bay == 0) ≡ false → in_bay (with_bay two bay value) 0 ≡ two.first
first_stays {T} two bay value other = rw other refl

-- the count of faults of a bay's drive didn't fall
pub fell_at : (bay : ℕ) (old new : Counters) → NeverFell old new → faults_of old bay ≤ faults_of new bay
fell_at bay old new fell = go (bay == 0)
  where
    go : (first : Bool) → (if first then old.drives.first else old.drives.second).faults ≤ (if first then new.drives.first else new.drives.second).faults
    go true = fell.first
    go false = fell.second

-- ---- one write

-- a write with either mark is a call of the driver
write_does : (bay : ℕ) (key : Chrn) (deleted : Bool) (old new : State) (told after : Option Files) (answer : Reply)
    → Does (write_record bay key deleted) old told answer new after
    → IsDriverCall old told new after × ((called : Result (Unit {0}) Code) × (answer ≡ reply_of called) × WritesTo bay key (record_address key.r) deleted old.station called new.station)
write_does bay key true old new told after answer does = does
write_does bay key false old new told after answer does = does

-- what the write of a record to a formatted track did to the disk in a bay
pub record WritesOne (bay : ℕ) (disk : Disk) (c h r : ℕ) (deleted : Bool) (old : State) (told : Option Files) (new : State) (after : Option Files) : Type 0 where
  pub next : Disk
  pub medium : (bay_of new.station bay).medium ≡ Some next
  pub bay_rate : (bay_of new.station bay).rate ≡ (bay_of old.station bay).rate
  pub keeps : KeepsTracks disk c h next
  pub regular : IsRegularDisk next
  pub laid : IsLaid (track_of next c h)
  pub others : (entry : Entry) → entry.key ≢ key_of c h r → IsOnMap disk entry ↔ IsOnMap next entry
  pub place : ℕ
  pub entry : IsOnMap next (copied_entry c h r place deleted (bytes_from old.station.memory (record_address r) 512))
  pub first : (bay == 0) ≡ false → bay_of new.station 0 ≡ bay_of old.station 0
  pub memory : new.station.memory ≡ old.station.memory
  pub names : new.names ≡ old.names
  pub files : after ≡ told

-- such a write is Tidy, so that the track then has its whole window
module _ (tidy : AllTidy) (bay c h r : ℕ) (deleted : Bool) (disk : Disk) (regular : IsRegularDisk disk) (has : HasTrack disk c h) (laid : IsLaid (track_of disk c h)) (p : ℕ) (address : IsAddressAt (track_of disk c h) p (key_of c h r)) (old new : StationState) (size : length old.memory ≡ user_bytes) (few : record_address r + 512 ≤ user_bytes) (called : Result (Unit {0}) Code) (drive : WritesDrive (written_from old (key_of c h r) (record_address r) deleted) bay old called new) (ok : IsOk called) (faultless : IsFaultless bay old.counters new.counters) (medium : (bay_of old bay).medium ≡ Some disk) (rate : (bay_of old bay).rate ≡ disk.rate) where
  abbrev content : List ℕ
  content = bytes_from old.memory (record_address r) 512

  field : HasFieldFor (track_of disk c h) p content
  field = (key_of c h r, record { address = address; size = length-bytes_from old.memory (record_address r) 512 (omega (arith, size)) })

  stands : WritesHere bay disk (key_of c h r) p (record_address r) deleted old new
  stands =
      writes_here bay (key_of c h r) (record_address r) deleted disk regular has p address old new
      (tidy (track_of disk c h) p deleted content laid field) called drive ok faultless medium rate

  still_laid : IsLaid (track_of stands.next c h)
  still_laid = subst IsLaid (sym stands.window) (written_laid (track_of disk c h) p deleted content laid field)

pub one_write : (tidy : AllTidy) (bay : ℕ) (disk : Disk) (c h r p : ℕ) (deleted : Bool) (old new : State) (told after : Option Files) (answer : Reply)
    → IsRegularDisk disk → HasTrack disk c h → IsLaid (track_of disk c h) → IsAddressAt (track_of disk c h) p (key_of c h r)
    → length old.station.memory ≡ user_bytes → record_address r + 512 ≤ user_bytes
    → Does (write_record bay (key_of c h r) deleted) old told answer new after → is_refusal answer ≡ false
    → IsFaultless bay old.station.counters new.station.counters → (bay_of old.station bay).medium ≡ Some disk
    → (bay_of old.station bay).rate ≡ disk.rate → WritesOne bay disk c h r deleted old told new after
one_write tidy bay disk c h r p deleted old new told after answer regular has laid address size few does done faultless medium rate =
    let call = write_does bay (key_of c h r) deleted old new told after answer does in
    let ok = ok_called call.1.0 answer call.1.1 done in
    let drive = reached (write_refusal old.station bay (key_of c h r) (record_address r)) call.1.0 old.station new.station call.1.2 ok in
    let kept : Bay = record (bay_of old.station bay) { medium = (bay_of new.station bay).medium } in
    let it = stands tidy bay c h r deleted disk regular has laid p address old.station new.station size few call.1.0 drive ok faultless medium rate in
    record {
      next = it.next;
      medium = it.medium;
      bay_rate = ap (λ (s : StationState). (bay_of s bay).rate) drive.becomes ∙ ap (λ (b : Bay). b.rate) (in_with old.station.bays bay kept);
      keeps = it.keeps;
      regular = it.regular;
      laid = still_laid tidy bay c h r deleted disk regular has laid p address old.station new.station size few call.1.0 drive ok faultless medium rate;
      others = it.others;
      place = p;
      entry = it.entry;
      first = λ other. ap (λ (s : StationState). bay_of s 0) drive.becomes ∙ first_stays old.station.bays bay kept other;
      memory = ap (λ (s : StationState). s.memory) drive.becomes;
      names = call.0.names;
      files = call.0.files;
    }

-- ---- the records of a track

-- the disk has each record from a on, with its mark and with what is at its place in memory
abbrev pub AreCopied : Disk → List ℕ → ℕ → ℕ → ℕ → List Bool → Type 0
AreCopied disk memory c h a [] = Unit {0}
AreCopied disk memory c h a (deleted ∷ marks) =
    ((place : ℕ) × IsOnMap disk (copied_entry c h a place deleted (bytes_from memory (record_address a) 512)))
    × AreCopied disk memory c h (a + 1) marks

-- the disk has some sector under the key
abbrev pub HasSome : Disk → ℕ → ℕ → ℕ → Type 0
HasSome disk c h r = (place : ℕ) × (deleted : Bool) × (content : List ℕ) × IsOnMap disk (copied_entry c h r place deleted content)

-- what the writes of the records from a on, with these marks, did to the disk in a bay
pub record WritesAll (bay : ℕ) (disk : Disk) (c h a : ℕ) (marks : List Bool) (old : State) (told : Option Files) (new : State) (after : Option Files) : Type 0 where
  pub final : Disk
  pub medium : (bay_of new.station bay).medium ≡ Some final
  pub bay_rate : (bay_of new.station bay).rate ≡ (bay_of old.station bay).rate
  pub keeps : KeepsTracks disk c h final
  pub regular : IsRegularDisk final
  pub laid : IsLaid (track_of final c h)
  pub kept : (entry : Entry) → ((r : ℕ) → a ≤ r → entry.key ≢ key_of c h r) → IsOnMap disk entry → IsOnMap final entry
  pub copied : AreCopied final old.station.memory c h a marks
  pub first : (bay == 0) ≡ false → bay_of new.station 0 ≡ bay_of old.station 0
  pub memory : new.station.memory ≡ old.station.memory
  pub names : new.names ≡ old.names
  pub files : after ≡ told

write_keeps : (bay : ℕ) (key : Chrn) (deleted : Bool) → keeps_drives (write_record bay key deleted) ≡ true
write_keeps bay key true = refl
write_keeps bay key false = refl

pub writes_keep : (bay : ℕ) (keys : List Chrn) (marks : List Bool) → list_all keeps_drives (write_records bay keys marks) ≡ true
writes_keep bay (key ∷ keys) (deleted ∷ marks) = let first = write_keeps bay key deleted in rw first (writes_keep bay keys marks)
writes_keep bay _ _ = refl

other_key : (c h r s : ℕ) → (r ≡ s → ⊥) → key_of c h r ≢ key_of c h s
other_key c h r s differ e = differ (ap (λ (k : Chrn). k.r) e)

pub all_writes : (tidy : AllTidy) (bay : ℕ) (disk : Disk) (c h a n : ℕ) (marks : List Bool) (old new : State) (told after : Option Files)
    (course : List Taken)
    → DoesAll (write_records bay (keys_from c h a n) marks) old told course new after → length marks ≡ n → 1 ≤ a → a + n ≤ 19
    → ((r : ℕ) → a ≤ r → r < a + n → HasSome disk c h r) → IsDisk disk → IsRegularDisk disk → HasTrack disk c h → IsLaid (track_of disk c h)
    → length old.station.memory ≡ user_bytes → IsFaultless bay old.station.counters new.station.counters → (bay_of old.station bay).medium ≡ Some disk
    → (bay_of old.station bay).rate ≡ disk.rate → WritesAll bay disk c h a marks old told new after
all_writes tidy bay disk c h a zero [] old new told after course all count least most there valid regular has laid size faultless medium rate =
    let same = ends_there old new told after course all in
    record {
      final = disk;
      medium = ap (λ (s : State). (bay_of s.station bay).medium) same.0 ∙ medium;
      bay_rate = ap (λ (s : State). (bay_of s.station bay).rate) same.0;
      keeps = keeps_itself disk c h valid;
      regular = regular;
      laid = laid;
      kept = λ entry other on. on;
      copied = tt;
      first = λ other. ap (λ (s : State). bay_of s.station 0) same.0;
      memory = ap (λ (s : State). s.station.memory) same.0;
      names = ap (λ (s : State). s.names) same.0;
      files = same.1;
    }
all_writes tidy bay disk c h a (suc n) (deleted ∷ marks) old new told after course all count least most there valid regular has laid size faultless medium rate =
    let asked = write_record bay (key_of c h a) deleted in
    let rest_asked = write_records bay (keys_from c h (a + 1) n) marks in
    let first = begins old new told after asked rest_asked course all in
    let here = step_never_fell old first.mid told first.files asked first.answer first.step (write_keeps bay (key_of c h a) deleted) in
    let later = never_fell first.mid new first.files after rest_asked first.later first.behind (writes_keep bay (keys_from c h (a + 1) n) marks) in
    let some = there a (omega arith) (omega arith) in
    let fell = fell_at bay old.station.counters first.mid.station.counters here in
    let fell_later = fell_at bay first.mid.station.counters new.station.counters later in
    let one = one_write tidy bay disk c h a some.0 deleted old first.mid told first.files first.answer regular has laid some.3.address size (omega arith) first.does first.done (omega (arith, fell, fell_later, faultless.0), omega (arith, fell_later, faultless.1)) medium rate in
    let has_next = (alike_tracks disk one.next c h one.keeps.alike).0 has in
    let next_there = λ (r : ℕ) (from : a + 1 ≤ r) (below : r < a + 1 + n).
    let had = there r (omega arith) (omega arith) in
    let differ : r ≡ a → ⊥ = λ e. absurd (omega arith) in
    let still : HasSome one.next c h r = (had.0, had.1, had.2, (one.others (copied_entry c h r had.0 had.1 had.2) (other_key c h r a differ)).0 had.3) in
    still in
    let rest = all_writes tidy bay one.next c h (a + 1) n marks first.mid new first.files after first.later first.behind (omega arith) (omega arith) (omega arith) next_there one.keeps.alike.valid one.regular has_next one.laid (ap length one.memory ∙ size) (omega (arith, fell, faultless.0), faultless.1) one.medium (one.bay_rate ∙ rate ∙ sym one.keeps.alike.rate) in
    let copied = rest.kept (copied_entry c h a one.place deleted (bytes_from old.station.memory (record_address a) 512)) (λ r from e. other_key c h a r (λ same. absurd (omega arith)) e) one.entry in
    record {
      final = rest.final;
      medium = rest.medium;
      bay_rate = rest.bay_rate ∙ one.bay_rate;
      keeps = keeps_both disk one.next rest.final c h one.keeps rest.keeps;
      regular = rest.regular;
      laid = rest.laid;
      kept = λ entry other on. rest.kept entry (λ r from. other r (omega arith)) ((one.others entry (other a (omega arith))).0 on);
      copied = ((one.place, copied), subst (λ (m : List ℕ). AreCopied rest.final m c h (a + 1) marks) one.memory rest.copied);
      first = λ other. rest.first other ∙ one.first other;
      memory = rest.memory ∙ one.memory;
      names = rest.names ∙ one.names;
      files = rest.files ∙ one.files;
    }
all_writes tidy bay disk c h a _ _ old new told after course all count least most there valid regular has laid size faultless medium rate = absurd (omega (arith, count))
