-- Parts of a rescue that go to their end when nothing disturbs them: the formats of a new disk, and the records.
use Rattle.std.proofs.Common.{arith, ◌≡◌, ◌∙◌, ◌-◌, ◌<◌, ◌≤◌, ℕ, Bool, true, false, true≢false, List, [], ◌∷◌, ◌++◌, refl, sym, ap, subst, inl, inr, Option, Some, None}
use Rattle.std.specs.Prelude.{◌⊎◌, IsSomeAnd}
use Rattle.laws_commands.proofs.Common.{AllByRecursion, cases_eq, le-ltb, Files, file_at, sectors_at, standard_code, Chrn, Disk, HasTrack, track_of, Two, in_bay, IsAddressAt, content_at, LookAt, Found, Request, IsRegularDisk, KeepsTracks, key_of, alike_tracks, Reply, Bay, is_refusal, Taken, has_refusal, Script, carries, read_of, write_of, outcome_status, LogLine, IsLogFound, outcome_of, Track, format_each, IsNotStopped}
use Rattle.commands.specs.Parts.{may_starve, through}
use Rattle.disk_commands.specs.Rescue.{follows, does_next, rescues, stores_log}
use Rattle.laws_commands.proofs.Steps.{or_false, Among}
use Rattle.laws_commands.proofs.Written.{HasSome}
use Rattle.laws_commands.proofs.Gone.{carries_all}
use Rattle.laws_commands.proofs.Bays.{IsReadyFor, ready_still, eject_goes}
use Rattle.laws_commands.proofs.Going.{Stage, IsDone, GoesWell, PartGoes, goes_asks, goes_carries}
use Rattle.laws_commands.proofs.SectorRequests.{HasRecords, MakesAlone, ReadsAlone, HasData, WritesInto, stands_read, format_leads, some_still, write_to, stands_written}
use Rattle.laws_commands.proofs.CommandEnds.{IsCopying}
use Rattle.laws_commands.proofs.Verified.{key_is}
use Rattle.flop_base.specs.declared.answers.Status.TheVariants as status
use Rattle.floppy_jobs.specs.declared.request.Request.TheVariants as request
use Rattle.sector_model.specs.declared.reply.Reply.TheVariants as reply

-- ---- The formats of a new disk.

module _ (disk : Disk) (few_heads : disk.heads ≤ 2) where
  abbrev sectors : ℕ
  sectors = sectors_at disk.rate

  -- a disk has each record on all tracks of the first disk, besides these tracks
  abbrev pub HasRecordsBut : List Track → Disk → Type 0
  HasRecordsBut left made = (c h : ℕ) → c < disk.cylinders → h < disk.heads → Among left c h ⊎ HasRecords sectors c h made

  -- a record stays when another track is laid
  record_stays : (made next : Disk) (b g : ℕ) → KeepsTracks made b g next → (c h r : ℕ) → (c ≡ b → h ≡ g → ⊥) → HasSome made c h r → HasSome next c h r
  record_stays made next b g keeps c h r other had =
      let on = had.3 in
      let same = keeps.others c h on.track other in (
        had.0,
        had.1,
        had.2,
        record {
          track = (alike_tracks made next c h keeps.alike).0 on.track;
          address = subst (λ (t : List ℕ). IsAddressAt t had.0 (key_of c h r)) (sym same) on.address;
          content = subst
              (λ (t : List ℕ). (place : ℕ) × LookAt t had.0 2 (Found had.1 place) × (had.2 ≡ content_at t place 2)) (sym same) on.content;
        },
      )

  module _ (b g : ℕ) (later : List Track) (made next : Disk) (keeps : KeepsTracks made b g next) (records : HasRecords sectors b g next)
      (before : HasRecordsBut ((b, g) ∷ later) made) where
    elsewhere : (c h : ℕ) → c < disk.cylinders → h < disk.heads → (c ≡ b → h ≡ g → ⊥) → Among later c h ⊎ HasRecords sectors c h next
    elsewhere c h cylinder head other = elim (before c h cylinder head) [
      | inl (inl here) ↦ absurd (other (sym here.0) (sym here.1))
      | inl (inr among) ↦ inl among
      | inr had ↦ inr (λ r least most. record_stays made next b g keeps c h r other (had r least most))
    ]

    formats_lead : HasRecordsBut later next
    formats_lead c h cylinder head = elim (cases_eq c b) [
      | inr other ↦ elsewhere c h cylinder head (λ e _. other e)
      | inl same_c ↦ elim (cases_eq h g) [
        | inr other ↦ elsewhere c h cylinder head (λ _ e. other e)
        | inl same_h ↦
            let at_c = subst (λ (k : ℕ). HasRecords sectors k g next) (sym same_c) records in
            inr (subst (λ (k : ℕ). HasRecords sectors c k next) (sym same_h) at_c)
      ]
    ]

  pub formats_go : (tracks : List Track) (rest : Script) (old : Stage) → ((c h : ℕ) → Among tracks c h → (c < disk.cylinders) × (h < disk.heads))
      → IsCopying disk (HasRecordsBut tracks) old → ((new : Stage) → IsCopying disk (HasRecordsBut []) new → GoesWell rest new)
      → GoesWell (carries_all (format_each 1 tracks) rest) old
  formats_go [] rest old within copying behind = behind old copying
  formats_go (track ∷ tracks) rest old within copying behind =
      let c = track.0 in
      let h = track.1 in
      let on = within c h (inl (refl, refl)) in
      goes_carries (λ new. MakesAlone 1 0 disk.rate disk.cylinders (HasRecordsBut tracks) old new) (request.Format 1 c h) _ old
      (format_leads 1 0 disk.rate disk.cylinders c h refl (λ station value. refl) on.0 (omega (arith, on.1, few_heads))
      (HasRecordsBut (track ∷ tracks)) (HasRecordsBut tracks) (λ made next keeps records before. formats_lead c h tracks made next keeps records before)
      old copying.second)
      (λ new alone.
      formats_go tracks rest new (λ b g among. within b g (inr among))
      (record { first = ready_still 0 disk old.state.station new.state.station alone.same copying.first; second = alone.made }) behind)

-- ---- The records.

-- Bay 0 has the source. Bay 1 has a disk that can be written, with each record that `begun` has.
pub record IsSaving (source begun : Disk) (stage : Stage) : Type 0 where
  pub first : IsReadyFor 0 source stage.state.station
  pub now : Disk
  pub second : IsReadyFor 1 now stage.state.station
  pub bare : now.protected ≡ false
  pub regular : IsRegularDisk now
  pub kept : (c h r : ℕ) → HasSome begun c h r → HasSome now c h r

-- the record is on the source, and the other disk has some record under its key
pub record StandsOnBoth (source begun : Disk) (key : Chrn) : Type 0 where
  pub size : key.n ≡ standard_code
  pub track : HasTrack source key.c key.h
  pub least : 1 ≤ key.r
  pub field : HasData (track_of source key.c key.h) key
  pub other : HasSome begun key.c key.h key.r

write_is : (key : Chrn) (deleted : Bool) → write_to 1 deleted key 0x10000 ≡ write_of key deleted
write_is key true = refl
write_is key false = refl

module _ (source begun : Disk) (regular : IsRegularDisk source) (few_cylinders : source.cylinders ≤ 80) (few_heads : source.heads ≤ 2) where
  -- the records are being saved, and the new log is empty so far
  abbrev IsRescuing : List LogLine → Stage → Type 0
  IsRescuing lines stage = (lines ≡ []) × IsSaving source begun stage

  -- a read that wasn't refused is followed by the write
  follows_goes : (key : Chrn) (answer : Reply) (rest : List LogLine → Script) (stage : Stage) → is_refusal answer ≡ false
      → ((deleted : Bool) → GoesWell (carries (write_of key deleted) (λ none. rest [])) stage) → GoesWell (follows key answer [] rest) stage
  unfolding follows does_next
  follows_goes key (reply.Refused cause) rest stage fine goes = absurd (true≢false fine)
  follows_goes key reply.DoneDeleted rest stage fine goes = goes true
  follows_goes key _ rest stage fine goes = goes false

  write_goes : (key : Chrn) (deleted : Bool) (old : Stage) → StandsOnBoth source begun key → (saving : IsSaving source begun old)
      → IsDone (λ new. WritesInto 1 0 saving.now key.c key.h key.r old new) (write_of key deleted) old
  write_goes key deleted old stands saving =
      let c = key.c in
      let h = key.h in
      let r = key.r in
      let same = ap (λ (k : Chrn). write_to 1 deleted k 0x10000) (sym (key_is key stands.size)) ∙ write_is key deleted in
      subst (λ (q : Request). IsDone (λ new. WritesInto 1 0 saving.now c h r old new) q old) same
      (stands_written 1 0 saving.now c h r 1 deleted refl (λ station value. refl) (omega (arith, stands.track.0, few_cylinders))
      (omega (arith, stands.track.1, few_heads)) stands.least (omega arith) (omega arith) (saving.kept c h r stands.other) saving.bare saving.regular
      old saving.second)

  key_goes : (key : Chrn) (old : Stage) → StandsOnBoth source begun key → IsSaving source begun old → PartGoes IsRescuing (rescues key []) old
  unfolding rescues
  key_goes key old stands saving rest behind =
      let field = subst (λ (k : Chrn). HasData (track_of source key.c key.h) k) (key_is key stands.size) stands.field in
      let reads = stands_read source key.c key.h key.r 1 old regular few_cylinders few_heads stands.track stands.least field
      (omega arith) (omega arith) saving.first in
      let done = subst (λ (k : Chrn). IsDone (λ new. ReadsAlone source old new) (read_of k) old) (sym (key_is key stands.size)) reads in
      goes_asks (λ new. ReadsAlone source old new) (read_of key) _ old done
      (λ answer mid fine alone.
      let at_mid : IsSaving source begun mid = record {
        first = alone.ready;
        now = saving.now;
        second = ready_still 1 saving.now old.state.station mid.state.station (ap (λ (bays : Two Bay). in_bay bays 1) alone.same) saving.second;
        bare = saving.bare;
        regular = saving.regular;
        kept = saving.kept;
      } in
      follows_goes key answer rest mid fine (λ deleted.
      goes_carries (λ new. WritesInto 1 0 saving.now key.c key.h key.r mid new) (write_of key deleted) _ mid (write_goes key deleted mid stands at_mid)
      (λ new wrote.
      behind [] new (
        refl,
        record {
          first = ready_still 0 source mid.state.station new.state.station wrote.same at_mid.first;
          now = wrote.next;
          second = wrote.ready;
          bare = wrote.keeps.alike.protected ∙ saving.bare;
          regular = wrote.regular;
          kept = λ c h r had. some_still saving.now wrote.next key.c key.h key.r wrote.records c h r (saving.kept c h r had);
        },
      ))))

  keys_go : (keys : List Chrn) (old : Stage) → AllByRecursion (StandsOnBoth source begun) keys → IsSaving source begun old
      → PartGoes IsRescuing (through rescues keys []) old
  unfolding through
  keys_go [] old all saving rest behind = behind [] old (refl, saving)
  keys_go (key ∷ keys) old all saving rest behind =
      key_goes key old all.0 saving (λ now. through rescues keys now rest)
      (λ lines mid there.
      subst (λ (row : List LogLine). GoesWell (through rescues keys row rest) mid) (sym there.0) (keys_go keys mid all.1 there.1 rest behind))

  -- ---- The end.

  ends_all : (asked : ℕ) → outcome_status (outcome_of asked []) ≡ status.AllOk
  ends_all asked = rw (le-ltb (asked - 0) asked (omega arith)) refl

  stores_goes : (log : List ℕ) (asked : ℕ) (stage : Stage) → GoesWell (stores_log log asked []) stage
  unfolding stores_log may_starve
  stores_goes log asked stage = ends_all asked

  -- the records go well, and so does what comes after them
  pub records_go : (log : List ℕ) (asked : ℕ) (keys : List Chrn) (old : Stage) → AllByRecursion (StandsOnBoth source begun) keys → IsSaving source begun old
      → GoesWell (through rescues keys [] (λ lines. carries (request.Eject 1) (λ still. stores_log log asked lines))) old
  records_go log asked keys old all saving =
      keys_go keys old all saving _ (λ lines stage there.
      let now = there.1 in
      subst (λ (row : List LogLine). GoesWell (carries (request.Eject 1) (λ still. stores_log log asked row)) stage) (sym there.0)
      (eject_goes 1 now.now (λ still. stores_log log asked []) stage refl now.second.medium (λ new. stores_goes log asked new)))

-- ---- The courses.

last_fine : (before : List Taken) (last : Taken) → has_refusal (before ++ last ∷ []) ≡ false → is_refusal last.answer ≡ false
last_fine [] last fine = (or_false (is_refusal last.answer) false fine).0
last_fine (taken ∷ before) last fine = last_fine before last (or_false (is_refusal taken.answer) (has_refusal (before ++ last ∷ [])) fine).1

-- a run in which no request was refused wasn't stopped by a refusal
pub unstopped : (course : List Taken) → has_refusal course ≡ false → IsNotStopped course
unstopped course fine before last is = last_fine before last (subst (λ (row : List Taken). has_refusal row ≡ false) is fine)

-- if no file has this name, no log is found under it
pub none_found : (files : Files) (log : List ℕ) (count : ℕ) (lines : List LogLine) → file_at files log ≡ None → IsLogFound (Some files) log count (Some lines) → ⊥
none_found files log count lines absent found = go _ (file_at files log) absent found
  where
    go : (Such : List ℕ → Type 0) (o : Option (List ℕ)) → o ≡ None → IsSomeAnd o Such → ⊥
    go Such None absent some = some
    go Such (Some bytes) absent some = absurd (cc absent)
