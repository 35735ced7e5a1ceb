-- The two bays, of which a number names one.
use Rattle.std.proofs.Common.{◌≡◌, ◌∙◌, ℕ, Bool, true, false, true≢false, refl, ap, sym, List, length, subst, Option, Some, None, arith, ◌+◌, ◌<◌, inl, inr, Result, Ok, Err}
use Rattle.std.specs.Prelude.{◌==◌, not, if◌then◌else◌, is_some}
use Rattle.laws_program.proofs.Common.{Two, in_bay, with_bay, Bay, is_same_bay, option_map_or, Rate, Disk, IsDisk, HasTrack, track_of, user_bytes, IsRegular, IsRegularDisk, AreAlike, unrecorded, met_on, met_in, alike_itself, alike_tracks, by_met, on_there, on_nothing, nothing_unrecorded, StationState, Becomes, bay_of, set_bay, met, State, IsRegularIn, HasRegularDisks, last_count, RoseBy, Counters, GoesOn, IsUndisturbed, IsFaultless, DisturbedLess, FaultsRoseBy, FaultsRoseLess, spoilable, cases_eq, Chrn, KeepsTracks, Code, R500, R250, faults_of, IsAddressAt, clear_address, fresh_bay, HasClearStart, HasNoStart, IsAcknowledged, AcksDrive, reply_of}
use Rattle.laws_program.proofs.Shown.{ShowSame, show_itself, none_regular, none_show}
use Rattle.flop_base.proofs.Counted.{faults_go_on}
use Rattle.laws_program.proofs.CutTracks.{KeepsShown, written_show}

pub sorted : {P : Type 0} (b : Bool) → (b ≡ true → P) → (b ≡ false → P) → P
sorted true yes_ no_ = yes_ refl
sorted false yes_ no_ = no_ refl

-- what holds of both bays holds of each
pub each_bay : {A B : Type 0} (one : Two A) (two : Two B) (P : A → B → Type 0) (bay : ℕ) → P one.first two.first → P one.second two.second
    → P (in_bay one bay) (in_bay two bay)
each_bay one two P bay first second = go (bay == 0)
  where
    go : (b : Bool) → P (if b then one.first else one.second) (if b then two.first else two.second)
    go true = first
    go false = second

pub same_bay : {T : Type 0} (two : Two T) (at bay : ℕ) → is_same_bay at bay ≡ true → in_bay two at ≡ in_bay two bay
same_bay two at bay same = go (at == 0) (bay == 0) same
  where
    go : (s t : Bool) → (if s then t else not t) ≡ true → (if s then two.first else two.second) ≡ (if t then two.first else two.second)
    go true true e = refl
    go true false e = absurd (true≢false (sym e))
    go false true e = absurd (true≢false (sym e))
    go false false e = refl

pub other_bay : {T : Type 0} (two : Two T) (at bay : ℕ) (x : T) → is_same_bay at bay ≡ false → in_bay (with_bay two at x) bay ≡ in_bay two bay
other_bay two at bay x apart = go (at == 0) (bay == 0) apart
  where
    go : (s t : Bool) → (if s then t else not t) ≡ false
        → (if t then (if s then record two { first = x } else record two { second = x }).first
        else (if s then record two { first = x } else record two { second = x }).second) ≡ (if t then two.first else two.second)
    go true true e = absurd (true≢false e)
    go true false e = refl
    go false true e = refl
    go false false e = absurd (true≢false e)

pub in_with : {T : Type 0} (two : Two T) (bay : ℕ) (x : T) → in_bay (with_bay two bay x) bay ≡ x
in_with two bay x = go (bay == 0)
  where
    go : (b : Bool) → (if b then (if b then record two { first = x } else record two { second = x }).first
        else (if b then record two { first = x } else record two { second = x }).second) ≡ x
    go true = refl
    go false = refl

pub in_same : {T : Type 0} (two : Two T) (at bay : ℕ) (x : T) → is_same_bay at bay ≡ true → in_bay (with_bay two at x) bay ≡ x
in_same two at bay x same = sym (same_bay (with_bay two at x) at bay same) ∙ in_with two at x

-- a bay that was changed and still has its medium
pub kept_medium : (bays : Two Bay) (at bay : ℕ) (x : Bay) → x.medium ≡ (in_bay bays at).medium → (in_bay (with_bay bays at x) bay).medium ≡ (in_bay bays bay).medium
kept_medium bays at bay x is =
    sorted (is_same_bay at bay)
    (λ same. ap (λ (b : Bay). b.medium) (in_same bays at bay x same) ∙ is ∙ ap (λ (b : Bay). b.medium) (same_bay bays at bay same))
    (λ apart. ap (λ (b : Bay). b.medium) (other_bay bays at bay x apart))

-- ---- disks, bays and stations that differ only in contents

-- ---- disks

-- two disks of one shape whose tracks show the same
pub record AlikeDisks (one two : Disk) : Type 0 where
  pub valid : IsDisk one
  pub alike : AreAlike one two
  pub tracks : (c h : ℕ) → HasTrack one c h → ShowSame (track_of one c h) (track_of two c h)

pub disk_itself : (disk : Disk) → IsDisk disk → AlikeDisks disk disk
disk_itself disk valid = record { valid = valid; alike = alike_itself disk valid; tracks = λ c h has. show_itself (track_of disk c h) }

pub regular_too : (one two : Disk) → AlikeDisks one two → IsRegularDisk one → IsRegularDisk two
regular_too one two same regular c h has =
    let had = (alike_tracks one two c h same.alike).1 has in
    ((same.tracks c h had).regular c h).0 (regular c h had)

-- ---- media

abbrev pub AlikeMedia : Option Disk → Option Disk → Type 0
AlikeMedia None None = Unit {0}
AlikeMedia (Some one) (Some two) = AlikeDisks one two
AlikeMedia _ _ = ⊥

pub loaded_same : (one two : Option Disk) → AlikeMedia one two → is_some two ≡ is_some one
loaded_same None (Some two) same = absurd same
loaded_same (Some one) None same = absurd same
loaded_same _ _ same = refl

pub protected_same : (one two : Option Disk) → AlikeMedia one two → option_map_or (λ (d : Disk). d.protected) two false ≡ option_map_or (λ (d : Disk). d.protected) one false
protected_same None None same = refl
protected_same (Some one) (Some two) same = same.alike.protected
protected_same _ _ same = absurd same

some_one : (a b : Disk) → Some a ≡ Some b → a ≡ b
some_one a b e = cc e

none_some : (b : Disk) → None ≡ Some b → ⊥
none_some b e = cc e

pub regular_in_too : (one two : Option Disk) → AlikeMedia one two → IsRegularIn one → IsRegularIn two
regular_in_too None None same regular disk is = absurd (none_some disk is)
regular_in_too (Some one) (Some two) same regular disk is = subst IsRegularDisk (some_one two disk is) (regular_too one two same (regular one refl))
regular_in_too _ _ same regular disk is = absurd same

-- the tracks that are met on two alike media show the same
met_media : (one two : Option Disk) (rate : Rate) (c h : ℕ) → AlikeMedia one two → ShowSame (met_in one rate c h) (met_in two rate c h)
met_media None None rate c h same = show_itself (unrecorded 64)
met_media (Some one) (Some two) rate c h same =
    by_met one rate c h (λ track. ShowSame track (met_on two rate c h))
    (λ has is.
    let there = on_there two rate c h ((alike_tracks one two c h same.alike).0 has) (same.alike.rate ∙ is) in
    subst (λ (track : List ℕ). ShowSame (track_of one c h) track) (sym there) (same.tracks c h has))
    (λ none.
    none_show (unrecorded one.words_per_track) (met_on two rate c h) (nothing_unrecorded one.words_per_track)
    (on_nothing two rate c h (λ has is. none ((alike_tracks one two c h same.alike).1 has) (sym same.alike.rate ∙ is))))
met_media _ _ rate c h same = absurd same

-- a track that is met on a regular medium is regular
pub regular_met : (medium : Option Disk) (rate : Rate) (c h : ℕ) → IsRegularIn medium → IsRegular (met_in medium rate c h) c h
regular_met None rate c h regular = none_regular (unrecorded 64) c h (nothing_unrecorded 64)
regular_met (Some disk) rate c h regular =
    by_met disk rate c h (λ track. IsRegular track c h)
    (λ has is. regular disk refl c h has)
    (λ none. none_regular (unrecorded disk.words_per_track) c h (nothing_unrecorded disk.words_per_track))

-- ---- bays

pub record AlikeBays (one two : Bay) : Type 0 where
  pub media : AlikeMedia one.medium two.medium
  pub acknowledged : is_some two.acknowledged ≡ is_some one.acknowledged
  pub rate : two.rate ≡ one.rate

pub met_bays : (one two : Bay) (c h : ℕ) → AlikeBays one two → ShowSame (met one c h) (met two c h)
met_bays one two c h same =
    subst (λ (rate : Rate). ShowSame (met_in one.medium one.rate c h) (met_in two.medium rate c h)) (sym same.rate) (met_media one.medium two.medium one.rate c h same.media)

-- ---- stations

-- the parts of two stations on which answers depend
pub record AlikeParts (one : Two Bay) (memory : List ℕ) (spares : ℕ) (two : Two Bay) (other_memory : List ℕ) (other_spares : ℕ) : Type 0 where
  pub first : AlikeBays one.first two.first
  pub second : AlikeBays one.second two.second
  pub size : length memory ≡ user_bytes
  pub other_size : length other_memory ≡ user_bytes
  pub as_many : other_spares ≡ spares

abbrev pub AlikeStations : StationState → StationState → Type 0
AlikeStations one two = AlikeParts one.bays one.memory one.spares two.bays two.memory two.spares

pub bays_in : (one two : StationState) (bay : ℕ) → AlikeStations one two → AlikeBays (bay_of one bay) (bay_of two bay)
bays_in one two bay same = each_bay one.bays two.bays AlikeBays bay same.first same.second

pub set_same : (one two : StationState) (bay : ℕ) (a b : Bay) → AlikeStations one two → AlikeBays a b → AlikeStations (set_bay one bay a) (set_bay two bay b)
set_same one two bay a b same bays = go (bay == 0)
  where
    go : (t : Bool) → AlikeParts (if t then record one.bays { first = a } else record one.bays { second = a }) one.memory one.spares (if t then record two.bays { first = b } else record two.bays { second = b }) two.memory two.spares
    go true = record { first = bays; second = same.second; size = same.size; other_size = same.other_size; as_many = same.as_many }
    go false = record { first = same.first; second = bays; size = same.size; other_size = same.other_size; as_many = same.as_many }

-- alike stations stay alike with other memories of full size
pub memory_same : (one two : StationState) (memory other : List ℕ) → AlikeStations one two → length memory ≡ user_bytes → length other ≡ user_bytes → AlikeStations (record one { memory = memory }) (record two { memory = other })
memory_same one two memory other same size other_size = record {
  first = same.first;
  second = same.second;
  size = size;
  other_size = other_size;
  as_many = same.as_many;
}

pub becomes_same : (one two one_new two_new : StationState) → AlikeStations one two → Becomes one one_new → Becomes two two_new → AlikeStations one_new two_new
becomes_same one two one_new two_new same first second =
    subst (λ (s : StationState). AlikeStations one_new s) (sym second)
    (subst (λ (s : StationState). AlikeStations s (record two { counters = two_new.counters })) (sym first) same)

-- the disk in a bay is regular
pub regular_bay : (state : State) (bay : ℕ) → HasRegularDisks state → IsRegularIn (bay_of state.station bay).medium
regular_bay state bay regular =
    let bays = state.station.bays in
    each_bay bays bays (λ x y. IsRegularIn x.medium) bay regular.first regular.second

-- ---- calls that nothing disturbed

-- a call is undisturbed in any bay, if it is so in both
pub calm_bay : (bay : ℕ) (old new : Counters) → IsUndisturbed 0 old new → IsUndisturbed 1 old new → IsUndisturbed bay old new
calm_bay bay old new first second = record {
  faults = each_bay new.drives new.drives (λ drive other. drive.faults < last_count) bay first.faults second.faults;
  stalls = first.stalls;
  together = each_bay new.drives old.drives (λ drive was. drive.faults + new.stalls < was.faults + old.stalls + 1) bay first.together second.together;
}

module _ (bay : ℕ) (old new : Counters) (calm : IsUndisturbed bay old new) (goes : GoesOn old new) where
  pub no_faults : IsFaultless bay old new
  no_faults = let stalls = goes.stalls in (omega (arith, calm.together, stalls), calm.faults)

  pub few_faults : (n : ℕ) → 0 < n → FaultsRoseLess n bay old new
  few_faults n some = let stalls = goes.stalls in (omega (arith, calm.together, stalls, some), calm.faults)

  pub no_overrun : RoseBy 1 old.stalls new.stalls → ⊥
  no_overrun rose = omega (arith, rose, calm.stalls, calm.together, faults_go_on old new bay goes)

  pub no_loss : (n : ℕ) → 0 < n → FaultsRoseBy n bay old new → ⊥
  no_loss n some rose = let stalls = goes.stalls in omega (arith, rose, calm.faults, calm.together, stalls, some)

  pub disturbed_less : (tries : ℕ) → DisturbedLess (spoilable tries) bay old new
  disturbed_less tries = record { faults = calm.faults; stalls = calm.stalls; together = omega (arith, calm.together) }

-- ---- alike disks after a change of one track of both

module _ (one two one_after two_after : Disk) (c h : ℕ) (same : AlikeDisks one two) (first : KeepsTracks one c h one_after) (second : KeepsTracks two c h two_after) (here : HasTrack one c h → ShowSame (track_of one_after c h) (track_of two_after c h)) where
  elsewhere : (b g : ℕ) → HasTrack one b g → (b ≡ c → g ≡ h → ⊥) → ShowSame (track_of one_after b g) (track_of two_after b g)
  elsewhere b g had other =
      let had_too = (alike_tracks one two b g same.alike).0 had in
      subst (λ (t : List ℕ). ShowSame t (track_of two_after b g)) (sym (first.others b g had other))
      (subst (λ (t : List ℕ). ShowSame (track_of one b g) t) (sym (second.others b g had_too other)) (same.tracks b g had))

  at_place : (b g : ℕ) → b ≡ c → g ≡ h → HasTrack one b g → ShowSame (track_of one_after b g) (track_of two_after b g)
  at_place b g same_c same_h had =
      let at_c = subst (λ (k : ℕ). HasTrack one k g) same_c had in
      let at_h = subst (λ (k : ℕ). HasTrack one c k) same_h at_c in
      subst (λ (k : ℕ). ShowSame (track_of one_after k g) (track_of two_after k g)) (sym same_c)
      (subst (λ (k : ℕ). ShowSame (track_of one_after c k) (track_of two_after c k)) (sym same_h) (here at_h))

  each : (b g : ℕ) → HasTrack one_after b g → ShowSame (track_of one_after b g) (track_of two_after b g)
  each b g has =
      let had = (alike_tracks one one_after b g first.alike).1 has in
      elim (cases_eq b c) [
        | inl same_c ↦ elim (cases_eq g h) [
          | inl same_h ↦ at_place b g same_c same_h had
          | inr other ↦ elsewhere b g had (λ _ e. other e)
        ]
        | inr other ↦ elsewhere b g had (λ e _. other e)
      ]

  pub alike_after : AlikeDisks one_after two_after
  alike_after = record {
    valid = first.alike.valid;
    alike = record {
      valid = second.alike.valid;
      protected = second.alike.protected ∙ same.alike.protected ∙ sym first.alike.protected;
      cylinders = second.alike.cylinders ∙ same.alike.cylinders ∙ sym first.alike.cylinders;
      heads = second.alike.heads ∙ same.alike.heads ∙ sym first.alike.heads;
      rate = second.alike.rate ∙ same.alike.rate ∙ sym first.alike.rate;
      words_per_track = second.alike.words_per_track ∙ same.alike.words_per_track ∙ sym first.alike.words_per_track;
    };
    tracks = each;
  }

-- a track on which the key's field stands is regular for the key's place alone
at_key : (track : List ℕ) (key : Chrn) (b g : ℕ) → key.c ≡ b → key.h ≡ g → IsRegular track key.c key.h → IsRegular track b g
at_key track key b g c h regular = subst (λ (k : ℕ). IsRegular track b k) h (subst (λ (k : ℕ). IsRegular track k key.h) c regular)

-- both written over at one field of a key
pub over_both : (one two one_now two_now : List ℕ) (p : ℕ) (key : Chrn) (deleted : Bool) → ShowSame one two → KeepsShown one key.c key.h p key deleted one_now → KeepsShown two key.c key.h p key deleted two_now → ShowSame one_now two_now
over_both one two one_now two_now p key deleted same first second =
    written_show one two key.c key.h p key deleted one_now two_now same first second
    (λ b g. (
      λ is. at_key two_now key b g (is.keys.cylinder p key first.here) (is.keys.head p key first.here) second.still,
      λ is. at_key one_now key b g (is.keys.cylinder p key second.here) (is.keys.head p key second.here) first.still,
    ))

-- ---- what is in a bay

pub in_both : (m n : Option Disk) (d e : Disk) → m ≡ Some d → n ≡ Some e → AlikeMedia m n → AlikeDisks d e
in_both m n d e is is_too same =
    subst (λ (o : Option Disk). AlikeMedia (Some d) o) is_too (subst (λ (o : Option Disk). AlikeMedia o n) is same)

pub both_in : (m n : Option Disk) (d e : Disk) → m ≡ Some d → n ≡ Some e → AlikeDisks d e → AlikeMedia m n
both_in m n d e is is_too same =
    subst (λ (o : Option Disk). AlikeMedia o n) (sym is) (subst (λ (o : Option Disk). AlikeMedia (Some d) o) (sym is_too) same)

pub both_stay : (m n x y : Option Disk) → x ≡ m → y ≡ n → AlikeMedia m n → AlikeMedia x y
both_stay m n x y is is_too same =
    subst (λ (o : Option Disk). AlikeMedia o y) (sym is) (subst (λ (o : Option Disk). AlikeMedia m o) (sym is_too) same)

-- ---- two acknowledgements of alike bays: they are answered alike, and find the same rate

-- it can't be that one drive heard a rate on the track of cylinder 0 and head 0, and the other drive didn't
clash : (d e : Disk) → IsRegularDisk d → HasTrack d 0 0 → ((p : ℕ) (key : Chrn) → IsAddressAt (track_of e 0 0) p key → IsAddressAt (track_of d 0 0) p key) → d.rate ≡ e.rate → (r s : Rate) → r ≡ R500 → s ≡ R250 → (s ≡ R250 → e.rate ≡ R250) → (HasClearStart d → r ≡ d.rate) → (HasNoStart e → s ≡ R500) → ⊥
clash d e regular has back rates r s high low double told untold =
    let of_disk = double low in
    let none : (p : ℕ) (key : Chrn) → IsAddressAt (track_of d 0 0) p key → ⊥ = λ p key at. (let clear = clear_address (track_of d 0 0) 0 0 p key (regular 0 0 has) at in let heard = told (p, clear.clear, (key, at)) in cc (heard, high, rates, of_disk)) in
    let silent = untold (λ p at. none p at.0 (back p at.0 at.1)) in
    cc (silent, low)

one_rate : (r s : Rate) → (r ≡ R500 → s ≡ R250 → ⊥) → (s ≡ R500 → r ≡ R250 → ⊥) → s ≡ r
one_rate R500 R250 a b = absurd (a refl refl)
one_rate R250 R500 a b = absurd (b refl refl)
one_rate _ _ a b = refl

alone : (m n : Option Disk) (d : Disk) → m ≡ Some d → n ≡ None → AlikeMedia m n → ⊥
alone m n d is none same = subst (λ (o : Option Disk). AlikeMedia (Some d) o) none (subst (λ (o : Option Disk). AlikeMedia o n) is same)

alone_too : (m n : Option Disk) (d : Disk) → m ≡ None → n ≡ Some d → AlikeMedia m n → ⊥
alone_too m n d none is same = subst (λ (o : Option Disk). AlikeMedia None o) is (subst (λ (o : Option Disk). AlikeMedia o n) none same)

-- what two acknowledgements of alike bays leave: the same reply, and alike bays
pub record AckedAlike (bay : ℕ) (called called_too : Result (Unit {0}) Code) (one one_new two two_new : StationState) : Type 0 where
  pub replies : reply_of called_too ≡ reply_of called
  pub value : Bay
  pub other : Bay
  pub alike : AlikeBays value other
  pub first : Becomes (set_bay one bay value) one_new
  pub second : Becomes (set_bay two bay other) two_new

module _ (bay : ℕ) (one two one_new two_new : StationState) (same : AlikeBays (bay_of one bay) (bay_of two bay)) (regular : IsRegularIn (bay_of one bay).medium) (calm : IsUndisturbed bay one.counters one_new.counters) (goes : GoesOn one.counters one_new.counters) (calm_too : IsUndisturbed bay two.counters two_new.counters) (goes_too : GoesOn two.counters two_new.counters) where
  rates_alike : (a : IsAcknowledged bay one one_new) (b : IsAcknowledged bay two two_new) → AlikeDisks a.disk b.disk → b.rate ≡ a.rate
  rates_alike a b disks =
      let valid = disks.valid in
      let has : HasTrack a.disk 0 0 = (omega (arith, valid.cylinders.0), omega (arith, valid.heads.0)) in
      let had : HasTrack b.disk 0 0 = (omega (arith, has.0, disks.alike.cylinders), omega (arith, has.1, disks.alike.heads)) in
      let is = regular a.disk a.medium in
      let tracks = disks.tracks 0 0 has in
      let few = few_faults bay one.counters one_new.counters calm goes 3 (omega arith) in
      let few_too = few_faults bay two.counters two_new.counters calm_too goes_too 3 (omega arith) in
      one_rate a.rate b.rate
      (λ high low. clash a.disk b.disk is has (λ p key at. (tracks.addresses p key).1 at) (sym disks.alike.rate) a.rate b.rate high low b.double (a.told few) (b.untold few_too))
      (λ high low. clash b.disk a.disk (regular_too a.disk b.disk disks is) had (λ p key at. (tracks.addresses p key).0 at) disks.alike.rate b.rate a.rate high low a.double (b.told few_too) (a.untold few))

  done_done : (called called_too : Result (Unit {0}) Code) → reply_of called_too ≡ reply_of called → (a : IsAcknowledged bay one one_new) (b : IsAcknowledged bay two two_new) → AckedAlike bay called called_too one one_new two two_new
  done_done called called_too replies a b =
      let disks = in_both (bay_of one bay).medium (bay_of two bay).medium a.disk b.disk a.medium b.medium same.media in
      let value : Bay = record { medium = Some a.disk; acknowledged = Some (faults_of one_new.counters bay); rate = a.rate } in
      let other : Bay = record { medium = Some b.disk; acknowledged = Some (faults_of two_new.counters bay); rate = b.rate } in
      record {
        replies = replies;
        value = value;
        other = other;
        alike = record { media = disks; acknowledged = refl; rate = rates_alike a b disks };
        first = a.becomes;
        second = b.becomes;
      }

  pub acks_agree : (called called_too : Result (Unit {0}) Code) → AcksDrive bay one called one_new → AcksDrive bay two called_too two_new → AckedAlike bay called called_too one one_new two two_new
  acks_agree (Ok u) (Ok v) drive drive_too = done_done (Ok u) (Ok v) refl (drive.done refl) (drive_too.done refl)
  acks_agree (Ok u) (Err k) drive drive_too = absurd (elim drive_too.refused.cause [
    | inl none ↦ alone (bay_of one bay).medium (bay_of two bay).medium (drive.done refl).disk (drive.done refl).medium none same.media
    | inr rose ↦ no_loss bay two.counters two_new.counters calm_too goes_too 3 (omega arith) rose
  ])
  acks_agree (Err k) (Ok v) drive drive_too = absurd (elim drive.refused.cause [
    | inl none ↦ alone_too (bay_of one bay).medium (bay_of two bay).medium (drive_too.done refl).disk none (drive_too.done refl).medium same.media
    | inr rose ↦ no_loss bay one.counters one_new.counters calm goes 3 (omega arith) rose
  ])
  acks_agree (Err k) (Err j) drive drive_too =
      let first = drive.refused in
      let second = drive_too.refused in
      record {
        replies = ap (λ (c : Code). reply_of (Err c)) (second.unready ∙ sym first.unready);
        value = fresh_bay (bay_of one bay).medium;
        other = fresh_bay (bay_of two bay).medium;
        alike = record { media = same.media; acknowledged = refl; rate = refl };
        first = first.becomes;
        second = second.becomes;
      }
