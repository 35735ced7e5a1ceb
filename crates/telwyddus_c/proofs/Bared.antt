-- A controller whose media are out of its bays, and back.
use Rattle.std.proofs.Common.{◌≡◌, ◌⊎◌, ℕ, ◌==◌, Bool, true, false, ◌&&◌, List, [], refl, sym, ◌∙◌, ap, subst, inl, inr}
use Rattle.std.specs.Prelude.{Option, Some, None, Result, Ok, Err, IfOk, MatchBool, if◌then◌else◌}
use Rattle.telwyddus_c.proofs.Common.{eqb-true, eq-eqb, and_from, Disk, same_length, DisketteAdapter, chip_with_drive, Chip, bay_state, BayDrive, ControllerValue, stand_in_for, same_rate, alike, media_alike, medium_in, spelled_bare, BareBytes, HasMedium, HasMedia, IsBared, IsRefilled, RestoresBare, with_writes_at, with_writes_of, held, ControllerFits}
use mathlib.Core.Bool.{false≢true}
use Rattle.flop_base.specs.declared.answers.Rate.{Rate}
use Rattle.flop_base.specs.declared.answers.Rate.TheVariants.{R500, R250}
use Rattle.c_bay_drive.specs.Joined.{with_writes}
use Rattle.c_bay_drive.specs.WithMedium.{BayWithMedium}
use Rattle.c_bay_drive.proofs.Exchanges.{one_bay, stays_bay, back_bay, medium_in_bay}
use Rattle.c_bay_drive.proofs.Joining.{writes_same}

-- ---- media that are alike

and_first : (a b : Bool) → (a && b) ≡ true → a ≡ true
and_first true b both = refl
and_first false b both = absurd (false≢true both)

and_second : (a b : Bool) → (a && b) ≡ true → b ≡ true
and_second true b both = both
and_second false b both = absurd (false≢true both)

same_as_itself : (rate : Rate) → same_rate rate rate ≡ true
same_as_itself R500 = refl
same_as_itself R250 = refl

pub alike_stand_in : (medium : Option Disk) → alike medium (stand_in_for medium) ≡ true
alike_stand_in None = refl
alike_stand_in (Some disk) = and_from _ _ (eq-eqb disk.words_per_track disk.words_per_track refl) (same_as_itself disk.rate)

-- the tracks of media that are alike are as long as each other
disk_length : (disk : Disk) (other : Option Disk) → alike (Some disk) other ≡ true → same_length disk other ≡ true
disk_length disk None is = absurd (false≢true is)
disk_length disk (Some other) is = and_first (other.words_per_track == disk.words_per_track) (same_rate disk.rate other.rate) is

pub alike_length : (medium : Option Disk) (disk : Disk) (other : Option Disk) → medium ≡ Some disk → alike medium other ≡ true
    → same_length disk other ≡ true
alike_length medium disk other some is = disk_length disk other (subst (λ (it : Option Disk). alike it other ≡ true) some is)

-- no medium is alike only to no medium
none_alike : (other : Option Disk) → alike None other ≡ true → other ≡ None
none_alike None is = refl
none_alike (Some other) is = absurd (false≢true is)

pub alike_none : (medium other : Option Disk) → medium ≡ None → alike medium other ≡ true → other ≡ None
alike_none medium other none is = none_alike other (subst (λ (it : Option Disk). alike it other ≡ true) none is)

-- ---- a drive in a bay

abbrev adapter_with : (first : Bool) → BayDrive → DisketteAdapter BayDrive → DisketteAdapter BayDrive
adapter_with first drive adapter = if first then record adapter { first = drive } else record adapter { second = drive }

abbrev drive_on : (first : Bool) → DisketteAdapter BayDrive → BayDrive
drive_on first adapter = if first then adapter.first else adapter.second

abbrev on_adapter : Chip BayDrive → DisketteAdapter BayDrive → ControllerValue
on_adapter chip adapter = record chip { behind = record chip.behind { adapter = adapter } }

adapter_again : (first : Bool) (drive : BayDrive) (adapter : DisketteAdapter BayDrive) → adapter_with first (drive_on first adapter) (adapter_with first drive adapter) ≡ adapter
adapter_again true drive adapter = refl
adapter_again false drive adapter = refl

adapter_itself : (first : Bool) (adapter : DisketteAdapter BayDrive) → adapter ≡ adapter_with first (drive_on first adapter) adapter
adapter_itself true adapter = refl
adapter_itself false adapter = refl

adapter_twice : (first : Bool) (one other : BayDrive) (adapter : DisketteAdapter BayDrive) → adapter_with first other (adapter_with first one adapter) ≡ adapter_with first other adapter
adapter_twice true one other adapter = refl
adapter_twice false one other adapter = refl

-- if one drive is put into a bay and then another, the second one is there
with_twice : (bay : ℕ) (one other : BayDrive) (c : ControllerValue) → chip_with_drive bay other (chip_with_drive bay one c) ≡ chip_with_drive bay other c
with_twice bay one other c = ap (on_adapter c) (adapter_twice (bay == 0) one other c.behind.adapter)

-- the drive that was there is put back
with_again : (bay : ℕ) (drive : BayDrive) (c : ControllerValue) → chip_with_drive bay (held c bay) (chip_with_drive bay drive c) ≡ c
with_again bay drive c = ap (on_adapter c) (adapter_again (bay == 0) drive c.behind.adapter)

with_itself : (bay : ℕ) (c : ControllerValue) → c ≡ chip_with_drive bay (held c bay) c
with_itself bay c = ap (on_adapter c) (adapter_itself (bay == 0) c.behind.adapter)

-- ---- a medium in a bay

-- the medium that is in stays
pub own_stays : (medium : Option Disk) (bay : ℕ) (c : ControllerValue) → medium_in c bay ≡ medium → HasMedium medium bay c c
own_stays medium bay c own = record {
  drive = subst (λ (it : Option Disk). BayWithMedium it (held c bay) (held c bay)) own (stays_bay (held c bay));
  whole = with_itself bay c;
}

-- a drive is taken out of a bay, has another medium in, and is put back
pub exchanged_there : (bay : ℕ) (medium : Option Disk) (spare before after : BayDrive) (old between new : ControllerValue)
    → before ≡ held old bay → BayWithMedium medium before after → held new bay ≡ after
    → between ≡ chip_with_drive bay spare old → new ≡ chip_with_drive bay after between → HasMedium medium bay old new
exchanged_there bay medium spare before after old between new taken exchanged put out back = record {
  drive = subst (λ (drive : BayDrive). BayWithMedium medium drive (held new bay)) taken
      (subst (λ (drive : BayDrive). BayWithMedium medium before drive) (sym put) exchanged);
  whole =
      back
      ∙ ap (λ (c : ControllerValue). chip_with_drive bay after c) out
      ∙ with_twice bay spare after old
      ∙ ap (λ (drive : BayDrive). chip_with_drive bay drive old) (sym put);
}

-- the medium that was there is put back
pub put_back : (medium : Option Disk) (bay : ℕ) (old between new : ControllerValue) → HasMedium medium bay old between
    → HasMedium (medium_in old bay) bay between new → new ≡ old
put_back medium bay old between new out back =
    let there : held new bay ≡ held old bay = one_bay (medium_in old bay) (held between bay) (held old bay) (held new bay)
    (back_bay medium (held old bay) (held between bay) out.drive) back.drive in
    back.whole
    ∙ ap (λ (drive : BayDrive). chip_with_drive bay drive between) there
    ∙ ap (λ (c : ControllerValue). chip_with_drive bay (held old bay) c) out.whole
    ∙ with_again bay (held between bay) old

pub back_again : (bay : ℕ) (old between new : ControllerValue) (out : Option Disk) → out ≡ medium_in old bay
    → HasMedium (stand_in_for (medium_in old bay)) bay old between → HasMedium out bay between new → new ≡ old
back_again bay old between new out is it back =
    put_back (stand_in_for (medium_in old bay)) bay old between new it (subst (λ (medium : Option Disk). HasMedium medium bay between new) is back)

-- ---- both bays

pub second_stays : (medium : Option Disk) (old new : ControllerValue) → HasMedium medium 0 old new → held new 1 ≡ held old 1
second_stays medium old new it = ap (λ (c : ControllerValue). held c 1) it.whole

pub second_medium_stays : (medium : Option Disk) (old new : ControllerValue) → HasMedium medium 0 old new → medium_in new 1 ≡ medium_in old 1
second_medium_stays medium old new it = ap (λ (drive : BayDrive). (bay_state drive).medium) (second_stays medium old new it)

pub both_bays : (first second : Option Disk) (old between new : ControllerValue) → HasMedium first 0 old between → HasMedium second 1 between new
    → HasMedia first second old new
both_bays first second old between new one two =
    let there : held new 0 ≡ held between 0 = ap (λ (c : ControllerValue). held c 0) two.whole in
    record {
      first_drive = subst (λ (drive : BayDrive). BayWithMedium first (held old 0) drive) (sym there) one.drive;
      second_drive = subst (λ (drive : BayDrive). BayWithMedium second drive (held new 1)) (second_stays first old between one) two.drive;
      whole =
          two.whole
          ∙ ap (λ (c : ControllerValue). chip_with_drive 1 (held new 1) c) one.whole
          ∙ ap (λ (drive : BayDrive). chip_with_drive 1 (held new 1) (chip_with_drive 0 drive old)) (sym there);
    }

-- first bay 0 gets its stand-in, then bay 1
bared_both : (old between bare : ControllerValue) → HasMedium (stand_in_for (medium_in old 0)) 0 old between
    → HasMedium (stand_in_for (medium_in between 1)) 1 between bare → IsBared old bare
bared_both old between bare one two =
    both_bays (stand_in_for (medium_in old 0)) (stand_in_for (medium_in old 1)) old between bare one
    (subst (λ (medium : Option Disk). HasMedium (stand_in_for medium) 1 between bare) (second_medium_stays _ old between one) two)

bytes_both : (old between : ControllerValue) (bytes : List ℕ) → HasMedium (stand_in_for (medium_in old 0)) 0 old between
    → BareBytes (HasMedium (stand_in_for (medium_in between 1)) 1 between) bytes → BareBytes (IsBared old) bytes
bytes_both old between bytes one saved = record {
  bare = saved.bare;
  lacks = bared_both old between saved.bare one saved.lacks;
  fits = saved.fits;
  spells = saved.spells;
}

pub ok_both : {A E : Type 0} (result : Result A E) (bytes_of : A → List ℕ) (old between : ControllerValue)
    → HasMedium (stand_in_for (medium_in old 0)) 0 old between
    → IfOk result (λ it. BareBytes (HasMedium (stand_in_for (medium_in between 1)) 1 between) (bytes_of it))
    → IfOk result (λ it. BareBytes (IsBared old) (bytes_of it))
ok_both (Ok it) bytes_of old between one saved = bytes_both old between (bytes_of it) one saved
ok_both (Err e) bytes_of old between one saved = tt

-- the bytes of the controller that lacks the second medium
pub ok_second : {A E : Type 0} (result : Result A E) (bytes_of : A → List ℕ) (Lacks : ControllerValue → Type 0) (bare : ControllerValue)
    → Lacks bare → ControllerFits bare → IfOk result (λ it. bytes_of it ≡ spelled_bare bare []) → IfOk result (λ it. BareBytes Lacks (bytes_of it))
ok_second (Ok it) bytes_of Lacks bare lacks fits spells = record { bare = bare; lacks = lacks; fits = fits; spells = spells }
ok_second (Err e) bytes_of Lacks bare lacks fits spells = tt

-- the media of one controller go to another: first that of bay 0, then that of bay 1
pub first_alike : (one other : ControllerValue) → media_alike one other ≡ true → alike (medium_in one 0) (medium_in other 0) ≡ true
first_alike one other is = and_first (alike (medium_in one 0) (medium_in other 0)) (alike (medium_in one 1) (medium_in other 1)) is

pub second_alike : (from left to between : ControllerValue) (first : Option Disk) → media_alike from to ≡ true → held left 1 ≡ held from 1
    → HasMedium first 0 to between → alike (medium_in left 1) (medium_in between 1) ≡ true
second_alike from left to between first is stays moved =
    ap (λ (drive : BayDrive). alike (bay_state drive).medium (medium_in between 1)) stays
    ∙ ap (alike (medium_in from 1)) (second_medium_stays first to between moved)
    ∙ and_second (alike (medium_in from 0) (medium_in to 0)) (alike (medium_in from 1) (medium_in to 1)) is

pub refilled_both : (from left state to between new : ControllerValue) → to ≡ with_writes_of from state → held left 1 ≡ held from 1
    → HasMedium (medium_in from 0) 0 to between → HasMedium (medium_in left 1) 1 between new → IsRefilled from state new
refilled_both from left state to between new is stays one two =
    both_bays (medium_in from 0) (medium_in from 1) (with_writes_of from state) between new
    (subst (λ (it : ControllerValue). HasMedium (medium_in from 0) 0 it between) is one)
    (subst (λ (drive : BayDrive). HasMedium (bay_state drive).medium 1 between new) stays two)

-- ---- ---- what is reported of writes

-- a drive is taken out of a bay, reports the writes of another drive too, and is put back
pub writes_joined_there : (bay : ℕ) (spare other before after : BayDrive) (from old between new : ControllerValue)
    → before ≡ held old bay → other ≡ held from bay → after ≡ with_writes other before
    → between ≡ chip_with_drive bay spare old → new ≡ chip_with_drive bay after between → new ≡ with_writes_at bay from old
writes_joined_there bay spare other before after from old between new taken is joined out back =
    back
    ∙ ap (λ (c : ControllerValue). chip_with_drive bay after c) out
    ∙ with_twice bay spare after old
    ∙ ap (λ (drive : BayDrive). chip_with_drive bay drive old)
    (joined ∙ ap (λ (it : BayDrive). with_writes it before) is ∙ ap (with_writes (held from bay)) taken)

-- joining the reports of writes leaves the media alike
pub alike_joined : (from state to : ControllerValue) → to ≡ with_writes_of from state → media_alike from state ≡ true → media_alike from to ≡ true
alike_joined from state to is alike_both = ap (media_alike from) is ∙ alike_both

-- a controller without its media reports the same writes
joined_with_bare : (controller bare : ControllerValue) → IsBared controller bare → with_writes_of controller bare ≡ bare
joined_with_bare controller bare bares =
    let first : with_writes (held controller 0) (held bare 0) ≡ held bare 0 =
    writes_same (held controller 0) (held bare 0) bares.first_drive.replaced bares.first_drive.tracks in
    let second : with_writes (held controller 1) (held bare 1) ≡ held bare 1 =
    writes_same (held controller 1) (held bare 1) bares.second_drive.replaced bares.second_drive.tracks in
    let stays : with_writes_at 0 controller bare ≡ bare = ap (λ (drive : BayDrive). chip_with_drive 0 drive bare) first ∙ sym (with_itself 0 bare) in
    ap (with_writes_at 1 controller) stays ∙ ap (λ (drive : BayDrive). chip_with_drive 1 drive bare) second ∙ sym (with_itself 1 bare)

-- ---- what was saved comes back

bared_alike : (controller bare : ControllerValue) → IsBared controller bare → media_alike controller bare ≡ true
bared_alike controller bare bares =
    let first : medium_in bare 0 ≡ stand_in_for (medium_in controller 0) = medium_in_bay _ (held controller 0) (held bare 0) bares.first_drive in
    let second : medium_in bare 1 ≡ stand_in_for (medium_in controller 1) = medium_in_bay _ (held controller 1) (held bare 1) bares.second_drive in
    and_from _ _
    (ap (alike (medium_in controller 0)) first ∙ alike_stand_in (medium_in controller 0))
    (ap (alike (medium_in controller 1)) second ∙ alike_stand_in (medium_in controller 1))

media_again : (controller bare new : ControllerValue) → IsBared controller bare → HasMedia (medium_in controller 0) (medium_in controller 1) bare new
    → new ≡ controller
media_again controller bare new bares refills =
    let first : held new 0 ≡ held controller 0 = one_bay (medium_in controller 0) (held bare 0) (held controller 0) (held new 0)
    (back_bay (stand_in_for (medium_in controller 0)) (held controller 0) (held bare 0) bares.first_drive) refills.first_drive in
    let second : held new 1 ≡ held controller 1 = one_bay (medium_in controller 1) (held bare 1) (held controller 1) (held new 1)
    (back_bay (stand_in_for (medium_in controller 1)) (held controller 1) (held bare 1) bares.second_drive) refills.second_drive in
    refills.whole
    ∙ ap (λ (drive : BayDrive). chip_with_drive 1 (held new 1) (chip_with_drive 0 drive bare)) first
    ∙ ap (λ (drive : BayDrive). chip_with_drive 1 drive (chip_with_drive 0 (held controller 0) bare)) second
    ∙ ap (λ (c : ControllerValue). chip_with_drive 1 (held controller 1) (chip_with_drive 0 (held controller 0) c)) bares.whole

refilled_again : (controller bare new : ControllerValue) → IsBared controller bare → IsRefilled controller bare new → new ≡ controller
refilled_again controller bare new bares refills =
    media_again controller bare new bares
    (subst (λ (it : ControllerValue). HasMedia (medium_in controller 0) (medium_in controller 1) it new) (joined_with_bare controller bare bares) refills)

-- only one of four codes comes
one_of : (done unfit bad out : Bool) (code : ℕ) (A B C D Same : Type 0) → (done ≡ true → code ≡ 0) → (out ≡ true → code ≡ 3) → (A → Same) → (B → ⊥)
    → (C → ⊥) → (D → Same) → MatchBool done A (MatchBool unfit B (MatchBool bad C (MatchBool out D ⊥))) → Same × ((code ≡ 0) ⊎ (code ≡ 3))
one_of true unfit bad out code A B C D Same is_done is_out a b c d h = (a h, inl (is_done refl))
one_of false true bad out code A B C D Same is_done is_out a b c d h = absurd (b h)
one_of false false true out code A B C D Same is_done is_out a b c d h = absurd (c h)
one_of false false false true code A B C D Same is_done is_out a b c d h = (d h, inr (is_out refl))
one_of false false false false code A B C D Same is_done is_out a b c d h = absurd h

-- the bytes of the bared controller, restored onto its media
pub comes_back : (controller new : ControllerValue) (bytes : List ℕ) (code : ℕ) → BareBytes (IsBared controller) bytes
    → RestoresBare bytes code controller new → (new ≡ controller) × ((code ≡ 0) ⊎ (code ≡ 3))
comes_back controller new bytes code saved restores =
    one_of (code == 0) (code == 21) (code == 22) (code == 3) code _ _ _ _ (new ≡ controller) (eqb-true code 0) (eqb-true code 3)
    (λ done. refilled_again controller saved.bare new saved.lacks
    (subst (λ (state : ControllerValue). IsRefilled controller state new) (sym (done.1.only saved.bare saved.fits saved.spells)) done.3))
    (λ unfit. false≢true (sym unfit.2 ∙ ap (media_alike controller) (sym (unfit.1.only saved.bare saved.fits saved.spells))
    ∙ bared_alike controller saved.bare saved.lacks))
    (λ bad. bad.0 saved.bare saved.fits saved.spells)
    (λ out. out)
    restores
