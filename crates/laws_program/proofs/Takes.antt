-- What a write to a regular disk does where nothing disturbs it, by what the track shows.
use Rattle.std.proofs.Common.{arith, ◌≡◌, ◌∙◌, ℕ, List, [], ◌∷◌, ◌++◌, length, refl, sym, ap, subst, inl, inr, Option, Some, None, Result, Ok, Err, IsOk, length-append}
use Rattle.laws_program.proofs.Common.{Chrn, Code, Rate, Disk, HasTrack, track_of, GoesOn, IsUndisturbed, IsAddressAt, HasAddressMark, IsRegular, plain_clear, Change, Written, IsChange, met_in, MeetsTrack, met_track, nothing_there, cases_rate, key_cylinder, StationState, Bay, bay_of, met, Reaches, IsWritten, IsWriteCause, ChangesAlone, WritesDrive, IsRegularIn}
use Rattle.laws_program.proofs.AlikeDisks.{regular_met, no_faults, no_overrun, no_loss, disturbed_less, in_with}
use Rattle.laws_program.proofs.Shown.{ShowSame}
use Rattle.flop_base.specs.declared.answers.Code.TheVariants as code

-- the refusals of a write, by what the track shows: no address mark, or no field of the key
pub data Refuses (track : List ℕ) (key : Chrn) (c : Code) : Type 0 where
  Bare : c ≡ code.NoMark → (HasAddressMark track → ⊥) → Refuses track key c
  Missing : c ≡ code.NotFound → HasAddressMark track → Refuses track key c

pub one_refusal : (track : List ℕ) (key : Chrn) (a b : Code) → Refuses track key a → Refuses track key b → b ≡ a
one_refusal track key a b (Bare is none) (Bare is_too none_too) = is_too ∙ sym is
one_refusal track key a b (Bare is none) (Missing is_too mark) = absurd (none mark)
one_refusal track key a b (Missing is mark) (Bare is_too none) = absurd (none mark)
one_refusal track key a b (Missing is mark) (Missing is_too mark_too) = is_too ∙ sym is

pub refuses_on : (one two : List ℕ) (key : Chrn) (c : Code) → ShowSame one two → Refuses two key c → Refuses one key c
refuses_on one two key c same (Bare is none) = Bare is (λ mark. none (same.marks.0 mark))
refuses_on one two key c same (Missing is mark) = Missing is (same.marks.1 mark)

-- a field of the key was written over
pub record IsOver (written : Written) (bay : ℕ) (called : Result (Unit {0}) Code) (old new : StationState) : Type 0 where
  pub p : ℕ
  pub disk : Disk
  pub meets : MeetsTrack (bay_of old bay).medium (bay_of old bay).rate written.key.c written.key.h disk
  pub address : IsAddressAt (met (bay_of old bay) written.key.c written.key.h) p written.key
  pub ok : IsOk called
  pub alone : ChangesAlone written bay p disk old called new

-- nothing was written, because no field has the key
pub record IsKept (written : Written) (bay : ℕ) (called : Result (Unit {0}) Code) (old new : StationState) : Type 0 where
  pub c : Code
  pub refused : called ≡ Err c
  pub none : (p : ℕ) → IsAddressAt (met (bay_of old bay) written.key.c written.key.h) p written.key → ⊥
  pub cause : Refuses (met (bay_of old bay) written.key.c written.key.h) written.key c
  pub medium : (bay_of new bay).medium ≡ (bay_of old bay).medium

pub data Takes (written : Written) (bay : ℕ) (called : Result (Unit {0}) Code) (old new : StationState) : Type 0 where
  Over : IsOver written bay called old new → Takes written bay called old new
  Kept : IsKept written bay called old new → Takes written bay called old new

not_empty : (earlier : List Change) (last : Change) → [] ≡ earlier ++ last ∷ [] → ⊥
not_empty earlier last e =
    let long : 0 ≡ length (earlier ++ last ∷ []) = ap (λ (l : List Change). length l) e in
    let both = length-append earlier (last ∷ []) in
    omega (arith, long, both)

module _ (written : Written) (bay : ℕ) (old new : StationState) (regular : IsRegularIn (bay_of old bay).medium) (calm : IsUndisturbed bay old.counters new.counters) (goes : GoesOn old.counters new.counters) where
  abbrev c : ℕ
  c = written.key.c

  abbrev h : ℕ
  h = written.key.h

  abbrev track : List ℕ
  track = met (bay_of old bay) c h

  is_regular : IsRegular track c h
  is_regular = regular_met (bay_of old bay).medium (bay_of old bay).rate c h regular

  -- a change of a regular disk is at a field of the key, on its cylinder
  first_address : (disk next : Disk) (change : Change) → (bay_of old bay).medium ≡ Some disk → IsChange written disk change next → HasTrack disk c h × IsAddressAt (track_of disk c h) change.place written.key
  first_address disk next change medium is =
      let place = (key_cylinder disk change.cylinder h change.place written.key (regular disk medium) is.track is.address).0 in (
        subst (λ (b : ℕ). HasTrack disk b h) (sym place) is.track,
        subst (λ (b : ℕ). IsAddressAt (track_of disk b h) change.place written.key) (sym place) is.address,
      )

  module _ (called : Result (Unit {0}) Code) (drive : WritesDrive written bay old called new) where
    -- where the disk has the field, and its rate is that of the bay, the field was written over
    over_at : (p : ℕ) (disk : Disk) → (bay_of old bay).medium ≡ Some disk → MeetsTrack (bay_of old bay).medium (bay_of old bay).rate c h disk → IsAddressAt (track_of disk c h) p written.key → IsOk called → IsOver written bay called old new
    over_at p disk medium meets at ok =
        let is = met_track (bay_of old bay).medium (bay_of old bay).rate c h disk meets in
        let here : IsAddressAt track p written.key = subst (λ (t : List ℕ). IsAddressAt t p written.key) (sym is) at in
        record {
          p = p;
          disk = disk;
          meets = meets;
          address = here;
          ok = ok;
          alone = (drive.regular disk medium (regular disk medium)).one p here (inr calm);
        }

    same_disk : (m : Option Disk) (a b : Disk) → m ≡ Some a → m ≡ Some b → a ≡ b
    same_disk m a b e f = cc (e, f)

    -- a write that was done changed the disk
    done_over : (before after : Option Disk) (changes : List Change) → (bay_of old bay).medium ≡ before → (bay_of new bay).medium ≡ after → drive.changes ≡ changes → IsOk called → IsWritten written bay drive.changes old new → Reaches written before changes after → IsOver written bay called old new
    done_over None after changes from to same ok done reach = let left = reach.1 in let there = done.medium in absurd (cc (left, to, there))
    done_over (Some disk) None changes from to same ok done reach = absurd reach
    done_over (Some disk) (Some next) [] from to same ok done reach =
        let last = done.last (no_faults bay old.counters new.counters calm goes) in
        absurd (not_empty last.0 last.1 (sym same ∙ last.2))
    done_over (Some disk) (Some next) (change ∷ later) from to same ok done reach =
        let first = first_address disk reach.0 change from reach.1 in
        elim (cases_rate disk.rate (bay_of old bay).rate) [
          | inl alike ↦ over_at change.place disk from (record { is_in = from; has = first.0; same_rate = alike }) first.1 ok
          | inr other ↦
              let nothing = nothing_there (bay_of old bay).medium (bay_of old bay).rate c h disk from (λ has is. other is) in
              let stays = (drive.regular disk from (regular disk from)).none (λ p at. nothing.addresses p written.key at) in
              let is : done.disk ≡ disk = same_disk (bay_of new bay).medium done.disk disk done.medium stays in
              absurd (other (subst (λ (d : Disk). d.rate ≡ (bay_of old bay).rate) is done.same_rate))
        ]

    bay_rate : (bay_of new bay).rate ≡ (bay_of old bay).rate
    bay_rate =
        let kept : Bay = record (bay_of old bay) { medium = (bay_of new bay).medium } in
        ap (λ (s : StationState). (bay_of s bay).rate) drive.becomes ∙ ap (λ (b : Bay). b.rate) (in_with old.bays bay kept)

    -- where no field has the key, nothing changed
    module _ (none : (p : ℕ) → IsAddressAt track p written.key → ⊥) where
      medium_stays : (bay_of new bay).medium ≡ (bay_of old bay).medium
      medium_stays = go (bay_of old bay).medium refl
        where
          go : (m : Option Disk) → (bay_of old bay).medium ≡ m → (bay_of new bay).medium ≡ (bay_of old bay).medium
          go None e = let reach = subst (λ (o : Option Disk). Reaches written o drive.changes (bay_of new bay).medium) e drive.reach in reach.1 ∙ sym e
          go (Some disk) e = (drive.regular disk e (regular disk e)).none none ∙ sym e

      met_stays : met (bay_of new bay) c h ≡ track
      met_stays =
          ap (λ (m : Option Disk). met_in m (bay_of new bay).rate c h) medium_stays
          ∙ ap (λ (r : Rate). met_in (bay_of old bay).medium r c h) bay_rate

      refuses : (k : Code) → IsWriteCause written track track drive.changes bay old k new → Refuses track written.key k
      refuses code.NoMark cause = elim (cause.no_mark refl calm) [
        | inl bare ↦ Bare refl (λ mark. bare mark.0 (plain_clear track mark.0 is_regular.plain mark.1))
        | inr (inl cut) ↦ absurd (none cut.0 cut.1)
        | inr (inr seen) ↦ absurd (none seen.1.0 seen.1.1)
      ]
      refuses code.NotFound cause = let found = cause.not_found refl calm in Missing refl found.0
      refuses code.BadCrc cause = let bad = cause.bad_data refl calm in elim bad.1 [
        | inl seen ↦ absurd (none seen.0 seen.1)
        | inr other ↦ absurd (none other.0 other.3)
      ]
      refuses code.Overrun cause = absurd (no_overrun bay old.counters new.counters calm goes (cause.overrun refl))
      refuses code.Seek cause = absurd (no_loss bay old.counters new.counters calm goes 77 (omega arith) (cause.lost refl))
      refuses _ cause = absurd cause.device

  pub write_takes : (called : Result (Unit {0}) Code) → WritesDrive written bay old called new → Takes written bay called old new
  write_takes (Ok u) drive =
      Over (done_over (Ok u) drive (bay_of old bay).medium (bay_of new bay).medium drive.changes refl refl refl refl (drive.done refl) drive.reach)
  write_takes (Err k) drive =
      let cause = drive.refused in
      let none : (p : ℕ) → IsAddressAt track p written.key → ⊥ = λ p at. cause.never is_regular p at (inr calm) (disturbed_less bay old.counters new.counters calm goes old.tries) in
      let settled = subst (λ (t : List ℕ). IsWriteCause written track t drive.changes bay old k new) (met_stays (Err k) drive none) cause in
      Kept (record { c = k; refused = refl; none = none; cause = refuses (Err k) drive none k settled; medium = medium_stays (Err k) drive none })
