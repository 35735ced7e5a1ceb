-- A bay is acknowledged or refused.
use Rattle.std.proofs.Common.{◌≡◌, ℕ, ◌≤◌, ◌⊎◌, Bool, true, false, if◌then◌else◌, List, Option, Some, None, IsSome, Result, Ok, Err, refl, sym, ap, ◌∙◌, subst, arith, inl, inr}
use Rattle.std.specs.Prelude.{◌&&◌, not}
use Rattle.floppy_driver.proofs.Common.{false≢true, le-leb, Chrn, Rate, R500, R250, Code, NotReady, Disk, track_of, IsAddress, Two, in_bay, DriveCounts, faults_of, FaultsRoseBy, FaultsRoseLess, faults_go_on, met_in, HasClearAddress, MeetsTrack, met_from_mark, met_track, one_met, CostsFor, Rig, IsSound, OnlyAsks, track_under, Bay, StationState, bay_of, set_bay, fresh_bay, HasClearStart, HasNoStart, AcksDrive, Acks, Notes, Driver, is_held, bay_shown, with_waiting, shown, with_notes, IsAttached, Works, ClearsChange, OnlyReads, HasStart, IsHeldSince}
use Rattle.floppy_driver.proofs.Lasting.{costs_shown}
use Rattle.floppy_driver.proofs.Rounds.{HasStayedSet}
use Rattle.floppy_driver.proofs.Shows.{noted_at, sound_disk, bay_shown_at, held_bay, held_shown, spun_at, attached_with, waiting_driven, driven_after, driven_within}
use Rattle.floppy_driver.proofs.Worked.{works_read, works_after, works_round, driven_round, spun_round, clear_is_full, noted_worked, worked_shown}

-- an acknowledgement of a bay
acks_bay : (old new : StationState) (bay : ℕ) (answer : Result (Unit {0}) Code) → bay ≤ 1 → AcksDrive bay old answer new → Acks bay old answer new
acks_bay old new bay answer in_range acks = rw (le-leb bay 1 in_range) acks

-- ---- not acknowledged

module _ (driver after : Driver) (old : Rig) (bay : ℕ) (new : Rig) (notes : Notes) (in_range : bay ≤ 1) (is : after ≡ with_notes driver bay notes) (gate : notes.gate ≡ false) (known : notes.known ≡ None) (attached : IsAttached driver old) (stayed : HasStayedSet bay 3 old new) where
  not_held : (line : Bool) → is_held notes line ≡ false
  not_held line = ap (λ (b : Bool). b && not line) gate

  pub attached_unready : IsAttached after new
  attached_unready =
      let medium : in_bay new.media bay ≡ in_bay old.media bay = ap (λ (t : Two (Option Disk)). in_bay t bay) stayed.works.media in
      attached_with driver after new bay notes in_range is
      (record {
        empty = λ none.
            let before = sym medium ∙ none in
            stayed.works.empty before ∙ (noted_at driver old bay attached).empty before;
        spun = λ held. absurd (false≢true (sym (not_held (in_bay new.changes bay)) ∙ held));
        kept = λ held. absurd (false≢true (sym (not_held (in_bay new.changes bay)) ∙ held));
        number = λ c e. absurd (cc (known, e));
        range = λ c e. absurd (cc (known, e));
        stands = λ c e held. absurd (false≢true (sym (not_held (in_bay new.changes bay)) ∙ held));
      })
      (noted_worked driver old bay new attached stayed.works)

  module _ (spares : ℕ) (waiting : List DriveCounts) where
    fresh_shown : bay_shown notes (in_bay new.media bay) (in_bay new.changes bay) ≡ fresh_bay (bay_of (shown driver old spares waiting) bay).medium
    fresh_shown = rw (not_held (in_bay new.changes bay), stayed.works.media, bay_shown_at driver old spares waiting bay) refl

    why : (m : Option Disk) → in_bay old.media bay ≡ m → ((bay_of (shown driver old spares waiting) bay).medium ≡ None) ⊎ FaultsRoseBy 3 bay old.counters new.counters
    why None e = inl (ap (λ (b : Bay). b.medium) (bay_shown_at driver old spares waiting bay) ∙ e)
    why (Some disk) e = inr (stayed.lost (subst (λ (m : Option Disk). IsSome m) (sym e) refl))

    pub acks_unready : CostsFor bay 12 9031 172 old new → Acks bay (shown driver old spares waiting) (Err NotReady) (shown after new spares waiting)
    acks_unready costs =
        let before = shown driver old spares waiting in
        acks_bay before (shown after new spares waiting) bay (Err NotReady) in_range
        (record {
          done = λ ok. absurd (false≢true ok);
          refused = record {
            unready = refl;
            cause = why (in_bay old.media bay) refl;
            becomes =
                worked_shown driver after old bay new notes spares waiting in_range is stayed.works
                ∙ ap (λ (b : Bay). record (set_bay before bay b) { counters = with_waiting new.counters waiting }) fresh_shown;
          };
          driven = driven_within 0 6 before.counters (with_waiting new.counters waiting) (omega arith) (waiting_driven 0 old.counters new.counters waiting stayed.driven);
          costs = costs_shown driver old new spares waiting bay 12 9031 172 costs;
        })

-- ---- acknowledged

-- an address field at a rate shows that the medium has it
start_at_rate : (rig : Rig) (bay : ℕ) (rate : Rate) (disk : Disk) → in_bay rig.media bay ≡ Some disk → HasStart rig bay rate → disk.rate ≡ rate
start_at_rate rig bay rate disk is start =
    let met = met_from_mark (in_bay rig.media bay) rate (in_bay rig.cylinders bay) 0 (start.0, start.1.1.mark) in
    let same = one_met (in_bay rig.media bay) rate (in_bay rig.cylinders bay) 0 disk met.0 is met.1 in
    ap (λ (d : Disk). d.rate) (sym same) ∙ met.1.same_rate

-- on cylinder 0 the address field is one of the medium's first track
start_on_track : (rig : Rig) (bay : ℕ) (rate : Rate) (disk : Disk) → in_bay rig.media bay ≡ Some disk → in_bay rig.cylinders bay ≡ 0 → HasStart rig bay rate → HasNoStart disk → ⊥
start_on_track rig bay rate disk is at start none =
    let medium = in_bay rig.media bay in
    let there = subst (λ (c : ℕ). (p : ℕ) × IsAddress (met_in medium rate c 0) p) at start in
    let met = met_from_mark medium rate 0 0 (there.0, there.1.1.mark) in
    let same = one_met medium rate 0 0 disk met.0 is met.1 in
    let track = met_track medium rate 0 0 met.0 met.1 ∙ ap (λ (d : Disk). track_of d 0 0) same in
    none there.0 (subst (λ (t : List ℕ). IsAddress t there.0) track there.1)

-- on cylinder 0, a Clear address field of the first track is met
clear_is_met : (rig : Rig) (bay : ℕ) (disk : Disk) → IsSound rig → in_bay rig.media bay ≡ Some disk → in_bay rig.cylinders bay ≡ 0 → (clear : HasClearStart disk) → HasClearAddress (track_under rig bay disk.rate 0) clear.2.0
clear_is_met rig bay disk sound is at clear =
    let medium = in_bay rig.media bay in
    let valid = sound_disk rig bay disk sound is in
    let cylinders = valid.cylinders in
    let heads = valid.heads in
    let meets : MeetsTrack medium disk.rate 0 0 disk = record { is_in = is; has = (omega arith, omega arith); same_rate = refl } in
    let track = ap (λ (c : ℕ). met_in medium disk.rate c 0) at ∙ met_track medium disk.rate 0 0 disk meets in
    let found : HasClearAddress (track_of disk 0 0) clear.2.0 = (clear.0, record { clear = clear.1; address = clear.2.1 }) in
    subst (λ (t : List ℕ). HasClearAddress t clear.2.0) (sym track) found

module _ (driver after : Driver) (start : Rig) (bay count : ℕ) (notes : Notes) (in_range : bay ≤ 1) (is : after ≡ with_notes driver bay notes) (attached : IsAttached driver start) (old : Rig) (stayed : HasStayedSet bay count start old) (reached : Bool) (mid : Rig) (clears : ClearsChange bay old reached mid) (asked : Rig) (asks : OnlyAsks mid asked) (clear : in_bay mid.changes bay ≡ false) (sound : IsSound asked) (new : Rig) (held : IsHeldSince bay asked reached notes new) where
  reads : OnlyReads 6 asked new
  reads = held.finds.reads

  worked : Works bay start asked
  worked = works_round start bay count old stayed reached mid clears asked asks

  all_worked : Works bay start new
  all_worked = works_after start bay asked new worked (works_read 6 asked bay new reads)

  asked_clear : in_bay asked.changes bay ≡ false
  asked_clear = ap (λ (t : Two Bool). in_bay t bay) asks.heads.changes ∙ clear

  now_clear : in_bay new.changes bay ≡ false
  now_clear = ap (λ (t : Two Bool). in_bay t bay) reads.heads.changes ∙ asked_clear

  now_held : is_held notes (in_bay new.changes bay) ≡ true
  now_held = ap (λ (b : Bool). b && not (in_bay new.changes bay)) held.gate ∙ ap not now_clear

  -- ---- the drive

  full : (disk : Disk) × (in_bay start.media bay ≡ Some disk)
  full = clear_is_full driver start bay asked attached worked asked_clear

  some : IsSome (in_bay start.media bay)
  some = subst (λ (m : Option Disk). IsSome m) (sym full.1) refl

  known_reached : (c : ℕ) → notes.known ≡ Some c → (reached ≡ true) × (c ≡ 0)
  known_reached c e = by_reached reached refl (sym e ∙ held.known)
    where
      by_reached : (r : Bool) → reached ≡ r → Some c ≡ (if r then Some 0 else None) → (reached ≡ true) × (c ≡ 0)
      by_reached true r e = (r, cc e)
      by_reached false r e = absurd (cc e)

  pub attached_acked : IsAttached after new
  attached_acked =
      attached_with driver after new bay notes in_range is
      (record {
        empty = λ none. absurd (cc (full.1, none, ap (λ (t : Two (Option Disk)). in_bay t bay) all_worked.media));
        spun = λ h. spun_at asked.spun new.spun bay reads.heads.spun (spun_round start bay count old stayed reached mid clears asked asks some);
        kept = λ h. let k = held.kept in omega arith;
        number = λ c e.
            ap (λ (t : Two ℕ). in_bay t bay) reads.heads.numbers ∙ ap (λ (t : Two ℕ). in_bay t bay) asks.heads.numbers ∙ clears.number
            ∙ sym (known_reached c e).1;
        range = λ c e. let zero_is = (known_reached c e).1 in omega arith;
        stands = λ c e h counted below.
            ap (λ (t : Two ℕ). in_bay t bay) reads.heads.cylinders ∙ ap (λ (t : Two ℕ). in_bay t bay) asks.heads.cylinders ∙ clears.arrives (known_reached c e).0
            ∙ sym (known_reached c e).1;
      })
      (noted_worked driver start bay new attached all_worked)

  -- ---- the rate

  disk : Disk
  disk = full.0

  medium_now : in_bay asked.media bay ≡ Some disk
  unfolding disk
  medium_now = ap (λ (t : Two (Option Disk)). in_bay t bay) worked.media ∙ full.1

  -- with fewer than three faults, track 0 was reached
  at_track_0 : FaultsRoseLess 3 bay start.counters new.counters → in_bay asked.cylinders bay ≡ 0
  at_track_0 few = ap (λ (t : Two ℕ). in_bay t bay) asks.heads.cylinders ∙ by_reached reached refl
    where
      by_reached : (r : Bool) → reached ≡ r → in_bay mid.cylinders bay ≡ 0
      by_reached true r = clears.arrives r
      by_reached false r =
          let lost = clears.lost r in
          let f = faults_go_on start.counters old.counters bay stayed.works.counts in
          let h = faults_go_on mid.counters asked.counters bay asks.counts in
          let k = faults_go_on asked.counters new.counters bay reads.counts in
          let few_rose = few.0 in
          let few_below = few.1 in
          absurd (omega arith)

  double : notes.rate ≡ R250 → disk.rate ≡ R250
  double e = start_at_rate asked bay R250 disk medium_now (held.finds.double e)

  told : FaultsRoseLess 3 bay start.counters new.counters → HasClearStart disk → notes.rate ≡ disk.rate
  told few clear_start = by_rates notes.rate disk.rate refl refl
    where
      none_single : notes.rate ≡ R500 → disk.rate ≡ R250 → HasStart asked bay R500 ⊎ ((key : Chrn) → HasClearAddress (track_under asked bay R250 0) key → FaultsRoseBy 3 bay asked.counters new.counters) → ⊥
      none_single e double_sided (inl found) =
          let same : R500 ≡ R250 = sym (start_at_rate asked bay R500 disk medium_now found) ∙ double_sided in
          cc same
      none_single e double_sided (inr spoilt) =
          let there = clear_is_met asked bay disk sound medium_now (at_track_0 few) clear_start in
          let lost = spoilt clear_start.2.0 (subst (λ (r : Rate). HasClearAddress (track_under asked bay r 0) clear_start.2.0) double_sided there) in
          let f = faults_go_on start.counters asked.counters bay worked.counts in
          let few_rose = few.0 in
          let few_below = few.1 in
          omega arith

      by_rates : (a b : Rate) → notes.rate ≡ a → disk.rate ≡ b → notes.rate ≡ disk.rate
      by_rates R250 R500 a b = let d = double a in absurd (cc (b, d))
      by_rates R500 R250 a b = absurd (none_single a b (held.finds.single a))
      by_rates _ _ a b = a ∙ sym b

  untold : FaultsRoseLess 3 bay start.counters new.counters → HasNoStart disk → notes.rate ≡ R500
  untold few none = by_rate notes.rate refl
    where
      by_rate : (a : Rate) → notes.rate ≡ a → notes.rate ≡ R500
      by_rate R500 a = a
      by_rate R250 a = absurd (start_on_track asked bay R250 disk medium_now (at_track_0 few) (held.finds.double a) none)

  -- ---- the step

  pub acks_done : CostsFor bay 12 9031 172 start new → (spares : ℕ) (waiting : List DriveCounts) → Acks bay (shown driver start spares waiting) (Ok tt) (shown after new spares waiting)
  unfolding disk
  acks_done costs spares waiting =
      let before = shown driver start spares waiting in
      let now_medium : in_bay new.media bay ≡ Some full.0 = ap (λ (t : Two (Option Disk)). in_bay t bay) reads.media ∙ medium_now in
      let bay_is : bay_shown notes (in_bay new.media bay) (in_bay new.changes bay) ≡ record { medium = Some full.0; acknowledged = Some (faults_of new.counters bay); rate = notes.rate } =
      held_shown notes (in_bay new.media bay) (in_bay new.changes bay) now_held
      ∙ ap (λ (m : Option Disk). held_bay notes m) now_medium
      ∙ ap (λ (n : ℕ). record { medium = Some full.0; acknowledged = Some n; rate = notes.rate }) held.kept in
      acks_bay before (shown after new spares waiting) bay (Ok tt) in_range
      (record {
        done = λ ok. record {
          disk = full.0;
          rate = notes.rate;
          medium = ap (λ (b : Bay). b.medium) (bay_shown_at driver start spares waiting bay) ∙ full.1;
          becomes =
              worked_shown driver after start bay new notes spares waiting in_range is all_worked
              ∙ ap (λ (b : Bay). record (set_bay before bay b) { counters = with_waiting new.counters waiting }) bay_is;
          double = double;
          told = told;
          untold = untold;
        };
        refused = tt;
        driven =
            waiting_driven 6 start.counters new.counters waiting
            (driven_after 0 6 start.counters asked.counters new.counters worked.counts reads.counts (driven_round start bay count old stayed reached mid clears asked asks) reads.driven);
        costs = costs_shown driver start new spares waiting bay 12 9031 172 costs;
      })
