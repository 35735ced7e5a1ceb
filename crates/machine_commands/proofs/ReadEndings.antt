-- READ DATA.
use Rattle.std.proofs.Common.{◌≡◌, ◌⊎◌, inl, inr, ℕ, zero, suc, ◌+◌, ◌-◌, ◌*◌, ◌/◌, ◌%◌, ◌<◌, ◌≤◌, Bool, true, false, List, [], ◌∷◌, length, get_or, Result as result, Ok, Err, IfOk, IfErr, refl, sym, ◌∙◌, ap, subst, arith}
use Rattle.machine_commands.proofs.Common.{read_gap_at, Chrn, Code, Rate, in_bay, IsFaultless, with_items, user_bytes, set_up, IsAddressAt, IsSizeCode, content_size, HasTrack, track_of, InRange, Ready, Ending, NoMark, NoSector, NoField, BadCheck, Overrun, Late, key_after, Sent, is_overrun, Long, Result, scene_of, Scene, track_met, IsCalm, HasBytes, Stalled, Board, channel_of, drive_in, memory_of, track_under, IsIdle, rig_of, Motors, Done, false≢true, length-map-range_with_len, after_write, IsDataMark, IsWhole, ReadData, spells_read, Finished, Read, ends_late, is_late, IsRecorded, read_ended, read_outside, FindsField, IsReadReason, IsReadCode, IsReadMiss, ReadsData, ReadsBack, CostsFor, turn_same, mark_told, user_part, page_part}
use Rattle.track_model.specs.Bytes.{byte_at}
use Rattle.track_model.specs.Sectors.{IsSector, IsLone}
use Rattle.fdc_commands.specs.Reads.{SpellsRead}
use Rattle.laws_machine.proofs.OnReads.TrackMet.{rate_is, recorded}
use Rattle.machine_commands.specs.Awaited.{SendsRead}
use Rattle.machine_commands.proofs.Beginning.{IsRun, head_of_sent, is_run, set_to_memory, small_drive, outcome_is, told_as}
use Rattle.machine_commands.proofs.Landing.{SameBut, user_same, page_same, user_outside, user_with, page_with}
use Rattle.machine_commands.proofs.Lasting.{channel_costs}
use Rattle.machine_commands.proofs.Preparing.{channel_sets}
use Rattle.machine_commands.proofs.Seeing.{calm_drive, cylinder_before, faultless, idle_after, medium_before, memory_after, memory_before, read_sends, run_costs, stall_counts, track_before, unstalled}
use Rattle.flop_base.specs.declared.answers.Code.TheVariants as code
use Rattle.laws_machine.specs.OnReads.Results as heard

-- ---- what the driver is answered

-- when a refusal is right; `Stall` says that a late DMA (stall) was counted
record Refuses (scene : Scene) (faults : ℕ) (Stall : Type 0) (refusal : Code) : Type 0 where
  pub coded : IsReadCode refusal
  pub cause : IsCalm scene.faults faults → IsReadReason (track_met scene) scene.sent.key refusal ⊎ (refusal ≡ code.Overrun)
  pub overrun : refusal ≡ code.Overrun → Stall

abbrev Tells : Scene → ℕ → List ℕ → Type 0 → result Bool Code → Type 0
Tells scene faults memory Stall (Ok deleted) = (content : List ℕ) × heard.FindsField scene faults deleted content memory
Tells scene faults memory Stall (Err refusal) = Refuses scene faults Stall refusal

-- a read never ends late, and it overruns only by a stall
tells_by : (scene : Scene) (faults : ℕ) (memory : List ℕ) (Stall : Type 0) (ending : Ending) → heard.ReadEndsAs scene faults memory ending → ends_late ending ≡ false → (ending ≡ Overrun → Stall)
    → (key : Chrn) → Tells scene faults memory Stall (mark_told (told_as ending key))
tells_by scene faults memory Stall (Finished deleted) says never overran key = says
tells_by scene faults memory Stall NoMark says never overran key =
    record { coded = tt; cause = λ calm. inl (inl (λ p clear. says calm (p, clear.mark))); overrun = λ wrong. absurd cc }
tells_by scene faults memory Stall NoSector says never overran key = record {
  coded = tt;
  cause = λ calm. inl (says.0, λ (p, clear). says.1 calm p scene.sent.key refl clear.address clear.clear.inner);
  overrun = λ wrong. absurd cc;
}
tells_by scene faults memory Stall NoField says never overran key = record { coded = tt; cause = λ calm. inl (inr (says calm)); overrun = λ wrong. absurd cc }
tells_by scene faults memory Stall BadCheck says never overran key = record { coded = tt; cause = λ calm. inl (says calm); overrun = λ wrong. absurd cc }
tells_by scene faults memory Stall Overrun says never overran key = record { coded = tt; cause = λ calm. inr refl; overrun = λ _. overran refl }
tells_by scene faults memory Stall Late says never overran key = absurd (false≢true (sym never))
tells_by scene faults memory Stall _ says never overran key = absurd says

-- ---- sizes

pub size_range : (n : ℕ) → IsSizeCode n → (1 ≤ content_size n) × (content_size n ≤ 8192)
size_range zero coded = absurd (omega (arith, coded.0))
size_range (suc (suc (suc (suc (suc (suc (suc n))))))) coded = absurd (omega (arith, coded.1))
size_range _ coded = (omega arith, omega arith)

pub in_page : (address size : ℕ) → 1 ≤ size → address / 65536 ≡ (address + size - 1) / 65536 → address % 65536 + (size - 1) < 65536
in_page address size some same = omega arith

-- ---- the whole command

module _ (motors : Motors) (bay : ℕ) (key : Chrn) (rate : Rate) (address : ℕ) (outcome : result Done Code) (old new : Board)
    (idle : IsIdle motors old) (small : bay ≤ 1) (low : key.h ≤ 1) (coded : IsSizeCode key.n) (spun : in_bay (rig_of old).spun bay ≡ true)
    (inside : address + content_size key.n ≤ 1048576) (room : address % 65536 + (content_size key.n - 1) < 65536)
    (sends : SendsRead motors bay key rate address old outcome new) where
  abbrev head_drive : ℕ
  head_drive = key.h * 4 + bay

  abbrev left : ℕ
  left = content_size key.n - 1

  abbrev sent : Sent
  sent = record { head_drive = head_drive; key = key; last_sector = key.r }

  spelled : SpellsRead head_drive key key.r (read_gap_at rate) 0xFF
  spelled = spells_read head_drive key key.r (read_gap_at rate) 0xFF coded.0 coded.1

  size_is : left + 1 ≡ content_size key.n
  size_is = let range = size_range key.n coded in omega arith

  ran : IsRun Read sent bay address (left + 1) motors rate 29 old outcome new
  ran = is_run Read sent bay address (left + 1) motors rate 10 29 (λ b. set_up 0x46 address left (after_write 0x08 0 (channel_of b))) (0x46 ∷ head_drive ∷ key.c ∷ key.h ∷ key.r ∷ key.n ∷ key.r ∷ []) (read_gap_at rate) 0xFF
      old sends.ready sends.set sends.sent outcome new idle small spun (let same = size_is in omega arith) sends.prepares (λ rests. channel_sets 0x46 address left sends.ready sends.set rests sends.sets)
      (channel_costs 0x46 address left sends.ready sends.set sends.sets) (omega arith)
      (spelled.code, (spelled.head, (spelled.c, (spelled.h, (spelled.r, (spelled.n, (spelled.last, tt))))))) spelled.gap_length sends.sends sends.finishes
      (λ disk board. (left, refl, set_to_memory address left (channel_of sends.ready) (let range = size_range key.n coded in omega arith) room))
      (λ disk board takes. record {
        gap = read_gap_at rate;
        length_code = 0xFF;
        whole = takes.whole (Ready (ReadData head_drive key key.r (read_gap_at rate) 0xFF)) spelled.whole;
        taking = takes.taking;
        dma = takes.dma;
        no_seek = takes.no_seek;
      })

  abbrev start : Board
  start = ran.start

  abbrev scene : Scene
  scene = scene_of sent bay ran.disk address (left + 1) start

  abbrev at : Board
  at = ran.run.over.at

  abbrev faults : ℕ
  faults = (drive_in at bay).faults

  abbrev Stall : Type 0
  Stall = Stalled start at

  never_late : ends_late ran.run.over.results.ending ≡ false
  never_late = let (under, soon, short) = ran.run.over.goes.soon ran.run.sent.short in sym (ap is_late ran.run.over.results.is) ∙ soon.no_late

  overran : ran.run.over.results.ending ≡ Overrun → Stall
  overran is = elim ran.run.over.goes.in_time [
    | inl ((under, punctual), soon) ↦ absurd (false≢true (sym punctual.no_overrun ∙ (ap is_overrun ran.run.over.results.is ∙ ap (λ e. is_overrun (Result (Long e ran.run.over.results.results 0))) is)))
    | inr stalled ↦ stalled
  ]

  tells : Tells scene faults (memory_of at) Stall (mark_told outcome)
  tells =
      let over = ran.run.over in
      let (results, ends) = subst (heard.ReadEndedIn scene faults (memory_of at)) over.results.is (read_ended scene at coded size_is over.goes.underway) in
      let after = key_after over.results.ending key key.r in
      subst (λ told. Tells scene faults (memory_of at) Stall (mark_told told)) (sym (outcome_is outcome over.results.ending over.results.results head_drive after (small_drive key.h bay low small) over.outcome_is results))
      (tells_by scene faults (memory_of at) Stall over.results.ending ends never_late overran after)

  head_is : head_drive / 4 % 2 ≡ key.h
  head_is = head_of_sent key.h bay low small

  track : track_met scene ≡ track_under (rig_of old) bay rate key.h
  track = track_before ran.run key.h head_is

  cylinder : scene.cylinder ≡ in_bay (rig_of old).cylinders bay
  cylinder = sym (cylinder_before ran.run)

  refused : IfErr (mark_told outcome) (λ refusal. IsReadMiss (track_under (rig_of old) bay rate key.h) key bay (rig_of old).counters refusal (rig_of new).counters)
  refused = by_told (mark_told outcome) tells
    where
      by_told : (told : result Bool Code) → Tells scene faults (memory_of at) Stall told
          → IfErr told (λ refusal. IsReadMiss (track_under (rig_of old) bay rate key.h) key bay (rig_of old).counters refusal (rig_of new).counters)
      by_told (Ok deleted) says = tt
      by_told (Err refusal) says = record {
        coded = says.coded;
        reason = λ undisturbed. elim (cause (faultless ran.run undisturbed)) [ inl why ↦ why | inr is ↦ absurd (unstalled ran.run undisturbed (says.overrun is)) ];
        cause = cause;
        overrun = λ is. stall_counts ran.run (says.overrun is);
      }
        where
          cause : IsFaultless bay (rig_of old).counters (rig_of new).counters → IsReadReason (track_under (rig_of old) bay rate key.h) key refusal ⊎ (refusal ≡ code.Overrun)
          cause few = elim (says.cause (calm_drive ran.run few)) [ inl why ↦ inl (subst (λ t. IsReadReason t key refusal) track why) | inr is ↦ inr is ]

  -- ---- the field

  module _ (deleted : Bool) (content : List ℕ) (finds : heard.FindsField scene faults deleted content (memory_of at)) where
    recorded_at : IsRecorded scene
    recorded_at = recorded scene finds.place key finds.address_field

    here : track_met scene ≡ track_of ran.disk (in_bay (rig_of old).cylinders bay) key.h
    here = recorded_at.track ∙ (ap (λ c. track_of ran.disk c (head_drive / 4 % 2)) cylinder ∙ ap (λ h. track_of ran.disk (in_bay (rig_of old).cylinders bay) h) head_is)

    content_long : length content ≡ content_size key.n
    content_long = ap length finds.whole.content_is ∙ length-map-range_with_len (λ i. byte_at (track_met scene) (finds.mark + 64 + 16 * i)) 0 (content_size key.n)

    field : FindsField bay key rate (rig_of old) deleted content (rig_of new)
    field = record {
      disk = ran.disk;
      place = finds.place;
      mark = finds.mark;
      medium = medium_before ran.run;
      same_rate = rate_is scene rate ran.run.rate_is recorded_at;
      track = subst (λ h. HasTrack ran.disk (in_bay (rig_of old).cylinders bay) h) head_is (subst (λ c. HasTrack ran.disk c (head_drive / 4 % 2)) cylinder recorded_at.has);
      address_field = subst (λ t. IsAddressAt t finds.place key) here finds.address_field;
      data_mark = subst (λ t. IsDataMark t finds.place finds.mark deleted) here finds.data_mark;
      whole = subst (λ t. IsWhole t finds.mark key.n content) here finds.whole;
      size = content_long;
      sector = λ which. subst (λ t. IsSector t key deleted content) here (
        finds.place,
        finds.mark + 64,
        finds.address_field,
        finds.looked (elim which [
          | inl none ↦ inl (calm_drive ran.run none)
          | inr lone ↦ inr (subst (λ t. IsLone t finds.place) (sym here) lone)
        ]),
        finds.whole.content_is,
      );
    }

  -- ---- memory

  but : SameBut (memory_of old) address (content_size key.n) (memory_of new)
  but =
      let outside = read_outside scene at ran.run.over.goes.underway in record {
        lengths = ap length (memory_after ran.run) ∙ (outside.lengths ∙ ap length (memory_before ran.run));
        others = λ k where_k. ap (λ m. get_or m k 0) (memory_after ran.run) ∙ (outside.others k (subst (λ n. (k < address) ⊎ (address + n ≤ k)) (sym size_is) where_k) ∙ ap (λ m. get_or m k 0) (memory_before ran.run));
      }

  landed : (content : List ℕ) → HasBytes address content scene.memory (memory_of at) → HasBytes address content (memory_of old) (memory_of new)
  landed content bytes = subst (λ m. HasBytes address content m (memory_of new)) (memory_before ran.run) (subst (λ m. HasBytes address content (memory_of start) m) (sym (memory_after ran.run)) bytes)

  -- what was found, with where its content landed
  found_at : (Lands : List ℕ → Type 0) → ((content : List ℕ) → length content ≡ content_size key.n → HasBytes address content (memory_of old) (memory_of new) → Lands content)
      → IfOk (mark_told outcome) (λ deleted. (content : List ℕ) × FindsField bay key rate (rig_of old) deleted content (rig_of new) × Lands content)
  found_at Lands lands = by_told (mark_told outcome) tells
    where
      by_told : (told : result Bool Code) → Tells scene faults (memory_of at) Stall told
          → IfOk told (λ deleted. (content : List ℕ) × FindsField bay key rate (rig_of old) deleted content (rig_of new) × Lands content)
      by_told (Ok deleted) (content, finds) = (content, field deleted content finds, lands content (content_long deleted content finds) (landed content finds.in_memory))
      by_told (Err refusal) says = tt

  pub reads_data : address + content_size key.n ≤ user_bytes → ReadsData bay key rate address (rig_of old) (mark_told outcome) (rig_of new)
  reads_data below = record {
    sends = read_sends ran.run ran.run.over.goes.listens.drives;
    found = found_at (λ content. user_part (memory_of new) ≡ with_items (user_part (memory_of old)) address content)
        (λ content long there. user_with (memory_of old) (memory_of new) address content sends.prepares.memory there (omega arith));
    refused = refused;
    outside = user_outside (memory_of old) (memory_of new) address (content_size key.n) sends.prepares.memory but;
    page = page_same (memory_of old) (memory_of new) address (content_size key.n) sends.prepares.memory but below;
  }

  pub reads_back : address ≡ user_bytes → ReadsBack bay key rate (rig_of old) (mark_told outcome) (rig_of new)
  reads_back at_page = record {
    sends = read_sends ran.run ran.run.over.goes.listens.drives;
    found = found_at (λ content. page_part (memory_of new) ≡ with_items (page_part (memory_of old)) 0 content)
        (λ content long there. let range = size_range key.n coded in
        page_with (memory_of old) (memory_of new) content sends.prepares.memory (subst (λ a. HasBytes a content (memory_of old) (memory_of new)) at_page there) (omega arith));
    refused = refused;
    memory = user_same (memory_of old) (memory_of new) address (content_size key.n) sends.prepares.memory but (omega arith);
  }

  pub read_after : InRange new.first → InRange new.second → IsIdle motors new × CostsFor bay 2 261 29 (rig_of old) (rig_of new)
  read_after first second = (
    idle_after ran.run first second,
    run_costs ran.run 29 ran.uses (turn_same bay (rig_of old) (rig_of new) (read_sends ran.run ran.run.over.goes.listens.drives).media),
  )
