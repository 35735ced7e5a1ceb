-- READ ID.
use Rattle.std.proofs.Common.{◌≡◌, ℕ, ◌*◌, ◌+◌, ◌≤◌, true, List, [], Result as result, Ok, Err, IfOk, IfErr, sym, ◌∙◌, ap, subst, arith}
use Rattle.machine_commands.proofs.Common.{Chrn, Code, Rate, in_bay, IsFaultless, IsAddressAt, HasClearAddress, InRange, Ready, Ending, NoMark, NoSector, scene_of, Scene, track_met, IsCalm, Board, channel_of, drive_in, memory_of, track_under, IsIdle, rig_of, Motors, Done, ReadId, spells_id, Finished, Identify, id_ended, id_memory, ReadsId, CostsFor, turn_same, SendsReadId, key_told, user_part, page_part}
use Rattle.fdc_phases.specs.Heard.{key_met}
use Rattle.laws_machine.specs.OnReads.Ids.{IdEndedIn, IdEndsAs, sent_id}
use Rattle.machine_commands.proofs.Beginning.{IsRun, head_of_sent, is_run, small_drive, outcome_is, told_as}
use Rattle.machine_commands.proofs.Lasting.{costs_none}
use Rattle.machine_commands.proofs.Preparing.{none_set}
use Rattle.machine_commands.proofs.Seeing.{calm_drive, idle_after, memory_after, memory_before, read_sends, run_costs, track_before}

-- what the track has to be for each outcome
abbrev SaysOf : Scene → ℕ → result Chrn Code → Type 0
SaysOf scene faults (Ok key) = (p : ℕ) × IsAddressAt (track_met scene) p key
SaysOf scene faults (Err code) = IsCalm scene.faults faults → (key : Chrn) → HasClearAddress (track_met scene) key → ⊥

told_by : (scene : Scene) (faults : ℕ) (ending : Ending) (key : Chrn) → IdEndsAs scene faults key ending → SaysOf scene faults (key_told (told_as ending (key_met ending key)))
told_by scene faults (Finished deleted) key says = says
told_by scene faults NoMark key says = λ calm other (p, clear). says calm (p, clear.address.mark)
told_by scene faults NoSector key says = λ calm other (p, clear). says.1 calm p other tt clear.address clear.clear.inner
told_by scene faults _ key says = absurd says

found_by : (scene : Scene) (faults : ℕ) (track : List ℕ) (told : result Chrn Code) → track_met scene ≡ track → SaysOf scene faults told → IfOk told (λ key. (p : ℕ) × IsAddressAt track p key)
found_by scene faults track (Ok key) same says = subst (λ t. (p : ℕ) × IsAddressAt t p key) same says
found_by scene faults track (Err code) same says = tt

refused_by : (scene : Scene) (faults : ℕ) (track : List ℕ) (Faultless : Type 0) (told : result Chrn Code) → track_met scene ≡ track → (Faultless → IsCalm scene.faults faults) → SaysOf scene faults told
    → IfErr told (λ code. Faultless → (key : Chrn) → HasClearAddress track key → ⊥)
refused_by scene faults track Faultless (Ok key) same calm says = tt
refused_by scene faults track Faultless (Err code) same calm says = λ none key clear. says (calm none) key (subst (λ t. HasClearAddress t key) (sym same) clear)

module _ (motors : Motors) (bay head : ℕ) (rate : Rate) (outcome : result Done Code) (old new : Board) (idle : IsIdle motors old) (small : bay ≤ 1) (low : head ≤ 1)
    (spun : in_bay (rig_of old).spun bay ≡ true) (sends : SendsReadId motors bay head rate old outcome new) where
  abbrev head_drive : ℕ
  head_drive = head * 4 + bay

  ran : IsRun Identify (sent_id head_drive) bay 0 0 motors rate 12 old outcome new
  ran = is_run Identify (sent_id head_drive) bay 0 0 motors rate 0 12 channel_of [] 0x4A head_drive old sends.ready sends.ready sends.sent outcome new idle small spun (omega arith) sends.prepares
      (λ _. none_set sends.ready) (costs_none sends.ready) (omega arith) tt (spells_id head_drive).code sends.sends sends.finishes (λ disk board. tt)
      (λ disk board takes. record { whole = takes.whole (Ready (ReadId head_drive)) (spells_id head_drive).whole; taking = takes.taking; dma = takes.dma; no_seek = takes.no_seek })

  abbrev scene : Scene
  scene = scene_of (sent_id head_drive) bay ran.disk 0 0 ran.start

  pub reads_id : ReadsId bay head rate (rig_of old) (key_told outcome) (rig_of new)
  reads_id =
      let over = ran.run.over in
      let at = over.at in
      let faults = (drive_in at bay).faults in
      let (results, ends) = subst (IdEndedIn scene faults) over.results.is (id_ended scene at over.goes.underway) in
      let says : SaysOf scene faults (key_told outcome) =
      subst (λ told. SaysOf scene faults (key_told told))
      (sym (outcome_is outcome over.results.ending over.results.results head_drive (key_met over.results.ending over.results.results.key) (small_drive head bay low small) over.outcome_is results))
      (told_by scene faults over.results.ending over.results.results.key ends) in
      let track = track_before ran.run head (head_of_sent head bay low small) in
      let memory_now : memory_of new ≡ memory_of old = memory_after ran.run ∙ (id_memory scene at over.goes.underway ∙ memory_before ran.run) in
      record {
        sends = read_sends ran.run over.goes.listens.drives;
        found = found_by scene faults (track_under (rig_of old) bay rate head) (key_told outcome) track says;
        refused = refused_by scene faults (track_under (rig_of old) bay rate head) (IsFaultless bay (rig_of old).counters (rig_of new).counters) (key_told outcome) track (calm_drive ran.run) says;
        memory = ap user_part memory_now;
        page = ap page_part memory_now;
      }

  pub read_id_idle : InRange new.first → InRange new.second → IsIdle motors new
  read_id_idle = idle_after ran.run

  pub read_id_costs : CostsFor bay 2 261 12 (rig_of old) (rig_of new)
  read_id_costs = run_costs ran.run 12 ran.uses (turn_same bay (rig_of old) (rig_of new) reads_id.sends.media)
