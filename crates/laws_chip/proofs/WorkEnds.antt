-- A command that was given is over after its bound: its results are told with INT.
use Rattle.std.proofs.Common.{◌≡◌, inl, inr, ℕ, ◌+◌, ◌-◌, ◌<◌, ◌≤◌, Bool, true, false, ◌&&◌, Some, List, [], ◌∷◌, refl, ◌∙◌, ap, arith}
use Rattle.laws_chip.proofs.Common.{false≢true, Results, ChipState, code_of, AttendsIf, Begins, BeginsReadId, FormatsIf, Obeys, RemembersIf, TransfersIf, begun, drained, implies, is_moving, is_size, needs_heads, sought_if, with_keys, with_last, ChipOpcode, Order, ChipTask, IsHeldFor, completed, AreWithoutReset, EndsAmong, IsGiven, IsWorking, has_command, most_steps_of, Call, Does, is_reset, is_step, steps_in, steps_of, IsSound, Tells, Front}
use Rattle.laws_chip.proofs.SoundCalls.{call_sound}
use Rattle.laws_chip.proofs.SoundParts.{is_busy}
use Rattle.laws_chip.proofs.UnderWay.{clash, either_way}
use Rattle.laws_chip.proofs.WholeTransfers.{call_held, follows_held, step_attends, step_rests}
use Rattle.laws_chip.proofs.WorkBegins.{is_data, WorkLeft, given_left, work_call, work_some}
use Rattle.laws_chip.proofs.SinglesLast.{busy_works}
use Rattle.laws_chip.proofs.NextStages.{call_goes}
use Rattle.fdc_chip.specs.declared.code.ChipOpcode.TheVariants as code
use Rattle.laws_chip.specs.Calls as made

-- ---- a command that begins is executed

remembers_busy : (b : Bool) (old new : ChipState) → is_busy old.stage ≡ true → RemembersIf b old new → is_busy new.stage ≡ true
remembers_busy true old new busy (gives, rest) = ap (λ (chip : ChipState). is_busy chip.stage) rest ∙ busy
remembers_busy false old new busy is = ap (λ (chip : ChipState). is_busy chip.stage) is ∙ busy

begins_busy : (what : ChipTask) (Gives : Front → Front → Type 0) (old new : ChipState) → Begins what Gives old new → is_busy new.stage ≡ true
begins_busy what Gives old new begins =
    ap (λ (chip : ChipState). is_busy chip.stage) begins.rest ∙ remembers_busy old.settings.forgotten (begun what old) begins.set refl begins.opens

transfers_busy : (b mfm : Bool) (what : ChipTask) (order : Order) (old new : ChipState) → TransfersIf b mfm what order old new → is_busy new.stage ≡ true
transfers_busy true mfm what order old new begins = begins_busy _ _ (sought_if (implies old) old) new begins
transfers_busy false mfm what order old new begins = begins_busy _ _ old new begins

formats_busy : (b mfm : Bool) (old new : ChipState) → FormatsIf b mfm old new → is_busy new.stage ≡ true
formats_busy true mfm old new begins = begins_busy _ _ old new begins
formats_busy false mfm old new begins = begins_busy _ _ old new begins

id_busy : (mfm : Bool) (old new : ChipState) → BeginsReadId mfm old new → is_busy new.stage ≡ true
id_busy true old new begins = begins_busy _ _ old new begins
id_busy false old new begins = begins_busy _ _ old new begins

pub obeys_busy : (found : ChipOpcode) (old new : ChipState) → is_data found ≡ true → Obeys found old new → is_busy new.stage ≡ true
obeys_busy (code.ReadId mfm) old new kind obeys = id_busy mfm old new obeys
obeys_busy (code.FormatTrack mfm) old new kind obeys = formats_busy (mfm && is_size old.order.key.c) mfm (with_keys old.order.key.h (with_last old.order.key.h old)) new obeys
obeys_busy (code.Transfer mfm) old new kind obeys = transfers_busy (mfm && is_size old.order.key.n) mfm _ _ (with_last old.order.last_sector old) new obeys
obeys_busy (code.Verify mfm) old new kind obeys = transfers_busy (mfm && is_size old.order.key.n) mfm _ _ (with_last old.order.last_sector old) new obeys
obeys_busy (code.ReadTrack mfm) old new kind obeys = transfers_busy (mfm && is_size old.order.key.n) mfm _ _ (with_last old.order.last_sector old) new obeys
obeys_busy _ old new kind obeys = absurd (false≢true kind)

attends_works : (b : Bool) (found : ChipOpcode) (old new : ChipState) → is_data found ≡ true → AttendsIf b found old new → has_command new.stage ≡ true
attends_works true found old new kind is = ap (λ (chip : ChipState). has_command chip.stage) is
attends_works false found old new kind obeys = busy_works new.stage (obeys_busy found old new kind obeys)

-- ---- a held command stays under way

held_works : (found : ChipOpcode) (order : Order) (call : Call) (old new : ChipState) → is_data found ≡ true → code_of order.code ≡ Some found → IsSound old → IsHeldFor order old → Does call old new → is_reset call ≡ false
    → has_command new.stage ≡ true
held_works found order call old new kind is sound held does quiet = either_way (is_step call)
    (λ steps. by_step call steps does)
    (λ other. ap has_command (call_held order call old new held does other quiet).held)
  where
    attended : Does made.Steps old new → has_command new.stage ≡ true
    attended step =
        let (paced, paces, attends) = follows_held old new step held.held in
        let attended = step_attends found old paced new sound held.held (ap (λ (o : Order). code_of o.code) held.order_is ∙ is) (step_rests old paced new step sound held.held paces) attends in
        attends_works (needs_heads found && is_moving (drained paced)) found (drained paced) new kind attended.attends

    by_step : (call : Call) → is_step call ≡ true → Does call old new → has_command new.stage ≡ true
    by_step made.Steps steps does = attended does
    by_step _ steps does = absurd (false≢true steps)

-- ---- the end

none_left : (n : ℕ) → 0 < n → n ≤ 0 → ⊥
none_left n some none = omega arith

module _ (found : ChipOpcode) (order : Order) (kind : is_data found ≡ true) (heads : needs_heads found ≡ true) (is : code_of order.code ≡ Some found) where
  -- a command that is over after a call was executed, and its results are told
  over_tells : (n : ℕ) (call : Call) (old new : ChipState) → IsSound old → WorkLeft (most_steps_of found order) order n old → Does call old new → is_reset call ≡ false → has_command new.stage ≡ false
      → (results : Results) × Tells results new
  over_tells n call old new sound (inl was) does quiet over = elim (call_goes call was.task old new does was.at quiet) [
    | inl (what, busy) ↦ clash (has_command new.stage) over (ap has_command busy)
    | inr tells ↦ tells
  ]
  over_tells n call old new sound (inr was) does quiet over = clash (has_command new.stage) over (held_works found order call old new kind is sound was.held does quiet)

  works_end : (calls : List Call) (n : ℕ) (old new : ChipState) → IsSound old → IsWorking old → WorkLeft (most_steps_of found order) order n old → (are : AreWithoutReset calls old new) → n ≤ steps_in calls → EndsAmong calls old new are
  works_end [] n old new sound worked was same many = none_left n (work_some found order kind heads is n old sound was) many
  works_end (call ∷ calls) n old new sound worked was (between, does, writes, quiet, ranges, rest) many = either_way (has_command between.stage)
      (λ works.
      let still = call_sound call old between does writes sound in
      let working : IsWorking between = record { works = works; ranges = ranges } in
      inr (works, works_end calls (n - steps_of call) between new still working (work_call found order kind heads is call n old between sound still worked working was does) rest (omega arith)))
      (λ over. inl (over_tells n call old between sound was does quiet over))

pub given_ends : (found : ChipOpcode) → is_data found ≡ true → needs_heads found ≡ true → (wait byte : ℕ) (calls : List Call) (old begun new : ChipState) → IsGiven wait found byte old begun → (are : AreWithoutReset calls begun new)
    → wait + most_steps_of found (completed byte old) ≤ steps_in calls → EndsAmong calls begun new are
given_ends found kind heads wait byte calls old begun new given are many =
    let order = completed byte old in
    works_end found order kind heads given.last.whole calls (wait + most_steps_of found order) begun new
    (call_sound (made.Writes 0x3F5 byte) old begun given.writes given.few given.sound) given.working (given_left wait found byte old begun kind heads given) are many
