-- The results of a data command are taken, and the machine is idle again.
use Rattle.std.proofs.Common.{◌≡◌, ℕ, ◌≤◌, ◌==◌, true, false, [], Result as result, refl, sym, ◌∙◌, ap, subst, arith, ◌+◌, ◌*◌, Bool, List, ◌∷◌, length}
use Rattle.machine_commands.proofs.Common.{Chrn, Code, InRange, Results, Ending, is_executing, given, result_byte, interrupt_after, is_held, dor_of, polled, Long, Fdc, Phase, Command, Result, is_unread, AreShort, with_one, Order, Scene, Low, Board, controller_of, holds_of, Inputs, Finishes, outcome_of, dor_with, IsReady, AreSeeksOver, IsIdle, is_up, latch_taken, Motors, Done, false≢true, nat_tests, phase_after, TakesResults, Rate, Outputs, stirred, Prepares, SetsChannel, Sends, Settles, rate_byte, rig_of, most_steps_of, Lasts, Uses, Runs, lasts_clock, lasts_input, lasts_none, lasts_output, lasts_taken, lasts_twice, lasts_wait, lasts_within, uses_input, uses_none, uses_output, uses_taken, uses_twice, uses_wait, uses_within, CostsFor, turn_in, EndsSeek, ReadsLine, Resets, SendsRecalibrate, SendsSeek, SensesDrive, StartsMotor, TakesPolls, none_on, SetsAddress, SetsCount, with_motor_of, Senses, TakesNumber}
use Rattle.laws_machine.specs.OnAwaits.Goes.{GoesOn}
use Rattle.machine_commands.proofs.Idling.{idle_by, IsResting, KeepsSpeed, KeepsAll, Idles}
use Rattle.machine_commands.proofs.Accesses.{input_idles, settles_to}
use Rattle.machine_commands.proofs.Bytes.{with_bytes}
use Rattle.machine_commands.proofs.Courses.{resting, awaits_end}
use Rattle.machine_commands.proofs.Steps.{idles_then, idles_as, keeps_then, speed_then, unpolled, low_line}

-- ---- the phase

-- results of which no byte was read
pub record HasResults (phase : Phase) : Type 0 where
  pub ending : Ending
  pub results : Results
  pub is : phase ≡ Result (Long ending results 0)

unread_results : (phase : Phase) → is_unread phase ≡ true → HasResults phase
unread_results (Result (Long ending results taken)) unread =
    let first : (taken == 0) ≡ true = unread in
    let none : taken ≡ 0 = grind (arith, nat_tests) in
    record { ending = ending; results = results; is = ap (λ n. Result (Long ending results n)) none }
unread_results _ unread = absurd (false≢true unread)

-- ---- the bytes

abbrev pub giving : Fdc → Ending → Results → ℕ → Fdc
giving fdc ending results k = record fdc { interrupt = false; phase = Result (Long ending results k) }

abbrev pub done_at : Fdc → Fdc
done_at fdc = record fdc { interrupt = false; phase = Command }

rests_giving : (fdc : Fdc) (ending : Ending) (results : Results) (k : ℕ) → IsResting fdc → IsResting (giving fdc ending results k)
rests_giving fdc ending results k rest = record { no_command = refl; no_seek = rest.no_seek; not_asking = rest.not_asking; no_poll = rest.no_poll }

rests_done : (fdc : Fdc) → IsResting fdc → IsResting (done_at fdc)
rests_done fdc rest = record { no_command = refl; no_seek = rest.no_seek; not_asking = rest.not_asking; no_poll = rest.no_poll }

-- a byte that is read
record GivesByte (byte : ℕ) (old : Board) (fdc next : Fdc) (new : Board) : Type 0 where
  pub idles : Idles next old new
  pub byte_is : byte ≡ result_byte fdc.phase

gives_byte : (byte : ℕ) (old new : Board) (fdc next : Fdc) → controller_of old ≡ fdc → given fdc ≡ next → IsResting next → Inputs 0x3F5 old byte new → GivesByte byte old fdc next new
gives_byte byte old new fdc next at after rest access =
    let same : given (controller_of old) ≡ next = ap given at ∙ after in record {
      idles = idles_as old new (given (controller_of old)) next same (input_idles 0x3F5 byte old new access refl (subst IsResting (sym same) rest));
      byte_is = access.value_is ∙ ap (λ f. result_byte f.phase) at;
    }

same_key : (a b : Chrn) → a.c ≡ b.c → a.h ≡ b.h → a.r ≡ b.r → a.n ≡ b.n → a ≡ b
same_key a b c h r n =
    ap (λ v. let k : Chrn = record { c = v; h = a.h; r = a.r; n = a.n } in k) c
    ∙ (ap (λ v. let k : Chrn = record { c = b.c; h = v; r = a.r; n = a.n } in k) h
    ∙ (ap (λ v. let k : Chrn = record { c = b.c; h = b.h; r = v; n = a.n } in k) r
    ∙ ap (λ v. let k : Chrn = record { c = b.c; h = b.h; r = b.r; n = v } in k) n))

-- the outcome that these results come to
abbrev pub outcome_in : Results → result Done Code
outcome_in results = outcome_of results.st0.0 results.st1.0 results.st2.0 results.key

pub record HasTaken (outcome : result Done Code) (results : Results) (old : Board) (fdc : Fdc) (new : Board) : Type 0 where
  pub idles : Idles (done_at fdc) old new
  pub outcome_is : outcome ≡ outcome_in results

has_taken : (outcome : result Done Code) (ending : Ending) (results : Results) (old new : Board) (fdc : Fdc) → controller_of old ≡ fdc → fdc.phase ≡ Result (Long ending results 0)
    → IsResting fdc → TakesResults old outcome new → HasTaken outcome results old fdc new
has_taken outcome ending results old new fdc at phase rest takes =
    let g : ℕ → Fdc = λ k. giving fdc ending results k in
    let r : (k : ℕ) → IsResting (g k) = λ k. rests_giving fdc ending results k rest in
    let first : given fdc ≡ giving fdc ending results 1 =
    ap (λ p. let f : Fdc = record fdc { interrupt = interrupt_after p fdc.interrupt; phase = phase_after p } in f) phase in
    let one = gives_byte takes.st0 old takes.after_st0 fdc (giving fdc ending results 1) at first (r 1) takes.first in
    let two = gives_byte takes.st1 takes.after_st0 takes.after_st1 (giving fdc ending results 1) (giving fdc ending results 2) one.idles.controller_is refl (r 2) takes.second in
    let three = gives_byte takes.st2 takes.after_st1 takes.after_st2 (giving fdc ending results 2) (giving fdc ending results 3) two.idles.controller_is refl (r 3) takes.third in
    let four = gives_byte takes.key.c takes.after_st2 takes.keys.after_c (giving fdc ending results 3) (giving fdc ending results 4) three.idles.controller_is refl (r 4) takes.keys.c in
    let five = gives_byte takes.key.h takes.keys.after_c takes.keys.after_h (giving fdc ending results 4) (giving fdc ending results 5) four.idles.controller_is refl (r 5) takes.keys.h in
    let six = gives_byte takes.key.r takes.keys.after_h takes.keys.after_r (giving fdc ending results 5) (giving fdc ending results 6) five.idles.controller_is refl (r 6) takes.keys.r in
    let seven = gives_byte takes.key.n takes.keys.after_r new (giving fdc ending results 6) (done_at fdc) six.idles.controller_is refl (rests_done fdc rest) takes.keys.n in
    let to_status = idles_then (idles_then one.idles two.idles) three.idles in
    let to_key = idles_then (idles_then (idles_then to_status four.idles) five.idles) six.idles in
    record {
      idles = idles_then to_key seven.idles;
      outcome_is = takes.is
          ∙ rw (one.byte_is ∙ ap result_byte phase, two.byte_is, three.byte_is, same_key takes.key results.key four.byte_is five.byte_is six.byte_is seven.byte_is) refl;
    }

-- ---- all of the end

pub record HasFinished (order : Order) (scene : Scene) (start : Board) (outcome : result Done Code) (new : Board) : Type 0 where
  pub at : Board
  pub goes : GoesOn order scene start at
  pub idle : is_executing (controller_of at).phase ≡ false
  pub results : HasResults (controller_of at).phase
  pub outcome_is : outcome ≡ outcome_in results.results
  pub keeps : KeepsAll (latch_taken at) new
  pub first : KeepsSpeed at.first new.first
  pub second : KeepsSpeed at.second new.second
  pub controller_is : controller_of new ≡ done_at (controller_of at)
  pub low : is_up new ≡ false

pub has_finished : (order : Order) (scene : Scene) (start : Board) → is_held (controller_of start) ≡ false → AreShort (holds_of start) → (outcome : result Done Code) (sent new : Board)
    → GoesOn order scene start sent → Finishes sent outcome new → HasFinished order scene start outcome new
has_finished order scene start free short outcome sent new was finishes =
    let told = awaits_end order scene start free short sent finishes.awaited finishes.awaits was in
    let at = told.at in
    let fdc = controller_of at in
    let rest = resting (with_one start) start at told.goes.awaited told.idle in
    let results = unread_results fdc.phase (told.goes.awaited.ended told.idle).unread in
    let status = input_idles 0x3F4 told.value (latch_taken at) finishes.awaited told.reads refl rest in
    let taken = has_taken outcome results.ending results.results finishes.awaited finishes.taken fdc status.controller_is results.is rest finishes.takes in
    let all = idles_then status taken.idles in
    let calm = rests_done fdc rest in
    let settled = settles_to finishes.taken new (done_at fdc) finishes.settles (ap polled all.controller_is ∙ unpolled (done_at fdc) calm.no_poll) calm in
    record {
      at = at;
      goes = told.goes;
      idle = told.idle;
      results = results;
      outcome_is = taken.outcome_is;
      keeps = keeps_then (latch_taken at) finishes.taken new all.stays.keeps settled.keeps;
      first = speed_then at.first finishes.taken.first new.first all.stays.first settled.first;
      second = speed_then at.second finishes.taken.second new.second all.stays.second settled.second;
      controller_is = settled.controller_is;
      low = settled.level ∙ low_line (done_at fdc) refl;
    }

-- ---- idle again

-- a machine that was idle, to which all bytes of a command but the last were sent
pub record IsSending (motors : Motors) (bay : ℕ) (board : Board) : Type 0 where
  pub bay_in : bay ≤ 1
  pub ready : IsReady (with_bytes [] (controller_of board))
  pub dor : dor_of (controller_of board) ≡ dor_with motors bay
  pub first : board.first.motor ≡ motors.first
  pub second : board.second.motor ≡ motors.second
  pub low : is_up board ≡ false
  pub request : (holds_of board).request ≡ Low

pub finished_idle : (motors : Motors) (bay : ℕ) (order : Order) (scene : Scene) (start : Board) (outcome : result Done Code) (new : Board) → IsSending motors bay start
    → HasFinished order scene start outcome new → InRange new.first → InRange new.second → IsIdle motors new
finished_idle motors bay order scene start outcome new sending over first second =
    let awaited = over.goes.awaited in
    let holds = awaited.holds in
    let ready : IsReady (done_at (controller_of over.at)) = record {
      phase = refl;
      no_bytes = holds.command;
      seeks = subst AreSeeksOver (sym holds.seeks) sending.ready.seeks;
      by_dma = holds.non_dma ∙ sending.ready.by_dma;
      polled = awaited.calm.polled;
      no_interrupt = refl;
      not_asking = (awaited.ended over.idle).quiet;
      fifo_on = holds.on ∙ sending.ready.fifo_on;
      threshold = holds.threshold ∙ sending.ready.threshold;
    } in
    idle_by motors bay _ new sending.bay_in over.controller_is ready (ap (λ dor. dor.0) holds.dor ∙ sending.dor)
    (over.first.motor ∙ (awaited.first.motor ∙ sending.first)) (over.second.motor ∙ (awaited.second.motor ∙ sending.second)) over.low first second

-- ---- what commands cost: how long they last, apart from the gaps after their port accesses, and how many port
-- accesses they make.

-- at most so many device steps, and at most so many port accesses
pub record Costs (steps accesses : ℕ) (old new : Board) : Type 0 where
  pub lasts : Lasts steps old new
  pub uses : Uses accesses old new

-- ---- one call, and one after another

pub costs_none : (old : Board) → Costs 0 0 old old
costs_none old = record { lasts = lasts_none old; uses = uses_none old }

input_costs : (port value : ℕ) (old new : Board) → Inputs port old value new → Costs 0 1 old new
input_costs port value old new access = record { lasts = lasts_input port value old new access; uses = uses_input port value old new access }

output_costs : (port value : ℕ) (old new : Board) → Outputs port value old new → Costs 0 1 old new
output_costs port value old new access = record { lasts = lasts_output port value old new access; uses = uses_output port value old new access }

wait_costs : (n : ℕ) (old new : Board) → Runs n (stirred old) new → Costs n 0 old new
wait_costs n old new runs = record { lasts = lasts_wait n old new runs; uses = uses_wait n old new runs }

pub costs_twice : (n m p q : ℕ) (a b c : Board) → Costs n p a b → Costs m q b c → Costs (n + m) (p + q) a c
costs_twice n m p q a b c first second = record {
  lasts = lasts_twice n m a b c first.lasts second.lasts;
  uses = uses_twice p q a b c first.uses second.uses;
}

pub costs_within : (n m p q : ℕ) (a b : Board) → n ≤ m → p ≤ q → Costs n p a b → Costs m q a b
costs_within n m p q a b shorter fewer costs = record {
  lasts = lasts_within n m a b shorter costs.lasts;
  uses = uses_within p q a b fewer costs.uses;
}

-- accesses, which take only the device steps of gaps, before and after others
pub before : (n p q : ℕ) (a b c : Board) → Costs 0 p a b → Costs n q b c → Costs n (p + q) a c
before n p q a b c first second = costs_within (0 + n) n (p + q) (p + q) a c (omega arith) (omega arith) (costs_twice 0 n p q a b c first second)

pub behind : (n p q : ℕ) (a b c : Board) → Costs n p a b → Costs 0 q b c → Costs n (p + q) a c
behind n p q a b c first second = costs_within (n + 0) n (p + q) (p + q) a c (omega arith) (omega arith) (costs_twice n 0 p q a b c first second)

-- ---- bytes

pub sends_cost : (bytes : List ℕ) (old new : Board) → Sends bytes old new → Costs 0 (length bytes) old new
sends_cost [] old new same = subst (λ b. Costs 0 0 old b) (sym same) (costs_none old)
sends_cost (byte ∷ rest) old new (between, access, others) =
    costs_within 0 0 (1 + length rest) (length (byte ∷ rest)) old new (omega arith) (omega arith)
    (before 0 1 (length rest) old between new (output_costs 0x3F5 byte old between access) (sends_cost rest between new others))

pub settles_cost : (old new : Board) → Settles old new → Costs 1 0 old new
settles_cost old new settles =
    let taken : Costs 0 0 settles.between (latch_taken settles.between) = record { lasts = lasts_taken settles.between; uses = uses_taken settles.between } in
    subst (λ b. Costs 1 0 old b) (sym settles.taken) (behind 1 0 0 old settles.between (latch_taken settles.between) (wait_costs 1 old settles.between settles.runs) taken)

number_costs : (none : Bool) (old new : Board) → TakesNumber none old new → Costs 0 1 old new
number_costs true old new same = subst (λ b. Costs 0 1 old b) (sym same) (costs_within 0 0 0 1 old old (omega arith) (omega arith) (costs_none old))
number_costs false old new (number, access) = input_costs 0x3F5 number old new access

pub senses_cost : (status : ℕ) (old new : Board) → Senses old status new → Costs 0 3 old new
senses_cost status old new senses =
    before 0 1 2 old senses.sent new (sends_cost (0x08 ∷ []) old senses.sent senses.sends)
    (before 0 1 1 senses.sent senses.between new (input_costs 0x3F5 status senses.sent senses.between senses.takes) (number_costs (status == 0x80) senses.between new senses.number))

-- ---- reset

polls_cost : (old new : Board) → TakesPolls old new → Costs 1 12 old new
polls_cost old new polls =
    behind 1 0 12 old polls.polled new (settles_cost old polls.polled polls.settles)
    (before 0 3 9 polls.polled polls.one new (senses_cost polls.status_0 polls.polled polls.one polls.first)
    (before 0 3 6 polls.one polls.two new (senses_cost polls.status_1 polls.one polls.two polls.second)
    (before 0 3 3 polls.two polls.three new (senses_cost polls.status_2 polls.two polls.three polls.third) (senses_cost polls.status_3 polls.three new polls.fourth))))

pub resets_cost : (old new : Board) → Resets old new → Costs 2 22 old new
resets_cost old new resets =
    let set =
    before 1 3 5 resets.polled resets.specified new (sends_cost (0x03 ∷ 0xAF ∷ 0x02 ∷ []) resets.polled resets.specified resets.specifies)
    (before 1 4 1 resets.specified resets.configured new (sends_cost (0x13 ∷ 0x00 ∷ 0x07 ∷ 0x00 ∷ []) resets.specified resets.configured resets.configures)
    (before 1 1 0 resets.configured resets.rated new (output_costs 0x3F7 0x00 resets.configured resets.rated resets.rates) (settles_cost resets.rated new resets.settles))) in
    before 2 1 21 old resets.held new (output_costs 0x3F2 0x00 old resets.held resets.holds)
    (before 2 1 20 resets.held resets.released new (output_costs 0x3F2 (dor_with none_on 0) resets.held resets.released resets.releases)
    (costs_twice 1 1 12 8 resets.released resets.polled new (polls_cost resets.released resets.polled resets.polls) set))

-- ---- questions, and motors

pub line_costs : (motors : Motors) (bay : ℕ) (changed : Bool) (old new : Board) → ReadsLine motors bay old changed new → Costs 0 2 old new
line_costs motors bay changed old new reads =
    before 0 1 1 old reads.selected new (output_costs 0x3F2 (dor_with motors bay) old reads.selected reads.selects) (input_costs 0x3F7 reads.value reads.selected new reads.reads)

pub drive_costs : (motors : Motors) (bay status : ℕ) (old new : Board) → SensesDrive motors bay old status new → Costs 0 4 old new
drive_costs motors bay status old new senses =
    before 0 1 3 old senses.selected new (output_costs 0x3F2 (dor_with motors bay) old senses.selected senses.selects)
    (before 0 2 1 senses.selected senses.sent new (sends_cost (0x04 ∷ bay ∷ []) senses.selected senses.sent senses.sends) (input_costs 0x3F5 status senses.sent new senses.takes))

pub motor_costs : (motors : Motors) (bay : ℕ) (old new : Board) → StartsMotor motors bay old new → Costs 6250 1 old new
motor_costs motors bay old new starts =
    before 6250 1 0 old starts.between new (output_costs 0x3F2 (dor_with (with_motor_of bay motors) bay) old starts.between starts.turns_on) (wait_costs 6250 starts.between new starts.runs)

-- ---- heads

ends_cost : (status : ℕ) (old new : Board) → EndsSeek old status new → Costs 81 3 old new
ends_cost status old new ends =
    costs_twice 80 1 0 3 old ends.waited new (wait_costs 80 old ends.waited ends.runs)
    (before 1 3 0 ends.waited ends.sensed new (senses_cost status ends.waited ends.sensed ends.senses) (settles_cost ends.sensed new ends.settles))

pub recalibrate_costs : (motors : Motors) (bay status : ℕ) (old new : Board) → SendsRecalibrate motors bay old status new → Costs 81 6 old new
recalibrate_costs motors bay status old new sends =
    before 81 1 5 old sends.selected new (output_costs 0x3F2 (dor_with motors bay) old sends.selected sends.selects)
    (before 81 2 3 sends.selected sends.sent new (sends_cost (0x07 ∷ bay ∷ []) sends.selected sends.sent sends.sends) (ends_cost status sends.sent new sends.ends))

pub seek_costs : (motors : Motors) (bay target : ℕ) (old new : Board) → SendsSeek motors bay target old new → Costs 81 7 old new
seek_costs motors bay target old new sends =
    before 81 1 6 old sends.selected new (output_costs 0x3F2 (dor_with motors bay) old sends.selected sends.selects)
    (before 81 3 3 sends.selected sends.sent new (sends_cost (0x0F ∷ bay ∷ target ∷ []) sends.selected sends.sent sends.sends) (ends_cost sends.status sends.sent new sends.ends))

-- ---- a data command, but for its end

pub prepares_cost : (motors : Motors) (bay : ℕ) (rate : Rate) (old new : Board) → Prepares motors bay rate old new → Costs 0 2 old new
prepares_cost motors bay rate old new prepares =
    before 0 1 1 old prepares.selected new (output_costs 0x3F2 (dor_with motors bay) old prepares.selected prepares.selects) (output_costs 0x3F7 (rate_byte rate) prepares.selected new prepares.rates)

address_costs : (address : ℕ) (old new : Board) → SetsAddress address old new → Costs 0 3 old new
address_costs address old new sets =
    before 0 1 2 old sets.low new (output_costs 0x04 _ old sets.low sets.lows)
    (before 0 1 1 sets.low sets.high new (output_costs 0x04 _ sets.low sets.high sets.highs) (output_costs 0x81 _ sets.high new sets.pages))

count_costs : (last : ℕ) (old new : Board) → SetsCount last old new → Costs 0 2 old new
count_costs last old new sets = before 0 1 1 old sets.low new (output_costs 0x05 _ old sets.low sets.lows) (output_costs 0x05 _ sets.low new sets.highs)

pub channel_costs : (mode address last : ℕ) (old new : Board) → SetsChannel mode address last old new → Costs 0 10 old new
channel_costs mode address last old new sets =
    before 0 1 9 old sets.enabled new (output_costs 0x08 0 old sets.enabled sets.enables)
    (before 0 1 8 sets.enabled sets.masked new (output_costs 0x0A 0x06 sets.enabled sets.masked sets.masks)
    (before 0 1 7 sets.masked sets.cleared new (output_costs 0x0C 0 sets.masked sets.cleared sets.clears)
    (before 0 1 6 sets.cleared sets.moded new (output_costs 0x0B mode sets.cleared sets.moded sets.modes)
    (before 0 3 3 sets.moded sets.placed new (address_costs address sets.moded sets.placed sets.places)
    (before 0 2 1 sets.placed sets.counted new (count_costs last sets.placed sets.counted sets.counts) (output_costs 0x0A 0x02 sets.counted new sets.unmasks))))))

pub results_cost : (outcome : result Done Code) (old new : Board) → TakesResults old outcome new → Costs 0 7 old new
results_cost outcome old new takes =
    let keys = takes.keys in
    before 0 1 6 old takes.after_st0 new (input_costs 0x3F5 takes.st0 old takes.after_st0 takes.first)
    (before 0 1 5 takes.after_st0 takes.after_st1 new (input_costs 0x3F5 takes.st1 takes.after_st0 takes.after_st1 takes.second)
    (before 0 1 4 takes.after_st1 takes.after_st2 new (input_costs 0x3F5 takes.st2 takes.after_st1 takes.after_st2 takes.third)
    (before 0 1 3 takes.after_st2 keys.after_c new (input_costs 0x3F5 takes.key.c takes.after_st2 keys.after_c keys.c)
    (before 0 1 2 keys.after_c keys.after_h new (input_costs 0x3F5 takes.key.h keys.after_c keys.after_h keys.h)
    (before 0 1 1 keys.after_h keys.after_r new (input_costs 0x3F5 takes.key.r keys.after_h keys.after_r keys.r) (input_costs 0x3F5 takes.key.n keys.after_r new keys.n))))))

-- ---- the end of a data command: the steps that it takes, one more while it goes on, one after its end, and one to
-- settle. The last watch looks at a port once

pub finishes_cost : (order : Order) (scene : Scene) (start : Board) → is_held (controller_of start) ≡ false → AreShort (holds_of start) → (outcome : result Done Code) (sent new : Board)
    → GoesOn order scene start sent → Finishes sent outcome new → Costs (most_steps_of scene.disk.words_per_track + 3) 8 sent new
finishes_cost order scene start free short outcome sent new goes finishes =
    let most = most_steps_of scene.disk.words_per_track in
    let ends = awaits_end order scene start free short sent finishes.awaited finishes.awaits goes in
    let awaits : Costs (most + 2) 1 sent finishes.awaited = record { lasts = ends.lasts; uses = ends.uses } in
    costs_within (most + 2 + 1) (most + 3) (1 + 7) 8 sent new (omega arith) (omega arith)
    (costs_twice (most + 2) 1 1 7 sent finishes.awaited new awaits
    (before 1 7 0 finishes.awaited finishes.taken new (results_cost outcome finishes.awaited finishes.taken finishes.takes) (settles_cost finishes.taken new finishes.settles)))

-- ---- as a driver sees it

pub rig_costs : (bay turns steps accesses most : ℕ) (old new : Board) → turn_in (rig_of new) bay ≡ turn_in (rig_of old) bay → most ≤ turns * turn_in (rig_of old) bay + steps → Costs most accesses old new
    → CostsFor bay turns steps accesses (rig_of old) (rig_of new)
rig_costs bay turns steps accesses most old new turn few costs =
    let clock = lasts_clock most old new costs.lasts in
    record { turn = turn; costs = (omega (arith, few, clock), costs.uses) }
