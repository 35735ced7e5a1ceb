-- Two steps of one request from alike states that nothing disturbed: they are answered alike, and lead to alike states.
use Rattle.std.proofs.Common.{arith, ◌≡◌, ◌∙◌, ◌+◌, ◌-◌, ◌≤◌, ℕ, nat_le, Bool, true, false, List, length, replicate, refl, sym, ap, subst, Option, Some, None}
use Rattle.std.specs.Prelude.{◌==◌, if◌then◌else◌}
use Rattle.laws_program.proofs.Common.{blank_valid, leb-true, and_parts, length-replicate, Files, stored, Rate, R500, R250, Disk, file_of, Two, in_bay, with_bay, Counters, IsUndisturbed, with_items, user_bytes, bytes_from, Request, Reply, Reason, bay_of, set_bay, fresh_bay, dump_port_accesses, is_bay, State, IsSame, ChangesMedium, Step, Fills, IsDriverCall, IsRefused, refusal_of, is_loaded, unless_bad, is_blank_request, spare_refusal, blank_of, reply_of, read_reply, entered_by, HasRegularDisks, AnswerAlike, length-with_items}
use Rattle.sector_model.specs.Steps.{Does}
use Rattle.laws_program.proofs.AlikeDisks.{AlikeDisks, AlikeMedia, AlikeBays, AlikeStations, disk_itself, loaded_same, bays_in, set_same, memory_same, becomes_same, regular_bay, calm_bay, in_both}
use Rattle.laws_program.proofs.CallsAgree.{CallsAgree, both_ways, length-bytes_from, read_call, write_call, format_call, rate_call, ack_call}
use Rattle.laws_program.proofs.Inserting.{AlikeTold, images_alike, disk_files, stored_same}
use Rattle.floppy_jobs.specs.declared.request.Request.TheVariants as request
use Rattle.sector_model.specs.declared.reply.Reply.TheVariants as reply
use Rattle.sector_model.specs.declared.reply.Reason.TheVariants as reason

-- two states with their told files that differ only in contents
pub record AlikeStages (one : State) (told : Option Files) (two : State) (other : Option Files) : Type 0 where
  pub names : two.names ≡ one.names
  pub stations : AlikeStations one.station two.station
  pub files : AlikeTold told other

-- two steps are answered alike, and lead to such states
pub record StepsAgree (answer answer_too : Reply) (one : State) (told : Option Files) (two : State) (other : Option Files) : Type 0 where
  pub answers : AnswerAlike answer answer_too
  pub after : AlikeStages one told two other

pub same_answers : (a b : Reply) → b ≡ a → AnswerAlike a b
same_answers (reply.Bytes address content) b e = (content, e, refl)
same_answers _ b e = e

-- ---- blank media

-- a request that isn't refused is a good one
taken_good : (good : Bool) (next : Option Reason) → unless_bad good next ≡ None → good ≡ true
taken_good true next e = refl
taken_good false next e = absurd (cc e)

blank_alike : (bay cylinders : ℕ) (rate : Rate) (next : Option Reason) → unless_bad (is_blank_request bay cylinders) next ≡ None → AlikeDisks (blank_of cylinders rate) (blank_of cylinders rate)
blank_alike bay cylinders rate next free =
    let all = and_parts _ _ (taken_good (is_blank_request bay cylinders) next free) in
    let some = and_parts _ _ all.0 in
    disk_itself (blank_of cylinders rate) (blank_valid cylinders rate (leb-true 1 cylinders some.1) (leb-true cylinders 80 all.1))

same_some : {X : Type 0} (o p : Option X) (x y : X) → p ≡ o → o ≡ Some x → p ≡ Some y → y ≡ x
same_some o p x y same e f = cc (same, e, f)

-- nothing disturbed a step
pub record IsCalmStep (asked : Request) (answer : Reply) (old new : Counters) : Type 0 where
  pub first : IsUndisturbed 0 (entered_by old asked answer) new
  pub second : IsUndisturbed 1 (entered_by old asked answer) new

module _ (one two one_new two_new : State) (told other told_after other_after : Option Files) (same : AlikeStages one told two other) (answer answer_too : Reply) where
  abbrev Agrees : Type 0
  Agrees = StepsAgree answer answer_too one_new told_after two_new other_after

  files_stay : told_after ≡ told → other_after ≡ other → AlikeTold told_after other_after
  files_stay first second =
      subst (λ (o : Option Files). AlikeTold told_after o) (sym second)
      (subst (λ (o : Option Files). AlikeTold o other) (sym first) same.files)

  agree : (a : Reply) → answer ≡ a → answer_too ≡ a → two_new.names ≡ one_new.names → AlikeStations one_new.station two_new.station → AlikeTold told_after other_after → Agrees
  agree a first second names stations files = record {
    answers = same_answers answer answer_too (second ∙ sym first);
    after = record { names = names; stations = stations; files = files };
  }

  -- the session refused both
  refused : (cause : Reason) → IsRefused cause one told answer one_new told_after → IsRefused cause two other answer_too two_new other_after → Agrees
  refused cause first second =
      agree (reply.Refused cause) first.answered second.answered (second.same.names ∙ same.names ∙ sym first.same.names)
      (becomes_same one.station two.station one_new.station two_new.station same.stations first.same.stays second.same.stays)
      (files_stay first.files second.files)

  -- both called the driver
  called : (a b : Reply) → answer ≡ a → answer_too ≡ b → IsDriverCall one told one_new told_after → IsDriverCall two other two_new other_after → CallsAgree a b one_new.station two_new.station → Agrees
  called a b is is_too first second calls =
      agree a is (is_too ∙ calls.replies) (second.names ∙ same.names ∙ sym first.names) calls.after (files_stay first.files second.files)

  -- ---- media

  is_loaded_too : (bay : ℕ) → is_loaded two bay ≡ is_loaded one bay
  is_loaded_too bay = loaded_same (bay_of one.station bay).medium (bay_of two.station bay).medium (bays_in one.station two.station bay same.stations).media

  -- media were exchanged for alike ones
  exchanged : (bay : ℕ) (name : Option (List ℕ)) (d e : Option Disk) → AlikeMedia d e → ChangesMedium bay name d one one_new → ChangesMedium bay name e two two_new → (two_new.names ≡ one_new.names) × AlikeStations one_new.station two_new.station
  exchanged bay name d e media first second =
      let bays : AlikeBays (fresh_bay d) (fresh_bay e) = record { media = media; acknowledged = refl; rate = refl } in (
        second.names ∙ ap (λ (n : Two (Option (List ℕ))). with_bay n bay name) same.names ∙ sym first.names,
        becomes_same (set_bay one.station bay (fresh_bay d)) (set_bay two.station bay (fresh_bay e)) one_new.station two_new.station
            (set_same one.station two.station bay (fresh_bay d) (fresh_bay e) same.stations bays) first.exchanged.becomes second.exchanged.becomes,
      )

  put_in : (bay : ℕ) (name : Option (List ℕ)) (d e : Disk) → AlikeDisks d e → answer ≡ reply.Done → answer_too ≡ reply.Done → told_after ≡ told → other_after ≡ other → ChangesMedium bay name (Some d) one one_new → ChangesMedium bay name (Some e) two two_new → Agrees
  put_in bay name d e disks is is_too files files_too first second =
      let after = exchanged bay name (Some d) (Some e) disks first second in
      agree reply.Done is is_too after.0 after.1 (files_stay files files_too)

  -- the order of refusals of a request that puts a medium in is the same for both
  empty_order : (bay : ℕ) (good : Bool) → unless_bad good (if is_loaded two bay then Some reason.Busy else None) ≡ unless_bad good (if is_loaded one bay then Some reason.Busy else None)
  empty_order bay good = ap (λ (b : Bool). unless_bad good (if b then Some reason.Busy else None)) (is_loaded_too bay)

  full_order : (bay : ℕ) → refusal_of two (request.Eject bay) ≡ refusal_of one (request.Eject bay)
  full_order bay = ap (λ (b : Bool). unless_bad (is_bay bay) (if b then None else Some reason.Empty)) (is_loaded_too bay)

  unit_order : (bay : ℕ) → refusal_of two (request.Unit bay) ≡ refusal_of one (request.Unit bay)
  unit_order bay =
      ap (λ (b : Bool). unless_bad (is_bay bay) (if b then Some reason.Busy else spare_refusal two)) (is_loaded_too bay)
      ∙ ap (λ (n : ℕ). unless_bad (is_bay bay) (if is_loaded one bay then Some reason.Busy else (if n == 0 then Some reason.NoSpare else None))) same.stations.as_many

  ejected : (bay : ℕ) → Does (request.Eject bay) one told answer one_new told_after → Does (request.Eject bay) two other answer_too two_new other_after → Agrees
  ejected bay first second =
      let a = first.1 in
      let b = second.1 in
      let disks = in_both (bay_of one.station bay).medium (bay_of two.station bay).medium a.0 b.0 a.2 b.2 (bays_in one.station two.station bay same.stations).media in
      let name : b.1 ≡ a.1 = same_some (in_bay one.names bay) (in_bay two.names bay) a.1 b.1 (ap (λ (n : Two (Option (List ℕ))). in_bay n bay) same.names) a.3 b.3 in
      let after = exchanged bay None None None tt a.4 b.4 in
      let kept = stored_same told other a.1 (file_of a.0) (file_of b.0) same.files (disk_files a.0 b.0 disks) in
      let there : other_after ≡ stored other a.1 (file_of b.0) = b.5 ∙ ap (λ (n : List ℕ). stored other n (file_of b.0)) name in
      agree reply.Done first.0 second.0 after.0 after.1
      (subst (λ (o : Option Files). AlikeTold told_after o) (sym there)
      (subst (λ (o : Option Files). AlikeTold o (stored other a.1 (file_of b.0))) (sym a.5) kept))

  unit_taken : (bay : ℕ) → Does (request.Unit bay) one told answer one_new told_after → Does (request.Unit bay) two other answer_too two_new other_after → Agrees
  unit_taken bay first second =
      let bays : AlikeBays (fresh_bay None) (fresh_bay None) = record { media = tt; acknowledged = refl; rate = refl } in
      let set = set_same one.station two.station bay (fresh_bay None) (fresh_bay None) same.stations bays in
      let count = same.stations.as_many in
      let fewer : AlikeStations (record (set_bay one.station bay (fresh_bay None)) { spares = one.station.spares - 1 }) (record (set_bay two.station bay (fresh_bay None)) { spares = two.station.spares - 1 }) = record { first = set.first; second = set.second; size = set.size; other_size = set.other_size; as_many = ap (λ (n : ℕ). n - 1) count } in
      agree reply.Done first.0 second.0 (second.2 ∙ same.names ∙ sym first.2)
      (becomes_same (record (set_bay one.station bay (fresh_bay None)) { spares = one.station.spares - 1 }) (record (set_bay two.station bay (fresh_bay None)) { spares = two.station.spares - 1 }) one_new.station two_new.station fewer first.3.becomes second.3.becomes)
      (files_stay first.1 second.1)

  -- ---- memory

  filled : (address count byte : ℕ) → address + count ≤ user_bytes → answer ≡ reply.Done → answer_too ≡ reply.Done → told_after ≡ told → other_after ≡ other → Fills address count byte one one_new → Fills address count byte two two_new → Agrees
  filled address count byte within is is_too files files_too first second =
      let bytes = replicate count byte in
      let long : length bytes ≡ count = length-replicate count byte in
      let size = same.stations.size in
      let size_too = same.stations.other_size in
      let left = with_items one.station.memory address bytes in
      let left_too = with_items two.station.memory address bytes in
      agree reply.Done is is_too (second.names ∙ same.names ∙ sym first.names)
      (becomes_same (record one.station { memory = left }) (record two.station { memory = left_too }) one_new.station two_new.station
      (memory_same one.station two.station left left_too same.stations
      (length-with_items one.station.memory address bytes (omega (arith, long, size, within)) ∙ size)
      (length-with_items two.station.memory address bytes (omega (arith, long, size_too, within)) ∙ size_too))
      first.becomes second.becomes)
      (files_stay files files_too)

  dumped : (address count : ℕ) → address + count ≤ user_bytes → answer ≡ reply.Bytes address (bytes_from one.station.memory address count) → answer_too ≡ reply.Bytes address (bytes_from two.station.memory address count) → told_after ≡ told → other_after ≡ other → IsSame (dump_port_accesses count) one one_new → IsSame (dump_port_accesses count) two two_new → Agrees
  dumped address count within is is_too files files_too first second =
      let size = same.stations.size in
      let size_too = same.stations.other_size in
      let bytes = bytes_from one.station.memory address count in
      let bytes_too = bytes_from two.station.memory address count in
      let as_many : length bytes_too ≡ length bytes = length-bytes_from two.station.memory address count (omega (arith, size_too, within)) ∙ sym (length-bytes_from one.station.memory address count (omega (arith, size, within))) in
      record {
        answers = subst (λ (r : Reply). AnswerAlike r answer_too) (sym is) (bytes_too, is_too, as_many);
        after = record {
          names = second.names ∙ same.names ∙ sym first.names;
          stations = becomes_same one.station two.station one_new.station two_new.station same.stations first.stays second.stays;
          files = files_stay files files_too;
        };
      }

  -- ---- each request

  -- both steps follow one order of refusals
  by_order : (asked : Request) → refusal_of two asked ≡ refusal_of one asked → Step asked one told answer one_new told_after → Step asked two other answer_too two_new other_after → (refusal_of one asked ≡ None → Does asked one told answer one_new told_after → Does asked two other answer_too two_new other_after → Agrees) → Agrees
  by_order asked order first second taken =
      both_ways Agrees (Does asked one told answer one_new told_after) (Does asked two other answer_too two_new other_after)
      (λ cause. IsRefused cause one told answer one_new told_after) (λ cause. IsRefused cause two other answer_too two_new other_after)
      (refusal_of one asked) (refusal_of two asked) order first second taken refused

  -- ---- each request, where nothing disturbed the steps

  module _ (regular : HasRegularDisks one) where
    abbrev Calm : Request → Type 0
    Calm asked = IsCalmStep asked answer one.station.counters one_new.station.counters

    abbrev CalmToo : Request → Type 0
    CalmToo asked = IsCalmStep asked answer_too two.station.counters two_new.station.counters

    quiet : (bay : ℕ) → IsUndisturbed 0 one.station.counters one_new.station.counters → IsUndisturbed 1 one.station.counters one_new.station.counters → IsUndisturbed bay one.station.counters one_new.station.counters
    quiet bay a b = calm_bay bay one.station.counters one_new.station.counters a b

    quiet_too : (bay : ℕ) → IsUndisturbed 0 two.station.counters two_new.station.counters → IsUndisturbed 1 two.station.counters two_new.station.counters → IsUndisturbed bay two.station.counters two_new.station.counters
    quiet_too bay a b = calm_bay bay two.station.counters two_new.station.counters a b

    pub steps_agree : (asked : Request) → Calm asked → CalmToo asked → Step asked one told answer one_new told_after → Step asked two other answer_too two_new other_after → Agrees
    steps_agree (request.Insert bay name) calm calm_too first second =
        by_order (request.Insert bay name) (empty_order bay (is_bay bay)) first second
        (λ free a b.
        let d = a.2 in
        let e = b.2 in
        put_in bay (Some name) d.0 e.0 (images_alike told other name d.0 e.0 same.files d.1 e.1) a.0 b.0 a.1 b.1 d.2 e.2)
    steps_agree (request.Blank bay name cylinders) calm calm_too first second =
        by_order (request.Blank bay name cylinders) (empty_order bay (is_blank_request bay cylinders)) first second
        (λ free a b.
        let disks = blank_alike bay cylinders R500 (if is_loaded one bay then Some reason.Busy else None) free in
        put_in bay (Some name) (blank_of cylinders R500) (blank_of cylinders R500) disks a.0 b.0 a.1 b.1 a.2 b.2)
    steps_agree (request.BlankDd bay name cylinders) calm calm_too first second =
        by_order (request.BlankDd bay name cylinders) (empty_order bay (is_blank_request bay cylinders)) first second
        (λ free a b.
        let disks = blank_alike bay cylinders R250 (if is_loaded one bay then Some reason.Busy else None) free in
        put_in bay (Some name) (blank_of cylinders R250) (blank_of cylinders R250) disks a.0 b.0 a.1 b.1 a.2 b.2)
    steps_agree (request.Eject bay) calm calm_too first second =
        by_order (request.Eject bay) (full_order bay) first second
        (λ free a b. ejected bay a b)
    steps_agree (request.Unit bay) calm calm_too first second =
        by_order (request.Unit bay) (unit_order bay) first second
        (λ free a b. unit_taken bay a b)
    steps_agree (request.Fill address count byte) calm calm_too first second =
        by_order (request.Fill address count byte) refl first second
        (λ free a b.
        let within = leb-true (address + count) user_bytes (taken_good (nat_le (address + count) user_bytes) None free) in
        filled address count byte within a.0 b.0 a.1 b.1 a.2 b.2)
    steps_agree (request.Dump address count) calm calm_too first second =
        by_order (request.Dump address count) refl first second
        (λ free a b.
        let within = leb-true (address + count) user_bytes (taken_good (nat_le (address + count) user_bytes) None free) in
        dumped address count within a.0 b.0 a.1 b.1 a.2 b.2)
    steps_agree (request.Ack bay) calm calm_too first second =
        called (reply_of first.1.0) (reply_of second.1.0) first.1.1 second.1.1 first.0 second.0
        (ack_call bay one.station two.station one_new.station two_new.station same.stations (regular_bay one bay regular) (quiet bay calm.first calm.second) first.0.counts (quiet_too bay calm_too.first calm_too.second) second.0.counts first.1.0 second.1.0 first.1.2 second.1.2)
    steps_agree (request.Read bay key address) calm calm_too first second =
        called (read_reply first.1.0) (read_reply second.1.0) first.1.1 second.1.1 first.0 second.0
        (read_call bay one.station two.station one_new.station two_new.station same.stations (regular_bay one bay regular) (quiet bay calm.first calm.second) first.0.counts (quiet_too bay calm_too.first calm_too.second) second.0.counts key address first.1.0 second.1.0 first.1.2 second.1.2)
    steps_agree (request.Write bay key address) calm calm_too first second =
        called (reply_of first.1.0) (reply_of second.1.0) first.1.1 second.1.1 first.0 second.0
        (write_call bay one.station two.station one_new.station two_new.station same.stations (regular_bay one bay regular) (quiet bay calm.first calm.second) first.0.counts (quiet_too bay calm_too.first calm_too.second) second.0.counts first.1.0 second.1.0 key address false first.1.2 second.1.2)
    steps_agree (request.WriteDeleted bay key address) calm calm_too first second =
        called (reply_of first.1.0) (reply_of second.1.0) first.1.1 second.1.1 first.0 second.0
        (write_call bay one.station two.station one_new.station two_new.station same.stations (regular_bay one bay regular) (quiet bay calm.first calm.second) first.0.counts (quiet_too bay calm_too.first calm_too.second) second.0.counts first.1.0 second.1.0 key address true first.1.2 second.1.2)
    steps_agree (request.Format bay c h) calm calm_too first second =
        called (reply_of first.1.0) (reply_of second.1.0) first.1.1 second.1.1 first.0 second.0
        (format_call bay one.station two.station one_new.station two_new.station same.stations (regular_bay one bay regular) (quiet bay calm.first calm.second) first.0.counts (quiet_too bay calm_too.first calm_too.second) second.0.counts first.1.0 second.1.0 c h first.1.2 second.1.2)
    steps_agree (request.SetRate bay rate) calm calm_too first second =
        called (reply_of first.1.0) (reply_of second.1.0) first.1.1 second.1.1 first.0 second.0
        (rate_call bay one.station two.station one_new.station two_new.station same.stations (regular_bay one bay regular) (quiet bay calm.first calm.second) first.0.counts (quiet_too bay calm_too.first calm_too.second) second.0.counts first.1.0 second.1.0 rate first.1.2 second.1.2)
    steps_agree (request.Tries tries) calm calm_too first second =
        agree reply.Done first.1 second.1 (second.0.names ∙ same.names ∙ sym first.0.names)
        (becomes_same (record one.station { tries = tries }) (record two.station { tries = tries }) one_new.station two_new.station same.stations first.2.becomes second.2.becomes)
        (files_stay first.0.files second.0.files)
