-- Two calls to alike stations that nothing disturbed: they are answered alike, and leave alike stations.
use Rattle.std.proofs.Common.{arith, ◌≡◌, ◌∙◌, ◌+◌, ◌≤◌, ℕ, nat_le, Bool, true, false, List, length, drop, refl, sym, ap, subst, Option, Some, None, Result}
use Rattle.std.specs.Prelude.{◌&&◌, not, MatchOption, MatchBool, if◌then◌else◌}
use Rattle.laws_program.proofs.Common.{leb-true, and_parts, length-take, length-drop, gap_at, standard_fill, Chrn, Code, BadRequest, Page, Changed, Protected, Rate, GoesOn, IsUndisturbed, user_bytes, bytes_from, content_size, Reply, StationState, Bay, bay_of, set_bay, met, is_bay, is_place, is_sector_request, crosses_page, is_acknowledged, is_protected, read_refusal, write_refusal, most_format_gap, format_refusal, rate_refusal, IsRefusedAtOnce, Acks, AcksDrive, RatesTo, SetsRate, Reads, ReadsDrive, WritesTo, WritesDrive, written_from, FormatsTo, FormatsDrive, reply_of, read_reply, IsRegularIn}
use Rattle.sector_map.specs.LaidDisks.{format_at}
use Rattle.laws_program.proofs.AlikeDisks.{AlikeBays, AlikeStations, bays_in, set_same, memory_same, becomes_same, protected_same, met_bays, regular_met, regular_in_too, acks_agree}
use Rattle.laws_program.proofs.FormatsAgree.{formats_media, formats_reply, drive_sees, one_seen, sees_on, read_remembers}
use Rattle.laws_program.proofs.Completed.{writes_agree, ok_reply}

-- the replies are the same, and the stations alike
pub record CallsAgree (reply reply_too : Reply) (one_new two_new : StationState) : Type 0 where
  pub replies : reply_too ≡ reply
  pub after : AlikeStations one_new two_new

-- ---- one order of refusals for both

pub both_ways : {X : Type 0} (R P Q : Type 0) (A B : X → Type 0) (one two : Option X) → two ≡ one → MatchOption one P A → MatchOption two Q B → (one ≡ None → P → Q → R) → ((x : X) → A x → B x → R) → R
both_ways {X} R P Q A B one two same first second taken refused = go one first (subst (λ (o : Option X). MatchOption o Q B) same second) taken
  where
    go : (o : Option X) → MatchOption o P A → MatchOption o Q B → (o ≡ None → P → Q → R) → R
    go None a b next = next refl a b
    go (Some x) a b next = refused x a b

pub both_tests : (R P Q A B : Type 0) (test : Bool) → MatchBool test P A → MatchBool test Q B → (P → Q → R) → (A → B → R) → R
both_tests R P Q A B true a b taken refused = taken a b
both_tests R P Q A B false a b taken refused = refused a b

at_once : {A : Type 0} (answers : Result A Code → Reply) (one two one_new two_new : StationState) (code : Code) (called called_too : Result A Code) → AlikeStations one two → IsRefusedAtOnce code one called one_new → IsRefusedAtOnce code two called_too two_new → CallsAgree (answers called) (answers called_too) one_new two_new
at_once answers one two one_new two_new code called called_too same first second = record {
  replies = ap answers (second.refused ∙ sym first.refused);
  after = becomes_same one two one_new two_new same first.stays second.stays;
}

-- the order of refusals of a read and of a write; below, that of a format
abbrev sector_order : Bool → Bool → Bool → Option Code → Option Code
sector_order good crosses acknowledged last =
    if not good then Some BadRequest else (if crosses then Some Page else (if not acknowledged then Some Changed else last))

abbrev guarded : Bool → Option Code
guarded protected = if protected then Some Protected else None

abbrev format_order : Bool → Bool → Bool → Option Code
format_order good acknowledged protected =
    if not good then Some BadRequest else (if not acknowledged then Some Changed else guarded protected)

-- the request for a sector is good, if it wasn't refused
good_sector : (good crosses acknowledged : Bool) (last : Option Code) → sector_order good crosses acknowledged last ≡ None → good ≡ true
good_sector true crosses acknowledged last e = refl
good_sector false crosses acknowledged last e = absurd (cc e)

sector_within : (bay : ℕ) (key : Chrn) (address : ℕ) → is_sector_request bay key address ≡ true → address + content_size key.n ≤ user_bytes
sector_within bay key address good = leb-true (address + content_size key.n) user_bytes (and_parts _ _ good).1

pub length-bytes_from : (memory : List ℕ) (place count : ℕ) → place + count ≤ length memory → length (bytes_from memory place count) ≡ count
length-bytes_from memory place count inside = omega (arith, length-take count (drop place memory), length-drop place memory)

module _ (bay : ℕ) (one two one_new two_new : StationState) (same : AlikeStations one two) (regular : IsRegularIn (bay_of one bay).medium) (calm : IsUndisturbed bay one.counters one_new.counters) (goes : GoesOn one.counters one_new.counters) (calm_too : IsUndisturbed bay two.counters two_new.counters) (goes_too : GoesOn two.counters two_new.counters) where
  here : AlikeBays (bay_of one bay) (bay_of two bay)
  here = bays_in one two bay same

  regular_too : IsRegularIn (bay_of two bay).medium
  regular_too = regular_in_too (bay_of one bay).medium (bay_of two bay).medium here.media regular

  acknowledged : is_acknowledged two bay ≡ is_acknowledged one bay
  acknowledged = here.acknowledged

  protected : is_protected two bay ≡ is_protected one bay
  protected = protected_same (bay_of one bay).medium (bay_of two bay).medium here.media

  -- ---- reads

  module _ (key : Chrn) (address : ℕ) (called called_too : Result Bool Code) where
    read_order : read_refusal two bay key address ≡ read_refusal one bay key address
    read_order = ap (λ (b : Bool). sector_order (is_sector_request bay key address) (crosses_page address (content_size key.n)) b None) acknowledged

    read_taken : read_refusal one bay key address ≡ None → ReadsDrive bay key address one called one_new → ReadsDrive bay key address two called_too two_new → CallsAgree (read_reply called) (read_reply called_too) one_new two_new
    read_taken free first second =
        let within = sector_within bay key address (good_sector (is_sector_request bay key address) (crosses_page address (content_size key.n)) (is_acknowledged one bay) None free) in
        let track = met (bay_of one bay) key.c key.h in
        let seen = drive_sees bay key address one one_new regular calm goes called first in
        let seen_too = drive_sees bay key address two two_new regular_too calm_too goes_too called_too second in
        let is : called_too ≡ called = one_seen track key.c key.h key called called_too (regular_met (bay_of one bay).medium (bay_of one bay).rate key.c key.h regular) seen (sees_on track (met (bay_of two bay) key.c key.h) key called_too (met_bays (bay_of one bay) (bay_of two bay) key.c key.h here) seen_too) in
        let left = read_remembers bay key address one one_new called same.size within first in
        let left_too = read_remembers bay key address two two_new called_too same.other_size within second in
        record {
          replies = ap read_reply is;
          after = becomes_same (record one { memory = left.memory }) (record two { memory = left_too.memory }) one_new two_new
              (memory_same one two left.memory left_too.memory same left.size left_too.size) left.becomes left_too.becomes;
        }

    pub read_call : Reads bay key address one called one_new → Reads bay key address two called_too two_new → CallsAgree (read_reply called) (read_reply called_too) one_new two_new
    read_call first second =
        both_ways (CallsAgree (read_reply called) (read_reply called_too) one_new two_new)
        (ReadsDrive bay key address one called one_new) (ReadsDrive bay key address two called_too two_new)
        (λ code. IsRefusedAtOnce code one called one_new) (λ code. IsRefusedAtOnce code two called_too two_new)
        (read_refusal one bay key address) (read_refusal two bay key address) read_order first second read_taken
        (λ code a b. at_once read_reply one two one_new two_new code called called_too same a b)

  -- ---- the other calls

  module _ (called called_too : Result (Unit {0}) Code) where
    abbrev Agrees : Type 0
    Agrees = CallsAgree (reply_of called) (reply_of called_too) one_new two_new

    module _ (key : Chrn) (address : ℕ) (deleted : Bool) where
      write_order : write_refusal two bay key address ≡ write_refusal one bay key address
      write_order =
          let good = is_sector_request bay key address in
          let crosses = crosses_page address (content_size key.n) in
          ap (λ (b : Bool). sector_order good crosses b (guarded (is_protected two bay))) acknowledged
          ∙ ap (λ (b : Bool). sector_order good crosses (is_acknowledged one bay) (guarded b)) protected

      write_taken : write_refusal one bay key address ≡ None → WritesDrive (written_from one key address deleted) bay one called one_new → WritesDrive (written_from two key address deleted) bay two called_too two_new → Agrees
      write_taken free first second =
          let within = sector_within bay key address (good_sector (is_sector_request bay key address) (crosses_page address (content_size key.n)) (is_acknowledged one bay) (guarded (is_protected one bay)) free) in
          let size = content_size key.n in
          let long = same.size in
          let long_too = same.other_size in
          let agreed = writes_agree key deleted (bytes_from one.memory address size) (bytes_from two.memory address size) bay one two one_new two_new here regular calm goes calm_too goes_too (length-bytes_from one.memory address size (omega (arith, long, within))) (length-bytes_from two.memory address size (omega (arith, long_too, within))) called called_too first second in
          let kept : Bay = record (bay_of one bay) { medium = (bay_of one_new bay).medium } in
          let kept_too : Bay = record (bay_of two bay) { medium = (bay_of two_new bay).medium } in
          let bays : AlikeBays kept kept_too = record { media = agreed.1; acknowledged = here.acknowledged; rate = here.rate } in
          record {
            replies = agreed.0;
            after = becomes_same (set_bay one bay kept) (set_bay two bay kept_too) one_new two_new (set_same one two bay kept kept_too same bays) first.becomes second.becomes;
          }

      pub write_call : WritesTo bay key address deleted one called one_new → WritesTo bay key address deleted two called_too two_new → Agrees
      write_call first second =
          both_ways Agrees
          (WritesDrive (written_from one key address deleted) bay one called one_new) (WritesDrive (written_from two key address deleted) bay two called_too two_new)
          (λ code. IsRefusedAtOnce code one called one_new) (λ code. IsRefusedAtOnce code two called_too two_new)
          (write_refusal one bay key address) (write_refusal two bay key address) write_order first second write_taken
          (λ code a b. at_once reply_of one two one_new two_new code called called_too same a b)

    module _ (c h : ℕ) where
      abbrev good : Rate → Bool
      good rate = is_bay bay && is_place c h && nat_le 16 (gap_at rate) && nat_le (gap_at rate) (most_format_gap rate)

      format_order_same : format_refusal two bay c h (gap_at (bay_of two bay).rate) ≡ format_refusal one bay c h (gap_at (bay_of one bay).rate)
      format_order_same =
          ap (λ (r : Rate). format_order (good r) (is_acknowledged two bay) (is_protected two bay)) here.rate
          ∙ ap (λ (b : Bool). format_order (good (bay_of one bay).rate) b (is_protected two bay)) acknowledged
          ∙ ap (λ (b : Bool). format_order (good (bay_of one bay).rate) (is_acknowledged one bay) b) protected

      abbrev Formats : Rate → Result (Unit {0}) Code → StationState → StationState → Type 0
      Formats rate answer old new = FormatsDrive (format_at c h rate (gap_at rate) standard_fill) bay old answer new

      format_taken : Formats (bay_of one bay).rate called one one_new → Formats (bay_of two bay).rate called_too two two_new → Agrees
      format_taken first other =
          let rate = (bay_of one bay).rate in
          let second = subst (λ (r : Rate). Formats r called_too two two_new) here.rate other in
          let format = format_at c h rate (gap_at rate) standard_fill in
          let media = formats_media format bay one two one_new two_new here.media calm goes calm_too goes_too called called_too first second in
          let kept : Bay = record (bay_of one bay) { medium = (bay_of one_new bay).medium } in
          let kept_too : Bay = record (bay_of two bay) { medium = (bay_of two_new bay).medium } in
          let bays : AlikeBays kept kept_too = record { media = media; acknowledged = here.acknowledged; rate = here.rate } in
          record {
            replies = formats_reply format bay one two one_new two_new here.media calm goes calm_too goes_too called called_too first second;
            after = becomes_same (set_bay one bay kept) (set_bay two bay kept_too) one_new two_new (set_same one two bay kept kept_too same bays) first.becomes second.becomes;
          }

      pub format_call : FormatsTo bay c h (gap_at (bay_of one bay).rate) standard_fill one called one_new → FormatsTo bay c h (gap_at (bay_of two bay).rate) standard_fill two called_too two_new → Agrees
      format_call first second =
          both_ways Agrees
          (Formats (bay_of one bay).rate called one one_new) (Formats (bay_of two bay).rate called_too two two_new)
          (λ code. IsRefusedAtOnce code one called one_new) (λ code. IsRefusedAtOnce code two called_too two_new)
          (format_refusal one bay c h (gap_at (bay_of one bay).rate)) (format_refusal two bay c h (gap_at (bay_of two bay).rate)) format_order_same first second
          (λ free a b. format_taken a b)
          (λ code a b. at_once reply_of one two one_new two_new code called called_too same a b)

    rate_order : rate_refusal two bay ≡ rate_refusal one bay
    rate_order = ap (λ (b : Bool). if not (is_bay bay) then Some BadRequest else (if not b then Some Changed else None)) acknowledged

    rate_taken : (rate : Rate) → SetsRate bay rate one called one_new → SetsRate bay rate two called_too two_new → Agrees
    rate_taken rate first second =
        let set : Bay = record (bay_of one bay) { rate = rate } in
        let set_too : Bay = record (bay_of two bay) { rate = rate } in
        let bays : AlikeBays set set_too = record { media = here.media; acknowledged = here.acknowledged; rate = refl } in
        record {
          replies = ok_reply called_too second.done ∙ sym (ok_reply called first.done);
          after = becomes_same (set_bay one bay set) (set_bay two bay set_too) one_new two_new (set_same one two bay set set_too same bays) first.becomes second.becomes;
        }

    pub rate_call : (rate : Rate) → RatesTo bay rate one called one_new → RatesTo bay rate two called_too two_new → Agrees
    rate_call rate first second =
        both_ways Agrees (SetsRate bay rate one called one_new) (SetsRate bay rate two called_too two_new)
        (λ code. IsRefusedAtOnce code one called one_new) (λ code. IsRefusedAtOnce code two called_too two_new)
        (rate_refusal one bay) (rate_refusal two bay) rate_order first second
        (λ free a b. rate_taken rate a b)
        (λ code a b. at_once reply_of one two one_new two_new code called called_too same a b)

    ack_taken : AcksDrive bay one called one_new → AcksDrive bay two called_too two_new → Agrees
    ack_taken first second =
        let acked = acks_agree bay one two one_new two_new here regular calm goes calm_too goes_too called called_too first second in
        record {
          replies = acked.replies;
          after = becomes_same (set_bay one bay acked.value) (set_bay two bay acked.other) one_new two_new (set_same one two bay acked.value acked.other same acked.alike) acked.first acked.second;
        }

    pub ack_call : Acks bay one called one_new → Acks bay two called_too two_new → Agrees
    ack_call first second =
        both_tests Agrees (AcksDrive bay one called one_new) (AcksDrive bay two called_too two_new)
        (IsRefusedAtOnce BadRequest one called one_new) (IsRefusedAtOnce BadRequest two called_too two_new) (is_bay bay) first second ack_taken
        (λ a b. at_once reply_of one two one_new two_new BadRequest called called_too same a b)
