-- What a proof about words fed to a separator stands on. There are laws on lists of words, where `fed` is the first
-- part of `whole`. And there is what the relations between a separator and the words fed say of places in them.
use Rattle.std.proofs.Common.{◌≡◌, ◌⊎◌, ℕ, ◌+◌, ◌*◌, ◌<◌, ◌≤◌, Bool, true, false, IsTrue, List, length, take, refl, sym, subst, arith, inl, inr}
use Rattle.track_separator.proofs.Common.{cases_lt, false≢true, length-take-le, get_or-take, Chrn, byte_at, bytes_at, IsRun, IsAddressMark, IsAddressAt, IsAddress, IsDataMark, IsWhole, IsSizeCode, content_size, content_at, IsFirstDataMark, IsIntact, LookAt, HasNoRunWithin, Separator, with_word, IsPart, EndsInLast, SHunts, SFollows, SWaits, SReads, HasNoDataMark, HasEnded, TellsWhole, IsUnfinished}
use Rattle.track_model.specs.declared.Look.TheVariants.{NoData}
use Rattle.track_separator.specs.Lifts.{look_of}
use Rattle.track_separator.proofs.Shared.{AreAlike, alike_back, alike_run, alike_byte_at, alike_bytes_at, alike_address_mark, alike_address_at, alike_data_mark, alike_whole}
use Rattle.track_separator.proofs.Runs.{run_ends}
use Rattle.track_separator.proofs.Next.{more_of}
use Rattle.track_separator.proofs.Staged.{waits_at, reads_first, reads_at}
-- two lists with the same cells before an end, one list with one word more than another, and how runs of marks lie
pub use Rattle.track_separator.proofs.Shared.{AreAlike, alike_back, alike_byte_at, alike_bytes_at}
pub use Rattle.track_separator.proofs.Next.{IsMore, more_of}
pub use Rattle.track_separator.proofs.Runs.{runs_apart, run_ends, IsHigh, high_byte, address_high, no_run_after}

-- ---- parts of a revolution

-- the words before the last one are a part
pub part_with_word : (fed : List ℕ) (word : ℕ) → IsPart fed (with_word fed word)
part_with_word fed word =
    let more = more_of fed word in
    let size = more.size in
    record { longer = omega arith; same = λ k h. sym (more.alike.words k (omega arith)) }

-- there is one word more
pub length-with_word : (fed : List ℕ) (word : ℕ) → length (with_word fed word) ≡ length fed + 1
length-with_word fed word = (more_of fed word).size

-- a revolution is a part of itself
pub whole_part : (whole : List ℕ) → IsPart whole whole
whole_part whole = record { longer = omega arith; same = λ k h. refl }

-- the first words of a revolution are a part
pub first_words : (k : ℕ) (whole : List ℕ) → k ≤ length whole → IsPart (take k whole) whole
first_words k whole h =
    let size : length (take k whole) ≡ k = length-take-le k whole h in
    record { longer = omega arith; same = λ i l. sym (get_or-take k whole i 0 (omega arith)) }

-- ---- what stands in a part stands in the whole; what stands in the whole stands in each part that reaches to its end

module _ (fed whole : List ℕ) (part : IsPart fed whole) where
  -- they have the same cells, up to the end of the part
  pub part_alike : AreAlike fed whole (16 * length fed)
  part_alike =
      let longer = part.longer in
      record { low = omega arith; high = omega arith; words = λ k h. sym (part.same k (omega arith)) }

  -- and the other way round
  pub whole_alike : AreAlike whole fed (16 * length fed)
  whole_alike = alike_back fed whole (16 * length fed) part_alike

  -- a byte
  pub byte_stays : (q : ℕ) → q + 16 ≤ 16 * length fed → byte_at fed q ≡ byte_at whole q
  byte_stays = alike_byte_at fed whole (16 * length fed) part_alike

  -- a row of bytes
  pub bytes_stay : (q count : ℕ) → q + 16 * count ≤ 16 * length fed → bytes_at fed q count ≡ bytes_at whole q count
  bytes_stay = alike_bytes_at fed whole (16 * length fed) part_alike

  -- a run of marks
  pub run_stays : (p : ℕ) → IsRun fed p → IsRun whole p
  run_stays p run = alike_run fed whole (16 * length fed) part_alike p (run_ends fed p run) run

  -- an address mark
  pub mark_stays : (p : ℕ) → IsAddressMark fed p → IsAddressMark whole p
  mark_stays p mark = alike_address_mark fed whole (16 * length fed) part_alike p mark.sound.inside mark

  -- an address mark of the whole, if the part reaches to its end
  pub mark_stood : (p : ℕ) → p + 64 ≤ 16 * length fed → IsAddressMark whole p → IsAddressMark fed p
  mark_stood p inside mark = alike_address_mark whole fed (16 * length fed) whole_alike p inside mark

  -- an intact address field
  pub address_stays : (p : ℕ) (key : Chrn) → IsAddressAt fed p key → IsAddressAt whole p key
  address_stays p key address = alike_address_at fed whole (16 * length fed) part_alike p key address.sound.inside address

  -- an intact address field of the whole, if the part reaches to its end
  pub address_stood : (p : ℕ) (key : Chrn) → p + 160 ≤ 16 * length fed → IsAddressAt whole p key → IsAddressAt fed p key
  address_stood p key inside address = alike_address_at whole fed (16 * length fed) whole_alike p key inside address

  -- an address field of whatever key
  pub some_address_stays : (p : ℕ) → IsAddress fed p → IsAddress whole p
  some_address_stays p (key, address) = (key, address_stays p key address)

  -- no run within an address field
  pub no_run_stood : (p : ℕ) → HasNoRunWithin whole p → HasNoRunWithin fed p
  no_run_stood p none k low high run = none k low high (run_stays k run)

  -- a data mark
  pub data_mark_stays : (p q : ℕ) (deleted : Bool) → IsDataMark fed p q deleted → IsDataMark whole p q deleted
  data_mark_stays p q deleted mark = alike_data_mark fed whole (16 * length fed) part_alike p q deleted mark.run.sound.inside mark

  -- a data mark of the whole, if the part reaches to its end
  pub data_mark_stood : (p q : ℕ) (deleted : Bool) → q + 64 ≤ 16 * length fed → IsDataMark whole p q deleted → IsDataMark fed p q deleted
  data_mark_stood p q deleted inside mark = alike_data_mark whole fed (16 * length fed) whole_alike p q deleted inside mark

  -- the first data mark
  pub first_stays : (p q : ℕ) (deleted : Bool) → IsFirstDataMark fed p q deleted → IsFirstDataMark whole p q deleted
  first_stays p q deleted first =
      let inside = first.mark.run.sound.inside in
      record {
        mark = data_mark_stays p q deleted first.mark;
        none_before = λ k other low mark. first.none_before k other low (data_mark_stood p k other (omega arith) mark);
      }

  -- an intact data field
  pub intact_stays : (q n : ℕ) → q + (64 + 16 * (content_size n + 2)) ≤ 16 * length fed → IsIntact fed q n → IsIntact whole q n
  intact_stays q n inside intact =
      subst (λ content. IsWhole whole q n content) (alike_bytes_at fed whole (16 * length fed) part_alike (q + 64) (content_size n) (omega arith))
      (alike_whole fed whole (16 * length fed) part_alike q n (content_at fed (q + 64) n) inside intact)

  -- an intact data field of the whole, if the part reaches to its end
  pub intact_stood : (q n : ℕ) → q + (64 + 16 * (content_size n + 2)) ≤ 16 * length fed → IsIntact whole q n → IsIntact fed q n
  intact_stood q n inside intact =
      subst (λ content. IsWhole fed q n content) (alike_bytes_at whole fed (16 * length fed) whole_alike (q + 64) (content_size n) (omega arith))
      (alike_whole whole fed (16 * length fed) whole_alike q n (content_at whole (q + 64) n) inside intact)

  -- a data field that is over stays as it is
  pub field_stays : (p q n size : ℕ) (deleted good : Bool) → IsSizeCode n → size ≡ content_size n → HasEnded fed p q deleted size → TellsWhole fed q size good → LookAt whole p n (look_of good deleted (q + 64))
  field_stays p q n size deleted true coded sized ended tells =
      let longer = part.longer in
      let inside = ended.inside in
      (q, record { coded = coded; first = first_stays p q deleted ended.first; inside = omega arith }, refl, intact_stays q n (omega arith) ((tells n sized).0 refl))
  field_stays p q n size deleted false coded sized ended tells =
      let longer = part.longer in
      let inside = ended.inside in
      let not : IsIntact fed q n → ⊥ = λ intact. not_false ((tells n sized).1 intact) in
      (q, (deleted, record { coded = coded; first = first_stays p q deleted ended.first; inside = omega arith }), λ intact. not (intact_stood q n (omega arith) intact))
    where
      not_false : IsTrue false → ⊥
      not_false e = false≢true e

  -- if no data mark can come any more, there is none
  pub no_data_stays : (p n : ℕ) → HasNoDataMark fed p → LookAt whole p n NoData
  no_data_stays p n over q deleted field =
      let far = over.far in
      let near = field.first.mark.near in
      over.none q deleted (data_mark_stood p q deleted (omega arith) field.first.mark)

-- a data field that the index cuts off is none
pub unfinished_is_no_data : (whole : List ℕ) (p n size : ℕ) → size ≡ content_size n → IsUnfinished whole p size → LookAt whole p n NoData
unfinished_is_no_data whole p n size sized over q deleted field =
    let inside = field.inside in
    over q deleted (record { first = field.first; inside = omega arith })

-- if the revolution is over right after an address field, the field has no data
pub late_is_no_data : (whole : List ℕ) (p n : ℕ) → EndsInLast whole (p + 160) → LookAt whole p n NoData
late_is_no_data whole p n ends q deleted field =
    let last = ends.last in
    let after = field.first.mark.after in
    let inside = field.first.mark.run.sound.inside in
    omega arith

-- ---- with one word more, what is new ends in that word

module _ (fed : List ℕ) (word : ℕ) where
  -- an end that lies behind the words before lies in the new word
  ends_new : (end : ℕ) → 16 * length fed < end → end ≤ 16 * length (with_word fed word) → EndsInLast (with_word fed word) end
  ends_new end low high = let size = length-with_word fed word in record { inside = high; last = omega arith }

  -- an address mark
  pub mark_old_or_new : (p : ℕ) → IsAddressMark (with_word fed word) p → IsAddressMark fed p ⊎ EndsInLast (with_word fed word) (p + 64)
  mark_old_or_new p mark =
      elim (cases_lt (16 * length fed) (p + 64)) [
        | inl late ↦ inr (ends_new (p + 64) late mark.sound.inside)
        | inr early ↦ inl (mark_stood fed (with_word fed word) (part_with_word fed word) p early mark)
      ]

  -- an intact address field
  pub address_old_or_new : (p : ℕ) (key : Chrn) → IsAddressAt (with_word fed word) p key → IsAddressAt fed p key ⊎ EndsInLast (with_word fed word) (p + 160)
  address_old_or_new p key address =
      elim (cases_lt (16 * length fed) (p + 160)) [
        | inl late ↦ inr (ends_new (p + 160) late address.sound.inside)
        | inr early ↦ inl (address_stood fed (with_word fed word) (part_with_word fed word) p key early address)
      ]

-- ---- a separator and the words fed

-- a separator that has hunted since these words began hunts
pub follows_hunts : (separator : Separator) (fed : List ℕ) → SFollows separator fed → SHunts separator fed
follows_hunts separator fed follows = follows.hunts

module _ (separator : Separator) (fed : List ℕ) (p size : ℕ) (waits : SWaits separator fed p size) where
  -- at most 1,022 cells stand behind the address field
  pub waits_early : 16 * length fed ≤ p + 160 + 1022
  waits_early = (waits_at fed separator.cells separator.back p size separator.stage waits).1

  -- no data mark has come so far
  pub waits_mark : (q : ℕ) (deleted : Bool) → IsDataMark fed p q deleted → ⊥
  waits_mark = (waits_at fed separator.cells separator.back p size separator.stage waits).2

module _ (separator : Separator) (fed : List ℕ) (p q : ℕ) (deleted : Bool) (size taken : ℕ) (reads : SReads separator fed p q deleted size taken) where
  -- the field that is read is the one of the first data mark
  pub reads_mark : IsFirstDataMark fed p q deleted
  reads_mark = reads_first fed separator.cells separator.back p q deleted size taken separator.stage reads

  -- the last byte taken ends in the last word
  pub reads_ends : EndsInLast fed (q + 64 + 16 * taken)
  reads_ends = (reads_at fed separator.cells separator.back p q deleted size taken separator.stage separator.few reads).0

  -- so the mark and the bytes taken lie inside the words fed
  pub reads_within : q + 64 + 16 * taken ≤ 16 * length fed
  reads_within = let ends = reads_ends in ends.inside
