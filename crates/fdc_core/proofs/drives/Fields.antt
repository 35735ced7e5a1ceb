-- Fields that were heard, and those of the track.
use Rattle.std.proofs.Common.{◌≡◌, inl, inr, ℕ, ◌+◌, ◌-◌, ◌*◌, ◌/◌, ◌≤◌, Bool, List, length, get_or, refl, sym, ap, subst, ◌∙◌, arith, ◌<◌, [], ◌∷◌, ◌++◌, replicate, slice_index}
use Rattle.fdc_core.proofs.Common.{ext_get_or, Chrn, IsHeard, IsHeardWhole, IsAddressAt, IsSizeCode, content_at, data_cells, IsDataMark, IsWhole, HasDataField, IsIntact, LookAt, IsSound, IsAddressMark, Found, NoData, BadCrc, IsLone, get_or-append, cases_lt, get_or-append_right, get_or-replicate, length-replicate, content_size, FindsSector, HasAddress, IsFoundAt, IsTurnIn, Past, led, turn_led}
use Rattle.track_model.proofs.Spans.{intact_of}
use Rattle.fdc_core.proofs.drives.Shifted.{AreShifted, shifted_address_mark, shifted_address_at, shifted_data_run, shifted_whole, shifted_bytes_at, length_front, turn_of_led}

-- what was heard without a word 0000 is of the track
pub heard_sound : (track : List ℕ) (start : ℕ) (seen : List ℕ) (p count : ℕ) → IsHeard track start seen → IsSound seen p count
    → AreShifted seen track p (p + 16 * start) count
heard_sound track start seen p count heard sound =
    let inside = sound.inside in
    let room = heard.inside in
    record {
      phase = omega arith;
      words = λ q s e low high.
          let at : s / 16 ≡ start + q / 16 = omega arith in
          elim (heard.each (q / 16) (omega arith)) [
            | inl is ↦ is ∙ ap (λ k. get_or track k 0) (sym at)
            | inr none ↦ absurd (sound.no_zero q low high none)
          ];
      inside = omega arith;
    }

-- where the words were heard whole, each stretch of them is on the track
pub whole_shifted : (track : List ℕ) (start : ℕ) (seen : List ℕ) (p count : ℕ) → IsHeardWhole track start seen → start + length seen ≤ length track → p + count ≤ 16 * length seen
    → AreShifted seen track p (p + 16 * start) count
whole_shifted track start seen p count heard room inside = record {
  phase = omega arith;
  words = λ q s e low high.
      let at : s / 16 ≡ start + q / 16 = omega arith in
      heard.each (q / 16) (omega arith) ∙ ap (λ k. get_or track k 0) (sym at);
  inside = omega arith;
}

-- where the words were heard whole, each stretch of the track that passed is in them
pub whole_back : (track : List ℕ) (start : ℕ) (seen : List ℕ) (p count : ℕ) → IsHeardWhole track start seen → start + length seen ≤ length track → p + count ≤ 16 * length seen
    → AreShifted track seen (p + 16 * start) p count
whole_back track start seen p count heard room inside = record {
  phase = omega arith;
  words = λ s q e low high.
      let at : s / 16 ≡ start + q / 16 = omega arith in
      sym (heard.each (q / 16) (omega arith) ∙ ap (λ k. get_or track k 0) (sym at));
  inside = omega arith;
}

module _ (track : List ℕ) (start : ℕ) (seen : List ℕ) (heard : IsHeard track start seen) where
  pub mark_heard : (p : ℕ) → IsAddressMark seen p → IsAddressMark track (p + 16 * start)
  mark_heard p mark =
      shifted_address_mark seen track p (p + 16 * start) 64 (heard_sound track start seen p 64 heard mark.sound) p (p + 16 * start) (omega arith) (omega arith) (omega arith) mark

  pub address_heard : (p : ℕ) (key : Chrn) → IsAddressAt seen p key → IsAddressAt track (p + 16 * start) key
  address_heard p key address =
      shifted_address_at seen track p (p + 16 * start) 160 (heard_sound track start seen p 160 heard address.sound) p (p + 16 * start) key (omega arith) (omega arith) (omega arith) address

  pub data_mark_heard : (p q : ℕ) (deleted : Bool) → IsDataMark seen p q deleted → IsDataMark track (p + 16 * start) (q + 16 * start) deleted
  data_mark_heard p q deleted mark =
      let after = mark.after in
      let near = mark.near in
      record {
        after = omega arith;
        near = omega arith;
        run = shifted_data_run seen track q (q + 16 * start) 64 (heard_sound track start seen q 64 heard mark.run.sound) q (q + 16 * start) deleted (omega arith) (omega arith) (omega arith) mark.run;
      }

  pub field_heard : (q n : ℕ) (content : List ℕ) → IsWhole seen q n content → IsWhole track (q + 16 * start) n content
  field_heard q n content whole =
      shifted_whole seen track q (q + 16 * start) (data_cells n) (heard_sound track start seen q (data_cells n) heard whole.sound) q (q + 16 * start) n content (omega arith) (omega arith) (omega arith) whole

-- ---- heard whole

module _ (track : List ℕ) (start : ℕ) (seen : List ℕ) (heard : IsHeardWhole track start seen) (room : start + length seen ≤ length track) where
  pub data_mark_on : (p q : ℕ) (deleted : Bool) → IsDataMark seen p q deleted → IsDataMark track (p + 16 * start) (q + 16 * start) deleted
  data_mark_on p q deleted mark =
      let after = mark.after in
      let near = mark.near in
      let inside = mark.run.sound.inside in
      record {
        after = omega arith;
        near = omega arith;
        run = shifted_data_run seen track q (q + 16 * start) 64 (whole_shifted track start seen q 64 heard room inside) q (q + 16 * start) deleted (omega arith) (omega arith) (omega arith) mark.run;
      }

  pub data_mark_back : (p k q : ℕ) (deleted : Bool) → k ≡ q + 16 * start → q + 64 ≤ 16 * length seen → IsDataMark track (p + 16 * start) k deleted → IsDataMark seen p q deleted
  data_mark_back p k q deleted at inside mark =
      let after = mark.after in
      let near = mark.near in
      record {
        after = omega arith;
        near = omega arith;
        run = shifted_data_run track seen (q + 16 * start) q 64 (whole_back track start seen q 64 heard room inside) k q deleted (omega arith) (omega arith) (omega arith) mark.run;
      }

  pub intact_on : (q n : ℕ) → IsIntact seen q n → IsIntact track (q + 16 * start) n
  intact_on q n whole =
      let inside = whole.sound.inside in
      intact_of track (q + 16 * start) n (content_at seen (q + 64) n)
      (shifted_whole seen track q (q + 16 * start) (data_cells n) (whole_shifted track start seen q (data_cells n) heard room inside) q (q + 16 * start) n _ (omega arith) (omega arith) (omega arith) whole)

  pub intact_back : (q n : ℕ) → q + data_cells n ≤ 16 * length seen → IsIntact track (q + 16 * start) n → IsIntact seen q n
  intact_back q n inside whole =
      intact_of seen q n (content_at track (q + 16 * start + 64) n)
      (shifted_whole track seen (q + 16 * start) q (data_cells n) (whole_back track start seen q (data_cells n) heard room inside) (q + 16 * start) q n _ (omega arith) (omega arith) (omega arith) whole)

  pub data_field_on : (p n q : ℕ) (deleted : Bool) → HasDataField seen p n q deleted → HasDataField track (p + 16 * start) n (q + 16 * start) deleted
  data_field_on p n q deleted field =
      let inside = field.inside in
      record {
        coded = field.coded;
        first = record {
          mark = data_mark_on p q deleted field.first.mark;
          none_before = λ k other before mark. let after = mark.after in
              field.first.none_before (k - 16 * start) other (omega arith)
              (data_mark_back p k (k - 16 * start) other (omega arith) (omega arith) mark);
        };
        inside = omega arith;
      }

  pub found_on : (p n q : ℕ) (deleted : Bool) → LookAt seen p n (Found deleted (q + 64)) → LookAt track (p + 16 * start) n (Found deleted (q + 16 * start + 64))
  found_on p n q deleted (at, field, is, intact) =
      let same : at ≡ q = omega arith in (
        q + 16 * start,
        data_field_on p n q deleted (subst (λ a. HasDataField seen p n a deleted) same field),
        refl,
        intact_on q n (subst (λ a. IsIntact seen a n) same intact),
      )

  pub bad_on : (p n : ℕ) → LookAt seen p n BadCrc → LookAt track (p + 16 * start) n BadCrc
  bad_on p n (q, (deleted, field), broken) =
      (q + 16 * start, (deleted, data_field_on p n q deleted field), λ intact. broken (intact_back q n field.inside intact))

  -- to the end of the track
  pub none_on : (p n : ℕ) → start + length seen ≡ length track → LookAt seen p n NoData → LookAt track (p + 16 * start) n NoData
  none_on p n end none = λ k deleted field.
      let mark = field.first.mark in
      let after = mark.after in
      let inside = field.inside in
      let back : k - 16 * start + 16 * start ≡ k = omega arith in
      none (k - 16 * start) deleted (record {
        coded = field.coded;
        first = record {
          mark = data_mark_back p k (k - 16 * start) deleted (omega arith) (omega arith) mark;
          none_before = λ j other before earlier. field.first.none_before (j + 16 * start) other (omega arith) (data_mark_on p j other earlier);
        };
        inside = omega arith;
      })

-- ---- ---- with one data mark

-- where the track has no other data mark, the first is the one that was heard
pub lone_found : (track : List ℕ) (p n q : ℕ) (deleted : Bool) → IsSizeCode n → IsLone track p → IsDataMark track p q deleted → IsIntact track q n
    → LookAt track p n (Found deleted (q + 64))
lone_found track p n q deleted coded lone mark whole = (
  q,
  record {
    coded = coded;
    first = record {
      mark = mark;
      none_before = λ k other before earlier. let same : k ≡ q = lone k q other deleted earlier mark in omega arith;
    };
    inside = whole.sound.inside;
  },
  refl,
  whole,
)

-- ---- ---- a whole revolution

-- if the words from index to index were heard whole, they are the track
pub turn_is : (track turn : List ℕ) → IsHeardWhole track 0 turn → length turn ≡ length track → turn ≡ track
turn_is track turn heard same =
    ext_get_or 0 turn track same (λ i below. let at : 0 + i ≡ i = omega arith in heard.each i below ∙ ap (λ k. get_or track k 0) at)

-- ---- fields that were heard after words 0000

-- ---- ---- words after others

module _ (track : List ℕ) (start : ℕ) (seen : List ℕ) (heard : IsHeardWhole track start seen) (room : start + length seen ≤ length track) where
  pub address_back : (p : ℕ) (key : Chrn) → p + 160 ≤ 16 * length seen → IsAddressAt track (p + 16 * start) key → IsAddressAt seen p key
  address_back p key inside address =
      shifted_address_at track seen (p + 16 * start) p 160 (whole_back track start seen p 160 heard room inside) (p + 16 * start) p key (omega arith) (omega arith) (omega arith) address

  data_field_back : (p n q : ℕ) (deleted : Bool) → p + 160 ≤ q → q + data_cells n ≤ 16 * length seen
      → HasDataField track (p + 16 * start) n (q + 16 * start) deleted → HasDataField seen p n q deleted
  data_field_back p n q deleted after inside field = record {
    coded = field.coded;
    first = record {
      mark = data_mark_back track start seen heard room p (q + 16 * start) q deleted refl (omega arith) field.first.mark;
      none_before = λ k other before mark. field.first.none_before (k + 16 * start) other (omega arith) (data_mark_on track start seen heard room p k other mark);
    };
    inside = inside;
  }

  pub found_back : (p n q : ℕ) (deleted : Bool) → p + 160 ≤ q → length track ≡ start + length seen
      → LookAt track (p + 16 * start) n (Found deleted (q + 16 * start + 64)) → LookAt seen p n (Found deleted (q + 64))
  found_back p n q deleted after all (at, field, is, intact) =
      let same : at ≡ q + 16 * start = omega arith in
      let here : HasDataField track (p + 16 * start) n (q + 16 * start) deleted = subst (λ a. HasDataField track (p + 16 * start) n a deleted) same field in
      let cells = here.inside in (
        q,
        data_field_back p n q deleted after (omega arith) here,
        refl,
        intact_back track start seen heard room q n (omega arith) (subst (λ a. IsIntact track a n) same intact),
      )

  pub content_back : (q n : ℕ) → q + 64 + 16 * content_size n ≤ 16 * length seen → content_at track (q + 16 * start + 64) n ≡ content_at seen (q + 64) n
  content_back q n inside =
      shifted_bytes_at track seen (q + 16 * start) q (64 + 16 * content_size n) (whole_back track start seen q (64 + 16 * content_size n) heard room (omega arith)) (q + 16 * start + 64) (q + 64) (content_size n)
      (omega arith) (omega arith) (omega arith)

-- ---- words 0000 first

front_whole : (lead : ℕ) (words : List ℕ) → IsHeardWhole (replicate lead 0 ++ words) lead words
front_whole lead words = record {
  each = λ i below.
      let back : lead + i - lead ≡ i = omega arith in
      sym (get_or-append_right (replicate lead 0) words lead (lead + i) 0 (length-replicate lead 0) (omega arith) ∙ ap (slice_index words) back);
}

-- a stretch without a word 0000 begins after those words
sound_behind : (lead : ℕ) (words : List ℕ) (p count : ℕ) → 1 ≤ count → IsSound (replicate lead 0 ++ words) p count → 16 * lead ≤ p
sound_behind lead words p count some sound = elim (cases_lt p (16 * lead)) [
  | inl before ↦
      let low : p / 16 < lead = omega arith in
      let front : length {A = ℕ} (replicate lead 0) ≡ lead = length-replicate lead 0 in
      absurd (sound.no_zero p (omega arith) (omega arith)
      (get_or-append (replicate lead 0) words 0 (p / 16) (omega arith) ∙ get_or-replicate lead (p / 16) 0 0 low))
  | inr behind ↦ behind
]

-- ---- what a command found

-- the sector stands in a revolution without the words 0000
found_front : (lead : ℕ) (late : Past) (key : Chrn) (given : List ℕ) (deleted : Bool) (earlier : List (List ℕ)) (turn : List ℕ) (p q : ℕ)
    → IsTurnIn late.turns late.seen turn
    → IsAddressAt (turn_led lead earlier turn) p key → LookAt (turn_led lead earlier turn) p key.n (Found deleted (q + 64))
    → (rest : List ℕ) × (content_at (turn_led lead earlier turn) (q + 64) key.n ≡ given ++ rest)
    → (length given ≡ content_size key.n → given ≡ content_at (turn_led lead earlier turn) (q + 64) key.n)
    → (w : List ℕ) × (a : ℕ) × (b : ℕ) × IsFoundAt late key given deleted w a b
found_front lead late key given deleted (last ∷ earlier) turn p q among address look begins content =
    (turn, p, q, record { among = among; address = address; finds = look; begins = begins; content = content })
found_front lead late key given deleted [] turn p q among address look begins content =
    let front = replicate lead 0 ++ turn in
    let whole = front_whole lead turn in
    let long : length front ≡ lead + length turn = length_front lead turn in
    let behind = sound_behind lead turn p 160 (omega arith) address.sound in
    let inside = address.sound.inside in
    let a = p - 16 * lead in
    let p_is : p ≡ a + 16 * lead = omega arith in
    let (at, field, is, intact) = look in
    let after = field.first.mark.after in
    let b = q - 16 * lead in
    let q_is : q ≡ b + 16 * lead = omega arith in
    let cells = field.inside in
    let moved : LookAt front (a + 16 * lead) key.n (Found deleted (b + 16 * lead + 64)) =
    subst (λ k. LookAt front k key.n (Found deleted (b + 16 * lead + 64))) p_is (subst (λ k. LookAt front p key.n (Found deleted (k + 64))) q_is look) in
    let same : content_at front (q + 64) key.n ≡ content_at turn (b + 64) key.n =
    ap (λ k. content_at front (k + 64) key.n) q_is ∙ content_back front lead turn whole (omega arith) b key.n (omega arith) in (
      turn,
      a,
      b,
      record {
        among = among;
        address = address_back front lead turn whole (omega arith) a key (omega arith) (subst (λ k. IsAddressAt front k key) p_is address);
        finds = found_back front lead turn whole (omega arith) a key.n b deleted (omega arith) long moved;
        begins = (begins.0, sym same ∙ begins.1);
        content = λ all. content all ∙ same;
      },
    )

pub found_late : (lead : ℕ) (late : Past) (key : Chrn) (given : List ℕ) (deleted : Bool) → FindsSector (led lead late) key given deleted
    → FindsSector late key given deleted
found_late lead late key given deleted (counted, (words, p, q, found)) =
    let is = turn_of_led lead late words found.among in (
      counted,
      found_front lead late key given deleted is.earlier is.turn p q is.among (subst (λ w. IsAddressAt w p key) is.words_are found.address)
          (subst (λ w. LookAt w p key.n (Found deleted (q + 64))) is.words_are found.finds)
          (found.begins.0, sym (ap (λ w. content_at w (q + 64) key.n) is.words_are) ∙ found.begins.1)
          (λ all. found.content all ∙ ap (λ w. content_at w (q + 64) key.n) is.words_are),
    )

-- an address field stands in a revolution without the words 0000 too
pub record IsInTurn (words turn : List ℕ) (p : ℕ) (key : Chrn) : Type 0 where
  pub place : ℕ
  pub ahead : ℕ
  pub p_is : p ≡ place + 16 * ahead
  pub longer : length words ≡ ahead + length turn
  pub address : IsAddressAt turn place key

pub address_in : (lead : ℕ) (earlier : List (List ℕ)) (turn : List ℕ) (p : ℕ) (key : Chrn) → IsAddressAt (turn_led lead earlier turn) p key
    → IsInTurn (turn_led lead earlier turn) turn p key
address_in lead (last ∷ earlier) turn p key address = record { place = p; ahead = 0; p_is = omega arith; longer = omega arith; address = address }
address_in lead [] turn p key address =
    let front = replicate lead 0 ++ turn in
    let long : length front ≡ lead + length turn = length_front lead turn in
    let behind = sound_behind lead turn p 160 (omega arith) address.sound in
    let inside = address.sound.inside in
    let a = p - 16 * lead in
    let p_is : p ≡ a + 16 * lead = omega arith in
    record {
      place = a;
      ahead = lead;
      p_is = p_is;
      longer = long;
      address = address_back front lead turn (front_whole lead turn) (omega arith) a key (omega arith) (subst (λ k. IsAddressAt front k key) p_is address);
    }

pub address_late : (lead : ℕ) (late : Past) (key : Chrn) → HasAddress (led lead late) key → HasAddress late key
address_late lead late key (words, p, has) =
    let is = turn_of_led lead late words has.among in
    let here = address_in lead is.earlier is.turn p key (subst (λ w. IsAddressAt w p key) is.words_are has.address) in
    (is.turn, here.place, record { among = is.among; address = here.address })
