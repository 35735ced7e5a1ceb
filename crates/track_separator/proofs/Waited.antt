-- A word while the separator waits for a data mark.
use Rattle.std.proofs.Common.{◌≡◌, ◌≢◌, ℕ, ◌+◌, ◌-◌, ◌*◌, ◌<◌, ◌≤◌, Bool, true, false, List, ◌∷◌, ◌++◌, length, min, refl, sym, ap, ◌∙◌, lit<, leb, arith, inl, inr}
use Rattle.track_separator.proofs.Common.{cases_lt, cases_order, leb-true, leb-false, bit_at_ones, bit_at, byte_at, bytes_at, crc, crc_from, IsRun, data_byte, IsDataMark, after_marks, number_from_bits, HasNoZeroFrom, IsFull, IsBlank, IsNext, HasRunBits, register_byte, IsPending, IsMarked, IsWaiting, IsWaitingNext, IsReading, IsMarkIn}
use Rattle.track_separator.proofs.Shared.{alike_run, alike_data_mark}
use Rattle.track_separator.proofs.Runs.{runs_apart}
use Rattle.track_separator.proofs.Next.{IsMore, no_zero_up, no_zero_down, tail_next, full_next, byte_kept, run_shown, run_found}
use Rattle.track_separator.proofs.Hunted.{back_alike, zero_free, sound_from}

-- two runs that end in one word are one
same_pending : (fed : List ℕ) (p q : ℕ) → IsRun fed p → IsRun fed q → p < q + 16 → q < p + 16 → p ≡ q
same_pending fed p q first second low high =
    elim (cases_order p q) [
      | inl e ↦ e
      | inr (inl h) ↦ absurd (runs_apart fed p q first second h high)
      | inr (inr h) ↦ absurd (runs_apart fed q p second first h low)
    ]

marked_by : (fed : List ℕ) (p back : ℕ) (b : Bool) → (b ≡ true → IsMarked fed p back true) → (b ≡ false → IsMarked fed p back false) → IsMarked fed p back b
marked_by fed p back true when_true when_false = when_true refl
marked_by fed p back false when_true when_false = when_false refl

module _ (fed : List ℕ) (cells p since : ℕ) (next : IsWaitingNext fed cells p since) where
  -- a run that is pending shows in the register
  shows : (q own : ℕ) → p + 160 ≤ q → IsPending fed q own → HasRunBits cells own
  shows q own low now =
      let place = now.place in
      let small = now.small in
      run_shown fed cells q own (next.full q (omega arith) (omega arith) now.no_zero) now.run place

  pub not_marked : ((b : ℕ) → b < 16 → HasRunBits cells b → ⊥) → (q own : ℕ) → p + 160 ≤ q → IsPending fed q own → ⊥
  not_marked none q own low now = none own now.small (shows q own low now)

  pub marked_run : (b : ℕ) → (b < 16) × HasRunBits cells b → IsMarked fed p b (leb (48 + b) since)
  marked_run b (small, run) =
      let f = run_found fed cells b next.tail small run in
      let at = f.1 in
      let place = at.place in
      let here = next.place in
      marked_by fed p b (leb (48 + b) since)
      (λ is_far. let far : 48 + b ≤ since = leb-true (48 + b) since is_far in (f.0, omega arith, record { place = place; small = small; run = at.run; no_zero = at.no_zero }))
      (λ is_near q own low now.
      let near : since < 48 + b = leb-false (48 + b) since is_near in
      let other = now.place in
      let bound = now.small in
      let same : f.0 ≡ q = same_pending fed f.0 q at.run now.run (omega arith) (omega arith) in
      omega arith)

-- ---- a word

-- a blank register shows FF
blank_byte : (cells back : ℕ) → IsBlank cells → back < 16 → register_byte cells back ≡ 255
blank_byte cells back blank small =
    number_from_bits (λ i. bit_at cells (back + (14 - 2 * i))) 8 255 (lit< tt)
    (λ i h. blank (back + (14 - 2 * i)) (omega arith) ∙ sym (bit_at_ones 8 (8 - 1 - i) (omega arith)))

no_data_byte : (deleted : Bool) → data_byte deleted ≡ 255 → ⊥
no_data_byte true e = omega arith
no_data_byte false e = omega arith

module _ (fed : List ℕ) (word : ℕ) (whole : List ℕ) (more : IsMore fed word whole) (cells back after p before : ℕ) (marked : Bool) (small : back < 16) (next : IsNext cells word after) (was : IsWaiting fed cells back p before marked) where
  full_here : IsFull whole after p
  full_here = full_next fed word whole more cells after p next was.full

  place_here : p + 160 + (before + 16) ≡ 16 * length whole
  place_here = let size = more.size in let place = was.place in omega arith

  -- if a data mark ends in the word, its run was pending before
  pending_of : (q : ℕ) (deleted : Bool) → 16 * length fed < q + 64 → IsDataMark whole p q deleted → IsPending fed q (16 * length whole - q - 64)
  pending_of q deleted late mark =
      let size = more.size in
      let inside = mark.run.sound.inside in
      record {
        place = omega arith;
        small = omega arith;
        run = alike_run whole fed (16 * length fed) (back_alike fed word whole more) q (omega arith) mark.run.run;
        no_zero = no_zero_down fed word whole more q (zero_free fed word whole more q 64 (omega arith) (record { inside = inside; last = omega arith }) mark.run.sound.no_zero);
      }

  early_mark : (q : ℕ) (deleted : Bool) → q + 64 ≤ 16 * length fed → IsDataMark whole p q deleted → ⊥
  early_mark q deleted early mark =
      was.none q deleted (alike_data_mark whole fed (16 * length fed) (back_alike fed word whole more) p q deleted early mark)

  byte_here : (q : ℕ) → p ≤ q → q + 64 + back ≡ 16 * length whole → HasNoZeroFrom whole q → register_byte after back ≡ byte_at whole (q + 48)
  byte_here q low place none =
      byte_kept whole after q (q + 48) back (full_here q low (omega arith) none) (omega arith) (omega arith)

  -- if no mark is reported, there is none
  none_told : (pending : IsMarked fed p back marked) → ((deleted : Bool) → IsMarkIn after back (before + 16) marked deleted → ⊥) → (q : ℕ) (deleted : Bool) → IsDataMark whole p q deleted → ⊥
  none_told pending untold q deleted mark =
      elim (cases_lt (16 * length fed) (q + 64)) [
        | inr h ↦ early_mark q deleted h mark
        | inl h ↦ late marked pending untold q deleted h mark
      ]
    where
      late : (m : Bool) → IsMarked fed p back m → ((d : Bool) → IsMarkIn after back (before + 16) m d → ⊥) → (q : ℕ) (deleted : Bool) → 16 * length fed < q + 64 → IsDataMark whole p q deleted → ⊥
      late false none untold q deleted h mark = none q _ mark.after (pending_of q deleted h mark)
      late true (q0, low, run) untold q deleted h mark =
          let size = more.size in
          let inside = mark.run.sound.inside in
          let here = place_here in
          let place = run.place in
          let near = mark.near in
          let from = mark.after in
          let bound = run.small in
          let other = pending_of q deleted h mark in
          let same : q0 ≡ q = same_pending fed q0 q run.run other.run (omega arith) (omega arith) in
          let zeros = zero_free fed word whole more q 64 (omega arith) (record { inside = inside; last = omega arith }) mark.run.sound.no_zero in
          untold deleted (record { pending = refl; near = omega arith; byte = byte_here q (omega arith) (omega arith) zeros ∙ mark.run.mark })

  pub waiting_next : ((deleted : Bool) → IsMarkIn after back (before + 16) marked deleted → ⊥) → IsWaitingNext whole after p (before + 16)
  waiting_next untold = record {
    place = place_here;
    tail = tail_next fed word whole more cells after next was.tail;
    full = full_here;
    none = none_told was.pending untold;
  }

  pending_run : (m : Bool) → m ≡ true → IsMarked fed p back m → (q : ℕ) × (p + 160 ≤ q) × IsPending fed q back
  pending_run true e h = h
  pending_run false e h = absurd (let f : true ≡ false = sym e in cc)

  -- a mark that is reported is the first data mark
  pub mode_reads : (deleted : Bool) (size check : ℕ) → IsMarkIn after back (before + 16) marked deleted → ((rest : List ℕ) → crc_from check rest ≡ crc (0xA1 ∷ 0xA1 ∷ 0xA1 ∷ data_byte deleted ∷ rest)) → (q : ℕ) × IsReading whole after back p q deleted size 0 check false
  mode_reads deleted size check told goes_on =
      let lengths = more.size in
      let here = place_here in
      let (q, from, run) = pending_run marked told.pending was.pending in
      let place = run.place in
      let near = told.near in
      let some : word ≢ 0 = λ none. no_data_byte deleted (sym told.byte ∙ blank_byte after back (next.blank none) small) in
      let zeros = no_zero_up fed word whole more q some run.no_zero in
      let up = alike_run fed whole (16 * length fed) more.alike q (omega arith) run.run in
      let sound = sound_from whole q 64 zeros (omega arith) in
      let none_yet : min 0 size ≡ 0 = omega arith in (
        q,
        record {
          place = omega arith;
          most = omega arith;
          first = record {
            mark = record {
              after = from;
              near = omega arith;
              run = record { run = up; mark = sym (byte_here q (omega arith) (omega arith) zeros) ∙ told.byte; sound = sound };
            };
            none_before = λ k other low mark.
                elim (cases_lt (16 * length fed) (k + 64)) [
                  | inr h ↦ early_mark k other h mark
                  | inl h ↦ runs_apart whole k q mark.run.run up low (omega arith)
                ];
          };
          recent = λ r low high. full_here q (omega arith) (omega arith) zeros r (omega arith) high;
          recorded = λ r low high. sound.no_zero r low (omega arith);
          goes_on = λ rest. goes_on rest ∙ ap (λ count. crc (after_marks (data_byte deleted ∷ (bytes_at whole (q + 64) count ++ rest)))) (sym none_yet);
        },
      )
