-- A word while the separator hunts for address marks.
use Rattle.std.proofs.Common.{◌≡◌, ◌≢◌, ℕ, zero, suc, ◌+◌, ◌-◌, ◌*◌, ◌/◌, ◌<◌, ◌≤◌, List, length, get_or, refl, sym, ap, ◌∙◌, arith, inl, inr}
use Rattle.track_separator.proofs.Common.{cases_lt, cases_order, Chrn, byte_at, TouchesNoZero, IsSound, IsRun, IsAddressMark, IsAddressAt, HasNoRunWithin, one_key, Nothing, Mark, Address, Stage, Hunting, Reading, Addressed, HasNoZeroFrom, KeepsFrom, HasTail, IsFull, IsNext, HasRunBits, register_byte, register_check, IsKeyIn, EndsInLast, HuntsIn, IsFollowed, FollowsIn, GivesAll, IsAtByte, IsByteTaken}
use Rattle.track_separator.proofs.Shared.{AreAlike, alike_back, alike_run, alike_byte_at}
use Rattle.track_separator.proofs.Runs.{runs_apart, run_ends, no_run_after, address_high}
use Rattle.track_separator.proofs.Next.{IsMore, no_zero_down, last_some, tail_next, full_next, byte_kept, run_shown, IsFound, run_found}

pub tail_of : (fed : List ℕ) (cells back : ℕ) (stage : Stage) → HuntsIn fed cells back stage → HasTail fed cells
tail_of fed cells back Hunting h = h
tail_of fed cells back Addressed h = h.2.tail
tail_of fed cells back (Reading bytes) h = h.0
tail_of fed cells back _ h = absurd h

-- the cells before the end were recorded
pub sound_from : (fed : List ℕ) (p count : ℕ) → HasNoZeroFrom fed p → p + count ≤ 16 * length fed → IsSound fed p count
sound_from fed p count none h = record { inside = h; no_zero = λ q low high. none q low (omega arith) }

-- ---- the byte that has come into the register

module _ (fed : List ℕ) (cells p bytes back : ℕ) (at : IsAtByte fed cells p bytes back) where
  kept_from : (s : ℕ) → p ≤ s → 16 * length fed ≤ s + 128 → KeepsFrom fed cells s
  kept_from s low near = at.full s low near (λ q l h. at.no_zero q (omega arith) h)

  shown_byte : (r b : ℕ) → p ≤ r → 16 * length fed ≤ r + 128 → r + 16 + b ≡ 16 * length fed → register_byte cells b ≡ byte_at fed r
  shown_byte r b low near place = byte_kept fed cells r r b (kept_from r low near) (omega arith) place

  mark_byte : bytes ≡ 0 → register_byte cells back ≡ byte_at fed (p + 48)
  mark_byte e = let place = at.place in let small = at.small in shown_byte (p + 48) back (omega arith) (omega arith) (omega arith)

  pub taken_other : bytes ≡ 0 → (register_byte cells back ≡ 0xFE → ⊥) → IsByteTaken fed p bytes back cells back Hunting Nothing
  taken_other e other = record {
    hunts = at.tail;
    tells = tt;
    goes = λ few mark. absurd (other (mark_byte e ∙ mark));
    is_mark = λ f mark. absurd (other (mark_byte e ∙ mark));
    is_address = λ key six address. absurd (omega arith);
  }

  pub taken_mark : bytes ≡ 0 → register_byte cells back ≡ 0xFE → IsByteTaken fed p bytes back cells back (Reading 1) Mark
  taken_mark e is =
      let place = at.place in
      let small = at.small in
      let mark = sym (mark_byte e) ∙ is in
      let one : 1 ≡ bytes + 1 = omega arith in
      record {
        hunts = (at.tail, (p, record { place = omega arith; few = omega arith; run = at.run; no_zero = at.no_zero; mark = λ h. mark; full = at.full }));
        tells = (
          p,
          record { inside = omega arith; last = omega arith },
          record { run = at.run; mark = mark; sound = sound_from fed p 64 at.no_zero (omega arith) },
        );
        goes = λ few h. (ap Reading one, refl);
        is_mark = λ f h. refl;
        is_address = λ key six address. absurd (omega arith);
      }

  module _ (six : bytes ≡ 6) where
    key_shown : (r b : ℕ) → p + 48 ≤ r → r + 16 + b ≡ 16 * length fed → register_byte cells b ≡ byte_at fed r
    key_shown r b low h = let place = at.place in let small = at.small in shown_byte r b (omega arith) (omega arith) h

    check_shown : register_check cells back ≡ 256 * byte_at fed (p + 128) + byte_at fed (p + 128 + 16)
    check_shown =
        let place = at.place in
        let high = key_shown (p + 128) (back + 16) (omega arith) (omega arith) in
        let low = key_shown (p + 128 + 16) back (omega arith) (omega arith) in
        ap (λ h. 256 * h + register_byte cells back) high ∙ ap (λ l. 256 * byte_at fed (p + 128) + l) low

    address_shown : (key : Chrn) → IsKeyIn cells back key → IsAddressAt fed p key
    address_shown key is =
        let place = at.place in
        let mark = at.mark (omega arith) in
        record {
          mark = record { run = at.run; mark = mark; sound = sound_from fed p 64 at.no_zero (omega arith) };
          cylinder = sym (key_shown (p + 64) (back + 80) (omega arith) (omega arith)) ∙ is.cylinder;
          head = sym (key_shown (p + 80) (back + 64) (omega arith) (omega arith)) ∙ is.head;
          sector = sym (key_shown (p + 96) (back + 48) (omega arith) (omega arith)) ∙ is.sector;
          size = sym (key_shown (p + 112) (back + 32) (omega arith) (omega arith)) ∙ is.size;
          check = sym check_shown ∙ is.check;
          sound = sound_from fed p 160 at.no_zero (omega arith);
        }

    key_of : (key : Chrn) → IsAddressAt fed p key → IsKeyIn cells back key
    key_of key address =
        let place = at.place in
        record {
          cylinder = key_shown (p + 64) (back + 80) (omega arith) (omega arith) ∙ address.cylinder;
          head = key_shown (p + 80) (back + 64) (omega arith) (omega arith) ∙ address.head;
          sector = key_shown (p + 96) (back + 48) (omega arith) (omega arith) ∙ address.sector;
          size = key_shown (p + 112) (back + 32) (omega arith) (omega arith) ∙ address.size;
          check = check_shown ∙ address.check;
        }

  pub taken_address : (key : Chrn) → 6 ≤ bytes → IsKeyIn cells back key → IsByteTaken fed p bytes back cells back Addressed (Address key)
  taken_address key many is =
      let place = at.place in
      let small = at.small in
      let few = at.few in
      let six : bytes ≡ 6 = omega arith in
      let address = address_shown six key is in
      record {
        hunts = (p, (key, address), record { place = omega arith; tail = at.tail; full = at.full });
        tells = (
          p,
          record { inside = omega arith; last = omega arith },
          address,
          record { place = omega arith; tail = at.tail; full = at.full },
        );
        goes = λ less mark. absurd (omega arith);
        is_mark = λ none mark. absurd (omega arith);
        is_address = λ other f is_other. ap Address (one_key fed p key other address is_other);
      }

  pub taken_damaged : 6 ≤ bytes → ((key : Chrn) → IsKeyIn cells back key → ⊥) → IsByteTaken fed p bytes back cells back Hunting Nothing
  taken_damaged many none = record {
    hunts = at.tail;
    tells = tt;
    goes = λ less mark. absurd (omega arith);
    is_mark = λ f mark. absurd (omega arith);
    is_address = λ key six address. absurd (none key (key_of six key address));
  }

-- ---- the word

module _ (fed : List ℕ) (word : ℕ) (whole : List ℕ) (more : IsMore fed word whole) where
  pub back_alike : AreAlike whole fed (16 * length fed)
  back_alike = alike_back fed whole (16 * length fed) more.alike

  -- what may become an address field was followed before the word too, with one byte less
  was_followed : (p m own : ℕ) → IsFollowed whole p (suc m) own → IsFollowed fed p m own
  was_followed p m own now =
      let size = more.size in
      let place = now.place in
      let few = now.few in
      record {
        place = omega arith;
        small = now.small;
        few = omega arith;
        run = alike_run whole fed (16 * length fed) back_alike p (omega arith) now.run;
        no_zero = no_zero_down fed word whole more p now.no_zero;
        mark = λ h. sym (alike_byte_at whole fed (16 * length fed) back_alike (p + 48) (omega arith)) ∙ now.mark (omega arith);
        last = λ k low run. now.last k low (alike_run fed whole (16 * length fed) more.alike k (run_ends fed k run) run);
      }

  -- what was all recorded and ends in the last word has no word 0000 from its beginning on
  pub zero_free : (p count : ℕ) → 0 < count → EndsInLast whole (p + count) → TouchesNoZero whole p count → HasNoZeroFrom whole p
  zero_free p count some ends none q low high zero_word =
      let inside = ends.inside in
      let last = ends.last in
      elim (cases_lt q (p + count)) [
        | inl h ↦ none q low h zero_word
        | inr h ↦
            let word_is : q / 16 ≡ (p + count - 1) / 16 = omega arith in
            none (p + count - 1) (omega arith) (omega arith) (ap (λ k. get_or whole k 0) (sym word_is) ∙ zero_word)
      ]

  -- if an address mark ends in the word, its run was followed before the word
  pub mark_followed : (p : ℕ) → EndsInLast whole (p + 64) → IsAddressMark whole p → IsFollowed fed p 0 (16 * length whole - p - 64)
  mark_followed p ends mark =
      let size = more.size in
      let inside = ends.inside in
      let last = ends.last in
      let run : IsRun fed p = alike_run whole fed (16 * length fed) back_alike p (omega arith) mark.run in
      record {
        place = omega arith;
        small = omega arith;
        few = omega arith;
        run = run;
        no_zero = no_zero_down fed word whole more p (zero_free p 64 (omega arith) ends mark.sound.no_zero);
        mark = λ h. absurd (omega arith);
        last = λ k low other. let end = run_ends fed k other in runs_apart fed p k run other low (omega arith);
      }

  -- if an address field in which no run begins ends in the word, it was followed before the word, with six bytes
  pub address_followed : (p : ℕ) (key : Chrn) → EndsInLast whole (p + 160) → IsAddressAt whole p key → HasNoRunWithin whole p → IsFollowed fed p 6 (16 * length whole - p - 160)
  address_followed p key ends address clean =
      let size = more.size in
      let inside = ends.inside in
      let last = ends.last in
      let mark = address.mark in
      record {
        place = omega arith;
        small = omega arith;
        few = omega arith;
        run = alike_run whole fed (16 * length fed) back_alike p (omega arith) mark.run;
        no_zero = no_zero_down fed word whole more p (zero_free p 160 (omega arith) ends address.sound.no_zero);
        mark = λ h. sym (alike_byte_at whole fed (16 * length fed) back_alike (p + 48) (omega arith)) ∙ mark.mark;
        last = λ k low other.
            let end = run_ends fed k other in
            let up = alike_run fed whole (16 * length fed) more.alike k end other in
            elim (cases_lt k (p + 48)) [
              | inl h ↦ no_run_after whole p k mark.run (address_high whole p mark.mark) low h up
              | inr h ↦ clean k h (omega arith) up
            ];
      }

  module _ (cells back after : ℕ) (stage : Stage) (next : IsNext cells word after) where
    pub tail_here : HuntsIn fed cells back stage → HasTail whole after
    tail_here hunts = tail_next fed word whole more cells after next (tail_of fed cells back stage hunts)

    pub full_here : FollowsIn fed cells back stage → IsFull whole after 0
    full_here was = full_next fed word whole more cells after 0 next was.full

    -- a run that ends in the word shows in the register
    shows : FollowsIn fed cells back stage → (p own : ℕ) → IsFollowed whole p 0 own → HasRunBits after own
    shows was p own now =
        let place = now.place in
        let small = now.small in
        run_shown whole after p own (full_here was p (omega arith) (omega arith) now.no_zero) now.run (omega arith)

    -- ---- a run ends in the word

    module _ (b : ℕ) (small : b < 16) (run : HasRunBits after b) where
      found : HuntsIn fed cells back stage → (p : ℕ) × IsFound whole after b p
      found hunts = run_found whole after b (tail_here hunts) small run

      pub run_hunts : HuntsIn fed cells back stage → HuntsIn whole after b (Reading 0)
      run_hunts hunts =
          let f = found hunts in
          let at = f.1 in
          let place = at.place in
          (tail_here hunts, (f.0, record { place = omega arith; few = omega arith; run = at.run; no_zero = at.no_zero; mark = λ h. absurd (omega arith); full = at.full }))

      -- that run is the one that is followed
      same_run : HuntsIn fed cells back stage → (p bytes own : ℕ) → IsFollowed whole p bytes own → (0 ≡ bytes) × (b ≡ own)
      same_run hunts p bytes own now =
          let f = found hunts in
          let at = f.1 in
          let place = at.place in
          let other = now.place in
          elim (cases_order p f.0) [
            | inl e ↦ let bytes_none : 0 ≡ bytes = omega arith in (bytes_none, omega arith)
            | inr (inl h) ↦ absurd (now.last f.0 h at.run)
            | inr (inr h) ↦ absurd (runs_apart whole f.0 p at.run now.run h (omega arith))
          ]

      pub run_follows : FollowsIn fed cells back stage → FollowsIn whole after b (Reading 0)
      run_follows was = record {
        hunts = run_hunts was.hunts;
        full = full_here was;
        followed = λ p bytes own now. let same = same_run was.hunts p bytes own now in (ap Reading same.0, same.1);
      }

      no_mark_here : HuntsIn fed cells back stage → (p : ℕ) → EndsInLast whole (p + 64) → IsAddressMark whole p → ⊥
      no_mark_here hunts p ends mark =
          let f = found hunts in
          let at = f.1 in
          let place = at.place in
          let inside = ends.inside in
          let last = ends.last in
          no_run_after whole p f.0 mark.run (address_high whole p mark.mark) (omega arith) (omega arith) at.run

      pub run_gives : FollowsIn fed cells back stage → GivesAll whole Nothing
      run_gives was = record {
        mark = λ p ends mark. absurd (no_mark_here was.hunts p ends mark);
        address = λ p key ends address clean.
            let f = found was.hunts in
            let at = f.1 in
            let place = at.place in
            let inside = ends.inside in
            let last = ends.last in
            absurd (clean f.0 (omega arith) (omega arith) at.run);
      }

    -- ---- no run ends in the word

    module _ (none : (b : ℕ) → b < 16 → HasRunBits after b → ⊥) where
      -- what is followed after the word was followed before it
      pub before : FollowsIn fed cells back stage → (p bytes own : ℕ) → IsFollowed whole p bytes own → (m : ℕ) × (bytes ≡ suc m) × IsFollowed fed p m own
      before was p zero own now = absurd (none own now.small (shows was p own now))
      before was p (suc m) own now = (m, refl, was_followed p m own now)

      -- nothing was read, or the word is zero
      module _ (idle : (m : ℕ) → stage ≡ Reading m → word ≢ 0 → ⊥) where
        nothing_read : FollowsIn fed cells back stage → (p m own : ℕ) → IsFollowed fed p m own → word ≢ 0 → ⊥
        nothing_read was p m own now some = idle m (was.followed p m own now).0 some

        pub idle_follows : FollowsIn fed cells back stage → FollowsIn whole after back Hunting
        idle_follows was =
            let size = more.size in
            record {
              hunts = tail_here was.hunts;
              full = full_here was;
              followed = λ p bytes own now.
                  let b = before was p bytes own now in
                  let place = now.place in
                  absurd (nothing_read was p b.0 own b.2 (last_some fed word whole more p (omega arith) now.no_zero));
            }

        pub idle_gives : FollowsIn fed cells back stage → GivesAll whole Nothing
        idle_gives was =
            let size = more.size in
            record {
              mark = λ p ends mark.
                  let inside = ends.inside in
                  absurd (nothing_read was p 0 _ (mark_followed p ends mark) (last_some fed word whole more p (omega arith) (zero_free p 64 (omega arith) ends mark.sound.no_zero)));
              address = λ p key ends address clean.
                  let inside = ends.inside in
                  absurd (nothing_read was p 6 _ (address_followed p key ends address clean) (last_some fed word whole more p (omega arith) (zero_free p 160 (omega arith) ends address.sound.no_zero)));
            }
