-- A cut of a window leaves each other sector of a Parted track as it was.
use Rattle.std.proofs.Common.{◌≡◌, ◌↔◌, ℕ, ◌+◌, ◌-◌, ◌*◌, ◌/◌, ◌≤◌, Bool, List, length, take, drop, sym, ap, subst, ◌∙◌, arith, inl, inr}
use Rattle.track_model.proofs.Common.{cases_lt, cases_order, length-take, take-append-drop, Chrn, Look, Found, cells_at, IsInside, byte_at, IsAddressMark, IsAddressAt, content_size, content_at, LookAt, IsPlain, window_word, window_place, window_words, window_end, cut_of, span_cells, HasSizes, HasSpans, HasCleanGaps, HasCleanEnds, IsSpaced, IsRegular}
use Rattle.std.proofs.Math.Seq.{take-length}
use Rattle.track_model.proofs.Unique.{one_key}
use Rattle.track_model.proofs.Frames.{AreSame, same_back, same_cells_at, same_byte_at, same_bytes_at, same_run, same_address_mark, same_address_at}
use Rattle.track_model.proofs.Parted.{IsParted}
use Rattle.track_model.proofs.Spans.{same_look}
use Rattle.track_model.proofs.Splices
use Rattle.track_model.proofs.WindowMarks.{cells_at-left, byte_at-left}

-- words as long as a window, in which a mark A1 stands nowhere but in the run of a data field
pub record IsOverlay (words : List ℕ) (n : ℕ) : Type 0 where
  pub long : length words ≡ window_words n
  pub marks : (i : ℕ) → i + 16 ≤ 16 * length words → cells_at words i ≡ 0x4489 → (192 ≤ i) × (i ≤ 224)
  pub byte : byte_at words 240 ≡ 0xFE → ⊥

-- the longest cut is all words
pub all_of : (words : List ℕ) (k : ℕ) → k ≡ length words → take k words ≡ words
all_of words k e = ap (λ j. take j words) e ∙ take-length words

cells_of_first : (words : List ℕ) (k i : ℕ) → k ≤ length words → i + 16 ≤ 16 * k → cells_at (take k words) i ≡ cells_at words i
cells_of_first words k i most h =
    sym (cells_at-left (take k words) (drop k words) i (omega (arith, length-take k words))) ∙ ap (λ ws. cells_at ws i) (take-append-drop k words)

byte_of_first : (words : List ℕ) (k i : ℕ) → k ≤ length words → i + 16 ≤ 16 * k → byte_at (take k words) i ≡ byte_at words i
byte_of_first words k i most h =
    sym (byte_at-left (take k words) (drop k words) i (omega (arith, length-take k words))) ∙ ap (λ ws. byte_at ws i) (take-append-drop k words)

module _ (track : List ℕ) (p : ℕ) (key : Chrn) (words : List ℕ) (k : ℕ) (parted : IsParted track) (here : IsAddressAt track p key) (over : IsOverlay words key.n) (most : k ≤ length words) where
  long_cut : length (take k words) ≡ k
  long_cut = omega (arith, length-take k words)

  pub fits : window_word p + length (take k words) ≤ length track
  fits =
      let inside = parted.inside p key here in
      let long = over.long in
      omega (arith, long_cut)

  pub behind_end : 16 * (window_word p + k) ≤ window_end p key.n
  behind_end = let long = over.long in omega arith

  same_before : (q m : ℕ) → q + m ≤ window_place p → AreSame track (cut_of track p k words) q m
  same_before q m h = Splices.same_before track (window_word p) (take k words) fits q m h

  same_behind : (q m : ℕ) → window_place p + 16 * k ≤ q → AreSame track (cut_of track p k words) q m
  same_behind q m h = Splices.same_behind track (window_word p) (take k words) fits q m (omega (arith, long_cut))

  -- the cells put in are the window's
  pub cells_put : (q i : ℕ) → q ≡ 16 * window_word p + i → i + 16 ≤ 16 * k → cells_at (cut_of track p k words) q ≡ cells_at words i
  cells_put q i place h =
      Splices.cells_of track (window_word p) (take k words) fits q i place (omega (arith, long_cut)) ∙ cells_of_first words k i most h

  -- a mark that stands within the words put in stands in the window
  pub mark_in : (q : ℕ) → window_place p ≤ q → q + 16 ≤ window_place p + 16 * k → cells_at (cut_of track p k words) q ≡ 0x4489 → (window_place p + 192 ≤ q) × (q ≤ window_place p + 224)
  mark_in q low high mark =
      let i = q - window_place p in
      let place : q ≡ 16 * window_word p + i = omega arith in
      let found = over.marks i (omega arith) (sym (cells_put q i place (omega arith)) ∙ mark) in
      let low_i = found.0 in
      let high_i = found.1 in
      (omega arith, omega arith)

  -- none stands between the field and the window
  pub no_mark_before : (q : ℕ) → p + 160 ≤ q → q + 16 ≤ window_place p → cells_at (cut_of track p k words) q ≡ 0x4489 → ⊥
  no_mark_before q low high mark =
      parted.gaps p q key here low high
      (same_cells_at track (cut_of track p k words) q 16 q (same_before q 16 high) (omega arith) (omega arith) ∙ mark)

  -- an address mark behind the field ends behind the words put in
  pub mark_place : (m : ℕ) → IsAddressMark (cut_of track p k words) m → p + 160 ≤ m → window_place p + 16 * k ≤ m + 48
  mark_place m mark low =
      elim (cases_lt (m + 48) (window_place p + 16 * k)) [
        | inr h ↦ h
        | inl h ↦
            elim (cases_lt (window_place p) (m + 16)) [
              | inr a ↦ absurd (no_mark_before m low a mark.run.first)
              | inl a ↦
                  elim (cases_lt m (window_place p)) [
                    | inl b ↦
                        let found = (mark_in (m + 16) (omega arith) (omega arith) mark.run.second).0 in
                        absurd (omega arith)
                    | inr b ↦
                        let first = (mark_in m b (omega arith) mark.run.first).0 in
                        let third = (mark_in (m + 32) (omega arith) (omega arith) mark.run.third).1 in
                        let place : m + 48 ≡ 16 * window_word p + 240 = omega arith in
                        let byte = Splices.byte_of track (window_word p) (take k words) fits (m + 48) 240 place (omega (arith, long_cut)) in
                        let own = byte_of_first words k 240 most (omega arith) in
                        absurd (over.byte (sym own ∙ sym byte ∙ mark.mark))
                  ]
            ]
      ]

  -- if the whole window was put in, the address mark begins behind the window
  whole_mark_place : k ≡ length words → (m : ℕ) → IsAddressMark (cut_of track p k words) m → p + 160 ≤ m → window_end p key.n ≤ m
  whole_mark_place all m mark low =
      let long = over.long in
      let place = mark_place m mark low in
      elim (cases_lt m (window_end p key.n)) [
        | inr h ↦ h
        | inl h ↦
            elim (cases_lt (m + 32) (window_end p key.n)) [
              | inl a ↦
                  let found = (mark_in m (omega arith) (omega arith) mark.run.first).1 in
                  absurd (omega arith)
              | inr a ↦
                  let same = same_behind (m + 32) 16 (omega arith) in
                  let cells = same_cells_at track (cut_of track p k words) (m + 32) 16 (m + 32) same (omega arith) (omega arith) in
                  absurd (parted.ends p (m + 32) key here a (omega arith) (cells ∙ mark.run.third))
            ]
      ]

  -- a whole window leaves no address mark that wasn't there
  pub whole_marks : k ≡ length words → (m : ℕ) → IsAddressMark (cut_of track p k words) m → IsAddressMark track m
  whole_marks all m mark =
      let after = cut_of track p k words in
      let long = over.long in
      elim (cases_lt m (p + 160)) [
        | inl h ↦ same_address_mark after track m (same_back track after m 64 (same_before m 64 (omega arith))) mark
        | inr h ↦
            let place = whole_mark_place all m mark h in
            same_address_mark after track m (same_back track after m 64 (same_behind m 64 (omega arith))) mark
      ]

  -- ---- where no address mark came up

  module _ (old : (m : ℕ) → IsAddressMark (cut_of track p k words) m → IsAddressMark track m) where
    lengths : length track ≡ length (cut_of track p k words)
    lengths = (same_before 0 0 (omega arith)).lengths

    pub kept_address : (q : ℕ) (other : Chrn) → IsAddressAt track q other → IsAddressAt (cut_of track p k words) q other
    kept_address q other field =
        let after = cut_of track p k words in
        elim (cases_order q p) [
          | inl e ↦ same_address_at track after q other (same_before q 160 (omega arith)) field
          | inr (inl h) ↦
              let far = parted.ended q p other key field here h in
              same_address_at track after q other (same_before q 160 (omega arith)) field
          | inr (inr h) ↦
              let far = parted.ended p q key other here field h in
              same_address_at track after q other (same_behind q 160 (omega (arith, behind_end))) field
        ]

    -- a field behind the words put in was there before
    behind_address : (q : ℕ) (other : Chrn) → window_place p + 16 * k ≤ q + 48 → IsAddressAt (cut_of track p k words) q other → IsAddressAt track q other
    behind_address q other place field =
        let after = cut_of track p k words in
        let same = same_behind (q + 48) 112 place in
        let byte = λ (r : ℕ) (low : q + 48 ≤ r) (high : r + 16 ≤ q + 48 + 112). same_byte_at track after (q + 48) 112 r same low high in
        let mark = old q field.mark in
        record {
          mark = mark;
          cylinder = byte (q + 64) (omega arith) (omega arith) ∙ field.cylinder;
          head = byte (q + 80) (omega arith) (omega arith) ∙ field.head;
          sector = byte (q + 96) (omega arith) (omega arith) ∙ field.sector;
          size = byte (q + 112) (omega arith) (omega arith) ∙ field.size;
          check =
              ap (λ b. 256 * b + byte_at track (q + 128 + 16)) (byte (q + 128) (omega arith) (omega arith))
              ∙ ap (λ b. 256 * byte_at after (q + 128) + b) (byte (q + 128 + 16) (omega arith) (omega arith))
              ∙ field.check;
          sound = record {
            inside = let inside = field.sound.inside in omega (arith, lengths);
            no_zero = λ r low high zero.
                elim (cases_lt r (q + 64)) [
                  | inl h ↦ mark.sound.no_zero r low h zero
                  | inr h ↦ field.sound.no_zero r low high (sym (same.words (r / 16) (omega arith) (omega arith)) ∙ zero)
                ];
          };
        }

    pub old_address : (q : ℕ) (other : Chrn) → IsAddressAt (cut_of track p k words) q other → IsAddressAt track q other
    old_address q other field =
        let after = cut_of track p k words in
        elim (cases_lt q (p + 160)) [
          | inl h ↦ same_address_at after track q other (same_back track after q 160 (same_before q 160 (omega arith))) field
          | inr h ↦ behind_address q other (mark_place q field.mark h) field
        ]

    kept_plain : IsPlain (cut_of track p k words)
    kept_plain m mark q low high run =
        let after = cut_of track p k words in
        elim (cases_lt m (p + 160)) [
          | inl h ↦ parted.plain m (old m mark) q low high (same_run after track q (same_back track after q 48 (same_before q 48 (omega arith))) run)
          | inr h ↦
              let place = mark_place m mark h in
              parted.plain m (old m mark) q low high (same_run after track q (same_back track after q 48 (same_behind q 48 (omega arith))) run)
        ]

    kept_sizes : HasSizes (cut_of track p k words)
    kept_sizes q other field = parted.coded q other (old_address q other field)

    kept_inside : (q : ℕ) (other : Chrn) → IsAddressAt (cut_of track p k words) q other → IsInside (cut_of track p k words) q (span_cells other.n)
    kept_inside q other field = let inside = parted.inside q other (old_address q other field) in omega (arith, lengths)

    kept_spans : HasSpans track → HasSpans (cut_of track p k words)
    kept_spans spans = record {
      inside = kept_inside;
      apart = λ q r one two a b h. spans.apart q r one two (old_address q one a) (old_address r two b) h;
    }

    kept_gaps : HasCleanGaps (cut_of track p k words)
    kept_gaps q r other field low high mark =
        let after = cut_of track p k words in
        let was = old_address q other field in
        let given = λ (same : AreSame track after r 16). parted.gaps q r other was low high (same_cells_at track after r 16 r same (omega arith) (omega arith) ∙ mark) in
        elim (cases_order q p) [
          | inl e ↦ given (same_before r 16 (omega arith))
          | inr (inl h) ↦
              let far = parted.ended q p other key was here h in
              given (same_before r 16 (omega arith))
          | inr (inr h) ↦
              let far = parted.ended p q key other here was h in
              given (same_behind r 16 (omega (arith, behind_end)))
        ]

    same_end : (q : ℕ) (other : Chrn) → IsAddressAt track q other → q ≡ p → window_end q other.n ≡ window_end p key.n
    same_end q other field e =
        ap (λ r. window_end r other.n) e ∙ ap (λ (one : Chrn). window_end p one.n) (one_key track p other key (subst (λ r. IsAddressAt track r other) e field) here)

    kept_ends : HasCleanEnds (cut_of track p k words)
    kept_ends q r other field low high mark =
        let after = cut_of track p k words in
        let was = old_address q other field in
        let given = λ (same : AreSame track after r 16). parted.ends q r other was low high (same_cells_at track after r 16 r same (omega arith) (omega arith) ∙ mark) in
        elim (cases_order q p) [
          | inl e ↦ given (same_behind r 16 (omega (arith, behind_end, same_end q other was e)))
          | inr (inl h) ↦
              let far = parted.ended q p other key was here h in
              given (same_before r 16 (omega arith))
          | inr (inr h) ↦
              let far = parted.ended p q key other here was h in
              given (same_behind r 16 (omega (arith, behind_end)))
        ]

    pub kept_parted : IsParted (cut_of track p k words)
    kept_parted = record {
      plain = kept_plain;
      coded = kept_sizes;
      inside = kept_inside;
      ended = λ q r one two a b h. parted.ended q r one two (old_address q one a) (old_address r two b) h;
      looked = λ q r one two a b h. parted.looked q r one two (old_address q one a) (old_address r two b) h;
      gaps = kept_gaps;
      ends = kept_ends;
    }

    pub kept_spaced : IsSpaced track → IsSpaced (cut_of track p k words)
    kept_spaced spaced = record { plain = kept_plain; coded = kept_sizes; spans = kept_spans spaced.spans; gaps = kept_gaps; ends = kept_ends }

    pub kept_regular : (c h : ℕ) → IsRegular track c h → IsRegular (cut_of track p k words) c h
    kept_regular c h regular = record {
      plain = kept_plain;
      keys = record {
        distinct = λ q r other a b. regular.keys.distinct q r other (old_address q other a) (old_address r other b);
        cylinder = λ q other a. regular.keys.cylinder q other (old_address q other a);
        head = λ q other a. regular.keys.head q other (old_address q other a);
        coded = kept_sizes;
      };
      spans = kept_spans regular.spans;
      gaps = kept_gaps;
      ends = kept_ends;
    }

  other_span : (q : ℕ) (other : Chrn) → (q ≡ p → ⊥) → IsAddressAt track q other → AreSame track (cut_of track p k words) q (span_cells other.n)
  other_span q other not field =
      elim (cases_order q p) [
        | inl e ↦ absurd (not e)
        | inr (inl h) ↦
            let far = parted.looked q p other key field here h in
            same_before q (span_cells other.n) (omega arith)
        | inr (inr h) ↦
            let far = parted.ended p q key other here field h in
            same_behind q (span_cells other.n) (omega (arith, behind_end))
      ]

  -- each other field keeps its look
  pub kept_look : (q : ℕ) (other : Chrn) (look : Look) → (q ≡ p → ⊥) → IsAddressAt track q other → LookAt track q other.n look ↔ LookAt (cut_of track p k words) q other.n look
  kept_look q other look not field =
      let after = cut_of track p k words in
      let same = other_span q other not field in
      (same_look track after q other.n look same, same_look after track q other.n look (same_back track after q (span_cells other.n) same))

  -- and its content
  pub kept_content : (q : ℕ) (other : Chrn) (deleted : Bool) (place : ℕ) → (q ≡ p → ⊥) → IsAddressAt track q other → LookAt track q other.n (Found deleted place) → content_at track place other.n ≡ content_at (cut_of track p k words) place other.n
  kept_content q other deleted place not field look =
      let at_place = look.2 in
      let from = look.1.first.mark.after in
      let near = look.1.first.mark.near in
      same_bytes_at track (cut_of track p k words) q (span_cells other.n) place (content_size other.n) (other_span q other not field) (omega arith) (omega arith)
