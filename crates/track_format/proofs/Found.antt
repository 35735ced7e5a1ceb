-- The fields of a formatted track, and what a look at each finds.
use Rattle.std.proofs.Common.{◌≡◌, ℕ, suc, ◌+◌, ◌-◌, ◌*◌, ◌<◌, ◌≤◌, Bool, false, List, length, get_or, refl, sym, ap, subst, ◌∙◌, arith, inl, inr}
use Rattle.track_format.proofs.Common.{get_or_default, cases_lt, cases_order, Chrn, Byte, Found, byte_at, IsRun, IsAddressMark, IsAddressAt, IsDataMark, IsSizeCode, content_size, data_cells, LookAt, IsPlain, IsLone, span_cells, HasSizes, HasSpans, HasCleanGaps, HasCleanEnds, IsSpaced, IsRegular, IsKey, data_content, address_content, one_key, IsParted, no_mark_in_bytes}
use Rattle.track_model.specs.Cells.{IsInside}
use Rattle.track_format.proofs.Parts.{filler, in_sync, in_gap}
use Rattle.track_format.proofs.Steps.{length-data_content}
use Rattle.track_format.proofs.Tracked.{sector_words, sector_ends, sectors_apart, at_end_gap}
use Rattle.track_format.proofs.Runs.{run_place}
use Rattle.track_format.proofs.Placed.{cells, laid, length-laid, length-cells, inside_of, sound, at_address, at_data, address_is, data_run, first_byte, data_check}

module _ (n gap3 fill : ℕ) (keys : List Chrn) (d : Chrn) (words : ℕ) (fits : 146 + length keys * sector_words (content_size n) gap3 ≤ words) where
  abbrev it : List ℕ
  it = laid n gap3 fill keys d words fits

  abbrev from : ℕ → ℕ
  from i = 146 + i * sector_words (content_size n) gap3

  abbrev here : ℕ → ℕ
  here i = 16 * (from i + 12)

  abbrev there : ℕ → ℕ
  there i = 16 * (from i + 56)

  abbrev key : ℕ → Chrn
  key i = get_or keys i d

  apart : (i j : ℕ) → i < j → from i + sector_words (content_size n) gap3 ≤ from j
  apart i j h = let e = sectors_apart (content_size n) gap3 fill keys d words fits i j h in omega arith

  pub address_mark_place : (p : ℕ) → IsAddressMark it p → (i : ℕ) × (i < length keys) × (p ≡ here i)
  address_mark_place p mark =
      let found = run_place (content_size n) gap3 fill keys d words fits p mark.run in
      let i = found.1 in
      elim found.4 [
        | inl e ↦ (i, found.3, found.2 ∙ ap (λ k. 16 * k) e)
        | inr e ↦
            let same : p + 48 ≡ there i + 48 = ap (λ k. k + 48) (found.2 ∙ ap (λ k. 16 * k) e) in
            let f : 0xFE ≡ 0xFB = sym mark.mark ∙ ap (byte_at it) same ∙ first_byte n gap3 fill keys d words fits i found.3 in
            absurd (omega (arith, f))
      ]

  -- no run begins between the marks of an address field and those of its data field
  no_run_between : (i q : ℕ) → here i < q → q < there i → IsRun it q → ⊥
  no_run_between i q low high run =
      let found = run_place (content_size n) gap3 fill keys d words fits q run in
      let k = found.0 in
      let j = found.1 in
      let place = found.2 in
      elim (cases_order i j) [
        | inl same ↦
            let e : from i ≡ from j = ap from same in
            elim found.4 [ inl a ↦ omega (arith, a, e) | inr b ↦ omega (arith, b, e) ]
        | inr (inl before) ↦
            let e = apart i j before in
            elim found.4 [ inl a ↦ omega (arith, a, e) | inr b ↦ omega (arith, b, e) ]
        | inr (inr after) ↦
            let e = apart j i after in
            elim found.4 [ inl a ↦ omega (arith, a, e) | inr b ↦ omega (arith, b, e) ]
      ]

  pub plain : IsPlain it
  plain p mark q low high run =
      let at = address_mark_place p mark in
      let e = at.2 in
      no_run_between at.0 q (omega arith) (omega arith) run

  -- the only data mark of an address field is that of its sector
  data_mark_place : (i q : ℕ) (deleted : Bool) → 256 ≤ content_size n → IsDataMark it (here i) q deleted → q ≡ there i
  data_mark_place i q deleted large mark =
      let found = run_place (content_size n) gap3 fill keys d words fits q mark.run.run in
      let j = found.1 in
      let place = found.2 in
      let after = mark.after in
      let near = mark.near in
      elim (cases_order i j) [
        | inl same ↦
            let e : from i ≡ from j = ap from same in
            elim found.4 [ inl a ↦ absurd (omega (arith, a, e)) | inr b ↦ omega (arith, b, e) ]
        | inr (inl before) ↦
            let e = apart i j before in
            absurd (elim found.4 [ inl a ↦ omega (arith, a, e) | inr b ↦ omega (arith, b, e) ])
        | inr (inr behind) ↦
            let e = apart j i behind in
            absurd (elim found.4 [ inl a ↦ omega (arith, a, e) | inr b ↦ omega (arith, b, e) ])
      ]

  pub lone : (p : ℕ) → 256 ≤ content_size n → IsAddressMark it p → IsLone it p
  lone p large mark q r deleted other one two =
      let at = address_mark_place p mark in
      let first : IsDataMark it (here at.0) q deleted = subst (λ k. IsDataMark it k q deleted) at.2 one in
      let second : IsDataMark it (here at.0) r other = subst (λ k. IsDataMark it k r other) at.2 two in
      data_mark_place at.0 q deleted large first ∙ sym (data_mark_place at.0 r other large second)

  pub look : (i : ℕ) → i < length keys → fill < 256 → IsSizeCode n → LookAt it (here i) n (Found false (there i + 64))
  look i h fit coded =
      let room = inside_of n gap3 fill keys d words fits i (61 + content_size n) h (omega arith) in
      let long = length-laid n gap3 fill keys d words fits in (
        there i,
        record {
          coded = coded;
          first = record {
            mark = record {
              after = omega arith;
              near = omega arith;
              run = record {
                run = data_run n gap3 fill keys d words fits i h;
                mark = first_byte n gap3 fill keys d words fits i h;
                sound = sound n gap3 fill keys d words fits (there i) 64 (omega arith);
              };
            };
            none_before = λ k other before mark.
                let after = mark.after in no_run_between i k (omega arith) before mark.run.run;
          };
          inside = omega arith;
        },
        refl,
        record {
          sound = sound n gap3 fill keys d words fits (there i) (data_cells n) (omega arith);
          content_is = refl;
          check = data_check n gap3 fill keys d words fits i h fit;
        },
      )

  module _ (are_keys : (i : ℕ) → i < length keys → IsKey (key i)) where
    pub only : (p : ℕ) (other : Chrn) → IsAddressAt it p other → (i : ℕ) × (i < length keys) × (p ≡ here i) × (other ≡ key i)
    only p other address =
        let at = address_mark_place p address.mark in
        let found = address_is n gap3 fill keys d words fits at.0 at.1 (are_keys at.0 at.1) in
        (at.0, at.1, at.2, one_key it p other (key at.0) address (subst (λ k. IsAddressAt it k (key at.0)) (sym at.2) found))

    module _ (coded : IsSizeCode n) (asked : (i : ℕ) → i < length keys → (key i).n ≡ n) where
      has_size : (p : ℕ) (other : Chrn) → IsAddressAt it p other → other.n ≡ n
      has_size p other address = let at = only p other address in ap (λ k. k.n) at.3 ∙ asked at.0 at.1

      pub sizes : HasSizes it
      sizes p other address = subst IsSizeCode (sym (has_size p other address)) coded

      pub gaps : HasCleanGaps it
      gaps p q other address low high mark =
          let at = only p other address in
          let e = at.2 in
          let i = at.0 in
          no_mark_in_bytes false (cells n gap3 fill keys d words fits) q
          (λ k above below.
          let j = k - from i in
          let room = inside_of n gap3 fill keys d words fits i j at.1 (omega arith) in
          let within : k < length (cells n gap3 fill keys d words fits) = omega (arith, length-cells n gap3 fill keys d words fits) in (
            0x4E,
            within,
            get_or_default (cells n gap3 fill keys d words fits) k (Byte 0) filler within
                ∙ at_address n gap3 fill keys d words fits i j k at.1 (omega arith) (omega arith)
                ∙ in_gap (address_content (key i)) 22 j (omega arith),
          ))
          mark

      module _ (end_room : 27 ≤ gap3 + (words - (146 + length keys * sector_words (content_size n) gap3))) where
        room_behind : (i : ℕ) → i < length keys → from i + 89 + content_size n ≤ words
        room_behind i h =
            elim (cases_lt (suc i) (length keys)) [
              | inl more ↦ let e = sector_ends (content_size n) gap3 fill keys d words fits (suc i) more in omega arith
              | inr last ↦
                  let same : suc i ≡ length keys = omega arith in
                  let e : suc i * sector_words (content_size n) gap3 ≡ length keys * sector_words (content_size n) gap3 = ap (λ m. m * sector_words (content_size n) gap3) same in
                  omega arith
            ]

        -- the four words after a data field record bytes: of gap 3, and then of the next sector's sync or of gap 4b
        byte_behind : (i j k : ℕ) → i < length keys → j < 4 → k ≡ from i + 62 + content_size n + j → (byte : ℕ) × (get_or (cells n gap3 fill keys d words fits) k filler ≡ Byte byte)
        byte_behind i j k h small e =
            let long = length-data_content (content_size n) fill in
            elim (cases_lt j gap3) [
              | inl within ↦ (
                0x4E,
                at_data n gap3 fill keys d words fits i (18 + content_size n + j) k h (omega arith) (omega arith)
                    ∙ in_gap (data_content (content_size n) fill) gap3 (18 + content_size n + j) (omega (arith, long)),
              )
              | inr past ↦
                  elim (cases_lt (suc i) (length keys)) [
                    | inl more ↦ (
                      0,
                      at_address n gap3 fill keys d words fits (suc i) (j - gap3) k more (omega arith) (omega arith)
                          ∙ in_sync (address_content (key (suc i))) 22 (j - gap3) (omega arith),
                    )
                    | inr last ↦
                        let all : suc i ≡ length keys = omega arith in
                        let ended : suc i * sector_words (content_size n) gap3 ≡ length keys * sector_words (content_size n) gap3 = ap (λ m. m * sector_words (content_size n) gap3) all in
                        (0x4E, at_end_gap (content_size n) gap3 fill keys d words fits k (omega arith))
                  ]
            ]

        pub ends : HasCleanEnds it
        ends p q other address low high mark =
            let at = only p other address in
            let e = at.2 in
            let i = at.0 in
            let size : content_size other.n ≡ content_size n = ap content_size (has_size p other address) in
            let room = room_behind i at.1 in
            no_mark_in_bytes false (cells n gap3 fill keys d words fits) q
            (λ k above below.
            let within : k < length (cells n gap3 fill keys d words fits) = omega (arith, length-cells n gap3 fill keys d words fits) in
            let byte = byte_behind i (k - (from i + 62 + content_size n)) k at.1 (omega arith) (omega arith) in (
              byte.0,
              within,
              get_or_default (cells n gap3 fill keys d words fits) k (Byte 0) filler within ∙ byte.1,
            ))
            mark

        inside : (p : ℕ) (other : Chrn) → IsAddressAt it p other → IsInside it p (span_cells other.n)
        inside p other address =
            let at = only p other address in
            let e = at.2 in
            let size : content_size other.n ≡ content_size n = ap content_size (has_size p other address) in
            let room = room_behind at.0 at.1 in
            let long = length-laid n gap3 fill keys d words fits in omega arith

        -- the next address field is a whole sector further, and there is more than gap 3 between them
        sector_further : (p q : ℕ) (other another : Chrn) → IsAddressAt it p other → IsAddressAt it q another → p < q → (i j : ℕ) × (p ≡ here i) × (q ≡ here j) × (from i + sector_words (content_size n) gap3 ≤ from j)
        sector_further p q other another address further less =
            let at = only p other address in
            let to = only q another further in
            let e = at.2 in
            let f = to.2 in (
              at.0,
              to.0,
              at.2,
              to.2,
              elim (cases_order at.0 to.0) [
                | inl same ↦ let g : from at.0 ≡ from to.0 = ap from same in absurd (omega arith)
                | inr (inl before) ↦ apart at.0 to.0 before
                | inr (inr after) ↦ let g = apart to.0 at.0 after in absurd (omega arith)
              ],
            )

        -- however small gap 3 is, a write over one sector reaches no other
        pub parted : IsParted it
        parted = record {
          plain = plain;
          coded = sizes;
          inside = inside;
          ended = λ p q other another address further less.
              let size : content_size other.n ≡ content_size n = ap content_size (has_size p other address) in
              let (i, j, e, f, far) = sector_further p q other another address further less in omega arith;
          looked = λ p q other another address further less.
              let size : content_size other.n ≡ content_size n = ap content_size (has_size p other address) in
              let (i, j, e, f, far) = sector_further p q other another address further less in omega arith;
          gaps = gaps;
          ends = ends;
        }

        module _ (wide : 16 ≤ gap3) where
          pub spans : HasSpans it
          spans = record {
            inside = inside;
            apart = λ p q other another address further less.
                let size : content_size other.n ≡ content_size n = ap content_size (has_size p other address) in
                let (i, j, e, f, far) = sector_further p q other another address further less in omega arith;
          }

          pub spaced : IsSpaced it
          spaced = record { plain = plain; coded = sizes; spans = spans; gaps = gaps; ends = ends }

          pub regular : (c h : ℕ) → ((i j : ℕ) → i < length keys → j < length keys → key i ≡ key j → i ≡ j) → ((i : ℕ) → i < length keys → ((key i).c ≡ c) × ((key i).h ≡ h)) → IsRegular it c h
          regular c h distinct one = record {
            plain = plain;
            keys = record {
              distinct = λ p q other address further.
                  let at = only p other address in
                  let to = only q other further in
                  at.2 ∙ ap here (distinct at.0 to.0 at.1 to.1 (sym at.3 ∙ to.3)) ∙ sym to.2;
              cylinder = λ p other address.
                  let at = only p other address in ap (λ k. k.c) at.3 ∙ (one at.0 at.1).0;
              head = λ p other address.
                  let at = only p other address in ap (λ k. k.h) at.3 ∙ (one at.0 at.1).1;
              coded = sizes;
            };
            spans = spans;
            gaps = gaps;
            ends = ends;
          }
