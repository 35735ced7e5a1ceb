-- A regular track after several writes of the same content, and why none of them is refused if it is undisturbed.
use Rattle.std.proofs.Common.{◌≡◌, ℕ, ◌+◌, ◌≤◌, ◌⊎◌, List, length, max, Option, refl, sym, ap, ◌∙◌, subst, arith, inl, inr}
use Rattle.floppy_driver.proofs.Common.{Code, NoMark, NotFound, Overrun, BadCrc, Seek, Look, IsAddressAt, content_at, IsRegular, window_place, cut_of, IsCut, IsFieldFor, IsTidy, Counters, IsUndisturbed, GoesOn, HasLook, Change, Written, window_of, HasWritten, FitsKey, spaced_from, window_inside, regular_writable, length-window_of, IsDeviceRefusal, HasOtherContent, IsMissCause, WroteWhole}
use Rattle.track_model.specs.declared.Look.TheVariants as look
use Rattle.track_model.specs.Kept.{KeepsOthers}
use Rattle.track_model.proofs.Kept as cuts
use Rattle.floppy_driver.proofs.TriedWrites.{IsSameOrCut}
use Rattle.floppy_driver.proofs.Rising.{quiet_stalls, quiet_lost}

module _ (written : Written) (track : List ℕ) (c h p : ℕ) (regular : IsRegular track c h) (here : IsAddressAt track p written.key) (fits : FitsKey written) where
  field : IsFieldFor track p written.key written.content
  field = record { address = here; size = fits.size }

  kept : (words : ℕ) → words ≤ length (window_of written) → (IsTidy track p written.deleted written.content ⊎ (words ≡ length (window_of written))) → KeepsOthers track (cut_of track p words (window_of written)) p
  kept words = cuts.cut_kept track p written.key written.deleted written.content words (spaced_from track c h regular) field

  -- the track stays regular, and its address field stays
  pub cut_keeps : (now : List ℕ) → IsSameOrCut written p track now → IsRegular now c h × IsAddressAt now p written.key
  cut_keeps now (inl same) = subst (λ t. IsRegular t c h × IsAddressAt t p written.key) (sym same) (regular, here)
  cut_keeps now (inr (words, cut, safe)) =
      let keeps = kept words cut.cuttable.most safe in
      subst (λ t. IsRegular t c h × IsAddressAt t p written.key) (sym cut.is) (keeps.regular c h regular, (keeps.addresses p written.key).0 here)

  -- one more cut
  pub cut_more : (mid now : List ℕ) (words : ℕ) → IsSameOrCut written p track mid → IsCut mid now p words (window_of written) → (IsTidy track p written.deleted written.content ⊎ (words ≡ length (window_of written))) → IsSameOrCut written p track now
  cut_more mid now words (inl same) cut safe = inr (words, subst (λ t. IsCut t now p words (window_of written)) same cut, safe)
  cut_more mid now words (inr (before, first, was)) cut safe =
      let window = window_of written in
      let few = first.cuttable.most in
      let more = cut.cuttable.most in
      let inside = window_inside track c h p written.key regular here in
      let long = length-window_of written fits in
      let together = cuts.cuts_are_one track p written.key written.deleted written.content words (spaced_from track c h regular) field before few more in
      inr (
        max before words,
        record {
          cuttable = record { most = omega arith; inside = omega arith };
          is = cut.is ∙ ap (λ t. cut_of t p words window) first.is ∙ together;
        },
        elim safe [
          | inl tidy ↦ inl tidy
          | inr whole ↦ inr (omega arith)
        ],
      )

-- ---- no refusal

by_device : (code : Code) → IsDeviceRefusal code → (code ≡ NoMark → ⊥) → (code ≡ NotFound → ⊥) → (code ≡ Overrun → ⊥) → (code ≡ BadCrc → ⊥) → (code ≡ Seek → ⊥) → ⊥
by_device NoMark device a b c d e = a refl
by_device NotFound device a b c d e = b refl
by_device Overrun device a b c d e = c refl
by_device BadCrc device a b c d e = d refl
by_device Seek device a b c d e = e refl
by_device _ device a b c d e = device

module _ (written : Written) (q : ℕ) (track : List ℕ) (has : HasWritten written q track) where
  -- no other look is possible
  no_other_look : (other : Look) → HasLook track written.key other → (other ≡ look.Found written.deleted (window_place q + 256) → ⊥) → ⊥
  no_other_look other seen differs = differs (has.one_look other seen)

  no_other_content : HasOtherContent track written → ⊥
  no_other_content (p, deleted, place, address, seen, differs) =
      let same : look.Found deleted place ≡ look.Found written.deleted (window_place q + 256) = has.one_look (look.Found deleted place) (p, address, seen) in
      let mark : deleted ≡ written.deleted = cc same in
      let at : place ≡ window_place q + 256 = cc same in
      differs (mark, ap (λ r. content_at track r written.key.n) at ∙ sym has.content)

-- an undisturbed write of a regular track isn't refused
pub never_refused : (written : Written) (track : List ℕ) (c h p : ℕ) (change : Option Change) (bay : ℕ) (code : Code) (a b : Counters) → IsRegular track c h → IsAddressAt track p written.key → GoesOn a b → IsUndisturbed bay a b → (WroteWhole written change → (q : ℕ) × HasWritten written q track) → IsMissCause written track change bay a code b → ⊥
never_refused written track c h p change bay code a b regular here goes quiet wrote cause =
    let writable = regular_writable track c h p written.key regular here in
    by_device code cause.device
    (λ e. elim (cause.no_mark e quiet) [
      | inl none ↦ writable.marked none
      | inr (inl out) ↦ out.2 (writable.inside out.0 out.1)
      | inr (inr seen) ↦ let has = wrote seen.0 in no_other_look written has.0 track has.1 look.NoData seen.1 (λ e. cc e)
    ])
    (λ e. (cause.not_found e quiet).1 writable.clear)
    (λ e. quiet_stalls bay a b goes quiet (cause.overrun e))
    (λ e.
    let why = cause.bad_data e quiet in
    let has = wrote why.0 in
    elim why.1 [
      | inl seen ↦ no_other_look written has.0 track has.1 look.BadCrc seen (λ e. cc e)
      | inr other ↦ no_other_content written has.0 track has.1 other
    ])
    (λ e. quiet_lost bay a b goes quiet (cause.lost e))
