-- A formatted track, while its sectors are written one after the other.
use Rattle.std.proofs.Common.{◌≡◌, ◌≢◌, ℕ, zero, suc, ◌+◌, ◌<◌, List, [], ◌∷◌, length, map, drop, get_or, All, sym, ap, subst, ◌∙◌, arith, refl, inl, inr}
use Rattle.remaster.proofs.Common.{flat_map, AllPairs, cases_lt, length-map, get_or-map, get_or_default, drop_more, drop_all, All-map, words_at, standard_fill, Chrn, Rate, Field, Found, IsAddressAt, AreAddresses, content_size, content_at, window_place, lay, sector_place, HasLaidFields, HasEndRoom, with_window, IsSpaced, IsRegular, KeepsOthers, one_key, LookedField, Sector, field_of, HasLook, sector_of, found_at, AreSectors, IsOwnKey, IsPlanned, key_of, with_sectors, laid_with, HoldsSector}
use Rattle.std.proofs.lemmas.Nat.{mul-add-lt}
use Rattle.track_format.proofs.Read.{length-lay}
use Rattle.remaster.proofs.Fits.{blank_sector}
use Rattle.remaster.proofs.Placed.{holds_still}

-- the places of the layout rise with the number of the sector
pub places_rise : (n gap3 i j : ℕ) → i < j → sector_place n gap3 i < sector_place n gap3 j
places_rise n gap3 i j lower =
    let width = 62 + content_size n + gap3 in
    let some : 0 < width = omega arith in
    omega (arith, mul-add-lt i width 0 j lower some)

places_differ : (n gap3 i j : ℕ) → i < j → sector_place n gap3 i ≢ sector_place n gap3 j
places_differ n gap3 i j lower = λ same. omega (arith, places_rise n gap3 i j lower, same)

-- the first i sectors are written, and the others are still to come
pub record AreWritten (rate : Rate) (c h n gap3 : ℕ) (sectors : List Sector) (i : ℕ) (track : List ℕ) : Type 0 where
  pub long : length track ≡ words_at rate
  pub regular : IsRegular track c h
  pub each : (k : ℕ) (d : Sector) → k < length sectors → IsAddressAt track (sector_place n gap3 k) (get_or sectors k d).key
  pub only : (p : ℕ) (key : Chrn) → IsAddressAt track p key → (k : ℕ) × (k < length sectors) × (p ≡ sector_place n gap3 k)
  pub holds : (k : ℕ) (d : Sector) → k < i → k < length sectors → HoldsSector track (sector_place n gap3 k) (get_or sectors k d)
  pub left : with_sectors n gap3 i (drop i sectors) track ≡ laid_with rate n gap3 sectors

pub spaced_from : (track : List ℕ) (c h : ℕ) → IsRegular track c h → IsSpaced track
spaced_from track c h regular = record {
  plain = regular.plain;
  coded = regular.keys.coded;
  spans = regular.spans;
  gaps = regular.gaps;
  ends = regular.ends;
}

module _ (rate : Rate) (c h n gap3 : ℕ) (sectors : List Sector) where
  -- ---- the formatted track

  module _ (planned : IsPlanned rate c h sectors n gap3) (keys : List Chrn) (keys_are : keys ≡ map key_of sectors) where
    keys_long : length keys ≡ length sectors
    keys_long = ap length keys_are ∙ length-map sectors key_of

    key_at : (k : ℕ) (d : Chrn) (e : Sector) → k < length sectors → get_or keys k d ≡ (get_or sectors k e).key
    key_at k d e within = ap (λ ks. get_or ks k d) keys_are ∙ get_or-map key_of sectors k e d within

    pub distinct_keys : AllPairs (λ (a b : Chrn). a ≢ b) keys
    distinct_keys = λ i j d lower within.
        let last : j < length sectors = omega (arith, keys_long) in
        let first : i < length sectors = omega arith in
        λ same. planned.fit.distinct i j blank_sector lower last (sym (key_at i d blank_sector first) ∙ same ∙ key_at j d blank_sector last)

    pub own_keys : All (λ (key : Chrn). IsOwnKey c h key) keys
    own_keys = subst (All (λ (key : Chrn). IsOwnKey c h key)) (sym keys_are) (All-map (λ (key : Chrn). IsOwnKey c h key) key_of sectors planned.fit.own)

    pub none_written : (words : ℕ) (track : List ℕ) → words ≡ words_at rate → track ≡ lay keys n gap3 standard_fill words → HasLaidFields (lay keys n gap3 standard_fill words) keys n gap3 standard_fill → ((b g : ℕ) → HasEndRoom (length keys) n gap3 words → AllPairs (λ (a b : Chrn). a ≢ b) keys → All (λ (key : Chrn). IsOwnKey b g key) keys → IsRegular (lay keys n gap3 standard_fill words) b g) → AreWritten rate c h n gap3 sectors 0 track
    none_written words track words_are is fields regular =
        let room : HasEndRoom (length keys) n gap3 words = subst (λ (w : ℕ). HasEndRoom (length keys) n gap3 w) (sym words_are) (subst (λ (count : ℕ). HasEndRoom count n gap3 (words_at rate)) (sym keys_long) planned.gap.suits.room) in
        record {
          long = ap length is ∙ length-lay keys n gap3 standard_fill words ∙ words_are;
          regular = subst (λ t. IsRegular t c h) (sym is) (regular c h room distinct_keys own_keys);
          each = λ k d within.
              let here = fields.each k d.key (omega (arith, keys_long)) in
              subst (λ t. IsAddressAt t (sector_place n gap3 k) (get_or sectors k d).key) (sym is) (subst (λ (key : Chrn). IsAddressAt (lay keys n gap3 standard_fill words) (sector_place n gap3 k) key) (key_at k d.key d within) here);
          only = λ p key address.
              let found = fields.only p key (subst (λ t. IsAddressAt t p key) is address) in
              (found.0, omega (arith, keys_long, found.1), found.2);
          holds = λ k d lower within. absurd (omega arith);
          left = ap (with_sectors n gap3 0 sectors) (is ∙ ap (λ ks. lay ks n gap3 standard_fill words) keys_are ∙ ap (lay (map key_of sectors) n gap3 standard_fill) words_are);
        }

  -- ---- one more sector

  module _ (i : ℕ) (track : List ℕ) (so_far : AreWritten rate c h n gap3 sectors i track) where
    pub spaced_still : IsSpaced track
    spaced_still = spaced_from track c h so_far.regular

    pub one_written : (d : Sector) (after : List ℕ) → i < length sectors → length after ≡ length track → after ≡ with_window track (sector_place n gap3 i) (get_or sectors i d).deleted (get_or sectors i d).content → KeepsOthers track after (sector_place n gap3 i) → HoldsSector after (sector_place n gap3 i) (get_or sectors i d) → AreWritten rate c h n gap3 sectors (i + 1) after
    one_written d after within same_length is keeps holds = record {
      long = same_length ∙ so_far.long;
      regular = keeps.regular c h so_far.regular;
      each = λ k e there. (keeps.addresses (sector_place n gap3 k) (get_or sectors k e).key).0 (so_far.each k e there);
      only = λ p key address. so_far.only p key ((keeps.addresses p key).1 address);
      holds = λ k e lower there.
          elim (cases_lt k i) [
            | inl before ↦ holds_still track after (sector_place n gap3 k) (sector_place n gap3 i) (get_or sectors k e) keeps (places_differ n gap3 k i before) (so_far.holds k e before there)
            | inr behind ↦
                let here : i ≡ k = omega arith in
                subst (λ (j : ℕ). HoldsSector after (sector_place n gap3 j) (get_or sectors j e)) here
                (subst (HoldsSector after (sector_place n gap3 i)) (get_or_default sectors i d e within) holds)
          ];
      left = ap (with_sectors n gap3 (i + 1) (drop (i + 1) sectors)) is ∙ sym (ap (λ rest. with_sectors n gap3 i rest track) (drop_more sectors i d within)) ∙ so_far.left;
    }

    -- the same fact in the form in which the code has it
    pub one_more : (sector : Sector) (place : ℕ) (old new after : List ℕ) → i < length sectors → old ≡ track → place ≡ sector_place n gap3 i → sector ≡ get_or sectors i sector → after ≡ new → length new ≡ length old → new ≡ with_window old place sector.deleted sector.content → KeepsOthers old new place → HoldsSector new place sector → AreWritten rate c h n gap3 sectors (i + 1) after
    one_more sector place old new after within old_is place_is sector_is after_is same_length written keeps holds =
        let kept : KeepsOthers track new (sector_place n gap3 i) = subst (KeepsOthers track new) place_is (subst (λ t. KeepsOthers t new place) old_is keeps) in
        let held : HoldsSector new (sector_place n gap3 i) (get_or sectors i sector) = subst (HoldsSector new (sector_place n gap3 i)) sector_is (subst (λ (p : ℕ). HoldsSector new p sector) place_is holds) in
        let is : new ≡ with_window track (sector_place n gap3 i) (get_or sectors i sector).deleted (get_or sectors i sector).content = written
        ∙ ap (λ t. with_window t place sector.deleted sector.content) old_is
        ∙ ap (λ (p : ℕ). with_window track p sector.deleted sector.content) place_is
        ∙ ap (λ (s : Sector). with_window track (sector_place n gap3 i) s.deleted s.content) sector_is in
        subst (AreWritten rate c h n gap3 sectors (i + 1)) (sym after_is) (one_written sector new within (same_length ∙ ap length old_is) is kept held)

  -- ---- all

  -- the k-th address field with the look at it
  abbrev look_at_place : ℕ → Sector → LookedField
  look_at_place k sector = record {
    field = record { place = sector_place n gap3 k; key = sector.key };
    look = Found sector.deleted (window_place (sector_place n gap3 k) + 256);
  }

  abbrev laid_looked : ℕ → List Sector → List LookedField
  laid_looked k [] = []
  laid_looked k (sector ∷ rest) = look_at_place k sector ∷ laid_looked (k + 1) rest

  length-laid : (k : ℕ) (some : List Sector) → length (laid_looked k some) ≡ length some
  length-laid k [] = refl
  length-laid k (sector ∷ rest) = ap suc (length-laid (k + 1) rest)

  get_or-laid : (k : ℕ) (some : List Sector) (j : ℕ) (d : LookedField) (e : Sector) → j < length some → get_or (laid_looked k some) j d ≡ look_at_place (k + j) (get_or some j e)
  get_or-laid k [] j d e within = absurd (omega arith)
  get_or-laid k (sector ∷ rest) zero d e within = let here : k ≡ k + 0 = omega arith in ap (λ (m : ℕ). look_at_place m sector) here
  get_or-laid k (sector ∷ rest) (suc j) d e within =
      let there : k + 1 + j ≡ k + suc j = omega arith in
      get_or-laid (k + 1) rest j d e (omega arith) ∙ ap (λ (m : ℕ). look_at_place m (get_or rest j e)) there

  zero_more : (k : ℕ) → 0 + k ≡ k
  zero_more k = omega arith

  laid_at : (k : ℕ) (d : LookedField) (e : Sector) → k < length sectors → get_or (laid_looked 0 sectors) k d ≡ look_at_place k (get_or sectors k e)
  laid_at k d e within = get_or-laid 0 sectors k d e within ∙ ap (λ (m : ℕ). look_at_place m (get_or sectors k e)) (zero_more k)

  abbrev look_of_none : LookedField
  look_of_none = look_at_place 0 blank_sector

  module _ (track : List ℕ) (written : AreWritten rate c h n gap3 sectors (length sectors) track) where
    field_at : (k : ℕ) (d : Field) → k < length sectors → get_or (map field_of (laid_looked 0 sectors)) k d ≡ (look_at_place k (get_or sectors k blank_sector)).field
    field_at k d within =
        get_or-map field_of (laid_looked 0 sectors) k look_of_none d (omega (arith, length-laid 0 sectors))
        ∙ ap field_of (laid_at k look_of_none blank_sector within)

    long_fields : length (map field_of (laid_looked 0 sectors)) ≡ length sectors
    long_fields = length-map (laid_looked 0 sectors) field_of ∙ length-laid 0 sectors

    exact_fields : AreAddresses track (map field_of (laid_looked 0 sectors))
    exact_fields = record {
      each = λ k d within.
          let there : k < length sectors = omega (arith, long_fields) in
          subst (λ (field : Field). IsAddressAt track field.place field.key) (sym (field_at k d there)) (written.each k blank_sector there);
      ordered = λ i j d lower within.
          let last : j < length sectors = omega (arith, long_fields) in
          let first : i < length sectors = omega arith in
          omega (arith, places_rise n gap3 i j lower, ap (λ (field : Field). field.place) (field_at i d first), ap (λ (field : Field). field.place) (field_at j d last));
      all = λ field address.
          let found = written.only field.place field.key address in
          let k = found.0 in
          let same_key : (get_or sectors k blank_sector).key ≡ field.key = one_key track field.place (get_or sectors k blank_sector).key field.key (subst (λ (p : ℕ). IsAddressAt track p (get_or sectors k blank_sector).key) (sym found.2) (written.each k blank_sector found.1)) address in
          let At : ℕ → Chrn → Field = λ p key. record { place = p; key = key } in
          (k, omega (arith, long_fields, found.1), field_at k field found.1 ∙ ap (λ (p : ℕ). At p (get_or sectors k blank_sector).key) (sym found.2) ∙ ap (At field.place) same_key);
    }

    exact_looks : All (HasLook track) (laid_looked 0 sectors)
    exact_looks = λ k d within.
        let there : k < length sectors = omega (arith, length-laid 0 sectors) in
        subst (HasLook track) (sym (laid_at k d blank_sector there)) (written.holds k blank_sector there there).look

    one_found : (p : ℕ) (sector : Sector) → HoldsSector track p sector → sector ≡ sector_of sector.key sector.deleted (content_at track (window_place p + 256) sector.key.n)
    one_found p sector holds = ap (sector_of sector.key sector.deleted) holds.content

    all_found : (k : ℕ) (some : List Sector) → ((j : ℕ) (d : Sector) → j < length some → HoldsSector track (sector_place n gap3 (k + j)) (get_or some j d)) → some ≡ flat_map (found_at track) (laid_looked k some)
    all_found k [] holds = refl
    all_found k (sector ∷ rest) holds =
        let here : k + 0 ≡ k = omega arith in
        let first = subst (λ (m : ℕ). HoldsSector track (sector_place n gap3 m) sector) here (holds 0 sector (omega arith)) in
        ap (λ (s : Sector). s ∷ rest) (one_found (sector_place n gap3 k) sector first)
        ∙ ap (λ later. sector_of sector.key sector.deleted (content_at track (window_place (sector_place n gap3 k) + 256) sector.key.n) ∷ later)
        (all_found (k + 1) rest (λ j d within.
        let there : k + suc j ≡ k + 1 + j = omega arith in
        subst (λ (m : ℕ). HoldsSector track (sector_place n gap3 m) (get_or rest j d)) there (holds (suc j) d (omega arith))))

    pub all_written : AreSectors track sectors
    all_written = record {
      looked = laid_looked 0 sectors;
      exact = record { fields = exact_fields; looks = exact_looks };
      found = all_found 0 sectors (λ j d within. subst (λ (m : ℕ). HoldsSector track (sector_place n gap3 m) (get_or sectors j d)) (sym (zero_more j)) (written.holds j d within within));
    }

    pub whole_written : track ≡ laid_with rate n gap3 sectors
    whole_written = ap (λ rest. with_sectors n gap3 (length sectors) rest track) (sym (drop_all (length sectors) sectors (omega arith))) ∙ written.left
