-- The sectors of an image are found on the track that the image makes.
use Rattle.std.proofs.Common.{◌≡◌, ◌≢◌, ◌↔◌, ℕ, zero, suc, ◌+◌, ◌-◌, ◌/◌, ◌^◌, ◌≤◌, ◌<◌, Bool, true, false, List, [], ◌∷◌, length, get_or, replicate, refl, sym, ap, subst, ◌∙◌, arith, All, inl, inr}
use Rattle.imagedisk.proofs.Common.{cases_lt, get_or-map, get_or-replicate, get_or_past, length-replicate, Rate, Chrn, standard_fill, words_at, Found, NoData, BadCrc, IsAddressAt, content_at, content_size, LookAt, window_place, window_words, damaged_window, empty_window, cut_of, IsFieldFor, lay, laid_words, Fits, sector_place, IsKey, length-window, empty_overlay, length-empty_window, own_none, KeepsFields, whole_fields, window_overlay, damaged_overlay, whole_found, whole_content, whole_bad, damaged_all, read_fields, read_parted, ImdKind, Absent, Good, Deleted, Bad, BadDeleted, ImdSector, ImdTrack, kept_size, IsImdSector, IsImdTrack, keys_of, window_of, laid_track, empty_words, IsMadeTrack, IsFoundAs, HasSectors}
use Rattle.track_model.specs.Writing.{window}
use Rattle.track_model.proofs.Parted.{IsParted}
use Rattle.track_format.specs.Gaps.{Suits}
use Rattle.imagedisk.specs.Made.{with_sectors}
use Rattle.imagedisk.proofs.Windowed.{laid_before}

-- ---- one window

abbrev put_at : List ℕ → ℕ → ℕ → ImdKind → List ℕ → List ℕ
put_at track p n kind content = cut_of track p (window_words n) (window_of n kind content)

abbrev IsPutWell : List ℕ → ℕ → ℕ → ImdKind → List ℕ → Type 0
IsPutWell track p n kind content = KeepsFields track (put_at track p n kind content) p × IsFoundAs (put_at track p n kind content) p n kind content

intact_put : (track : List ℕ) (p : ℕ) (key : Chrn) (deleted : Bool) (content : List ℕ) → IsParted track → IsAddressAt track p key → length content ≡ content_size key.n → ((j : ℕ) → get_or content j 0 < 2 ^ 8)
    → KeepsFields track (cut_of track p (window_words key.n) (window deleted content)) p
    × LookAt (cut_of track p (window_words key.n) (window deleted content)) p key.n (Found deleted (window_place p + 256))
    × (content ≡ content_at (cut_of track p (window_words key.n) (window deleted content)) (window_place p + 256) key.n)
intact_put track p key deleted content parted here size bytes =
    let field : IsFieldFor track p key content = record { address = here; size = size } in
    let k = window_words key.n in
    let long = length-window deleted content in
    let all : k ≡ length (window deleted content) = omega (arith, long, size) in (
      whole_fields track p key (window deleted content) k here (window_overlay track p key deleted content k field) all parted,
      whole_found track p key deleted content k field parted bytes all,
      whole_content track p key deleted content k field parted bytes all,
    )

damaged_put : (track : List ℕ) (p : ℕ) (key : Chrn) (deleted : Bool) (content : List ℕ) → IsParted track → IsAddressAt track p key → length content ≡ content_size key.n → ((j : ℕ) → get_or content j 0 < 2 ^ 8)
    → KeepsFields track (cut_of track p (window_words key.n) (damaged_window deleted content)) p
    × LookAt (cut_of track p (window_words key.n) (damaged_window deleted content)) p key.n BadCrc
damaged_put track p key deleted content parted here size bytes =
    let field : IsFieldFor track p key content = record { address = here; size = size } in
    let k = window_words key.n in
    let long = damaged_all deleted content in
    let all : k ≡ length (damaged_window deleted content) = omega (arith, long, size) in (
      whole_fields track p key (damaged_window deleted content) k here (damaged_overlay track p key deleted content k field) all parted,
      whole_bad track p key deleted content k field parted bytes all,
    )

put_well : (track : List ℕ) (p : ℕ) (key : Chrn) (kind : ImdKind) (content : List ℕ) → IsParted track → IsAddressAt track p key → length content ≡ kept_size kind key.n → ((j : ℕ) → get_or content j 0 < 2 ^ 8)
    → IsPutWell track p key.n kind content
put_well track p key Absent content parted here size bytes = (
  whole_fields track p key (empty_window key.n) (window_words key.n) here (empty_overlay key.n) (sym (length-empty_window key.n)) parted,
  own_none track p key (window_words key.n) parted here refl,
)
put_well track p key Good content parted here size bytes = let put = intact_put track p key false content parted here size bytes in (put.0, (window_place p + 256, put.1, put.2))
put_well track p key Deleted content parted here size bytes = let put = intact_put track p key true content parted here size bytes in (put.0, (window_place p + 256, put.1, put.2))
put_well track p key Bad content parted here size bytes = damaged_put track p key false content parted here size bytes
put_well track p key BadDeleted content parted here size bytes = damaged_put track p key true content parted here size bytes

-- what is found of another sector stays
kept_found : (track after : List ℕ) (p q : ℕ) (key : Chrn) (kind : ImdKind) (content : List ℕ) → KeepsFields track after p → q ≢ p → IsAddressAt track q key
    → IsFoundAs track q key.n kind content → IsFoundAs after q key.n kind content
kept_found track after p q key Absent content kept other here found = (kept.looks q key NoData other here).0 found
kept_found track after p q key Good content kept other here found =
    (found.0, (kept.looks q key (Found false found.0) other here).0 found.1, found.2 ∙ kept.contents q key false found.0 other here found.1)
kept_found track after p q key Deleted content kept other here found =
    (found.0, (kept.looks q key (Found true found.0) other here).0 found.1, found.2 ∙ kept.contents q key true found.0 other here found.1)
kept_found track after p q key _ content kept other here found = (kept.looks q key BadCrc other here).0 found

-- ---- windows one after the other

place_before : (n gap3 i j : ℕ) → i < j → sector_place n gap3 i < sector_place n gap3 j
place_before n gap3 i j lt = let before = laid_before j i n gap3 lt in omega (arith, before)

-- `after` is the track with the windows of these sectors put over it; the first sector has number `first`
record IsPutOver (before after : List ℕ) (n gap3 first : ℕ) (sectors : List ImdSector) : Type 0 where
  addresses : (q : ℕ) (key : Chrn) → IsAddressAt before q key ↔ IsAddressAt after q key
  found : (i : ℕ) (d : ImdSector) → i < length sectors
      → IsFoundAs after (sector_place n gap3 (first + i)) (get_or sectors i d).key.n (get_or sectors i d).kind (get_or sectors i d).content
  others : (q : ℕ) (key : Chrn) (kind : ImdKind) (content : List ℕ) → ((i : ℕ) → i < length sectors → q ≢ sector_place n gap3 (first + i))
      → IsAddressAt before q key → IsFoundAs before q key.n kind content → IsFoundAs after q key.n kind content

put_over : (n gap3 first : ℕ) (sectors : List ImdSector) (track : List ℕ) → IsParted track → All (IsImdSector n) sectors
    → ((i : ℕ) (d : ImdSector) → i < length sectors → IsAddressAt track (sector_place n gap3 (first + i)) (get_or sectors i d).key)
    → IsPutOver track (with_sectors n gap3 first sectors track) n gap3 first sectors
unfolding with_sectors
put_over n gap3 first [] track parted valid here = record {
  addresses = λ q key. (λ x. x, λ x. x);
  found = λ i d lt. absurd (omega arith);
  others = λ q key kind content apart address found. found;
}
put_over n gap3 first (sector ∷ sectors) track parted valid here =
    let p = sector_place n gap3 first in
    let put = put_at track p n sector.kind sector.content in
    let coded = (valid 0 sector (omega arith)).coded in
    let at : IsAddressAt track p sector.key = subst (λ (k : ℕ). IsAddressAt track (sector_place n gap3 k) sector.key) (omega arith) (here 0 sector (omega arith)) in
    let well : IsPutWell track p n sector.kind sector.content =
    subst (λ (m : ℕ). IsPutWell track p m sector.kind sector.content) coded
    (put_well track p sector.key sector.kind sector.content parted at (subst (λ (m : ℕ). length sector.content ≡ kept_size sector.kind m) (sym coded) (valid 0 sector (omega arith)).size) (valid 0 sector (omega arith)).bytes) in
    let next : (i : ℕ) → first + suc i ≡ suc first + i = λ i. omega arith in
    let ih = put_over n gap3 (suc first) sectors put well.0.parted (λ i d lt. valid (suc i) d (omega arith))
    (λ i d lt. (well.0.addresses (sector_place n gap3 (suc first + i)) (get_or sectors i d).key).0
    (subst (λ (k : ℕ). IsAddressAt track (sector_place n gap3 k) (get_or sectors i d).key) (next i) (here (suc i) d (omega arith)))) in
    let own : IsFoundAs put p sector.key.n sector.kind sector.content = subst (λ (m : ℕ). IsFoundAs put p m sector.kind sector.content) (sym coded) well.1 in
    let after = with_sectors n gap3 (suc first) sectors put in
    let last : IsFoundAs after p sector.key.n sector.kind sector.content =
    ih.others p sector.key sector.kind sector.content (λ i lt e. let before = place_before n gap3 first (suc first + i) (omega arith) in omega (arith, before, e)) ((well.0.addresses p sector.key).0 at) own in
    record {
      addresses = λ q key. (λ x. (ih.addresses q key).0 ((well.0.addresses q key).0 x), λ x. (well.0.addresses q key).1 ((ih.addresses q key).1 x));
      found = λ i d. elim i as (λ i. i < suc (length sectors) → IsFoundAs after (sector_place n gap3 (first + i)) (get_or (sector ∷ sectors) i d).key.n (get_or (sector ∷ sectors) i d).kind (get_or (sector ∷ sectors) i d).content) [
        | zero ↦ (λ lt. subst (λ (k : ℕ). IsFoundAs after (sector_place n gap3 k) sector.key.n sector.kind sector.content) (omega arith) last)
        | suc i ↦ (λ lt. subst (λ (k : ℕ). IsFoundAs after (sector_place n gap3 k) (get_or sectors i d).key.n (get_or sectors i d).kind (get_or sectors i d).content) (sym (next i)) (ih.found i d (omega arith)))
      ];
      others = λ q key kind content apart address found.
          let differs : q ≢ p = λ e. apart 0 (omega arith) (e ∙ ap (sector_place n gap3) (omega arith)) in
          ih.others q key kind content (λ i lt e. apart (suc i) (omega arith) (e ∙ ap (sector_place n gap3) (sym (next i)))) ((well.0.addresses q key).0 address)
          (kept_found track put p q key kind content well.0 differs address found);
    }

-- ---- the track of an image

no_sector : ImdSector
no_sector = record { key = record { c = 0; h = 0; r = 0; n = 0 }; kind = Absent; content = [] }

key_of : (sectors : List ImdSector) (i : ℕ) (d : ImdSector) (e : Chrn) → i < length sectors → get_or (keys_of sectors) i e ≡ (get_or sectors i d).key
key_of sectors i d e lt = get_or-map (λ (sector : ImdSector). sector.key) sectors i d e lt

key_count : (sectors : List ImdSector) → length (keys_of sectors) ≡ length sectors
key_count [] = refl
key_count (sector ∷ sectors) = ap suc (key_count sectors)

laid_has : (rate : Rate) (track : ImdTrack) (gap3 : ℕ) → IsImdTrack track → Suits track.n (length track.sectors) (words_at rate) gap3 → HasSectors (laid_track rate track gap3) track.sectors
laid_has rate track gap3 valid suits =
    let sectors = track.sectors in
    let keys = keys_of sectors in
    let n = track.n in
    let words = words_at rate in
    let count = key_count sectors in
    let fits : Fits keys n gap3 words = subst (λ (k : ℕ). laid_words k n gap3 ≤ words) (sym count) suits.fits in
    let are_keys : All IsKey keys = λ i e lt. subst IsKey (sym (key_of sectors i no_sector e (omega (arith, count)))) (valid.sectors i no_sector (omega (arith, count))).key in
    let asked : All (λ key. key.n ≡ n) keys = λ i e lt. subst (λ (key : Chrn). key.n ≡ n) (sym (key_of sectors i no_sector e (omega (arith, count)))) (valid.sectors i no_sector (omega (arith, count))).coded in
    let small : standard_fill < 256 = omega arith in
    let fields = read_fields keys n gap3 standard_fill words fits valid.coded small are_keys in
    let parted = read_parted keys n gap3 standard_fill words fits valid.coded are_keys asked
    (subst (λ (k : ℕ). 27 ≤ gap3 + (words - laid_words k n gap3)) (sym count) suits.room) in
    let laid = lay keys n gap3 standard_fill words in
    let over = put_over n gap3 0 sectors laid parted valid.sectors
    (λ i d lt. subst (λ (k : ℕ). IsAddressAt laid (sector_place n gap3 k) (get_or sectors i d).key) (omega arith)
    (subst (λ (key : Chrn). IsAddressAt laid (sector_place n gap3 i) key) (key_of sectors i d d.key lt) (fields.each i d.key (omega (arith, count))))) in
    record {
      place = sector_place n gap3;
      ordered = λ i j lt within. place_before n gap3 i j lt;
      address = λ i d lt. (over.addresses (sector_place n gap3 i) (get_or sectors i d).key).0
          (subst (λ (key : Chrn). IsAddressAt laid (sector_place n gap3 i) key) (key_of sectors i d d.key lt) (fields.each i d.key (omega (arith, count))));
      data_are = λ i d lt. subst (λ (k : ℕ). IsFoundAs (laid_track rate track gap3) (sector_place n gap3 k) (get_or sectors i d).key.n (get_or sectors i d).kind (get_or sectors i d).content) (omega arith) (over.found i d lt);
      only = λ p key at. let one = fields.only p key ((over.addresses p key).1 at) in (one.0, (let within = one.1 in omega (arith, within, count)), one.2);
    }

abbrev silence : ℕ → List ℕ
silence count = replicate count 0

zero_word : (count i : ℕ) → get_or (silence count) i 0 ≡ 0
zero_word count i =
    elim (cases_lt i count) [
      | inl lt ↦ get_or-replicate {A = ℕ} count i 0 0 lt
      | inr le ↦ get_or_past (silence count) i 0 (omega (arith, length-replicate {A = ℕ} count 0))
    ]

nothing_there : (count p : ℕ) (key : Chrn) → IsAddressAt (silence count) p key → ⊥
nothing_there count p key at = at.sound.no_zero p (omega arith) (omega arith) (zero_word count (p / 16))

pub empty_has : (rate : Rate) → HasSectors (empty_words rate) []
empty_has rate = record {
  place = λ i. i;
  ordered = λ i j lt within. lt;
  address = λ i d lt. absurd (omega arith);
  data_are = λ i d lt. absurd (omega arith);
  only = λ p key at. absurd (nothing_there (words_at rate) p key at);
}

pub made_has : (least : ℕ) (rate : Rate) (track : ImdTrack) (words : List ℕ) → IsImdTrack track → IsMadeTrack least rate track words → HasSectors words track.sectors
made_has least rate track words valid (inl none) = subst (λ (sectors : List ImdSector). HasSectors words sectors) (sym none.0) (subst (λ (ws : List ℕ). HasSectors ws []) (sym none.1) (empty_has rate))
made_has least rate track words valid (inr some) = subst (λ (ws : List ℕ). HasSectors ws track.sectors) (sym some.3) (laid_has rate track some.1 valid some.2.suits)
