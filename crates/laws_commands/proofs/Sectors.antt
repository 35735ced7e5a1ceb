-- The sectors of a formatted disk.
use Rattle.std.proofs.Common.{arith, ◌≡◌, ◌≢◌, ◌∙◌, ◌+◌, ◌-◌, ◌*◌, ◌<◌, ◌≤◌, ℕ, false, All, List, length, get_or, replicate, refl, sym, ap, subst, lit≤, lit<}
use Rattle.laws_commands.proofs.Common.{AllPairs, All-contains, words_at, gap_at, standard_fill, standard_code, sectors_at, Chrn, Rate, R500, R250, Disk, HasTrack, Found, IsAddressAt, IsSizeCode, content_size, content_at, LookAt, Fits, IsRegular, IsLaid, lay_laid, one_look_at, Entry, IsOnMap, IsRegularDisk, key_of, track_keys, format_at, length-track_keys, track_key_at, all_track_keys, format_fits, standard_track, IsFormattedDisk, formatted_entry, IsFormattedEntry}
use Rattle.track_model.specs.LaidFields.{HasLaidFields, IsKey, HasEndRoom, sector_place, content_place}
use Rattle.track_format.proofs.Read.{read_regular, read_fields, read_only, read_filled}
use Rattle.laws_commands.specs.Formatted.{standard_content}

pub few_sectors : (rate : Rate) → sectors_at rate ≤ 18
few_sectors R500 = lit≤ tt
few_sectors R250 = lit≤ tt

module _ (rate : Rate) (c h : ℕ) where
  abbrev keys : List Chrn
  keys = track_keys (sectors_at rate) c h

  fits : Fits keys standard_code (gap_at rate) (words_at rate)
  fits = (format_fits (format_at c h rate (gap_at rate) standard_fill) (words_at rate)).1 (go rate)
    where
      go : (r : Rate) → 146 + sectors_at r * (62 + 512 + gap_at r) ≤ words_at r
      go R500 = lit≤ tt
      go R250 = lit≤ tt

  wide : 16 ≤ gap_at rate
  wide = grind arith

  bytes : c < 256 → h < 256 → All (λ key. IsKey key) keys
  bytes small_c small_h = all_track_keys (sectors_at rate) c h IsKey
      (λ r least most. record { cylinder = small_c; head = small_h; sector = omega (arith, few_sectors rate); size = lit< tt })

  asked : All (λ key. key.n ≡ standard_code) keys
  asked = all_track_keys (sectors_at rate) c h (λ key. key.n ≡ standard_code) (λ r least most. refl)

  together : All (λ key. (key.c ≡ c) × (key.h ≡ h)) keys
  together = all_track_keys (sectors_at rate) c h (λ key. (key.c ≡ c) × (key.h ≡ h)) (λ r least most. (refl, refl))

  distinct : AllPairs (λ a b. a ≢ b) keys
  distinct i j d before below same = grind (arith, length-track_keys, track_key_at)

  room : HasEndRoom (length keys) standard_code (gap_at rate) (words_at rate)
  room = grind arith

  coded : IsSizeCode standard_code
  coded = (lit≤ tt, lit≤ tt)

  pub track_regular : c < 256 → h < 256 → IsRegular (standard_track rate c h) c h
  track_regular small_c small_h =
      read_regular keys standard_code (gap_at rate) standard_fill (words_at rate) fits coded (bytes small_c small_h) asked wide c h room distinct together

  pub track_laid : c < 256 → h < 256 → IsLaid (standard_track rate c h)
  track_laid small_c small_h = lay_laid (standard_track rate c h) keys standard_code (gap_at rate) standard_fill (words_at rate) (record {
    is = refl;
    fits = fits;
    coded = coded;
    wide = wide;
    bytes = bytes small_c small_h;
    asked = asked;
    distinct = distinct;
    together = (c, h, together);
    room = room;
  })

  track_fields : c < 256 → h < 256 → HasLaidFields (standard_track rate c h) keys standard_code (gap_at rate) standard_fill
  track_fields small_c small_h = read_fields keys standard_code (gap_at rate) standard_fill (words_at rate) fits coded (lit< tt) (bytes small_c small_h)

-- a key of a standard track
record IsTrackKey (rate : Rate) (c h : ℕ) (key : Chrn) : Type 0 where
  pub cylinder : key.c ≡ c
  pub head : key.h ≡ h
  pub sector : (1 ≤ key.r) × (key.r ≤ sectors_at rate)
  pub size : key.n ≡ standard_code

are_track_keys : (rate : Rate) (c h : ℕ) → All (IsTrackKey rate c h) (keys rate c h)
are_track_keys rate c h = all_track_keys (sectors_at rate) c h (IsTrackKey rate c h)
    (λ r least most. record { cylinder = refl; head = refl; sector = (least, most); size = refl })

-- the track has an address field of the key at this place, with this content
pub record HasContent (track : List ℕ) (place : ℕ) (key : Chrn) (content : List ℕ) : Type 0 where
  pub address : IsAddressAt track place key
  pub found : (data_place : ℕ) × LookAt track place key.n (Found false data_place) × (content ≡ content_at track data_place key.n)

pub track_sector : (rate : Rate) (c h r : ℕ) → c < 256 → h < 256 → 1 ≤ r → r ≤ sectors_at rate
    → (place : ℕ) × HasContent (standard_track rate c h) place (key_of c h r) standard_content
unfolding standard_content
track_sector rate c h r small_c small_h least most =
    let fields = track_fields rate c h small_c small_h in
    let long = length-track_keys (sectors_at rate) c h in
    let place = sector_place standard_code (gap_at rate) (r - 1) in
    let within : r - 1 < length (keys rate c h) = omega arith in
    let record_is : 1 + (r - 1) ≡ r = omega arith in
    let key_is : get_or (keys rate c h) (r - 1) (key_of c h r) ≡ key_of c h r = track_key_at (sectors_at rate) c h (r - 1) (key_of c h r) (omega arith) ∙ ap (key_of c h) record_is in (
      place,
      record {
        address = subst (IsAddressAt (standard_track rate c h) place) key_is (fields.each (r - 1) (key_of c h r) within);
        found = (content_place standard_code (gap_at rate) (r - 1), fields.found (r - 1) within, sym (fields.filled (r - 1) within));
      },
    )

module _ (rate : Rate) (count : ℕ) (disk : Disk) (is : IsFormattedDisk rate count disk) where
  small_cylinder : (c h : ℕ) → HasTrack disk c h → c < 256
  small_cylinder c h has = omega (arith, has.0, is.valid.cylinders.1)

  small_head : (c h : ℕ) → HasTrack disk c h → h < 256
  small_head c h has = omega (arith, has.1, is.valid.heads.1)

  pub formatted_regular : IsRegularDisk disk
  formatted_regular c h has = subst (λ track. IsRegular track c h) (sym (is.tracks c h has)) (track_regular rate c h (small_cylinder c h has) (small_head c h has))

  pub formatted_sector : (c h r : ℕ) → HasTrack disk c h → 1 ≤ r → r ≤ sectors_at disk.rate → (place : ℕ) × IsOnMap disk (formatted_entry c h r place)
  formatted_sector c h r has least most =
      let few = subst (λ s. r ≤ sectors_at s) is.rate most in
      let there = track_sector rate c h r (small_cylinder c h has) (small_head c h has) least few in
      let on = subst (λ track. HasContent track there.0 (key_of c h r) standard_content) (sym (is.tracks c h has)) there.1 in
      (there.0, record { track = has; address = on.address; content = on.found })

  pub formatted_only : (entry : Entry) → IsOnMap disk entry → IsFormattedEntry disk entry
  unfolding standard_content
  formatted_only entry on =
      let c = entry.cylinder in
      let h = entry.head in
      let track = standard_track rate c h in
      let same = is.tracks c h on.track in
      let small_c = small_cylinder c h on.track in
      let small_h = small_head c h on.track in
      let address = subst (λ t. IsAddressAt t entry.place entry.key) same on.address in
      let content = subst (λ t. (place : ℕ) × LookAt t entry.place entry.key.n (Found entry.deleted place) × (entry.content ≡ content_at t place entry.key.n)) same on.content in
      let among = read_only (keys rate c h) standard_code (gap_at rate) standard_fill (words_at rate) (fits rate c h) (coded rate c h) (lit< tt) (bytes rate c h small_c small_h) entry.place entry.key address in
      let key = All-contains (IsTrackKey rate c h) (keys rate c h) entry.key (are_track_keys rate c h) among in
      let filled = read_filled (keys rate c h) standard_code (gap_at rate) standard_fill (words_at rate) (fits rate c h) (coded rate c h) (lit< tt) (bytes rate c h small_c small_h) entry.key key.size entry.place address in
      let looks = one_look_at track entry.place entry.key.n (Found entry.deleted content.0) (Found false filled.0) content.1 filled.1 in
      let marked : entry.deleted ≡ false = cc looks in
      let place : content.0 ≡ filled.0 = cc looks in
      record {
        cylinder = key.cylinder;
        head = key.head;
        sector = (key.sector.0, subst (λ s. entry.key.r ≤ sectors_at s) (sym is.rate) key.sector.1);
        size = key.size;
        marked = marked;
        filled = content.2 ∙ ap (λ p. content_at track p entry.key.n) place ∙ filled.2 ∙ ap (λ n. replicate (content_size n) standard_fill) key.size;
      }
