-- What the disk is after a change.
use Rattle.std.proofs.Common.{◌≡◌, ℕ, ◌+◌, ◌≤◌, Bool, List, length, take, sym, ap, subst, ◌∙◌, arith, inr}
use Rattle.sector_map.proofs.Common.{length-take, Chrn, Disk, HasTrack, track_of, Look, Found, IsAddressAt, content_at, LookAt, IsRegular, KeepsOthers, window_word, window_words, window_place, cut_of, IsCuttable, IsFieldFor, same_before, length-with_items, one_look_at, length-window, IsRegularDisk, IsOnMap, IsClearAddress, Change, Written, window_of, IsChange, KeepsTracks, KeepsOtherKeys, KeepsSectors, IsWholeChange, IsSafeChange, HasWritten, entry_of}
use Rattle.track_model.proofs.Frames.{same_address_at}
use Rattle.track_model.proofs.Kept as cuts
use Rattle.sector_map.proofs.Writable.{FitsKey}
use Rattle.sector_map.proofs.RegularTracks.{spaced_from, clear_address, key_cylinder}
use Rattle.sector_map.proofs.KeptTracks.{has_after, had_before, each_track, with_track_keeps}
use Rattle.sector_map.proofs.KeptKeys.{KeepsPlaces, places_kept, places_same, places_back, other_keys, looked_on, entry_on}

-- ---- one track

module _ (track : List ℕ) (p k : ℕ) (words : List ℕ) (cuttable : IsCuttable track p k words) where
  cut_fits : window_word p + length (take k words) ≤ length track
  cut_fits = let most = cuttable.most in let inside = cuttable.inside in omega (arith, length-take k words)

  pub length-cut : length (cut_of track p k words) ≡ length track
  length-cut = length-with_items track (window_word p) (take k words) cut_fits

  address_in_cut : (key : Chrn) → IsAddressAt track p key → IsAddressAt (cut_of track p k words) p key
  address_in_cut key address =
      same_address_at track (cut_of track p k words) p key (same_before track (window_word p) (take k words) cut_fits p 160 (omega arith)) address

same_found : (words : List ℕ) (n : ℕ) (a b : Bool) (p q : ℕ) (first second : List ℕ) → Found a p ≡ Found b q → first ≡ content_at words p n → second ≡ content_at words q n → (a ≡ b) × (first ≡ second)
same_found words n a b p q first second same one two =
    let deleted : a ≡ b = cc same in
    let place : p ≡ q = cc same in
    (deleted, one ∙ ap (λ r. content_at words r n) place ∙ sym two)

module _ (written : Written) (p : ℕ) (track : List ℕ) (address : IsAddressAt track p written.key) (found : LookAt track p written.key.n (Found written.deleted (window_place p + 256))) (content_is : written.content ≡ content_at track (window_place p + 256) written.key.n) (one : (q : ℕ) → IsAddressAt track q written.key → q ≡ p) (clear : IsClearAddress track written.key p) where
  look_is : (q : ℕ) (look : Look) → IsAddressAt track q written.key → LookAt track q written.key.n look → look ≡ Found written.deleted (window_place p + 256)
  look_is q look other seen =
      one_look_at track p written.key.n look (Found written.deleted (window_place p + 256))
      (subst (λ r. LookAt track r written.key.n look) (one q other) seen) found

  written_from : HasWritten written p track
  written_from = record {
    address = address;
    look = found;
    content = content_is;
    sector = (p, window_place p + 256, address, found, content_is);
    clear = (p, clear);
    all_found = λ q other. (written.deleted, window_place p + 256, subst (λ r. LookAt track r written.key.n (Found written.deleted (window_place p + 256))) (sym (one q other)) found);
    one_place = one;
    one_look = λ look (q, other, seen). look_is q look other seen;
    one_content = λ deleted content (q, place, other, seen, same).
        same_found track written.key.n deleted written.deleted place (window_place p + 256) content written.content
        (look_is q (Found deleted place) other seen) same content_is;
  }

-- a sector of a track of the disk is on the disk's map
pub entry_from : (written : Written) (p : ℕ) (disk : Disk) → HasTrack disk written.key.c written.key.h → HasWritten written p (track_of disk written.key.c written.key.h) → IsOnMap disk (entry_of written p)
entry_from written p disk has is = record {
  track = has;
  address = is.address;
  content = (window_place p + 256, is.look, is.content);
}

-- ---- the window

pub length-window_of : (written : Written) → FitsKey written → length (window_of written) ≡ window_words written.key.n
length-window_of written fits = let size = fits.size in omega (arith, length-window written.deleted written.content)

-- ---- any disk

module _ (written : Written) (disk : Disk) (change : Change) (after : Disk) (is : IsChange written disk change after) where
  abbrev track : List ℕ
  track = track_of disk change.cylinder written.key.h

  abbrev row : List ℕ
  row = cut_of track change.place change.words (window_of written)

  -- the other tracks stay, and so do the disk's shape, rate and protection
  pub change_keeps_tracks : KeepsTracks disk change.cylinder written.key.h after
  change_keeps_tracks = with_track_keeps disk after change.cylinder written.key.h row is.cut

  -- the address field stays
  pub change_keeps_address : IsAddressAt (track_of after change.cylinder written.key.h) change.place written.key
  change_keeps_address =
      subst (λ words. IsAddressAt words change.place written.key) (sym is.cut.has)
      (address_in_cut track change.place change.words (window_of written) is.cuttable written.key is.address)

  -- ---- a regular track

  module _ (c h : ℕ) (regular : IsRegular track c h) (fits : FitsKey written) where
    field_for : IsFieldFor track change.place written.key written.content
    field_for = record { address = is.address; size = fits.size }

    module _ (safe : IsSafeChange written disk change) where
      row_keeps : KeepsOthers track row change.place
      row_keeps =
          cuts.cut_kept track change.place written.key written.deleted written.content change.words (spaced_from track c h regular)
          field_for is.cuttable.most safe

      row_places : KeepsPlaces track written.key row
      row_places = places_kept track row change.place written.key is.address row_keeps

      -- the other sectors of the track stay
      pub change_keeps_keys : KeepsOtherKeys track written.key (track_of after change.cylinder written.key.h)
      change_keeps_keys =
          subst (KeepsOtherKeys track written.key) (sym is.cut.has) (other_keys track written.key row row_keeps.regular row_places)

    -- if the whole window was written, what was written is there, and nothing else under its key
    module _ (whole : IsWholeChange written change) where
      row_found : LookAt row change.place written.key.n (Found written.deleted (window_place change.place + 256))
      row_found =
          cuts.cut_found track change.place written.key written.deleted written.content change.words (spaced_from track c h regular)
          field_for fits.bytes whole

      row_content : written.content ≡ content_at row (window_place change.place + 256) written.key.n
      row_content =
          cuts.cut_content track change.place written.key written.deleted written.content change.words (spaced_from track c h regular)
          field_for fits.bytes whole

      row_written : HasWritten written change.place row
      row_written =
          let address = address_in_cut track change.place change.words (window_of written) is.cuttable written.key is.address in
          let still = (row_keeps (inr whole)).regular c h regular in
          written_from written change.place row address row_found row_content
          (λ p other. still.keys.distinct p change.place written.key other address)
          (clear_address row c h change.place written.key still address)

      pub change_is_written : HasWritten written change.place (track_of after change.cylinder written.key.h)
      change_is_written = subst (HasWritten written change.place) (sym is.cut.has) row_written

  -- ---- a regular disk

  module _ (regular : IsRegularDisk disk) where
    -- the change is on the key's cylinder
    pub change_cylinder : written.key.c ≡ change.cylinder
    change_cylinder = (key_cylinder disk change.cylinder written.key.h change.place written.key regular is.track is.address).0

    module _ (fits : FitsKey written) where
      module _ (safe : IsSafeChange written disk change) where
        keeps_places : (c h : ℕ) → HasTrack disk c h → KeepsPlaces (track_of disk c h) written.key (track_of after c h)
        keeps_places =
            each_track disk after change.cylinder written.key.h row is.cut (λ c h words. KeepsPlaces (track_of disk c h) written.key words)
            (row_places change.cylinder written.key.h (regular change.cylinder written.key.h is.track) fits safe)
            (λ c h had. places_same (track_of disk c h) written.key)

        has : (c h : ℕ) → HasTrack disk c h → HasTrack after c h
        has = has_after disk after change.cylinder written.key.h row is.cut

        had : (c h : ℕ) → HasTrack after c h → HasTrack disk c h
        had = had_before disk after change.cylinder written.key.h row is.cut

        stays_regular : (c h : ℕ) → HasTrack disk c h → (b g : ℕ) → IsRegular (track_of disk c h) b g → IsRegular (track_of after c h) b g
        stays_regular =
            each_track disk after change.cylinder written.key.h row is.cut
            (λ c h words. (b g : ℕ) → IsRegular (track_of disk c h) b g → IsRegular words b g)
            (row_keeps change.cylinder written.key.h (regular change.cylinder written.key.h is.track) fits safe).regular
            (λ c h had b g same. same)

        keeps_places_back : (c h : ℕ) → HasTrack after c h → KeepsPlaces (track_of after c h) written.key (track_of disk c h)
        keeps_places_back c h there = places_back (track_of disk c h) written.key (track_of after c h) (keeps_places c h (had c h there))

        -- the other sectors stay
        pub change_keeps_sectors : KeepsSectors disk written.key after
        change_keeps_sectors = record {
          regular = λ c h there. stays_regular c h (had c h there) c h (regular c h (had c h there));
          tracks = λ c h there. other_keys (track_of disk c h) written.key (track_of after c h) (stays_regular c h there) (keeps_places c h there);
          looked = λ other look differs. (
            looked_on disk after written.key has had keeps_places other look differs,
            looked_on after disk written.key had has keeps_places_back other look differs,
          );
          entries = λ entry differs. (
            entry_on disk after written.key has had keeps_places entry differs,
            entry_on after disk written.key had has keeps_places_back entry differs,
          );
        }

      -- if the whole window was written, what was written is there, and is on the map
      module _ (whole : IsWholeChange written change) where
        pub disk_is_written : HasWritten written change.place (track_of after written.key.c written.key.h)
        disk_is_written =
            subst (λ c. HasWritten written change.place (track_of after c written.key.h)) (sym change_cylinder)
            (change_is_written change.cylinder written.key.h (regular change.cylinder written.key.h is.track) fits whole)

        pub written_on_map : IsOnMap after (entry_of written change.place)
        written_on_map =
            entry_from written change.place after
            (subst (λ c. HasTrack after c written.key.h) (sym change_cylinder)
            (has_after disk after change.cylinder written.key.h row is.cut change.cylinder written.key.h is.track))
            disk_is_written
